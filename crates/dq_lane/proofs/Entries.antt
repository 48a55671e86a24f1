-- The entries of a lane in a journal.
use Rattle.std.proofs.Common.{◌≡◌, ◌≢◌, ℕ, ◌+◌, ◌-◌, ◌<◌, ◌≤◌, Bool, true, false, eqb, ◌||◌, List, [], ◌∷◌, ◌++◌, refl, ◌∙◌, arith, append-nil}
use Rattle.std.proofs.lemmas.Bool.{eq-eqb}
use Rattle.std.proofs.lemmas.Grind.{common_steps, flat_map-append}
use Rattle.std.proofs.lemmas.List.Elements.{filter-append}
use Rattle.std.proofs.lemmas.List.Folds.{list_any-append}
use Rattle.std.specs.List.{flat_map, list_any}
use Rattle.dq_journal.specs.Journals.{lane_of}
use Rattle.dq_journal.specs.Steps.{entries_of, is_end, step_in}
use Rattle.dq_journal.specs.declared.entry.Entry.{Entry}
use Rattle.dq_journal.specs.declared.entry.Entry.TheVariants.{End}
use Rattle.dq_machine.specs.Order.{ends_once}

pub entries_own : (lane : ℕ) (es : List Entry) (e : Entry) → lane_of e ≡ lane → entries_of lane (es ++ e ∷ []) ≡ entries_of lane es ++ e ∷ []
entries_own lane es e own = rw (filter-append (λ x. eqb (lane_of x) lane) es (e ∷ []), own, eq-eqb lane lane refl) refl

pub steps_own : (lane : ℕ) (es : List Entry) (e : Entry) → lane_of e ≡ lane → flat_map step_in (entries_of lane (es ++ e ∷ [])) ≡ flat_map step_in (entries_of lane es) ++ step_in e
steps_own lane es e own = rw (entries_own lane es e own, flat_map-append step_in (entries_of lane es) (e ∷ []), append-nil (step_in e)) refl

pub no_end_own : (lane : ℕ) (es : List Entry) (e : Entry) → lane_of e ≡ lane → is_end e ≡ false → list_any is_end (entries_of lane es) ≡ false → list_any is_end (entries_of lane (es ++ e ∷ [])) ≡ false
no_end_own lane es e own going h = rw (entries_own lane es e own, list_any-append is_end (entries_of lane es) (e ∷ []), h, going) refl

either_false : (a b : Bool) → (a || b) ≡ false → (a ≡ false) × (b ≡ false)
either_false true b e = cc
either_false false b e = (refl, e)

ends_behind : (lane : ℕ) (es : List Entry) → list_any is_end es ≡ false → ends_once (es ++ End lane ∷ []) ≡ true
ends_behind lane [] h = refl
ends_behind lane (e ∷ es) h = let none = either_false (is_end e) (list_any is_end es) h in rw none.0 (ends_behind lane es none.1)

pub ends_own : (lane : ℕ) (es : List Entry) → list_any is_end (entries_of lane es) ≡ false → ends_once (entries_of lane (es ++ End lane ∷ [])) ≡ true
ends_own lane es h = rw (entries_own lane es (End lane) refl) (ends_behind lane (entries_of lane es) h)
