-- What the queries of a batch meet fits them.
use Rattle.std.proofs.Common.{◌≡◌, ℕ, ◌<◌, ◌≤◌, Bool, true, false, ◌&&◌, cond, eqb, List, [], ◌∷◌, ◌++◌, find, refl, ap, arith, append_assoc, append-nil}
use Rattle.std.proofs.lemmas.Bool.{eq-eqb, eqb-true}
use Rattle.std.proofs.lemmas.Bool.Decides.{nat_tests}
use Rattle.std.specs.Prelude.{Option, Some, None, fold, nat_eq}
use Rattle.dq_base.specs.Covering.{covers}
use Rattle.dq_base.specs.declared.query.Query.{Query}
use Rattle.dq_journal.specs.declared.entry.Met.{Met}
use Rattle.dq_journal.specs.declared.entry.Met.TheVariants as meet
use Rattle.dq_laws.proofs.Each.{each-found}
use Rattle.dq_laws.proofs.Numbered.{Ascend, ascend-numbers}
use Rattle.dq_machine.proofs.Reached.{and_first, and_second}
use Rattle.dq_machine.specs.Admitting.{Looked, has_cover, has_same, look, look_literal, looked, may_join, met_flight, runs, then_look}
use Rattle.dq_machine.specs.Publishing.{stamp_in}
use Rattle.dq_machine.specs.State.{Flown, Publication, Shelved, Shelves, is_numbered}
use Rattle.dq_batch.specs.Fetching.{CoversAt}
use Rattle.dq_batch.proofs.Keeps.{passes}

-- what passes is found by its number too

refound_by : (p : Flown → Bool) (high : ℕ) (x f : Flown) (flown : List Flown) (b : Bool) → Ascend x.number high flown → cond b (Some x) (find p flown) ≡ Some f
    → (find p flown ≡ Some f → find (is_numbered f.number) flown ≡ Some f) → find (is_numbered f.number) (x ∷ flown) ≡ Some f
refound_by p high x f flown true up at more =
    let same : x ≡ f = cc in
    let told : eqb x.number f.number ≡ true = eq-eqb x.number f.number (ap (λ (g : Flown). g.number) same) in
    rw told (ap (λ (g : Flown). Some g) same)
refound_by p high x f flown false up at more =
    let both = each-found (λ (g : Flown). (x.number < g.number) × (g.number ≤ high)) p flown f at (ascend-numbers x.number high flown up) in
    let lt = both.0 in
    let told : eqb x.number f.number ≡ false = grind (arith, nat_tests) in
    rw told (more at)

refound : (p : Flown → Bool) (low high : ℕ) (flown : List Flown) (f : Flown) → Ascend low high flown → find p flown ≡ Some f → find (is_numbered f.number) flown ≡ Some f
refound p low high [] f up at = let no : ⊥ = cc in absurd no
refound p low high (x ∷ flown) f up at = refound_by p high x f flown (p x) up.1 at (refound p x.number high flown f up.1)

module _ (flown : List Flown) (versions : List Publication) where
  -- a flight that was joined covers the query, and no group is met before the groups are made
  abbrev pub Fits : Query → Option Met → Type 0
  Fits q None = Unit {0}
  Fits q (Some (meet.Hit flight)) = Unit {0}
  Fits q (Some (meet.Literal flight)) = Unit {0}
  Fits q (Some (meet.Join flight)) = CoversAt versions q (find (is_numbered flight) flown)
  Fits q (Some (meet.Group flight)) = ⊥

  abbrev pub AllFit : List Query → List (Option Met) → Type 0
  AllFit [] [] = Unit {0}
  AllFit [] (f ∷ found) = ⊥
  AllFit (q ∷ queries) [] = ⊥
  AllFit (q ∷ queries) (f ∷ found) = Fits q f × AllFit queries found

  fit_push : (queries : List Query) (found : List (Option Met)) (q : Query) (f : Option Met) → AllFit queries found → Fits q f → AllFit (queries ++ q ∷ []) (found ++ f ∷ [])
  fit_push [] [] q f all one = (one, tt)
  fit_push [] (g ∷ found) q f all one = absurd all
  fit_push (p ∷ queries) [] q f all one = absurd all
  fit_push (p ∷ queries) (g ∷ found) q f all one = (all.0, fit_push queries found q f all.1 one)

  module _ (started : ℕ) (up : Ascend 0 started flown) where
    join_fits : (q : Query) (o : Option Flown) → find (may_join (stamp_in versions q.source) q) flown ≡ o → Fits q (met_flight o)
    join_fits q None at = tt
    join_fits q (Some f) at =
        let stamp : ℕ = stamp_in versions q.source in
        let may = and_second (runs f.course) (nat_eq f.stamp stamp && covers f.key q) (passes (may_join stamp q) flown f at) in
        rw (refound (may_join stamp q) 0 started flown f up at)
        (and_second (nat_eq f.stamp stamp) (covers f.key q) may, eqb-true f.stamp stamp (and_first (nat_eq f.stamp stamp) (covers f.key q) may))

    literal_fits : (q : Query) (o : Option Shelved) → Fits q (look_literal flown (stamp_in versions q.source) q o)
    literal_fits q None = join_fits q (find (may_join (stamp_in versions q.source) q) flown) refl
    literal_fits q (Some e) = tt

    look_fits : (done : List Query) (found : List (Option Met)) (q : Query) (shelves : Shelves) (o : Option Shelved) → AllFit done found
        → AllFit (done ++ q ∷ []) (found ++ (look flown (stamp_in versions q.source) q shelves o).found)
    look_fits done found q shelves None all =
        fit_push done found q (look_literal flown (stamp_in versions q.source) q (find (has_same (stamp_in versions q.source) q) shelves.literal)) all
        (literal_fits q (find (has_same (stamp_in versions q.source) q) shelves.literal))
    look_fits done found q shelves (Some e) all = fit_push done found q (Some (meet.Hit e.flight)) all tt

    all_look : (done queries : List Query) (before : Looked) → AllFit done before.found → AllFit (done ++ queries) (fold (then_look flown versions) before queries).found
    all_look done [] before all = rw (append-nil done) all
    all_look done (q ∷ queries) before all =
        rw (← append_assoc done (q ∷ []) queries)
        (all_look (done ++ q ∷ []) queries (then_look flown versions before q) (look_fits done before.found q before.shelves (find (has_cover (stamp_in versions q.source) q) before.shelves.clever) all))

    pub looked_fits : (shelves : Shelves) (queries : List Query) → AllFit queries (looked flown versions shelves queries).found
    looked_fits shelves queries = all_look [] queries (record { shelves = shelves; found = [] }) tt
