-- Where blends begin, from one more on.
use Rattle.std.proofs.Common.{◌≡◌, ℕ, suc, ◌+◌, ◌-◌, ◌<◌, ◌≤◌, Bool, true, false, ◌&&◌, cond, List, ◌∷◌, length, drop, get_or, refl, sym, ap, ◌∙◌, subst, drop-cons, add-one, arith}
use Rattle.std.proofs.lemmas.Bool.{cases_Bool}
use Rattle.std.proofs.lemmas.Bool.Decides.{nat_tests}
use Rattle.std.specs.Prelude.{nat_eq, slice_get, Option, Some, None, option_and_then, if◌then◌else◌}
use Rattle.std.specs.List.{find}
use Rattle.std.specs.BTreeMap.{is_at}
use Rattle.std.specs.Map.{lookup}
use Rattle.std.specs.declared.cmp.Ordering.{Ordering}
use Rattle.std.specs.declared.cmp.Ordering.TheVariants.{Less, Equal, Greater}
use Rattle.std.specs.Ordering.{is_eq, nat_cmp, ordering_then}
use Rattle.dq_base.specs.declared.script.Blend.{Blend}
use Rattle.dq_journal.specs.Shown.{begins_at}
use Rattle.dq_shown.specs.Showing.{LeadFrom, Start, start_cmp, start_of}

eq_then : (r s : Ordering) → is_eq (ordering_then r s) ≡ (is_eq r && is_eq s)
eq_then Less s = refl
eq_then Equal s = refl
eq_then Greater s = refl

eq_nat : (m n : ℕ) → is_eq (nat_cmp m n) ≡ nat_eq m n
eq_nat m n = grind (arith, nat_tests)

-- a blend is found at a start exactly where it begins there
begins : (b : Blend) (s : Start) → is_eq (start_cmp (start_of b) s) ≡ begins_at s.0 s.1 s.2 b
begins b s =
    eq_then (ordering_then (nat_cmp b.lane s.0) (nat_cmp b.step s.1)) (nat_cmp b.zone s.2)
    ∙ ap (λ x. x && is_eq (nat_cmp b.zone s.2)) (eq_then (nat_cmp b.lane s.0) (nat_cmp b.step s.1))
    ∙ ap (λ x. x && is_eq (nat_cmp b.step s.1) && is_eq (nat_cmp b.zone s.2)) (eq_nat b.lane s.0)
    ∙ ap (λ x. nat_eq b.lane s.0 && x && is_eq (nat_cmp b.zone s.2)) (eq_nat b.step s.1)
    ∙ ap (λ x. nat_eq b.lane s.0 && nat_eq b.step s.1 && x) (eq_nat b.zone s.2)

first_by : (blends : List Blend) (place : ℕ) (b : Blend) (here : Bool) (old : Option ℕ) (later : Option Blend) → slice_get blends place ≡ Some b
    → option_and_then (slice_get blends) old ≡ later → option_and_then (slice_get blends) (cond here (Some place) old) ≡ (if here then Some b else later)
first_by blends place b true old later at more = at
first_by blends place b false old later at more = more

pub lead_more : (blends : List Blend) (place : ℕ) (b : Blend) (old new : List (Start × ℕ)) → slice_get blends place ≡ Some b → drop place blends ≡ b ∷ drop (place + 1) blends
    → ((s : Start) → lookup (is_at (start_cmp s)) new ≡ cond (is_at (start_cmp (start_of b)) s) (Some place) (lookup (is_at (start_cmp s)) old))
    → LeadFrom (place + 1) blends old → LeadFrom place blends new
lead_more blends place b old new at rest put lead = λ s.
    ap (option_and_then (slice_get blends)) (put s)
    ∙ ap (λ here. option_and_then (slice_get blends) (cond here (Some place) (lookup (is_at (start_cmp s)) old))) (begins b s)
    ∙ first_by blends place b (begins_at s.0 s.1 s.2 b) (lookup (is_at (start_cmp s)) old) (find (begins_at s.0 s.1 s.2) (drop (place + 1) blends)) at (lead s)
    ∙ ap (find (begins_at s.0 s.1 s.2)) (sym rest)
