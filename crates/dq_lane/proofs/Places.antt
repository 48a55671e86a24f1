-- The places of a lane's steps.
use Rattle.std.proofs.Common.{◌≡◌, ℕ, zero, suc, ◌+◌, ◌-◌, ◌<◌, Bool, true, false, eqb, ◌&&◌, cond, List, [], ◌∷◌, ◌++◌, length, length-append, slice_get, Option, Some, None, refl, ap, sym, ◌∙◌, arith}
use Rattle.dq_base.specs.Scripts.{numbered}
use Rattle.dq_base.specs.declared.script.Step.{Step}
use Rattle.dq_base.specs.declared.script.Step.TheVariants as step
use Rattle.dq_journal.specs.declared.entry.Entry.{Entry}
use Rattle.dq_machine.specs.Order.{admits, publishes}
use Rattle.dq_lane.specs.Order.{named_from, place_tells, places_tell}
use Rattle.dq_lane.proofs.Limits.{both_true, numbered_next}

-- one more

pub tell_more : (journal : List Entry) (lane k : ℕ) (ss : List Step) (ps : List (Option ℕ)) (s : Step) (p : Option ℕ) → places_tell journal lane k ss ps ≡ true → slice_get ss (length ps) ≡ Some s
    → place_tells journal lane (k + length ps) s p ≡ true → places_tell journal lane k ss (ps ++ p ∷ []) ≡ true
tell_more journal lane k [] [] s p are at is = cc
tell_more journal lane k (t ∷ ss) [] s p are at is =
    let e : t ≡ s = cc in
    let n : k + 0 ≡ k = omega arith in
    let here : place_tells journal lane k t p ≡ true = rw (e, ← n) is in rw here refl
tell_more journal lane k [] (q ∷ ps) s p are at is = cc
tell_more journal lane k (t ∷ ss) (q ∷ ps) s p are at is =
    let both = both_true (place_tells journal lane k t q) (places_tell journal lane (k + 1) ss ps) are in
    let n : k + suc (length ps) ≡ k + 1 + length ps = omega arith in
    let more = tell_more journal lane (k + 1) ss ps s p both.1 at (rw (← n) is) in rw (both.0, more) refl

pub named_none : (k : ℕ) (ps : List (Option ℕ)) → named_from k (ps ++ None ∷ []) ≡ named_from k ps
named_none k [] = refl
named_none k (None ∷ ps) = named_none (k + 1) ps
named_none k (Some p ∷ ps) = ap (λ ns. k ∷ ns) (named_none (k + 1) ps)

pub named_some : (k : ℕ) (ps : List (Option ℕ)) (place : ℕ) → named_from k (ps ++ Some place ∷ []) ≡ named_from k ps ++ (k + length ps) ∷ []
named_some k [] place = let n : k + 0 ≡ k = omega arith in rw n refl
named_some k (None ∷ ps) place = let n : k + suc (length ps) ≡ k + 1 + length ps = omega arith in rw n (named_some (k + 1) ps place)
named_some k (Some p ∷ ps) place = let n : k + suc (length ps) ≡ k + 1 + length ps = omega arith in rw n (ap (λ ns. k ∷ ns) (named_some (k + 1) ps place))

-- a journal that goes on

get_on : {X : Type 0} (xs more : List X) (i : ℕ) (x : X) → slice_get xs i ≡ Some x → slice_get (xs ++ more) i ≡ Some x
get_on [] more i x at = cc
get_on (y ∷ xs) more zero x at = at
get_on (y ∷ xs) more (suc i) x at = get_on xs more i x at

numbered_if : (xs more : List Entry) (number : ℕ) (b : Bool) (e : Entry) → cond b None (slice_get xs (number - 1)) ≡ Some e → cond b None (slice_get (xs ++ more) (number - 1)) ≡ Some e
numbered_if xs more number true e at = cc
numbered_if xs more number false e at = get_on xs more (number - 1) e at

pub numbered_on : (xs more : List Entry) (number : ℕ) (e : Entry) → numbered xs number ≡ Some e → numbered (xs ++ more) number ≡ Some e
numbered_on xs more number e at = numbered_if xs more number (eqb number 0) e at

publishes_on : (xs more : List Entry) (lane number place : ℕ) (o : Option Entry) → numbered xs place ≡ o → publishes lane number o ≡ true → publishes lane number (numbered (xs ++ more) place) ≡ true
publishes_on xs more lane number place None at is = cc
publishes_on xs more lane number place (Some e) at is = rw (numbered_on xs more place e at) is

admits_on : (xs more : List Entry) (lane number place : ℕ) (o : Option Entry) → numbered xs place ≡ o → admits lane number o ≡ true → admits lane number (numbered (xs ++ more) place) ≡ true
admits_on xs more lane number place None at is = cc
admits_on xs more lane number place (Some e) at is = rw (numbered_on xs more place e at) is

one_on : (xs more : List Entry) (lane k : ℕ) (s : Step) (p : Option ℕ) → place_tells xs lane k s p ≡ true → place_tells (xs ++ more) lane k s p ≡ true
one_on xs more lane k s None is = refl
one_on xs more lane k (step.Publish source how file) (Some place) is = publishes_on xs more lane k place (numbered xs place) refl is
one_on xs more lane k (step.Batch zones) (Some place) is = admits_on xs more lane k place (numbered xs place) refl is

pub tell_on : (xs more : List Entry) (lane k : ℕ) (ss : List Step) (ps : List (Option ℕ)) → places_tell xs lane k ss ps ≡ true → places_tell (xs ++ more) lane k ss ps ≡ true
tell_on xs more lane k ss [] are = refl
tell_on xs more lane k [] (p ∷ ps) are = cc
tell_on xs more lane k (s ∷ ss) (p ∷ ps) are =
    let both = both_true (place_tells xs lane k s p) (places_tell xs lane (k + 1) ss ps) are in
    rw (one_on xs more lane k s p both.0, tell_on xs more lane (k + 1) ss ps both.1) refl

-- the last entry

get_last : (es : List Entry) (e : Entry) → slice_get (es ++ e ∷ []) (length es) ≡ Some e
get_last [] e = refl
get_last (x ∷ es) e = get_last es e

pub numbered_last : (es : List Entry) (e : Entry) → numbered (es ++ e ∷ []) (length (es ++ e ∷ [])) ≡ Some e
numbered_last es e =
    let n : length (es ++ e ∷ []) ≡ length es + 1 = omega (arith, length-append es (e ∷ [])) in
    rw n (numbered_next (es ++ e ∷ []) (length es) ∙ get_last es e)
