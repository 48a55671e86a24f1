-- Where no link was lost and no dial failed, the journal tells of none.
use Rattle.std.proofs.Common.{◌≡◌, ℕ, ◌+◌, ◌≤◌, Bool, true, false, nat_eq, List, [], ◌∷◌, length, map, refl, subst, arith}
use Rattle.std.proofs.lemmas.Grind.{common_steps}
use Rattle.std.proofs.lemmas.List.Elements.{All-head, All-tail}
use Rattle.std.specs.Prelude.{All}
use Rattle.std.specs.List.{list_all}
use Rattle.dq_base.specs.Scripts.{is_lane}
use Rattle.dq_base.specs.declared.script.Fails.{Fails}
use Rattle.dq_base.specs.declared.script.Step.{Step}
use Rattle.dq_extract.specs.Loads.{LoadedFiles}
use Rattle.dq_fates.specs.Dials.{is_undialled, lost_dials}
use Rattle.dq_journal.specs.declared.entry.Entry.{Entry}
use Rattle.dq_journal.specs.declared.entry.Entry.TheVariants.{Publish, Admit, Lease, Give, Lose, Land, Fall, Take, End}
use Rattle.dq_journal.specs.declared.result.StepResult.{StepResult}
use Rattle.dq_link.specs.Views.{LostLink}
use Rattle.dq_machine.proofs.Reached.{and_first, and_second}
use Rattle.dq_machine.specs.Order.{is_known, lanes_keep}
use Rattle.dq_machine.specs.Right.{IsRight}
use Rattle.dq_rehearse.specs.Dialled.{AreDialled}
use Rattle.dq_desk.specs.Links.{AreWrecks, Loss, losses}
use Rattle.dq_trial.specs.Links.{LinkTells}
use Rattle.dq_top.proofs.Refused.{IsCalm}

-- no wreck, no loss
no_loss : {L : Type 0} (tells : LinkTells L) (fails : List Fails) (ks : List Loss) → AreWrecks tells fails ks [] → ks ≡ []
no_loss tells fails [] are = refl
no_loss tells fails (k ∷ ks) are = absurd are

-- no dialer with a fault, no dial that failed
no_dial : {D : Type 0} (faults : D → ℕ) (l : LoadedFiles) (journal : List Entry) (lane : ℕ) (dialers : List D) → AreDialled l journal lane (map faults dialers) → All (λ d. faults d ≡ 0) dialers
    → (n : ℕ) → lane ≤ n → n ≤ length l.script.lanes → lost_dials n journal ≡ 0
no_dial faults l journal lane [] are none n from to = absurd (omega (arith, are, from, to))
no_dial faults l journal lane (d ∷ dialers) are none n from to =
    by_place (nat_eq lane n) refl (λ later. no_dial faults l journal (lane + 1) dialers are.1 (All-tail (λ x. faults x ≡ 0) d dialers none) n later to)
  where
    by_place : (b : Bool) → nat_eq lane n ≡ b → (lane + 1 ≤ n → lost_dials n journal ≡ 0) → lost_dials n journal ≡ 0
    by_place true is others =
        let same : lane ≡ n = grind (arith, common_steps, is) in
        let few : lost_dials lane journal ≤ 0 = subst (λ f. lost_dials lane journal ≤ f) (All-head (λ x. faults x ≡ 0) d dialers none) are.0 in
        let zero : lost_dials lane journal ≡ 0 = omega (arith, few) in
        subst (λ k. lost_dials k journal ≡ 0) same zero
    by_place false is others = others (grind (arith, common_steps, is, from))

abbrev NoDials : List (List Step) → List Entry → Type 0
NoDials lanes journal = (lane : ℕ) → is_lane (length lanes) lane ≡ true → lost_dials lane journal ≡ 0

-- of the entries behind
later_dials : (lanes : List (List Step)) (e : Entry) (es : List Entry) → NoDials lanes (e ∷ es) → NoDials lanes es
later_dials lanes e es none lane is = by_kind (is_undialled lane e) refl
  where
    by_kind : (b : Bool) → is_undialled lane e ≡ b → lost_dials lane es ≡ 0
    by_kind true kind = let h : lost_dials lane (e ∷ es) ≡ 0 = none lane is in cc (h, kind)
    by_kind false kind = let h : lost_dials lane (e ∷ es) ≡ 0 = none lane is in rw kind at h

pub calm : (lanes : List (List Step)) (journal : List Entry) → list_all (is_known lanes) journal ≡ true → losses journal ≡ [] → NoDials lanes journal → IsCalm journal
calm lanes [] known lost none flight = refl
calm lanes (Publish lane step ∷ es) known lost none flight = calm lanes es (and_second (is_known lanes (Publish lane step)) (list_all (is_known lanes) es) known) lost (later_dials lanes (Publish lane step) es none) flight
calm lanes (Admit lane step met ∷ es) known lost none flight = calm lanes es (and_second (is_known lanes (Admit lane step met)) (list_all (is_known lanes) es) known) lost (later_dials lanes (Admit lane step met) es none) flight
calm lanes (Lease lane f link fresh ∷ es) known lost none flight = calm lanes es (and_second (is_known lanes (Lease lane f link fresh)) (list_all (is_known lanes) es) known) lost (later_dials lanes (Lease lane f link fresh) es none) flight
calm lanes (Give lane f link ran runs calls ∷ es) known lost none flight = calm lanes es (and_second (is_known lanes (Give lane f link ran runs calls)) (list_all (is_known lanes) es) known) lost (later_dials lanes (Give lane f link ran runs calls) es none) flight
calm lanes (Lose lane f link true ran runs calls ∷ es) known lost none flight = absurd (cc lost)
calm lanes (Lose lane f link false ran runs calls ∷ es) known lost none flight =
    let first : is_known lanes (Lose lane f link false ran runs calls) ≡ true = and_first (is_known lanes (Lose lane f link false ran runs calls)) (list_all (is_known lanes) es) known in
    let is : is_lane (length lanes) lane ≡ true = and_first (is_lane (length lanes) lane) true first in
    let zero : lost_dials lane (Lose lane f link false ran runs calls ∷ es) ≡ 0 = none lane is in
    let own : is_undialled lane (Lose lane f link false ran runs calls) ≡ true = grind (arith, common_steps) in
    absurd (cc (zero, own))
calm lanes (Land lane f cells clever literal ∷ es) known lost none flight = calm lanes es (and_second (is_known lanes (Land lane f cells clever literal)) (list_all (is_known lanes) es) known) lost (later_dials lanes (Land lane f cells clever literal) es none) flight
calm lanes (Fall lane f cause ∷ es) known lost none flight = calm lanes es (and_second (is_known lanes (Fall lane f cause)) (list_all (is_known lanes) es) known) lost (later_dials lanes (Fall lane f cause) es none) flight
calm lanes (Take lane f next ∷ es) known lost none flight = calm lanes es (and_second (is_known lanes (Take lane f next)) (list_all (is_known lanes) es) known) lost (later_dials lanes (Take lane f next) es none) flight
calm lanes (End lane ∷ es) known lost none flight = calm lanes es (and_second (is_known lanes (End lane)) (list_all (is_known lanes) es) known) lost (later_dials lanes (End lane) es none) flight

-- where something was loaded
pub calm_run : {L D : Type 0} (tells : LinkTells L) (faults : D → ℕ) (l : LoadedFiles) (journal : List Entry) (results : List (List StepResult)) (wrecks : List (LostLink L)) (dialers : List D)
    → IsRight l journal results → AreWrecks tells l.script.fails (losses journal) wrecks → AreDialled l journal 1 (map faults dialers)
    → wrecks ≡ [] → All (λ d. faults d ≡ 0) dialers → IsCalm journal
calm_run tells faults l journal results wrecks dialers right lost dialled none calls =
    let no = no_loss tells l.script.fails (losses journal) (subst (AreWrecks tells l.script.fails (losses journal)) none lost) in
    let known : list_all (is_known l.script.lanes) journal ≡ true = and_second (lanes_keep journal 1 l.script.lanes results) (list_all (is_known l.script.lanes) journal) right.order in
    calm l.script.lanes journal known no
    (λ lane is. no_dial faults l journal 1 dialers dialled calls lane (grind (arith, common_steps, is)) (grind (arith, common_steps, is)))
