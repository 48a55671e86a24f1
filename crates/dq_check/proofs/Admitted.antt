-- What is due to the zones of an admitted batch.
use Rattle.std.proofs.Common.{◌≡◌, ◌≢◌, ℕ, zero, suc, ◌+◌, ◌-◌, Bool, true, false, ◌&&◌, eqb, List, [], ◌∷◌, map, Some, None, Option, refl, ap, sym, ◌∙◌, subst, arith, inl, inr, ◌⊎◌}
use Rattle.std.proofs.lemmas.Bool.Decides.{eqb_tells, nat_tests}
use Rattle.std.specs.Prelude.{nat_eq, slice_get, unwrap_or, if◌then◌else◌}
use Rattle.dq_base.specs.Headings.{Heading}
use Rattle.dq_base.specs.Scripts.{numbered, step_of, zones_of}
use Rattle.dq_base.specs.declared.query.Query.{Query}
use Rattle.dq_base.specs.declared.script.Step.{Step}
use Rattle.dq_base.specs.declared.script.Step.TheVariants as step
use Rattle.dq_extract.specs.Loads.{LoadedFiles}
use Rattle.dq_journal.specs.Standing.{stand}
use Rattle.dq_journal.specs.declared.entry.Met.{Met}
use Rattle.dq_journal.specs.declared.entry.Entry.{Entry}
use Rattle.dq_journal.specs.declared.entry.Entry.TheVariants.{Publish, Admit, Lease, Give, Lose, Land, Fall, Take, End}
use Rattle.dq_machine.specs.Machine.{after}
use Rattle.dq_machine.specs.Order.{admits}
use Rattle.dq_machine.specs.Owning.{Origin, met_in, origins, origins_met}
use Rattle.dq_machine.specs.Publishing.{rows_at, stamp_in}
use Rattle.dq_machine.specs.State.{Publication, State, start}
use Rattle.dq_check.specs.Dues.{DueOf, dues_of}
use Rattle.dq_check.specs.Grounds.{AreGrounds}
use Rattle.dq_check.specs.declared.grounds.Grounds.{Grounds}
use Rattle.dq_check.specs.Owed.{AreOwed}
use Rattle.dq_check.specs.declared.losses.Losses.{Losses}
use Rattle.dq_check.specs.Takes.{AreTakes, TakesOf, behind_of}
use Rattle.dq_check.specs.Walks.{stamps_from}
use Rattle.dq_check.proofs.Owes.{owed_dues}
use Rattle.dq_check.proofs.Walked.{admitted_stamps, before, stamps_lead}

-- the batch's entry

both : (a b : Bool) → (a && b) ≡ true → (a ≡ true) × (b ≡ true)
both true b h = (refl, h)
both false b h = cc

same_number : (a b : ℕ) → nat_eq a b ≡ true → a ≡ b
same_number a b h = by (eqb_tells a b)
  where
    by : ((eqb a b ≡ true) × (a ≡ b)) ⊎ ((eqb a b ≡ false) × (a ≢ b)) → a ≡ b
    by (inl (told, same)) = same
    by (inr (told, apart)) = let no : true ≡ false = sym h ∙ told in cc

admitted_entry : (lane number : ℕ) (o : Option Entry) → admits lane number o ≡ true → (met : List Met) × (o ≡ Some (Admit lane number met))
admitted_entry lane number None h = cc
admitted_entry lane number (Some (Publish a b)) h = cc
admitted_entry lane number (Some (Admit a b met)) h =
    let p = both (nat_eq a lane) (nat_eq b number) h in
    let first = same_number a lane p.0 in
    let second = same_number b number p.1 in
    (met, ap (λ x. Some (Admit x b met)) first ∙ ap (λ x. Some (Admit lane x met)) second)
admitted_entry lane number (Some (Lease a flight link fresh)) h = cc
admitted_entry lane number (Some (Give a flight link ran runs calls)) h = cc
admitted_entry lane number (Some (Lose a flight link dialled ran runs calls)) h = cc
admitted_entry lane number (Some (Land a flight cells clever literal)) h = cc
admitted_entry lane number (Some (Fall a flight cause)) h = cc
admitted_entry lane number (Some (Take a flight next)) h = cc
admitted_entry lane number (Some (End a)) h = cc

-- an item by its number is one by its place
numbered_some : {X : Type 0} (items : List X) (number : ℕ) (x : X) → numbered items number ≡ Some x → (nat_eq number 0 ≡ false) × (slice_get items (number - 1) ≡ Some x)
numbered_some items number x h = by (nat_eq number 0) refl h
  where
    by : (b : Bool) → nat_eq number 0 ≡ b → (if b then None else slice_get items (number - 1)) ≡ Some x → (nat_eq number 0 ≡ false) × (slice_get items (number - 1) ≡ Some x)
    by true told e = cc
    by false told e = (told, e)

by_number : {X : Type 0} (items : List X) (number : ℕ) (x : X) → nat_eq number 0 ≡ false → slice_get items (number - 1) ≡ Some x → numbered items number ≡ Some x
by_number items number x told e = ap (λ b. if b then None else slice_get items (number - 1)) told ∙ e

stamps_are : (l : LoadedFiles) (journal : List Entry) (lane number place : ℕ) (zones : List Query) (stamps : List (List ℕ))
    → admits lane number (numbered journal place) ≡ true → step_of l.script.lanes lane number ≡ Some (step.Batch zones) → stamps ≡ stamps_from l (start l) journal
    → unwrap_or (numbered stamps place) [] ≡ map (λ q. stamp_in (before l journal place).versions q.source) zones
stamps_are l journal lane number place zones stamps entry step all =
    let found = admitted_entry lane number (numbered journal place) entry in
    let at = numbered_some journal place (Admit lane number found.0) found.1 in
    let told = admitted_stamps l journal place lane number found.0 at.1 in
    let item = by_number stamps place _ at.0 (ap (λ ss. slice_get ss (place - 1)) all ∙ told) in
    ap (λ o. unwrap_or o []) item ∙ ap (λ o. map (λ q. stamp_in (before l journal place).versions q.source) (zones_of o)) step

pub admitted_owed : (l : LoadedFiles) (journal : List Entry) (g : Grounds) (t : TakesOf) (lane number place : ℕ) (zones : List Query) (os : List Origin) (stamps : List ℕ) (dues : List DueOf)
    → AreGrounds l journal g → AreTakes lane journal t → admits lane number (numbered journal place) ≡ true → step_of l.script.lanes lane number ≡ Some (step.Batch zones)
    → os ≡ origins_met l.script.schemas zones (met_in (numbered journal place)) (behind_of t place) → stamps ≡ unwrap_or (numbered g.history.stamps place) []
    → AreOwed l.script.schemas g.history.machine.state.versions g.losses os stamps zones dues
    → dues ≡ dues_of l.script.schemas (stand l journal place) journal zones (origins l.script.schemas journal lane place zones)
admitted_owed l journal g t lane number place zones os stamps dues grounds takes entry step met told owed =
    let stamps_is = told ∙ stamps_are l journal lane number place zones g.history.stamps entry step grounds.walk.stamps in
    let at_stamps = subst (λ ss. AreOwed l.script.schemas g.history.machine.state.versions g.losses os ss zones dues) stamps_is owed in
    let made = owed_dues l.script.schemas g.history.machine.state.versions (before l journal place).versions (stand l journal place) journal g.losses grounds.losses
    (λ source. ap (λ m. rows_at m.state.versions (stamp_in (before l journal place).versions source)) grounds.walk.machine ∙ stamps_lead l journal place source)
    os zones dues at_stamps in
    made ∙ ap (dues_of l.script.schemas (stand l journal place) journal zones) (met ∙ ap (origins_met l.script.schemas zones (met_in (numbered journal place))) (takes place))

-- the same of what the calls told
pub admitted_told : (l : LoadedFiles) (journal : List Entry) (g : Grounds) (t : TakesOf) (lane number place : ℕ) (zones : List Query) (os : List Origin) (stamps : List ℕ) (dues : List DueOf)
    (schemas : List Heading) (versions : List Publication) (losses : Losses) (met : List Met) (behind : List (Option ℕ)) (over : List Query)
    → AreGrounds l journal g → AreTakes lane journal t → admits lane number (numbered journal place) ≡ true → step_of l.script.lanes lane number ≡ Some (step.Batch zones)
    → schemas ≡ l.script.schemas → versions ≡ g.history.machine.state.versions → losses ≡ g.losses → met ≡ met_in (numbered journal place) → behind ≡ behind_of t place → over ≡ zones
    → os ≡ origins_met schemas zones met behind → stamps ≡ unwrap_or (numbered g.history.stamps place) [] → AreOwed schemas versions losses os stamps over dues
    → dues ≡ dues_of l.script.schemas (stand l journal place) journal zones (origins l.script.schemas journal lane place zones)
admitted_told l journal g t lane number place zones os stamps dues schemas versions losses met behind over grounds takes entry step schemas_is versions_is losses_is met_is behind_is over_is os_is stamps_is owed =
    admitted_owed l journal g t lane number place zones os stamps dues grounds takes entry step (rw (schemas_is, met_is, behind_is) at os_is) stamps_is
    (rw (schemas_is, versions_is, losses_is, over_is) at owed)
