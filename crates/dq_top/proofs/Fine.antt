-- What is told of a run.
use Rattle.std.proofs.Common.{◌≡◌, ℕ, List, [], map, Some, None, Option, Bool, true, false, refl, sym, ap, ◌∙◌, length, inl, inr, subst, arith}
use Rattle.std.proofs.lemmas.List.{take_all}
use Rattle.std.specs.Arc.{arc_value}
use Rattle.std.specs.Prelude.{All, Result, Ok, Err, OnOk, OnErr, IfSome, ⊤}
use Rattle.std.specs.declared.alloc.Global.{Global}
use Rattle.std.specs.declared.sync.Arc.{Arc}
use Rattle.dq_extract.specs.Loads.{LoadedFiles}
use Rattle.dq_base.specs.Causes.{Rose}
use Rattle.dq_outside.specs.Reads.{Files}
use Rattle.dq_outside.specs.Writes.{appended, WritesPrefix}
use Rattle.dq_journal.specs.Shown.{Shown}
use Rattle.dq_journal.specs.declared.entry.Entry.{Entry}
use Rattle.dq_journal.specs.declared.result.StepResult.{StepResult}
use Rattle.dq_link.specs.Views.{LostLink}
use Rattle.dq_machine.specs.Right.{IsRight}
use Rattle.dq_report.specs.Faults.{CountsFaults}
use Rattle.dq_report.specs.declared.writing.WriteFault.{WriteFault}
use Rattle.dq_report.specs.declared.writing.WriteFault.TheVariants as write
use Rattle.dq_top.specs.Loading.{Loads, loaded_of}
use Rattle.dq_top.specs.Outcomes.{any_invalid, any_refused, any_wanting, loaded_files, status_of, told_of_write, AnswersFiles, AreLost, AreRight, HaveDialled, IsOfPlay, IsServed, IsWhole, Writes}
use Rattle.dq_top.specs.declared.fault.Fault.{Fault}
use Rattle.dq_top.specs.declared.fault.Fault.TheVariants as fault
use Rattle.dq_trial.specs.Links.{LinkTells}
use Rattle.dq_top.proofs.Blended.{shown_refused}
use Rattle.dq_top.proofs.Calm.{calm_run}
use Rattle.dq_top.proofs.Refused.{IsCalm, refused_invalid}

-- what a write leaves, by what is told of it
writes_by : (before now : Option (List ℕ)) (report : List ℕ) (l : LoadedFiles) (wanting : Bool) (wrote : Result ⊤ WriteFault)
    → OnOk wrote (now ≡ appended before report) → OnErr wrote (WritesPrefix before now report) → Writes before now report (Some l) (told_of_write wanting wrote)
writes_by before now report l true (Ok u) whole some = (length report, whole ∙ ap (appended before) (sym (take_all (length report) report (omega arith))))
writes_by before now report l false (Ok u) whole some = whole
writes_by before now report l wanting (Err write.Failed) whole some = some
writes_by before now report l wanting (Err write.Memory) whole some = some

pub writes_told : (before now : Option (List ℕ)) (report : List ℕ) (l : LoadedFiles) (wanting : Bool) (wrote : Result ⊤ WriteFault) (told : Option Fault)
    → told ≡ told_of_write wanting wrote → OnOk wrote (now ≡ appended before report) → OnErr wrote (WritesPrefix before now report) → Writes before now report (Some l) told
writes_told before now report l wanting wrote told tells whole some = rw tells (writes_by before now report l wanting wrote whole some)

-- what is told of a write

whole_by : (l : LoadedFiles) (wanting : Bool) (wrote : Result ⊤ WriteFault) → IsWhole (told_of_write wanting wrote) (Some l)
whole_by l true (Ok u) = tt
whole_by l false (Ok u) = (l, refl)
whole_by l wanting (Err write.Failed) = (l, refl)
whole_by l wanting (Err write.Memory) = tt

pub whole_told : (l : LoadedFiles) (wanting : Bool) (wrote : Result ⊤ WriteFault) (told : Option Fault) → told ≡ told_of_write wanting wrote → IsWhole told (Some l)
whole_told l wanting wrote told tells = rw tells (whole_by l wanting wrote)

none_by : (wanting : Bool) (wrote : Result ⊤ WriteFault) → told_of_write wanting wrote ≡ None → wanting ≡ false
none_by true (Ok u) h = cc
none_by true (Err write.Failed) h = cc
none_by true (Err write.Memory) h = cc
none_by false wrote h = refl

pub none_told : (wanting : Bool) (wrote : Result ⊤ WriteFault) (told : Option Fault) → told ≡ told_of_write wanting wrote → told ≡ None → wanting ≡ false
none_told wanting wrote told tells none = none_by wanting wrote (sym tells ∙ none)

cause_by : (before now : ℕ) (wanting : Bool) (wrote : Result ⊤ WriteFault) → CountsFaults before now wrote → told_of_write wanting wrote ≡ Some fault.Write → Rose before now
cause_by before now true (Ok u) counts h = absurd (cc)
cause_by before now false (Ok u) counts h = absurd (cc)
cause_by before now wanting (Err write.Failed) counts h = counts.failed refl
cause_by before now wanting (Err write.Memory) counts h = absurd (cc)

pub cause_told : (before now : ℕ) (wanting : Bool) (wrote : Result ⊤ WriteFault) (told : Option Fault)
    → told ≡ told_of_write wanting wrote → CountsFaults before now wrote → told ≡ Some fault.Write → Rose before now
cause_told before now wanting wrote told tells counts is = cause_by before now wanting wrote counts (sym tells ∙ is)

-- a file loads to one thing
pub loaded_is : (held : Option Files) (files : Files) (named name : List ℕ) (l m : LoadedFiles)
    → held ≡ Some files → Some named ≡ Some name → loaded_of files name ≡ Loads l → IfSome held (λ fs. loaded_of fs named ≡ Loads m) → m ≡ l
loaded_is held files named name l m holds words loads is =
    let Held : Option Files → Type 0 = λ h. IfSome h (λ fs. loaded_of fs named ≡ Loads m) in
    let own : loaded_of files named ≡ Loads m = subst Held holds is in
    let same : named ≡ name = cc in
    let Named : List ℕ → Type 0 = λ n. loaded_of files n ≡ Loads m in
    let both : Loads m ≡ Loads l = sym (subst Named same own) ∙ loads in
    cc

-- what was loaded is what the files load to
pub loaded_told : (held : Option Files) (named : Option (List ℕ)) (name : List ℕ) (l : LoadedFiles) (loaded : Option (Arc LoadedFiles Global))
    → named ≡ Some name → IfSome held (λ files. loaded_of files name ≡ Loads l) → IfSome loaded (λ owner. arc_value owner ≡ l)
    → IfSome loaded (λ owner. IfSome held (λ files. IfSome named (λ n. loaded_of files n ≡ Loads (arc_value owner))))
loaded_told held named name l None is told own = tt
loaded_told None named name l (Some owner) is told own = tt
loaded_told (Some files) named name l (Some owner) is told own = rw (is, own) told

files_by : (files : Files) (name : List ℕ) (l : LoadedFiles) (told : Option Fault) → loaded_of files name ≡ Loads l → IsOfPlay told → AnswersFiles files name told
files_by files name l None loads of = (l, loads)
files_by files name l (Some fault.Usage) loads of = absurd of
files_by files name l (Some (fault.Read n)) loads of = absurd of
files_by files name l (Some (fault.Script n f)) loads of = absurd of
files_by files name l (Some (fault.File n f)) loads of = absurd of
files_by files name l (Some fault.Write) loads of = (l, loads)
files_by files name l (Some fault.Memory) loads of = tt
files_by files name l (Some (fault.Limit which value)) loads of = absurd of

-- what is told of a run over what the files load to
pub files_told : (held : Option Files) (named : Option (List ℕ)) (name : List ℕ) (l : LoadedFiles) (told : Option Fault)
    → named ≡ Some name → IfSome held (λ files. loaded_of files name ≡ Loads l) → IsOfPlay told
    → IfSome held (λ files. IfSome named (λ n. AnswersFiles files n told))
files_told None named name l told is loads of = tt
files_told (Some files) named name l told is loads of = rw is (files_by files name l told loads of)

-- the status of what is shown of right results
served_by : (l m : LoadedFiles) (journal : List Entry) (results shown : List (List StepResult)) (status : ℕ)
    → IsCalm journal → IsRight m journal results → Shown m results shown → m ≡ l → any_wanting shown ≡ false → status ≡ status_of None shown → IsServed (any_invalid l.script) status
served_by l m journal results shown status calm right shows same quiet is =
    let refused : any_refused results ≡ any_invalid l.script = refused_invalid l journal results calm (subst (λ k. IsRight k journal results) same right) in
    let told : any_refused shown ≡ any_invalid l.script = shown_refused m results shown shows quiet ∙ refused in
    inl (rw (← told) is)

module _ {L D : Type 0} where
  -- where something was loaded
  served_over : (tells : LinkTells L) (faults : D → ℕ) (l : LoadedFiles) (loaded : Option (Arc LoadedFiles Global)) (journal : List Entry) (results shown : List (List StepResult)) (wrecks : List (LostLink L)) (dialers : List D) (status : ℕ)
      → IsWhole None (loaded_files loaded) → IfSome loaded (λ owner. arc_value owner ≡ l) → AreRight (loaded_files loaded) journal results shown
      → AreLost tells (loaded_files loaded) journal wrecks → HaveDialled (loaded_files loaded) journal (map faults dialers) → wrecks ≡ [] → All (λ d. faults d ≡ 0) dialers
      → any_wanting shown ≡ false → status ≡ status_of None shown → IsServed (any_invalid l.script) status
  served_over tells faults l None journal results shown wrecks dialers status whole own right lost dialled none calls quiet is = absurd (cc)
  served_over tells faults l (Some owner) journal results shown wrecks dialers status whole own right lost dialled none calls quiet is =
      served_by l (arc_value owner) journal results shown status (calm_run tells faults (arc_value owner) journal results wrecks dialers right.1 lost dialled none calls) right.1 right.2 own quiet is

  -- a run in which no link or dial failed is answered, but for want of memory
  pub all_answered : (tells : LinkTells L) (faults : D → ℕ) (l : LoadedFiles) (told : Option Fault) (loaded : Option (Arc LoadedFiles Global)) (journal : List Entry) (results shown : List (List StepResult)) (wrecks : List (LostLink L)) (dialers : List D) (status before now : ℕ)
      → IsOfPlay told → IsWhole told (loaded_files loaded) → IfSome loaded (λ owner. arc_value owner ≡ l) → AreRight (loaded_files loaded) journal results shown
      → AreLost tells (loaded_files loaded) journal wrecks → HaveDialled (loaded_files loaded) journal (map faults dialers) → wrecks ≡ [] → All (λ d. faults d ≡ 0) dialers
      → status ≡ status_of told shown → (told ≡ None → any_wanting shown ≡ false) → (told ≡ Some fault.Write → Rose before now) → ¬ Rose before now → IsServed (any_invalid l.script) status
  all_answered tells faults l None loaded journal results shown wrecks dialers status before now of whole own right lost dialled none calls is quiet cause still =
      served_over tells faults l loaded journal results shown wrecks dialers status whole own right lost dialled none calls (quiet refl) is
  all_answered tells faults l (Some fault.Usage) loaded journal results shown wrecks dialers status before now of whole own right lost dialled none calls is quiet cause still = absurd of
  all_answered tells faults l (Some (fault.Read name)) loaded journal results shown wrecks dialers status before now of whole own right lost dialled none calls is quiet cause still = absurd of
  all_answered tells faults l (Some (fault.Script name f)) loaded journal results shown wrecks dialers status before now of whole own right lost dialled none calls is quiet cause still = absurd of
  all_answered tells faults l (Some (fault.File name f)) loaded journal results shown wrecks dialers status before now of whole own right lost dialled none calls is quiet cause still = absurd of
  all_answered tells faults l (Some fault.Write) loaded journal results shown wrecks dialers status before now of whole own right lost dialled none calls is quiet cause still = absurd (still (cause refl))
  all_answered tells faults l (Some fault.Memory) loaded journal results shown wrecks dialers status before now of whole own right lost dialled none calls is quiet cause still = inr is
  all_answered tells faults l (Some (fault.Limit which value)) loaded journal results shown wrecks dialers status before now of whole own right lost dialled none calls is quiet cause still = absurd of
