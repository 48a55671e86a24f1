-- What stands of an extract at a place of a journal.
use Rattle.std.specs.Prelude.{ℕ, ◌-◌, List, [], ◌++◌, take, nat_eq, Option, Some, None, if◌then◌else◌}
use Rattle.std.specs.List.{fold}
use Rattle.dq_base.specs.Scripts.{step_of}
use Rattle.dq_base.specs.Versions.{Version}
use Rattle.dq_base.specs.declared.script.How.{How}
use Rattle.dq_base.specs.declared.script.How.TheVariants.{Replace, Append}
use Rattle.dq_base.specs.declared.script.Step.{Step}
use Rattle.dq_base.specs.declared.script.Step.TheVariants as step
use Rattle.dq_base.specs.declared.value.Value.{Value}
use Rattle.dq_extract.specs.Loads.{LoadedFiles, segment_of}
use Rattle.dq_journal.specs.declared.entry.Entry.{Entry}
use Rattle.dq_journal.specs.declared.entry.Entry.TheVariants.{Publish, Admit, Lease, Give, Lose, Land, Fall, Take, End}

abbrev pub Rows : Type 0
Rows = List (List Value)

-- new rows come in place of the standing ones, or behind them
abbrev pub published : How → Rows → Rows → Rows
published Replace standing new = new
published Append standing new = standing ++ new

abbrev pub version_rows : Option Version → Rows
version_rows None = []
version_rows (Some v) = v.rows

-- a source's rows after a step that brings these rows, if it publishes the source
abbrev pub after_step : ℕ → Rows → Rows → Option Step → Rows
after_step source standing new (Some (step.Publish s how file)) = if nat_eq s source then published how standing new else standing
after_step source standing new (Some (step.Batch zones)) = standing
after_step source standing new None = standing

-- a source's rows after an entry
abbrev pub after_entry : LoadedFiles → ℕ → Rows → Entry → Rows
after_entry l source standing (Publish lane step) = after_step source standing (version_rows (segment_of l lane step)) (step_of l.script.lanes lane step)
after_entry l source standing (Admit lane step met) = standing
after_entry l source standing (Lease lane flight link fresh) = standing
after_entry l source standing (Give lane flight link ran runs calls) = standing
after_entry l source standing (Lose lane flight link dialled ran runs calls) = standing
after_entry l source standing (Land lane flight cells clever literal) = standing
after_entry l source standing (Fall lane flight cause) = standing
after_entry l source standing (Take lane flight next) = standing
after_entry l source standing (End lane) = standing

-- a source's rows after some entries, from no rows
abbrev pub after_entries : LoadedFiles → ℕ → List Entry → Rows
after_entries l source entries = fold (after_entry l source) [] entries

-- a source's rows at a place of the journal, which counts from 1: those that the entries before it leave
abbrev pub stand : LoadedFiles → List Entry → ℕ → ℕ → Rows
stand l journal place source = after_entries l source (take (place - 1) journal)
