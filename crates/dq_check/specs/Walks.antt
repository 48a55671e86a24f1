-- What walking over a journal finds.
use Rattle.std.specs.Prelude.{◌≡◌, ℕ, true, List, [], ◌∷◌, map}
use Rattle.dq_base.specs.Scripts.{step_of, zones_of}
use Rattle.dq_base.specs.declared.query.Query.{Query}
use Rattle.dq_extract.specs.Loads.{LoadedFiles}
use Rattle.dq_journal.specs.declared.entry.Entry.{Entry}
use Rattle.dq_journal.specs.declared.entry.Entry.TheVariants.{Publish, Admit, Lease, Give, Lose, Land, Fall, Take, End}
use Rattle.dq_machine.specs.Machine.{after, legal, next}
use Rattle.dq_machine.specs.Parts.{MachineOf}
use Rattle.dq_machine.specs.Publishing.{stamp_in}
use Rattle.dq_machine.specs.State.{State, start}

-- the stamps of these queries' sources
abbrev pub stamps_of : State → List Query → List ℕ
stamps_of s zones = map (λ q. stamp_in s.versions q.source) zones

-- those of the zones of the batch that an entry admits
abbrev pub stamps_at : LoadedFiles → State → Entry → List ℕ
stamps_at l s (Publish lane number) = []
stamps_at l s (Admit lane number met) = stamps_of s (zones_of (step_of l.script.lanes lane number))
stamps_at l s (Lease lane flight link fresh) = []
stamps_at l s (Give lane flight link ran runs calls) = []
stamps_at l s (Lose lane flight link dialled ran runs calls) = []
stamps_at l s (Land lane flight cells clever literal) = []
stamps_at l s (Fall lane flight cause) = []
stamps_at l s (Take lane flight next) = []
stamps_at l s (End lane) = []

-- one list for each entry
abbrev pub stamps_from : LoadedFiles → State → List Entry → List (List ℕ)
stamps_from l s [] = []
stamps_from l s (e ∷ entries) = stamps_at l s e ∷ stamps_from l (next l s e) entries

-- the machine behind a journal, and the stamps of the zones of each batch
pub record HistoryOf : Type 0 where
  pub machine : MachineOf
  pub stamps : List (List ℕ)

-- each entry may come, and this is where they lead; the stamps of the zones of each batch are those at its entry
pub record IsLegalWalk (l : LoadedFiles) (journal : List Entry) (h : HistoryOf) : Type 0 where
  pub legal : legal l journal ≡ true
  pub machine : h.machine ≡ record { loaded = l; state = after l journal }
  pub stamps : h.stamps ≡ stamps_from l (start l) journal
