-- Readings behind a word that is given.
use Rattle.std.proofs.Common.{◌≡◌, ◌++◌, Result, Ok, Err}
use Rattle.dq_base.specs.Spelling.{Bytes}
use Rattle.dq_reading.specs.Reading.{Reads}
use Rattle.dq_reading.specs.declared.fault.TextFault.{TextFault}
use Rattle.dq_reading.specs.declared.fault.TextFault.TheVariants as fault
use Rattle.dq_reading.proofs.Readings.{lead_read, lead_none}

-- what was read behind a word, with the word before it
pub lead_reads : {X : Type 0} (P : X → Type 0) (E : Bytes → Type 0) (f : X → Bytes) (before mid after word : Bytes) (res : Result X TextFault)
    → before ≡ word ++ mid → Reads P E f mid after res → Reads P E (λ x. word ++ f x) before after res
lead_reads P E f before mid after word (Ok x) e t = lead_read word e t
lead_reads P E f before mid after word (Err fault.NotInGrammar) e t = lead_none word e t
lead_reads P E f before mid after word (Err fault.Memory) e t = tt
