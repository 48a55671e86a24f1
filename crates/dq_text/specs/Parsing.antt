-- What parsing a text answers.
use Rattle.std.specs.Prelude.{◌≡◌, Result, Ok, Err}
use Rattle.dq_base.specs.Spelling.{Bytes}
use Rattle.dq_text.specs.Sizes.{IsSized}
use Rattle.dq_text.specs.Statements.{spelling}
use Rattle.dq_text.specs.declared.fault.TextFault.{TextFault}
use Rattle.dq_text.specs.declared.fault.TextFault.TheVariants as fault
use Rattle.dq_text.specs.declared.statement.Statement.{Statement}

-- refused exactly where no statement has that text
abbrev pub RefusedAs : Bytes → TextFault → Type 0
RefusedAs text fault.NotInGrammar = (s : Statement) → IsSized s → ¬ (spelling s ≡ text)
RefusedAs text fault.Memory = Unit {0}

-- the statement that has that text
abbrev pub ParsedAs : Bytes → Result Statement TextFault → Type 0
ParsedAs text (Ok s) = IsSized s × (spelling s ≡ text)
ParsedAs text (Err e) = RefusedAs text e
