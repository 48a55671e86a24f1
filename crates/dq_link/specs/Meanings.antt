-- What a text means over what stands on a link.
use Rattle.std.specs.Prelude.{◌≡◌, List, Some, None}
use Rattle.dq_base.specs.Answers.{answer}
use Rattle.dq_base.specs.Spelling.{Bytes}
use Rattle.dq_base.specs.Validity.{first_reason}
use Rattle.dq_base.specs.declared.cell.Cell.{Cell}
use Rattle.dq_base.specs.declared.query.Query.{Query}
use Rattle.dq_text.specs.Said.{resolved}
use Rattle.dq_text.specs.Sizes.{IsSized}
use Rattle.dq_text.specs.Statements.{spelling}
use Rattle.dq_text.specs.declared.statement.Statement.{Statement}
use Rattle.dq_link.specs.Mounts.{Holdings, Mounted, Mounts}

-- the table is the answer of the text's query over the version that the text names, which is mounted, with each named list
-- standing in its table
pub record Means (mounts : Mounts) (tables : Holdings) (text : Bytes) (table : List (List Cell)) : Type 0 where
  pub statement : Statement
  pub sized : IsSized statement
  pub spelled : spelling statement ≡ text
  pub query : Query
  pub stand : resolved tables statement ≡ Some query
  pub mounted : Mounted
  pub mount : mounts statement.source ≡ Some mounted
  pub stamped : mounted.stamp ≡ statement.stamp
  pub valid : first_reason mounted.version.heading.sorts query ≡ None
  pub answered : table ≡ answer query mounted.version.rows

-- the text has a meaning
abbrev pub HasMeaning : Mounts → Holdings → Bytes → Type 0
HasMeaning mounts tables text = (table : List (List Cell)) × Means mounts tables text table
