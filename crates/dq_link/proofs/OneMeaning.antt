-- A text has at most one meaning.
use Rattle.std.proofs.Common.{◌≡◌, List, Some, sym, ◌∙◌, ap}
use Rattle.dq_base.specs.Answers.{answer}
use Rattle.dq_base.specs.Spelling.{Bytes}
use Rattle.dq_base.specs.declared.cell.Cell.{Cell}
use Rattle.dq_base.specs.declared.query.Query.{Query}
use Rattle.dq_text.specs.Said.{resolved}
use Rattle.dq_text.specs.declared.statement.Statement.{Statement}
use Rattle.dq_text.proofs.ToldWhole.{spelling_same}
use Rattle.dq_link.specs.Meanings.{Means}
use Rattle.dq_link.specs.Mounts.{Holdings, Mounted, Mounts}

pub one_meaning : (mounts : Mounts) (tables : Holdings) (text : Bytes) (table other : List (List Cell)) → Means mounts tables text table → Means mounts tables text other → table ≡ other
one_meaning mounts tables text table other m n =
    let s : m.statement ≡ n.statement = spelling_same m.statement n.statement m.sized n.sized (m.spelled ∙ sym n.spelled) in
    let some_query : Some m.query ≡ Some n.query = sym m.stand ∙ (ap (resolved tables) s ∙ n.stand) in
    let q : m.query ≡ n.query = cc in
    let some_mounted : Some m.mounted ≡ Some n.mounted = sym m.mount ∙ (ap (λ (t : Statement). mounts t.source) s ∙ n.mount) in
    let v : m.mounted ≡ n.mounted = cc in
    m.answered ∙ (ap (λ (p : Query). answer p m.mounted.version.rows) q ∙ (ap (λ (x : Mounted). answer n.query x.version.rows) v ∙ sym n.answered))
