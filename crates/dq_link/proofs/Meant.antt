-- What a link that was made ready holds, and what its statement means.
use Rattle.std.proofs.Common.{◌≡◌, ℕ, true, false, cond, Some, None, refl, sym, subst}
use Rattle.std.specs.List.{AllByRecursion}
use Rattle.dq_base.specs.Answers.{answer}
use Rattle.dq_base.specs.Validity.{first_reason}
use Rattle.dq_base.specs.Versions.{Version}
use Rattle.dq_base.specs.declared.query.Query.{Query}
use Rattle.dq_text.specs.Said.{said}
use Rattle.dq_text.specs.Sizes.{IsSized}
use Rattle.dq_text.specs.Statements.{spelling}
use Rattle.dq_link.specs.Meanings.{Means}
use Rattle.dq_link.specs.Mirrors.{IsMirrored, Mirror, Readying, is_held, is_stamp, lists_in, mounting, preparing, remounting}
use Rattle.dq_link.specs.Mounts.{Holdings, Mounts, SetAt}
use Rattle.dq_link.specs.Steps.{IsDone, Moment}
use Rattle.dq_text.specs.declared.statement.Statement.{Statement}
use Rattle.dq_link.proofs.Mounting.{set_here}
use Rattle.dq_link.specs.Pairs.{lookup}
use Rattle.dq_link.proofs.Held.{Numbered, all_held, among_itself}
use Rattle.dq_link.proofs.Resolved.{said_resolved}

mounting_numbered : (source stamp : ℕ) (r : Readying) → Numbered r → Numbered (mounting source stamp r)
mounting_numbered source stamp r h =
    elim (is_stamp (lookup r.mirror.mounts source) stamp) as (λ b. Numbered (cond b r (remounting source stamp r))) [ true ↦ h | false ↦ h ]

-- every list that the query needs is held once the link is ready
pub prepared_holds : (stamp : ℕ) (q : Query) (r : Readying) → Numbered r → AllByRecursion (λ l. is_held (preparing stamp q r).mirror.tables l ≡ true) (lists_in q.filters)
prepared_holds stamp q r h =
    all_held (lists_in q.filters) (lists_in q.filters) (mounting q.source stamp r) (mounting_numbered q.source stamp r h) (among_itself (lists_in q.filters))

-- the statement of a mirror that holds the query's lists means the query over the mounted version
pub said_means : (mounts : Mounts) (tables : Holdings) (m : Mirror) (stamp : ℕ) (q : Query) (v : Version) → IsMirrored mounts tables m
    → AllByRecursion (λ l. is_held m.tables l ≡ true) (lists_in q.filters) → IsSized (said m.tables stamp q)
    → mounts q.source ≡ Some (record { stamp = stamp; version = v }) → first_reason v.heading.sorts q ≡ None
    → Means mounts tables (spelling (said m.tables stamp q)) (answer q v.rows)
said_means mounts tables m stamp q v i held sized mount valid = record {
  statement = said m.tables stamp q;
  sized = sized;
  spelled = refl;
  query = q;
  stand = said_resolved mounts tables m i stamp q held;
  mounted = record { stamp = stamp; version = v };
  mount = mount;
  stamped = refl;
  valid = valid;
  answered = refl;
}

-- once the link is ready its statement means the query
pub ready_means : (before now : Moment) (stamp : ℕ) (q : Query) (v : Version) (s : Statement) → Numbered before.ready → IsDone (preparing stamp q) before now
    → SetAt q.source (Some (record { stamp = stamp; version = v })) before.mounts now.mounts → first_reason v.heading.sorts q ≡ None
    → s ≡ said now.ready.mirror.tables stamp q → IsSized s → Means now.mounts now.tables (spelling s) (answer q v.rows)
ready_means before now stamp q v s n d set valid e sized =
    let held : AllByRecursion (λ l. is_held now.ready.mirror.tables l ≡ true) (lists_in q.filters) =
    subst (λ (r : Readying). AllByRecursion (λ l. is_held r.mirror.tables l ≡ true) (lists_in q.filters)) (sym d.reached) (prepared_holds stamp q before.ready n) in
    let whole : IsSized (said now.ready.mirror.tables stamp q) = subst IsSized e sized in
    let here : now.mounts q.source ≡ Some (record { stamp = stamp; version = v }) = set_here q.source (Some (record { stamp = stamp; version = v })) before.mounts now.mounts set in
    subst (λ (t : Statement). Means now.mounts now.tables (spelling t) (answer q v.rows)) (sym e) (said_means now.mounts now.tables now.ready.mirror stamp q v d.mirrored held whole here valid)
