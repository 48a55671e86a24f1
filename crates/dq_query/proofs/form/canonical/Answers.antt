use Rattle.dq_query.proofs.Again.{canonical_again}
use Rattle.dq_query.proofs.form.canonical.Goals as goal

pub new-requires : goal.new-requires
new-requires c = rw (c.in_ok-canonical_filters.ensures, c.in_ok-duplicate.ensures, c.in_ok-duplicate-2.ensures, c.in_ok-duplicate-3.ensures) (canonical_again c.args.q.now)
