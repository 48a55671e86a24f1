use Rattle.std.proofs.Common.{◌≡◌, ◌<◌, ap, sym, ◌∙◌, arith}
use Rattle.dq_machine.specs.State.{Publication}
use Rattle.dq_machine.proofs.Stamped.{rows_at-zero, rows_at-held, rows_at-none}
use Rattle.dq_machine.proofs.versions.Versions.extract_at.Goals as goal

pub returns-then-stamp-eq0 : goal.returns-then-stamp-eq0
returns-then-stamp-eq0 c = rw c.if-stamp-eq0.true (rows_at-zero c.args.self.now)

pub returns-in_default : goal.returns-in_default
returns-in_default c = rw (← c.self.view_is) (rows_at-none c.self.inside.published c.args.stamp (sym c.in_default.ensures))

pub returns : goal.returns
returns c =
    let some : 0 < c.args.stamp = omega (arith, c.if-stamp-eq0.false) in
    ap (λ (p : Publication). p.rows) c.published.view_is ∙ rw (← c.self.view_is) (rows_at-held c.self.inside.published c.args.stamp _ some (sym c.in-Some.ensures))
