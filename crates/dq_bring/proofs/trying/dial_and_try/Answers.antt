use Rattle.dq_bring.proofs.Trials.{fresh_so}
use Rattle.dq_bring.proofs.trying.dial_and_try.Goals as goal

pub try_on-requires : goal.try_on-requires
try_on-requires g c κs within =
    let asked = c.requires.1.1.1 in (
      within.0,
      (
        within.1,
        (
          rw c.new-link.ensures (fresh_so _ g.at c.args.lane c.args.number _ c.in-Ok.link _ _ _ asked.0 c.in-Ok.ensures.fresh c.in-Ok.ensures.planned asked.1.1.1.1.1),
          (asked.1.0, (asked.1.1.0, (asked.1.1.1.0, asked.1.1.1.1.0))),
        ),
      ),
    )
