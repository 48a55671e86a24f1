use Rattle.dq_trial.proofs.Trials.{tried}
use Rattle.dq_trial.proofs.trying.try_flight.Goals as goal

pub returns-in-Ready : goal.returns-in-Ready
returns-in-Ready g c =
    let e = c.in-Ready.ensures in
    tried _ g.t c.args.link c.in-Ready.link c.args.stamp c.args.key.now _ c.in-Ready.statement c.requires.1.1.0 c.requires.1.1.1.0 c.requires.1.1.1.1.0 c.requires.1.1.1.1.1.0 _
    (record { number = e.number; runs = e.runs; planned = e.planned; calls = e.calls; few = e.few; mirror = e.mirror; said = e.said; means = e.means; mounts = e.mounts })
    c.run_ready.result c.run_ready.ensures.runs c.run_ready.ensures.planned
