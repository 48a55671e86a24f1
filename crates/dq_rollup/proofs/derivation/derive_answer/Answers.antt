use Rattle.dq_rollup.proofs.Deriving.{derived_answer}
use Rattle.dq_rollup.proofs.derivation.derive_answer.Goals as goal

pub returns : goal.returns
returns c rows e =
    derived_answer c.args.p.now c.args.q.now rows c.args.held.now c.in_ok-rows.rows.items c.sort_rows.new.rows.items c.from_vec.result c.first_of.result
    c.requires.covers c.requires.whole e c.in_ok-rows.ensures c.in_ok-sort_rows.ensures.ok c.from_vec.ensures c.first_of.ensures
