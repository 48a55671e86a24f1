use Rattle.std.proofs.Common.{◌≤◌, length, sym}
use Rattle.dq_script.proofs.Sourced.{few_at}
use Rattle.dq_script.proofs.known.columns_at.Goals as goal

pub invariant_of-result-2 : goal.invariant_of-result-2
invariant_of-result-2 c =
    let few : length c.in-Some.schema.now.names ≤ 64 = few_at c.args.known.extracts.now.schemas c.args.source c.in-Some.schema.now c.args.known.columns (sym c.in-Some.ensures) in
    record { few = rw (c.as_slice.ensures, c.names.ensures.names) few }
