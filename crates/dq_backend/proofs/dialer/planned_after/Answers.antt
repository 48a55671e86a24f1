use Rattle.std.proofs.Common.{ℕ, Option, ap, ◌∙◌}
use Rattle.std.proofs.lemmas.Option.{unwrap_or-slice_get}
use Rattle.std.specs.Prelude.{unwrap_or}
use Rattle.dq_backend.proofs.dialer.planned_after.Goals as goal

pub returns-in-None : goal.returns-in-None
returns-in-None c = ap (λ (o : Option ℕ). unwrap_or o 0) c.in-None.ensures ∙ unwrap_or-slice_get c.args.links.now c.args.others 0

pub returns-in-Some : goal.returns-in-Some
returns-in-Some c = ap (λ (o : Option ℕ). unwrap_or o 0) c.in-Some.ensures ∙ unwrap_or-slice_get c.args.links.now c.args.others 0
