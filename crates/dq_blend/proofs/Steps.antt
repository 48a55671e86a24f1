-- The usual lemmas, with those on an item by its place.
use Rattle.std.proofs.lemmas.Grind.{common_steps}
use Rattle.std.proofs.lemmas.Option.{gets}

pub ruleset got_steps = (common_steps, gets)
