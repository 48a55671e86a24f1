use Rattle.std.proofs.Common.{rules}
use Rattle.std.specs.Str.{bytes_eq}
use Rattle.std.specs.String.{string_bytes}
use Rattle.dq_column.proofs.Found.{any_map, mapped_at}
use Rattle.dq_column.proofs.arrivals.Arrivals.find.Goals as goal

pub returns-in-Some : goal.returns-in-Some
returns-in-Some c = search (rules, mapped_at string_bytes c.args.text.now c.self.inside.seen.keys c.in-Some.place)

pub returns-in-None : goal.returns-in-None
returns-in-None c = search (rules, any_map (bytes_eq c.args.text.now) string_bytes c.self.inside.seen.keys)
