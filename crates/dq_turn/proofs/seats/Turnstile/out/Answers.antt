use Rattle.std.proofs.Common.{ap, sym, ◌∙◌, ◌∷◌, Some}
use Rattle.atomic_table.specs.Table.{rest}
use Rattle.dq_turn.proofs.seats.Turnstile.out.Goals as goal

pub exchange-requires : goal.exchange-requires
exchange-requires g c = let full = c.requires.full in (c.requires.of, (Some full.0, full.1 ∙ ap (λ l. (0, Some full.0) ∷ l) (sym (ap rest full.1))))
