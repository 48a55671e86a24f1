use Rattle.std.proofs.Common.{List, [], ◌∷◌, Option, sym, subst}
use Rattle.atomic_table.specs.Table.{opening}
use Rattle.dq_turn.specs.Turning.{Turning}
use Rattle.dq_turn.specs.Views.{first_keeper}
use Rattle.dq_turn.proofs.Openings.{opens}
use Rattle.dq_turn.proofs.seats.Turnstile.new.Goals as goal

pub new-requires : goal.new-requires
new-requires g c =
    let S = g.row.S.Denot in let loaded = g.S.Chronicled.loaded in let journal = g.S.Chronicled.journal in
    subst (λ (z : List (Option g.row.S.Denot) × g.row.S.Denot). Turning loaded journal (opening (0 ∷ 0 ∷ 0 ∷ []) z.0 (first_keeper z.1)))
    (λ i. (sym (c.in-Ok.ensures.ok) i, sym c.of-about.ensures i)) (opens loaded journal c.args.state c.requires.empty)
