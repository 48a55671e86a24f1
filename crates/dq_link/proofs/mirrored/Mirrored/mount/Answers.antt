use Rattle.std.proofs.Common.{◌≡◌, ◌∙◌, not, ap, refl, rules, [], ◌∷◌, ◌++◌}
use Rattle.std.specs.Arc.{arc_value}
use Rattle.std.specs.Prelude.{nat_eq}
use Rattle.std.proofs.lemmas.Fn.{filter_same}
use Rattle.dq_link.specs.Pairs.{with_pair, without}
use Rattle.dq_link.proofs.Moving.{done-mount, same_ready}
use Rattle.dq_link.proofs.mirrored.Mirrored.mount.Goals as goal

pub returns-clause-moves : goal.returns-clause-moves
returns-clause-moves g c =
    let i = rw (← c.self.view_is) at c.requires.mirrored in
    let less : c.retain.new.self.items ≡ without c.reserve.new.self.items c.args.source = filter_same _ (λ p. not (nat_eq p.0 c.args.source)) _ (λ x b f k. search rules) _ _ c.retain.ensures.filtered in
    let kept : c.reserve.new.self.items ≡ c.self.inside.mounts.items = c.reserve.ensures.items in
    let mounts : c.push_reserved.new.self.items ≡ with_pair c.self.inside.mounts.items c.args.source c.args.stamp =
    c.push_reserved.ensures.items ∙ ap (λ l. l ++ (c.args.source, c.args.stamp) ∷ []) (less ∙ ap (λ l. without l c.args.source) kept) in
    rw (← c.self.view_is) (done-mount c.args.source (record { stamp = c.args.stamp; version = arc_value c.in-Ok.shared }) _ _ i c.in_ok-mount.ensures.mounts c.in_ok-mount.ensures.tables (same_ready _ _ _ _ _ _ _ mounts refl c.in_ok-mount.ensures.calls) c.in_ok-mount.ensures.cause c.in_ok-mount.ensures.runs c.in_ok-mount.ensures.planned)
