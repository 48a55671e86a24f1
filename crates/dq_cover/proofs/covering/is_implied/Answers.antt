use Rattle.std.proofs.Common.{ap, subst, sym, ◌∙◌, List, ◌&&◌, nat_eq}
use Rattle.std.specs.List.{list_any}
use Rattle.std.specs.List.Sorted.{IsNonDecreasingBy}
use Rattle.dq_base.specs.Covering.{within}
use Rattle.dq_base.specs.declared.predicate.Predicate.{Predicate}
use Rattle.dq_cover.proofs.Found.{rising_columns}
use Rattle.dq_cover.proofs.covering.is_implied.Goals as goal

pub on_column-requires : goal.on_column-requires
on_column-requires c = subst (IsNonDecreasingBy (λ f. f.column)) (sym c.as_slice.ensures) (rising_columns c.args.q.now c.requires)

pub returns : goal.returns
returns c = c.any_within.ensures ∙ c.on_column.ensures (λ g. within g.test c.args.f.now.test) ∙ ap (λ (gs : List Predicate). list_any (λ g. nat_eq g.column c.args.f.now.column && within g.test c.args.f.now.test) gs) c.as_slice.ensures
