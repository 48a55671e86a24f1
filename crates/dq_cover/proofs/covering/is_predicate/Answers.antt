use Rattle.std.proofs.Common.{subst, sym}
use Rattle.std.specs.List.Sorted.{IsSorted}
use Rattle.dq_base.specs.Canonical.{predicate_cmp}
use Rattle.dq_cover.proofs.Found.{sorted_filters}
use Rattle.dq_cover.proofs.covering.is_predicate.Goals as goal

pub is_member-requires : goal.is_member-requires
is_member-requires c = subst (IsSorted predicate_cmp) (sym c.as_slice.ensures) (sorted_filters c.args.p.now c.requires)
