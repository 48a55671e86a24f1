use Rattle.std.proofs.Common.{ℕ, Option, List, sym, ap, ◌∙◌}
use Rattle.dq_rollup.specs.declared.key.Made.{Made}
use Rattle.dq_rollup.specs.Keys.{made_key, passes}
use Rattle.dq_rollup.proofs.Grouping.{grouped_at}
use Rattle.dq_rollup.proofs.groups.add_row.Goals as goal

pub returns : goal.returns
returns c key base places a ek es =
    grouped_at key base places c.args.place c.in_ok-key.key c.args.groups.now.entries c.add_place.new.groups.entries (passes c.args.filters.now c.args.spots.now c.args.row.now) a
    (c.in_ok-key.ensures ∙ ap (λ (made : List Made). made_key made c.args.row.now) c.as_slice-2.ensures ∙ sym ek) es
    (sym (ap (λ (spots : List (Option ℕ)). passes c.args.filters.now spots c.args.row.now) c.as_slice.ensures) ∙ sym c.in_ok-passes.ensures ∙ c.if-not-branch.false)
    c.in_ok-add_place.ensures.there c.in_ok-add_place.ensures.absent
