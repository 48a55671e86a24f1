use Rattle.std.proofs.Common.{◌≡◌, ℕ, List, map, length, refl, sym, ap, ◌∙◌, subst}
use Rattle.std.specs.List.{All}
use Rattle.dq_base.specs.Canonical.{canonical_test}
use Rattle.dq_base.specs.Dims.{Dimension}
use Rattle.dq_base.specs.declared.value.Value.{Value}
use Rattle.dq_base.specs.declared.predicate.Predicate.{Predicate}
use Rattle.dq_fold.proofs.Settled.{all_settled}
use Rattle.dq_rollup.specs.Derived.{Plan, derived_row, rows_at}
use Rattle.dq_rollup.specs.Grouped.{groups_below}
use Rattle.dq_rollup.specs.Keys.{IsMade, IsPlaced}
use Rattle.dq_rollup.specs.Pairs.{Paired}
use Rattle.dq_rollup.specs.declared.source.Source.{Source}
use Rattle.dq_rollup.proofs.Grouping.{groups_derived}
use Rattle.dq_rollup.proofs.derivation.derive_rows.Goals as goal

pub group_rows-requires : goal.group_rows-requires
group_rows-requires c = subst (λ (fs : List Predicate). All (λ f. canonical_test f.test ≡ f.test) fs) (sym c.as_slice-filters.ensures) (all_settled c.args.q.now c.requires.canonical)

pub returns : goal.returns
returns c =
    let plan : Plan = record { made = c.in_ok-made.made; filters = c.args.q.now.filters; places = c.in_ok-spots.spots } in
    let p = c.args.p.now in
    let q = c.args.q.now in
    let held = c.args.held.now in
    let row = λ (sources : List Source) (e : List Value × List ℕ). derived_row sources (rows_at held e.1) e.0 in
    record {
      plan = plan;
      sources = c.in_ok-sources.sources;
      made = subst (λ (ds : List Dimension). Paired (IsMade ds) q.dims c.in_ok-made.made) c.as_slice.ensures (subst (λ (ds : List Dimension). Paired (IsMade c.as_slice.result.now) ds c.in_ok-made.made) c.as_slice-2.ensures c.in_ok-made.ensures);
      filters = refl;
      places = subst (λ (ds : List Dimension). Paired (IsPlaced ds) q.filters c.in_ok-spots.spots) c.as_slice-3.ensures (subst (λ (fs : List Predicate). Paired (IsPlaced c.as_slice-3.result.now) fs c.in_ok-spots.spots) c.as_slice-filters.ensures c.in_ok-spots.ensures);
      from = c.in_ok-sources.ensures;
      rows =
          c.in_ok-rows.ensures
          ∙ ap (λ (ss : List Source). map (row ss) c.in_ok-groups.groups.entries) c.as_slice-4.ensures
          ∙ ap (map (row c.in_ok-sources.sources)) (c.in_ok-groups.ensures ∙ ap (λ (fs : List Predicate). groups_below (record { made = c.in_ok-made.made; filters = fs; places = c.in_ok-spots.spots }) held (length held)) c.as_slice-filters.ensures)
          ∙ groups_derived plan c.in_ok-sources.sources held;
    }
