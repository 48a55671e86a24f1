use Rattle.std.proofs.Common.{◌≡◌, true, subst, sym}
use Rattle.std.specs.List.{list_all}
use Rattle.dq_base.specs.Covering.{Filled, Total, gives, needs}
use Rattle.dq_base.specs.declared.query.Measure.{Measure}
use Rattle.dq_cover.proofs.CoverLaws.{and_left, and_right}
use Rattle.dq_rollup.specs.Sources.{IsSource}
use Rattle.dq_rollup.specs.declared.source.Source.TheVariants as source
use Rattle.dq_rollup.proofs.sources.source_of.Goals as goal

pub returns-in_ok-counts_of-in-Count : goal.returns-in_ok-counts_of-in-Count
returns-in_ok-counts_of-in-Count c q =
    let P : Measure → Type 0 = λ m. list_all (gives c.args.p.now q) (needs m) ≡ true → IsSource c.args.p.now q m (source.Count c.in_ok-counts_of-in-Count.field-0) in
    subst P (sym c.in-Count.is) (λ h. c.in_ok-counts_of-in-Count.ensures q (and_left (gives c.args.p.now q (Filled c.in-Count.c)) true h))

pub returns-in_ok-sums_of-in-Sum : goal.returns-in_ok-sums_of-in-Sum
returns-in_ok-sums_of-in-Sum c q =
    let P : Measure → Type 0 = λ m. list_all (gives c.args.p.now q) (needs m) ≡ true → IsSource c.args.p.now q m (source.Sum c.in_ok-sums_of-in-Sum.field-0) in
    subst P (sym c.in-Sum.is) (λ h. c.in_ok-sums_of-in-Sum.ensures q (and_left (gives c.args.p.now q (Total c.in-Sum.c)) true h))

pub returns-in_ok-counts_of-in-Avg : goal.returns-in_ok-counts_of-in-Avg
returns-in_ok-counts_of-in-Avg c q =
    let P : Measure → Type 0 = λ m. list_all (gives c.args.p.now q) (needs m) ≡ true → IsSource c.args.p.now q m (source.Average c.in_ok-sums_of-in-Avg.field-0 c.in_ok-counts_of-in-Avg.field-0) in
    subst P (sym c.in-Avg.is) (λ h. (
      c.in_ok-sums_of-in-Avg.ensures q (and_left (gives c.args.p.now q (Total c.in-Avg.c)) _ h),
      c.in_ok-counts_of-in-Avg.ensures q (and_left (gives c.args.p.now q (Filled c.in-Avg.c)) true (and_right (gives c.args.p.now q (Total c.in-Avg.c)) _ h)),
    ))
