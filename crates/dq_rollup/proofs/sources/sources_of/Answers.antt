use Rattle.std.proofs.Common.{◌≡◌, ℕ, zero, suc, ◌<◌, Bool, true, List, [], ◌∷◌, length, slice_index_or, ap, ◌∙◌, arith}
use Rattle.std.specs.List.{list_all}
use Rattle.dq_base.specs.Covering.{gives, needs}
use Rattle.dq_base.specs.declared.query.Measure.{Measure}
use Rattle.dq_base.specs.declared.query.Measure.TheVariants.{Rows}
use Rattle.dq_base.specs.declared.query.Query.{Query}
use Rattle.dq_cover.proofs.CoverLaws.{and_left, and_right}
use Rattle.dq_rollup.specs.Sources.{IsSource}
use Rattle.dq_rollup.proofs.Lists.{paired_more}
use Rattle.dq_rollup.proofs.sources.sources_of.Goals as goal

all_at : (t : Measure → Bool) (ms : List Measure) (i : ℕ) (d : Measure) → i < length ms → list_all t ms ≡ true → t (slice_index_or ms i d) ≡ true
all_at t [] i d h e = absurd (omega arith)
all_at t (m ∷ ms) zero d h e = and_left (t m) _ e
all_at t (m ∷ ms) (suc i) d h e = all_at t ms i d (omega arith) (and_right (t m) _ e)

needs_at : (p q : Query) (ms : List Measure) (i : ℕ) (d : Measure) → ms ≡ q.measures → i < length ms → list_all (λ m. list_all (gives p q) (needs m)) q.measures ≡ true → list_all (gives p q) (needs (slice_index_or ms i d)) ≡ true
needs_at p q ms i d e h a = all_at (λ m. list_all (gives p q) (needs m)) ms i d h (ap (list_all (λ m. list_all (gives p q) (needs m))) e ∙ a)

pub loop-m-preserved : goal.loop-m-preserved
loop-m-preserved c = (
  c.loop-m.invariant.0,
  paired_more (IsSource c.args.p.now c.args.q.now) c.as_slice-m-items.result.now c.loop-m.m-index Rows c.loop-m.sources c.push.new.self c.in_ok-source_of.field-0
      c.loop-m-test.true c.loop-m.invariant.1 c.in_ok-push.ensures.ok (c.in_ok-source_of.ensures c.args.q.now (needs_at c.args.p.now c.args.q.now c.as_slice-m-items.result.now c.loop-m.m-index Rows c.as_slice-m-items.ensures c.loop-m-test.true c.requires)),
)
