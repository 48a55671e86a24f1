use Rattle.std.proofs.Common.{◌≡◌, take, map}
use Rattle.std.specs.BTreeSet.{keys}
use Rattle.dq_base.specs.Canonical.{canonical_predicate, predicate_cmp}
use Rattle.dq_base.specs.Sets.{set_of}
use Rattle.dq_query.proofs.form.canonical_filters.Given as goal

abbrev pub invariant-loop-p : goal.invariant-loop-p
invariant-loop-p l = (keys l.set ≡ set_of predicate_cmp (map canonical_predicate (take l.p-index l.p-items))) × (l.p-items ≡ l.filters)
