use Rattle.std.proofs.Common.{◌≡◌, ◌&&◌, ◌<◌, ℕ, false, length, take, slice_index_or, nat_eq}
use Rattle.std.specs.List.{list_any}
use Rattle.dq_base.specs.Dims.{is_plain}
use Rattle.dq_cover.proofs.parts.grouped_by.Given as goal

abbrev pub invariant-loop-d : goal.invariant-loop-d
invariant-loop-d l = (l.d-items ≡ l.q.dims) × ((c : ℕ) → c < length l.marks → slice_index_or l.marks c false ≡ list_any (λ d. nat_eq c d.column && is_plain d) (take l.d-index l.d-items))
