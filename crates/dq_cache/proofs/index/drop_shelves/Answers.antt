use Rattle.std.proofs.Common.{nat_eq, not, rules}
use Rattle.std.proofs.lemmas.Map.Made.{filter_same_pairs}
use Rattle.dq_cache.specs.Shelves.{Place}
use Rattle.dq_cache.specs.declared.shelf.Shelf.{Shelf}
use Rattle.dq_cache.proofs.Shelving.{index_without}
use Rattle.dq_cache.proofs.index.drop_shelves.Goals as goal

pub returns : goal.returns
returns c = λ es i.
    index_without c.args.index.now c.retain.new.self c.args.source es i
    (filter_same_pairs _ (λ (p : Place × Shelf). not (nat_eq p.0.0 c.args.source)) _ (λ k v b w f' t. search rules) _ _ c.retain.ensures.filtered)
