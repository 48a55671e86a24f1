use Rattle.std.proofs.Common.{◌≡◌, ap, ◌∙◌, sym, [], ◌∷◌, ◌++◌}
use Rattle.dq_cache.specs.Entries.{without_last}
use Rattle.dq_cache.specs.Shelves.{IsIndex}
use Rattle.dq_cache.proofs.Looked.{index_along, split_last, none_last}
use Rattle.dq_cache.proofs.Shelving.{Numbered}
use Rattle.dq_cache.proofs.clever.drop_last.Goals as goal

pub returns-in-Some-clause-indexed : goal.returns-in-Some-clause-indexed
returns-in-Some-clause-indexed c =
    let es = c.args.cache.now.entries in
    let e : Numbered = (c.in-Some.field-0-0, c.in-Some.held) in
    let at : es ≡ without_last es ++ e ∷ [] = split_last es e (sym c.in-Some.ensures.last) in
    let all : IsIndex c.args.index.now (without_last es ++ e ∷ []) = index_along c.args.index.now es (without_last es ++ e ∷ []) at c.requires.indexed in
    index_along c.leave.new.index (without_last es) c.pop_last.new.cache.entries (sym c.in-Some.ensures.list) (c.leave.ensures (without_last es) e (λ i. (c.source.ensures i, c.stamp.ensures i)) all)

pub returns-in_default-clause-indexed : goal.returns-in_default-clause-indexed
returns-in_default-clause-indexed c =
    let es = c.args.cache.now.entries in
    let none : es ≡ [] = none_last es (sym c.in_default.ensures.last) in
    index_along c.args.index.now es c.pop_last.new.cache.entries (none ∙ sym (c.in_default.ensures.list ∙ ap without_last none)) c.requires.indexed
