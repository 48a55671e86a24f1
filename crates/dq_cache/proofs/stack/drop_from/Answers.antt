use Rattle.std.proofs.Common.{◌≡◌, ℕ, suc, ◌+◌, ◌-◌, ◌<◌, Bool, true, false, not, filter, [], ◌∷◌, ◌++◌, List, take, drop, length, refl, sym, ap, ◌∙◌, arith}
use Rattle.std.specs.Prelude.{if◌then◌else◌}
use Rattle.dq_cache.specs.Entries.{is_of}
use Rattle.dq_cache.proofs.Numbers.{below_filtered}
use Rattle.dq_cache.proofs.Rotated.{rotated_end, rotated, split_at, before_turn, after_turn}
use Rattle.dq_cache.proofs.stack.drop_from.Goals as goal

not_not : (b : Bool) → b ≡ not (not b)
not_not true = refl
not_not false = refl

turned : {X : Type 0} (out : X → Bool) (xs all new : List X) (n m k : ℕ) → k < length xs → m ≡ suc k → all ≡ rotated (λ x. not (out x)) xs m → n ≡ k
    → ((ys : List X) → (x : X) → all ≡ ys ++ x ∷ [] → new ≡ (if out x then ys else (x ∷ ys))) → new ≡ rotated (λ x. not (out x)) xs n
turned {X = X} out xs all new n m k l e h f t =
    let keep : X → Bool = λ x. not (out x) in
    let s = split_at keep xs k l in
    let ys = filter keep (drop (suc k) xs) ++ take k xs in
    t ys s.item (h ∙ ap (rotated keep xs) e ∙ before_turn keep xs k s)
    ∙ ap (λ (b : Bool). if b then ys else (s.item ∷ ys)) (not_not (out s.item))
    ∙ after_turn keep xs k s
    ∙ ap (rotated keep xs) (sym f)

pub loop-preserved : goal.loop-preserved
loop-preserved g c =
    let n = c.len-end.result in
    let i = c.loop.counter in
    record {
      stack = c.turn.ensures.stack;
      end = c.loop.invariant.end;
      list = turned (λ (e : ℕ × g.row.T.Denot). is_of c.args.source (g.T.Held.entry e.1)) c.args.cache.now.entries c.loop.cache.entries c.turn.new.cache.entries (n - (i + 1)) (n - i) (n - (i + 1))
          (omega arith) (omega arith) c.loop.invariant.list refl c.turn.ensures.list;
    }

pub returns-clause-below : goal.returns-clause-below
returns-clause-below g c = λ m a.
    let keep : (ℕ × g.row.T.Denot) → Bool = λ e. not (is_of c.args.source (g.T.Held.entry e.1)) in
    let es = c.args.cache.now.entries in
    let none : c.len-end.result - c.loop.counter ≡ 0 = omega arith in
    rw (c.loop.invariant.list ∙ rotated_end keep es (c.len-end.result - c.loop.counter) none) (below_filtered m keep es a)
