use Rattle.std.proofs.Common.{◌≡◌, ℕ, ◌+◌, nat_eq, sym, ap, ◌∙◌, arith, get_or}
use Rattle.std.proofs.lemmas.List.Folds.{list_any_more}
use Rattle.std.specs.Prelude.{◌||◌}
use Rattle.dq_check.proofs.losses.set_of.Goals as goal

pub loop-number-preserved : goal.loop-number-preserved
loop-number-preserved c = λ q.
    c.in_ok-add.ensures q ∙ ap (λ b. b || nat_eq (get_or c.args.numbers.now c.loop-number.number-index 0) q) (c.loop-number.invariant q)
    ∙ sym (list_any_more (λ n. nat_eq n q) c.args.numbers.now c.loop-number.number-index 0 (omega arith))
