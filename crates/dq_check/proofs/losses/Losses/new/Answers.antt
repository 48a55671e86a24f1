use Rattle.std.proofs.Common.{◌≡◌, ℕ, ◌∙◌, ap, nat_eq}
use Rattle.std.specs.List.{count_by, list_any}
use Rattle.dq_check.proofs.Lost.{losses_count, wanting_any}
use Rattle.dq_check.proofs.losses.Losses.new.Goals as goal

pub returns : goal.returns
returns c = record {
  lost = λ flight. c.in_ok-counts.ensures flight ∙ ap (count_by (λ n. nat_eq n flight)) (c.as_slice.ensures.value ∙ c.in_ok-lost.ensures) ∙ losses_count flight c.args.journal.now;
  wanting = λ flight. c.in_ok-set.ensures flight ∙ ap (list_any (λ n. nat_eq n flight)) (c.as_slice-2.ensures.value ∙ c.in_ok-wanting.ensures) ∙ wanting_any flight c.args.journal.now;
}
