-- What the flights told by a journal's losses and falls say of each flight.
use Rattle.std.proofs.Common.{◌≡◌, ℕ, ◌+◌, Bool, true, false, cond, nat_eq, List, [], ◌∷◌, length, filter, refl, ap, ◌∙◌, arith}
use Rattle.std.proofs.lemmas.List.Sums.{sum_by-cons}
use Rattle.std.specs.Prelude.{◌||◌}
use Rattle.std.specs.List.{count_by, flat_map, list_any}
use Rattle.dq_journal.specs.declared.entry.Cause.{Cause}
use Rattle.dq_journal.specs.declared.entry.Cause.TheVariants as cause
use Rattle.dq_journal.specs.declared.entry.Entry.{Entry}
use Rattle.dq_journal.specs.declared.entry.Entry.TheVariants.{Publish, Admit, Lease, Give, Lose, Land, Fall, Take, End}
use Rattle.dq_machine.specs.Owning.{falls_wanting, loses, losses_of}
use Rattle.dq_check.specs.Losses.{lost_in, wanting_in}

pub losses_count : (flight : ℕ) (journal : List Entry) → count_by (λ n. nat_eq n flight) (flat_map lost_in journal) ≡ losses_of journal flight
losses_count flight [] = refl
losses_count flight (Publish lane step ∷ es) = losses_count flight es
losses_count flight (Admit lane step met ∷ es) = losses_count flight es
losses_count flight (Lease lane f link fresh ∷ es) = losses_count flight es
losses_count flight (Give lane f link ran runs calls ∷ es) = losses_count flight es
losses_count flight (Lose lane f link dialled ran runs calls ∷ es) =
    sum_by-cons (λ n. cond (nat_eq n flight) 1 0) f (flat_map lost_in es) ∙ by (nat_eq f flight) (losses_count flight es)
  where
    by : (b : Bool) → count_by (λ n. nat_eq n flight) (flat_map lost_in es) ≡ losses_of es flight
        → cond b 1 0 + count_by (λ n. nat_eq n flight) (flat_map lost_in es) ≡ length (cond b (Lose lane f link dialled ran runs calls ∷ filter (loses flight) es) (filter (loses flight) es))
    by true more = omega (arith, more)
    by false more = omega (arith, more)
losses_count flight (Land lane f cells clever literal ∷ es) = losses_count flight es
losses_count flight (Fall lane f c ∷ es) = losses_count flight es
losses_count flight (Take lane f next ∷ es) = losses_count flight es
losses_count flight (End lane ∷ es) = losses_count flight es

pub wanting_any : (flight : ℕ) (journal : List Entry) → list_any (λ n. nat_eq n flight) (flat_map wanting_in journal) ≡ list_any (falls_wanting flight) journal
wanting_any flight [] = refl
wanting_any flight (Publish lane step ∷ es) = wanting_any flight es
wanting_any flight (Admit lane step met ∷ es) = wanting_any flight es
wanting_any flight (Lease lane f link fresh ∷ es) = wanting_any flight es
wanting_any flight (Give lane f link ran runs calls ∷ es) = wanting_any flight es
wanting_any flight (Lose lane f link dialled ran runs calls ∷ es) = wanting_any flight es
wanting_any flight (Land lane f cells clever literal ∷ es) = wanting_any flight es
wanting_any flight (Fall lane f cause.BackEnd ∷ es) = wanting_any flight es
wanting_any flight (Fall lane f cause.Memory ∷ es) = ap (λ b. nat_eq f flight || b) (wanting_any flight es)
wanting_any flight (Take lane f next ∷ es) = wanting_any flight es
wanting_any flight (End lane ∷ es) = wanting_any flight es
