-- What is found to be due is what is due.
use Rattle.std.proofs.Common.{◌≡◌, ℕ, List, [], ◌∷◌, drop, map, refl, ap, sym, ◌∙◌, Some, None, Option}
use Rattle.std.specs.List.{list_any}
use Rattle.dq_base.specs.Answers.{answer}
use Rattle.dq_base.specs.Headings.{Heading}
use Rattle.dq_base.specs.declared.query.Query.{Query}
use Rattle.dq_journal.specs.Standing.{Rows}
use Rattle.dq_journal.specs.declared.entry.Entry.{Entry}
use Rattle.dq_machine.specs.Owning.{Origin, fate, fate_by, falls_wanting, losses_of, no_origin}
use Rattle.dq_machine.specs.Publishing.{rows_at, stamp_in}
use Rattle.dq_machine.specs.State.{Publication}
use Rattle.dq_check.specs.Dues.{DueOf, due_of, dues_of}
use Rattle.dq_check.specs.Losses.{AreLosses, fate_by_losses, was_wanting}
use Rattle.dq_check.specs.declared.losses.Losses.{Losses}
use Rattle.dq_check.specs.Owed.{AreOwed, IsOwed}

pub fate_told : (journal : List Entry) (losses : Losses) → AreLosses journal losses → (own : Option ℕ) → fate_by_losses losses own ≡ fate journal own
fate_told journal losses h None = refl
fate_told journal losses h (Some flight) = ap (λ n. fate_by n (was_wanting losses flight)) (h.lost flight) ∙ ap (fate_by (losses_of journal flight)) (h.wanting flight)

module _ (schemas : List Heading) (versions standing : List Publication) (rows : ℕ → Rows) (journal : List Entry) (losses : Losses)
    (told : AreLosses journal losses) (stands : (source : ℕ) → rows_at versions (stamp_in standing source) ≡ rows source) where
  one_owed : (o : Origin) (q : Query) (d : DueOf) → IsOwed schemas versions losses o (stamp_in standing q.source) q d → d ≡ due_of schemas rows journal q o
  one_owed o q d h =
      let reason = h.reason in
      let fate_is = h.fate ∙ fate_told journal losses told o.own in
      let want = h.want ∙ ap (answer q) (stands q.source) in
      rw (← reason, ← fate_is, ← want, ← h.leader) refl

  pub owed_dues : (origins : List Origin) (zones : List Query) (dues : List DueOf)
      → AreOwed schemas versions losses origins (map (λ q. stamp_in standing q.source) zones) zones dues → dues ≡ dues_of schemas rows journal zones origins
  owed_dues origins [] [] h = refl
  owed_dues origins [] (d ∷ dues) h = absurd h
  owed_dues origins (q ∷ zones) [] h = absurd h
  owed_dues [] (q ∷ zones) (d ∷ dues) h = let one = one_owed no_origin q d h.0 in let more = owed_dues [] zones dues h.1 in cc
  owed_dues (o ∷ origins) (q ∷ zones) (d ∷ dues) h = let one = one_owed o q d h.0 in let more = owed_dues origins zones dues h.1 in cc
