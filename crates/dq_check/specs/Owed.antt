-- What is due to the zones of a batch, by where their answers come from.
use Rattle.std.specs.Prelude.{◌≡◌, ℕ, List, [], ◌∷◌, drop}
use Rattle.dq_base.specs.Answers.{answer}
use Rattle.dq_base.specs.Headings.{Heading}
use Rattle.dq_base.specs.Validity.{invalid_by}
use Rattle.dq_base.specs.declared.query.Query.{Query}
use Rattle.dq_machine.specs.Owning.{Origin, no_origin}
use Rattle.dq_machine.specs.Publishing.{rows_at}
use Rattle.dq_machine.specs.State.{Publication}
use Rattle.dq_check.specs.Dues.{DueOf}
use Rattle.dq_check.specs.Losses.{fate_by_losses}
use Rattle.dq_check.specs.declared.losses.Losses.{Losses}

-- what is due to a zone of this origin, over the rows that the publication of that stamp left
pub record IsOwed (schemas : List Heading) (versions : List Publication) (losses : Losses) (origin : Origin) (stamp : ℕ) (q : Query) (d : DueOf) : Type 0 where
  pub reason : d.reason ≡ invalid_by schemas q
  pub fate : d.fate ≡ fate_by_losses losses origin.own
  pub want : d.want ≡ answer q (rows_at versions stamp)
  pub leader : d.leader ≡ origin.leader

abbrev pub first_origin : List Origin → Origin
first_origin [] = no_origin
first_origin (o ∷ origins) = o

abbrev pub first_stamp : List ℕ → ℕ
first_stamp [] = 0
first_stamp (n ∷ stamps) = n

-- one for each zone, in order
abbrev pub AreOwed : List Heading → List Publication → Losses → List Origin → List ℕ → List Query → List DueOf → Type 0
AreOwed schemas versions losses origins stamps [] [] = Unit {0}
AreOwed schemas versions losses origins stamps [] (d ∷ dues) = ⊥
AreOwed schemas versions losses origins stamps (q ∷ zones) [] = ⊥
AreOwed schemas versions losses origins stamps (q ∷ zones) (d ∷ dues) =
    IsOwed schemas versions losses (first_origin origins) (first_stamp stamps) q d × AreOwed schemas versions losses (drop 1 origins) (drop 1 stamps) zones dues
