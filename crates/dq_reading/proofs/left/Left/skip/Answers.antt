use Rattle.std.proofs.Common.{◌≡◌, ◌++◌, ℕ, List, refl, subst}
use Rattle.dq_reading.proofs.Fronts.{word_there, word_missing}
use Rattle.dq_reading.proofs.left.Left.skip.Goals as goal

pub returns-in-Some : goal.returns-in-Some
returns-in-Some c =
    subst (λ (t : List ℕ). t ≡ c.args.word.now ++ c.in-Some.rest.now) c.self.view_is
    (word_there c.args.word.now c.self.inside.bytes.now c.in-Some.rest.now c.in-Some.ensures.cases.0 c.in-Some.ensures.cases.1)

pub returns-in-None : goal.returns-in-None
returns-in-None c =
    (refl, subst (λ (t : List ℕ). (r : List ℕ) → t ≡ c.args.word.now ++ r → ⊥) c.self.view_is (word_missing c.args.word.now c.self.inside.bytes.now c.in-None.ensures.cases))
