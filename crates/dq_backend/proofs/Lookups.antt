-- What is looked up after a put and after a drop.
use Rattle.std.proofs.Common.{◌≡◌, ℕ, List, Some, None, ap, ◌∙◌}
use Rattle.dq_link.specs.Mounts.{SetAt}
use Rattle.dq_link.specs.Pairs.{lookup, with_pair, without}
use Rattle.dq_link.proofs.Lookups.{lookup-with, lookup-without}

-- x was put under a number
pub put_at : {X : Type 0} (before same now : List (ℕ × X)) (n : ℕ) (x : X)
    → same ≡ before → now ≡ with_pair same n x → SetAt n (Some x) (lookup before) (lookup now)
put_at before same now n x s e = λ m. ap (λ ps. lookup ps m) (e ∙ ap (λ ps. with_pair ps n x) s) ∙ lookup-with before n x m

-- what was under a number was taken out
pub taken_at : {X : Type 0} (before same now : List (ℕ × X)) (n : ℕ)
    → same ≡ before → now ≡ without same n → SetAt n None (lookup before) (lookup now)
taken_at before same now n s e = λ m. ap (λ ps. lookup ps m) (e ∙ ap (λ ps. without ps n) s) ∙ lookup-without before n m
