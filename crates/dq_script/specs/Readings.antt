-- What a part of a script reads as: its value, or the path of its first fault, from the part itself on.
use Rattle.std.specs.Prelude.{◌≡◌, ⊤, ℕ, List, [], ◌∷◌, ◌++◌, Bool, true, false, Option, Some, None, Result, Ok, Err, if◌then◌else◌}
use Rattle.dq_script.specs.declared.misfit.Misfit.{Misfit}
use Rattle.dq_script.specs.declared.misfit.Misfit.TheVariants as misfit

abbrev pub Reading : Type 0 → Type 0
Reading A = Result A (List ℕ)

-- an answer is the reading; only want of memory is told besides
abbrev pub Answers : {A : Type 0} → Reading A → Result A Misfit → Type 0
Answers want (Ok x) = want ≡ Ok x
Answers want (Err (misfit.At path)) = want ≡ Err path
Answers want (Err misfit.Memory) = ⊤

-- a fault within a step of a path is told from that step on
abbrev pub IsWithin : List ℕ → Misfit → Misfit → Type 0
IsWithin step (misfit.At rest) (misfit.At path) = path ≡ 47 ∷ (step ++ rest)
IsWithin step misfit.Memory (misfit.At path) = ⊥
IsWithin step m misfit.Memory = ⊤

-- the value, where the test holds
abbrev pub kept_if : {A : Type 0} → Bool → A → Option A
kept_if b x = if b then Some x else None

-- the first, where there is one
abbrev pub or_else : {A : Type 0} → Option A → Option A → Option A
or_else None later = later
or_else (Some x) later = Some x

-- where there is no value, the part's own path is told
abbrev pub given : {A : Type 0} → Option A → Reading A
given None = Err []
given (Some x) = Ok x

-- where the test fails, the part's own path is told before anything of it
abbrev pub provided : {A : Type 0} → Bool → Reading A → Reading A
provided true r = r
provided false r = Err []

-- what stands at this step of a path
abbrev pub within : {A : Type 0} → List ℕ → Reading A → Reading A
within step (Ok x) = Ok x
within step (Err path) = Err (47 ∷ (step ++ path))

abbrev pub mapped : {A B : Type 0} → (A → B) → Reading A → Reading B
mapped f (Ok x) = Ok (f x)
mapped f (Err path) = Err path

-- what follows a part, by its value
abbrev pub and_then : {A B : Type 0} → (A → Reading B) → Reading A → Reading B
and_then f (Ok x) = f x
and_then f (Err path) = Err path

-- two parts, the first before the second
abbrev pub both : {A B : Type 0} → Reading A → Reading B → Reading (A × B)
both (Ok x) b = mapped (λ y. (x, y)) b
both (Err path) b = Err path
