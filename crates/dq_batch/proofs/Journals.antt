-- What stays of a batch's entry, and of what stood before it, as the journal grows.
use Rattle.std.proofs.Common.{◌≡◌, ℕ, zero, suc, ◌+◌, ◌-◌, ◌<◌, ◌≤◌, Bool, true, false, List, [], ◌∷◌, ◌++◌, length, refl, ap, sym, ◌∙◌, arith}
use Rattle.std.proofs.lemmas.Bool.Decides.{nat_tests}
use Rattle.std.proofs.lemmas.List.{take-append-le}
use Rattle.std.specs.Prelude.{Option, Some, None, nat_eq, slice_get, if◌then◌else◌}
use Rattle.dq_base.specs.Scripts.{numbered}
use Rattle.dq_extract.specs.Loads.{LoadedFiles}
use Rattle.dq_fates.proofs.Rows.{rows_since, rows_stand}
use Rattle.dq_journal.specs.Steps.{is_end, step_in}
use Rattle.dq_journal.specs.declared.entry.Entry.{Entry}
use Rattle.dq_journal.specs.declared.entry.Entry.TheVariants.{Publish, Admit, Lease, Give, Lose, Land, Fall, Take, End}
use Rattle.dq_laws.specs.Settled.{brings}
use Rattle.dq_machine.specs.Machine.{after}
use Rattle.dq_machine.specs.Owning.{started_in}
use Rattle.dq_machine.specs.Publishing.{rows_at, rows_in, stamp_in}
use Rattle.dq_batch.specs.Open.{versions_at}

-- items by their numbers

module _ {X : Type 0} where
  got_first : (xs ys : List X) (i : ℕ) (x : X) → slice_get xs i ≡ Some x → slice_get (xs ++ ys) i ≡ Some x
  got_first [] ys i x e = let no : ⊥ = cc in absurd no
  got_first (y ∷ xs) ys zero x e = e
  got_first (y ∷ xs) ys (suc i) x e = got_first xs ys i x e

  got_below : (xs : List X) (i : ℕ) (x : X) → slice_get xs i ≡ Some x → i < length xs
  got_below [] i x e = let no : ⊥ = cc in absurd no
  got_below (y ∷ xs) zero x e = omega arith
  got_below (y ∷ xs) (suc i) x e = let lt = got_below xs i x e in omega (arith, lt)

  some_by : (b : Bool) (o : Option X) (x : X) → (if b then None else o) ≡ Some x → (b ≡ false) × (o ≡ Some x)
  some_by true o x e = let no : ⊥ = cc in absurd no
  some_by false o x e = (refl, e)

  numbered_parts : (xs : List X) (number : ℕ) (x : X) → numbered xs number ≡ Some x → (nat_eq number 0 ≡ false) × (slice_get xs (number - 1) ≡ Some x)
  numbered_parts xs number x e = some_by (nat_eq number 0) (slice_get xs (number - 1)) x e

  pub numbered_stays : (xs ys : List X) (number : ℕ) (x : X) → numbered xs number ≡ Some x → numbered (xs ++ ys) number ≡ Some x
  numbered_stays xs ys number x e = let both = numbered_parts xs number x e in rw both.0 (got_first xs ys (number - 1) x both.1)

  pub numbered_within : (xs : List X) (number : ℕ) (x : X) → numbered xs number ≡ Some x → (0 < number) × (number ≤ length xs)
  numbered_within xs number x e =
      let both = numbered_parts xs number x e in
      let told : nat_eq number 0 ≡ false = both.0 in
      let above : 0 < number = grind (arith, nat_tests) in
      let lt = got_below xs (number - 1) x both.1 in
      (above, omega (arith, above, lt))

  last_got : (xs : List X) (x : X) → slice_get (xs ++ x ∷ []) (length xs) ≡ Some x
  last_got [] x = refl
  last_got (y ∷ xs) x = last_got xs x

  pub numbered_last : (xs : List X) (x : X) (number : ℕ) → number ≡ length xs + 1 → numbered (xs ++ x ∷ []) number ≡ Some x
  numbered_last xs x number is =
      let told : nat_eq number 0 ≡ false = grind (arith, nat_tests) in
      let at : number - 1 ≡ length xs = omega (arith, is) in
      rw (told, at) (last_got xs x)

-- what stood before the entry

pub versions_stay : (l : LoadedFiles) (journal more : List Entry) (place : ℕ) → place ≤ length journal → versions_at l (journal ++ more) place ≡ versions_at l journal place
versions_stay l journal more place le =
    let within : place - 1 ≤ length journal = omega (arith, le) in ap (λ es. (after l es).versions) (take-append-le (place - 1) journal more within)

pub stood_rows : (l : LoadedFiles) (journal : List Entry) (place source : ℕ) → rows_at (after l journal).versions (stamp_in (versions_at l journal place) source) ≡ rows_in (versions_at l journal place) source
stood_rows l journal place source = rows_since l journal place source ∙ sym (rows_stand l journal place source)

-- an entry on the way of a flight

pub brings_starts : (flight : ℕ) (e : Entry) → brings flight e ≡ true → started_in e ≡ []
brings_starts flight (Publish lane step) h = refl
brings_starts flight (Admit lane step met) h = refl
brings_starts flight (Lease lane f link fresh) h = refl
brings_starts flight (Give lane f link ran runs calls) h = refl
brings_starts flight (Lose lane f link dialled ran runs calls) h = refl
brings_starts flight (Land lane f cells clever literal) h = refl
brings_starts flight (Fall lane f cause) h = refl
brings_starts flight (Take lane f next) h = let no : ⊥ = cc in absurd no
brings_starts flight (End lane) h = refl

pub brings_names : (flight : ℕ) (e : Entry) → brings flight e ≡ true → (step_in e ≡ []) × (is_end e ≡ false)
brings_names flight (Publish lane step) h = let no : ⊥ = cc in absurd no
brings_names flight (Admit lane step met) h = let no : ⊥ = cc in absurd no
brings_names flight (Lease lane f link fresh) h = (refl, refl)
brings_names flight (Give lane f link ran runs calls) h = (refl, refl)
brings_names flight (Lose lane f link dialled ran runs calls) h = (refl, refl)
brings_names flight (Land lane f cells clever literal) h = (refl, refl)
brings_names flight (Fall lane f cause) h = (refl, refl)
brings_names flight (Take lane f next) h = let no : ⊥ = cc in absurd no
brings_names flight (End lane) h = let no : ⊥ = cc in absurd no
