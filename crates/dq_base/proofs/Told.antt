-- What a text tells, and how texts that tell are put together.
use Rattle.std.proofs.Common.{◌≡◌, ℕ, List, [], ◌∷◌, ◌++◌, length, flat_map, get_or, refl, sym, ap, subst, ◌∙◌, append_assoc, arith}
use Rattle.std.specs.List.{AllByRecursion}
use Rattle.std.proofs.lemmas.List.{append_cancel_left}
use Rattle.dq_base.specs.Rests.{Anything}
use Rattle.dq_base.specs.Sizes.{Fits}
use Rattle.dq_base.specs.Spelling.{Bytes}

abbrev pub second : Bytes → ℕ
second bs = get_or bs 1 0

abbrev pub third : Bytes → ℕ
third bs = get_or bs 2 0

-- before such rests, equal texts are of equal things, and have equal rests
pub record Tells {X : Type 0} (P : X → Type 0) (E : Bytes → Type 0) (f : X → Bytes) : Type 0 where
  pub same : (x y : X) (r s : Bytes) → P x → P y → E r → E s → f x ++ r ≡ f y ++ s → (x ≡ y) × (r ≡ s)

-- a number of words, each read back from its text
pub worded : {X : Type 0} (f : X → Bytes) (read : Bytes → X) → ((x : X) (r : Bytes) → read (f x ++ r) ≡ x) → Tells (λ x. Unit {0}) Anything f
worded f read is = record {
  same = λ x y r s p q a b e.
      let one : x ≡ y = sym (is x r) ∙ ap read e ∙ is y s in
      (one, append_cancel_left (f y) r s (ap (λ z. f z ++ r) (sym one) ∙ e));
}

-- the same word before each
pub lead : {X : Type 0} {P : X → Type 0} {E : Bytes → Type 0} {f : X → Bytes} (word : Bytes) → Tells P E f → Tells P E (λ x. word ++ f x)
lead {f = f} word t = record {
  same = λ x y r s p q a b e.
      t.same x y r s p q a b (append_cancel_left word (f x ++ r) (f y ++ s) (sym (append_assoc word (f x) r) ∙ e ∙ append_assoc word (f y) s));
}

-- the same word behind each
pub trail : {X : Type 0} {P : X → Type 0} {E : Bytes → Type 0} {f : X → Bytes} (word : Bytes) → Tells P E f → ((r : Bytes) → E (word ++ r)) → Tells P Anything (λ x. f x ++ word)
trail {f = f} word t closes = record {
  same = λ x y r s p q a b e.
      let one = t.same x y (word ++ r) (word ++ s) p q (closes r) (closes s) (sym (append_assoc (f x) word r) ∙ e ∙ append_assoc (f y) word s) in
      (one.0, append_cancel_left word r s one.1);
}

-- one behind the other
pub both : {X Y : Type 0} {P : X → Type 0} {Q : Y → Type 0} {E F : Bytes → Type 0} {f : X → Bytes} {g : Y → Bytes}
    → Tells P E f → Tells Q F g → ((y : Y) (r : Bytes) → Q y → F r → E (g y ++ r)) → Tells (λ (p : X × Y). P p.0 × Q p.1) F (λ p. f p.0 ++ g p.1)
both {f = f} {g = g} t u opens = record {
  same = λ x y r s p q a b e.
      let one = t.same x.0 y.0 (g x.1 ++ r) (g y.1 ++ s) p.0 q.0 (opens x.1 r p.1 a) (opens y.1 s q.1 b)
      (sym (append_assoc (f x.0) (g x.1) r) ∙ e ∙ append_assoc (f y.0) (g y.1) s) in
      let two = u.same x.1 y.1 r s p.1 q.1 a b one.1 in
      (λ i. (one.0 i, two.0 i), two.1);
}

-- lists of one length
sized_lists : {X : Type 0} (P : X → Type 0) (f : X → Bytes) → Tells P Anything f → (xs ys : List X) (r s : Bytes) → AllByRecursion P xs → AllByRecursion P ys → length xs ≡ length ys
    → flat_map f xs ++ r ≡ flat_map f ys ++ s → (xs ≡ ys) × (r ≡ s)
sized_lists P f t [] [] r s p q n e = (refl, e)
sized_lists P f t [] (y ∷ ys) r s p q n e = absurd (omega (arith, n))
sized_lists P f t (x ∷ xs) [] r s p q n e = absurd (omega (arith, n))
sized_lists P f t (x ∷ xs) (y ∷ ys) r s p q n e =
    let one = t.same x y (flat_map f xs ++ r) (flat_map f ys ++ s) p.0 q.0 tt tt (sym (append_assoc (f x) (flat_map f xs) r) ∙ e ∙ append_assoc (f y) (flat_map f ys) s) in
    let two = sized_lists P f t xs ys r s p.1 q.1 (omega (arith, n)) one.1 in
    (λ i. one.0 i ∷ two.0 i, two.1)

-- how many items, and each of them
pub counted : {X : Type 0} {P : X → Type 0} {f : X → Bytes} {g : ℕ → Bytes} → Tells Fits Anything g → Tells P Anything f
    → Tells (λ xs. Fits (length xs) × AllByRecursion P xs) Anything (λ xs. g (length xs) ++ flat_map f xs)
counted {P = P} {f = f} {g = g} u t = record {
  same = λ xs ys r s p q a b e.
      let one = u.same (length xs) (length ys) (flat_map f xs ++ r) (flat_map f ys ++ s) p.0 q.0 tt tt
      (sym (append_assoc (g (length xs)) (flat_map f xs) r) ∙ e ∙ append_assoc (g (length ys)) (flat_map f ys) s) in
      sized_lists P f t xs ys r s p.1 q.1 one.0 one.1;
}

-- items up to a rest that none begins as
pub record Goes {X : Type 0} (P : X → Type 0) (E C : Bytes → Type 0) (f : X → Bytes) : Type 0 where
  pub opens : (x : X) (r : Bytes) → P x → E (f x ++ r)
  pub closes : (r : Bytes) → C r → E r
  pub apart : (x : X) (r : Bytes) → P x → C (f x ++ r) → ⊥

pub goes_on : {X : Type 0} (P : X → Type 0) (E C : Bytes → Type 0) (f : X → Bytes) → Goes P E C f → (xs : List X) (r : Bytes) → AllByRecursion P xs → C r → E (flat_map f xs ++ r)
goes_on P E C f g [] r p c = g.closes r c
goes_on P E C f g (x ∷ xs) r p c = subst E (sym (append_assoc (f x) (flat_map f xs) r)) (g.opens x (flat_map f xs ++ r) p.0)

until_lists : {X : Type 0} (P : X → Type 0) (E C : Bytes → Type 0) (f : X → Bytes) → Tells P E f → Goes P E C f → (xs ys : List X) (r s : Bytes) → AllByRecursion P xs → AllByRecursion P ys → C r → C s
    → flat_map f xs ++ r ≡ flat_map f ys ++ s → (xs ≡ ys) × (r ≡ s)
until_lists P E C f t g [] [] r s p q a b e = (refl, e)
until_lists P E C f t g [] (y ∷ ys) r s p q a b e = absurd (g.apart y (flat_map f ys ++ s) q.0 (subst C (e ∙ append_assoc (f y) (flat_map f ys) s) a))
until_lists P E C f t g (x ∷ xs) [] r s p q a b e = absurd (g.apart x (flat_map f xs ++ r) p.0 (subst C (sym e ∙ append_assoc (f x) (flat_map f xs) r) b))
until_lists P E C f t g (x ∷ xs) (y ∷ ys) r s p q a b e =
    let one = t.same x y (flat_map f xs ++ r) (flat_map f ys ++ s) p.0 q.0 (goes_on P E C f g xs r p.1 a) (goes_on P E C f g ys s q.1 b)
    (sym (append_assoc (f x) (flat_map f xs) r) ∙ e ∙ append_assoc (f y) (flat_map f ys) s) in
    let two = until_lists P E C f t g xs ys r s p.1 q.1 a b one.1 in
    (λ i. one.0 i ∷ two.0 i, two.1)

pub until : {X : Type 0} {P : X → Type 0} {E C : Bytes → Type 0} {f : X → Bytes} → Tells P E f → Goes P E C f → Tells (AllByRecursion P) C (flat_map f)
until {P = P} {E = E} {C = C} {f = f} t g = record { same = until_lists P E C f t g }

-- before fewer rests
pub before : {X : Type 0} {P : X → Type 0} {E C : Bytes → Type 0} {f : X → Bytes} → ((r : Bytes) → C r → E r) → Tells P E f → Tells P C f
before fewer t = record { same = λ x y r s p q a b. t.same x y r s p q (fewer r a) (fewer s b) }
