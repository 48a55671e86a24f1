-- Readings of parts one behind the other, in a loop.
use Rattle.std.proofs.Common.{◌≡◌, false, List, [], ◌∷◌, ◌++◌, flat_map, refl, sym, ap, subst, ◌∙◌, append_assoc}
use Rattle.std.specs.List.{AllByRecursion}
use Rattle.std.proofs.lemmas.List.{append-nil}
use Rattle.dq_base.specs.Spelling.{Bytes}
use Rattle.dq_reading.specs.Reading.{IsRead, IsNone}

-- The parts that were read so far stand at the front, and all that can stand there begins with them. `Q` is what the types of
-- lists keep, `T` the text of a list, and `g` the text of a further part.
pub record SoFar {X : Type 0} (Q : List X → Type 0) (P : X → Type 0) (C : Bytes → Type 0) (T : List X → Bytes) (g : X → Bytes) (before left : Bytes) (done : List X) : Type 0 where
  pub all : Q done
  pub is : before ≡ T done ++ left
  pub only : (ys : List X) (r : Bytes) → Q ys → C r → before ≡ T ys ++ r → (zs : List X) × (ys ≡ done ++ zs) × AllByRecursion P zs × (left ≡ flat_map g zs ++ r)

-- how a list grows
pub record Grows {X : Type 0} (Q : List X → Type 0) (P : X → Type 0) (T : List X → Bytes) (g : X → Bytes) : Type 0 where
  pub sized : (done : List X) (x : X) → Q done → P x → Q (done ++ x ∷ [])
  pub text : (done : List X) (x : X) (r : Bytes) → Q done → T (done ++ x ∷ []) ++ r ≡ T done ++ (g x ++ r)

pub all_more : {X : Type 0} (P : X → Type 0) (done : List X) (x : X) → AllByRecursion P done → P x → AllByRecursion P (done ++ x ∷ [])
all_more P [] x all p = (p, tt)
all_more P (d ∷ ds) x all p = (all.0, all_more P ds x all.1 p)

pub flat_more : {X : Type 0} (g : X → Bytes) (done : List X) (x : X) (r : Bytes) → flat_map g (done ++ x ∷ []) ++ r ≡ flat_map g done ++ (g x ++ r)
flat_more g [] x r = append_assoc (g x) [] r
flat_more g (d ∷ ds) x r =
    append_assoc (g d) (flat_map g (ds ++ x ∷ [])) r ∙ ap (λ t. g d ++ t) (flat_more g ds x r) ∙ sym (append_assoc (g d) (flat_map g ds) (g x ++ r))

pub flat_grows : {X : Type 0} (P : X → Type 0) (g : X → Bytes) → Grows (AllByRecursion P) P (flat_map g) g
flat_grows P g = record { sized = λ done x all p. all_more P done x all p; text = λ done x r all. flat_more g done x r }

-- at first

pub flat_begins : {X : Type 0} (P : X → Type 0) (C : Bytes → Type 0) (g : X → Bytes) (before : Bytes) → SoFar (AllByRecursion P) P C (flat_map g) g before before []
flat_begins P C g before = record { all = tt; is = refl; only = λ ys r p q h. (ys, refl, p, h) }

-- one further

next_only : {X : Type 0} {P : X → Type 0} {E C : Bytes → Type 0} {g : X → Bytes} {left after : Bytes} {x : X} (done ys zs : List X) (r : Bytes) → IsRead P E g left after x
    → ((ws : List X) (s : Bytes) → AllByRecursion P ws → C s → E (flat_map g ws ++ s)) → ((s : Bytes) → C s → left ≡ s → ⊥)
    → ys ≡ done ++ zs → AllByRecursion P zs → C r → left ≡ flat_map g zs ++ r → (ws : List X) × (ys ≡ (done ++ x ∷ []) ++ ws) × AllByRecursion P ws × (after ≡ flat_map g ws ++ r)
next_only done ys [] r t opens goes same all q h = absurd (goes r q h)
next_only {g = g} {x = x} done ys (z ∷ zs) r t opens goes same all q h =
    let one = t.only z (flat_map g zs ++ r) all.0 (opens zs r all.1 q) (h ∙ append_assoc (g z) (flat_map g zs) r) in
    (zs, same ∙ ap (λ w. done ++ w ∷ zs) (sym one.0) ∙ sym (append_assoc done (x ∷ []) zs), all.1, one.1)

pub goes_further : {X : Type 0} {Q : List X → Type 0} {P : X → Type 0} {E C : Bytes → Type 0} {T : List X → Bytes} {g : X → Bytes} {before left after : Bytes} {done : List X} {x : X} → Grows Q P T g
    → SoFar Q P C T g before left done → IsRead P E g left after x → ((ws : List X) (s : Bytes) → AllByRecursion P ws → C s → E (flat_map g ws ++ s)) → ((s : Bytes) → C s → left ≡ s → ⊥)
    → SoFar Q P C T g before after (done ++ x ∷ [])
goes_further {T = T} {after = after} {done = done} {x = x} grows s t opens goes = record {
  all = grows.sized done x s.all t.sized;
  is = s.is ∙ ap (λ m. T done ++ m) t.is ∙ sym (grows.text done x after s.all);
  only = λ ys r p q h.
      let one = s.only ys r p q h in
      next_only done ys one.0 r t opens goes one.1 one.2 q one.3;
}

none_next : {X : Type 0} {P : X → Type 0} {E C : Bytes → Type 0} {g : X → Bytes} {left : Bytes} (zs : List X) (r : Bytes) → IsNone P E g left
    → ((ws : List X) (s : Bytes) → AllByRecursion P ws → C s → E (flat_map g ws ++ s)) → ((s : Bytes) → C s → left ≡ s → ⊥) → AllByRecursion P zs → C r → left ≡ flat_map g zs ++ r → ⊥
none_next [] r t opens goes all q h = goes r q h
none_next {g = g} (z ∷ zs) r t opens goes all q h = t.none z (flat_map g zs ++ r) all.0 (opens zs r all.1 q) (h ∙ append_assoc (g z) (flat_map g zs) r)

-- a part that must stand there doesn't
pub breaks_off : {X : Type 0} {Q : List X → Type 0} {P : X → Type 0} {E C : Bytes → Type 0} {T : List X → Bytes} {g : X → Bytes} {before left : Bytes} {done : List X}
    → SoFar Q P C T g before left done → IsNone P E g left → ((ws : List X) (s : Bytes) → AllByRecursion P ws → C s → E (flat_map g ws ++ s)) → ((s : Bytes) → C s → left ≡ s → ⊥) → IsNone Q C T before
breaks_off s t opens goes = record {
  none = λ ys r p q h.
      let one = s.only ys r p q h in
      none_next one.0 r t opens goes one.2 q one.3;
}

-- at the end

last_only : {X : Type 0} {P : X → Type 0} {left : Bytes} (g : X → Bytes) (done ys zs : List X) (r : Bytes) → ((z : X) (s : Bytes) → P z → left ≡ g z ++ s → ⊥)
    → ys ≡ done ++ zs → AllByRecursion P zs → left ≡ flat_map g zs ++ r → (done ≡ ys) × (left ≡ r)
last_only g done ys [] r stops same all h = (sym (same ∙ append-nil done), h)
last_only g done ys (z ∷ zs) r stops same all h = absurd (stops z (flat_map g zs ++ r) all.0 (h ∙ append_assoc (g z) (flat_map g zs) r))

pub stops_there : {X : Type 0} {Q : List X → Type 0} {P : X → Type 0} {C : Bytes → Type 0} {T : List X → Bytes} {g : X → Bytes} {before left : Bytes} {done : List X}
    → SoFar Q P C T g before left done → ((z : X) (s : Bytes) → P z → left ≡ g z ++ s → ⊥) → IsRead Q C T before left done
stops_there {g = g} {done = done} s stops = record {
  sized = s.all;
  is = s.is;
  only = λ ys r p q h.
      let one = s.only ys r p q h in
      last_only g done ys one.0 r stops one.1 one.2 one.3;
}
