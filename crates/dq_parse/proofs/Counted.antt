-- Readings of a number of items, and of items that are numbered.
use Rattle.std.proofs.Common.{◌≡◌, ℕ, ◌+◌, ◌<◌, ◌≤◌, ◌^◌, List, [], ◌∷◌, ◌++◌, length, Result, Ok, Err, refl, sym, ap, subst, ◌∙◌, append_assoc, append-nil, length-append, arith}
use Rattle.std.specs.List.{AllByRecursion}
use Rattle.dq_base.specs.Rests.{Anything}
use Rattle.dq_base.specs.Sizes.{Fits}
use Rattle.dq_base.specs.Spelling.{Bytes}
use Rattle.dq_reading.specs.Reading.{IsRead, IsNone}
use Rattle.dq_reading.specs.declared.fault.TextFault.{TextFault}
use Rattle.dq_reading.specs.declared.fault.TextFault.TheVariants as fault
use Rattle.dq_reading.proofs.Loops.{all_more}
use Rattle.dq_parse.specs.Reading.{IsTaken, Takes, Many}

-- Texts of lists, one item behind the other from a number on: `g` is the text of an item with its number, and none is empty.
pub record Lists {X : Type 0} (P : X → Type 0) (T : ℕ → List X → Bytes) (g : ℕ → X → Bytes) : Type 0 where
  pub none : (k : ℕ) → T k [] ≡ []
  pub more : (k : ℕ) (x : X) (xs : List X) → T k (x ∷ xs) ≡ g k x ++ T (k + 1) xs
  pub some : (k : ℕ) (x : X) → P x → 0 < length (g k x)

-- how far the items of a list were read: what is left is the rest of each list that stands there
pub record Met {X : Type 0} (P : X → Type 0) (T : ℕ → List X → Bytes) (n i : ℕ) (before left : Bytes) (done : List X) : Type 0 where
  pub count : length done ≡ i
  pub all : AllByRecursion P done
  pub is : before ≡ T 1 done ++ left
  pub rest : (ys : List X) (r : Bytes) → Many P n ys → before ≡ T 1 ys ++ r → (zs : List X) × (length zs + i ≡ n) × AllByRecursion P zs × (left ≡ T (i + 1) zs ++ r)

pub begins : {X : Type 0} {P : X → Type 0} {T : ℕ → List X → Bytes} {g : ℕ → X → Bytes} (n : ℕ) (before : Bytes) (done : List X) → Lists P T g → done ≡ [] → Met P T n 0 before before done
begins {P = P} {T = T} n before done lists empty =
    subst (Met P T n 0 before before) (sym empty)
    (record {
      count = refl;
      all = tt;
      is = sym (ap (λ t. t ++ before) (lists.none 1));
      rest = λ ys r p h. (ys, omega (arith, p.0), p.1, h);
    })

-- one item at the end
text_more : {X : Type 0} {P : X → Type 0} {T : ℕ → List X → Bytes} {g : ℕ → X → Bytes} → Lists P T g → (k : ℕ) (done : List X) (x : X) (r : Bytes)
    → T k (done ++ x ∷ []) ++ r ≡ T k done ++ (g (k + length done) x ++ r)
text_more {X = X} {T = T} {g = g} lists k [] x r =
    let place : k ≡ k + 0 = omega arith in
    ap (λ t. t ++ r) (lists.more k x [] ∙ ap (λ t. g k x ++ t) (lists.none (k + 1)) ∙ append-nil (g k x)) ∙ ap (λ j. g j x ++ r) place
    ∙ sym (ap (λ t. t ++ (g (k + 0) x ++ r)) (lists.none k))
text_more {T = T} {g = g} lists k (d ∷ ds) x r =
    let place : k + 1 + length ds ≡ k + length (d ∷ ds) = omega arith in
    ap (λ t. t ++ r) (lists.more k d (ds ++ x ∷ [])) ∙ append_assoc (g k d) (T (k + 1) (ds ++ x ∷ [])) r ∙ ap (λ t. g k d ++ t) (text_more lists (k + 1) ds x r)
    ∙ ap (λ j. g k d ++ (T (k + 1) ds ++ (g j x ++ r))) place ∙ sym (append_assoc (g k d) (T (k + 1) ds) (g (k + length (d ∷ ds)) x ++ r))
    ∙ ap (λ t. t ++ (g (k + length (d ∷ ds)) x ++ r)) (sym (lists.more k d ds))

rest_on : {X : Type 0} {P : X → Type 0} {T : ℕ → List X → Bytes} {g : ℕ → X → Bytes} {n i : ℕ} {left after : Bytes} {x : X} → Lists P T g → i < n → IsTaken P Anything (g (i + 1)) left after x
    → (zs : List X) (r : Bytes) → length zs + i ≡ n → AllByRecursion P zs → left ≡ T (i + 1) zs ++ r → (ws : List X) × (length ws + (i + 1) ≡ n) × AllByRecursion P ws × (after ≡ T (i + 1 + 1) ws ++ r)
rest_on lists more t [] r count all h = absurd (omega (arith, count, more))
rest_on {T = T} {g = g} {i = i} lists more t (z ∷ zs) r count all h =
    (zs, omega (arith, count), all.1, t.rest z (T (i + 1 + 1) zs ++ r) all.0 tt (h ∙ ap (λ u. u ++ r) (lists.more (i + 1) z zs) ∙ append_assoc (g (i + 1) z) (T (i + 1 + 1) zs) r))

pub goes_on : {X : Type 0} {P : X → Type 0} {T : ℕ → List X → Bytes} {g : ℕ → X → Bytes} {n i : ℕ} {before left after : Bytes} {done list : List X} {x : X} → Lists P T g → i < n
    → Met P T n i before left done → IsTaken P Anything (g (i + 1)) left after x → list ≡ done ++ x ∷ [] → Met P T n (i + 1) before after list
goes_on {P = P} {T = T} {g = g} {n = n} {i = i} {before = before} {left = left} {after = after} {done = done} {x = x} lists more m t pushed =
    let place : i + 1 ≡ 1 + length done = omega (arith, m.count) in
    subst (Met P T n (i + 1) before after) (sym pushed)
    (record {
      count = length-append done (x ∷ []) ∙ omega (arith, m.count);
      all = all_more P done x m.all t.sized;
      is = m.is ∙ ap (λ u. T 1 done ++ u) (t.is ∙ ap (λ j. g j x ++ after) place) ∙ sym (text_more lists 1 done x after);
      rest = λ ys r p h.
          let one = m.rest ys r p h in
          rest_on lists more t one.0 r one.1 one.2 one.3;
    })

none_on : {X : Type 0} {P : X → Type 0} {T : ℕ → List X → Bytes} {g : ℕ → X → Bytes} {n i : ℕ} {left : Bytes} → Lists P T g → i < n → IsNone P Anything (g (i + 1)) left
    → (zs : List X) (r : Bytes) → length zs + i ≡ n → AllByRecursion P zs → left ≡ T (i + 1) zs ++ r → ⊥
none_on lists more t [] r count all h = omega (arith, count, more)
none_on {T = T} {g = g} {i = i} lists more t (z ∷ zs) r count all h =
    t.none z (T (i + 1 + 1) zs ++ r) all.0 tt (h ∙ ap (λ u. u ++ r) (lists.more (i + 1) z zs) ∙ append_assoc (g (i + 1) z) (T (i + 1 + 1) zs) r)

pub breaks_off : {X : Type 0} {P : X → Type 0} {T : ℕ → List X → Bytes} {g : ℕ → X → Bytes} {n i : ℕ} {before left : Bytes} {done : List X} → Lists P T g → i < n
    → Met P T n i before left done → IsNone P Anything (g (i + 1)) left → IsNone (Many P n) Anything (T 1) before
breaks_off lists more m t = record {
  none = λ ys r p q h.
      let one = m.rest ys r p h in
      none_on lists more t one.0 r one.1 one.2 one.3;
}

rest_last : {X : Type 0} {P : X → Type 0} {T : ℕ → List X → Bytes} {g : ℕ → X → Bytes} (n : ℕ) (left : Bytes) → Lists P T g → (zs : List X) (r : Bytes) → length zs + n ≡ n → left ≡ T (n + 1) zs ++ r → left ≡ r
rest_last n left lists [] r count h = h ∙ ap (λ u. u ++ r) (lists.none (n + 1))
rest_last n left lists (z ∷ zs) r count h = absurd (omega (arith, count))

pub ends : {X : Type 0} {P : X → Type 0} {T : ℕ → List X → Bytes} {g : ℕ → X → Bytes} {n i : ℕ} {before left : Bytes} {done : List X} → Lists P T g → i ≡ n → Met P T n i before left done
    → IsTaken (Many P n) Anything (T 1) before left done
ends {P = P} {T = T} {n = n} {i = i} {before = before} {left = left} {done = done} lists end m =
    let all : Met P T n n before left done = subst (λ j. Met P T n j before left done) end m in
    record {
      sized = (all.count, all.all);
      is = all.is;
      rest = λ ys r p q h.
          let one = all.rest ys r p h in
          rest_last n left lists one.0 r one.1 one.3;
    }

-- no list is longer than its text
pub list_fits : {X : Type 0} {P : X → Type 0} {T : ℕ → List X → Bytes} {g : ℕ → X → Bytes} → Lists P T g → (k : ℕ) (xs : List X) → AllByRecursion P xs → length xs ≤ length (T k xs)
list_fits lists k [] all = omega arith
list_fits {T = T} {g = g} lists k (x ∷ xs) all =
    omega (arith, ap length (lists.more k x xs) ∙ length-append (g k x) (T (k + 1) xs), lists.some k x all.0, list_fits lists (k + 1) xs all.1)

-- a number of items, and then the items

abbrev pub counted : {X : Type 0} → (ℕ → Bytes) → (ℕ → List X → Bytes) → List X → Bytes
counted line T xs = line (length xs) ++ T 1 xs

its_count : {X : Type 0} {P : X → Type 0} {T : ℕ → List X → Bytes} {g : ℕ → X → Bytes} → Lists P T g → (line : ℕ → Bytes) (before : Bytes) → length before < 2 ^ 64
    → (ys : List X) (r : Bytes) → AllByRecursion P ys → before ≡ counted line T ys ++ r → Fits (length ys)
its_count {T = T} lists line before small ys r all h =
    omega (arith, small, ap length h ∙ length-append (line (length ys) ++ T 1 ys) r, length-append (line (length ys)) (T 1 ys), list_fits lists 1 ys all)

pub count_none : {X : Type 0} {P : X → Type 0} {T : ℕ → List X → Bytes} {g : ℕ → X → Bytes} (line : ℕ → Bytes) (before : Bytes) → Lists P T g → length before < 2 ^ 64
    → IsNone Fits Anything line before → IsNone (AllByRecursion P) Anything (counted line T) before
count_none {T = T} line before lists small t = record {
  none = λ ys r p q h. t.none (length ys) (T 1 ys ++ r) (its_count lists line before small ys r p h) tt (h ∙ append_assoc (line (length ys)) (T 1 ys) r);
}

pub counted_takes : {X : Type 0} {P : X → Type 0} {T : ℕ → List X → Bytes} {g : ℕ → X → Bytes} (line : ℕ → Bytes) (before mid after : Bytes) (n : ℕ) (res : Result (List X) TextFault) → Lists P T g → length before < 2 ^ 64
    → IsRead Fits Anything line before mid n → Takes (Many P n) Anything (T 1) mid after res → Takes (AllByRecursion P) Anything (counted line T) before after res
counted_takes {T = T} line before mid after n (Ok xs) lists small t u = record {
  sized = u.sized.1;
  is = t.is ∙ ap (λ m. line n ++ m) u.is ∙ sym (append_assoc (line n) (T 1 xs) after) ∙ ap (λ j. line j ++ T 1 xs ++ after) (sym u.sized.0);
  rest = λ ys r p q h.
      let one = t.only (length ys) (T 1 ys ++ r) (its_count lists line before small ys r p h) tt (h ∙ append_assoc (line (length ys)) (T 1 ys) r) in
      u.rest ys r (sym one.0, p) tt one.1;
}
counted_takes {T = T} line before mid after n (Err fault.NotInGrammar) lists small t u = record {
  none = λ ys r p q h.
      let one = t.only (length ys) (T 1 ys ++ r) (its_count lists line before small ys r p h) tt (h ∙ append_assoc (line (length ys)) (T 1 ys) r) in
      u.none ys r (sym one.0, p) tt one.1;
}
counted_takes line before mid after n (Err fault.Memory) lists small t u = tt
