-- How readings of parts are put together.
use Rattle.std.proofs.Common.{◌≡◌, ◌++◌, Result, Err, sym, ap, subst, ◌∙◌, append_assoc}
use Rattle.std.proofs.lemmas.List.{append_cancel_left}
use Rattle.dq_base.specs.Spelling.{Bytes}
use Rattle.dq_reading.specs.Reading.{IsRead, IsNone, Fails, Reads}
use Rattle.dq_reading.specs.declared.fault.TextFault.{TextFault}
use Rattle.dq_reading.specs.declared.fault.TextFault.TheVariants as fault

-- the same word before each

pub lead_read : {X : Type 0} {P : X → Type 0} {E : Bytes → Type 0} {f : X → Bytes} {before mid after : Bytes} {x : X} (word : Bytes) → before ≡ word ++ mid → IsRead P E f mid after x
    → IsRead P E (λ y. word ++ f y) before after x
lead_read {f = f} {before = before} {mid = mid} {after = after} {x = x} word e t = record {
  sized = t.sized;
  is = e ∙ ap (λ m. word ++ m) t.is ∙ sym (append_assoc word (f x) after);
  only = λ y r p q h. t.only y r p q (append_cancel_left word mid (f y ++ r) (sym e ∙ h ∙ append_assoc word (f y) r));
}

pub lead_none : {X : Type 0} {P : X → Type 0} {E : Bytes → Type 0} {f : X → Bytes} {before mid : Bytes} (word : Bytes) → before ≡ word ++ mid → IsNone P E f mid → IsNone P E (λ y. word ++ f y) before
lead_none {f = f} {mid = mid} word e t = record {
  none = λ y r p q h. t.none y r p q (append_cancel_left word mid (f y ++ r) (sym e ∙ h ∙ append_assoc word (f y) r));
}

pub lead_missing : {X : Type 0} {P : X → Type 0} {E : Bytes → Type 0} {before : Bytes} (f : X → Bytes) (word : Bytes) → ((r : Bytes) → before ≡ word ++ r → ⊥) → IsNone P E (λ y. word ++ f y) before
lead_missing f word miss = record { none = λ y r p q h. miss (f y ++ r) (h ∙ append_assoc word (f y) r) }

-- the same word behind each

pub trail_read : {X : Type 0} {P : X → Type 0} {E F : Bytes → Type 0} {f : X → Bytes} {before mid after : Bytes} {x : X} (word : Bytes) → IsRead P E f before mid x → mid ≡ word ++ after
    → ((r : Bytes) → E (word ++ r)) → IsRead P F (λ y. f y ++ word) before after x
trail_read {f = f} {after = after} {x = x} word t e closes = record {
  sized = t.sized;
  is = t.is ∙ ap (λ m. f x ++ m) e ∙ sym (append_assoc (f x) word after);
  only = λ y r p q h.
      let one = t.only y (word ++ r) p (closes r) (h ∙ append_assoc (f y) word r) in
      (one.0, append_cancel_left word after r (sym e ∙ one.1));
}

pub trail_none : {X : Type 0} {P : X → Type 0} {E F : Bytes → Type 0} {f : X → Bytes} {before : Bytes} (word : Bytes) → IsNone P E f before → ((r : Bytes) → E (word ++ r)) → IsNone P F (λ y. f y ++ word) before
trail_none {f = f} word t closes = record { none = λ y r p q h. t.none y (word ++ r) p (closes r) (h ∙ append_assoc (f y) word r) }

pub trail_missing : {X : Type 0} {P : X → Type 0} {E F : Bytes → Type 0} {f : X → Bytes} {before mid : Bytes} {x : X} (word : Bytes) → IsRead P E f before mid x → ((r : Bytes) → mid ≡ word ++ r → ⊥)
    → ((r : Bytes) → E (word ++ r)) → IsNone P F (λ y. f y ++ word) before
trail_missing {f = f} word t miss closes = record {
  none = λ y r p q h.
      let one = t.only y (word ++ r) p (closes r) (h ∙ append_assoc (f y) word r) in
      miss r one.1;
}

-- one behind the other

pub pair_read : {X Y : Type 0} {P : X → Type 0} {Q : Y → Type 0} {E F : Bytes → Type 0} {f : X → Bytes} {g : Y → Bytes} {before mid after : Bytes} {x : X} {y : Y}
    → IsRead P E f before mid x → IsRead Q F g mid after y → ((z : Y) (r : Bytes) → Q z → F r → E (g z ++ r)) → IsRead (λ (p : X × Y). P p.0 × Q p.1) F (λ p. f p.0 ++ g p.1) before after (x, y)
pair_read {f = f} {g = g} {after = after} {x = x} {y = y} t u opens = record {
  sized = (t.sized, u.sized);
  is = t.is ∙ ap (λ m. f x ++ m) u.is ∙ sym (append_assoc (f x) (g y) after);
  only = λ z r p q h.
      let one = t.only z.0 (g z.1 ++ r) p.0 (opens z.1 r p.1 q) (h ∙ append_assoc (f z.0) (g z.1) r) in
      let two = u.only z.1 r p.1 q one.1 in
      (λ i. (one.0 i, two.0 i), two.1);
}

pub first_none : {X Y : Type 0} {P : X → Type 0} {Q : Y → Type 0} {E F : Bytes → Type 0} {f : X → Bytes} {before : Bytes} (g : Y → Bytes)
    → IsNone P E f before → ((z : Y) (r : Bytes) → Q z → F r → E (g z ++ r)) → IsNone (λ (p : X × Y). P p.0 × Q p.1) F (λ p. f p.0 ++ g p.1) before
first_none {f = f} g t opens = record {
  none = λ z r p q h. t.none z.0 (g z.1 ++ r) p.0 (opens z.1 r p.1 q) (h ∙ append_assoc (f z.0) (g z.1) r);
}

pub second_none : {X Y : Type 0} {P : X → Type 0} {Q : Y → Type 0} {E F : Bytes → Type 0} {f : X → Bytes} {g : Y → Bytes} {before mid : Bytes} {x : X}
    → IsRead P E f before mid x → IsNone Q F g mid → ((z : Y) (r : Bytes) → Q z → F r → E (g z ++ r)) → IsNone (λ (p : X × Y). P p.0 × Q p.1) F (λ p. f p.0 ++ g p.1) before
second_none {f = f} {g = g} t u opens = record {
  none = λ z r p q h.
      let one = t.only z.0 (g z.1 ++ r) p.0 (opens z.1 r p.1 q) (h ∙ append_assoc (f z.0) (g z.1) r) in
      u.none z.1 r p.1 q one.1;
}

-- a part as another kind of part: `K` makes it, and all that can stand there is made so

pub as_read : {X Y : Type 0} {P : X → Type 0} {Q : Y → Type 0} {E : Bytes → Type 0} {f : X → Bytes} {g : Y → Bytes} {before after : Bytes} {x : X} (K : X → Y)
    → ((z : X) → P z → g (K z) ≡ f z) → ((z : X) → P z → Q (K z)) → ((y : Y) (r : Bytes) → Q y → E r → before ≡ g y ++ r → (z : X) × (y ≡ K z) × P z) → IsRead P E f before after x → IsRead Q E g before after (K x)
as_read {f = f} {g = g} {after = after} {x = x} K same sized back t = record {
  sized = sized x t.sized;
  is = t.is ∙ ap (λ w. w ++ after) (sym (same x t.sized));
  only = λ y r p q h.
      let one = back y r p q h in
      let two = t.only one.0 r one.2 q (h ∙ ap (λ w. w ++ r) (ap g one.1 ∙ same one.0 one.2)) in
      (ap K two.0 ∙ sym one.1, two.1);
}

pub as_none : {X Y : Type 0} {P : X → Type 0} {Q : Y → Type 0} {E : Bytes → Type 0} {f : X → Bytes} {g : Y → Bytes} {before : Bytes} (K : X → Y)
    → ((z : X) → P z → g (K z) ≡ f z) → ((y : Y) (r : Bytes) → Q y → E r → before ≡ g y ++ r → (z : X) × (y ≡ K z) × P z) → IsNone P E f before → IsNone Q E g before
as_none {g = g} K same back t = record {
  none = λ y r p q h.
      let one = back y r p q h in
      t.none one.0 r one.2 q (h ∙ ap (λ w. w ++ r) (ap g one.1 ∙ same one.0 one.2));
}

-- a part of other sizes, or before fewer rests

pub sized_read : {X : Type 0} {P Q : X → Type 0} {E : Bytes → Type 0} {f : X → Bytes} {before after : Bytes} {x : X} → ((z : X) → P z → Q z) → ((z : X) → Q z → P z) → IsRead P E f before after x → IsRead Q E f before after x
sized_read to from t = record { sized = to _ t.sized; is = t.is; only = λ y r p. t.only y r (from y p) }

pub sized_none : {X : Type 0} {P Q : X → Type 0} {E : Bytes → Type 0} {f : X → Bytes} {before : Bytes} → ((z : X) → Q z → P z) → IsNone P E f before → IsNone Q E f before
sized_none from t = record { none = λ y r p. t.none y r (from y p) }

pub fewer_read : {X : Type 0} {P : X → Type 0} {E C : Bytes → Type 0} {f : X → Bytes} {before after : Bytes} {x : X} → ((r : Bytes) → C r → E r) → IsRead P E f before after x → IsRead P C f before after x
fewer_read fewer t = record { sized = t.sized; is = t.is; only = λ y r p q. t.only y r p (fewer r q) }

pub fewer_none : {X : Type 0} {P : X → Type 0} {E C : Bytes → Type 0} {f : X → Bytes} {before : Bytes} → ((r : Bytes) → C r → E r) → IsNone P E f before → IsNone P C f before
fewer_none fewer t = record { none = λ y r p q. t.none y r p (fewer r q) }

-- a fault of a part that makes the whole fail
pub on_fault : {X Y : Type 0} {P : X → Type 0} {Q : Y → Type 0} {E F : Bytes → Type 0} {f : X → Bytes} {g : Y → Bytes} {before whole : Bytes} (e : TextFault) → Fails P E f before e
    → (IsNone P E f before → IsNone Q F g whole) → Fails Q F g whole e
on_fault fault.NotInGrammar t fails = fails t
on_fault fault.Memory t fails = tt

-- the same, where a `?` passed the fault on
pub passed_on : {X Y : Type 0} {P : X → Type 0} {Q : Y → Type 0} {E F : Bytes → Type 0} {f : X → Bytes} {g : Y → Bytes} {before whole : Bytes} (after : Bytes) (r : Result Y TextFault) (e : TextFault)
    → ((x : TextFault) × (r ≡ Err x) × (x ≡ e)) → Fails P E f before e → (IsNone P E f before → IsNone Q F g whole) → Reads Q F g whole after r
passed_on {Q = Q} {F = F} {g = g} {whole = whole} after r e p t fails = subst (Reads Q F g whole after) (sym (p.1 ∙ ap Err p.2)) (on_fault e t fails)
