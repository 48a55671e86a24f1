-- Takings of parts.
use Rattle.std.proofs.Common.{◌≡◌, ℕ, ◌++◌, Result, Ok, Err, decimal, sym, ap, subst, ◌∙◌, append_assoc}
use Rattle.std.proofs.lemmas.List.{append_cancel_left}
use Rattle.dq_base.specs.Rests.{Stops}
use Rattle.dq_base.specs.Spelling.{Bytes}
use Rattle.dq_reading.specs.Reading.{IsRead, IsNone, Fails}
use Rattle.dq_reading.specs.declared.fault.TextFault.{TextFault}
use Rattle.dq_reading.specs.declared.fault.TextFault.TheVariants as fault
use Rattle.dq_reading.proofs.Readings.{on_fault, lead_none}
use Rattle.dq_parse.specs.Reading.{Any, IsTaken, Takes, marked}

-- what was read is taken
pub read_taken : {X : Type 0} {P : X → Type 0} {E : Bytes → Type 0} {f : X → Bytes} {before after : Bytes} {x : X} → IsRead P E f before after x → IsTaken P E f before after x
read_taken t = record { sized = t.sized; is = t.is; rest = λ y r p q h. (t.only y r p q h).1 }

-- a fault of a part that a `?` passed on
pub takes_passed : {X Y : Type 0} {P : X → Type 0} {Q : Y → Type 0} {E F : Bytes → Type 0} {f : X → Bytes} {g : Y → Bytes} {before whole : Bytes} (after : Bytes) (r : Result Y TextFault) (e : TextFault)
    → ((x : TextFault) × (r ≡ Err x) × (x ≡ e)) → Fails P E f before e → (IsNone P E f before → IsNone Q F g whole) → Takes Q F g whole after r
takes_passed {Q = Q} {F = F} {g = g} {whole = whole} after r e p t fails = subst (Takes Q F g whole after) (sym (p.1 ∙ ap Err p.2)) (on_fault e t fails)

-- a part as another kind of part, of the same texts
pub as_taken : {X Y : Type 0} {P : X → Type 0} {Q : Y → Type 0} {E : Bytes → Type 0} {f : X → Bytes} {g : Y → Bytes} {before after : Bytes} {x : X} (y : Y) → Q y → g y ≡ f x
    → ((y : Y) (r : Bytes) → Q y → E r → before ≡ g y ++ r → (z : X) × (g y ≡ f z) × P z) → IsTaken P E f before after x → IsTaken Q E g before after y
as_taken {g = g} {after = after} y sized same back t = record {
  sized = sized;
  is = t.is ∙ ap (λ w. w ++ after) (sym same);
  rest = λ y r p q h.
      let one = back y r p q h in
      t.rest one.0 r one.2 q (h ∙ ap (λ w. w ++ r) one.1);
}

pub as_missing : {X Y : Type 0} {P : X → Type 0} {Q : Y → Type 0} {E : Bytes → Type 0} {f : X → Bytes} {g : Y → Bytes} {before : Bytes}
    → ((y : Y) (r : Bytes) → Q y → E r → before ≡ g y ++ r → (z : X) × (g y ≡ f z) × P z) → IsNone P E f before → IsNone Q E g before
as_missing {g = g} back t = record {
  none = λ y r p q h.
      let one = back y r p q h in
      t.none one.0 r one.2 q (h ∙ ap (λ w. w ++ r) one.1);
}

-- the same word before each
pub lead_taken : {X : Type 0} {P : X → Type 0} {E : Bytes → Type 0} {f : X → Bytes} {before mid after : Bytes} {x : X} (word : Bytes) → before ≡ word ++ mid → IsTaken P E f mid after x
    → IsTaken P E (λ y. word ++ f y) before after x
lead_taken {f = f} {mid = mid} {after = after} {x = x} word e t = record {
  sized = t.sized;
  is = e ∙ ap (λ m. word ++ m) t.is ∙ sym (append_assoc word (f x) after);
  rest = λ y r p q h. t.rest y r p q (append_cancel_left word mid (f y ++ r) (sym e ∙ h ∙ append_assoc word (f y) r));
}

pub lead_takes : {X : Type 0} (P : X → Type 0) (E : Bytes → Type 0) (f : X → Bytes) (before mid after word : Bytes) (res : Result X TextFault) → before ≡ word ++ mid
    → Takes P E f mid after res → Takes P E (λ x. word ++ f x) before after res
lead_takes P E f before mid after word (Ok x) e t = lead_taken word e t
lead_takes P E f before mid after word (Err fault.NotInGrammar) e t = lead_none word e t
lead_takes P E f before mid after word (Err fault.Memory) e t = tt

-- equal texts, and parts of fewer kinds where no other stands there
pub same_takes : {X : Type 0} (P Q : X → Type 0) (E : Bytes → Type 0) (f g : X → Bytes) (before after : Bytes) (res : Result X TextFault) → ((x : X) → P x → g x ≡ f x) → ((x : X) → P x → Q x)
    → ((x : X) (r : Bytes) → Q x → before ≡ g x ++ r → P x) → Takes P E f before after res → Takes Q E g before after res
same_takes P Q E f g before after (Ok x) same wider back t = as_taken x (wider x t.sized) (same x t.sized) (λ y r p q h. let s : P y = back y r p h in (y, same y s, s)) t
same_takes P Q E f g before after (Err fault.NotInGrammar) same wider back t = as_missing (λ y r p q h. let s : P y = back y r p h in (y, same y s, s)) t
same_takes P Q E f g before after (Err fault.Memory) same wider back t = tt

-- a word and a number before each part, none of which goes on with a digit

pub marked_takes : {X : Type 0} (P : X → Type 0) (E : Bytes → Type 0) (f : X → Bytes) (before mid after word : Bytes) (n : ℕ) (u : Unit {0}) (res : Result X TextFault) → IsRead Any Stops (marked word n) before mid u
    → Takes P E f mid after res → Takes P E (λ x. word ++ decimal n ++ f x) before after res
marked_takes P E f before mid after word n u res t s = lead_takes P E f before mid after (word ++ decimal n) res t.is s

pub marked_none : {X : Type 0} {P : X → Type 0} {E : Bytes → Type 0} {before : Bytes} (f : X → Bytes) (word : Bytes) (n : ℕ) → ((x : X) (r : Bytes) → Stops (f x ++ r)) → IsNone Any Stops (marked word n) before
    → IsNone P E (λ x. word ++ decimal n ++ f x) before
marked_none f word n opens t = record { none = λ y r p q h. t.none tt (f y ++ r) tt (opens y r) (h ∙ append_assoc (word ++ decimal n) (f y) r) }

-- one part behind another, where the whole is a part of another kind

pub both_taken : {X Y Z : Type 0} {P : X → Type 0} {Q : Y → Type 0} {R : Z → Type 0} {E F : Bytes → Type 0} {f : X → Bytes} {g : Y → Bytes} {h : Z → Bytes} {before mid after : Bytes} {x : X} {y : Y} (z : Z) → R z → h z ≡ f x ++ g y
    → ((z : Z) (r : Bytes) → R z → F r → before ≡ h z ++ r → (x : X) × (y : Y) × (h z ≡ f x ++ g y) × P x × Q y) → ((y : Y) (r : Bytes) → Q y → F r → E (g y ++ r))
    → IsTaken P E f before mid x → IsTaken Q F g mid after y → IsTaken R F h before after z
both_taken {f = f} {g = g} {after = after} {x = x} {y = y} z sized same back opens t u = record {
  sized = sized;
  is = t.is ∙ ap (λ m. f x ++ m) u.is ∙ sym (append_assoc (f x) (g y) after) ∙ ap (λ w. w ++ after) (sym same);
  rest = λ z r p q e.
      let one = back z r p q e in
      let two = t.rest one.0 (g one.1 ++ r) one.3 (opens one.1 r one.4 q) (e ∙ ap (λ w. w ++ r) one.2 ∙ append_assoc (f one.0) (g one.1) r) in
      u.rest one.1 r one.4 q two;
}

pub first_missing : {X Y Z : Type 0} {P : X → Type 0} {Q : Y → Type 0} {R : Z → Type 0} {E F : Bytes → Type 0} {f : X → Bytes} {h : Z → Bytes} {before : Bytes} (g : Y → Bytes)
    → ((z : Z) (r : Bytes) → R z → F r → before ≡ h z ++ r → (x : X) × (y : Y) × (h z ≡ f x ++ g y) × P x × Q y) → ((y : Y) (r : Bytes) → Q y → F r → E (g y ++ r)) → IsNone P E f before → IsNone R F h before
first_missing {f = f} g back opens t = record {
  none = λ z r p q e.
      let one = back z r p q e in
      t.none one.0 (g one.1 ++ r) one.3 (opens one.1 r one.4 q) (e ∙ ap (λ w. w ++ r) one.2 ∙ append_assoc (f one.0) (g one.1) r);
}

pub second_missing : {X Y Z : Type 0} {P : X → Type 0} {Q : Y → Type 0} {R : Z → Type 0} {E F : Bytes → Type 0} {f : X → Bytes} {g : Y → Bytes} {h : Z → Bytes} {before mid : Bytes} {x : X}
    → ((z : Z) (r : Bytes) → R z → F r → before ≡ h z ++ r → (x : X) × (y : Y) × (h z ≡ f x ++ g y) × P x × Q y) → ((y : Y) (r : Bytes) → Q y → F r → E (g y ++ r)) → IsTaken P E f before mid x → IsNone Q F g mid
    → IsNone R F h before
second_missing {f = f} {g = g} back opens t u = record {
  none = λ z r p q e.
      let one = back z r p q e in
      let two = t.rest one.0 (g one.1 ++ r) one.3 (opens one.1 r one.4 q) (e ∙ ap (λ w. w ++ r) one.2 ∙ append_assoc (f one.0) (g one.1) r) in
      u.none one.1 r one.4 q two;
}
