-- Numbers, and the marks beside them.
use Rattle.std.proofs.Common.{◌≡◌, ℕ, zero, suc, ℤ, pos, Bool, List, [], ◌∷◌, ◌++◌, map, length, slice_get, Option, Some, None, refl, sym, ap, ◌∙◌, is_some, unwrap_or, arith}
use Rattle.dq_base.specs.Answers.{is_present, number_of}
use Rattle.dq_column.proofs.Found.{map_push}
use Rattle.dq_column.specs.Stored.{IsWholes, marked, values_of, whole_of}

pub length_map : {X Y : Type 0} (f : X → Y) (xs : List X) → length (map f xs) ≡ length xs
length_map f [] = refl
length_map f (x ∷ xs) = ap suc (length_map f xs)

pub as_long : (ms : List Bool) (ns : List ℤ) → IsWholes ms ns → length ms ≡ length ns
as_long ms ns w = ap length w.each_mark ∙ length_map is_present (values_of ms ns) ∙ sym (length_map number_of (values_of ms ns)) ∙ sym (ap length w.each_number)

pub values_push : (ms : List Bool) (ns : List ℤ) (m : Bool) (n : ℤ) → length ms ≡ length ns → values_of (ms ++ m ∷ []) (ns ++ n ∷ []) ≡ values_of ms ns ++ marked m n ∷ []
values_push [] [] m n e = refl
values_push [] (k ∷ ns) m n e = cc
values_push (b ∷ ms) [] m n e = cc
values_push (b ∷ ms) (k ∷ ns) m n e = ap (λ vs. marked b k ∷ vs) (values_push ms ns m n (omega arith))

of_number : (o : Option ℤ) → number_of (marked (is_some o) (unwrap_or o (pos 0))) ≡ unwrap_or o (pos 0)
of_number None = refl
of_number (Some n) = refl

of_mark : (o : Option ℤ) → is_present (marked (is_some o) (unwrap_or o (pos 0))) ≡ is_some o
of_mark None = refl
of_mark (Some n) = refl

is_whole : (o : Option ℤ) → marked (is_some o) (unwrap_or o (pos 0)) ≡ whole_of o
is_whole None = refl
is_whole (Some n) = refl

pub pushed : (ms : List Bool) (ns : List ℤ) (o : Option ℤ) → IsWholes ms ns → values_of (ms ++ is_some o ∷ []) (ns ++ unwrap_or o (pos 0) ∷ []) ≡ values_of ms ns ++ whole_of o ∷ []
pushed ms ns o w = values_push ms ns (is_some o) (unwrap_or o (pos 0)) (as_long ms ns w) ∙ ap (λ v. values_of ms ns ++ v ∷ []) (is_whole o)

pub stays_wholes : (ms : List Bool) (ns : List ℤ) (o : Option ℤ) → IsWholes ms ns → IsWholes (ms ++ is_some o ∷ []) (ns ++ unwrap_or o (pos 0) ∷ [])
stays_wholes ms ns o w =
    let vs = values_of ms ns in
    let v = marked (is_some o) (unwrap_or o (pos 0)) in
    let e = values_push ms ns (is_some o) (unwrap_or o (pos 0)) (as_long ms ns w) in
    record {
      each_number = ap (λ ks. ks ++ unwrap_or o (pos 0) ∷ []) w.each_number ∙ ap (λ k. map number_of vs ++ k ∷ []) (sym (of_number o)) ∙ sym (map_push number_of vs v) ∙ sym (ap (map number_of) e);
      each_mark = ap (λ bs. bs ++ is_some o ∷ []) w.each_mark ∙ ap (λ b. map is_present vs ++ b ∷ []) (sym (of_mark o)) ∙ sym (map_push is_present vs v) ∙ sym (ap (map is_present) e);
    }

pub value_got : (ms : List Bool) (ns : List ℤ) (place : ℕ) (m : Bool) (n : ℤ) → slice_get ms place ≡ Some m → slice_get ns place ≡ Some n → slice_get (values_of ms ns) place ≡ Some (marked m n)
value_got [] ns place m n e f = cc
value_got (b ∷ ms) [] place m n e f = cc
value_got (b ∷ ms) (k ∷ ns) zero m n e f = cc
value_got (b ∷ ms) (k ∷ ns) (suc place) m n e f = value_got ms ns place m n e f

pub none_got : (ms : List Bool) (ns : List ℤ) (place : ℕ) → slice_get ms place ≡ None → slice_get (values_of ms ns) place ≡ None
none_got [] ns place e = refl
none_got (b ∷ ms) [] place e = refl
none_got (b ∷ ms) (k ∷ ns) zero e = cc
none_got (b ∷ ms) (k ∷ ns) (suc place) e = none_got ms ns place e
