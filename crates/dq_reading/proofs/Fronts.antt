-- Words and digits at the front of a text.
use Rattle.std.proofs.Common.{◌≡◌, ℕ, ◌+◌, ◌<◌, true, false, List, ◌++◌, length, take, drop, get_or, nat_eq, sym, ap, ◌∙◌, arith}
use Rattle.std.specs.Char.{is_ascii_digit}
use Rattle.std.specs.Cmp.Lexicographic.{pointwise}
use Rattle.std.specs.Str.Parse.{AllDigits}
use Rattle.std.proofs.Math.Seq.{take-append_seam}
use Rattle.std.proofs.lemmas.Bool.{false≢true}
use Rattle.std.proofs.lemmas.Grind.{common_steps}
use Rattle.std.proofs.lemmas.Int.Digits.{digits_more}
use Rattle.std.proofs.lemmas.List.{take-append-drop}
use Rattle.std.proofs.lemmas.Slice.Eq.{bytes_eq-Decides}

-- a word that stands at the front
pub word_there : (word text rest : List ℕ) → pointwise nat_eq (take (length word) text) word ≡ true → rest ≡ drop (length word) text → text ≡ word ++ rest
word_there word text rest same is =
    sym (take-append-drop (length word) text) ∙ ap (λ w. w ++ drop (length word) text) ((bytes_eq-Decides (take (length word) text) word).0 same) ∙ ap (λ r. word ++ r) (sym is)

-- a word that doesn't
pub word_missing : (word text : List ℕ) → pointwise nat_eq (take (length word) text) word ≡ false → (r : List ℕ) → text ≡ word ++ r → ⊥
word_missing word text other r e =
    let front : take (length word) text ≡ word = ap (take (length word)) e ∙ take-append_seam word r in
    false≢true (sym other ∙ (bytes_eq-Decides (take (length word) text) word).1 front)

-- one digit further
pub one_more_digit : (bytes : List ℕ) (i : ℕ) → i < length bytes → AllDigits 10 (take i bytes) → is_ascii_digit (get_or bytes i 0) ≡ true → AllDigits 10 (take (i + 1) bytes)
one_more_digit bytes i there so_far digit = digits_more 10 bytes i there so_far (grind (arith, common_steps))
