-- Codes of arrival as codes of a dictionary.
use Rattle.std.proofs.Common.{◌≡◌, ℕ, ◌+◌, ◌-◌, ◌<◌, Bool, true, false, cond, ◌||◌, List, [], ◌∷◌, ◌++◌, map, length, slice_get, nat_eq, nat_lt, unwrap_or, option_map, Option, Some, None, refl, sym, ap, ◌∙◌, subst, true≢false, arith}
use Rattle.std.specs.List.{fold, list_any, position_or_len}
use Rattle.std.specs.Str.{bytes_eq}
use Rattle.std.specs.declared.cmp.Ordering.{Ordering}
use Rattle.std.specs.declared.cmp.Ordering.TheVariants.{Less, Equal, Greater}
use Rattle.std.proofs.lemmas.Cmp.{nat_list_cmp_total}
use Rattle.std.proofs.lemmas.Option.{slice_get-map, slice_get_cases}
use Rattle.indexmap.specs.IndexSet.{insert_key}
use Rattle.dq_base.specs.Numbered.{numbered}
use Rattle.dq_base.specs.Sets.{put_by, set_of, with}
use Rattle.dq_base.proofs.SetLaws.{Ascends, Each, ascends_set_of}
use Rattle.dq_column.specs.Stored.{IsArriving, IsDictionary, code_in, code_of, coded, decoded, place_at, text_cmp, text_or_null, texts_of}
use Rattle.dq_column.proofs.Found.{less_one, not_zero, passing, same_bytes}
use Rattle.dq_column.proofs.Ranked.{any_at, any_within, in_set, none_equal}

below_all : (w y : List ℕ) (ws : List (List ℕ)) → text_cmp w y ≡ Less → Each (λ z. text_cmp y z ≡ Less) ws → Each (λ z. text_cmp w z ≡ Less) ws
below_all w y [] l e = tt
below_all w y (z ∷ ws) l e = (nat_list_cmp_total.trans w y z l e.0, below_all w y ws l e.1)

equal_self : (w : List ℕ) → text_cmp w w ≡ Greater → ⊥
equal_self w e = let t = nat_list_cmp_total.antisymm w w in cc

in_tail : (b : Bool) (w y : List ℕ) (ws : List (List ℕ)) → bytes_eq w y ≡ b → text_cmp w y ≡ Greater → (b || list_any (bytes_eq w) ws) ≡ true → list_any (bytes_eq w) ws ≡ true
in_tail true w y ws e g h = absurd (equal_self w (subst (λ z. text_cmp w z ≡ Greater) (sym (same_bytes w y e)) g))
in_tail false w y ws e g h = h

there_by : (r : Ordering) (w y : List ℕ) (ws : List (List ℕ)) → text_cmp w y ≡ r → Ascends text_cmp (y ∷ ws) → list_any (bytes_eq w) (y ∷ ws) ≡ true
    → (list_any (bytes_eq w) ws ≡ true → with text_cmp w ws ≡ ws) → put_by r w y ws (with text_cmp w ws) ≡ y ∷ ws
there_by Less w y ws e a h go = absurd (true≢false (sym h ∙ none_equal w (y ∷ ws) (e, below_all w y ws e a.0)))
there_by Equal w y ws e a h go = refl
there_by Greater w y ws e a h go = ap (λ zs. y ∷ zs) (go (in_tail (bytes_eq w y) w y ws refl e h))

with_there : (w : List ℕ) (ws : List (List ℕ)) → Ascends text_cmp ws → list_any (bytes_eq w) ws ≡ true → with text_cmp w ws ≡ ws
with_there w [] a h = cc
with_there w (y ∷ ws) a h = there_by (text_cmp w y) w y ws refl a h (with_there w ws a.1)

fold_push : (set us : List (List ℕ)) (u : List ℕ) → fold (λ s x. with text_cmp x s) set (us ++ u ∷ []) ≡ with text_cmp u (fold (λ s x. with text_cmp x s) set us)
fold_push set [] u = refl
fold_push set (v ∷ us) u = fold_push (with text_cmp v set) us u

key_set : (b : Bool) (seen : List (List ℕ)) (u : List ℕ) → list_any (bytes_eq u) seen ≡ b → set_of text_cmp (cond b seen (seen ++ u ∷ [])) ≡ with text_cmp u (set_of text_cmp seen)
key_set true seen u e = sym (with_there u (set_of text_cmp seen) (ascends_set_of text_cmp nat_list_cmp_total seen) (in_set seen u ∙ e))
key_set false seen u e = fold_push [] seen u

-- the set of texts is that of the different ones
set_of_seen : (seen us : List (List ℕ)) → set_of text_cmp (fold (insert_key bytes_eq) seen us) ≡ fold (λ s x. with text_cmp x s) (set_of text_cmp seen) us
set_of_seen seen [] = refl
set_of_seen seen (u ∷ us) = set_of_seen (insert_key bytes_eq seen u) us ∙ ap (λ s. fold (λ s x. with text_cmp x s) s us) (key_set (list_any (bytes_eq u) seen) seen u refl)

numbered_by : {X Y : Type 0} (b : Bool) (f : X → Y) (xs : List X) (n : ℕ) → cond b None (slice_get (map f xs) n) ≡ option_map f (cond b None (slice_get xs n))
numbered_by true f xs n = refl
numbered_by false f xs n = slice_get-map f xs n

numbered_map : {X Y : Type 0} (f : X → Y) (xs : List X) (n : ℕ) → numbered (map f xs) n ≡ option_map f (numbered xs n)
numbered_map f xs n = numbered_by (nat_eq n 0) f xs (n - 1)

found_code : (words : List (List ℕ)) (o : Option (List ℕ)) → unwrap_or (option_map (code_in words) o) 0 ≡ code_of words (text_or_null o)
found_code words None = refl
found_code words (Some t) = refl

code_is : (words texts : List (List ℕ)) (code : ℕ) → place_at (map (code_in words) texts) code ≡ code_of words (coded texts code)
code_is words texts code = ap (λ o. unwrap_or o 0) (numbered_map (code_in words) texts code) ∙ found_code words (numbered texts code)

pub codes_are : (words texts : List (List ℕ)) (codes : List ℕ) → map (place_at (map (code_in words) texts)) codes ≡ map (code_of words) (decoded texts codes)
codes_are words texts [] = refl
codes_are words texts (code ∷ codes) =
    ap (λ c. c ∷ map (place_at (map (code_in words) texts)) codes) (code_is words texts code) ∙ ap (λ cs. code_of words (coded texts code) ∷ cs) (codes_are words texts codes)

numbered_at : (b : Bool) (texts : List (List ℕ)) (n : ℕ) (t : List ℕ) → cond b None (slice_get texts n) ≡ Some t → slice_get texts n ≡ Some t
numbered_at true texts n t e = cc
numbered_at false texts n t e = e

stands_by : (words : List (List ℕ)) (t : List ℕ) (place : ℕ) → position_or_len (bytes_eq t) words ≡ place → nat_lt place (length words) ≡ true → numbered words (place + 1) ≡ Some t
stands_by words t place e h =
    let l : position_or_len (bytes_eq t) words < length words = grind arith in
    let r = passing (bytes_eq t) words place e l (slice_get_cases words place).1 in
    ap (λ b. cond b None (slice_get words ((place + 1) - 1))) (not_zero place) ∙ ap (λ k. slice_get words k) (less_one place) ∙ r.1 ∙ ap Some (sym (same_bytes t r.0 r.2))

stands_at : (words : List (List ℕ)) (t : List ℕ) → list_any (bytes_eq t) words ≡ true → numbered words (code_in words t) ≡ Some t
stands_at words t e = stands_by words t (position_or_len (bytes_eq t) words) refl (any_within (bytes_eq t) words e)

value_by : (words texts : List (List ℕ)) (o : Option (List ℕ)) → ((t : List ℕ) → o ≡ Some t → list_any (bytes_eq t) words ≡ true) → coded words (code_of words (text_or_null o)) ≡ text_or_null o
value_by words texts None h = refl
value_by words texts (Some t) h = ap text_or_null (stands_at words t (h t refl))

module _ (texts : List (List ℕ)) where
  abbrev words : List (List ℕ)
  words = set_of text_cmp texts

  value_is : (code : ℕ) → coded words (code_of words (coded texts code)) ≡ coded texts code
  value_is code = value_by words texts (numbered texts code) (λ t e. in_set texts t ∙ any_at texts (code - 1) t (numbered_at (nat_eq code 0) texts (code - 1) t e))

  values_are : (codes : List ℕ) → decoded words (map (code_of words) (decoded texts codes)) ≡ decoded texts codes
  values_are [] = refl
  values_are (code ∷ codes) =
      ap (λ v. v ∷ decoded words (map (code_of words) (decoded texts codes))) (value_is code) ∙ ap (λ vs. coded texts code ∷ vs) (values_are codes)

  pub same_values : (codes ranked : List ℕ) → ranked ≡ map (place_at (map (code_in words) texts)) codes → decoded words ranked ≡ decoded texts codes
  same_values codes ranked e = ap (decoded words) (e ∙ codes_are words texts codes) ∙ values_are codes

  pub is_dictionary : (codes ranked : List ℕ) → IsArriving texts codes → ranked ≡ map (place_at (map (code_in words) texts)) codes → IsDictionary words ranked
  is_dictionary codes ranked w e =
      let same = same_values codes ranked e in
      record {
        each_word = ap (set_of text_cmp) w.each_text ∙ set_of_seen [] (texts_of (decoded texts codes)) ∙ ap (λ vs. set_of text_cmp (texts_of vs)) (sym same);
        each_code = e ∙ codes_are words texts codes ∙ ap (map (code_of words)) (sym same);
      }
