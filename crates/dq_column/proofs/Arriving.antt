-- Texts that arrive one after another, and the codes of their rows.
use Rattle.std.proofs.Common.{◌≡◌, ℕ, zero, suc, ◌+◌, ◌-◌, ◌<◌, ◌≤◌, Bool, true, false, cond, List, [], ◌∷◌, ◌++◌, length, slice_get, nat_eq, Some, None, refl, sym, ap, ◌∙◌, arith, append_assoc}
use Rattle.std.specs.List.{AllByRecursion, fold, list_any}
use Rattle.std.specs.Str.{bytes_eq}
use Rattle.std.proofs.lemmas.List.{append-nil}
use Rattle.std.proofs.lemmas.Option.{slice_get_within}
use Rattle.indexmap.specs.IndexSet.{insert_key}
use Rattle.dq_base.specs.declared.value.Value.{Value}
use Rattle.dq_base.specs.declared.value.Value.TheVariants.{Null, Word}
use Rattle.dq_column.specs.Stored.{IsArriving, coded, decoded, first_seen, text_in, text_or_null, texts_of}
use Rattle.dq_column.proofs.Found.{less_one, map_push, not_zero}
use Rattle.dq_column.proofs.Ranked.{any_at}

texts_push : (vs : List Value) (v : Value) → texts_of (vs ++ v ∷ []) ≡ texts_of vs ++ text_in v
texts_push [] v = append-nil (text_in v)
texts_push (w ∷ vs) v = ap (λ ts. text_in w ++ ts) (texts_push vs v) ∙ sym (append_assoc (text_in w) (texts_of vs) (text_in v))

insert_push : (seen us : List (List ℕ)) (t : List ℕ) → fold (insert_key bytes_eq) seen (us ++ t ∷ []) ≡ insert_key bytes_eq (fold (insert_key bytes_eq) seen us) t
insert_push seen [] t = refl
insert_push seen (u ∷ us) t = insert_push (insert_key bytes_eq seen u) us t

seen_null : (vs : List Value) → first_seen (vs ++ Null ∷ []) ≡ first_seen vs
seen_null vs = ap (λ us. fold (insert_key bytes_eq) [] us) (texts_push vs Null ∙ append-nil (texts_of vs))

seen_text : (vs : List Value) (t : List ℕ) → first_seen (vs ++ Word t ∷ []) ≡ insert_key bytes_eq (first_seen vs) t
seen_text vs t = ap (λ us. fold (insert_key bytes_eq) [] us) (texts_push vs (Word t)) ∙ insert_push [] (texts_of vs) t

coded_at : (texts : List (List ℕ)) (place : ℕ) (t : List ℕ) → slice_get texts place ≡ Some t → coded texts (place + 1) ≡ Word t
coded_at texts place t e =
    ap (λ b. text_or_null (cond b None (slice_get texts ((place + 1) - 1)))) (not_zero place) ∙ ap (λ k. text_or_null (slice_get texts k)) (less_one place) ∙ ap text_or_null e

get_more : (texts : List (List ℕ)) (t : List ℕ) (place : ℕ) → place < length texts → slice_get (texts ++ t ∷ []) place ≡ slice_get texts place
get_more [] t place h = absurd (omega arith)
get_more (s ∷ texts) t zero h = refl
get_more (s ∷ texts) t (suc place) h = get_more texts t place (omega arith)

get_last : (texts : List (List ℕ)) (t : List ℕ) → slice_get (texts ++ t ∷ []) (length texts) ≡ Some t
get_last [] t = refl
get_last (s ∷ texts) t = get_last texts t

more_by : (b : Bool) (texts : List (List ℕ)) (t : List ℕ) (code : ℕ) → nat_eq code 0 ≡ b → code ≤ length texts
    → text_or_null (cond b None (slice_get (texts ++ t ∷ []) (code - 1))) ≡ text_or_null (cond b None (slice_get texts (code - 1)))
more_by true texts t code e h = refl
more_by false texts t code e h = let g : code - 1 < length texts = grind arith in ap text_or_null (get_more texts t (code - 1) g)

-- one more text changes no code that is known
more_texts : (texts : List (List ℕ)) (t : List ℕ) (codes : List ℕ) → AllByRecursion (λ code. code ≤ length texts) codes → decoded (texts ++ t ∷ []) codes ≡ decoded texts codes
more_texts texts t [] a = refl
more_texts texts t (code ∷ codes) a =
    ap (λ v. v ∷ decoded (texts ++ t ∷ []) codes) (more_by (nat_eq code 0) texts t code refl a.0) ∙ ap (λ vs. coded texts code ∷ vs) (more_texts texts t codes a.1)

known_push : (n m : ℕ) (codes : List ℕ) (code : ℕ) → n ≤ m → AllByRecursion (λ c. c ≤ n) codes → code ≤ m → AllByRecursion (λ c. c ≤ m) (codes ++ code ∷ [])
known_push n m [] code l a h = (h, tt)
known_push n m (c ∷ codes) code l a h = (omega arith, known_push n m codes code l a.1 h)

length_push : (texts : List (List ℕ)) (t : List ℕ) → length (texts ++ t ∷ []) ≡ length texts + 1
length_push [] t = refl
length_push (s ∷ texts) t = ap suc (length_push texts t) ∙ omega arith

module _ (texts : List (List ℕ)) (codes : List ℕ) (w : IsArriving texts codes) where
  pub null_view : decoded texts (codes ++ 0 ∷ []) ≡ decoded texts codes ++ Null ∷ []
  null_view = map_push (coded texts) codes 0

  pub null_stays : IsArriving texts (codes ++ 0 ∷ [])
  null_stays = record {
    each_text = w.each_text ∙ sym (seen_null (decoded texts codes)) ∙ ap first_seen (sym null_view);
    known = known_push (length texts) (length texts) codes 0 (omega arith) w.known (omega arith);
  }

  module _ (place : ℕ) (t : List ℕ) (e : slice_get texts place ≡ Some t) where
    pub known_view : decoded texts (codes ++ (place + 1) ∷ []) ≡ decoded texts codes ++ Word t ∷ []
    known_view = map_push (coded texts) codes (place + 1) ∙ ap (λ v. decoded texts codes ++ v ∷ []) (coded_at texts place t e)

    pub known_stays : IsArriving texts (codes ++ (place + 1) ∷ [])
    known_stays =
        let h : place < length texts = slice_get_within texts place t e in
        record {
          each_text =
              sym (ap (λ b. cond b texts (texts ++ t ∷ [])) (any_at texts place t e)) ∙ ap (λ us. insert_key bytes_eq us t) w.each_text
              ∙ sym (seen_text (decoded texts codes) t) ∙ ap first_seen (sym known_view);
          known = known_push (length texts) (length texts) codes (place + 1) (omega arith) w.known (omega arith);
        }

  module _ (t : List ℕ) (e : list_any (bytes_eq t) texts ≡ false) where
    pub new_view : decoded (texts ++ t ∷ []) (codes ++ (length texts + 1) ∷ []) ≡ decoded texts codes ++ Word t ∷ []
    new_view =
        map_push (coded (texts ++ t ∷ [])) codes (length texts + 1) ∙ ap (λ vs. vs ++ coded (texts ++ t ∷ []) (length texts + 1) ∷ []) (more_texts texts t codes w.known)
        ∙ ap (λ v. decoded texts codes ++ v ∷ []) (coded_at (texts ++ t ∷ []) (length texts) t (get_last texts t))

    pub new_stays : IsArriving (texts ++ t ∷ []) (codes ++ (length texts + 1) ∷ [])
    new_stays =
        let n : length (texts ++ t ∷ []) ≡ length texts + 1 = length_push texts t in
        record {
          each_text =
              sym (ap (λ b. cond b texts (texts ++ t ∷ [])) e) ∙ ap (λ us. insert_key bytes_eq us t) w.each_text
              ∙ sym (seen_text (decoded texts codes) t) ∙ ap first_seen (sym new_view);
          known = known_push (length texts) (length (texts ++ t ∷ [])) codes (length texts + 1) (omega arith) w.known (omega arith);
        }
