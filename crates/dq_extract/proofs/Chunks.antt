-- Lists in chunks.
use Rattle.std.proofs.Common.{◌≡◌, ◌<◌, ◌≤◌, ℕ, ◌+◌, ◌*◌, ◌-◌, ◌/◌, ◌%◌, ◌^◌, zero, suc, List, [], ◌∷◌, ◌++◌, length, Some, None, refl, ap, sym, ◌∙◌, arith, append_assoc, length-append}
use Rattle.std.proofs.lemmas.Grind.{flat_map-append}
use Rattle.std.proofs.lemmas.List.{append-nil}
use Rattle.std.specs.Prelude.{slice_get, Result, Ok, Err, OnOk, OnErr}
use Rattle.std.specs.List.{flat_map}
use Rattle.dq_extract.specs.Chunks.{in_chunks, AreWhole, AreChunks}

-- the length of whole chunks
length-whole : {X : Type 0} (whole : List (List X)) → AreWhole whole → length (flat_map (λ (chunk : List X). chunk) whole) ≡ length whole * 512
length-whole [] all = refl
length-whole (c ∷ cs) all =
    omega (arith, length-append c (flat_map (λ chunk. chunk) cs), all.0, length-whole cs all.1)

pub length-in_chunks : {X : Type 0} (whole : List (List X)) (last : List X) → AreChunks whole last → length (in_chunks whole last) ≡ length whole * 512 + length last
length-in_chunks whole last are = omega (arith, length-append (flat_map (λ chunk. chunk) whole) last, length-whole whole are.full)

slice_get-left : {X : Type 0} (xs ys : List X) (i : ℕ) → i < length xs → slice_get (xs ++ ys) i ≡ slice_get xs i
slice_get-left [] ys i within = absurd (omega arith)
slice_get-left (x ∷ xs) ys zero within = refl
slice_get-left (x ∷ xs) ys (suc i) within = slice_get-left xs ys i (omega arith)

-- the part behind a front of n
slice_get-right : {X : Type 0} (xs ys : List X) (n i : ℕ) → n ≡ length xs + i → slice_get (xs ++ ys) n ≡ slice_get ys i
slice_get-right [] ys n i is = let same : n ≡ i = omega arith in ap (slice_get ys) same
slice_get-right (x ∷ xs) ys zero i is = absurd (omega arith)
slice_get-right (x ∷ xs) ys (suc n) i is = slice_get-right xs ys n i (omega arith)

in_whole : {X : Type 0} (whole : List (List X)) (last chunk : List X) (n i j : ℕ) → AreWhole whole → slice_get whole i ≡ Some chunk → j < 512 → n ≡ i * 512 + j
    → slice_get (in_chunks whole last) n ≡ slice_get chunk j
in_whole [] last chunk n i j all at few is = cc
in_whole (c ∷ cs) last chunk n zero j all at few is =
    let same : c ≡ chunk = cc in
    let there : n ≡ j = omega arith in
    let within : n < length c = omega (arith, all.0) in
    ap (λ xs. slice_get xs n) (append_assoc c (flat_map (λ chunk. chunk) cs) last)
    ∙ slice_get-left c (in_chunks cs last) n within ∙ ap (slice_get c) there ∙ ap (λ xs. slice_get xs j) same
in_whole (c ∷ cs) last chunk n (suc i) j all at few is =
    ap (λ xs. slice_get xs n) (append_assoc c (flat_map (λ chunk. chunk) cs) last)
    ∙ slice_get-right c (in_chunks cs last) n (i * 512 + j) (omega (arith, all.0))
    ∙ in_whole cs last chunk (i * 512 + j) i j all.1 at few refl

-- a place in a whole chunk
pub chunk-at : {X : Type 0} (whole : List (List X)) (last chunk : List X) (n : ℕ) → AreChunks whole last → slice_get whole (n / 512) ≡ Some chunk
    → slice_get chunk (n % 512) ≡ slice_get (in_chunks whole last) n
chunk-at whole last chunk n are at = sym (in_whole whole last chunk n (n / 512) (n % 512) are.full at (omega arith) (omega arith))

past_end : {X : Type 0} (xs : List X) (i : ℕ) → slice_get xs i ≡ None → length xs ≤ i
past_end [] i none = omega arith
past_end (x ∷ xs) zero none = cc
past_end (x ∷ xs) (suc i) none = let rest = past_end xs i none in omega arith

-- there are no more whole chunks
pub behind_whole : {X : Type 0} (whole : List (List X)) (n : ℕ) → slice_get whole (n / 512) ≡ None → length whole * 512 ≤ n
behind_whole whole n none = let past = past_end whole (n / 512) none in omega arith

-- a place in the last chunk
pub last-at : {X : Type 0} (whole : List (List X)) (last : List X) (n : ℕ) → AreChunks whole last → slice_get whole (n / 512) ≡ None
    → slice_get last (n - length whole * 512) ≡ slice_get (in_chunks whole last) n
last-at whole last n are none =
    let past = behind_whole whole n none in
    sym (slice_get-right (flat_map (λ chunk. chunk) whole) last n (n - length whole * 512) (omega (arith, length-whole whole are.full)))

-- one more in the last chunk
pub in_chunks-push : {X : Type 0} (whole : List (List X)) (last : List X) (x : X) → in_chunks whole (last ++ x ∷ []) ≡ in_chunks whole last ++ x ∷ []
in_chunks-push whole last x = sym (append_assoc (flat_map (λ chunk. chunk) whole) last (x ∷ []))

-- the last chunk becomes a whole one
pub in_chunks-next : {X : Type 0} (whole : List (List X)) (last : List X) (x : X) → in_chunks (whole ++ last ∷ []) (x ∷ []) ≡ in_chunks whole last ++ x ∷ []
in_chunks-next whole last x =
    ap (λ xs. xs ++ x ∷ []) (flat_map-append (λ chunk. chunk) whole (last ∷ []) ∙ ap (λ xs. flat_map (λ chunk. chunk) whole ++ xs) (append-nil last))

AreWhole-push : {X : Type 0} (whole : List (List X)) (last : List X) → AreWhole whole → length last ≡ 512 → AreWhole (whole ++ last ∷ [])
AreWhole-push [] last all full = (full, tt)
AreWhole-push (c ∷ cs) last all full = (all.0, AreWhole-push cs last all.1 full)

pub AreChunks-next : {X : Type 0} (whole : List (List X)) (last : List X) (x : X) → AreChunks whole last → length last ≡ 512 → length whole < 2 ^ 32
    → AreChunks (whole ++ last ∷ []) (x ∷ [])
AreChunks-next whole last x are full few = record {
  full = AreWhole-push whole last are.full full;
  open_one = omega arith;
  few = omega (arith, length-append whole (last ∷ []));
}

-- the same after a try
pub AreChunks-closed : {X T E : Type 0} (r : Result T E) (whole whole' : List (List X)) (last last' : List X) (x : X) → AreChunks whole last → length last ≡ 512
    → OnOk r (whole' ≡ whole ++ last ∷ []) → OnOk r (last' ≡ x ∷ []) → OnOk r (length whole < 2 ^ 32) → OnErr r (whole' ≡ whole) → OnErr r (last' ≡ last)
    → AreChunks whole' last'
AreChunks-closed (Ok y) whole whole' last last' x are full next begun few same same_last = rw (next, begun) (AreChunks-next whole last x are full few)
AreChunks-closed (Err e) whole whole' last last' x are full next begun few same same_last = rw (same, same_last) are
