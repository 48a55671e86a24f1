-- Readings of cells and rows.
use Rattle.std.proofs.Common.{◌≡◌, ◌<◌, ◌≤◌, false, List, [], ◌∷◌, ◌++◌, flat_map, codes, decimal, refl, sym, ap, subst, ◌∙◌, append_assoc, true≢false, eqb-true, arith}
use Rattle.std.specs.List.{AllByRecursion}
use Rattle.std.specs.Fmt.{signed_decimal}
use Rattle.std.proofs.lemmas.List.{append_cancel_left}
use Rattle.dq_base.specs.Ratios.{Fraction, IsRatio, count_of}
use Rattle.dq_base.specs.Rests.{first, Anything}
use Rattle.dq_base.specs.Sizes.{IsByte}
use Rattle.dq_base.specs.Spelling.{Bytes}
use Rattle.dq_base.specs.declared.cell.Cell.{Cell}
use Rattle.dq_base.specs.declared.cell.Cell.TheVariants.{Null, Whole, Word, Ratio}
use Rattle.dq_base.proofs.ToldNumbers.{signed_first}
use Rattle.dq_reading.specs.Reading.{IsRead, IsNone, Skips, quoted_text}
use Rattle.dq_reading.proofs.Loops.{SoFar, Grows, all_more, flat_more, goes_further, breaks_off, stops_there}
use Rattle.dq_reading.proofs.Parts.{fits_whole}
use Rattle.dq_reading.proofs.Readings.{lead_read, lead_none, as_read, as_none, fewer_read, fewer_none}
use Rattle.dq_report.specs.Report.{cell_text, cells_text, ratio_text, row_text, spaced_cell}
use Rattle.dq_parse.specs.Reading.{AllSome, Ends, EndsLine}
use Rattle.dq_parse.specs.Sizes.{IsSizedCell, IsSizedRow}

-- a ratio begins as its sum does
ratio_first : (x : Fraction) (r : Bytes) → IsRatio x.sum (count_of x) → (45 ≤ first (ratio_text x ++ r)) × (first (ratio_text x ++ r) < 58)
ratio_first x r p =
    let P : Bytes → Type 0 = λ t. (45 ≤ first t) × (first t < 58) in
    subst P (sym (append_assoc (signed_decimal x.sum ++ 47 ∷ []) (decimal (count_of x)) r ∙ append_assoc (signed_decimal x.sum) (47 ∷ []) (decimal (count_of x) ++ r)))
    (signed_first x.sum (47 ∷ [] ++ (decimal (count_of x) ++ r)) (omega (arith, p.sum_fits)))

-- a null

null_only : (y : Cell) (r after : Bytes) → IsSizedCell y → codes "null" ++ after ≡ cell_text y ++ r → (Null ≡ y) × (after ≡ r)
null_only Null r after p e = (refl, append_cancel_left (codes "null") after r e)
null_only (Whole n) r after p e = absurd (omega (arith, signed_first n r (fits_whole n p), ap first e))
null_only (Word t) r after p e = absurd (omega (arith, ap first e))
null_only (Ratio x) r after p e = absurd (omega (arith, ratio_first x r p, ap first e))

pub null_read : {before after : Bytes} → before ≡ codes "null" ++ after → IsRead IsSizedCell Ends cell_text before after Null
null_read {after = after} e = record { sized = tt; is = e; only = λ y r p q h. null_only y r after p (sym e ∙ h) }

-- a text

word_only : (y : Cell) (r mid : Bytes) → IsSizedCell y → 34 ∷ mid ≡ cell_text y ++ r → (z : Bytes) × (y ≡ Word z) × AllByRecursion IsByte z
word_only Null r mid p e = absurd (omega (arith, ap first e))
word_only (Whole n) r mid p e = absurd (omega (arith, signed_first n r (fits_whole n p), ap first e))
word_only (Word t) r mid p e = (t, refl, p)
word_only (Ratio x) r mid p e = absurd (omega (arith, ratio_first x r p, ap first e))

pub word_read : {before mid after : Bytes} {text : Bytes} → before ≡ 34 ∷ [] ++ mid → IsRead (AllByRecursion IsByte) Anything quoted_text mid after text → IsRead IsSizedCell Ends cell_text before after (Word text)
word_read {mid = mid} e t = as_read Word (λ z p. refl) (λ z p. p) (λ y r p q h. word_only y r mid p (sym e ∙ h)) (fewer_read (λ r c. tt) (lead_read (34 ∷ []) e t))

pub word_none : {before mid : Bytes} → before ≡ 34 ∷ [] ++ mid → IsNone (AllByRecursion IsByte) Anything quoted_text mid → IsNone IsSizedCell Ends cell_text before
word_none {mid = mid} e t = as_none Word (λ z p. refl) (λ y r p q h. word_only y r mid p (sym e ∙ h)) (fewer_none (λ r c. tt) (lead_none (34 ∷ []) e t))

-- cells one behind the other

abbrev pub Cells : Bytes → Bytes → List Cell → Type 0
Cells = SoFar (AllSome IsSizedCell) IsSizedCell EndsLine cells_text spaced_cell

some_more : (done : List Cell) (x : Cell) → AllSome IsSizedCell done → IsSizedCell x → AllSome IsSizedCell (done ++ x ∷ [])
some_more [] x all p = absurd all
some_more (d ∷ ds) x all p = (all.0, all_more IsSizedCell ds x all.1 p)

cells_more : (done : List Cell) (x : Cell) (r : Bytes) → AllSome IsSizedCell done → cells_text (done ++ x ∷ []) ++ r ≡ cells_text done ++ (spaced_cell x ++ r)
cells_more [] x r all = absurd all
cells_more (d ∷ ds) x r all =
    append_assoc (cell_text d) (flat_map spaced_cell (ds ++ x ∷ [])) r ∙ ap (λ t. cell_text d ++ t) (flat_more spaced_cell ds x r) ∙ sym (append_assoc (cell_text d) (flat_map spaced_cell ds) (spaced_cell x ++ r))

cells_grow : Grows (AllSome IsSizedCell) IsSizedCell cells_text spaced_cell
cells_grow = record { sized = some_more; text = cells_more }

ends_at_line : (r : Bytes) → EndsLine r → Ends r
ends_at_line r e = let n : first r ≡ 10 = eqb-true (first r) 10 e in rw n refl

cells_open : (zs : List Cell) (r : Bytes) → AllByRecursion IsSizedCell zs → EndsLine r → Ends (flat_map spaced_cell zs ++ r)
cells_open [] r all q = ends_at_line r q
cells_open (z ∷ zs) r all q = refl

no_space : (left mid : Bytes) → left ≡ 32 ∷ [] ++ mid → (s : Bytes) → EndsLine s → left ≡ s → ⊥
no_space left mid e s q h = true≢false (sym (subst EndsLine (sym h ∙ e) q))

first_only : {before left : Bytes} {x : Cell} → IsRead IsSizedCell Ends cell_text before left x → (ys : List Cell) (r : Bytes) → AllSome IsSizedCell ys → EndsLine r → before ≡ cells_text ys ++ r
    → (zs : List Cell) × (ys ≡ (x ∷ []) ++ zs) × AllByRecursion IsSizedCell zs × (left ≡ flat_map spaced_cell zs ++ r)
first_only t [] r p q h = absurd p
first_only t (y ∷ ys) r p q h =
    let one = t.only y (flat_map spaced_cell ys ++ r) p.0 (cells_open ys r p.1 q) (h ∙ append_assoc (cell_text y) (flat_map spaced_cell ys) r) in
    (ys, ap (λ z. z ∷ ys) (sym one.0), p.1, one.1)

begins : {before left : Bytes} {x : Cell} → IsRead IsSizedCell Ends cell_text before left x → Cells before left (x ∷ [])
begins {left = left} {x = x} t = record { all = (t.sized, tt); is = t.is ∙ sym (append_assoc (cell_text x) [] left); only = first_only t }

pub cell_first : {before left : Bytes} {x : Cell} {empty list : List Cell} → IsRead IsSizedCell Ends cell_text before left x → empty ≡ [] → list ≡ empty ++ x ∷ [] → Cells before left list
cell_first {before = before} {left = left} {x = x} t none pushed = subst (Cells before left) (sym (pushed ∙ ap (λ o. o ++ x ∷ []) none)) (begins t)

no_first : {before : Bytes} → IsNone IsSizedCell Ends cell_text before → (ys : List Cell) (r : Bytes) → AllSome IsSizedCell ys → EndsLine r → before ≡ cells_text ys ++ r → ⊥
no_first t [] r p q h = p
no_first t (y ∷ ys) r p q h = t.none y (flat_map spaced_cell ys ++ r) p.0 (cells_open ys r p.1 q) (h ∙ append_assoc (cell_text y) (flat_map spaced_cell ys) r)

pub cell_none : {before : Bytes} → IsNone IsSizedCell Ends cell_text before → IsNone (AllSome IsSizedCell) EndsLine cells_text before
cell_none t = record { none = no_first t }

pub cell_next : {before left mid after : Bytes} {x : Cell} {done list : List Cell} → Cells before left done → left ≡ 32 ∷ [] ++ mid → IsRead IsSizedCell Ends cell_text mid after x → list ≡ done ++ x ∷ []
    → Cells before after list
cell_next {before = before} {left = left} {mid = mid} {after = after} s e t pushed =
    subst (Cells before after) (sym pushed) (goes_further cells_grow s (lead_read (32 ∷ []) e t) cells_open (no_space left mid e))

pub cell_breaks : {before left mid : Bytes} {done : List Cell} → Cells before left done → left ≡ 32 ∷ [] ++ mid → IsNone IsSizedCell Ends cell_text mid → IsNone (AllSome IsSizedCell) EndsLine cells_text before
cell_breaks {left = left} {mid = mid} s e t = breaks_off s (lead_none (32 ∷ []) e t) cells_open (no_space left mid e)

pub cell_last : {before left after : Bytes} {done : List Cell} → Cells before left done → Skips (32 ∷ []) left after false → IsRead (AllSome IsSizedCell) EndsLine cells_text before after done
cell_last {before = before} {done = done} s miss =
    subst (λ a. IsRead (AllSome IsSizedCell) EndsLine cells_text before a done) (sym miss.0) (stops_there s (λ z r p h. miss.1 (cell_text z ++ r) h))

-- an empty row

cell_apart : (y : Cell) (r after : Bytes) → IsSizedCell y → 10 ∷ after ≡ cell_text y ++ r → ⊥
cell_apart Null r after p e = omega (arith, ap first e)
cell_apart (Whole n) r after p e = omega (arith, signed_first n r (fits_whole n p), ap first e)
cell_apart (Word t) r after p e = omega (arith, ap first e)
cell_apart (Ratio x) r after p e = omega (arith, ratio_first x r p, ap first e)

empty_only : (ys : List Cell) (r after : Bytes) → IsSizedRow ys → 10 ∷ after ≡ row_text ys ++ r → ([] ≡ ys) × (after ≡ r)
empty_only [] r after p e = (refl, append_cancel_left (10 ∷ []) after r e)
empty_only (y ∷ ys) r after p e =
    absurd (cell_apart y (flat_map spaced_cell ys ++ (10 ∷ [] ++ r)) after p.0
    (e ∙ append_assoc (cells_text (y ∷ ys)) (10 ∷ []) r ∙ append_assoc (cell_text y) (flat_map spaced_cell ys) (10 ∷ [] ++ r)))

pub row_empty : {before after : Bytes} {list : List Cell} → list ≡ [] → before ≡ 10 ∷ [] ++ after → IsRead IsSizedRow Anything row_text before after list
row_empty {before = before} {after = after} empty e =
    subst (IsRead IsSizedRow Anything row_text before after) (sym empty) (record { sized = tt; is = e; only = λ y r p q h. empty_only y r after p (sym e ∙ h) })
