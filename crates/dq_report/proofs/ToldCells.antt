-- The text of a table tells the table.
use Rattle.std.proofs.Common.{◌≡◌, ℤ, List, [], ◌∷◌, ◌++◌, flat_map, decimal, codes, refl, sym, ap, subst, ◌∙◌, append_assoc, true≢false, eqb-true, arith}
use Rattle.std.specs.List.{AllByRecursion}
use Rattle.std.specs.Fmt.{signed_decimal}
use Rattle.std.proofs.lemmas.List.{append_cancel_left}
use Rattle.dq_base.specs.Ratios.{Fraction, count_of}
use Rattle.dq_base.specs.declared.cell.Cell.{Cell}
use Rattle.dq_base.specs.declared.cell.Cell.TheVariants.{Null, Whole, Word, Ratio}
use Rattle.dq_base.specs.Spelling.{Bytes}
use Rattle.dq_report.specs.Report.{ratio_text, cell_text, spaced_cell, cells_text, row_text, table_text}
use Rattle.dq_base.specs.Sizes.{Fits, FitsWhole}
use Rattle.dq_report.specs.Told.{FitsCell, FitsTable}
use Rattle.dq_base.specs.Rests.{first, Anything}
use Rattle.dq_base.proofs.Told.{Tells, Goes, lead, trail, both, counted, until, goes_on}
use Rattle.dq_report.proofs.Told.{Ends, EndsLine, stops_at_end, ends_at_line}
use Rattle.dq_base.proofs.ToldNumbers.{number_told, signed_told, signed_first, IsSignOrDigit}
use Rattle.dq_report.proofs.ToldNumbers.{ratio_same}
use Rattle.dq_base.proofs.ToldTexts.{spelled_told}

-- a whole number's text begins no other text
begins : (z : ℤ) (r t : Bytes) → FitsWhole z → signed_decimal z ++ r ≡ t → IsSignOrDigit (first t)
begins z r t p e = subst (λ u. IsSignOrDigit (first u)) e (signed_first z r p)

-- a ratio's text is a whole number's, a stroke, and more
ratio_split : (x : Fraction) (r : Bytes) → ratio_text x ++ r ≡ signed_decimal x.sum ++ (47 ∷ (decimal (count_of x) ++ r))
ratio_split x r = append_assoc (signed_decimal x.sum ++ 47 ∷ []) (decimal (count_of x)) r ∙ append_assoc (signed_decimal x.sum) (47 ∷ []) (decimal (count_of x) ++ r)

-- a whole number at a cell's end is no ratio
no_stroke : (n : ℤ) (x : Fraction) (r s : Bytes) → FitsWhole n → FitsWhole x.sum → Ends r → signed_decimal n ++ r ≡ ratio_text x ++ s → ⊥
no_stroke n x r s p q a e =
    let rest = (signed_told.same n x.sum r (47 ∷ (decimal (count_of x) ++ s)) p q (stops_at_end r a) refl (e ∙ ratio_split x s)).1 in
    true≢false (sym (subst Ends rest a))

cell_same : (c d : Cell) (r s : Bytes) → FitsCell c → FitsCell d → Ends r → Ends s → cell_text c ++ r ≡ cell_text d ++ s → c ≡ d
cell_same Null Null r s p q a b e = refl
cell_same Null (Whole n) r s p q a b e = absurd (omega (arith, begins n s _ q (sym e)))
cell_same Null (Word t) r s p q a b e = absurd (omega (arith, ap first e))
cell_same Null (Ratio x) r s p q a b e = absurd (omega (arith, begins x.sum _ _ q.0 (sym (e ∙ ratio_split x s))))
cell_same (Whole n) Null r s p q a b e = absurd (omega (arith, begins n r _ p e))
cell_same (Whole n) (Whole m) r s p q a b e = ap Whole (signed_told.same n m r s p q (stops_at_end r a) (stops_at_end s b) e).0
cell_same (Whole n) (Word t) r s p q a b e = absurd (omega (arith, begins n r _ p e))
cell_same (Whole n) (Ratio x) r s p q a b e = absurd (no_stroke n x r s p q.0 a e)
cell_same (Word t) Null r s p q a b e = absurd (omega (arith, ap first e))
cell_same (Word t) (Whole n) r s p q a b e = absurd (omega (arith, begins n s _ q (sym e)))
cell_same (Word t) (Word u) r s p q a b e = ap Word (spelled_told.same t u r s p q tt tt e).0
cell_same (Word t) (Ratio x) r s p q a b e = absurd (omega (arith, begins x.sum _ _ q.0 (sym (e ∙ ratio_split x s))))
cell_same (Ratio x) Null r s p q a b e = absurd (omega (arith, begins x.sum _ _ p.0 (sym (ratio_split x r) ∙ e)))
cell_same (Ratio x) (Whole n) r s p q a b e = absurd (no_stroke n x s r q p.0 b (sym e))
cell_same (Ratio x) (Word t) r s p q a b e = absurd (omega (arith, begins x.sum _ _ p.0 (sym (ratio_split x r) ∙ e)))
cell_same (Ratio x) (Ratio y) r s p q a b e = ap Ratio (ratio_same x y r s p q (stops_at_end r a) (stops_at_end s b) e)

cell_told : Tells FitsCell Ends cell_text
cell_told = record {
  same = λ c d r s p q a b e.
      let one = cell_same c d r s p q a b e in
      (one, append_cancel_left (cell_text d) r s (ap (λ x. cell_text x ++ r) (sym one) ∙ e));
}

-- a line doesn't end where a cell begins
no_line_by_number : (z : ℤ) (r : Bytes) → FitsWhole z → EndsLine (signed_decimal z ++ r) → ⊥
no_line_by_number z r p e = omega (arith, signed_first z r p, eqb-true (first (signed_decimal z ++ r)) 10 e)

no_line : (c : Cell) (r : Bytes) → FitsCell c → EndsLine (cell_text c ++ r) → ⊥
no_line Null r p e = true≢false (sym e)
no_line (Whole n) r p e = no_line_by_number n r p e
no_line (Word t) r p e = true≢false (sym e)
no_line (Ratio x) r p e = no_line_by_number x.sum _ p.0 (subst EndsLine (ratio_split x r) e)

spaced_told : Tells FitsCell Ends spaced_cell
spaced_told = lead (32 ∷ []) cell_told

spaced_goes : Goes FitsCell Ends EndsLine spaced_cell
spaced_goes = record { opens = λ c r p. refl; closes = ends_at_line; apart = λ c r p e. true≢false (sym e) }

-- a first cell and more
more_told : Tells (λ (p : Cell × List Cell). FitsCell p.0 × AllByRecursion FitsCell p.1) EndsLine (λ p. cell_text p.0 ++ flat_map spaced_cell p.1)
more_told = both cell_told (until spaced_told spaced_goes) (λ cs r p a. goes_on FitsCell Ends EndsLine spaced_cell spaced_goes cs r p a)

cells_same : (cs ds : List Cell) (r s : Bytes) → AllByRecursion FitsCell cs → AllByRecursion FitsCell ds → EndsLine r → EndsLine s → cells_text cs ++ r ≡ cells_text ds ++ s → (cs ≡ ds) × (r ≡ s)
cells_same [] [] r s p q a b e = (refl, e)
cells_same [] (d ∷ ds) r s p q a b e = absurd (no_line d _ q.0 (subst EndsLine (e ∙ append_assoc (cell_text d) (flat_map spaced_cell ds) s) a))
cells_same (c ∷ cs) [] r s p q a b e = absurd (no_line c _ p.0 (subst EndsLine (sym e ∙ append_assoc (cell_text c) (flat_map spaced_cell cs) r) b))
cells_same (c ∷ cs) (d ∷ ds) r s p q a b e =
    let one = more_told.same (c, cs) (d, ds) r s p q a b e in
    (ap (λ x. x.0 ∷ x.1) one.0, one.1)

cells_told : Tells (AllByRecursion FitsCell) EndsLine cells_text
cells_told = record { same = cells_same }

row_told : Tells (AllByRecursion FitsCell) Anything row_text
row_told = trail (10 ∷ []) cells_told (λ r. refl)

rows_told : Tells Fits Anything (λ n. codes " rows " ++ decimal n ++ 10 ∷ [])
rows_told = trail (10 ∷ []) (lead (codes " rows ") number_told) (λ r. refl)

pub table_told : Tells FitsTable Anything table_text
table_told = counted rows_told row_told
