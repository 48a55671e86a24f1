-- The text of an entry tells the entry.
use Rattle.std.proofs.Common.{◌≡◌, ℕ, Bool, true, false, List, ◌++◌, flat_map, decimal, codes, Option, Some, None, refl, sym, ap, ◌∙◌, true≢false, arith}
use Rattle.std.specs.List.{AllByRecursion}
use Rattle.std.proofs.lemmas.List.{append_cancel_left}
use Rattle.dq_base.specs.declared.kept.Kept.{Kept}
use Rattle.dq_journal.specs.Journals.{LostAs, IsEntry}
use Rattle.dq_journal.specs.declared.entry.Met.{Met}
use Rattle.dq_journal.specs.declared.entry.Met.TheVariants.{Hit, Literal, Join, Group}
use Rattle.dq_journal.specs.declared.entry.Cause.{Cause}
use Rattle.dq_journal.specs.declared.entry.Cause.TheVariants as cause
use Rattle.dq_journal.specs.declared.entry.Entry.{Entry}
use Rattle.dq_journal.specs.declared.entry.Entry.TheVariants.{Publish, Admit, Lease, Give, Lose, Land, Fall, Take, End}
use Rattle.dq_base.specs.Spelling.{Bytes}
use Rattle.dq_report.specs.Report.{met_text, cause_text, fresh_word, step_of_lane, flight_of_lane, linked_text, counts_text, lost_text, taken_text, land_text, entry_text}
use Rattle.dq_base.specs.Sizes.{Fits}
use Rattle.dq_report.specs.Told.{FitsMet, FitsNext, FitsEntry}
use Rattle.dq_base.specs.Rests.{Anything, Stops}
use Rattle.dq_base.proofs.Told.{second, third, Tells, Goes, lead, trail, both, until}
use Rattle.dq_report.proofs.Told.{EndsLine, stops_at_line}
use Rattle.dq_base.proofs.ToldNumbers.{number_told}
use Rattle.dq_report.proofs.ToldWords.{kept_told, cause_told, ran_told, fresh_told}

-- what a remote query met

met_same : (x y : Met) (r s : Bytes) → FitsMet x → FitsMet y → Stops r → Stops s → met_text x ++ r ≡ met_text y ++ s → (x ≡ y) × (r ≡ s)
met_same (Hit m) (Hit n) r s p q a b e = let one = (lead (codes " hit ") number_told).same m n r s p q a b e in (ap Hit one.0, one.1)
met_same (Hit m) (Literal n) r s p q a b e = absurd (omega (arith, ap second e))
met_same (Hit m) (Join n) r s p q a b e = absurd (omega (arith, ap second e))
met_same (Hit m) (Group n) r s p q a b e = absurd (omega (arith, ap second e))
met_same (Literal m) (Hit n) r s p q a b e = absurd (omega (arith, ap second e))
met_same (Literal m) (Literal n) r s p q a b e = let one = (lead (codes " literal ") number_told).same m n r s p q a b e in (ap Literal one.0, one.1)
met_same (Literal m) (Join n) r s p q a b e = absurd (omega (arith, ap second e))
met_same (Literal m) (Group n) r s p q a b e = absurd (omega (arith, ap second e))
met_same (Join m) (Hit n) r s p q a b e = absurd (omega (arith, ap second e))
met_same (Join m) (Literal n) r s p q a b e = absurd (omega (arith, ap second e))
met_same (Join m) (Join n) r s p q a b e = let one = (lead (codes " join ") number_told).same m n r s p q a b e in (ap Join one.0, one.1)
met_same (Join m) (Group n) r s p q a b e = absurd (omega (arith, ap second e))
met_same (Group m) (Hit n) r s p q a b e = absurd (omega (arith, ap second e))
met_same (Group m) (Literal n) r s p q a b e = absurd (omega (arith, ap second e))
met_same (Group m) (Join n) r s p q a b e = absurd (omega (arith, ap second e))
met_same (Group m) (Group n) r s p q a b e = let one = (lead (codes " group ") number_told).same m n r s p q a b e in (ap Group one.0, one.1)

met_told : Tells FitsMet Stops met_text
met_told = record { same = met_same }

met_opens : (x : Met) (r : Bytes) → Stops (met_text x ++ r)
met_opens (Hit n) r = refl
met_opens (Literal n) r = refl
met_opens (Join n) r = refl
met_opens (Group n) r = refl

met_apart : (x : Met) (r : Bytes) → EndsLine (met_text x ++ r) → ⊥
met_apart (Hit n) r e = true≢false (sym e)
met_apart (Literal n) r e = true≢false (sym e)
met_apart (Join n) r e = true≢false (sym e)
met_apart (Group n) r e = true≢false (sym e)

met_goes : Goes FitsMet Stops EndsLine met_text
met_goes = record { opens = λ x r p. met_opens x r; closes = stops_at_line; apart = λ x r p. met_apart x r }

-- lanes, steps, flights and links

abbrev FitTwo : ℕ × ℕ → Type 0
FitTwo p = Fits p.0 × Fits p.1

step_told : Tells FitTwo Stops (λ p. step_of_lane p.0 p.1)
step_told = both (trail (codes " step ") (lead (codes " lane ") number_told) (λ r. refl)) number_told (λ n r p a. tt)

flight_told : Tells FitTwo Stops (λ p. flight_of_lane p.0 p.1)
flight_told = both (trail (codes " flight ") (lead (codes " lane ") number_told) (λ r. refl)) number_told (λ n r p a. tt)

abbrev Linked : Type 0
Linked = (ℕ × ℕ) × ℕ

abbrev FitLinked : Linked → Type 0
FitLinked p = FitTwo p.0 × Fits p.1

linked_told : (word : Bytes) → Tells FitLinked Stops (λ p. linked_text word p.0.0 p.0.1 p.1)
linked_told word = both (trail (codes " link ") (lead word flight_told) (λ r. refl)) number_told (λ n r p a. tt)

-- whether a statement was run, and the link's counts

abbrev Counts : Type 0
Counts = (Bool × ℕ) × ℕ

abbrev FitCounts : Counts → Type 0
FitCounts p = ((Unit {0}) × Fits p.0.1) × Fits p.1

counts_told : Tells FitCounts Stops (λ p. counts_text p.0.0 p.0.1 p.1)
counts_told = both (trail (codes " calls ") (both (trail (codes " runs ") ran_told (λ r. tt)) number_told (λ n r p a. tt)) (λ r. refl)) number_told (λ n r p a. tt)

counts_opens : (ran : Bool) (runs calls : ℕ) (r : Bytes) → Stops (counts_text ran runs calls ++ r)
counts_opens true runs calls r = refl
counts_opens false runs calls r = refl

abbrev Lost : Type 0
Lost = Bool × Counts

lost_same : (dialled told ran spoke : Bool) (runs calls ends turns : ℕ) (r s : Bytes) → LostAs dialled ran runs calls → LostAs told spoke ends turns
    → Fits runs × Fits calls → Fits ends × Fits turns → Stops r → Stops s → lost_text dialled ran runs calls ++ r ≡ lost_text told spoke ends turns ++ s
    → (◌≡◌ {A = Lost} (dialled, ((ran, runs), calls)) (told, ((spoke, ends), turns))) × (r ≡ s)
lost_same true true ran spoke runs calls ends turns r s f g p q a b e =
    let one = (lead (codes " dialled") counts_told).same ((ran, runs), calls) ((spoke, ends), turns) r s ((tt, p.0), p.1) ((tt, q.0), q.1) a b e in
    ((λ i. (true, one.0 i)), one.1)
lost_same true false ran spoke runs calls ends turns r s f g p q a b e = absurd (omega (arith, ap second e))
lost_same false true ran spoke runs calls ends turns r s f g p q a b e = absurd (omega (arith, ap second e))
lost_same false false ran spoke runs calls ends turns r s f g p q a b e =
    (λ i. (false, (((f.0 ∙ sym g.0) i, (f.1 ∙ sym g.1) i), (f.2 ∙ sym g.2) i)), append_cancel_left (codes " undialled") r s e)

abbrev FitLost : Lost → Type 0
FitLost p = LostAs p.0 p.1.0.0 p.1.0.1 p.1.1 × (Fits p.1.0.1 × Fits p.1.1)

lost_told : Tells FitLost Stops (λ p. lost_text p.0 p.1.0.0 p.1.0.1 p.1.1)
lost_told = record { same = λ x y r s p q a b e. lost_same x.0 y.0 x.1.0.0 y.1.0.0 x.1.0.1 x.1.1 y.1.0.1 y.1.1 r s p.0 q.0 p.1 q.1 a b e }

lost_opens : (dialled ran : Bool) (runs calls : ℕ) (r : Bytes) → Stops (lost_text dialled ran runs calls ++ r)
lost_opens true ran runs calls r = refl
lost_opens false ran runs calls r = refl

-- whether what was taken had landed

taken_same : (x y : Option ℕ) (r s : Bytes) → FitsNext x → FitsNext y → Stops r → Stops s → taken_text x ++ r ≡ taken_text y ++ s → (x ≡ y) × (r ≡ s)
taken_same None None r s p q a b e = (refl, append_cancel_left (codes " landed") r s e)
taken_same None (Some n) r s p q a b e = absurd (omega (arith, ap second e))
taken_same (Some m) None r s p q a b e = absurd (omega (arith, ap second e))
taken_same (Some m) (Some n) r s p q a b e = let one = (lead (codes " fallen ") number_told).same m n r s p q a b e in (ap Some one.0, one.1)

taken_told : Tells FitsNext Stops taken_text
taken_told = record { same = taken_same }

taken_opens : (x : Option ℕ) (r : Bytes) → Stops (taken_text x ++ r)
taken_opens None r = refl
taken_opens (Some n) r = refl

fresh_stops : (fresh : Bool) (r : Bytes) → Stops (fresh_word fresh ++ r)
fresh_stops true r = refl
fresh_stops false r = refl

cause_stops : (c : Cause) (r : Bytes) → Stops (cause_text c ++ r)
cause_stops cause.BackEnd r = refl
cause_stops cause.Memory r = refl

-- each kind of entry

publish_told : Tells FitTwo Stops (λ p. codes "publish" ++ step_of_lane p.0 p.1)
publish_told = lead (codes "publish") step_told

admit_told : Tells (λ (p : (ℕ × ℕ) × List Met). FitTwo p.0 × AllByRecursion FitsMet p.1) EndsLine (λ p. codes "admit" ++ step_of_lane p.0.0 p.0.1 ++ codes " met" ++ flat_map met_text p.1)
admit_told = both (trail (codes " met") (lead (codes "admit") step_told) (λ r. refl)) (until met_told met_goes) (λ m r p a. tt)

lease_told : Tells (λ (p : Linked × Bool). FitLinked p.0 × Unit {0}) Anything (λ p. linked_text (codes "lease") p.0.0.0 p.0.0.1 p.0.1 ++ fresh_word p.1)
lease_told = both (linked_told (codes "lease")) fresh_told (λ f r p a. fresh_stops f r)

give_told : Tells (λ (p : Linked × Counts). FitLinked p.0 × FitCounts p.1) Stops (λ p. linked_text (codes "give") p.0.0.0 p.0.0.1 p.0.1 ++ counts_text p.1.0.0 p.1.0.1 p.1.1)
give_told = both (linked_told (codes "give")) counts_told (λ c r p a. counts_opens c.0.0 c.0.1 c.1 r)

lose_told : Tells (λ (p : Linked × Lost). FitLinked p.0 × FitLost p.1) Stops (λ p. linked_text (codes "lose") p.0.0.0 p.0.0.1 p.0.1 ++ lost_text p.1.0 p.1.1.0.0 p.1.1.0.1 p.1.1.1)
lose_told = both (linked_told (codes "lose")) lost_told (λ l r p a. lost_opens l.0 l.1.0.0 l.1.0.1 l.1.1 r)

abbrev Landed : Type 0
Landed = (((ℕ × ℕ) × ℕ) × Kept) × Kept

abbrev FitLanded : Landed → Type 0
FitLanded p = ((FitTwo p.0.0.0 × Fits p.0.0.1) × Unit {0}) × Unit {0}

land_told : Tells FitLanded Anything (λ p. land_text p.0.0.0.0 p.0.0.0.1 p.0.0.1 p.0.1 p.1)
land_told =
    let cells = both (trail (codes " cells ") (lead (codes "land") flight_told) (λ r. refl)) number_told (λ n r p a. tt) in
    let clever = both (trail (codes " clever ") cells (λ r. refl)) kept_told (λ k r p a. tt) in
    both (trail (codes " literal ") clever (λ r. tt)) kept_told (λ k r p a. tt)

fall_told : Tells (λ (p : (ℕ × ℕ) × Cause). FitTwo p.0 × Unit {0}) Anything (λ p. codes "fall" ++ flight_of_lane p.0.0 p.0.1 ++ cause_text p.1)
fall_told = both (lead (codes "fall") flight_told) cause_told (λ c r p a. cause_stops c r)

take_told : Tells (λ (p : (ℕ × ℕ) × Option ℕ). FitTwo p.0 × FitsNext p.1) Stops (λ p. codes "take" ++ flight_of_lane p.0.0 p.0.1 ++ taken_text p.1)
take_told = both (lead (codes "take") flight_told) taken_told (λ n r p a. taken_opens n r)

end_told : Tells Fits Stops (λ n. codes "end lane " ++ decimal n)
end_told = lead (codes "end lane ") number_told

-- entries

entry_same : (x y : Entry) (r s : Bytes) → FitsEntry x × IsEntry x → FitsEntry y × IsEntry y → EndsLine r → EndsLine s → entry_text x ++ r ≡ entry_text y ++ s → (x ≡ y) × (r ≡ s)
entry_same (Publish m t) (Publish m' t') r s p q a b e =
    let one = publish_told.same (m, t) (m', t') r s (p.0.0, p.0.1) (q.0.0, q.0.1) (stops_at_line r a) (stops_at_line s b) e in
    (ap (λ t. Publish t.0 t.1) one.0, one.1)
entry_same (Publish m t) (Admit m' t' w') r s p q a b e = absurd (omega (arith, ap third e))
entry_same (Publish m t) (Lease m' f' k' g') r s p q a b e = absurd (omega (arith, ap third e))
entry_same (Publish m t) (Give m' f' k' o' u' c') r s p q a b e = absurd (omega (arith, ap third e))
entry_same (Publish m t) (Lose m' f' k' d' o' u' c') r s p q a b e = absurd (omega (arith, ap third e))
entry_same (Publish m t) (Land m' f' n' h' l') r s p q a b e = absurd (omega (arith, ap third e))
entry_same (Publish m t) (Fall m' f' v') r s p q a b e = absurd (omega (arith, ap third e))
entry_same (Publish m t) (Take m' f' x') r s p q a b e = absurd (omega (arith, ap third e))
entry_same (Publish m t) (End m') r s p q a b e = absurd (omega (arith, ap third e))
entry_same (Admit m t w) (Publish m' t') r s p q a b e = absurd (omega (arith, ap third e))
entry_same (Admit m t w) (Admit m' t' w') r s p q a b e =
    let one = admit_told.same ((m, t), w) ((m', t'), w') r s ((p.0.0, p.0.1), p.0.2) ((q.0.0, q.0.1), q.0.2) a b e in
    (ap (λ t. Admit t.0.0 t.0.1 t.1) one.0, one.1)
entry_same (Admit m t w) (Lease m' f' k' g') r s p q a b e = absurd (omega (arith, ap third e))
entry_same (Admit m t w) (Give m' f' k' o' u' c') r s p q a b e = absurd (omega (arith, ap third e))
entry_same (Admit m t w) (Lose m' f' k' d' o' u' c') r s p q a b e = absurd (omega (arith, ap third e))
entry_same (Admit m t w) (Land m' f' n' h' l') r s p q a b e = absurd (omega (arith, ap third e))
entry_same (Admit m t w) (Fall m' f' v') r s p q a b e = absurd (omega (arith, ap third e))
entry_same (Admit m t w) (Take m' f' x') r s p q a b e = absurd (omega (arith, ap third e))
entry_same (Admit m t w) (End m') r s p q a b e = absurd (omega (arith, ap third e))
entry_same (Lease m f k g) (Publish m' t') r s p q a b e = absurd (omega (arith, ap third e))
entry_same (Lease m f k g) (Admit m' t' w') r s p q a b e = absurd (omega (arith, ap third e))
entry_same (Lease m f k g) (Lease m' f' k' g') r s p q a b e =
    let one = lease_told.same (((m, f), k), g) (((m', f'), k'), g') r s (((p.0.0, p.0.1), p.0.2), tt) (((q.0.0, q.0.1), q.0.2), tt) tt tt e in
    (ap (λ t. Lease t.0.0.0 t.0.0.1 t.0.1 t.1) one.0, one.1)
entry_same (Lease m f k g) (Give m' f' k' o' u' c') r s p q a b e = absurd (omega (arith, ap third e))
entry_same (Lease m f k g) (Lose m' f' k' d' o' u' c') r s p q a b e = absurd (omega (arith, ap third e))
entry_same (Lease m f k g) (Land m' f' n' h' l') r s p q a b e = absurd (omega (arith, ap third e))
entry_same (Lease m f k g) (Fall m' f' v') r s p q a b e = absurd (omega (arith, ap third e))
entry_same (Lease m f k g) (Take m' f' x') r s p q a b e = absurd (omega (arith, ap third e))
entry_same (Lease m f k g) (End m') r s p q a b e = absurd (omega (arith, ap third e))
entry_same (Give m f k o u c) (Publish m' t') r s p q a b e = absurd (omega (arith, ap third e))
entry_same (Give m f k o u c) (Admit m' t' w') r s p q a b e = absurd (omega (arith, ap third e))
entry_same (Give m f k o u c) (Lease m' f' k' g') r s p q a b e = absurd (omega (arith, ap third e))
entry_same (Give m f k o u c) (Give m' f' k' o' u' c') r s p q a b e =
    let one = give_told.same (((m, f), k), ((o, u), c)) (((m', f'), k'), ((o', u'), c')) r s (((p.0.0, p.0.1), p.0.2), ((tt, p.0.3), p.0.4)) (((q.0.0, q.0.1), q.0.2), ((tt, q.0.3), q.0.4)) (stops_at_line r a) (stops_at_line s b) e in
    (ap (λ t. Give t.0.0.0 t.0.0.1 t.0.1 t.1.0.0 t.1.0.1 t.1.1) one.0, one.1)
entry_same (Give m f k o u c) (Lose m' f' k' d' o' u' c') r s p q a b e = absurd (omega (arith, ap third e))
entry_same (Give m f k o u c) (Land m' f' n' h' l') r s p q a b e = absurd (omega (arith, ap third e))
entry_same (Give m f k o u c) (Fall m' f' v') r s p q a b e = absurd (omega (arith, ap third e))
entry_same (Give m f k o u c) (Take m' f' x') r s p q a b e = absurd (omega (arith, ap third e))
entry_same (Give m f k o u c) (End m') r s p q a b e = absurd (omega (arith, ap third e))
entry_same (Lose m f k d o u c) (Publish m' t') r s p q a b e = absurd (omega (arith, ap third e))
entry_same (Lose m f k d o u c) (Admit m' t' w') r s p q a b e = absurd (omega (arith, ap third e))
entry_same (Lose m f k d o u c) (Lease m' f' k' g') r s p q a b e = absurd (omega (arith, ap third e))
entry_same (Lose m f k d o u c) (Give m' f' k' o' u' c') r s p q a b e = absurd (omega (arith, ap third e))
entry_same (Lose m f k d o u c) (Lose m' f' k' d' o' u' c') r s p q a b e =
    let one = lose_told.same (((m, f), k), (d, ((o, u), c))) (((m', f'), k'), (d', ((o', u'), c'))) r s (((p.0.0, p.0.1), p.0.2), (p.1, (p.0.3, p.0.4))) (((q.0.0, q.0.1), q.0.2), (q.1, (q.0.3, q.0.4))) (stops_at_line r a) (stops_at_line s b) e in
    (ap (λ t. Lose t.0.0.0 t.0.0.1 t.0.1 t.1.0 t.1.1.0.0 t.1.1.0.1 t.1.1.1) one.0, one.1)
entry_same (Lose m f k d o u c) (Land m' f' n' h' l') r s p q a b e = absurd (omega (arith, ap third e))
entry_same (Lose m f k d o u c) (Fall m' f' v') r s p q a b e = absurd (omega (arith, ap third e))
entry_same (Lose m f k d o u c) (Take m' f' x') r s p q a b e = absurd (omega (arith, ap third e))
entry_same (Lose m f k d o u c) (End m') r s p q a b e = absurd (omega (arith, ap third e))
entry_same (Land m f n h l) (Publish m' t') r s p q a b e = absurd (omega (arith, ap third e))
entry_same (Land m f n h l) (Admit m' t' w') r s p q a b e = absurd (omega (arith, ap third e))
entry_same (Land m f n h l) (Lease m' f' k' g') r s p q a b e = absurd (omega (arith, ap third e))
entry_same (Land m f n h l) (Give m' f' k' o' u' c') r s p q a b e = absurd (omega (arith, ap third e))
entry_same (Land m f n h l) (Lose m' f' k' d' o' u' c') r s p q a b e = absurd (omega (arith, ap third e))
entry_same (Land m f n h l) (Land m' f' n' h' l') r s p q a b e =
    let one = land_told.same ((((m, f), n), h), l) ((((m', f'), n'), h'), l') r s ((((p.0.0, p.0.1), p.0.2), tt), tt) ((((q.0.0, q.0.1), q.0.2), tt), tt) tt tt e in
    (ap (λ t. Land t.0.0.0.0 t.0.0.0.1 t.0.0.1 t.0.1 t.1) one.0, one.1)
entry_same (Land m f n h l) (Fall m' f' v') r s p q a b e = absurd (omega (arith, ap third e))
entry_same (Land m f n h l) (Take m' f' x') r s p q a b e = absurd (omega (arith, ap third e))
entry_same (Land m f n h l) (End m') r s p q a b e = absurd (omega (arith, ap third e))
entry_same (Fall m f v) (Publish m' t') r s p q a b e = absurd (omega (arith, ap third e))
entry_same (Fall m f v) (Admit m' t' w') r s p q a b e = absurd (omega (arith, ap third e))
entry_same (Fall m f v) (Lease m' f' k' g') r s p q a b e = absurd (omega (arith, ap third e))
entry_same (Fall m f v) (Give m' f' k' o' u' c') r s p q a b e = absurd (omega (arith, ap third e))
entry_same (Fall m f v) (Lose m' f' k' d' o' u' c') r s p q a b e = absurd (omega (arith, ap third e))
entry_same (Fall m f v) (Land m' f' n' h' l') r s p q a b e = absurd (omega (arith, ap third e))
entry_same (Fall m f v) (Fall m' f' v') r s p q a b e =
    let one = fall_told.same ((m, f), v) ((m', f'), v') r s ((p.0.0, p.0.1), tt) ((q.0.0, q.0.1), tt) tt tt e in
    (ap (λ t. Fall t.0.0 t.0.1 t.1) one.0, one.1)
entry_same (Fall m f v) (Take m' f' x') r s p q a b e = absurd (omega (arith, ap third e))
entry_same (Fall m f v) (End m') r s p q a b e = absurd (omega (arith, ap third e))
entry_same (Take m f x) (Publish m' t') r s p q a b e = absurd (omega (arith, ap third e))
entry_same (Take m f x) (Admit m' t' w') r s p q a b e = absurd (omega (arith, ap third e))
entry_same (Take m f x) (Lease m' f' k' g') r s p q a b e = absurd (omega (arith, ap third e))
entry_same (Take m f x) (Give m' f' k' o' u' c') r s p q a b e = absurd (omega (arith, ap third e))
entry_same (Take m f x) (Lose m' f' k' d' o' u' c') r s p q a b e = absurd (omega (arith, ap third e))
entry_same (Take m f x) (Land m' f' n' h' l') r s p q a b e = absurd (omega (arith, ap third e))
entry_same (Take m f x) (Fall m' f' v') r s p q a b e = absurd (omega (arith, ap third e))
entry_same (Take m f x) (Take m' f' x') r s p q a b e =
    let one = take_told.same ((m, f), x) ((m', f'), x') r s ((p.0.0, p.0.1), p.0.2) ((q.0.0, q.0.1), q.0.2) (stops_at_line r a) (stops_at_line s b) e in
    (ap (λ t. Take t.0.0 t.0.1 t.1) one.0, one.1)
entry_same (Take m f x) (End m') r s p q a b e = absurd (omega (arith, ap third e))
entry_same (End m) (Publish m' t') r s p q a b e = absurd (omega (arith, ap third e))
entry_same (End m) (Admit m' t' w') r s p q a b e = absurd (omega (arith, ap third e))
entry_same (End m) (Lease m' f' k' g') r s p q a b e = absurd (omega (arith, ap third e))
entry_same (End m) (Give m' f' k' o' u' c') r s p q a b e = absurd (omega (arith, ap third e))
entry_same (End m) (Lose m' f' k' d' o' u' c') r s p q a b e = absurd (omega (arith, ap third e))
entry_same (End m) (Land m' f' n' h' l') r s p q a b e = absurd (omega (arith, ap third e))
entry_same (End m) (Fall m' f' v') r s p q a b e = absurd (omega (arith, ap third e))
entry_same (End m) (Take m' f' x') r s p q a b e = absurd (omega (arith, ap third e))
entry_same (End m) (End m') r s p q a b e =
    let one = end_told.same m m' r s p.0 q.0 (stops_at_line r a) (stops_at_line s b) e in
    (ap (λ t. End t) one.0, one.1)

pub entry_told : Tells (λ e. FitsEntry e × IsEntry e) EndsLine entry_text
entry_told = record { same = entry_same }
