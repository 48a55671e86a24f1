-- Journals that begin with others, and the entries of one lane in them.
use Rattle.std.proofs.Common.{◌≡◌, ◌≢◌, ℕ, suc, ◌+◌, ◌≤◌, Bool, true, false, eqb, List, [], ◌∷◌, ◌++◌, length, length-append, nat_lt, sym, refl, ap, ◌∙◌, ⊎_elim, append_assoc, append-nil, arith, ne_eqb}
use Rattle.dq_journal.specs.declared.entry.Entry.{Entry}
use Rattle.dq_journal.specs.Journals.{lane_of}
use Rattle.dq_turn.specs.Made.{Begins, placed, made_from, made, Grows}
use Rattle.dq_turn.specs.Views.{longer_by, longer}

pub begins_same : (xs : List Entry) → Begins xs xs
begins_same xs = ([], sym (append-nil xs))

pub begins_trans : (xs ys zs : List Entry) → Begins xs ys → Begins ys zs → Begins xs zs
begins_trans xs ys zs a b = (a.0 ++ b.0, b.1 ∙ (ap (λ l. l ++ b.0) a.1 ∙ append_assoc xs a.0 b.0))

pub begins_length : (xs ys : List Entry) → Begins xs ys → length xs ≤ length ys
begins_length xs ys a = let e : length ys ≡ length xs + length a.0 = ap length a.1 ∙ length-append xs a.0 in omega arith

abbrev head_or : Entry → List Entry → Entry
head_or e [] = e
head_or e (x ∷ xs) = x

abbrev tail_of : List Entry → List Entry
tail_of [] = []
tail_of (x ∷ xs) = xs

-- of two beginnings of one list the one that isn't longer begins the other
agree : (xs ys m n : List Entry) → xs ++ m ≡ ys ++ n → length xs ≤ length ys → Begins xs ys
agree [] ys m n e le = (ys, refl)
agree (x ∷ xs) [] m n e le = absurd (omega arith)
agree (x ∷ xs) (y ∷ ys) m n e le =
    let rest = agree xs ys m n (ap tail_of e) (omega arith) in
    (rest.0, λ i. ap (head_or x) (sym e) i ∷ rest.1 i)

pub begins_shorter : (xs ys log : List Entry) → Begins xs log → Begins ys log → length xs ≤ length ys → Begins xs ys
begins_shorter xs ys log a b le = agree xs ys a.0 b.0 (sym a.1 ∙ b.1) le

longer_cases : (xs ys log : List Entry) → Begins xs log → Begins ys log → (t : Bool) → nat_lt (length xs) (length ys) ≡ t
    → Begins (longer_by t xs ys) log × Begins xs (longer_by t xs ys) × Begins ys (longer_by t xs ys)
longer_cases xs ys log a b true is = (b, begins_shorter xs ys log a b (grind arith), begins_same ys)
longer_cases xs ys log a b false is = (a, begins_same xs, begins_shorter ys xs log b a (grind arith))

-- the longer of two beginnings of one list begins with both
pub longer_begins : (xs ys log : List Entry) → Begins xs log → Begins ys log → Begins (longer xs ys) log × Begins xs (longer xs ys) × Begins ys (longer xs ys)
longer_begins xs ys log a b = longer_cases xs ys log a b (nat_lt (length xs) (length ys)) refl

placed-append : (t : Bool) (k : ℕ) (e : Entry) (xs ys : List (ℕ × Entry)) → placed t k e (xs ++ ys) ≡ placed t k e xs ++ ys
placed-append true k e xs ys = refl
placed-append false k e xs ys = refl

-- of two journals, one behind the other
pub made_from-append : (n lane : ℕ) (xs ys : List Entry) → made_from n lane (xs ++ ys) ≡ made_from n lane xs ++ made_from (n + length xs) lane ys
made_from-append n lane [] ys = ap (λ k. made_from k lane ys) (omega arith)
made_from-append n lane (x ∷ xs) ys =
    ap (placed (eqb (lane_of x) lane) (n + 1) x) (made_from-append (n + 1) lane xs ys ∙ ap (λ k. made_from (n + 1) lane xs ++ made_from k lane ys) (omega arith))
    ∙ placed-append (eqb (lane_of x) lane) (n + 1) x (made_from (n + 1) lane xs) (made_from (n + suc (length xs)) lane ys)

-- an entry of another lane adds nothing
pub made_other : (lane : ℕ) (log : List Entry) (e : Entry) → lane_of e ≢ lane → made lane (log ++ e ∷ []) ≡ made lane log
made_other lane log e other =
    made_from-append 0 lane log (e ∷ [])
    ∙ (ap (λ t. made lane log ++ placed t (0 + length log + 1) e []) (ne_eqb (lane_of e) lane other) ∙ append-nil (made lane log))

nil_front : (xs ys : List (ℕ × Entry)) → xs ++ ys ≡ [] → xs ≡ []
nil_front [] ys e = refl
nil_front (x ∷ xs) ys e = absurd (let n = ap length e in omega arith)

-- a lane without entries had none before
pub made_none : (lane : ℕ) (seen log : List Entry) → Begins seen log → made lane log ≡ [] → made lane seen ≡ []
made_none lane seen log a none =
    nil_front (made lane seen) (made_from (0 + length seen) lane a.0) (sym (made_from-append 0 lane seen a.0) ∙ (ap (made lane) (sym a.1) ∙ none))

pub grows_begins : (lane : ℕ) (old new : List Entry) → Grows lane old new → Begins old new
grows_begins lane old new g = ⊎_elim (λ (same : new ≡ old). ([], same ∙ sym (append-nil old))) (λ (t : (e : Entry) × (new ≡ old ++ e ∷ []) × (lane_of e ≡ lane)). (t.0 ∷ [], t.1)) g

-- other lanes have the entries that they had
pub grows_other : (lane other : ℕ) (old new : List Entry) → other ≢ lane → Grows lane old new → made other new ≡ made other old
grows_other lane other old new apart g =
    ⊎_elim (λ (same : new ≡ old). ap (made other) same)
    (λ (t : (e : Entry) × (new ≡ old ++ e ∷ []) × (lane_of e ≡ lane)). ap (made other) t.1 ∙ made_other other old t.0 (λ is. apart (sym is ∙ t.2))) g
