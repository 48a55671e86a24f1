-- What queries meet, one after another.
use Rattle.std.proofs.Common.{◌≡◌, ℕ, zero, suc, ◌+◌, ◌<◌, ◌≤◌, Bool, true, false, not, cond, List, [], ◌∷◌, ◌++◌, length, map, take, drop, filter, get_or, find, refl, sym, ap, ◌∙◌, arith, fold, append_assoc, drop-cons}
use Rattle.std.specs.List.{enumerate_from}
use Rattle.std.specs.Prelude.{Option, Some, None}
use Rattle.std.specs.Option.{option_map}
use Rattle.std.proofs.lemmas.List.{take_more, map-append}
use Rattle.std.proofs.lemmas.List.Sums.{fold_push}
use Rattle.dq_base.specs.Batches.{Group, fuses, groups, groups_from}
use Rattle.dq_base.specs.Canonical.{canonical}
use Rattle.dq_base.specs.Headings.{Heading}
use Rattle.dq_base.specs.declared.canon.Role.{Role}
use Rattle.dq_base.specs.declared.canon.Role.TheVariants.{Remote, Local}
use Rattle.dq_base.specs.declared.query.Query.{Query}
use Rattle.dq_journal.specs.declared.entry.Met.{Met}
use Rattle.dq_journal.specs.declared.entry.Met.TheVariants as met
use Rattle.dq_cache.specs.Entries.{to_front}
use Rattle.dq_machine.specs.Admitting.{Looked, has_cover, has_same, joins_of, look, look_literal, may_join, met_flight, missed, numbers_from, then_look}
use Rattle.dq_machine.specs.Preparing.{canons_of, is_valid, remote_among}
use Rattle.dq_machine.specs.Publishing.{stamp_in}
use Rattle.dq_machine.specs.State.{Flown, Publication, Shelved, Shelves}
use Rattle.dq_machine.proofs.Fronts.{stays}

abbrev pub flight_of : Option Shelved → Option ℕ
flight_of o = option_map (λ (e : Shelved). e.flight) o

-- a look-up

pub literal_found : (flown : List Flown) (stamp : ℕ) (q : Query) (o : Option Shelved) (n : ℕ) → Some n ≡ flight_of o → Some (met.Literal n) ≡ look_literal flown stamp q o
literal_found flown stamp q None n e = cc
literal_found flown stamp q (Some s) n e = let f : n ≡ s.flight = cc in ap (λ m. Some (met.Literal m)) f

pub literal_missed : (flown : List Flown) (stamp : ℕ) (q : Query) (o : Option Shelved) → None ≡ flight_of o → met_flight (find (may_join stamp q) flown) ≡ look_literal flown stamp q o
literal_missed flown stamp q None e = refl
literal_missed flown stamp q (Some s) e = cc

pub look_hit : (flown : List Flown) (stamp : ℕ) (q : Query) (shelves : Shelves) (clever : List Shelved) (o : Option Shelved) (n : ℕ)
    → Some n ≡ flight_of o → clever ≡ to_front (has_cover stamp q) shelves.clever
    → ◌≡◌ {A = Looked} (record { shelves = record { clever = clever; literal = shelves.literal }; found = Some (met.Hit n) ∷ [] }) (look flown stamp q shelves o)
look_hit flown stamp q shelves clever None n e f = cc
look_hit flown stamp q shelves clever (Some s) n e f =
    let h : n ≡ s.flight = cc in
    (λ j. record { shelves = record { clever = f j; literal = shelves.literal }; found = Some (met.Hit (h j)) ∷ [] })

missed_by : (flown : List Flown) (stamp : ℕ) (q : Query) (shelves : Shelves) (clever literal : List Shelved) (m : Option Met) (o : Option Shelved)
    → None ≡ flight_of o → (o ≡ None → clever ≡ shelves.clever) → literal ≡ to_front (has_same stamp q) shelves.literal → m ≡ look_literal flown stamp q (find (has_same stamp q) shelves.literal)
    → ◌≡◌ {A = Looked} (record { shelves = record { clever = clever; literal = literal }; found = m ∷ [] }) (look flown stamp q shelves o)
missed_by flown stamp q shelves clever literal m None e f g h = let same = f refl in (λ j. record { shelves = record { clever = same j; literal = g j }; found = h j ∷ [] })
missed_by flown stamp q shelves clever literal m (Some s) e f g h = cc

pub look_missed : (flown : List Flown) (stamp : ℕ) (q : Query) (shelves : Shelves) (clever literal : List Shelved) (m : Option Met)
    → None ≡ flight_of (find (has_cover stamp q) shelves.clever) → clever ≡ to_front (has_cover stamp q) shelves.clever
    → literal ≡ to_front (has_same stamp q) shelves.literal → m ≡ look_literal flown stamp q (find (has_same stamp q) shelves.literal)
    → ◌≡◌ {A = Looked} (record { shelves = record { clever = clever; literal = literal }; found = m ∷ [] }) (look flown stamp q shelves (find (has_cover stamp q) shelves.clever))
look_missed flown stamp q shelves clever literal m e f g h =
    missed_by flown stamp q shelves clever literal m (find (has_cover stamp q) shelves.clever) e (λ none. f ∙ sym (stays (has_cover stamp q) shelves.clever none)) g h

-- one look-up more
pub looked_more : {K : Type 0} (key : K → Query) (flown : List Flown) (versions : List Publication) (start : Looked) (ks : List K) (i : ℕ) (k : K) (before : Looked) (after : Shelves) (m : Option Met)
    → i < length ks → k ≡ get_or ks i k → before ≡ fold (then_look flown versions) start (map key (take i ks))
    → ◌≡◌ {A = Looked} (record { shelves = after; found = m ∷ [] }) (look flown (stamp_in versions (key k).source) (key k) before.shelves (find (has_cover (stamp_in versions (key k).source) (key k)) before.shelves.clever))
    → ◌≡◌ {A = Looked} (record { shelves = after; found = before.found ++ m ∷ [] }) (fold (then_look flown versions) start (map key (take (i + 1) ks)))
looked_more key flown versions start ks i k before after m l e is one =
    ap (λ (o : Looked). record { shelves = o.shelves; found = before.found ++ o.found }) one
    ∙ ap (λ b. then_look flown versions b (key k)) is
    ∙ sym (fold_push (then_look flown versions) start (map key (take i ks)) (key k))
    ∙ ap (fold (then_look flown versions) start) (sym (map-append key (take i ks) (k ∷ [])))
    ∙ ap (λ ys. fold (then_look flown versions) start (map key ys)) (ap (λ x. take i ks ++ x ∷ []) e ∙ sym (take_more ks i k l))

-- two lists at once

pub missed_left : (qs : List Query) → missed [] qs ≡ []
missed_left qs = refl

pub missed_right : (fs : List (Option Met)) → missed fs [] ≡ []
missed_right [] = refl
missed_right (None ∷ fs) = refl
missed_right (Some m ∷ fs) = refl

pub missed_both : (f : Option Met) (fs : List (Option Met)) (q : Query) (qs : List Query) → missed (f ∷ fs) (q ∷ qs) ≡ missed (f ∷ []) (q ∷ []) ++ missed fs qs
missed_both None fs q qs = refl
missed_both (Some m) fs q qs = refl

pub joins_left : (versions : List Publication) (qs : List Query) → joins_of versions [] qs ≡ []
joins_left versions qs = refl

pub joins_right : (versions : List Publication) (fs : List (Option Met)) → joins_of versions fs [] ≡ []
joins_right versions [] = refl
joins_right versions (f ∷ fs) = refl

pub joins_both : (versions : List Publication) (f : Option Met) (fs : List (Option Met)) (q : Query) (qs : List Query)
    → joins_of versions (f ∷ fs) (q ∷ qs) ≡ joins_of versions (f ∷ []) (q ∷ []) ++ joins_of versions fs qs
joins_both versions None fs q qs = refl
joins_both versions (Some (met.Hit n)) fs q qs = refl
joins_both versions (Some (met.Literal n)) fs q qs = refl
joins_both versions (Some (met.Join n)) fs q qs = refl
joins_both versions (Some (met.Group n)) fs q qs = refl

pub remote_left : (qs : List Query) → remote_among [] qs ≡ []
remote_left qs = refl

pub remote_right : (rs : List Role) → remote_among rs [] ≡ []
remote_right [] = refl
remote_right (Remote ∷ rs) = refl
remote_right (Local place ∷ rs) = refl

pub remote_both : (r : Role) (rs : List Role) (q : Query) (qs : List Query) → remote_among (r ∷ rs) (q ∷ qs) ≡ remote_among (r ∷ []) (q ∷ []) ++ remote_among rs qs
remote_both Remote rs q qs = refl
remote_both (Local place) rs q qs = refl

-- no more misses than queries, and no more groups than misses

pub few_missed : (fs : List (Option Met)) (qs : List Query) → length (missed fs qs) ≤ length qs
few_missed [] qs = omega arith
few_missed (None ∷ fs) [] = omega arith
few_missed (Some m ∷ fs) [] = omega arith
few_missed (None ∷ fs) (q ∷ qs) = omega (arith, few_missed fs qs)
few_missed (Some m ∷ fs) (q ∷ qs) = omega (arith, few_missed fs qs)

few_from : (n : ℕ) (qs : List (ℕ × Query)) → length (groups_from n qs) ≤ n
few_from zero qs = omega arith
few_from (suc n) [] = omega arith
few_from (suc n) (q ∷ qs) = let h = few_from n (filter (λ p. not (fuses q.1 p.1)) qs) in omega (arith, h)

pub few_groups : (qs : List Query) → length (groups qs) ≤ length qs
few_groups qs = few_from (length qs) (enumerate_from 0 qs)

-- one number more
numbered_by : (f : ℕ → ℕ) (n : ℕ) (ms : List Query) (i : ℕ) → i < length ms → map (λ p. f p.0) (enumerate_from n (drop i ms)) ≡ f n ∷ map (λ p. f p.0) (enumerate_from (n + 1) (drop (suc i) ms))
numbered_by f n [] i l = absurd (omega arith)
numbered_by f n (m ∷ ms) zero l = refl
numbered_by f n (m ∷ ms) (suc i) l = numbered_by f n ms i (omega arith)

pub numbered_more : (f : ℕ → ℕ) (ms : List Query) (i number : ℕ) (whole before after : List ℕ) → i < length ms → number ≡ f i
    → whole ≡ before ++ map (λ p. f p.0) (enumerate_from i (drop i ms)) → after ≡ before ++ number ∷ []
    → whole ≡ after ++ map (λ p. f p.0) (enumerate_from (i + 1) (drop (i + 1) ms))
numbered_more f ms i number whole before after l e is more =
    let n : suc i ≡ i + 1 = omega arith in
    let rest = map (λ p. f p.0) (enumerate_from (i + 1) (drop (suc i) ms)) in
    is
    ∙ ap (λ ys. before ++ ys) (numbered_by f i ms i l ∙ ap (λ m. m ∷ rest) (sym e))
    ∙ sym (append_assoc before (number ∷ []) rest)
    ∙ ap (λ ys. ys ++ rest) (sym more)
    ∙ ap (λ k. after ++ map (λ p. f p.0) (enumerate_from (i + 1) (drop k ms))) n

-- one zone more
canons_by : (schemas : List Heading) (b : Bool) (q : Query) (rest : List Query) → map canonical (cond b (q ∷ rest) rest) ≡ map canonical (cond b (q ∷ []) []) ++ map canonical rest
canons_by schemas true q rest = refl
canons_by schemas false q rest = refl

pub canons_more : (schemas : List Heading) (zones : List Query) (i : ℕ) (q : Query) (whole before after : List Query) → i < length zones → q ≡ get_or zones i q
    → whole ≡ before ++ canons_of schemas (drop i zones) → after ≡ before ++ canons_of schemas (q ∷ []) → whole ≡ after ++ canons_of schemas (drop (i + 1) zones)
canons_more schemas zones i q whole before after l e is more =
    let n : suc i ≡ i + 1 = omega arith in
    let rest = canons_of schemas (drop (suc i) zones) in
    is
    ∙ ap (λ zs. before ++ canons_of schemas zs) (drop-cons zones i q l ∙ ap (λ z. z ∷ drop (suc i) zones) (sym e))
    ∙ ap (λ ys. before ++ ys) (canons_by schemas (is_valid schemas q) q (filter (is_valid schemas) (drop (suc i) zones)))
    ∙ sym (append_assoc before (canons_of schemas (q ∷ [])) rest)
    ∙ ap (λ ys. ys ++ rest) (sym more)
    ∙ ap (λ k. after ++ canons_of schemas (drop k zones)) n

-- one number more, from the first on
numbers_by : (n : ℕ) (gs : List Group) (i : ℕ) → i < length gs → numbers_from n (drop i gs) ≡ n ∷ numbers_from (n + 1) (drop (suc i) gs)
numbers_by n [] i l = absurd (omega arith)
numbers_by n (g ∷ gs) zero l = refl
numbers_by n (g ∷ gs) (suc i) l = numbers_by n gs i (omega arith)

pub numbers_more : (first : ℕ) (gs : List Group) (i : ℕ) (whole before after : List ℕ) → i < length gs
    → whole ≡ before ++ numbers_from (first + i) (drop i gs) → after ≡ before ++ (first + i) ∷ []
    → whole ≡ after ++ numbers_from (first + (i + 1)) (drop (i + 1) gs)
numbers_more first gs i whole before after l is more =
    let n : suc i ≡ i + 1 = omega arith in
    let m : first + i + 1 ≡ first + (i + 1) = omega arith in
    let rest = numbers_from (first + i + 1) (drop (suc i) gs) in
    is
    ∙ ap (λ ys. before ++ ys) (numbers_by (first + i) gs i l)
    ∙ sym (append_assoc before ((first + i) ∷ []) rest)
    ∙ ap (λ ys. ys ++ rest) (sym more)
    ∙ ap (λ k. after ++ numbers_from k (drop (suc i) gs)) m
    ∙ ap (λ k. after ++ numbers_from (first + (i + 1)) (drop k gs)) n
