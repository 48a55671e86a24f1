-- The key of a group covers each of its members.
use Rattle.std.proofs.Common.{◌≡◌, ℕ, zero, suc, ◌+◌, Bool, true, false, not, ◌&&◌, cond, List, [], ◌∷◌, ◌++◌, map, length, refl, ap, ◌∙◌, append_assoc, length-append, subst, Option, Some}
use Rattle.std.specs.Prelude.{slice_get}
use Rattle.std.specs.Option.{option_map_or}
use Rattle.std.specs.List.{list_all, filter, enumerate_from}
use Rattle.dq_base.specs.Batches.{groups, groups_from, group_with, fuses}
use Rattle.dq_base.specs.Covering.{covers}
use Rattle.dq_base.proofs.SetLaws.{Each}
use Rattle.dq_cover.proofs.CoverLaws.{covers_refl, and_both}
use Rattle.dq_cover.proofs.Fused.{group_covered}
use Rattle.dq_fuse.specs.Covered.{covered_at, covers_members}
use Rattle.dq_base.specs.declared.query.Query.{Query}

abbrev Placed : Type 0
Placed = ℕ × Query

-- each stands at its place
abbrev Stand : List Query → List Placed → Type 0
Stand queries qs = Each (λ p. slice_get queries p.0 ≡ Some p.1) qs

chosen_stand : (b : Bool) (queries : List Query) (q : Placed) (qs : List Placed) → slice_get queries q.0 ≡ Some q.1 → Stand queries qs → Stand queries (cond b (q ∷ qs) qs)
chosen_stand true queries q qs a s = (a, s)
chosen_stand false queries q qs a s = s

filter_stand : (p : Placed → Bool) (queries : List Query) (qs : List Placed) → Stand queries qs → Stand queries (filter p qs)
filter_stand p queries [] s = tt
filter_stand p queries (q ∷ qs) s = chosen_stand (p q) queries q (filter p qs) s.0 (filter_stand p queries qs s.1)

chosen_all : (b : Bool) (p : Placed → Bool) (q : Placed) (qs : List Placed) → p q ≡ b → list_all p qs ≡ true → list_all p (cond b (q ∷ qs) qs) ≡ true
chosen_all true p q qs e h = and_both (p q) (list_all p qs) e h
chosen_all false p q qs e h = h

pub filter_all : (p : Placed → Bool) (qs : List Placed) → list_all p (filter p qs) ≡ true
filter_all p [] = refl
filter_all p (q ∷ qs) = chosen_all (p q) p q (filter p qs) refl (filter_all p qs)

mapped_all : (p : Query → Bool) (qs : List Placed) → list_all p (map (λ q. q.1) qs) ≡ list_all (λ q. p q.1) qs
mapped_all p [] = refl
mapped_all p (q ∷ qs) = ap (λ b. p q.1 && b) (mapped_all p qs)

placed_all : (queries : List Query) (key : Query) (qs : List Placed) → Stand queries qs → list_all (covered_at queries key) (map (λ q. q.0) qs) ≡ list_all (covers key) (map (λ q. q.1) qs)
placed_all queries key [] s = refl
placed_all queries key (q ∷ qs) s =
    ap (λ o. covered o && list_all (covered_at queries key) (map (λ p. p.0) qs)) s.0
    ∙ ap (λ b. covers key q.1 && b) (placed_all queries key qs s.1)
  where
    covered : Option Query → Bool
    covered o = option_map_or (covers key) o false

group_covers : (q : Placed) (qs : List Placed) → list_all (λ p. fuses q.1 p.1) qs ≡ true → list_all (covers (group_with qs q).key) (q.1 ∷ map (λ p. p.1) qs) ≡ true
group_covers q [] f = and_both (covers q.1 q.1) true (covers_refl q.1) refl
group_covers q (p ∷ ps) f = group_covered q.1 p.1 (map (λ p. p.1) ps) (mapped_all (fuses q.1) (p ∷ ps) ∙ f)

all_covered : (n : ℕ) (queries : List Query) (qs : List Placed) → Stand queries qs → list_all (covers_members queries) (groups_from n qs) ≡ true
all_covered zero queries qs s = refl
all_covered (suc n) queries [] s = refl
all_covered (suc n) queries (q ∷ qs) s =
    let mine = filter (λ p. fuses q.1 p.1) qs in
    let others = filter (λ p. not (fuses q.1 p.1)) qs in
    and_both (covers_members queries (group_with mine q)) (list_all (covers_members queries) (groups_from n others))
    (placed_all queries (group_with mine q).key (q ∷ mine) (s.0, filter_stand (λ p. fuses q.1 p.1) queries qs s.1)
    ∙ group_covers q mine (filter_all (λ p. fuses q.1 p.1) qs))
    (all_covered n queries others (filter_stand (λ p. not (fuses q.1 p.1)) queries qs s.1))

found : (qs : List Query) (q : Query) (rest : List Query) → slice_get (qs ++ q ∷ rest) (length qs) ≡ Some q
found [] q rest = refl
found (x ∷ qs) q rest = found qs q rest

numbered_stand : (before qs : List Query) → Stand (before ++ qs) (enumerate_from (length before) qs)
numbered_stand before [] = tt
numbered_stand before (q ∷ qs) =
    let P : ℕ → Type 0 = λ n. Stand (before ++ q ∷ qs) (enumerate_from n qs) in
    let R : List Query → Type 0 = λ xs. Stand xs (enumerate_from (length (before ++ q ∷ [])) qs) in
    let n : length (before ++ q ∷ []) ≡ length before + 1 = length-append before (q ∷ []) in
    (found before q qs, subst P n (subst R (append_assoc before (q ∷ []) qs) (numbered_stand (before ++ q ∷ []) qs)))

pub keys_cover : (queries : List Query) → list_all (covers_members queries) (groups queries) ≡ true
keys_cover queries = all_covered (length queries) queries (enumerate_from 0 queries) (numbered_stand [] queries)
