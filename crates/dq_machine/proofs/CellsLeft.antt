-- The cells of all publications together are within the room.
use Rattle.std.proofs.Common.{◌≡◌, ℕ, zero, suc, ◌+◌, ◌-◌, ◌<◌, ◌≤◌, List, [], ◌∷◌, length, take, drop, get_or, slice_set, replicate, sum_by, refl, ap, sym, ◌∙◌, arith, length-append}
use Rattle.std.proofs.lemmas.List.Sums.{sum_by-take-drop, sum_by-drop_more}
use Rattle.std.proofs.lemmas.Option.{slice_get_within, get_or_from_slice_get}
use Rattle.std.specs.List.{flat_map}
use Rattle.std.specs.Prelude.{slice_get, Some}
use Rattle.dq_base.specs.Scripts.{numbered, source_in, sources_of}
use Rattle.dq_base.specs.Versions.{Version, cells_of}
use Rattle.dq_base.specs.declared.script.How.{How}
use Rattle.dq_base.specs.declared.script.Step.{Step}
use Rattle.dq_base.specs.declared.script.Step.TheVariants as step
use Rattle.dq_extract.proofs.Counts.{length-flat_map-more, length-flat_map-take, numbered-there}
use Rattle.dq_machine.specs.State.{Work, no_work}

-- how many of the steps publish
abbrev pub publishes : List Step → ℕ
publishes steps = length (flat_map source_in steps)

-- the cells of the segments of a lane's publish steps behind its last step; the lane's segments come first
abbrev pub lane_left : List Version → List Step → ℕ → ℕ
lane_left segments steps last = sum_by cells_of (drop (publishes (take last steps)) (take (publishes steps) segments))

-- the same of all lanes
abbrev pub cells_left : List Version → List (List Step) → List Work → ℕ
cells_left segments [] works = 0
cells_left segments (steps ∷ lanes) [] = 0
cells_left segments (steps ∷ lanes) (w ∷ works) = lane_left segments steps w.last + cells_left (drop (publishes steps) segments) lanes works

-- at first

pub cells_left-start : (segments : List Version) (lanes : List (List Step)) → cells_left segments lanes (replicate (length lanes) no_work) ≤ sum_by cells_of segments
cells_left-start segments [] = omega arith
cells_left-start segments (steps ∷ lanes) =
    omega (arith, cells_left-start (drop (publishes steps) segments) lanes, sum_by-take-drop cells_of segments (publishes steps))

-- sums behind a place

sum-less : {X : Type 0} (f : X → ℕ) (xs : List X) (a b : ℕ) → a ≤ b → sum_by f (drop b xs) ≤ sum_by f (drop a xs)
sum-less f [] zero zero le = omega arith
sum-less f [] zero (suc b) le = omega arith
sum-less f [] (suc a) zero le = omega arith
sum-less f [] (suc a) (suc b) le = omega arith
sum-less f (x ∷ xs) zero b le = omega (arith, sum_by-take-drop f (x ∷ xs) b)
sum-less f (x ∷ xs) (suc a) zero le = absurd (omega arith)
sum-less f (x ∷ xs) (suc a) (suc b) le = sum-less f xs a b (omega arith)

publishes-less : (steps : List Step) (a b : ℕ) → a ≤ b → publishes (take a steps) ≤ publishes (take b steps)
publishes-less [] zero zero le = omega arith
publishes-less [] zero (suc b) le = omega arith
publishes-less [] (suc a) zero le = omega arith
publishes-less [] (suc a) (suc b) le = omega arith
publishes-less (s ∷ steps) zero b le = omega arith
publishes-less (s ∷ steps) (suc a) zero le = absurd (omega arith)
publishes-less (s ∷ steps) (suc a) (suc b) le =
    omega (arith, publishes-less steps a b (omega arith), length-append (source_in s) (flat_map source_in (take a steps)), length-append (source_in s) (flat_map source_in (take b steps)))

lane_left-less : (segments : List Version) (steps : List Step) (a b : ℕ) → a ≤ b → lane_left segments steps b ≤ lane_left segments steps a
lane_left-less segments steps a b le = sum-less cells_of (take (publishes steps) segments) _ _ (publishes-less steps a b le)

-- a later last step leaves no more
pub cells_left-less : (segments : List Version) (lanes : List (List Step)) (works : List Work) (i : ℕ) (w : Work) → (get_or works i no_work).last ≤ w.last
    → cells_left segments lanes (slice_set works i w) ≤ cells_left segments lanes works
cells_left-less segments [] works i w le = omega arith
cells_left-less segments (steps ∷ lanes) [] i w le = omega arith
cells_left-less segments (steps ∷ lanes) (v ∷ works) zero w le = omega (arith, lane_left-less segments steps v.last w.last le)
cells_left-less segments (steps ∷ lanes) (v ∷ works) (suc i) w le = omega (arith, cells_left-less (drop (publishes steps) segments) lanes works i w le)

-- a publish step takes its segment's cells

slice_get-drop : {X : Type 0} (xs : List X) (n i : ℕ) → slice_get xs (n + i) ≡ slice_get (drop n xs) i
slice_get-drop xs zero i = ap (slice_get xs) (omega arith)
slice_get-drop [] (suc n) i = refl
slice_get-drop (x ∷ xs) (suc n) i = let next : suc n + i ≡ suc (n + i) = omega arith in ap (slice_get (x ∷ xs)) next ∙ slice_get-drop xs n i

slice_get-take : {X : Type 0} (xs : List X) (n i : ℕ) (x : X) → slice_get xs i ≡ Some x → i < n → slice_get (take n xs) i ≡ Some x
slice_get-take [] n i x is lt = cc
slice_get-take (y ∷ xs) zero i x is lt = absurd (omega arith)
slice_get-take (y ∷ xs) (suc n) zero x is lt = is
slice_get-take (y ∷ xs) (suc n) (suc i) x is lt = slice_get-take xs n i x is (omega arith)

sum-played : {X : Type 0} (f : X → ℕ) (xs : List X) (a p : ℕ) (x : X) → slice_get xs p ≡ Some x → a ≤ p → sum_by f (drop (p + 1) xs) + f x ≤ sum_by f (drop a xs)
sum-played f xs a p x is le =
    omega (arith, sum-less f xs a p le, sum_by-drop_more f xs p x (slice_get_within xs p x is), ap f (get_or_from_slice_get xs p x x is))

-- a publish step stands behind those before it
publishes-more : (steps : List Step) (number source : ℕ) (how : How) (file : List ℕ) → 0 < number → numbered steps number ≡ Some (step.Publish source how file)
    → publishes (take number steps) ≡ publishes (take (number - 1) steps) + 1
publishes-more steps number source how file some is =
    let there = numbered-there steps number (step.Publish source how file) is in
    let item = ap (λ s. length (source_in s)) (get_or_from_slice_get steps (number - 1) (step.Publish source how file) (step.Publish source how file) there) in
    let next : number - 1 + 1 ≡ number = omega arith in
    omega (arith, length-flat_map-more source_in steps (number - 1) (step.Publish source how file) (slice_get_within steps (number - 1) _ there), item, ap (λ n. publishes (take n steps)) next)

lane_left-played : (segments : List Version) (steps : List Step) (last number source : ℕ) (how : How) (file : List ℕ) (v : Version)
    → last < number → numbered steps number ≡ Some (step.Publish source how file) → slice_get segments (publishes (take (number - 1) steps)) ≡ Some v
    → lane_left segments steps number + cells_of v ≤ lane_left segments steps last
lane_left-played segments steps last number source how file v above is found =
    let p = publishes (take (number - 1) steps) in
    let more = publishes-more steps number source how file (omega arith) is in
    let within : p < publishes steps = omega (arith, more, length-flat_map-take source_in steps number) in
    let held = slice_get-take segments (publishes steps) p v found within in
    let before : publishes (take last steps) ≤ p = publishes-less steps last (number - 1) (omega arith) in
    rw more (sum-played cells_of (take (publishes steps) segments) (publishes (take last steps)) p v held before)

pub cells_left-played : (segments : List Version) (lanes : List (List Step)) (works : List Work) (i number source : ℕ) (how : How) (file : List ℕ) (steps : List Step) (w : Work) (v : Version)
    → i < length works → (get_or works i no_work).last < number → w.last ≡ number
    → slice_get lanes i ≡ Some steps → numbered steps number ≡ Some (step.Publish source how file)
    → slice_get segments (length (sources_of (take i lanes)) + publishes (take (number - 1) steps)) ≡ Some v
    → cells_left segments lanes (slice_set works i w) + cells_of v ≤ cells_left segments lanes works
cells_left-played segments [] works i number source how file steps w v lt above last lane is found = cc
cells_left-played segments (ss ∷ lanes) [] i number source how file steps w v lt above last lane is found = absurd (omega arith)
cells_left-played segments (ss ∷ lanes) (x ∷ works) zero number source how file steps w v lt above last lane is found =
    let same : ss ≡ steps = cc in
    let first : 0 + publishes (take (number - 1) steps) ≡ publishes (take (number - 1) steps) = omega arith in
    let at = ap (slice_get segments) (sym first) ∙ found in
    rw (same, last) (omega (arith, lane_left-played segments steps x.last number source how file v above is at))
cells_left-played segments (ss ∷ lanes) (x ∷ works) (suc i) number source how file steps w v lt above last lane is found =
    let p = publishes (take (number - 1) steps) in
    let split : length (sources_of (take (suc i) (ss ∷ lanes))) + p ≡ publishes ss + (length (sources_of (take i lanes)) + p) =
    omega (arith, length-append (flat_map source_in ss) (sources_of (take i lanes))) in
    let rest = sym (slice_get-drop segments (publishes ss) (length (sources_of (take i lanes)) + p)) ∙ ap (slice_get segments) (sym split) ∙ found in
    omega (arith, cells_left-played (drop (publishes ss) segments) lanes works i number source how file steps w v (omega arith) above last lane is rest)
