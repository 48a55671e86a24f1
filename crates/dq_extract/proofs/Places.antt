-- Which segment is a publish step's.
use Rattle.std.proofs.Common.{◌≡◌, ℕ, zero, suc, ◌+◌, ◌-◌, List, [], ◌∷◌, ◌++◌, length, take, refl, ap, sym, ◌∙◌, arith, length-append, zero-add, add-zero}
use Rattle.std.specs.List.{flat_map}
use Rattle.std.specs.Prelude.{slice_get, Option, Some, None, option_and_then, unwrap_or}
use Rattle.dq_base.specs.Headings.{Heading}
use Rattle.dq_base.specs.Scripts.{numbered, step_of, source_in, sources_of}
use Rattle.dq_base.specs.Versions.{Version}
use Rattle.dq_base.specs.declared.script.How.{How}
use Rattle.dq_base.specs.declared.script.Step.{Step}
use Rattle.dq_base.specs.declared.script.Step.TheVariants.{Publish, Batch}
use Rattle.dq_extract.specs.Loads.{AreOf, FitsStep, LoadedFiles, IsLoaded, published_at, segment_of}
use Rattle.dq_extract.proofs.Counts.{numbered-there}

slice_get-behind : {A : Type 0} (xs ys : List A) (j : ℕ) → slice_get (xs ++ ys) (length xs + j) ≡ slice_get ys j
slice_get-behind [] ys j = ap (slice_get ys) (zero-add j)
slice_get-behind (x ∷ xs) ys j =
    let next : length (x ∷ xs) + j ≡ suc (length xs + j) = omega arith in
    ap (slice_get (x ∷ xs ++ ys)) next ∙ slice_get-behind xs ys j

slice_get-front : {A : Type 0} (xs ys : List A) (j : ℕ) (a : A) → slice_get xs j ≡ Some a → slice_get (xs ++ ys) j ≡ Some a
slice_get-front [] ys j a is = cc
slice_get-front (x ∷ xs) ys zero a is = is
slice_get-front (x ∷ xs) ys (suc j) a is = slice_get-front xs ys j a is

-- an item's own items among those of all
slice_get-flat_map : {X A : Type 0} (f : X → List A) (xs : List X) (i : ℕ) (x : X) (j : ℕ) (a : A) → slice_get xs i ≡ Some x → slice_get (f x) j ≡ Some a
    → slice_get (flat_map f xs) (length (flat_map f (take i xs)) + j) ≡ Some a
slice_get-flat_map f [] i x j a there item = cc
slice_get-flat_map f (y ∷ xs) zero x j a there item =
    let same : x ≡ y = cc in
    ap (slice_get (f y ++ flat_map f xs)) (zero-add j) ∙ slice_get-front (f y) (flat_map f xs) j a (ap (λ z. slice_get (f z) j) (sym same) ∙ item)
slice_get-flat_map f (y ∷ xs) (suc i) x j a there item =
    let next : length (flat_map f (take (suc i) (y ∷ xs))) + j ≡ length (f y) + (length (flat_map f (take i xs)) + j) =
    omega (arith, length-append (f y) (flat_map f (take i xs))) in
    ap (slice_get (f y ++ flat_map f xs)) next ∙ slice_get-behind (f y) (flat_map f xs) (length (flat_map f (take i xs)) + j)
    ∙ slice_get-flat_map f xs i x j a there item

-- the segment at a source's place
AreOf-at : (headings : List Heading) (sources : List ℕ) (segments : List Version) (i source : ℕ) → AreOf headings sources segments → slice_get sources i ≡ Some source
    → (v : Version) × (slice_get segments i ≡ Some v) × (slice_get headings source ≡ Some v.heading)
AreOf-at headings [] segments i source fit there = cc
AreOf-at headings (s ∷ sources) [] i source fit there = absurd fit
AreOf-at headings (s ∷ sources) (v ∷ segments) zero source fit there =
    let same : source ≡ s = cc in (v, refl, ap (slice_get headings) same ∙ fit.0)
AreOf-at headings (s ∷ sources) (v ∷ segments) (suc i) source fit there = AreOf-at headings sources segments i source fit.1 there

fits_found : (headings : List Heading) (source : ℕ) (how : How) (file : List ℕ) (found : Option Version) (v : Version) → found ≡ Some v → slice_get headings source ≡ Some v.heading
    → FitsStep headings (Some (Publish source how file)) found
fits_found headings source how file None v is under = cc
fits_found headings source how file (Some w) v is under = let same : v ≡ w = cc in under ∙ ap (λ u. Some u.heading) same

fits_by : (headings : List Heading) (segments : List Version) (lanes : List (List Step)) (lane step : ℕ) (steps : Option (List Step)) (at : Option Step)
    → AreOf headings (sources_of lanes) segments → numbered lanes lane ≡ steps → option_and_then (λ ss. numbered ss step) steps ≡ at
    → FitsStep headings at (published_at segments (length (sources_of (take (lane - 1) lanes)) + length (flat_map source_in (take (step - 1) (unwrap_or steps [])))) at)
fits_by headings segments lanes lane step steps None fit in_lane in_step = refl
fits_by headings segments lanes lane step steps (Some (Batch zones)) fit in_lane in_step = refl
fits_by headings segments lanes lane step None (Some (Publish source how file)) fit in_lane in_step = cc
fits_by headings segments lanes lane step (Some ss) (Some (Publish source how file)) fit in_lane in_step =
    let own : slice_get (flat_map source_in ss) (length (flat_map source_in (take (step - 1) ss)) + 0) ≡ Some source =
    slice_get-flat_map source_in ss (step - 1) (Publish source how file) 0 source (numbered-there ss step (Publish source how file) in_step) refl in
    let own' : slice_get (flat_map source_in ss) (length (flat_map source_in (take (step - 1) ss))) ≡ Some source =
    ap (slice_get (flat_map source_in ss)) (sym (add-zero (length (flat_map source_in (take (step - 1) ss))))) ∙ own in
    let all : List Step → List ℕ = λ s. flat_map source_in s in
    let there = slice_get-flat_map all lanes (lane - 1) ss (length (flat_map source_in (take (step - 1) ss))) source (numbered-there lanes lane ss in_lane) own' in
    let (v, found, under) = AreOf-at headings (sources_of lanes) segments
    (length (sources_of (take (lane - 1) lanes)) + length (flat_map source_in (take (step - 1) ss))) source fit there in
    fits_found headings source how file _ v found under

-- a publish step has a segment of its source, and no other step has one
pub FitsStep-segment_of : (l : LoadedFiles) (lane step : ℕ) → IsLoaded l → FitsStep l.script.schemas (step_of l.script.lanes lane step) (segment_of l lane step)
FitsStep-segment_of l lane step loaded =
    fits_by l.script.schemas l.segments l.script.lanes lane step (numbered l.script.lanes lane) (step_of l.script.lanes lane step) loaded.fit refl refl
