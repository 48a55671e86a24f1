-- Items mapped beside the number of sources before them.
use Rattle.std.proofs.Common.{◌≡◌, ◌<◌, ℕ, zero, suc, ◌+◌, ◌-◌, List, [], ◌∷◌, ◌++◌, length, take, get_or, Bool, true, false, refl, ap, sym, ◌∙◌, arith, length-append, add-zero, zero-add}
use Rattle.std.proofs.lemmas.List.{take_more}
use Rattle.std.specs.List.{flat_map}
use Rattle.std.specs.Prelude.{slice_get, nat_eq, Option, Some, None, option_map, option_and_then, unwrap_or, if◌then◌else◌}
use Rattle.dq_base.specs.Scripts.{numbered, step_of, source_in, sources_of}
use Rattle.dq_base.specs.declared.script.Step.{Step}
use Rattle.dq_extract.specs.Loads.{IsIndexed, LoadedFiles, before_step, map_behind, places_from, places_in}

map_behind-push : {X Y : Type 0} (sources : X → List ℕ) (f : ℕ → X → Y) (before : ℕ) (xs : List X) (x : X)
    → map_behind sources f before (xs ++ x ∷ []) ≡ map_behind sources f before xs ++ f (before + length (flat_map sources xs)) x ∷ []
map_behind-push sources f before [] x = ap (λ n. f n x ∷ []) (sym (add-zero before))
map_behind-push sources f before (y ∷ ys) x =
    let next : before + length (sources y) + length (flat_map sources ys) ≡ before + length (sources y ++ flat_map sources ys) =
    omega (arith, length-append (sources y) (flat_map sources ys)) in
    let front = map_behind sources f (before + length (sources y)) ys in
    ap (λ zs. f before y ∷ zs) (map_behind-push sources f (before + length (sources y)) ys x ∙ ap (λ n. front ++ f n x ∷ []) next)

-- one more item
pub map_behind-more : {X Y : Type 0} (sources : X → List ℕ) (f : ℕ → X → Y) (before : ℕ) (xs : List X) (i : ℕ) (d : X) → i < length xs
    → map_behind sources f before (take (i + 1) xs) ≡ map_behind sources f before (take i xs) ++ f (before + length (flat_map sources (take i xs))) (get_or xs i d) ∷ []
map_behind-more sources f before xs i d there =
    ap (map_behind sources f before) (take_more xs i d there) ∙ map_behind-push sources f before (take i xs) (get_or xs i d)

slice_get-map_behind : {X Y : Type 0} (sources : X → List ℕ) (f : ℕ → X → Y) (before : ℕ) (xs : List X) (i : ℕ)
    → slice_get (map_behind sources f before xs) i ≡ option_map (f (before + length (flat_map sources (take i xs)))) (slice_get xs i)
slice_get-map_behind sources f before [] i = refl
slice_get-map_behind sources f before (x ∷ xs) zero = ap (λ n. Some (f n x)) (sym (add-zero before))
slice_get-map_behind sources f before (x ∷ xs) (suc i) =
    let next : before + length (sources x) + length (flat_map sources (take i xs)) ≡ before + length (sources x ++ flat_map sources (take i xs)) =
    omega (arith, length-append (sources x) (flat_map sources (take i xs))) in
    slice_get-map_behind sources f (before + length (sources x)) xs i ∙ ap (λ n. option_map (f n) (slice_get xs i)) next

mapped_else : {X Y : Type 0} (none : Bool) (f : X → Y) (x : Option X) (y : Option Y) → y ≡ option_map f x → (if none then None else y) ≡ option_map f (if none then None else x)
mapped_else true f x y is = refl
mapped_else false f x y is = is

numbered-map_behind : {X Y : Type 0} (sources : X → List ℕ) (f : ℕ → X → Y) (before : ℕ) (xs : List X) (number : ℕ)
    → numbered (map_behind sources f before xs) number ≡ option_map (f (before + length (flat_map sources (take (number - 1) xs)))) (numbered xs number)
numbered-map_behind sources f before xs number =
    mapped_else (nat_eq number 0) (f (before + length (flat_map sources (take (number - 1) xs)))) (slice_get xs (number - 1)) (slice_get (map_behind sources f before xs) (number - 1))
    (slice_get-map_behind sources f before xs (number - 1))

in_lane : (before step : ℕ) (steps : Option (List Step)) → option_and_then (λ places. numbered places step) (option_map (places_from before) steps)
    ≡ option_map (λ _. before + length (flat_map source_in (take (step - 1) (unwrap_or steps [])))) (option_and_then (λ ss. numbered ss step) steps)
in_lane before step None = refl
in_lane before step (Some ss) = numbered-map_behind source_in (λ place s. place) before ss step

places_in-at : (lanes : List (List Step)) (lane step : ℕ)
    → option_and_then (λ places. numbered places step) (numbered (places_in lanes) lane) ≡ option_map (λ _. before_step lanes lane step) (step_of lanes lane step)
places_in-at lanes lane step =
    let all : List Step → List ℕ = λ steps. flat_map source_in steps in
    let at_lane = λ (count : ℕ). option_and_then (λ places. numbered places step) (option_map (places_from count) (numbered lanes lane)) in
    ap (λ found. option_and_then (λ places. numbered places step) found) (numbered-map_behind all places_from 0 lanes lane)
    ∙ ap at_lane (zero-add (length (sources_of (take (lane - 1) lanes))))
    ∙ in_lane (length (sources_of (take (lane - 1) lanes))) step (numbered lanes lane)

-- the place of a step
pub IsIndexed-at : (l : LoadedFiles) (index : List (List ℕ)) (lane step : ℕ) → IsIndexed l index
    → option_and_then (λ places. numbered places step) (numbered index lane) ≡ option_map (λ _. before_step l.script.lanes lane step) (step_of l.script.lanes lane step)
IsIndexed-at l index lane step indexed =
    ap (λ places. option_and_then (λ ps. numbered ps step) (numbered places lane)) indexed.index ∙ places_in-at l.script.lanes lane step

-- one more lane
pub places_in-more : (lanes : List (List Step)) (i : ℕ) (lane steps : List Step) (count : ℕ) (places : List ℕ) (index more : List (List ℕ))
    → i < length lanes → steps ≡ get_or lanes i lane → index ≡ places_in (take i lanes) → count ≡ length (sources_of (take i lanes))
    → places ≡ places_from count steps → more ≡ index ++ places ∷ [] → more ≡ places_in (take (i + 1) lanes)
places_in-more lanes i lane steps count places index more there item so_far counted own joined =
    let all : List Step → List ℕ = λ ss. flat_map source_in ss in
    let next = map_behind-more all places_from 0 lanes i lane there in
    let here : 0 + length (sources_of (take i lanes)) ≡ count = zero-add (length (sources_of (take i lanes))) ∙ sym counted in
    joined ∙ ap (λ front. front ++ places ∷ []) so_far ∙ ap (λ ps. places_in (take i lanes) ++ ps ∷ []) (own ∙ ap (places_from count) item ∙ ap (λ n. places_from n (get_or lanes i lane)) (sym here)) ∙ sym next
