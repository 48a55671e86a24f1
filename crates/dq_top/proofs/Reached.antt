-- What a loop over lanes or steps has loaded.
use Rattle.std.proofs.Common.{◌≡◌, ◌<◌, ◌≤◌, ◌+◌, ◌++◌, ℕ, List, [], ◌∷◌, length, take, drop, get_or, refl, sym, ap, ◌∙◌, subst, arith}
use Rattle.std.proofs.lemmas.Grind.{flat_map-append}
use Rattle.std.proofs.lemmas.List.{append_assoc, append-nil, take-append-drop, take_more, take_all}
use Rattle.std.proofs.lemmas.List.Sums.{sum_by_push}
use Rattle.std.proofs.lemmas.List.Elements.{All-push}
use Rattle.std.specs.Prelude.{◌-◌, Option, Some, None, IfSome, Ok, Err, slice_get, sum_by}
use Rattle.std.specs.List.{flat_map}
use Rattle.dq_base.specs.Headings.{Heading}
use Rattle.dq_base.specs.Limits.{all_room, cell_room}
use Rattle.dq_base.specs.Versions.{Version, IsVersion, cells_of}
use Rattle.dq_extract.specs.Loads.{AreOf}
use Rattle.dq_outside.specs.Reads.{Files}
use Rattle.dq_top.specs.Loading.{Loads, Publication, IsAmong, files_read, versions_in}
use Rattle.dq_top.specs.Outcomes.{AnswersLoad}
use Rattle.dq_top.specs.Progress.{AnswersProgress, IsProgress, behind}
use Rattle.dq_top.specs.declared.fault.Fault.{Fault}
use Rattle.dq_top.specs.declared.progress.Progress.{Progress}
use Rattle.dq_top.proofs.Behind.{behind_more, fault_of_all, nothing, whole_fault, whole_loaded}

-- one more segment

AreOf-push : (schemas : List Heading) (sources : List ℕ) (segments : List Version) (source : ℕ) (v : Version)
    → AreOf schemas sources segments → slice_get schemas source ≡ Some v.heading → AreOf schemas (sources ++ source ∷ []) (segments ++ v ∷ [])
AreOf-push schemas [] [] source v fit is = (is, tt)
AreOf-push schemas [] (w ∷ segments) source v fit is = absurd fit
AreOf-push schemas (s ∷ sources) [] source v fit is = absurd fit
AreOf-push schemas (s ∷ sources) (w ∷ segments) source v fit is = (fit.0, AreOf-push schemas sources segments source v fit.1 is)

pub IsProgress-push : (schemas : List Heading) (sources : List ℕ) (source : ℕ) (p : Progress) (v : Version) (left cells : ℕ) (segments : List Version)
    → segments ≡ p.segments ++ v ∷ [] → cells ≡ p.cells - cells_of v → cells_of v ≤ p.cells → IsVersion v → slice_get schemas source ≡ Some v.heading
    → IsProgress schemas sources p → IsProgress schemas (sources ++ source ∷ []) (record { left = left; cells = cells; segments = segments })
IsProgress-push schemas sources source p v left cells segments more fewer within version is h =
    let sum : sum_by cells_of (p.segments ++ v ∷ []) ≡ sum_by cells_of p.segments + cells_of v = sum_by_push cells_of p.segments v in
    record {
      fit = rw more (AreOf-push schemas sources p.segments source v h.fit is);
      cells = rw (more, sum, fewer) (omega (arith, within, h.cells));
      versions = rw more (All-push IsVersion p.segments v h.versions version);
    }

-- what is loaded behind the items so far, each of which gives files and sources
pub record Reached {X : Type 0} (f : X → List Publication) (g : X → List ℕ) (schemas : List Heading) (held : Option Files) (start : Progress) (xs : List X) (now : Progress) : Type 0 where
  pub told : IfSome held (λ files. behind files start (flat_map f xs) ≡ Loads now)
  pub progress : (sources : List ℕ) → IsProgress schemas sources start → IsProgress schemas (sources ++ flat_map g xs) now

told_none : (held : Option Files) (start : Progress) → IfSome held (λ files. behind files start [] ≡ Loads start)
told_none None start = tt
told_none (Some files) start = refl

pub Reached-none : {X : Type 0} (f : X → List Publication) (g : X → List ℕ) (schemas : List Heading) (held : Option Files) (start : Progress) → Reached f g schemas held start [] start
Reached-none f g schemas held start = record {
  told = told_none held start;
  progress = λ sources h. rw (append-nil sources) h;
}

one_more : {X A : Type 0} (f : X → List A) (xs : List X) (i : ℕ) (x d : X) → i < length xs → x ≡ get_or xs i d → flat_map f (take (i + 1) xs) ≡ flat_map f (take i xs) ++ f x
one_more f xs i x d lt is =
    let more : take (i + 1) xs ≡ take i xs ++ x ∷ [] = take_more xs i d lt ∙ ap (λ y. take i xs ++ y ∷ []) (sym is) in
    rw (more, flat_map-append f (take i xs) (x ∷ []), append-nil (f x)) refl

all_of : {X A : Type 0} (f : X → List A) (xs : List X) (i : ℕ) (x d : X) → i < length xs → x ≡ get_or xs i d
    → (flat_map f (take i xs) ++ f x) ++ flat_map f (drop (i + 1) xs) ≡ flat_map f xs
all_of f xs i x d lt is =
    let joined : flat_map f (take (i + 1) xs ++ drop (i + 1) xs) ≡ flat_map f (take (i + 1) xs) ++ flat_map f (drop (i + 1) xs) = flat_map-append f (take (i + 1) xs) (drop (i + 1) xs) in
    ap (λ ys. ys ++ flat_map f (drop (i + 1) xs)) (sym (one_more f xs i x d lt is)) ∙ sym joined ∙ ap (flat_map f) (take-append-drop (i + 1) xs)

told_more : (held : Option Files) (start now next : Progress) (before more all : List Publication) → all ≡ before ++ more
    → IfSome held (λ files. behind files start before ≡ Loads now) → IfSome held (λ files. AnswersProgress files now more (Ok next))
    → IfSome held (λ files. behind files start all ≡ Loads next)
told_more None start now next before more all is so_far one = tt
told_more (Some files) start now next before more all is so_far one = rw is (behind_more files start now next before more so_far one)

pub Reached-more : {X : Type 0} (f : X → List Publication) (g : X → List ℕ) (schemas : List Heading) (held : Option Files) (start : Progress) (xs : List X) (i : ℕ) (x d : X) (now next : Progress) (own : Option Files)
    → i < length xs → x ≡ get_or xs i d → own ≡ held → Reached f g schemas held start (take i xs) now → IfSome own (λ files. AnswersProgress files now (f x) (Ok next))
    → ((sources : List ℕ) → IsProgress schemas sources now → IsProgress schemas (sources ++ g x) next) → Reached f g schemas held start (take (i + 1) xs) next
Reached-more f g schemas held start xs i x d now next own lt is same h told progress = record {
  told = told_more held start now next (flat_map f (take i xs)) (f x) (flat_map f (take (i + 1) xs)) (one_more f xs i x d lt is) h.told
      (subst (λ (o : Option Files). IfSome o (λ files. AnswersProgress files now (f x) (Ok next))) same told);
  progress = λ sources before.
      let joined : sources ++ flat_map g (take (i + 1) xs) ≡ (sources ++ flat_map g (take i xs)) ++ g x =
      ap (λ ys. sources ++ ys) (one_more g xs i x d lt is) ∙ sym (append_assoc sources (flat_map g (take i xs)) (g x)) in
      rw joined (progress (sources ++ flat_map g (take i xs)) (h.progress sources before));
}

told_fault : (held : Option Files) (start now : Progress) (before more rest all : List Publication) (f : Fault) → (before ++ more) ++ rest ≡ all
    → IfSome held (λ files. behind files start before ≡ Loads now) → IfSome held (λ files. AnswersProgress files now more (Err f))
    → IfSome held (λ files. AnswersProgress files start all (Err f))
told_fault None start now before more rest all f is so_far one = tt
told_fault (Some files) start now before more rest all f is so_far one =
    let P : List Publication → Type 0 = λ ys. AnswersProgress files start ys (Err f) in
    subst P is (fault_of_all files start now before more rest f so_far one)

-- a fault of an item is that of all
pub Reached-fault : {X : Type 0} (f : X → List Publication) (g : X → List ℕ) (schemas : List Heading) (held : Option Files) (start : Progress) (xs : List X) (i : ℕ) (x d : X) (now : Progress) (told : Fault) (own : Option Files)
    → i < length xs → x ≡ get_or xs i d → own ≡ held → Reached f g schemas held start (take i xs) now → IfSome own (λ files. AnswersProgress files now (f x) (Err told))
    → IfSome held (λ files. AnswersProgress files start (flat_map f xs) (Err told))
Reached-fault f g schemas held start xs i x d now told own lt is same h one =
    told_fault held start now (flat_map f (take i xs)) (f x) (flat_map f (drop (i + 1) xs)) (flat_map f xs) told (all_of f xs i x d lt is) h.told
    (subst (λ (o : Option Files). IfSome o (λ files. AnswersProgress files now (f x) (Err told))) same one)

-- a segment for each source of all items
pub progress_all : {X : Type 0} (f : X → List Publication) (g : X → List ℕ) (schemas : List Heading) (held : Option Files) (start : Progress) (xs : List X) (i : ℕ) (now : Progress)
    → length xs ≤ i → Reached f g schemas held start (take i xs) now → IsProgress schemas [] start → IsProgress schemas (flat_map g xs) now
progress_all {X} f g schemas held start xs i now le h none =
    let P : List X → Type 0 = λ ys. IsProgress schemas (flat_map g ys) now in
    subst P (take_all i xs le) (h.progress [] none)

-- the whole of a script's files

pub told_whole : (held : Option Files) (xs : List Publication) (p : Progress) → IfSome held (λ files. AnswersProgress files nothing xs (Ok p))
    → IfSome held (λ files. AnswersLoad (versions_in files all_room cell_room xs) (λ n. IsAmong n (files_read files all_room cell_room xs)) (Ok p.segments))
told_whole None xs p told = tt
told_whole (Some files) xs p told = whole_loaded files xs p told

pub fault_whole : (held : Option Files) (xs : List Publication) (f : Fault) → IfSome held (λ files. AnswersProgress files nothing xs (Err f))
    → IfSome held (λ files. AnswersLoad (versions_in files all_room cell_room xs) (λ n. IsAmong n (files_read files all_room cell_room xs)) (Err f))
fault_whole None xs f told = tt
fault_whole (Some files) xs f told = whole_fault files xs f told
