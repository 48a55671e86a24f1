-- What is loaded behind files in order.
use Rattle.std.proofs.Common.{◌≡◌, ◌++◌, ℕ, List, [], ◌∷◌, refl, sym, ap, ◌∙◌, inl, inr, subst}
use Rattle.std.proofs.lemmas.List.{append_assoc, append-nil}
use Rattle.std.specs.Prelude.{Ok, Err, ◌-◌}
use Rattle.dq_base.specs.Limits.{all_room, cell_room}
use Rattle.dq_base.specs.Versions.{Version, cells_of}
use Rattle.dq_outside.specs.Reads.{Files}
use Rattle.dq_top.specs.Loading.{Load, Loads, Missing, Refused, Publication, IsAmong, bytes_in, files_read, names_after, then_load, version_in, versions_in}
use Rattle.dq_top.specs.Outcomes.{AnswersLoad}
use Rattle.dq_top.specs.Progress.{AnswersProgress, behind, behind_one, with_version}
use Rattle.dq_top.specs.declared.fault.Fault.{Fault}
use Rattle.dq_top.specs.declared.fault.Fault.TheVariants as fault
use Rattle.dq_top.specs.declared.progress.Progress.{Progress}

-- more files behind

step_append : (files : Files) (l : Load Progress) (xs ys : List Publication)
    → ((q : Progress) → behind files q (xs ++ ys) ≡ then_load (behind files q xs) (λ r. behind files r ys))
    → then_load l (λ q. behind files q (xs ++ ys)) ≡ then_load (then_load l (λ q. behind files q xs)) (λ r. behind files r ys)
step_append files (Loads q) xs ys each = each q
step_append files (Missing name) xs ys each = refl
step_append files (Refused f) xs ys each = refl

pub behind-append : (files : Files) (p : Progress) (xs ys : List Publication) → behind files p (xs ++ ys) ≡ then_load (behind files p xs) (λ q. behind files q ys)
behind-append files p [] ys = refl
behind-append files p (x ∷ xs) ys = step_append files (behind_one files p x) xs ys (λ q. behind-append files q xs ys)

-- the segments that are loaded

abbrev segments_in : Load Progress → Load (List Version)
segments_in l = then_load l (λ q. Loads q.segments)

abbrev behind_these : List Version → Load (List Version) → Load (List Version)
behind_these vs l = then_load l (λ ws. Loads (vs ++ ws))

more_segments : (vs : List Version) (v : Version) (l : Load (List Version))
    → behind_these (vs ++ v ∷ []) l ≡ behind_these vs (then_load l (λ ws. Loads (v ∷ ws)))
more_segments vs v (Loads ws) = ap (λ s. Loads s) (append_assoc vs (v ∷ []) ws)
more_segments vs v (Missing name) = refl
more_segments vs v (Refused f) = refl

abbrev rest_in : Files → Progress → Publication → List Publication → Version → Load (List Version)
rest_in files p x xs v = versions_in files (p.left - bytes_in (files x.file)) (p.cells - cells_of v) xs

step_segments : (files : Files) (p : Progress) (x : Publication) (xs : List Publication) (l : Load Version)
    → ((q : Progress) → segments_in (behind files q xs) ≡ behind_these q.segments (versions_in files q.left q.cells xs))
    → segments_in (then_load (then_load l (λ v. Loads (with_version p (bytes_in (files x.file)) v))) (λ q. behind files q xs))
    ≡ behind_these p.segments (then_load l (λ v. then_load (rest_in files p x xs v) (λ ws. Loads (v ∷ ws))))
step_segments files p x xs (Loads v) each = each (with_version p (bytes_in (files x.file)) v) ∙ more_segments p.segments v (rest_in files p x xs v)
step_segments files p x xs (Missing name) each = refl
step_segments files p x xs (Refused f) each = refl

pub behind_segments : (files : Files) (p : Progress) (xs : List Publication)
    → segments_in (behind files p xs) ≡ behind_these p.segments (versions_in files p.left p.cells xs)
behind_segments files p [] = ap (λ s. Loads s) (sym (append-nil p.segments))
behind_segments files p (x ∷ xs) = step_segments files p x xs (version_in x p.left p.cells (files x.file)) (λ q. behind_segments files q xs)

behind_none : (l : Load (List Version)) → behind_these [] l ≡ l
behind_none (Loads ws) = refl
behind_none (Missing name) = refl
behind_none (Refused f) = refl

-- the names that are read

step_read : (n : List ℕ) (l : Load Version) (one both : Version → List (List ℕ)) → ((v : Version) → IsAmong n (one v) → IsAmong n (both v))
    → IsAmong n (names_after l one) → IsAmong n (names_after l both)
step_read n (Loads v) one both each among = each v among
step_read n (Missing name) one both each among = among
step_read n (Refused f) one both each among = among

read_before : (files : Files) (n : List ℕ) (left cells : ℕ) (xs ys : List Publication) → IsAmong n (files_read files left cells xs) → IsAmong n (files_read files left cells (xs ++ ys))
read_before files n left cells [] ys among = absurd among
read_before files n left cells (x ∷ xs) ys (inl is) = inl is
read_before files n left cells (x ∷ xs) ys (inr later) =
    let rest : List Publication → Version → List (List ℕ) = λ zs v. files_read files (left - bytes_in (files x.file)) (cells - cells_of v) zs in
    inr (step_read n (version_in x left cells (files x.file)) (rest xs) (rest (xs ++ ys))
    (λ v among. read_before files n (left - bytes_in (files x.file)) (cells - cells_of v) xs ys among) later)

step_behind : (files : Files) (n : List ℕ) (p q : Progress) (x : Publication) (xs ys : List Publication) (l : Load Version)
    → ((r : Progress) → behind files r xs ≡ Loads q → IsAmong n (files_read files r.left r.cells (xs ++ ys)))
    → then_load (then_load l (λ v. Loads (with_version p (bytes_in (files x.file)) v))) (λ r. behind files r xs) ≡ Loads q
    → IsAmong n (names_after l (λ v. files_read files (p.left - bytes_in (files x.file)) (p.cells - cells_of v) (xs ++ ys)))
step_behind files n p q x xs ys (Loads v) each is = each (with_version p (bytes_in (files x.file)) v) is
step_behind files n p q x xs ys (Missing name) each is = absurd (cc)
step_behind files n p q x xs ys (Refused f) each is = absurd (cc)

read_behind : (files : Files) (n : List ℕ) (p q : Progress) (xs ys : List Publication) → behind files p xs ≡ Loads q
    → IsAmong n (files_read files q.left q.cells ys) → IsAmong n (files_read files p.left p.cells (xs ++ ys))
read_behind files n p q [] ys is among =
    let same : q ≡ p = cc in
    let P : Progress → Type 0 = λ r. IsAmong n (files_read files r.left r.cells ys) in
    subst P same among
read_behind files n p q (x ∷ xs) ys is among =
    inr (step_behind files n p q x xs ys (version_in x p.left p.cells (files x.file)) (λ r own. read_behind files n r q xs ys own among) is)

-- answers

-- more files are loaded
pub behind_more : (files : Files) (start now next : Progress) (before more : List Publication)
    → behind files start before ≡ Loads now → behind files now more ≡ Loads next → behind files start (before ++ more) ≡ Loads next
behind_more files start now next before more so_far one = rw (behind-append files start before more, so_far) one

refused_first : (files : Files) (start now : Progress) (before more rest : List Publication) (f : Fault)
    → behind files start before ≡ Loads now → behind files now more ≡ Refused f → behind files start ((before ++ more) ++ rest) ≡ Refused f
refused_first files start now before more rest f so_far told =
    rw (behind-append files start (before ++ more) rest, behind-append files start before more, so_far, told) refl

-- a fault of files is that of all
pub fault_of_all : (files : Files) (start now : Progress) (before more rest : List Publication) (f : Fault)
    → behind files start before ≡ Loads now → AnswersProgress files now more (Err f) → AnswersProgress files start ((before ++ more) ++ rest) (Err f)
fault_of_all files start now before more rest fault.Usage so_far told = told
fault_of_all files start now before more rest (fault.Read name) so_far told =
    read_before files name start.left start.cells (before ++ more) rest (read_behind files name start now before more so_far told)
fault_of_all files start now before more rest (fault.Script name f) so_far told = refused_first files start now before more rest (fault.Script name f) so_far told
fault_of_all files start now before more rest (fault.File name f) so_far told = refused_first files start now before more rest (fault.File name f) so_far told
fault_of_all files start now before more rest fault.Write so_far told = told
fault_of_all files start now before more rest fault.Memory so_far told = told
fault_of_all files start now before more rest (fault.Limit which value) so_far told = refused_first files start now before more rest (fault.Limit which value) so_far told

-- nothing is loaded yet
abbrev pub nothing : Progress
nothing = record { left = all_room; cells = cell_room; segments = [] }

whole_of : (files : Files) (xs : List Publication) (l : Load Progress) → behind files nothing xs ≡ l → versions_in files all_room cell_room xs ≡ segments_in l
whole_of files xs l is = sym (behind_none (versions_in files all_room cell_room xs)) ∙ sym (behind_segments files nothing xs) ∙ ap segments_in is

pub whole_loaded : (files : Files) (xs : List Publication) (p : Progress) → AnswersProgress files nothing xs (Ok p)
    → AnswersLoad (versions_in files all_room cell_room xs) (λ n. IsAmong n (files_read files all_room cell_room xs)) (Ok p.segments)
whole_loaded files xs p told = whole_of files xs (Loads p) told

pub whole_fault : (files : Files) (xs : List Publication) (f : Fault) → AnswersProgress files nothing xs (Err f)
    → AnswersLoad (versions_in files all_room cell_room xs) (λ n. IsAmong n (files_read files all_room cell_room xs)) (Err f)
whole_fault files xs fault.Usage told = told
whole_fault files xs (fault.Read name) told = told
whole_fault files xs (fault.Script name f) told = whole_of files xs (Refused (fault.Script name f)) told
whole_fault files xs (fault.File name f) told = whole_of files xs (Refused (fault.File name f)) told
whole_fault files xs fault.Write told = told
whole_fault files xs fault.Memory told = told
whole_fault files xs (fault.Limit which value) told = whole_of files xs (Refused (fault.Limit which value)) told
