-- What is told of a script, its files and a report.
use Rattle.std.proofs.Common.{◌≡◌, ℕ, List, [], ◌∷◌, ◌++◌, Some, None, ap, sym, subst, inl, inr}
use Rattle.std.specs.Prelude.{Option, IfSome, Ok, Err}
use Rattle.dq_extract.specs.Loads.{LoadedFiles}
use Rattle.dq_outside.specs.Reads.{Files}
use Rattle.dq_top.specs.Checking.{AnswersCheck, AnswersInputs, InputsOf, Names, report_in}
use Rattle.dq_top.specs.Loading.{Load, Loads, IsAmong, loaded_of, names_after, names_read, then_load}
use Rattle.dq_top.specs.Outcomes.{AnswersLoad, IsOfLoading}
use Rattle.dq_top.specs.declared.fault.Fault.{Fault}
use Rattle.dq_top.specs.declared.fault.Fault.TheVariants as fault

among_front : (n : List ℕ) (xs ys : List (List ℕ)) → IsAmong n xs → IsAmong n (xs ++ ys)
among_front n [] ys h = absurd h
among_front n (x ∷ xs) ys (inl e) = inl e
among_front n (x ∷ xs) ys (inr h) = inr (among_front n xs ys h)

among_end : (n m : List ℕ) (xs : List (List ℕ)) → n ≡ m → IsAmong n (xs ++ m ∷ [])
among_end n m [] e = inl e
among_end n m (x ∷ xs) e = inr (among_end n m xs e)

abbrev both : Load LoadedFiles → Load (List ℕ) → Load InputsOf
both W R = then_load W (λ l. then_load R (λ bytes. Loads (record { loaded = l; report = bytes })))

first_fault : (W : Load LoadedFiles) (R : Load (List ℕ)) (reads more : List (List ℕ)) (f : Fault)
    → AnswersLoad W (λ n. IsAmong n reads) (Err f) → AnswersLoad (both W R) (λ n. IsAmong n (reads ++ more)) (Err f)
first_fault W R reads more fault.Usage h = absurd h
first_fault W R reads more (fault.Read n) h = among_front n reads more h
first_fault W R reads more (fault.Script n g) h = ap (λ (w : Load LoadedFiles). both w R) h
first_fault W R reads more (fault.File n g) h = ap (λ (w : Load LoadedFiles). both w R) h
first_fault W R reads more fault.Write h = absurd h
first_fault W R reads more fault.Memory h = tt
first_fault W R reads more (fault.Limit which value) h = ap (λ (w : Load LoadedFiles). both w R) h

abbrev reads_behind : List (List ℕ) → Load LoadedFiles → List ℕ → List (List ℕ)
reads_behind reads W name = reads ++ names_after W (λ l. name ∷ [])

second_loaded : (l : LoadedFiles) (R : Load (List ℕ)) (reads : List (List ℕ)) (name : List ℕ) (f : Fault)
    → AnswersLoad R (λ n. n ≡ name) (Err f) → AnswersLoad (both (Loads l) R) (λ n. IsAmong n (reads_behind reads (Loads l) name)) (Err f)
second_loaded l R reads name fault.Usage h = absurd h
second_loaded l R reads name (fault.Read n) h = among_end n name reads h
second_loaded l R reads name (fault.Script n g) h = ap (λ (r : Load (List ℕ)). both (Loads l) r) h
second_loaded l R reads name (fault.File n g) h = ap (λ (r : Load (List ℕ)). both (Loads l) r) h
second_loaded l R reads name fault.Write h = absurd h
second_loaded l R reads name fault.Memory h = tt
second_loaded l R reads name (fault.Limit which value) h = ap (λ (r : Load (List ℕ)). both (Loads l) r) h

second_fault : (W : Load LoadedFiles) (l : LoadedFiles) (R : Load (List ℕ)) (reads : List (List ℕ)) (name : List ℕ) (f : Fault)
    → W ≡ Loads l → AnswersLoad R (λ n. n ≡ name) (Err f) → AnswersLoad (both W R) (λ n. IsAmong n (reads_behind reads W name)) (Err f)
second_fault W l R reads name f is h =
    let P : Load LoadedFiles → Type 0 = λ w. AnswersLoad (both w R) (λ n. IsAmong n (reads_behind reads w name)) (Err f) in
    subst P (sym is) (second_loaded l R reads name f h)

-- a fault of the script or of its files
pub script_told : (held : Option Files) (names : Names) (f : Fault)
    → IfSome held (λ files. AnswersLoad (loaded_of files names.script) (λ n. IsAmong n (names_read files names.script)) (Err f))
    → IfSome held (λ files. AnswersInputs files names (Err f))
script_told None names f h = tt
script_told (Some files) names f h =
    first_fault (loaded_of files names.script) (report_in names.report (files names.report)) (names_read files names.script)
    (names_after (loaded_of files names.script) (λ l. names.report ∷ [])) f h

-- a fault of the report
pub report_told : (held now : Option Files) (names : Names) (l : LoadedFiles) (f : Fault)
    → now ≡ held
    → IfSome held (λ files. AnswersLoad (loaded_of files names.script) (λ n. IsAmong n (names_read files names.script)) (Ok l))
    → IfSome now (λ files. AnswersLoad (report_in names.report (files names.report)) (λ n. n ≡ names.report) (Err f))
    → IfSome held (λ files. AnswersInputs files names (Err f))
report_told held now names l f kept loads h =
    told held loads (subst (λ (o : Option Files). IfSome o (λ files. AnswersLoad (report_in names.report (files names.report)) (λ n. n ≡ names.report) (Err f))) kept h)
  where
    told : (held : Option Files)
        → IfSome held (λ files. AnswersLoad (loaded_of files names.script) (λ n. IsAmong n (names_read files names.script)) (Ok l))
        → IfSome held (λ files. AnswersLoad (report_in names.report (files names.report)) (λ n. n ≡ names.report) (Err f))
        → IfSome held (λ files. AnswersInputs files names (Err f))
    told None is h = tt
    told (Some files) is h = second_fault (loaded_of files names.script) l (report_in names.report (files names.report)) (names_read files names.script) names.report f is h

check_fault : (files : Files) (names : Names) (f : Fault) → IsOfLoading f → AnswersInputs files names (Err f) → AnswersCheck files names (Some f)
check_fault files names fault.Usage kind h = absurd kind
check_fault files names (fault.Read n) kind h = h
check_fault files names (fault.Script n g) kind h = h
check_fault files names (fault.File n g) kind h = h
check_fault files names fault.Write kind h = absurd kind
check_fault files names fault.Memory kind h = tt
check_fault files names (fault.Limit which value) kind h = h

pub check_told : (held : Option Files) (named : Option Names) (names : Names) (f : Fault)
    → Some names ≡ named → IsOfLoading f → IfSome held (λ files. AnswersInputs files names (Err f))
    → IfSome held (λ files. IfSome named (λ ns. AnswersCheck files ns (Some f)))
check_told None named names f is kind h = tt
check_told (Some files) named names f is kind h = subst (λ (o : Option Names). IfSome o (λ ns. AnswersCheck files ns (Some f))) is (check_fault files names f kind h)
