-- The columns of a source.
use Rattle.std.proofs.Common.{◌≡◌, ℕ, zero, suc, ◌≤◌, List, [], ◌∷◌, length, true, false, Some, refl, ap, sym, ◌∙◌, subst}
use Rattle.std.specs.Prelude.{slice_get, Result, codes}
use Rattle.std.specs.List.{list_all}
use Rattle.std.proofs.lemmas.Bool.{leb-true}
use Rattle.serde_json.specs.Data.{Data}
use Rattle.dq_base.specs.Headings.{Heading}
use Rattle.dq_script.proofs.Chains.{first_holds, second_holds}
use Rattle.dq_script.specs.Arrays.{array_of}
use Rattle.dq_script.specs.Columns.{columns_fit, extracts_fit, no_extracts, known}
use Rattle.dq_script.specs.Drafts.{plan_of}
use Rattle.dq_script.specs.Filters.{filter_of}
use Rattle.dq_script.specs.Objects.{wanted}
use Rattle.dq_script.specs.Parts.{place_in}
use Rattle.dq_script.specs.Readings.{Answers, mapped}
use Rattle.dq_script.specs.Sessions.{filtered_with, filters_over}
use Rattle.dq_script.specs.Zones.{columns_at, zone_with, asked_of, zone_over}
use Rattle.dq_script.specs.declared.draft.Plan.{Plan}
use Rattle.dq_script.specs.declared.extracts.Extracts.{Extracts}
use Rattle.dq_script.specs.declared.form.Form.{Form}
use Rattle.dq_script.specs.declared.misfit.Misfit.{Misfit}
use Rattle.dq_script.specs.declared.sessions.Filtered.{Filtered}
use Rattle.dq_script.specs.declared.zone.Zone.{Zone}

list_all-get : (hs : List Heading) (place : ℕ) (h : Heading) → list_all columns_fit hs ≡ true → slice_get hs place ≡ Some h → columns_fit h ≡ true
list_all-get [] zero h all is = cc is
list_all-get [] (suc place) h all is = cc is
list_all-get (x ∷ xs) zero h all is =
    let e : x ≡ h = cc is in
    rw (← e) (first_holds (columns_fit x) (list_all columns_fit xs) all)
list_all-get (x ∷ xs) (suc place) h all is = list_all-get xs place h (second_holds (columns_fit x) (list_all columns_fit xs) all) is

-- a schema among those within the limit has few columns
pub few_at : (hs : List Heading) (place : ℕ) (h : Heading) → list_all columns_fit hs ≡ true → slice_get hs place ≡ Some h → length h.names ≤ 64
few_at hs place h all is = leb-true (length h.names) 64 (list_all-get hs place h all is)

pub over-so : (es : Extracts) (source : ℕ) (names : List (List ℕ)) (d : Data) (result : Result Zone Misfit)
    → names ≡ columns_at es.schemas source → Answers (mapped (zone_with source) (asked_of names d)) result → Answers (zone_over es d source) result
over-so es source names d result same is =
    let P : List (List ℕ) → Type 0 = λ n. Answers (mapped (zone_with source) (asked_of n d)) result in
    subst P same is

pub filters-so : (es : Extracts) (d : Data) (lane source : ℕ) (name given : List ℕ) (names : List (List ℕ)) (result : Result Filtered Misfit)
    → source ≡ place_in es.names given → given ≡ name → names ≡ columns_at es.schemas source
    → Answers (mapped (filtered_with lane name source) (wanted (codes "filters") (array_of (filter_of names)) d)) result → Answers (filters_over es d lane name (place_in es.names name)) result
filters-so es d lane source name given names result number same are is =
    let P : List (List ℕ) → Type 0 = λ n. Answers (mapped (filtered_with lane name source) (wanted (codes "filters") (array_of (filter_of n)) d)) result in
    let Q : ℕ → Type 0 = λ n. Answers (filters_over es d lane name n) result in
    subst Q (number ∙ ap (place_in es.names) same) (subst P are is)

pub plan-fit : (f : Form) (es : Extracts) (d : Data) (result : Result Plan Misfit) → extracts_fit es ≡ true → Answers (plan_of f es d) result → Answers (plan_of f (known es) d) result
plan-fit f es d result fit is =
    let P : Extracts → Type 0 = λ x. Answers (plan_of f x d) result in
    let same : known es ≡ es = rw fit refl in
    subst P (sym same) is

pub plan-none : (f : Form) (es none : Extracts) (d : Data) (result : Result Plan Misfit) → extracts_fit es ≡ false → none ≡ no_extracts → Answers (plan_of f none d) result → Answers (plan_of f (known es) d) result
plan-none f es none d result fit same is =
    let P : Extracts → Type 0 = λ x. Answers (plan_of f x d) result in
    let over : known es ≡ no_extracts = rw fit refl in
    subst P (same ∙ sym over) is
