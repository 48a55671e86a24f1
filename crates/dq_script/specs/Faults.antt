-- What a script wants to fail.
use Rattle.std.specs.Prelude.{ℕ, List, [], ◌∷◌, ◌++◌, Option, option_and_then, codes}
use Rattle.std.specs.Ordering.{nat_cmp}
use Rattle.serde_json.specs.Data.{Data}
use Rattle.dq_script.specs.Arrays.{array_of, array_after}
use Rattle.dq_script.specs.Objects.{object_of, wanted, optional}
use Rattle.dq_script.specs.Parts.{number_of, most_whole}
use Rattle.dq_script.specs.Places.{is_new}
use Rattle.dq_script.specs.Readings.{Reading, given, kept_if, mapped, both}
use Rattle.dq_script.specs.declared.faults.Fault.{Fault}
use Rattle.dq_script.specs.declared.faults.Faults.{Faults}

-- a whole number from the one on
abbrev pub whole_from : ℕ → Data → Reading ℕ
whole_from low d = given (number_of low most_whole d)

-- an array of whole numbers from the one on
abbrev pub numbers_of : ℕ → Data → Reading (List ℕ)
numbers_of low d = array_of (whole_from low) d

abbrev pub unless_told : List ℕ → ℕ → Option ℕ
unless_told lanes lane = kept_if (is_new nat_cmp lanes lane) lane

-- a lane's number that no earlier fault has
abbrev pub new_lane : List ℕ → Data → Reading ℕ
new_lane lanes d = given (option_and_then (unless_told lanes) (number_of 1 most_whole d))

abbrev pub fault_with : (ℕ × (List ℕ × List ℕ)) → Fault
fault_with p = record { lane = p.0; dials = p.1.0; links = p.1.1 }

-- an object of a lane, which no earlier fault has, and what is wanted to fail in it
abbrev pub fault_of : List ℕ → Data → Reading Fault
fault_of lanes d = object_of (codes "lane" ∷ codes "dials" ∷ codes "links" ∷ [])
    (mapped fault_with (both (wanted (codes "lane") (new_lane lanes) d) (both (optional [] (codes "dials") (numbers_of 1) d) (optional [] (codes "links") (numbers_of 0) d)))) d

abbrev pub with_fault : Faults → Fault → Faults
with_fault fs f = record { lanes = fs.lanes ++ f.lane ∷ []; faults = fs.faults ++ f ∷ [] }

abbrev pub next_fault : Faults → Data → Reading Faults
next_fault fs d = mapped (with_fault fs) (fault_of fs.lanes d)

abbrev pub no_faults : Faults
no_faults = record { lanes = []; faults = [] }

-- an array of faults
abbrev pub faults_of : Data → Reading (List Fault)
faults_of d = mapped (λ fs. fs.faults) (array_after next_fault no_faults d)
