-- The records that a reader has left.
use Rattle.std.specs.Prelude.{◌≡◌, ℕ, List, [], ◌∷◌, Bool, true, false, Option, Some, None}
use Rattle.csv.specs.Reading.{records_from, default_config, reader_config, reader_trim, reader_state, is_flexible, has_failed, Ready, source_of}
use Rattle.csv.specs.declared.parser.State.{State}
use Rattle.csv.specs.declared.reader.Reader.{Reader}
use Rattle.csv.specs.declared.reader.Trim.TheVariants as trim

-- the records that are still to be read, and the fields of the record at hand
pub record Reading : Type 0 where
  pub left : List (List (List ℕ))
  pub fields : List (List ℕ)

-- at most n records of bytes that are known
abbrev pub known_left : ℕ → State → Option (List ℕ) → List (List (List ℕ))
known_left n s None = []
known_left n s (Some bytes) = records_from default_config n s bytes

-- at most n records of a reader
abbrev pub records_left : {R : Type 0} → (R → Option (List ℕ)) → ℕ → Reader R → List (List (List ℕ))
records_left rem n r = known_left n (reader_state r) (source_of rem r)

-- a reader of records of any width, with the defaults otherwise, over known bytes
pub record IsReading {R : Type 0} (rem : R → Option (List ℕ)) (r : Reader R) : Type 0 where
  pub config : reader_config r ≡ default_config
  pub trim : reader_trim r ≡ trim.None
  pub flexible : is_flexible r ≡ true
  pub ready : Ready r
  pub going : has_failed r ≡ false
  pub known : (y : List ℕ) × (source_of rem r ≡ Some y)

-- the next record is at hand, or there is none
abbrev pub IsNext : Reading → Reading → Bool → Type 0
IsNext before after true = before.left ≡ after.fields ∷ after.left
IsNext before after false = before.left ≡ []
