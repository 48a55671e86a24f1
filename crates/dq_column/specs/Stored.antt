-- How the values of a column are stored.
use Rattle.std.specs.Prelude.{◌≡◌, ⊤, false, ℕ, nat_lt, ℤ, ◌+◌, ◌≤◌, cond, Bool, List, [], ◌∷◌, length, map, Option, Some, None, unwrap_or, if◌then◌else◌}
use Rattle.std.specs.List.{AllByRecursion, flat_map, list_any, position_or_len}
use Rattle.std.specs.Str.{bytes_eq}
use Rattle.std.specs.Ordering.{nat_cmp}
use Rattle.std.specs.Cmp.Lexicographic.{slice_cmp}
use Rattle.std.specs.declared.cmp.Ordering.{Ordering}
use Rattle.indexmap.specs.IndexSet.{insert_all}
use Rattle.dq_base.specs.Answers.{is_present, number_of}
use Rattle.dq_base.specs.Numbered.{numbered}
use Rattle.dq_base.specs.Sets.{set_of}
use Rattle.dq_base.specs.declared.value.Value.{Value}
use Rattle.dq_base.specs.declared.value.Value.TheVariants as value

-- a number, or null
abbrev pub whole_of : Option ℤ → Value
whole_of None = value.Null
whole_of (Some n) = value.Int n

-- a number that is marked, or null
abbrev pub marked : Bool → ℤ → Value
marked mark n = if mark then value.Int n else value.Null

-- the values of numbers and of the marks beside them
abbrev pub values_of : List Bool → List ℤ → List Value
values_of [] ns = []
values_of (m ∷ ms) [] = []
values_of (m ∷ ms) (n ∷ ns) = marked m n ∷ values_of ms ns

-- each value's number stands at its place, 0 for null, and whether it is there
pub record IsWholes (marks : List Bool) (numbers : List ℤ) : Type 0 where
  pub each_number : numbers ≡ map number_of (values_of marks numbers)
  pub each_mark : marks ≡ map is_present (values_of marks numbers)

-- the text of a value, if it is one
abbrev pub text_in : Value → List (List ℕ)
text_in value.Null = []
text_in (value.Int n) = []
text_in (value.Word t) = t ∷ []

abbrev pub texts_of : List Value → List (List ℕ)
texts_of values = flat_map text_in values

-- the order of texts by their bytes
abbrev pub text_cmp : List ℕ → List ℕ → Ordering
text_cmp = slice_cmp nat_cmp

-- the different texts of values, ascending by their bytes
abbrev pub words_of : List Value → List (List ℕ)
words_of values = set_of text_cmp (texts_of values)

-- the different texts of values, each where it came first
abbrev pub first_seen : List Value → List (List ℕ)
first_seen values = insert_all bytes_eq [] (texts_of values)

-- no two of the texts are alike
abbrev pub AreDifferent : List (List ℕ) → Type 0
AreDifferent [] = ⊤
AreDifferent (t ∷ ts) = (list_any (bytes_eq t) ts ≡ false) × AreDifferent ts

-- the place of a text among these, from 1
abbrev pub code_in : List (List ℕ) → List ℕ → ℕ
code_in words text = position_or_len (bytes_eq text) words + 1

-- the code of a value: 0 for null, else the place of its text
abbrev pub code_of : List (List ℕ) → Value → ℕ
code_of words value.Null = 0
code_of words (value.Int n) = 0
code_of words (value.Word t) = code_in words t

abbrev pub text_or_null : Option (List ℕ) → Value
text_or_null None = value.Null
text_or_null (Some t) = value.Word t

-- what a code stands for among these texts
abbrev pub coded : List (List ℕ) → ℕ → Value
coded words code = text_or_null (numbered words code)

-- the values that codes stand for
abbrev pub decoded : List (List ℕ) → List ℕ → List Value
decoded words codes = map (coded words) codes

-- the dictionary ascends and has each word that occurs, and each code is its value's
pub record IsDictionary (words : List (List ℕ)) (codes : List ℕ) : Type 0 where
  pub each_word : words ≡ words_of (decoded words codes)
  pub each_code : codes ≡ map (code_of words) (decoded words codes)

-- the texts stand in the order in which they came first, and each code is one of theirs
pub record IsArriving (texts : List (List ℕ)) (codes : List ℕ) : Type 0 where
  pub each_text : texts ≡ first_seen (decoded texts codes)
  pub known : AllByRecursion (λ code. code ≤ length texts) codes

-- the codes of texts that stand before a place among these, and 0 for the others
abbrev pub code_below : List (List ℕ) → ℕ → List ℕ → ℕ
code_below words place text = cond (nat_lt (position_or_len (bytes_eq text) words) place) (code_in words text) 0

-- the place of the text of a code, among places by arrival; 0 for null
abbrev pub place_at : List ℕ → ℕ → ℕ
place_at places code = unwrap_or (numbered places code) 0
