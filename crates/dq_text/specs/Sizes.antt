-- The sizes that the types of a statement's and a query's parts keep.
use Rattle.std.specs.Prelude.{ℕ, ℤ, pos, negsuc, ◌<◌, ◌^◌, Option, Some, None}
use Rattle.std.specs.List.{AllByRecursion}
use Rattle.dq_base.specs.Dims.{Dimension, width_of}
use Rattle.dq_base.specs.Sizes.{Fits, IsByte}
use Rattle.dq_base.specs.declared.value.Value.{Value}
use Rattle.dq_base.specs.declared.value.Value.TheVariants as value
use Rattle.dq_base.specs.declared.query.Measure.{Measure}
use Rattle.dq_base.specs.declared.query.Measure.TheVariants.{Rows, Count, Sum, Min, Max, Distinct, Avg}
use Rattle.dq_base.specs.declared.query.OrderKey.{OrderKey}
use Rattle.dq_base.specs.declared.query.Query.{Query}
use Rattle.dq_text.specs.Statements.{plain_predicate}
use Rattle.dq_text.specs.declared.statement.Listed.{Listed}
use Rattle.dq_text.specs.declared.statement.Listed.TheVariants.{Spelled, Named}
use Rattle.dq_text.specs.declared.statement.SaidTest.{SaidTest}
use Rattle.dq_text.specs.declared.statement.SaidTest.TheVariants.{Among, Except, Between}
use Rattle.dq_text.specs.declared.statement.SaidPredicate.{SaidPredicate}
use Rattle.dq_text.specs.declared.statement.Statement.{Statement}

-- the number of a source, a column or a place, or of rows
abbrev pub IsNumber : ℕ → Type 0
IsNumber n = n < 2 ^ 32

-- a whole number of 64 bits
abbrev pub IsWhole : ℤ → Type 0
IsWhole (pos n) = n < 2 ^ 63
IsWhole (negsuc n) = n < 2 ^ 63

abbrev pub IsSizedValue : Value → Type 0
IsSizedValue value.Null = Unit {0}
IsSizedValue (value.Int n) = IsWhole n
IsSizedValue (value.Word text) = AllByRecursion IsByte text

abbrev pub IsSizedList : Listed → Type 0
IsSizedList (Spelled values) = AllByRecursion IsSizedValue values
IsSizedList (Named table) = Fits table

abbrev pub IsSizedBound : Option ℤ → Type 0
IsSizedBound None = Unit {0}
IsSizedBound (Some n) = IsWhole n

abbrev pub IsSizedTest : SaidTest → Type 0
IsSizedTest (Among list) = IsSizedList list
IsSizedTest (Except list) = IsSizedList list
IsSizedTest (Between low high) = IsSizedBound low × IsSizedBound high

abbrev pub IsSizedPredicate : SaidPredicate → Type 0
IsSizedPredicate p = IsNumber p.column × IsSizedTest p.test

-- a width of bands
abbrev pub IsWidth : ℕ → Type 0
IsWidth width = (0 < width) × IsNumber width

abbrev pub IsSizedDim : Dimension → Type 0
IsSizedDim d = IsNumber d.column × IsWidth (width_of d)

abbrev pub IsSizedMeasure : Measure → Type 0
IsSizedMeasure Rows = Unit {0}
IsSizedMeasure (Count column) = IsNumber column
IsSizedMeasure (Sum column) = IsNumber column
IsSizedMeasure (Min column) = IsNumber column
IsSizedMeasure (Max column) = IsNumber column
IsSizedMeasure (Distinct column) = IsNumber column
IsSizedMeasure (Avg column) = IsNumber column

abbrev pub IsSizedKey : OrderKey → Type 0
IsSizedKey k = IsNumber k.place

abbrev pub IsSizedTop : Option ℕ → Type 0
IsSizedTop None = Unit {0}
IsSizedTop (Some n) = IsNumber n

-- what the types of a statement's parts keep
pub record IsSized (s : Statement) : Type 0 where
  pub source : IsNumber s.source
  pub stamp : Fits s.stamp
  pub filters : AllByRecursion IsSizedPredicate s.filters
  pub dims : AllByRecursion IsSizedDim s.dims
  pub measures : AllByRecursion IsSizedMeasure s.measures
  pub order : AllByRecursion IsSizedKey s.order
  pub top : IsSizedTop s.top

-- what the types of a query's parts keep
pub record IsSizedQuery (q : Query) : Type 0 where
  pub source : IsNumber q.source
  pub filters : AllByRecursion (λ p. IsSizedPredicate (plain_predicate p)) q.filters
  pub dims : AllByRecursion IsSizedDim q.dims
  pub measures : AllByRecursion IsSizedMeasure q.measures
  pub order : AllByRecursion IsSizedKey q.order
  pub top : IsSizedTop q.top
