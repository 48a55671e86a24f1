-- A text as the parts of a statement.
use Rattle.std.proofs.Common.{◌≡◌, ℕ, List, [], ◌∷◌, ◌++◌, flat_map, decimal, codes, Option, Some, None, Result, Err, refl, sym, ap, subst, ◌∙◌, append_assoc, arith}
use Rattle.std.specs.List.{AllByRecursion}
use Rattle.std.proofs.lemmas.List.{append_cancel_left, append-nil}
use Rattle.dq_base.specs.Dims.{Dimension}
use Rattle.dq_base.specs.Rests.{Stops}
use Rattle.dq_base.specs.Sizes.{Fits}
use Rattle.dq_base.specs.Spelling.{Bytes}
use Rattle.dq_base.specs.declared.query.Measure.{Measure}
use Rattle.dq_base.specs.declared.query.OrderKey.{OrderKey}
use Rattle.dq_text.specs.Parsing.{ParsedAs}
use Rattle.dq_text.specs.Reading.{After, Fails, IsEnd, IsRead, IsNone}
use Rattle.dq_text.specs.Sizes.{IsNumber, IsSized, IsSizedDim, IsSizedKey, IsSizedMeasure, IsSizedPredicate, IsSizedTop}
use Rattle.dq_text.specs.Statements.{clause, dim_text, key_text, measure_text, spelling, top_text, where_text}
use Rattle.dq_text.specs.declared.fault.TextFault.{TextFault}
use Rattle.dq_text.specs.declared.fault.TextFault.TheVariants as fault
use Rattle.dq_text.specs.declared.statement.SaidPredicate.{SaidPredicate}
use Rattle.dq_text.specs.declared.statement.Statement.{Statement}
use Rattle.dq_text.proofs.Behind.{after_stops, later}

-- what stands behind each part

pub after_order : (top : Option ℕ) → After 4 (top_text top)
after_order None = refl
after_order (Some n) = refl

abbrev pub order_on : List OrderKey → Option ℕ → Bytes
order_on order top = clause (codes " order ") key_text order ++ top_text top

pub after_measures : (order : List OrderKey) (top : Option ℕ) → After 3 (order_on order top)
after_measures [] top = later 4 3 (top_text top) (omega arith) (after_order top)
after_measures (k ∷ ks) top = refl

abbrev pub measures_on : List Measure → List OrderKey → Option ℕ → Bytes
measures_on measures order top = clause (codes " show ") measure_text measures ++ order_on order top

pub after_dims : (measures : List Measure) (order : List OrderKey) (top : Option ℕ) → After 2 (measures_on measures order top)
after_dims [] order top = later 3 2 (order_on order top) (omega arith) (after_measures order top)
after_dims (m ∷ ms) order top = refl

abbrev pub dims_on : List Dimension → List Measure → List OrderKey → Option ℕ → Bytes
dims_on dims measures order top = clause (codes " by ") dim_text dims ++ measures_on measures order top

pub after_filters : (dims : List Dimension) (measures : List Measure) (order : List OrderKey) (top : Option ℕ) → After 1 (dims_on dims measures order top)
after_filters [] measures order top = later 2 1 (measures_on measures order top) (omega arith) (after_dims measures order top)
after_filters (d ∷ ds) measures order top = refl

pub after_stamp : {X : Type 0} (f : X → Bytes) → ((x : X) (r : Bytes) → Stops (f x ++ r)) → (filters : List X) (r : Bytes) → Stops r → Stops (flat_map f filters ++ r)
after_stamp f opens [] r q = q
after_stamp f opens (p ∷ ps) r q = rw (append_assoc (f p) (flat_map f ps) r) (opens p (flat_map f ps ++ r))

-- no statement has the text
abbrev pub IsRefused : Bytes → Type 0
IsRefused text = (s : Statement) → IsSized s → spelling s ≡ text → ⊥

-- how far a text was read: what is left is the rest of each statement that has the text
pub record Meets (text left : Bytes) (rest : Statement → Bytes) : Type 0 where
  pub meets : (s : Statement) → IsSized s → spelling s ≡ text → left ≡ rest s

abbrev pub from_top : Statement → Bytes
from_top s = top_text s.top

abbrev pub from_order : Statement → Bytes
from_order s = order_on s.order s.top

abbrev pub from_measures : Statement → Bytes
from_measures s = measures_on s.measures s.order s.top

abbrev pub from_dims : Statement → Bytes
from_dims s = dims_on s.dims s.measures s.order s.top

abbrev pub from_filters : Statement → Bytes
from_filters s = flat_map where_text s.filters ++ from_dims s

abbrev pub from_stamp : Statement → Bytes
from_stamp s = decimal s.stamp ++ from_filters s

abbrev pub from_source : Statement → Bytes
from_source s = decimal s.source ++ (64 ∷ [] ++ from_stamp s)

pub word_met : {text left : Bytes} → text ≡ codes "from " ++ left → Meets text left from_source
word_met {left = left} e = record { meets = λ s sized is. append_cancel_left (codes "from ") left (from_source s) (sym e ∙ sym is) }

pub sign_met : {text before left : Bytes} → Meets text before (λ s. 64 ∷ [] ++ from_stamp s) → before ≡ 64 ∷ [] ++ left → Meets text left from_stamp
sign_met {left = left} m e = record { meets = λ s sized is. append_cancel_left (64 ∷ []) left (from_stamp s) (sym e ∙ m.meets s sized is) }

pub part_met : {X : Type 0} {P : X → Type 0} {E : Bytes → Type 0} {f : X → Bytes} {text before after : Bytes} {x : X} (part : Statement → X) (rest : Statement → Bytes) → Meets text before (λ s. f (part s) ++ rest s)
    → ((s : Statement) → IsSized s → P (part s)) → ((s : Statement) → E (rest s)) → IsRead P E f before after x → Meets text after rest
part_met part rest m sized opens t = record { meets = λ s fits is. (t.only (part s) (rest s) (sized s fits) (opens s) (m.meets s fits is)).1 }

pub part_none : {X : Type 0} {P : X → Type 0} {E : Bytes → Type 0} {f : X → Bytes} {text before : Bytes} (part : Statement → X) (rest : Statement → Bytes) → Meets text before (λ s. f (part s) ++ rest s)
    → ((s : Statement) → IsSized s → P (part s)) → ((s : Statement) → E (rest s)) → IsNone P E f before → IsRefused text
part_none part rest m sized opens t = λ s fits is. t.none (part s) (rest s) (sized s fits) (opens s) (m.meets s fits is)

-- part by part

pub source_met : {text before after : Bytes} {x : ℕ} → Meets text before from_source → IsRead IsNumber Stops decimal before after x → Meets text after (λ s. 64 ∷ [] ++ from_stamp s)
source_met m t = part_met (λ s. s.source) (λ s. 64 ∷ [] ++ from_stamp s) m (λ s z. z.source) (λ s. refl) t

filters_stop : (s : Statement) → Stops (from_filters s)
filters_stop s = after_stamp where_text (λ p r. refl) s.filters (from_dims s) (after_stops 1 (from_dims s) (after_filters s.dims s.measures s.order s.top))

pub stamp_met : {text before after : Bytes} {x : ℕ} → Meets text before from_stamp → IsRead Fits Stops decimal before after x → Meets text after from_filters
stamp_met m t = part_met (λ s. s.stamp) from_filters m (λ s z. z.stamp) filters_stop t

pub stamp_none : {text before : Bytes} → Meets text before from_stamp → IsNone Fits Stops decimal before → IsRefused text
stamp_none m t = part_none (λ s. s.stamp) from_filters m (λ s z. z.stamp) filters_stop t

pub filters_met : {text before after : Bytes} {x : List SaidPredicate} → Meets text before from_filters → IsRead (AllByRecursion IsSizedPredicate) (After 1) (flat_map where_text) before after x → Meets text after from_dims
filters_met m t = part_met (λ s. s.filters) from_dims m (λ s z. z.filters) (λ s. after_filters s.dims s.measures s.order s.top) t

pub filters_none : {text before : Bytes} → Meets text before from_filters → IsNone (AllByRecursion IsSizedPredicate) (After 1) (flat_map where_text) before → IsRefused text
filters_none m t = part_none (λ s. s.filters) from_dims m (λ s z. z.filters) (λ s. after_filters s.dims s.measures s.order s.top) t

pub dims_met : {text before after : Bytes} {x : List Dimension} → Meets text before from_dims → IsRead (AllByRecursion IsSizedDim) (After 2) (clause (codes " by ") dim_text) before after x → Meets text after from_measures
dims_met m t = part_met (λ s. s.dims) from_measures m (λ s z. z.dims) (λ s. after_dims s.measures s.order s.top) t

pub dims_none : {text before : Bytes} → Meets text before from_dims → IsNone (AllByRecursion IsSizedDim) (After 2) (clause (codes " by ") dim_text) before → IsRefused text
dims_none m t = part_none (λ s. s.dims) from_measures m (λ s z. z.dims) (λ s. after_dims s.measures s.order s.top) t

pub measures_met : {text before after : Bytes} {x : List Measure} → Meets text before from_measures → IsRead (AllByRecursion IsSizedMeasure) (After 3) (clause (codes " show ") measure_text) before after x → Meets text after from_order
measures_met m t = part_met (λ s. s.measures) from_order m (λ s z. z.measures) (λ s. after_measures s.order s.top) t

pub measures_none : {text before : Bytes} → Meets text before from_measures → IsNone (AllByRecursion IsSizedMeasure) (After 3) (clause (codes " show ") measure_text) before → IsRefused text
measures_none m t = part_none (λ s. s.measures) from_order m (λ s z. z.measures) (λ s. after_measures s.order s.top) t

pub order_met : {text before after : Bytes} {x : List OrderKey} → Meets text before from_order → IsRead (AllByRecursion IsSizedKey) (After 4) (clause (codes " order ") key_text) before after x → Meets text after from_top
order_met m t = part_met (λ s. s.order) from_top m (λ s z. z.order) (λ s. after_order s.top) t

pub order_none : {text before : Bytes} → Meets text before from_order → IsNone (AllByRecursion IsSizedKey) (After 4) (clause (codes " order ") key_text) before → IsRefused text
order_none m t = part_none (λ s. s.order) from_top m (λ s z. z.order) (λ s. after_order s.top) t

abbrev Ended : Statement → Bytes
Ended s = []

top_ends : {text before : Bytes} → Meets text before from_top → Meets text before (λ s. top_text s.top ++ Ended s)
top_ends m = record { meets = λ s z is. m.meets s z is ∙ sym (append-nil (top_text s.top)) }

pub top_met : {text before after : Bytes} {x : Option ℕ} → Meets text before from_top → IsRead IsSizedTop IsEnd top_text before after x → Meets text after (λ s. [])
top_met m t = part_met (λ s. s.top) Ended (top_ends m) (λ s z. z.top) (λ s. refl) t

pub top_none : {text before : Bytes} → Meets text before from_top → IsNone IsSizedTop IsEnd top_text before → IsRefused text
top_none m t = part_none (λ s. s.top) Ended (top_ends m) (λ s z. z.top) (λ s. refl) t

-- a fault that a `?` passed on
pub refused_on : {X : Type 0} {P : X → Type 0} {E : Bytes → Type 0} {f : X → Bytes} {text before : Bytes} (r : Result Statement TextFault) (e : TextFault) → ((x : TextFault) × (r ≡ Err x) × (x ≡ e))
    → Fails P E f before e → (IsNone P E f before → IsRefused text) → ParsedAs text r
refused_on {text = text} r fault.NotInGrammar p t refused = subst (ParsedAs text) (sym (p.1 ∙ ap Err p.2)) (refused t)
refused_on {text = text} r fault.Memory p t refused = subst (ParsedAs text) (sym (p.1 ∙ ap Err p.2)) tt
