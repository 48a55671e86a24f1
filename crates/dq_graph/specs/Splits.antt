-- What a batch's roles say.
use Rattle.std.specs.Prelude.{◌≡◌, ℕ, Bool, true, false, List, slice_get, Option, Some, None, IfSome}
use Rattle.std.specs.List.{enumerate_from}
use Rattle.dq_base.specs.Batches.{is_local, roles}
use Rattle.dq_base.specs.Covering.{covers}
use Rattle.dq_base.specs.declared.query.Query.{Query}
use Rattle.dq_base.specs.declared.canon.Role.{Role}
use Rattle.dq_base.specs.declared.canon.Role.TheVariants.{Remote, Local}

-- there are queries at both places, and the first covers the second
abbrev pub covered_by : Option Query → Option Query → Bool
covered_by None q = false
covered_by (Some p) None = false
covered_by (Some p) (Some q) = covers p q

-- of a query at a place: a remote one isn't outdone; the source of a local one is remote, and covers it
abbrev pub SourceIsRight : List Query → ℕ → Role → Type 0
SourceIsRight batch place Remote = IfSome (slice_get batch place) (λ q. is_local (enumerate_from 0 batch) (place, q) ≡ false)
SourceIsRight batch place (Local source) = (slice_get (roles batch) source ≡ Some Remote) × (covered_by (slice_get batch source) (slice_get batch place) ≡ true)
