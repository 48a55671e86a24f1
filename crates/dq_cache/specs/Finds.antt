-- What a look-up hands out.
use Rattle.std.specs.Prelude.{◌≡◌, Option, Some, None, IfSome}
use Rattle.std.specs.Arc.{arc_value}
use Rattle.dq_cache.specs.Entries.{EntryOf}
use Rattle.dq_cache.specs.declared.entry.Found.{Found}

-- the entry's flight, and a share of its key and table, which may be missing
abbrev pub Finds : Option EntryOf → Option Found → Type 0
Finds None None = Unit {0}
Finds (Some e) (Some f) = (f.flight ≡ e.flight) × IfSome f.share (λ both. (arc_value both.0 ≡ e.key) × (arc_value both.1 ≡ e.table))
Finds None (Some f) = ⊥
Finds (Some e) None = ⊥
