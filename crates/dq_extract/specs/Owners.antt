-- What is owned together.
use Rattle.std.specs.Prelude.{List, map}
use Rattle.std.specs.Arc.{arc_value}
use Rattle.std.specs.declared.alloc.Global.{Global}
use Rattle.std.specs.declared.sync.Arc.{Arc}

-- what each owner owns
abbrev pub values_of : {T : Type 0} → List (Arc T Global) → List T
values_of owners = map arc_value owners
