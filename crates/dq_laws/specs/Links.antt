-- How many links there are.
use Rattle.std.specs.Prelude.{ℕ, ◌+◌, nat_eq, List, sum_by, if◌then◌else◌}
use Rattle.dq_machine.specs.State.{LinkOf, Phase, New, Leased, Given, State, Work}

-- how many links the lane's first own flight has: one or none
abbrev pub out_in : Phase → ℕ
out_in (New losses) = 0
out_in (Leased losses fresh k) = 1
out_in (Given ran) = 0

-- how many links lanes have
abbrev pub links_out : List Work → ℕ
links_out works = sum_by (λ w. out_in w.phase) works

-- one if the link has the number, else none
abbrev pub has_number : ℕ → LinkOf → ℕ
has_number number k = if nat_eq k.number number then 1 else 0

-- one if the lane's first own flight has the link of that number
abbrev pub out_numbered : ℕ → Phase → ℕ
out_numbered number (New losses) = 0
out_numbered number (Leased losses fresh k) = has_number number k
out_numbered number (Given ran) = 0

-- how many links, idle or of a lane, have the number
abbrev pub links_numbered : ℕ → State → ℕ
links_numbered number s = sum_by (has_number number) s.links.idle + sum_by (λ w. out_numbered number w.phase) s.works
