-- What entries on links do: Lease, Give and Lose.
use Rattle.std.specs.Prelude.{ℕ, ◌+◌, Bool, true, false, ◌&&◌, not, nat_eq, nat_le, List, [], ◌∷◌, Option, Some, None, if◌then◌else◌}
use Rattle.dq_link.specs.Mirrors.{Mirror, no_mirror, readied, readying_count}
use Rattle.dq_machine.specs.State.{Flown, LinkOf, Links, Phase, New, Leased, Given}

-- how many mounts, drops and puts make a link ready at most: a mount, and a drop and a put for each of 16 lists
abbrev pub most_readying : ℕ
most_readying = 33

-- leases

-- a link that is dialled now
abbrev pub fresh_link : ℕ → LinkOf
fresh_link number = record { number = number; runs = 0; calls = 0; mirror = no_mirror; sure = true }

-- a flight without a link, which wasn't lost twice
abbrev pub may_lease : Phase → Bool
may_lease (New losses) = nat_le losses 1
may_lease (Leased losses fresh k) = false
may_lease (Given ran) = false

-- the link that was given back last; only where none is idle a fresh one, under the next number
abbrev pub is_next : List LinkOf → ℕ → ℕ → Bool → Bool
is_next [] count link fresh = fresh && nat_eq link (count + 1)
is_next (k ∷ idle) count link fresh = not fresh && nat_eq link k.number

abbrev pub leased_from : ℕ → ℕ → List LinkOf → Phase
leased_from losses link [] = Leased losses true (fresh_link link)
leased_from losses link (k ∷ idle) = Leased losses false k

abbrev pub leased : Phase → ℕ → List LinkOf → Phase
leased (New losses) link idle = leased_from losses link idle
leased (Leased losses fresh k) link idle = Leased losses fresh k
leased (Given ran) link idle = Given ran

abbrev pub links_without_top : ℕ → List LinkOf → Links
links_without_top fresh [] = record { idle = []; fresh = fresh + 1 }
links_without_top fresh (k ∷ idle) = record { idle = idle; fresh = fresh }

abbrev pub links_leased : Links → Links
links_leased links = links_without_top links.fresh links.idle

-- counts

-- how many calls make the link ready at least, and at most
pub record Reach : Type 0 where
  pub low : ℕ
  pub high : ℕ

abbrev pub exactly : ℕ → Reach
exactly n = record { low = n; high = n }

-- exactly those that its mirror asks for; where the link isn't sure, any number
abbrev pub reach : LinkOf → Option Flown → Reach
reach k None = exactly 0
reach k (Some f) = if k.sure then exactly (readying_count k.mirror f.stamp f.key) else record { low = 0; high = most_readying }

-- the link, which had run so many statements and been called so often, was made ready and ran the statement
abbrev pub ran_as : ℕ → ℕ → Reach → ℕ → ℕ → Bool
ran_as ran called r runs calls = nat_eq runs (ran + 1) && (nat_le (called + r.low + 1) calls && nat_le calls (called + r.high + 1))

-- it ran no statement, after so many calls at least
abbrev pub unran_as : ℕ → ℕ → ℕ → Reach → ℕ → ℕ → Bool
unran_as least ran called r runs calls = nat_eq runs ran && (nat_le (called + least) calls && nat_le calls (called + r.high))

abbrev pub given_as : Bool → LinkOf → Reach → ℕ → ℕ → Bool
given_as true k r runs calls = ran_as k.runs k.calls r runs calls
given_as false k r runs calls = unran_as 0 k.runs k.calls r runs calls

-- the fault of a link is that of a call
abbrev pub lost_as : Bool → LinkOf → Reach → ℕ → ℕ → Bool
lost_as true k r runs calls = ran_as k.runs k.calls r runs calls
lost_as false k r runs calls = unran_as 1 k.runs k.calls r runs calls

-- only a fresh link isn't dialled; it ran nothing and had no call
abbrev pub undialled_as : Bool → Bool → ℕ → ℕ → Bool
undialled_as fresh ran runs calls = fresh && (not ran && (nat_eq runs 0 && nat_eq calls 0))

-- gives and losses

abbrev pub may_give : Phase → Option Flown → ℕ → Bool → ℕ → ℕ → Bool
may_give (New losses) flight link ran runs calls = false
may_give (Leased losses fresh k) flight link ran runs calls = nat_eq k.number link && given_as ran k (reach k flight) runs calls
may_give (Given before) flight link ran runs calls = false

abbrev pub may_lose_as : Bool → Bool → LinkOf → Option Flown → Bool → ℕ → ℕ → Bool
may_lose_as true fresh k flight ran runs calls = lost_as ran k (reach k flight) runs calls
may_lose_as false fresh k flight ran runs calls = undialled_as fresh ran runs calls

abbrev pub may_lose : Phase → Option Flown → ℕ → Bool → Bool → ℕ → ℕ → Bool
may_lose (New losses) flight link dialled ran runs calls = false
may_lose (Leased losses fresh k) flight link dialled ran runs calls = nat_eq k.number link && may_lose_as dialled fresh k flight ran runs calls
may_lose (Given before) flight link dialled ran runs calls = false

abbrev pub lost : Phase → Phase
lost (New losses) = New losses
lost (Leased losses fresh k) = New (losses + 1)
lost (Given ran) = Given ran

-- what stands on the link after a statement for the flight
abbrev pub mirror_for : Mirror → Option Flown → Mirror
mirror_for m None = m
mirror_for m (Some f) = readied m f.stamp f.key

-- what stands on a link that isn't sure isn't told
abbrev pub mirror_given : LinkOf → Option Flown → Mirror
mirror_given k flight = if k.sure then mirror_for k.mirror flight else no_mirror

-- a link that ran no statement found no memory, and isn't sure any more
abbrev pub link_given : LinkOf → Option Flown → Bool → ℕ → ℕ → LinkOf
link_given k flight true runs calls = record { number = k.number; runs = runs; calls = calls; mirror = mirror_given k flight; sure = k.sure }
link_given k flight false runs calls = record { number = k.number; runs = runs; calls = calls; mirror = no_mirror; sure = false }

abbrev pub links_given : Links → Phase → Option Flown → Bool → ℕ → ℕ → Links
links_given links (New losses) flight ran runs calls = links
links_given links (Leased losses fresh k) flight ran runs calls = record links { idle = link_given k flight ran runs calls ∷ links.idle }
links_given links (Given before) flight ran runs calls = links
