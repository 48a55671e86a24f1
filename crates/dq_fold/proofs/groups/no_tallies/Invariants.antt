use Rattle.std.proofs.Common.{◌≡◌, [], map, take}
use Rattle.dq_fold.specs.Tallies.{tally_of}
use Rattle.dq_fold.proofs.groups.no_tallies.Given as goal

abbrev pub invariant-loop-m : goal.invariant-loop-m
invariant-loop-m l = l.tallies ≡ map (tally_of []) (take l.m-index l.measures)
