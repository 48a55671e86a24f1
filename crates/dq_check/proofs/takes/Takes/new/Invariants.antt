use Rattle.std.proofs.Common.{◌≡◌, ◌++◌, drop, length}
use Rattle.dq_check.proofs.Taken.{CountBehind, all_started}
use Rattle.dq_check.proofs.takes.Takes.new.Given as goal

abbrev pub invariant-loop-entry : goal.invariant-loop-entry
invariant-loop-entry l = record {
  all : all_started l.lane l.journal ≡ l.started.items ++ all_started l.lane (drop l.entry-index l.journal);
  counted : length l.before.items ≡ l.entry-index;
  behind : CountBehind l.lane l.journal l.before.items;
}
