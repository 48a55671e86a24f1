-- How many entries the work that was started still needs at most.
use Rattle.std.specs.Prelude.{◌≡◌, ℕ, ◌+◌, ◌*◌, ◌-◌, ◌≤◌, Bool, true, false, List, [], ◌∷◌, length, sum_by}
use Rattle.dq_journal.specs.declared.entry.Entry.{Entry}
use Rattle.dq_journal.specs.declared.entry.Entry.TheVariants.{Publish, Admit, Lease, Give, Lose, Land, Fall, Take, End}
use Rattle.dq_machine.specs.State.{Phase, New, Leased, Given, State, Work}

-- of a flight that has no link: a lease and a loss for each loss that it may still have, and its end
abbrev pub owed_flight : ℕ → ℕ
owed_flight losses = 5 - 2 * losses

-- of a lane's first own flight; once its link was given back, its end alone is left
abbrev pub owed_phase : Phase → ℕ
owed_phase (New losses) = owed_flight losses
owed_phase (Leased losses fresh k) = owed_flight losses - 1
owed_phase (Given ran) = 1

-- of all own flights of a lane, of which the first is so far
abbrev pub owed_own : Phase → List ℕ → ℕ
owed_own p [] = 0
owed_own p (f ∷ own) = owed_phase p + owed_flight 0 * length own

-- the lane's end
abbrev pub owed_end : Bool → ℕ
owed_end true = 0
owed_end false = 1

-- of a join: that it is taken, and the flight that may start in its place
abbrev pub owed_join : ℕ
owed_join = owed_flight 0 + 1

abbrev pub owed_work : Work → ℕ
owed_work w = owed_end w.ended + owed_own w.phase w.own + owed_join * length w.joins

-- of all lanes
abbrev pub owed : State → ℕ
owed s = sum_by owed_work s.works

-- a publication leaves it as it was, an admission adds six at most for each remote query, and each other entry is one of those that
-- were owed
abbrev pub OwesAfter : Entry → ℕ → ℕ → Type 0
OwesAfter (Publish lane step) before now = now ≡ before
OwesAfter (Admit lane step met) before now = now ≤ before + owed_join * length met
OwesAfter (Lease lane flight link fresh) before now = now + 1 ≤ before
OwesAfter (Give lane flight link ran runs calls) before now = now + 1 ≤ before
OwesAfter (Lose lane flight link dialled ran runs calls) before now = now + 1 ≤ before
OwesAfter (Land lane flight cells clever literal) before now = now + 1 ≤ before
OwesAfter (Fall lane flight cause) before now = now + 1 ≤ before
OwesAfter (Take lane flight next) before now = now + 1 ≤ before
OwesAfter (End lane) before now = now + 1 ≤ before
