-- What a Land entry and a Fall entry do.
use Rattle.std.specs.Prelude.{ℕ, ◌+◌, ◌*◌, Bool, true, false, ◌&&◌, ◌||◌, not, nat_eq, List, [], ◌∷◌, length, Option, Some, None, is_none, if◌then◌else◌}
use Rattle.dq_base.specs.Answers.{answer}
use Rattle.dq_base.specs.declared.bound.Bound.{Bound}
use Rattle.dq_base.specs.declared.kept.Kept.{Kept as Word}
use Rattle.dq_base.specs.declared.kept.Kept.TheVariants.{Kept, Topped, TooLarge, Stale, Memory}
use Rattle.dq_base.specs.declared.query.Query.{Query}
use Rattle.dq_cache.specs.Entries.{is_large, put_front, refusal, trimmed, weight_of}
use Rattle.dq_extract.specs.Loads.{LoadedFiles}
use Rattle.dq_journal.specs.declared.entry.Cause.{Cause}
use Rattle.dq_journal.specs.declared.entry.Cause.TheVariants as cause
use Rattle.dq_flight.specs.Flights.{replaced}
use Rattle.dq_machine.specs.Admitting.{has_same}
use Rattle.dq_machine.specs.Publishing.{rows_at, stamp_in}
use Rattle.dq_machine.specs.State.{Course, Flown, Phase, New, Leased, Given, Publication, Shelved, Shelves, is_numbered}

-- rows times columns of the flight's answer, over the version of its stamp
abbrev pub cells_of : List Publication → Flown → ℕ
cells_of versions f = length (answer f.key (rows_at versions f.stamp)) * (length f.key.dims + length f.key.measures)

-- why a cache with this bound doesn't keep an answer of so many cells, if it doesn't: the first that applies
abbrev pub clever_refusal : List Publication → Bound → Flown → ℕ → Option Word
clever_refusal versions bound f cells = refusal (not (is_none f.key.top)) (is_large bound cells) (not (nat_eq f.stamp (stamp_in versions f.key.source)))

abbrev pub literal_refusal : List Publication → Bound → Flown → ℕ → Option Word
literal_refusal versions bound f cells = refusal false (is_large bound cells) (not (nat_eq f.stamp (stamp_in versions f.key.source)))

abbrev pub word_eq : Word → Word → Bool
word_eq Kept Kept = true
word_eq Kept Topped = false
word_eq Kept TooLarge = false
word_eq Kept Stale = false
word_eq Kept Memory = false
word_eq Topped Kept = false
word_eq Topped Topped = true
word_eq Topped TooLarge = false
word_eq Topped Stale = false
word_eq Topped Memory = false
word_eq TooLarge Kept = false
word_eq TooLarge Topped = false
word_eq TooLarge TooLarge = true
word_eq TooLarge Stale = false
word_eq TooLarge Memory = false
word_eq Stale Kept = false
word_eq Stale Topped = false
word_eq Stale TooLarge = false
word_eq Stale Stale = true
word_eq Stale Memory = false
word_eq Memory Kept = false
word_eq Memory Topped = false
word_eq Memory TooLarge = false
word_eq Memory Stale = false
word_eq Memory Memory = true

-- where nothing is against it the answer is kept, unless memory is wanting
abbrev pub may_say : Option Word → Word → Bool
may_say (Some reason) word = word_eq reason word
may_say None word = word_eq Kept word || word_eq Memory word

-- the statement was run, and its link given back
abbrev pub has_run : Phase → Bool
has_run (New losses) = false
has_run (Leased losses fresh k) = false
has_run (Given ran) = ran

abbrev pub may_land_at : LoadedFiles → List Publication → Option Flown → ℕ → Word → Word → Bool
may_land_at l versions None cells clever literal = false
may_land_at l versions (Some f) cells clever literal =
    nat_eq cells (cells_of versions f)
    && may_say (clever_refusal versions l.script.clever f cells) clever
    && may_say (literal_refusal versions l.script.literal f cells) literal

-- the answer in front, in place of one of equal key and stamp, and the last ones dropped as long as there is too much
abbrev pub shelf_kept : Bound → Flown → ℕ → List Shelved → List Shelved
shelf_kept bound f cells shelf =
    trimmed (λ e. e.weight) bound (put_front (has_same f.stamp f.key) (record { flight = f.number; stamp = f.stamp; key = f.key; weight = weight_of cells }) shelf)

abbrev pub shelf_landed : Bound → Flown → ℕ → Word → List Shelved → List Shelved
shelf_landed bound f cells Kept shelf = shelf_kept bound f cells shelf
shelf_landed bound f cells Topped shelf = shelf
shelf_landed bound f cells TooLarge shelf = shelf
shelf_landed bound f cells Stale shelf = shelf
shelf_landed bound f cells Memory shelf = shelf

abbrev pub shelves_landed : LoadedFiles → Option Flown → ℕ → Word → Word → Shelves → Shelves
shelves_landed l None cells clever literal shelves = shelves
shelves_landed l (Some f) cells clever literal shelves = record {
  clever = shelf_landed l.script.clever f cells clever shelves.clever;
  literal = shelf_landed l.script.literal f cells literal shelves.literal;
}

-- after two losses nothing else is left; memory may be wanting after a link was given back, or in the dial of a fresh one
abbrev pub may_fall : Phase → Cause → Bool
may_fall (New losses) cause.BackEnd = nat_eq losses 2
may_fall (New losses) cause.Memory = false
may_fall (Leased losses fresh k) cause.BackEnd = false
may_fall (Leased losses fresh k) cause.Memory = fresh
may_fall (Given ran) cause.BackEnd = false
may_fall (Given ran) cause.Memory = true

-- a flight that has ended stays as long as somebody waits for it
abbrev pub over : Course → Flown → List Flown
over course f = if nat_eq f.joiners 0 then [] else record f { course = course } ∷ []

abbrev pub ended : Course → ℕ → List Flown → List Flown
ended course flight flown = replaced (is_numbered flight) (over course) flown
