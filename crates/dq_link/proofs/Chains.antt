-- What the steps of making a link ready ask of one another.
use Rattle.std.proofs.Common.{◌≡◌, ℕ, ◌≤◌, false, cond, List, ◌∷◌, Option, Result, Ok, Err, arith, sym, ◌∙◌, ap, subst}
use Rattle.std.proofs.lemmas.List.Sums.{fold-append}
use Rattle.std.specs.List.{fold}
use Rattle.dq_base.specs.declared.value.Value.{Value}
use Rattle.dq_base.specs.declared.predicate.Predicate.{Predicate}
use Rattle.dq_link.specs.Mirrors.{Readying, holding, is_held, lists_in, long_lists, putting, roomed}
use Rattle.dq_link.specs.Mounts.{Holdings, Mounts}
use Rattle.dq_link.specs.Steps.{CanAdvance, IsBroken, IsDone, IsStopped, Moment, Moves, moment}
use Rattle.dq_link.specs.Views.{MirroredLink}
use Rattle.dq_link.specs.declared.fault.LinkFault.{LinkFault}
use Rattle.dq_link.specs.declared.fault.LinkFault.TheVariants as fault
use Rattle.dq_link.proofs.Growing.{each_grows}

-- a step that makes the same of what was there before
pub moves-as : {T : Type 0} (result : Result T LinkFault) (step more : Readying → Readying) (before now : Moment) → step before.ready ≡ more before.ready → Moves step before now result → Moves more before now result
moves-as (Ok done) step more before now e k = record { reached = k.reached ∙ e; mirrored = k.mirrored; faults = k.faults; runs = k.runs; planned = k.planned }
moves-as (Err fault.Failed) step more before now e k =
    let n : (step before.ready).count ≡ (more before.ready).count = ap (λ r. r.count) e in
    record { some = k.some; most = omega (arith, k.most); later = k.later; rose = k.rose; runs = k.runs; planned = k.planned }
moves-as (Err fault.Memory) step more before now e k =
    let n : (step before.ready).count ≡ (more before.ready).count = ap (λ r. r.count) e in
    record { some = k.some; most = omega (arith, k.most); mirrored = k.mirrored; faults = k.faults; runs = k.runs; planned = k.planned }

-- want of memory after a step that is done
pub done-stopped : (step : Readying → Readying) (before now : Moment) → before.ready.count ≤ (step before.ready).count → IsDone step before now → IsStopped step before now
done-stopped step before now h d =
    let n : now.ready.count ≡ (step before.ready).count = ap (λ r. r.count) d.reached in
    record { some = omega arith; most = omega arith; mirrored = d.mirrored; faults = d.faults; runs = d.runs; planned = d.planned }

-- what an answer that is known tells
pub stopped-by : {T : Type 0} (result : Result T LinkFault) (step : Readying → Readying) (before now : Moment) → result ≡ Err fault.Memory → Moves step before now result → IsStopped step before now
stopped-by (Ok done) step before now e k = cc
stopped-by (Err fault.Failed) step before now e k = cc
stopped-by (Err fault.Memory) step before now e k = k

pub broken-by : {T : Type 0} (result : Result T LinkFault) (step : Readying → Readying) (before now : Moment) → result ≡ Err fault.Failed → Moves step before now result → IsBroken step before now
broken-by (Ok done) step before now e k = cc
broken-by (Err fault.Failed) step before now e k = k
broken-by (Err fault.Memory) step before now e k = cc

module _ {L : Type 0} (mounts : L → Mounts) (tables : L → Holdings) (faults runs calls : L → ℕ) (planned : L → Option ℕ) where
  -- the first of the steps that a whole takes
  pub can_first : (first whole : Readying → Readying) (before : MirroredLink L) → (first (record { mirror = before.mirror; count = calls before.link })).count ≤ (whole (record { mirror = before.mirror; count = calls before.link })).count → CanAdvance mounts tables faults runs calls planned whole before → CanAdvance mounts tables faults runs calls planned first before
  can_first first whole before h k = record { mirrored = k.mirrored; runs_room = k.runs_room; calls_room = omega (arith, k.calls_room) }

  -- the step after it
  pub can_after : (first second whole : Readying → Readying) (before mid : MirroredLink L) → IsDone first (moment mounts tables faults runs calls planned before) (moment mounts tables faults runs calls planned mid) → second (first (record { mirror = before.mirror; count = calls before.link })) ≡ whole (record { mirror = before.mirror; count = calls before.link }) → CanAdvance mounts tables faults runs calls planned whole before → CanAdvance mounts tables faults runs calls planned second mid
  can_after first second whole before mid d e k =
      let n : (second (record { mirror = mid.mirror; count = calls mid.link })).count ≡ (whole (record { mirror = before.mirror; count = calls before.link })).count = ap (λ (r : Readying). r.count) (ap second d.reached ∙ e) in
      record { mirrored = d.mirrored; runs_room = omega (arith, d.runs, k.runs_room); calls_room = omega (arith, n, k.calls_room) }

-- a list that no table holds
pub held_whole : (needed : List (List Value)) (list : List Value) (r : Readying) → is_held r.mirror.tables list ≡ false → putting list (roomed needed r) ≡ holding needed r list
held_whole needed list r e = sym (ap (λ b. cond b r (putting list (roomed needed r))) e)

pub room_below : (needed : List (List Value)) (list : List Value) (r : Readying) → is_held r.mirror.tables list ≡ false → (roomed needed r).count ≤ (holding needed r list).count
room_below needed list r e =
    let n : (putting list (roomed needed r)).count ≡ (holding needed r list).count = ap (λ (s : Readying). s.count) (held_whole needed list r e) in omega (arith, n)

-- the lists of a predicate, and then those of the others
pub each_whole : (needed : List (List Value)) (p : Predicate) (ps : List Predicate) (r : Readying) → fold (holding needed) (fold (holding needed) r (long_lists p.test)) (lists_in ps) ≡ fold (holding needed) r (lists_in (p ∷ ps))
each_whole needed p ps r = sym (fold-append (holding needed) r (long_lists p.test) (lists_in ps))

pub each_below : (needed : List (List Value)) (p : Predicate) (ps : List Predicate) (r : Readying) → (fold (holding needed) r (long_lists p.test)).count ≤ (fold (holding needed) r (lists_in (p ∷ ps))).count
each_below needed p ps r =
    let mid : Readying = fold (holding needed) r (long_lists p.test) in
    let n : (fold (holding needed) mid (lists_in ps)).count ≡ (fold (holding needed) r (lists_in (p ∷ ps))).count = ap (λ (s : Readying). s.count) (each_whole needed p ps r) in
    let low : mid.count ≤ (fold (holding needed) mid (lists_in ps)).count = (each_grows needed (lists_in ps) mid).0 in
    omega (arith, n, low)

pub each_below_by : (needed : List (List Value)) (p : Predicate) (ps some : List Predicate) (r : Readying) → some ≡ p ∷ ps → (fold (holding needed) r (long_lists p.test)).count ≤ (fold (holding needed) r (lists_in some)).count
each_below_by needed p ps some r e =
    subst (λ (xs : List Predicate). (fold (holding needed) r (long_lists p.test)).count ≤ (fold (holding needed) r (lists_in xs)).count) (sym e) (each_below needed p ps r)
