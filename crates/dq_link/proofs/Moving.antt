-- Steps of making a link ready, one after another.
use Rattle.std.proofs.Common.{◌≡◌, ℕ, ◌+◌, ◌≤◌, List, Some, None, Result, Ok, Err, arith, sym, ◌∙◌, ap, subst}
use Rattle.dq_base.specs.Causes.{Rose}
use Rattle.dq_link.specs.Calls.{CountsFaults}
use Rattle.dq_base.specs.declared.value.Value.{Value}
use Rattle.dq_text.specs.Said.{Tables}
use Rattle.dq_link.specs.Mirrors.{IsMirrored, Readying, dropping, putting, remounting}
use Rattle.dq_link.specs.Mounts.{KeepsAs, Mounted, Same, SetAt, SetsAs}
use Rattle.dq_link.specs.Steps.{IsDone, Moment, Moves}
use Rattle.dq_link.specs.declared.fault.LinkFault.{LinkFault}
use Rattle.dq_link.specs.declared.fault.LinkFault.TheVariants as fault
use Rattle.dq_link.proofs.Lookups.{unnumbered}
use Rattle.dq_link.proofs.Mirroring.{mirrors-drop, mirrors-mount, mirrors-put, mirrors-same}

-- of a fault, a call that sets something tells as much as one that keeps all
pub keeps-sets : (T : Type 0) {X : Type 0} (at : ℕ) (x : X) (before now : ℕ → X) (e : LinkFault) → SetsAs {T = T} at x before now (Err e) → KeepsAs {T = T} before now (Err e)
keeps-sets T at x before now fault.Failed h = h
keeps-sets T at x before now fault.Memory h = h

-- a fault in a step is one in a step that takes as many calls or more
pub moves-on : (T U : Type 0) (e : LinkFault) (step more : Readying → Readying) (before now : Moment) → (step before.ready).count ≤ (more before.ready).count → Moves {T = T} step before now (Err e) → Moves {T = U} more before now (Err e)
moves-on T U fault.Failed step more before now h k = record { some = k.some; most = omega (arith, k.most); later = k.later; rose = k.rose; runs = k.runs; planned = k.planned }
moves-on T U fault.Memory step more before now h k = record { some = k.some; most = omega (arith, k.most); mirrored = k.mirrored; faults = k.faults; runs = k.runs; planned = k.planned }

-- a step after one that is done
pub moves-after : {T : Type 0} (result : Result T LinkFault) (first second : Readying → Readying) (before mid now : Moment) → before.ready.count ≤ (first before.ready).count → IsDone first before mid → Moves second mid now result → Moves (λ r. second (first r)) before now result
moves-after (Ok done) first second before mid now h d k = record { reached = k.reached ∙ ap second d.reached; mirrored = k.mirrored; faults = k.faults ∙ d.faults; runs = k.runs ∙ d.runs; planned = k.planned ∙ d.planned }
moves-after (Err fault.Failed) first second before mid now h d k =
    let e : mid.ready.count ≡ (first before.ready).count = ap (λ r. r.count) d.reached in
    let f : (second mid.ready).count ≡ (second (first before.ready)).count = ap (λ r. (second r).count) d.reached in
    record { some = omega (arith, k.some); most = omega (arith, k.most); later = omega (arith, k.later, d.faults); rose = subst (λ n. Rose n now.faults) d.faults k.rose; runs = k.runs ∙ d.runs; planned = k.planned ∙ d.planned }
moves-after (Err fault.Memory) first second before mid now h d k =
    let e : mid.ready.count ≡ (first before.ready).count = ap (λ r. r.count) d.reached in
    let f : (second mid.ready).count ≡ (second (first before.ready)).count = ap (λ r. (second r).count) d.reached in
    record { some = omega (arith, k.some); most = omega (arith, k.most); mirrored = k.mirrored; faults = k.faults ∙ d.faults; runs = k.runs ∙ d.runs; planned = k.planned ∙ d.planned }

pub keeps-after : {X T : Type 0} (result : Result T LinkFault) (before mid now : ℕ → X) → Same before mid → KeepsAs mid now result → KeepsAs before now result
keeps-after (Ok done) before mid now h k = λ n. k n ∙ h n
keeps-after (Err fault.Failed) before mid now h k = k
keeps-after (Err fault.Memory) before mid now h k = λ n. k n ∙ h n

-- a step whose one call was a fault
pub moves-fault : (T : Type 0) (e : LinkFault) (step : Readying → Readying) (before now : Moment) → IsMirrored before.mounts before.tables before.ready.mirror → now.ready.mirror ≡ before.ready.mirror → now.ready.count ≡ before.ready.count + 1 → before.ready.count + 1 ≤ (step before.ready).count → KeepsAs {T = T} before.mounts now.mounts (Err e) → KeepsAs {T = T} before.tables now.tables (Err e) → CountsFaults {T = T} before.faults now.faults (Err e) → now.runs ≡ before.runs → now.planned ≡ before.planned → Moves {T = T} step before now (Err e)
moves-fault T fault.Failed step before now i m c most h k f r p = record { some = omega arith; most = omega arith; later = f.0; rose = f.1; runs = r; planned = p }
moves-fault T fault.Memory step before now i m c most h k f r p = record { some = omega arith; most = omega arith; mirrored = subst (λ n. IsMirrored now.mounts now.tables n) (sym m) (mirrors-same before.mounts now.mounts before.tables now.tables before.ready.mirror i h k); faults = f; runs = r; planned = p }

-- steps whose one call was answered

pub done-mount : (source : ℕ) (x : Mounted) (before now : Moment) → IsMirrored before.mounts before.tables before.ready.mirror → SetAt source (Some x) before.mounts now.mounts → Same before.tables now.tables → now.ready ≡ remounting source x.stamp before.ready → now.faults ≡ before.faults → now.runs ≡ before.runs → now.planned ≡ before.planned → IsDone (remounting source x.stamp) before now
done-mount source x before now i h k e f r p = record {
  reached = e;
  mirrored = subst (λ (n : Readying). IsMirrored now.mounts now.tables n.mirror) (sym e) (mirrors-mount before.mounts now.mounts before.tables now.tables before.ready source x i h k);
  faults = f;
  runs = r;
  planned = p;
}

pub done-put : (list : List Value) (before now : Moment) → IsMirrored before.mounts before.tables before.ready.mirror → Same before.mounts now.mounts → SetAt before.ready.mirror.next (Some list) before.tables now.tables → now.ready ≡ putting list before.ready → now.faults ≡ before.faults → now.runs ≡ before.runs → now.planned ≡ before.planned → IsDone (putting list) before now
done-put list before now i h k e f r p = record {
  reached = e;
  mirrored = subst (λ (n : Readying). IsMirrored now.mounts now.tables n.mirror) (sym e) (mirrors-put before.mounts now.mounts before.tables now.tables before.ready list i h k (unnumbered 1 before.ready.mirror.next before.ready.mirror.next before.ready.mirror.tables i.numbered (omega arith)));
  faults = f;
  runs = r;
  planned = p;
}

pub done-drop : (number : ℕ) (before now : Moment) → IsMirrored before.mounts before.tables before.ready.mirror → Same before.mounts now.mounts → SetAt number None before.tables now.tables → now.ready ≡ dropping (Some number) before.ready → now.faults ≡ before.faults → now.runs ≡ before.runs → now.planned ≡ before.planned → IsDone (dropping (Some number)) before now
done-drop number before now i h k e f r p = record {
  reached = e;
  mirrored = subst (λ (n : Readying). IsMirrored now.mounts now.tables n.mirror) (sym e) (mirrors-drop before.mounts now.mounts before.tables now.tables before.ready number i h k);
  faults = f;
  runs = r;
  planned = p;
}

-- equal parts

abbrev pub ready_of : List (ℕ × ℕ) → Tables → ℕ → ℕ → Readying
ready_of mounts tables next count = record { mirror = record { mounts = mounts; tables = tables; next = next }; count = count }

pub same_ready : (mounts mounts' : List (ℕ × ℕ)) (tables tables' : Tables) (next count count' : ℕ) → mounts ≡ mounts' → tables ≡ tables' → count ≡ count' → ready_of mounts tables next count ≡ ready_of mounts' tables' next count'
same_ready mounts mounts' tables tables' next count count' e f h =
    ap (λ m. ready_of m tables next count) e ∙ (ap (λ t. ready_of mounts' t next count) f ∙ ap (ready_of mounts' tables' next) h)
