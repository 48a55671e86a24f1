use Rattle.dq_bring.proofs.Leases.{lease_may, leased_dial, leased_idle}
use Rattle.dq_bring.proofs.telling.lease.Goals as goal

pub lease-leased-requires : goal.lease-leased-requires
lease-leased-requires g c = lease_may _ _ _ _ _ _ c.requires.bringing c.requires.few

pub returns-in-Idle-clause-told : goal.returns-in-Idle-clause-told
returns-in-Idle-clause-told g c =
    let lawful = rw c.lease-leased.ensures.loaded at c.journal.ensures.legal in
    let counted = rw (c.as_slice.ensures, c.journal.ensures.journal, ← c.requires.same) at c.calls_are_few.ensures in
    leased_idle _ _ _ _ _ _ c.requires.bringing _ lawful counted _ c.in-Idle.ensures.leased c.in-Idle.ensures.entry

pub returns-in-Dial-clause-told : goal.returns-in-Dial-clause-told
returns-in-Dial-clause-told g c =
    let lawful = rw c.lease-leased.ensures.loaded at c.journal.ensures.legal in
    leased_dial _ _ _ _ _ _ c.requires.bringing _ lawful _ c.in-Dial.ensures.leased c.in-Dial.ensures.entry
