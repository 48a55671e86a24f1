use Rattle.std.proofs.Common.{◌+◌, ℕ, Some, ap, sym, ◌∙◌, arith}
use Rattle.dq_base.specs.declared.canon.Role.{Role}
use Rattle.dq_zones.proofs.Ranks.{rank_local, rank_remote, rank_within}
use Rattle.dq_zones.proofs.answering.answer_if_remote.Goals as goal

pub returns-in-Local-clause-next : goal.returns-in-Local-clause-next
returns-in-Local-clause-next c =
    let local = c.requires.role ∙ ap (λ (r : Role). Some r) c.in-Local.is in
    c.requires.next ∙ sym (rank_local c.args.prepared.now.roles c.args.place c.in-Local.field-0 local)

pub overflow_add-result : goal.overflow_add-result
overflow_add-result c =
    let few = rank_within c.args.prepared.now.roles c.args.place in
    let next = c.requires.next in
    let room = c.requires.room in
    omega (arith, few, next, room)

pub returns-clause-next : goal.returns-clause-next
returns-clause-next c =
    let remote = c.requires.role ∙ ap (λ (r : Role). Some r) c.in-Remote.is in
    ap (λ (n : ℕ). n + 1) c.requires.next ∙ sym (rank_remote c.args.prepared.now.roles c.args.place remote)
