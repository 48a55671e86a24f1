use Rattle.std.proofs.Common.{sym}
use Rattle.std.specs.Arc.{arc_value}
use Rattle.dq_batch.proofs.Works.{group_key, group_some, group_stood, group_valid, own_key, own_stood, own_stood_some, own_valid}
use Rattle.dq_batch.proofs.open.Open.work.Goals as goal

pub unreachable-requires : goal.unreachable-requires
unreachable-requires g c = group_some c.args.loaded.now.value c.args.seen.now.value.entries c.args.self.now c.requires.batch c.in-Group.bringing c.in-Group.is (sym c.in_default.ensures)

pub work-requires-clause-key : goal.work-requires-clause-key
work-requires-clause-key g c =
    rw (c.deref.ensures, c.key-key.ensures, c.stood-stood.ensures)
    (group_key c.args.loaded.now.value c.args.seen.now.value.entries c.args.self.now c.requires.batch c.in-Group.bringing c.in-Group.is c.in-Some.started.now (sym c.in-Some.ensures))

pub work-requires-clause-stood : goal.work-requires-clause-stood
work-requires-clause-stood g c =
    rw (c.deref.ensures, c.key-key.ensures, c.stood-stood.ensures)
    (group_stood c.args.loaded.now.value c.args.seen.now.value.entries c.args.self.now c.requires.batch c.in-Group.bringing c.in-Group.is c.in-Some.started.now (sym c.in-Some.ensures))

pub work-requires-clause-valid : goal.work-requires-clause-valid
work-requires-clause-valid g c =
    rw (c.deref.ensures, c.key-key.ensures)
    (group_valid c.args.loaded.now.value c.args.seen.now.value.entries c.args.self.now c.requires.batch c.in-Group.bringing c.in-Group.is c.in-Some.started.now (sym c.in-Some.ensures))

pub unreachable-requires-in_default-get-2 : goal.unreachable-requires-in_default-get-2
unreachable-requires-in_default-get-2 g c =
    own_stood_some c.args.loaded.now.value c.args.seen.now.value.entries c.args.self.now c.requires.batch c.in-Own.bringing c.in-Own.place c.in-Own.is (arc_value c.in-Some-get.query.now) (sym c.in-Some-get.ensures) (sym c.in_default-get-2.ensures)

pub work-requires-in-Own-clause-key : goal.work-requires-in-Own-clause-key
work-requires-in-Own-clause-key g c =
    rw (c.deref-in-Own.ensures)
    (own_key c.args.loaded.now.value c.args.seen.now.value.entries c.args.self.now c.requires.batch c.in-Own.bringing c.in-Own.place c.in-Own.is (arc_value c.in-Some-get.query.now) (sym c.in-Some-get.ensures) c.in-Some-get-2.stood.now (sym c.in-Some-get-2.ensures))

pub work-requires-in-Own-clause-stood : goal.work-requires-in-Own-clause-stood
work-requires-in-Own-clause-stood g c =
    rw (c.deref-in-Own.ensures)
    (own_stood c.args.loaded.now.value c.args.seen.now.value.entries c.args.self.now c.requires.batch c.in-Own.bringing c.in-Own.place c.in-Own.is (arc_value c.in-Some-get.query.now) (sym c.in-Some-get.ensures) c.in-Some-get-2.stood.now (sym c.in-Some-get-2.ensures))

pub work-requires-in-Own-clause-valid : goal.work-requires-in-Own-clause-valid
work-requires-in-Own-clause-valid g c =
    rw (c.deref-in-Own.ensures)
    (own_valid c.args.loaded.now.value c.args.seen.now.value.entries c.args.self.now c.requires.batch c.in-Own.bringing c.in-Own.place c.in-Own.is (arc_value c.in-Some-get.query.now) (sym c.in-Some-get.ensures))
