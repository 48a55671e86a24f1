use Rattle.dq_laws.proofs.Owed.{owed_after}
use Rattle.dq_laws.proofs.room.owed_room_lasts.Goals as goal

pub returns : goal.returns
returns c = owed_after c.args.loaded.now c.args.journal.now c.args.entry.now c.requires.legal
