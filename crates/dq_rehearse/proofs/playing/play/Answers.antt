use Rattle.dq_rehearse.proofs.New.{on_at_start}
use Rattle.dq_rehearse.proofs.Plays.{all_done, all_followed}
use Rattle.dq_rehearse.proofs.playing.play.Goals as goal

pub play_schedule-requires-clause-on : goal.play_schedule-requires-clause-on
play_schedule-requires-clause-on g c = on_at_start c.args.desk.loaded c.args.desk.journal c.args.lanes.items c.requires.desk c.requires.lanes

pub returns-clause-done : goal.returns-clause-done
returns-clause-done g c = all_done _ _ _ c.play_out.ensures.over

pub returns-clause-follows : goal.returns-clause-follows
returns-clause-follows g c = search all_followed
