use Rattle.std.proofs.Common.{◌≡◌, ◌+◌, get_or, sym, subst}
use Rattle.std.proofs.lemmas.List.{get_or_read}
use Rattle.dq_rehearse.specs.Lanes.{IsOn, no_lane}
use Rattle.dq_rehearse.specs.Turns.{Turns}
use Rattle.dq_rehearse.proofs.Turned.{AreOn-turn, Turned-turn}
use Rattle.dq_rehearse.proofs.Walked.{FollowsSoFar-turn}
use Rattle.dq_rehearse.proofs.playing.turn.Goals as goal

pub returns-clause-played : goal.returns-clause-played
returns-clause-played g c =
    let lanes = c.args.lanes.now.items in
    let l = c.args.desk.now.loaded in
    let v = c.index_mut.result.now in
    let read : v ≡ get_or lanes c.args.place (no_lane l) = get_or_read lanes _ _ c.requires.place c.index_mut.ensures.value (no_lane l) in
    let on : IsOn l c.args.desk.now.journal (c.args.place + 1) v = rw read (c.requires.on.each c.args.place c.requires.place) in
    let turned = subst (λ n. Turns l n v c.advance.new.lane c.args.desk.now.journal c.advance.new.desk.journal c.advance.result) on.numbered c.advance.ensures.turns in
    record {
      on = AreOn-turn l c.args.desk.now.journal c.advance.new.desk.journal lanes c.args.place v c.advance.new.lane c.advance.result c.requires.place c.requires.on on.numbered turned;
      follows = λ earlier so_far. FollowsSoFar-turn l c.args.desk.now.journal c.advance.new.desk.journal lanes earlier c.args.place v c.advance.new.lane c.advance.result c.requires.place (sym read) on.numbered on.loaded turned so_far;
    }

pub returns-clause-turned : goal.returns-clause-turned
returns-clause-turned g c =
    let lanes = c.args.lanes.now.items in
    let l = c.args.desk.now.loaded in
    let v = c.index_mut.result.now in
    let read : v ≡ get_or lanes c.args.place (no_lane l) = get_or_read lanes _ _ c.requires.place c.index_mut.ensures.value (no_lane l) in
    let on : IsOn l c.args.desk.now.journal (c.args.place + 1) v = rw read (c.requires.on.each c.args.place c.requires.place) in
    let turned = subst (λ n. Turns l n v c.advance.new.lane c.args.desk.now.journal c.advance.new.desk.journal c.advance.result) on.numbered c.advance.ensures.turns in
    Turned-turn l c.args.desk.now.journal c.advance.new.desk.journal lanes c.args.place v c.advance.new.lane c.advance.result c.requires.place (sym read) on turned
