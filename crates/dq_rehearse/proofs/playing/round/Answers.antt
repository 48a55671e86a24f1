use Rattle.std.proofs.Common.{◌+◌, ◌∷◌, [], arith, ◌≡◌, ◌∙◌, true, false, sym, subst}
use Rattle.std.specs.List.{range_with_len}
use Rattle.dq_rehearse.specs.Turns.{Turned}
use Rattle.dq_rehearse.proofs.Turned.{ArePassing-more, left_less, left_same, passed}
use Rattle.dq_rehearse.proofs.Walked.{HavePlayed-more, round-more}
use Rattle.dq_rehearse.proofs.playing.round.Goals as goal
use Rattle.dq_rehearse.proofs.playing.round.Goals.{then-turn, else-turn}

pub loop-place-preserved : goal.loop-place-preserved
loop-place-preserved g c =
    let i = c.loop-place.invariant in
    let l = c.args.desk.now.loaded in
    let place = c.loop-place.place in
    let old = c.loop-place.lanes.items in
    let new = c.turn.new.lanes.items in
    let before = c.loop-place.desk.journal in
    let now = c.turn.new.desk.journal in
    let turned : Turned l place old new before now c.turn.result = subst (λ m. Turned m place old new before now c.turn.result) i.loaded c.turn.ensures.turned in
    let left = left_same l place old new before now c.turn.result turned in
    record {
      loaded = c.turn.ensures.loaded ∙ i.loaded;
      no_more = omega (arith, left, i.no_more);
      played = rw (← round-more place) (HavePlayed-more l (range_with_len 1 place) ((place + 1) ∷ []) c.args.desk.now.journal c.args.lanes.now.items before old now new i.played (rw i.loaded at c.turn.ensures.played));
      less = elim c.if-turn.branch [
        | then-turn w ↦ λ e. omega (arith, left_less l place old new before now c.turn.result turned w.if-turn.true, i.no_more)
        | else-turn w ↦ λ e. omega (arith, left, i.less (sym w.moved-is ∙ e))
      ];
      passing = elim c.if-turn.branch [
        | then-turn w ↦ λ e. let bad : true ≡ false = sym w.moved-is ∙ e in cc
        | else-turn w ↦ λ e. ArePassing-more l place old new before now (passed l place old new before now c.turn.result turned w.if-turn.false) (i.passing (sym w.moved-is ∙ e))
      ];
    }
