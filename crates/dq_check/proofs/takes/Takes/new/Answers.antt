use Rattle.std.proofs.Common.{◌≡◌, ◌+◌, ◌++◌, [], ◌∷◌, drop, length, arith, ap, sym, ◌∙◌, subst}
use Rattle.dq_check.proofs.Taken.{CountBehind, all_started, counts_more, entries_from, one_longer, started_more, taken_behind, taken_whole}
use Rattle.dq_check.proofs.takes.Takes.new.Goals as goal

pub loop-entry-preserved : goal.loop-entry-preserved
loop-entry-preserved c =
    let k = c.loop-entry.invariant in
    let from = entries_from c.args.journal.now c.loop-entry.entry-index c.entry-item.result (omega arith) c.entry-item.is in
    let started : all_started c.args.lane c.args.journal.now ≡ c.loop-entry.started.items ++ all_started c.args.lane (drop (length c.loop-entry.before.items) c.args.journal.now) =
    k.all ∙ ap (λ n. c.loop-entry.started.items ++ all_started c.args.lane (drop n c.args.journal.now)) (sym k.counted) in
    let pushed = c.in_ok-push.ensures.items ∙ ap (λ n. c.loop-entry.before.items ++ n ∷ []) c.count_of.ensures in
    record {
      all = started_more c.args.lane c.args.journal.now (drop (c.loop-entry.entry-index + 1) c.args.journal.now) c.loop-entry.started.items c.push_started.new.started.items c.entry-item.result
          (k.all ∙ ap (λ es. c.loop-entry.started.items ++ all_started c.args.lane es) from) c.in_ok-push_started.ensures;
      counted = ap length pushed ∙ one_longer c.loop-entry.before.items (length c.loop-entry.started.items) c.loop-entry.entry-index k.counted;
      behind = subst (CountBehind c.args.lane c.args.journal.now) (sym pushed) (counts_more c.args.lane c.args.journal.now c.loop-entry.started.items c.loop-entry.before.items started k.behind);
    }

pub returns : goal.returns
returns c =
    let k = c.loop-entry.invariant in
    taken_behind c.args.lane c.args.journal.now (record { started = c.loop-entry.started.items; before = c.loop-entry.before.items })
    (taken_whole c.args.lane c.args.journal.now c.loop-entry.started.items c.loop-entry.entry-index k.all (omega arith)) (omega arith) k.behind
