use Rattle.std.proofs.Common.{codes, sym, ◌∙◌}
use Rattle.dq_parse.proofs.Events.{worded, no_entry}
use Rattle.dq_parse.proofs.entries.read_entry.Goals as goal

pub returns-then-skip : goal.returns-then-skip
returns-then-skip c = worded _ _ (codes "publish") c.read_publish.result (c.if-skip.ensures) c.read_publish.ensures

pub returns-then-skip-2 : goal.returns-then-skip-2
returns-then-skip-2 c = worded _ _ (codes "admit") c.read_admit.result (sym (c.if-skip.ensures.0) ∙ c.if-skip-2.ensures) c.read_admit.ensures

pub returns-then-skip-3 : goal.returns-then-skip-3
returns-then-skip-3 c = worded _ _ (codes "lease") c.read_lease.result (sym (c.if-skip-2.ensures.0 ∙ c.if-skip.ensures.0) ∙ c.if-skip-3.ensures) c.read_lease.ensures

pub returns-then-skip-4 : goal.returns-then-skip-4
returns-then-skip-4 c = worded _ _ (codes "give") c.read_give.result (sym (c.if-skip-3.ensures.0 ∙ c.if-skip-2.ensures.0 ∙ c.if-skip.ensures.0) ∙ c.if-skip-4.ensures) c.read_give.ensures

pub returns-then-skip-5 : goal.returns-then-skip-5
returns-then-skip-5 c = worded _ _ (codes "lose") c.read_lose.result (sym (c.if-skip-4.ensures.0 ∙ c.if-skip-3.ensures.0 ∙ c.if-skip-2.ensures.0 ∙ c.if-skip.ensures.0) ∙ c.if-skip-5.ensures) c.read_lose.ensures

pub returns-then-skip-6 : goal.returns-then-skip-6
returns-then-skip-6 c = worded _ _ (codes "land") c.read_land.result (sym (c.if-skip-5.ensures.0 ∙ c.if-skip-4.ensures.0 ∙ c.if-skip-3.ensures.0 ∙ c.if-skip-2.ensures.0 ∙ c.if-skip.ensures.0) ∙ c.if-skip-6.ensures) c.read_land.ensures

pub returns-then-skip-7 : goal.returns-then-skip-7
returns-then-skip-7 c = worded _ _ (codes "fall") c.read_fall.result (sym (c.if-skip-6.ensures.0 ∙ c.if-skip-5.ensures.0 ∙ c.if-skip-4.ensures.0 ∙ c.if-skip-3.ensures.0 ∙ c.if-skip-2.ensures.0 ∙ c.if-skip.ensures.0) ∙ c.if-skip-7.ensures) c.read_fall.ensures

pub returns-then-skip-8 : goal.returns-then-skip-8
returns-then-skip-8 c = worded _ _ (codes "take") c.read_take.result (sym (c.if-skip-7.ensures.0 ∙ c.if-skip-6.ensures.0 ∙ c.if-skip-5.ensures.0 ∙ c.if-skip-4.ensures.0 ∙ c.if-skip-3.ensures.0 ∙ c.if-skip-2.ensures.0 ∙ c.if-skip.ensures.0) ∙ c.if-skip-8.ensures) c.read_take.ensures

pub returns-then-skip-9 : goal.returns-then-skip-9
returns-then-skip-9 c = worded _ _ (codes "end") c.read_end.result (sym (c.if-skip-8.ensures.0 ∙ c.if-skip-7.ensures.0 ∙ c.if-skip-6.ensures.0 ∙ c.if-skip-5.ensures.0 ∙ c.if-skip-4.ensures.0 ∙ c.if-skip-3.ensures.0 ∙ c.if-skip-2.ensures.0 ∙ c.if-skip.ensures.0) ∙ c.if-skip-9.ensures) c.read_end.ensures

pub returns : goal.returns
returns c = no_entry (record {
  publish = c.if-skip.ensures.1;
  admit = λ r h. c.if-skip-2.ensures.1 r (c.if-skip.ensures.0 ∙ h);
  lease = λ r h. c.if-skip-3.ensures.1 r (c.if-skip-2.ensures.0 ∙ c.if-skip.ensures.0 ∙ h);
  give = λ r h. c.if-skip-4.ensures.1 r (c.if-skip-3.ensures.0 ∙ c.if-skip-2.ensures.0 ∙ c.if-skip.ensures.0 ∙ h);
  lose = λ r h. c.if-skip-5.ensures.1 r (c.if-skip-4.ensures.0 ∙ c.if-skip-3.ensures.0 ∙ c.if-skip-2.ensures.0 ∙ c.if-skip.ensures.0 ∙ h);
  land = λ r h. c.if-skip-6.ensures.1 r (c.if-skip-5.ensures.0 ∙ c.if-skip-4.ensures.0 ∙ c.if-skip-3.ensures.0 ∙ c.if-skip-2.ensures.0 ∙ c.if-skip.ensures.0 ∙ h);
  fall = λ r h. c.if-skip-7.ensures.1 r (c.if-skip-6.ensures.0 ∙ c.if-skip-5.ensures.0 ∙ c.if-skip-4.ensures.0 ∙ c.if-skip-3.ensures.0 ∙ c.if-skip-2.ensures.0 ∙ c.if-skip.ensures.0 ∙ h);
  take = λ r h. c.if-skip-8.ensures.1 r (c.if-skip-7.ensures.0 ∙ c.if-skip-6.ensures.0 ∙ c.if-skip-5.ensures.0 ∙ c.if-skip-4.ensures.0 ∙ c.if-skip-3.ensures.0 ∙ c.if-skip-2.ensures.0 ∙ c.if-skip.ensures.0 ∙ h);
  end = λ r h. c.if-skip-9.ensures.1 r (c.if-skip-8.ensures.0 ∙ c.if-skip-7.ensures.0 ∙ c.if-skip-6.ensures.0 ∙ c.if-skip-5.ensures.0 ∙ c.if-skip-4.ensures.0 ∙ c.if-skip-3.ensures.0 ∙ c.if-skip-2.ensures.0 ∙ c.if-skip.ensures.0 ∙ h);
})
