use Rattle.std.proofs.Common.{◌≡◌, ◌≤◌, ◌∙◌, ◌+◌, ◌∷◌, [], ap, arith, length, length-append, refl, subst, sym}
use Rattle.std.proofs.lemmas.Grind.{common_steps}
use Rattle.std.proofs.lemmas.List.{append-nil}
use Rattle.std.proofs.lemmas.List.Elements.{All-get_or}
use Rattle.dq_bring.specs.Dials.{IsPlanOf}
use Rattle.dq_fates.specs.Dials.{lost_dials}
use Rattle.dq_rehearse.specs.Follows.{places_told}
use Rattle.dq_rehearse.specs.Lanes.{IsDone, IsOn, no_lane}
use Rattle.dq_rehearse.proofs.Results.{AreDialled-all, ArePlans-all, AreResultsOf-push, HaveDialled-push, HavePlans-push, IsRight-all, lane_dialled, lane_planned, lane_right, left_lanes, places-more}
use Rattle.dq_rehearse.proofs.gathering.gather.Goals as goal

pub returns-clause-right : goal.returns-clause-right
returns-clause-right g c =
    let i = c.loop-lane.invariant in
    let count : length c.loop-lane.results ≡ length c.args.lanes.items = grind (arith, common_steps) in
    IsRight-all c.args.desk.now.loaded c.args.desk.now.journal c.loop-lane.results i.legal (count ∙ c.requires.on.count) i.right

pub returns-clause-dials : goal.returns-clause-dials
returns-clause-dials g c =
    let i = c.loop-lane.invariant in
    let count : length c.loop-lane.results ≡ length c.args.lanes.items = grind (arith, common_steps) in
    AreDialled-all (λ d. g.D.Dialer.faults d) c.args.desk.now.loaded c.args.desk.now.journal 1 c.loop-lane.dialers i.dials (omega (arith, i.as_many, count, c.requires.on.count))

pub returns-clause-plans : goal.returns-clause-plans
returns-clause-plans g c =
    let i = c.loop-lane.invariant in
    let count : length c.loop-lane.results ≡ length c.args.lanes.items = grind (arith, common_steps) in
    ArePlans-all (λ d. g.D.Dialer.plan d) c.args.desk.now.loaded 1 c.loop-lane.dialers i.plans (omega (arith, i.as_many, count, c.requires.on.count))

pub returns-clause-places : goal.returns-clause-places
returns-clause-places g c =
    let none : c.loop-lane.lane-iterator.rest.items ≡ [] = grind (arith, common_steps) in
    sym (append-nil (places_told c.loop-lane.results)) ∙ (rw none at c.loop-lane.invariant.places)

pub loop-lane-init : goal.loop-lane-init
loop-lane-init g c =
    let none : c.in_ok-results.results ≡ [] = c.in_ok-results.ensures in
    let nobody : c.in_ok-dialers.dialers ≡ [] = c.in_ok-dialers.ensures in
    let all : c.into_iter-lane-iterator.result.rest.items ≡ c.args.lanes.items = grind (arith, common_steps) in
    record {
      legal = c.journal-journal.ensures.legal;
      right = rw none tt;
      rest = rw none all;
      count = rw none (omega (arith, ap length all));
      places = rw (none, all) refl;
      as_many = rw (none, nobody) refl;
      dials = rw nobody tt;
      plans = rw nobody tt;
    }

pub loop-lane-preserved : goal.loop-lane-preserved
loop-lane-preserved g c =
    let i = c.loop-lane.invariant in
    let l = c.args.desk.now.loaded in
    let journal = c.args.desk.now.journal in
    let lanes = c.args.lanes.items in
    let results = c.loop-lane.results in
    let dialers = c.loop-lane.dialers in
    let lane = c.in-Some.lane in
    let rs = c.into_results-rs.result.0 in
    let dialer = c.into_results-rs.result.1 in
    let told = c.into_results-rs.ensures in
    let step = c.in-Some.ensures.steps.0 in
    let pushed = c.in_ok-push.ensures.ok in
    let joined = c.in_ok-push-2.ensures.ok in
    let at = left_lanes l lanes (length results) lane c.next.new.self.rest.items (sym i.rest ∙ step) in
    let on : IsOn l journal (length results + 1) lane = subst (IsOn l journal (length results + 1)) at.1 (c.requires.on.each (length results) at.0) in
    let done : IsDone lane = subst IsDone at.1 (All-get_or IsDone lanes (length results) (no_lane l) at.0 c.requires.done) in
    let right = lane_right l journal (length results) lane rs i.legal on (told.right done) in
    let longer : length c.push.new.self ≡ length results + 1 = rw pushed (length-append results (rs ∷ [])) in
    let further : length c.push-in-loop-lane.new.self ≡ length dialers + 1 = rw joined (length-append dialers (dialer ∷ [])) in
    let here : 1 + length results ≡ 1 + length dialers = omega (arith, i.as_many) in
    let dialled : lost_dials (1 + length dialers) journal ≤ g.D.Dialer.faults dialer =
    subst (λ n. lost_dials n journal ≤ g.D.Dialer.faults dialer) here (lane_dialled l journal (length results) lane (g.D.Dialer.faults dialer) on told.dials) in
    let planned : IsPlanOf l (1 + length dialers) (g.D.Dialer.plan dialer) =
    subst (λ n. IsPlanOf l n (g.D.Dialer.plan dialer)) here (lane_planned l journal (length results) lane (g.D.Dialer.plan dialer) on told.plan) in
    record {
      legal = i.legal;
      right = rw pushed (AreResultsOf-push l journal 1 results rs i.right right);
      rest = rw longer at.2;
      count = grind (arith, common_steps);
      places = rw pushed (places-more results rs lane c.next.new.self.rest.items c.loop-lane.lane-iterator.rest.items lanes step (told.places done) i.places);
      as_many = omega (arith, longer, further, i.as_many);
      dials = rw joined (HaveDialled-push (λ d. g.D.Dialer.faults d) l journal 1 dialers dialer i.dials dialled);
      plans = rw joined (HavePlans-push (λ d. g.D.Dialer.plan d) l 1 dialers dialer i.plans planned);
    }
