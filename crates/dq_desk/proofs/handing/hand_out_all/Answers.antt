use Rattle.std.proofs.Common.{◌≡◌, ◌∙◌, ◌<◌, ◌≤◌, ℕ, List, [], ◌∷◌, ◌++◌, ap, sym, subst, arith, find, length, map, take}
use Rattle.std.proofs.lemmas.List.{length-map}
use Rattle.std.specs.Arc.{arc_value}
use Rattle.std.specs.List.{AllByRecursion}
use Rattle.std.specs.Prelude.{slice_get}
use Rattle.dq_base.specs.declared.query.Query.{Query}
use Rattle.dq_cache.specs.Entries.{fits, has_body, to_front}
use Rattle.dq_text.specs.Sizes.{IsSizedQuery}
use Rattle.dq_text.specs.Statements.{body}
use Rattle.dq_desk.specs.Handed.{AreHandedOut, looked_in}
use Rattle.dq_desk.specs.Plans.{HandsOut, literal_left, stamp_of}
use Rattle.dq_desk.proofs.Growing.{all_at, length_read, made_at, read_more, take_whole}
use Rattle.dq_desk.proofs.Handed.{handed_more}
use Rattle.dq_desk.proofs.handing.hand_out_all.Goals as goal

pub loop-place-preserved : goal.loop-place-preserved
loop-place-preserved c =
    let at = c.loop-place in
    let items = c.as_slice-q-items.result.now in
    let i = at.place in
    let x = c.q-item.result in
    let lt : i < length items = omega arith in
    let read : List Query = map arc_value (take i items) in
    let es = at.clever.entries in
    let bs = at.literal.entries in
    let stamp = c.stamp_at-stamp.result in
    let text = c.text_at.result.now in
    let out = c.hand_out-one.result in
    let other = c.other_at.result in
    let stamps = c.args.stamps.now in
    let q : c.query.result.now ≡ arc_value x = c.query.ensures.same ∙ c.deref.ensures in
    let k : c.deref-in-loop-place.result.now ≡ arc_value x = c.deref-in-loop-place.ensures in
    let texts : c.args.texts.now ≡ map body (map arc_value items) = c.requires.texts ∙ ap (map body) (sym at.invariant.items) in
    let t : text ≡ body (arc_value x) = made_at arc_value body items i x text lt c.q-item.is (ap (λ ts. slice_get ts i) (sym texts) ∙ c.text_at.ensures) in
    let S : List Query → Type 0 = λ qs. AllByRecursion IsSizedQuery qs in
    let sized : IsSizedQuery (arc_value x) = all_at arc_value IsSizedQuery items i x lt c.q-item.is (subst S (sym at.invariant.items) c.requires.sized) in
    let P : Query → Type 0 = λ z. HandsOut (find (fits stamp z) es) (find (has_body stamp text) bs) other out in
    let Q : List ℕ → Type 0 = λ w. HandsOut (find (fits stamp (arc_value x)) es) (find (has_body stamp w) bs) other out in
    let handed : HandsOut (find (fits stamp (arc_value x)) es) (find (has_body stamp (body (arc_value x))) bs) other out = subst Q t (subst P k c.hand_out-one.ensures.out) in
    let left : literal_left (find (fits stamp c.deref-in-loop-place.result.now) es) stamp text bs ≡ literal_left (find (fits stamp (arc_value x)) es) stamp (body (arc_value x)) bs =
    λ j. literal_left (find (fits stamp (k j)) es) stamp (t j) bs in
    let long : length read ≡ i = length-map (take i items) arc_value ∙ length_read items i lt in
    record {
      handed = λ schemas versions flown latest clever literal.
          let R : List Query → Type 0 = λ qs. AreHandedOut schemas versions qs (looked_in flown versions c.args.clever.now c.args.literal.now qs) c.args.clever.now c.hand_out-one.new.clever c.args.literal.now c.hand_out-one.new.literal c.args.otherwise.now c.push.new.self.items c.push-in-loop-place-2.new.self.items in
          subst R (read_more arc_value items i x lt c.q-item.is)
          (handed_more schemas versions flown c.args.clever.now c.args.literal.now c.args.otherwise.now read (arc_value x) at.clever c.hand_out-one.new.clever at.literal c.hand_out-one.new.literal
          at.met.items c.push.new.self.items at.held.items c.push-in-loop-place-2.new.self.items stamp other out.0 out.1
          (c.stamp_at-stamp.ensures ∙ ap (λ (z : Query). stamp_of stamps z.source) q ∙ latest.each (arc_value x).source) sized
          (at.invariant.handed schemas versions flown latest clever literal)
          (ap (slice_get c.args.otherwise.now) long ∙ c.other_at.ensures)
          handed
          (c.hand_out-one.ensures.clever ∙ ap (λ (z : Query). to_front (fits stamp z) es) k) c.hand_out-one.ensures.clever_bound
          (c.hand_out-one.ensures.literal ∙ left) c.hand_out-one.ensures.literal_bound
          c.push.ensures.items c.push-in-loop-place-2.ensures.items);
      again = c.push-in-loop-place.ensures.items ∙ ap (λ ms. ms ++ out.0 ∷ []) at.invariant.again ∙ sym c.push.ensures.items;
      items = at.invariant.items;
      met_room = omega (arith, at.invariant.met_room, c.push.ensures.spare);
      again_room = omega (arith, at.invariant.again_room, c.push-in-loop-place.ensures.spare);
      held_room = omega (arith, at.invariant.held_room, c.push-in-loop-place-2.ensures.spare);
    }

pub returns-clause-handed : goal.returns-clause-handed
returns-clause-handed c = λ schemas versions flown latest clever literal.
    let at = c.loop-place in
    let items = c.as_slice-q-items.result.now in
    let le : length items ≤ at.place = omega arith in
    let R : List Query → Type 0 = λ qs. AreHandedOut schemas versions qs (looked_in flown versions c.args.clever.now c.args.literal.now qs) c.args.clever.now at.clever c.args.literal.now at.literal c.args.otherwise.now at.met.items at.held.items in
    subst R (ap (map arc_value) (take_whole items at.place le) ∙ at.invariant.items) (at.invariant.handed schemas versions flown latest clever literal)
