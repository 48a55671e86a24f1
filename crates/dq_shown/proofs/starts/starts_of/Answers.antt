use Rattle.std.proofs.Common.{◌≡◌, ℕ, suc, ◌+◌, ◌-◌, ◌<◌, cond, ◌∷◌, Some, length, drop, refl, sym, ap, ◌∙◌, subst, drop-cons, add-one, arith}
use Rattle.std.proofs.lemmas.Option.{slice_get_read}
use Rattle.std.specs.BTreeMap.{is_at}
use Rattle.std.specs.Map.{lookup}
use Rattle.dq_base.specs.declared.script.Blend.{Blend}
use Rattle.dq_shown.specs.Showing.{LeadFrom, Start, start_cmp}
use Rattle.dq_shown.proofs.Beginnings.{lead_more}
use Rattle.dq_shown.proofs.starts.starts_of.Goals as goal

pub loop-place-preserved : goal.loop-place-preserved
loop-place-preserved c =
    let blends = c.as_slice-blends.result.now in
    let place : ℕ = c.loop-place.place - 1 in
    let b : Blend = c.index-blends-place.result in
    let within : place < length blends = omega (arith, c.loop-place-test.true, c.loop-place.invariant.0) in
    let next : c.loop-place.place ≡ place + 1 = omega (arith, c.loop-place-test.true) in (
      omega (arith, c.loop-place.invariant.0),
      lead_more blends place b c.loop-place.starts.entries c.insert.new.self.entries (slice_get_read blends (length blends) place b refl within c.index-blends-place.is)
          (drop-cons blends place b within ∙ ap (λ x. x ∷ drop (suc place) blends) (sym c.index-blends-place.is) ∙ ap (λ n. b ∷ drop n blends) (sym (add-one place)))
          (λ s. c.in_ok-insert.ensures.updates.0 s ∙ ap (λ (k : Start). cond (is_at (start_cmp k) s) (Some place) (lookup (is_at (start_cmp s)) c.loop-place.starts.entries)) c.start_of.ensures)
          (subst (λ n. LeadFrom n blends c.loop-place.starts.entries) next c.loop-place.invariant.1),
    )
