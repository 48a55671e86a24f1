use Rattle.std.proofs.Common.{◌-◌, length, sym, ap, ◌∙◌, arith}
use Rattle.std.proofs.lemmas.List.{length-take-le}
use Rattle.dq_cache.proofs.Trimmed.{trimmed_over}
use Rattle.dq_cache.specs.Entries.{trimmed}
use Rattle.dq_machine.specs.State.{Shelved}
use Rattle.dq_machine.proofs.landing.trim.Goals as goal

pub loop-dropped-preserved : goal.loop-dropped-preserved
loop-dropped-preserved c =
    let shelf = c.loop-dropped.shelf in
    let less = c.drop_last.ensures.shelf in
    let over = sym c.is_over.ensures ∙ c.if-not-is_over.false in (
      ap (trimmed (λ (e : Shelved). e.weight) c.args.bound) less ∙ sym (trimmed_over (λ (e : Shelved). e.weight) c.args.bound shelf over) ∙ c.loop-dropped.invariant.0,
      omega (arith, ap length less, length-take-le (length shelf - 1) shelf (omega arith), c.loop-dropped.invariant.1),
      omega (arith, c.drop_last.ensures.weight, c.from-weight.ensures, c.loop-dropped.invariant.2),
    )
