use Rattle.std.proofs.Common.{◌≡◌, ◌&&◌, Bool, true, false, refl, ap, sym, ◌∙◌}
use Rattle.std.specs.List.{list_all}
use Rattle.dq_base.specs.Covering.{Filled, gives, needs}
use Rattle.dq_cover.proofs.covering.gives.Goals as goal

alone : (b : Bool) → b ≡ (b && true)
alone true = refl
alone false = refl

pub returns-in-Count : goal.returns-in-Count
returns-in-Count c = c.gives_filled.ensures c.args.q.now ∙ alone _ ∙ ap (λ m. list_all (gives c.args.p.now c.args.q.now) (needs m)) (sym c.in-Count.is)

pub returns-in-Sum : goal.returns-in-Sum
returns-in-Sum c = c.gives_total.ensures c.args.q.now ∙ alone _ ∙ ap (λ m. list_all (gives c.args.p.now c.args.q.now) (needs m)) (sym c.in-Sum.is)

both : (a b : Bool) → true ≡ a → b ≡ (a && (b && true))
both true b e = alone b
both false b e = cc

stopped : (a b r : Bool) → r ≡ false → r ≡ a → r ≡ (a && b)
stopped true b r e f = cc
stopped false b r e f = e

pub returns-then-gives_total : goal.returns-then-gives_total
returns-then-gives_total c =
    c.gives_filled-then-gives_total.ensures c.args.q.now
    ∙ both _ _ (sym c.if-gives_total.true ∙ c.gives_total-in-Avg.ensures c.args.q.now)
    ∙ ap (λ m. list_all (gives c.args.p.now c.args.q.now) (needs m)) (sym c.in-Avg.is)

pub returns-else-gives_total : goal.returns-else-gives_total
returns-else-gives_total c =
    stopped _ (gives c.args.p.now c.args.q.now (Filled c.in-Avg.c) && true) _ c.if-gives_total.false (c.gives_total-in-Avg.ensures c.args.q.now)
    ∙ ap (λ m. list_all (gives c.args.p.now c.args.q.now) (needs m)) (sym c.in-Avg.is)
