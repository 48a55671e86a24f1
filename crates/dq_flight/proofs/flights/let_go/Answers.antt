use Rattle.std.proofs.Common.{◌≡◌, ap, ◌∙◌, sym, [], ◌∷◌, ◌-◌, true, false}
use Rattle.dq_flight.specs.Flights.{FlightOf, is_numbered, taken, runs}
use Rattle.dq_flight.proofs.Made.{taken_running, taken_out, taken_kept}
use Rattle.dq_flight.proofs.Replacing.{one_item, replaced_same, replaced_by, replaced_out}
use Rattle.dq_flight.proofs.flights.let_go.Goals as goal

pub returns-then-is_running-clause-items : goal.returns-then-is_running-clause-items
returns-then-is_running-clause-items c =
    let test = is_numbered c.args.number in
    let xs = c.args.flights.now.items in
    let f = c.index.result.now in
    let run : runs f.course ≡ true = sym c.is_running.ensures ∙ c.if-is_running.true in
    replaced_same test taken xs c.args.place f c.requires (ap taken (sym c.index.ensures) ∙ taken_running f run ∙ ap (λ (h : FlightOf). h ∷ []) c.index.ensures)

pub returns-then-joiners-eq0-clause-items : goal.returns-then-joiners-eq0-clause-items
returns-then-joiners-eq0-clause-items c =
    let test = is_numbered c.args.number in
    let xs = c.args.flights.now.items in
    let f = c.index.result.now in
    let g = c.index-2.result.now in
    let run : runs f.course ≡ false = sym c.is_running.ensures ∙ c.if-is_running.false in
    let same : f ≡ g = one_item test xs c.args.place f g c.requires c.index.ensures c.index-2.ensures in
    let none : f.joiners - 1 ≡ 0 = ap (λ (h : FlightOf). h.joiners - 1) same ∙ ap (λ n. n - 1) (sym c.joiners.ensures) ∙ sym c.saturating_sub-joiners.ensures ∙ c.if-joiners-eq0.true in
    c.remove.ensures.items ∙ replaced_out test taken xs c.args.place f c.requires (ap taken (sym c.index.ensures) ∙ taken_out f run none)

pub returns-clause-items : goal.returns-clause-items
returns-clause-items c =
    let test = is_numbered c.args.number in
    let xs = c.args.flights.now.items in
    let f = c.index.result.now in
    let g = c.index-2.result.now in
    let h = c.index_mut.result.now in
    let run : runs f.course ≡ false = sym c.is_running.ensures ∙ c.if-is_running.false in
    let same : f ≡ g = one_item test xs c.args.place f g c.requires c.index.ensures c.index-2.ensures in
    let last : f ≡ h = one_item test xs c.args.place f h c.requires c.index.ensures c.index_mut.ensures.value in
    let left : f.joiners - 1 ≡ c.saturating_sub-joiners.result = ap (λ (k : FlightOf). k.joiners - 1) same ∙ ap (λ n. n - 1) (sym c.joiners.ensures) ∙ sym c.saturating_sub-joiners.ensures in
    let more : f.joiners - 1 ≡ 0 → ⊥ = λ e. c.if-joiners-eq0.false (sym left ∙ e) in
    replaced_by test taken xs c.args.place c.set_joiners.new.self f c.requires
    (ap taken (sym c.index.ensures) ∙ taken_kept f run more ∙ ap (λ n. record f { joiners = n } ∷ []) left ∙ ap (λ (k : FlightOf). record k { joiners = c.saturating_sub-joiners.result } ∷ []) last ∙ ap (λ (k : FlightOf). k ∷ []) (sym c.set_joiners.ensures))
