use Rattle.std.proofs.Common.{◌≡◌, ℕ, true, false, List, Option, Some, None, ◌<◌, ◌≤◌, length, sym, ◌∙◌, is_some, IfSome, slice_index_or}
use Rattle.std.proofs.Math.Dec.{ltb}
use Rattle.std.proofs.lemmas.Bool.{ltb-false, ltb-true}
use Rattle.std.proofs.lemmas.Grind.{get_or_default_zero}
use Rattle.std.proofs.lemmas.List.{get_or_past}
use Rattle.std.specs.Borrow.{Bor}
use Rattle.std.specs.Option.{option_copied, unwrap_or}
use Rattle.dq_machine.proofs.versions.Versions.stamp.Goals as goal

-- an item that is copied, or 0 behind the list
copied_or_zero : (found : Option (Bor ℕ)) (xs : List ℕ) (k : ℕ) → is_some found ≡ ltb k (length xs) → IfSome found (λ x. x.now ≡ slice_index_or xs k x.now) → unwrap_or (option_copied found) 0 ≡ slice_index_or xs k 0
copied_or_zero None xs k there is = sym (get_or_past xs k 0 (ltb-false k (length xs) (sym there)))
copied_or_zero (Some x) xs k there is = is ∙ get_or_default_zero xs k x.now (ltb-true k (length xs) (sym there))

pub returns : goal.returns
returns c =
    let copied = copied_or_zero c.get.result c.deref.result.now c.args.source c.get.ensures.lookup.0 c.get.ensures.lookup.1 in
    let latest : unwrap_or (option_copied c.get.result) 0 ≡ slice_index_or c.self.inside.latest.items c.args.source 0 = rw (← c.deref.ensures.value) copied in
    rw (c.unwrap_or.ensures, c.copied.ensures, ← c.self.view_is) (latest ∙ c.self.invariant.each c.args.source)
