use Rattle.std.proofs.Common.{ap, ◌∙◌, sym, refl}
use Rattle.std.specs.Map.{values_of}
use Rattle.dq_cache.specs.Entries.{is_same}
use Rattle.dq_cache.proofs.Looked.{place_same, put_matched}
use Rattle.dq_cache.proofs.Numbers.{Picked, picked, put_picked, below_number}
use Rattle.dq_cache.proofs.clever.put.Goals as goal

pub put_again-requires-clause-there : goal.put_again-requires-clause-there
put_again-requires-clause-there c =
    let es = c.args.cache.now.entries in
    let test = is_same c.args.held.stamp c.args.held.key in
    let p : Picked test c.in-Some.number es = picked test c.in-Some.number es c.len-distinct.ensures.valid.0 (sym c.requires.at ∙ c.in-Some.is) in
    rw p.value refl

pub put_again-requires-clause-place : goal.put_again-requires-clause-place
put_again-requires-clause-place c =
    let es = c.args.cache.now.entries in
    let test = is_same c.args.held.stamp c.args.held.key in
    let p : Picked test c.in-Some.number es = picked test c.in-Some.number es c.len-distinct.ensures.valid.0 (sym c.requires.at ∙ c.in-Some.is) in
    rw p.value (place_same c.args.held.stamp c.args.held.key c.in-Some.number es p)

pub returns-in-Some-clause-below : goal.returns-in-Some-clause-below
returns-in-Some-clause-below c =
    let es = c.args.cache.now.entries in
    let test = is_same c.args.held.stamp c.args.held.key in
    c.put_again.ensures.below c.args.next.now (below_number test c.in-Some.number c.args.next.now es c.requires.below (sym c.requires.at ∙ c.in-Some.is)) c.requires.below

pub returns-in-Some-clause-list : goal.returns-in-Some-clause-list
returns-in-Some-clause-list c =
    let es = c.args.cache.now.entries in
    let test = is_same c.args.held.stamp c.args.held.key in
    let p : Picked test c.in-Some.number es = picked test c.in-Some.number es c.len-distinct.ensures.valid.0 (sym c.requires.at ∙ c.in-Some.is) in
    ap values_of c.put_again.ensures.list ∙ put_picked test c.in-Some.number c.args.held es p

pub returns-clause-list : goal.returns-clause-list
returns-clause-list c =
    let es = c.args.cache.now.entries in
    let test = is_same c.args.held.stamp c.args.held.key in
    put_matched c.put_new.result test c.args.next.now c.args.held es c.put_new.new.cache.entries (sym c.requires.at ∙ c.in_default.is) c.put_new.ensures.list
