use Rattle.std.proofs.Common.{rules, ◌≡◌, ◌^◌, true, [], ap, ◌∙◌, map}
use Rattle.std.specs.BTreeMap.{insert_entry}
use Rattle.dq_base.specs.Answers.{key_of}
use Rattle.dq_base.specs.Filters.{keeps}
use Rattle.dq_base.specs.Orders.{key_cmp}
use Rattle.dq_fold.specs.Tallies.{added, tally_of}
use Rattle.dq_fold.proofs.Grouped.{found_small, groups_push}
use Rattle.dq_fold.proofs.fold.add_to_groups.Goals as goal

pub add_row-requires : goal.add_row-requires
add_row-requires c = λ ts e. found_small c.args.q.now c.requires.groups.0 (2 ^ 23) c.args.groups.now c.fill.new.buffer ts c.requires.groups.2 c.requires.groups.1 e

pub returns : goal.returns
returns c = λ rows e.
    let keep : keeps c.args.q.now c.args.row.now ≡ true = search rules in
    groups_push c.args.q.now rows c.args.row.now c.fill.new.buffer c.args.groups.now c.add_row.new.groups keep
    (c.in_ok-fill.ensures ∙ ap (λ dims. key_of dims c.args.row.now) c.as_slice.ensures) e
    (record {
      there = c.in_ok-add_row.ensures.there;
      absent = λ n. c.in_ok-add_row.ensures.absent n ∙ ap (λ ms. insert_entry key_cmp c.args.groups.now c.fill.new.buffer (map (added c.args.row.now) (map (tally_of []) ms))) c.as_slice-2.ensures;
    })
