use Rattle.std.proofs.Common.{◌≡◌, ◌<◌, ◌≤◌, rules, length, Some, slice_get, sym, ◌∙◌, ap, subst, true≢false}
use Rattle.std.specs.String.{string_bytes}
use Rattle.std.proofs.lemmas.Option.{slice_get_within}
use Rattle.dq_base.specs.Sets.{set_of}
use Rattle.dq_column.specs.Stored.{code_below, text_cmp}
use Rattle.dq_column.proofs.Marked.{length_map}
use Rattle.dq_column.proofs.Ranked.{all_codes, as_many, different_set, in_set, is_among, none_yet, one_more, word_at}
use Rattle.dq_column.proofs.ranks.places_of.Goals as goal

pub loop-place-init : goal.loop-place-init
loop-place-init c = search (rules, none_yet (set_of text_cmp c.args.arrivals.now) string_bytes c.as_slice.result.now)

pub unreachable-requires : goal.unreachable-requires
unreachable-requires c =
    let words = set_of text_cmp c.args.arrivals.now in
    let word = word_at string_bytes c.args.words.now words c.loop-place.place c.index-words-place.result c.requires (search rules) c.index-words-place.is in
    let same : slice_get words c.loop-place.place ≡ Some c.as_str.result.now = search (rules, word) in
    true≢false (sym (is_among c.args.arrivals.now c.loop-place.place c.as_str.result.now same) ∙ c.in_default-find.ensures)

pub item_mut-requires : goal.item_mut-requires
item_mut-requires c =
    let words = set_of text_cmp c.args.arrivals.now in
    let here : c.in-Some.arrival < length c.args.arrivals.now = slice_get_within c.args.arrivals.now c.in-Some.arrival c.as_str.result.now c.in-Some.ensures in
    let long : length c.loop-place.places ≡ length c.args.arrivals.now = ap length c.loop-place.invariant ∙ length_map (code_below words c.loop-place.place) c.args.arrivals.now in
    subst (λ n. c.in-Some.arrival < n) (sym long) here

pub loop-place-preserved : goal.loop-place-preserved
loop-place-preserved c =
    let words = set_of text_cmp c.args.arrivals.now in
    let word = word_at string_bytes c.args.words.now words c.loop-place.place c.index-words-place.result c.requires (search rules) c.index-words-place.is in
    let same : slice_get words c.loop-place.place ≡ Some c.as_str.result.now = search (rules, word) in
    search (rules, one_more words c.loop-place.place c.as_str.result.now c.args.arrivals.now c.in-Some.arrival (different_set c.args.arrivals.now) same c.as_slice.ensures.different)

pub returns : goal.returns
returns c =
    let words = set_of text_cmp c.args.arrivals.now in
    let end : length words ≤ c.loop-place.place = search (rules, as_many string_bytes c.args.words.now words c.requires) in
    c.loop-place.invariant ∙ all_codes words c.loop-place.place c.args.arrivals.now end (λ t e. in_set c.args.arrivals.now t ∙ e)
