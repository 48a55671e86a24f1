-- The links of a pair of zones.
use Rattle.std.proofs.Common.{◌≡◌, ℕ, suc, ◌+◌, ◌<◌, ◌≤◌, List, [], ◌∷◌, ◌++◌, Bool, true, false, length, map, Option, Some, None, refl, ap, sym, ◌∙◌, subst, arith, length-append}
use Rattle.std.specs.Prelude.{◌&&◌, cond, nat_lt, nat_le, nat_eq, option_map, Ok, codes}
use Rattle.std.specs.Fmt.{decimal}
use Rattle.std.specs.List.{list_all, position_from}
use Rattle.std.proofs.lemmas.Bool.{le-leb, lt-ltb, eq-eqb}
use Rattle.std.proofs.lemmas.List.{length-map}
use Rattle.std.proofs.lemmas.Option.{same_Some}
use Rattle.serde_json.specs.Data.{Data}
use Rattle.dq_base.specs.Blends.{links_fit}
use Rattle.dq_script.proofs.Chains.{and_then_ok, mapped_ok, within_ok, provided_ok, given_ok, both_first, both_second, same_Ok, object-made, wanted-made}
use Rattle.dq_script.proofs.Numbers.{both_hold, all-with, all-weaker}
use Rattle.dq_script.specs.Batches.{key_of, key_cmp, link_of, links_of, links_between, with_links, pair_parts, pair_of, blend_of}
use Rattle.dq_script.specs.Objects.{wanted}
use Rattle.dq_script.specs.Parts.{two_items}
use Rattle.dq_script.specs.Readings.{Reading, given, within, mapped, and_then, both}
use Rattle.dq_script.specs.Zones.{zone_with, zone_over, asked_of, columns_at, source_in, zone_of}
use Rattle.dq_script.specs.declared.dims.Grouping.{Grouping}
use Rattle.dq_script.specs.declared.extracts.Extracts.{Extracts}
use Rattle.dq_script.specs.declared.zone.Zone.{Zone}

-- a place from 1, of so many
abbrev pub is_place : ℕ → ℕ → Bool
is_place most link = nat_lt 0 link && nat_le link most

found-within : (b : Bool) (i : ℕ) (o : Option ℕ) (n most : ℕ) → cond b (Some i) o ≡ Some n → i < most → (o ≡ Some n → n < most) → n < most
found-within true i o n most e here rest = let same : i ≡ n = same_Some i n e in omega arith
found-within false i o n most e here rest = rest e

position-within : {A : Type 0} (p : A → Bool) (i : ℕ) (xs : List A) (n : ℕ) → position_from p i xs ≡ Some n → n < i + length xs
position-within p i [] n e = absurd (cc e)
position-within p i (x ∷ xs) n e =
    found-within (p x) i (position_from p (i + 1) xs) n (i + suc (length xs)) e (omega arith)
    (λ f. let more : n < i + 1 + length xs = position-within p (i + 1) xs n f in omega arith)

mapped-some : {A B P : Type 0} (f : A → B) (o : Option A) (y : B) → option_map f o ≡ Some y → ((x : A) → o ≡ Some x → f x ≡ y → P) → P
mapped-some f None y e go = absurd (cc e)
mapped-some f (Some x) y e go = go x refl (same_Some (f x) y e)

link-place : (keys : List (List ℕ × ℕ)) (g : Grouping) (link : ℕ) → link_of keys g ≡ Some link → is_place (length keys) link ≡ true
link-place keys g link e = mapped-some (λ place. place + 1) _ link e (λ place found is.
    let small : place < 0 + length keys = position-within _ 0 keys place found in
    both_hold (nat_lt 0 link) (nat_le link (length keys)) (lt-ltb 0 link (omega arith)) (le-leb link (length keys) (omega arith)))

-- as many links as dimensions, each of them a place
pub record AreLinks (most count : ℕ) (links : List ℕ) : Type 0 where
  pub count_is : length links ≡ count
  pub places : list_all (is_place most) links ≡ true

links-so : (keys : List (List ℕ × ℕ)) (place : ℕ) (done : List ℕ) (gs : List Grouping) (links : List ℕ) (count : ℕ)
    → links_of keys place done gs ≡ Ok links → list_all (is_place (length keys)) done ≡ true → length done + length gs ≡ count → AreLinks (length keys) count links
links-so keys place done [] links count e all size =
    let is : length done ≡ count = omega arith in
    subst (AreLinks (length keys) count) (same_Ok done links e) record { count_is = is; places = all }
links-so keys place done (g ∷ gs) links count e all size = and_then_ok _ (within (decimal place) (given (link_of keys g))) links e (λ link found more.
    let longer : length (done ++ link ∷ []) ≡ length done + 1 = length-append done (link ∷ []) in
    let here : link_of keys g ≡ Some link = given_ok (link_of keys g) link (within_ok (decimal place) (given (link_of keys g)) link found) in
    let rest : length (done ++ link ∷ []) + length gs ≡ count = omega arith in
    links-so keys (place + 1) (done ++ link ∷ []) gs links count more (all-with (is_place (length keys)) done link all (link-place keys g link here)) rest)

-- a zone's query has the dimensions that are written
pub record HasDims (z : Zone) : Type 0 where
  pub dims : length z.query.dims ≡ length z.by

abbrev zone_names : List (List ℕ)
zone_names = codes "source" ∷ codes "filters" ∷ codes "by" ∷ codes "show" ∷ codes "order" ∷ codes "top" ∷ []

zone-dims : (es : Extracts) (d : Data) (z : Zone) → zone_of es d ≡ Ok z → HasDims z
zone-dims es d z e = object-made HasDims zone_names (and_then (zone_over es d) (wanted (codes "source") (source_in es) d)) d z e (λ x parts.
    and_then_ok (zone_over es d) (wanted (codes "source") (source_in es) d) x parts (λ source found over.
    mapped_ok (zone_with source) (asked_of (columns_at es.schemas source) d) x over (λ p asked made.
    subst HasDims made record { dims = length-map p.0.1 (λ g. g.dim) })))

pub record IsLinked (p : (Zone × Zone) × List ℕ) : Type 0 where
  pub fit : links_fit p.1 (Some p.0.0.query) (Some p.0.1.query) ≡ true

links-fit : (first second : Zone) (links : List ℕ) → length first.query.dims ≡ length first.by → length second.query.dims ≡ length second.by
    → links_between (first, second) ≡ Ok links → links_fit links (Some first.query) (Some second.query) ≡ true
links-fit first second links a b e =
    let read : links_of (map key_of first.by) 0 [] second.by ≡ Ok links =
    within_ok (codes "by") (links_of (map key_of first.by) 0 [] second.by) links (within_ok (codes "1") (within (codes "by") (links_of (map key_of first.by) 0 [] second.by)) links e) in
    let so : AreLinks (length (map key_of first.by)) (length second.by) links = links-so (map key_of first.by) 0 [] second.by links (length second.by) read refl (omega arith) in
    let keys : length (map key_of first.by) ≡ length first.query.dims = length-map first.by key_of ∙ sym a in
    let P : ℕ → Type 0 = λ n. list_all (is_place n) links ≡ true in
    both_hold (nat_eq (length links) (length second.query.dims)) (list_all (is_place (length first.query.dims)) links)
    (eq-eqb (length links) (length second.query.dims) (so.count_is ∙ sym b)) (subst P keys so.places)

abbrev two_zones : Extracts → Data × Data → Reading (Zone × Zone)
two_zones es d = both (within (codes "0") (zone_of es d.0)) (within (codes "1") (zone_of es d.1))

pair-linked : (es : Extracts) (d : Data × Data) (p : (Zone × Zone) × List ℕ) → pair_parts es d ≡ Ok p → IsLinked p
pair-linked es d p e = and_then_ok with_links (two_zones es d) p e (λ z zones linked. mapped_ok (λ links. (z, links)) (links_between z) p linked (λ links found made.
    let a : HasDims z.0 = zone-dims es d.0 z.0 (within_ok (codes "0") (zone_of es d.0) z.0 (both_first (within (codes "0") (zone_of es d.0)) (within (codes "1") (zone_of es d.1)) z zones)) in
    let b : HasDims z.1 = zone-dims es d.1 z.1 (within_ok (codes "1") (zone_of es d.1) z.1 (both_second (within (codes "0") (zone_of es d.0)) (within (codes "1") (zone_of es d.1)) z zones)) in
    subst IsLinked made record { fit = links-fit z.0 z.1 links a.dims b.dims found }))

-- a blend that was read has a link for each dimension of its second zone
pub blend-linked : (es : Extracts) (d : Data) (p : (Zone × Zone) × List ℕ) → blend_of es d ≡ Ok p → IsLinked p
blend-linked es d p e = object-made IsLinked (codes "blend" ∷ []) (wanted (codes "blend") (pair_of es) d) d p e (λ x parts. wanted-made IsLinked (codes "blend") (pair_of es) d x parts (λ y pair.
    and_then_ok (pair_parts es) (given (two_items y)) x pair (λ q two linked. pair-linked es q x linked)))
