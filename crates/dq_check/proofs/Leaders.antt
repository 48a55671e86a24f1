-- The zone from which another is computed is valid, has the same fate, and is itself computed from none.
use Rattle.std.proofs.Common.{◌≡◌, ℕ, zero, suc, ◌+◌, Bool, true, false, List, [], ◌∷◌, length, map, refl, sym, ap, ◌∙◌, subst, arith}
use Rattle.std.specs.Prelude.{Option, Some, None, slice_get, MatchOption, is_none, unwrap_or, if◌then◌else◌}
use Rattle.std.specs.List.{enumerate_from, filter}
use Rattle.dq_base.specs.Batches.{roles}
use Rattle.dq_base.specs.Canonical.{canonical}
use Rattle.dq_base.specs.Headings.{Heading}
use Rattle.dq_base.specs.Validity.{invalid_by}
use Rattle.dq_base.specs.declared.canon.Role.{Role}
use Rattle.dq_base.specs.declared.canon.Role.TheVariants.{Remote, Local}
use Rattle.dq_base.specs.declared.invalid.Invalid.{Invalid}
use Rattle.dq_base.specs.declared.query.Query.{Query}
use Rattle.dq_graph.proofs.Sources.{sources_right}
use Rattle.dq_journal.specs.Standing.{Rows}
use Rattle.dq_journal.specs.declared.entry.Entry.{Entry}
use Rattle.dq_journal.specs.declared.entry.Met.{Met}
use Rattle.dq_machine.specs.Owning.{Fate, Origin, fate, no_origin, origin_of, origins_met, over_zones, own_flights, spread, valid_origins, valid_places}
use Rattle.dq_machine.specs.Preparing.{canons_of, is_valid}
use Rattle.dq_check.specs.Dues.{DueOf, HaveLeaders, HasLeader, IsLeader, due_of, dues_of, refused_due}

none_is : (o : Option Invalid) → is_none o ≡ true → o ≡ None
none_is None e = refl
none_is (Some x) e = cc

-- lists

item_of : {X : Type 0} (n : ℕ) (g : ℕ × Role → X) (rs : List Role) (i : ℕ) (x : X)
    → slice_get (map g (enumerate_from n rs)) i ≡ Some x → (r : Role) × (slice_get rs i ≡ Some r) × (g (n + i, r) ≡ x)
item_of n g [] i x h = cc
item_of n g (r ∷ rs) zero x h =
    let z : n ≡ n + 0 = omega arith in
    let e : g (n, r) ≡ x = cc in (r, refl, ap (λ k. g (k, r)) (sym z) ∙ e)
item_of n g (r ∷ rs) (suc i) x h =
    let s : n + suc i ≡ n + 1 + i = omega arith in
    let w = item_of (n + 1) g rs i x h in (w.0, w.1, ap (λ k. g (k, w.0)) s ∙ w.2)

of_item : {X : Type 0} (n : ℕ) (g : ℕ × Role → X) (rs : List Role) (i : ℕ) (r : Role)
    → slice_get rs i ≡ Some r → slice_get (map g (enumerate_from n rs)) i ≡ Some (g (n + i, r))
of_item n g [] i r h = cc
of_item n g (s ∷ rs) zero r h =
    let z : n ≡ n + 0 = omega arith in
    let e : s ≡ r = cc in (λ j. Some (g (z j, e j)))
of_item n g (s ∷ rs) (suc i) r h =
    let e : n + 1 + i ≡ n + suc i = omega arith in
    of_item (n + 1) g rs i r h ∙ ap (λ k. Some (g (k, r))) e

-- zones

long_by : (b : Bool) (o : Origin) (first second : List Origin) (n : ℕ) → length first ≡ n → length second ≡ n → length (if b then o ∷ first else no_origin ∷ second) ≡ suc n
long_by true o first second n p q = ap suc p
long_by false o first second n p q = ap suc q

-- one origin for each zone
pub long_over : (schemas : List Heading) (zones : List Query) (origins : List Origin) → length (over_zones schemas zones origins) ≡ length zones
long_over schemas [] origins = refl
long_over schemas (q ∷ zones) [] = ap suc (long_over schemas zones [])
long_over schemas (q ∷ zones) (o ∷ origins) =
    long_by (is_valid schemas q) o (over_zones schemas zones origins) (over_zones schemas zones (o ∷ origins)) (length zones) (long_over schemas zones origins) (long_over schemas zones (o ∷ origins))

-- the zone at that place, where these are counted from there, is valid and has this origin
record IsPlaced (schemas : List Heading) (rows : ℕ → Rows) (journal : List Entry) (dues : List DueOf) (from place : ℕ) (o : Origin) : Type 0 where
  zone : ℕ
  query : Query
  place_is : place ≡ from + zone
  valid : is_valid schemas query ≡ true
  due : slice_get dues zone ≡ Some (due_of schemas rows journal query o)

placed_on : (schemas : List Heading) (rows : ℕ → Rows) (journal : List Entry) (d : DueOf) (dues : List DueOf) (from place : ℕ) (o : Origin)
    → IsPlaced schemas rows journal dues (from + 1) place o → IsPlaced schemas rows journal (d ∷ dues) from place o
placed_on schemas rows journal d dues from place o p =
    let next : from + 1 + p.zone ≡ from + suc p.zone = omega arith in
    record { zone = suc p.zone; query = p.query; place_is = p.place_is ∙ next; valid = p.valid; due = p.due }

placed_by : (schemas : List Heading) (rows : ℕ → Rows) (journal : List Entry) (q : Query) (first : Origin) (zones : List Query) (origins : List Origin) (from i place : ℕ) (o : Origin) (b : Bool)
    → is_valid schemas q ≡ b
    → ((os : List Origin) (k : ℕ) → slice_get (valid_places schemas (from + 1) zones) k ≡ Some place → slice_get os k ≡ Some o
    → IsPlaced schemas rows journal (dues_of schemas rows journal zones (over_zones schemas zones os)) (from + 1) place o)
    → slice_get (if b then from ∷ valid_places schemas (from + 1) zones else valid_places schemas (from + 1) zones) i ≡ Some place
    → slice_get (first ∷ origins) i ≡ Some o
    → IsPlaced schemas rows journal (dues_of schemas rows journal (q ∷ zones) (if b then first ∷ over_zones schemas zones origins else no_origin ∷ over_zones schemas zones (first ∷ origins))) from place o
placed_by schemas rows journal q first zones origins from zero place o true e later at is =
    let here : from ≡ place = cc in
    let same : first ≡ o = cc in
    let z : from ≡ from + 0 = omega arith in
    let One : Origin → Option DueOf = λ x. Some (due_of schemas rows journal q x) in
    record { zone = 0; query = q; place_is = sym here ∙ z; valid = e; due = ap One same }
placed_by schemas rows journal q first zones origins from (suc i) place o true e later at is =
    placed_on schemas rows journal (due_of schemas rows journal q first) (dues_of schemas rows journal zones (over_zones schemas zones origins)) from place o (later origins i at is)
placed_by schemas rows journal q first zones origins from i place o false e later at is =
    placed_on schemas rows journal (due_of schemas rows journal q no_origin) (dues_of schemas rows journal zones (over_zones schemas zones (first ∷ origins))) from place o
    (later (first ∷ origins) i at is)

placed : (schemas : List Heading) (rows : ℕ → Rows) (journal : List Entry) (zones : List Query) (origins : List Origin) (from i place : ℕ) (o : Origin)
    → slice_get (valid_places schemas from zones) i ≡ Some place → slice_get origins i ≡ Some o
    → IsPlaced schemas rows journal (dues_of schemas rows journal zones (over_zones schemas zones origins)) from place o
placed schemas rows journal [] origins from i place o at is = cc
placed schemas rows journal (q ∷ zones) [] from i place o at is = cc
placed schemas rows journal (q ∷ zones) (first ∷ origins) from i place o at is =
    placed_by schemas rows journal q first zones origins from i place o (is_valid schemas q) refl
    (λ os k there has. placed schemas rows journal zones os (from + 1) k place o there has) at is

-- leaders

-- a valid zone of this origin has a leader, if any
abbrev Leads : List Heading → (ℕ → Rows) → List Entry → List DueOf → Origin → Type 0
Leads schemas rows journal all o = (q : Query) → is_valid schemas q ≡ true → HasLeader all (due_of schemas rows journal q o)

all_lead : (schemas : List Heading) (rows : ℕ → Rows) (journal : List Entry) (all : List DueOf) (zones : List Query) (origins : List Origin)
    → ((i : ℕ) (o : Origin) → slice_get origins i ≡ Some o → Leads schemas rows journal all o)
    → HaveLeaders all (dues_of schemas rows journal zones (over_zones schemas zones origins))
all_lead schemas rows journal all [] origins lead = tt
all_lead schemas rows journal all (q ∷ zones) [] lead = (tt, all_lead schemas rows journal all zones [] lead)
all_lead schemas rows journal all (q ∷ zones) (first ∷ origins) lead =
    lead_by schemas rows journal all q first zones origins (is_valid schemas q) (λ e. lead 0 first refl q e)
    (all_lead schemas rows journal all zones origins (λ i o is. lead (suc i) o is)) (all_lead schemas rows journal all zones (first ∷ origins) lead)
  where
    lead_by : (schemas : List Heading) (rows : ℕ → Rows) (journal : List Entry) (all : List DueOf) (q : Query) (first : Origin) (zones : List Query) (origins : List Origin) (b : Bool)
        → (b ≡ true → HasLeader all (due_of schemas rows journal q first))
        → HaveLeaders all (dues_of schemas rows journal zones (over_zones schemas zones origins))
        → HaveLeaders all (dues_of schemas rows journal zones (over_zones schemas zones (first ∷ origins)))
        → HaveLeaders all (dues_of schemas rows journal (q ∷ zones) (if b then first ∷ over_zones schemas zones origins else no_origin ∷ over_zones schemas zones (first ∷ origins)))
    lead_by schemas rows journal all q first zones origins true here more less = (here refl, more)
    lead_by schemas rows journal all q first zones origins false here more less = (tt, less)

-- by the place of the leader, which has an origin of its own
led_to : (schemas : List Heading) (rows : ℕ → Rows) (journal : List Entry) (zones : List Query) (origins : List Origin) (source : ℕ) (own other : Option ℕ) (leader : Option ℕ) (q : Query)
    → slice_get (valid_places schemas 0 zones) source ≡ leader → slice_get origins source ≡ Some (record { own = other; leader = None }) → other ≡ own → is_valid schemas q ≡ true
    → HasLeader (dues_of schemas rows journal zones (over_zones schemas zones origins)) (due_of schemas rows journal q (record { own = own; leader = leader }))
led_to schemas rows journal zones origins source own other None q at has same valid = tt
led_to schemas rows journal zones origins source own other (Some place) q at has same valid =
    let o : Origin = record { own = other; leader = None } in
    let d = due_of schemas rows journal q (record { own = own; leader = Some place }) in
    let p = placed schemas rows journal zones origins 0 source place o at has in
    let Lead : Option DueOf → Type 0 = λ e. IsLeader d e in
    let At : ℕ → Type 0 = λ n. IsLeader d (slice_get (dues_of schemas rows journal zones (over_zones schemas zones origins)) n) in
    let z : 0 + p.zone ≡ p.zone = omega arith in
    let Fates : Option ℕ → Fate = λ f. fate journal f in
    subst At (sym (p.place_is ∙ z))
    (subst Lead (sym p.due) (none_is (invalid_by schemas q) valid, none_is (invalid_by schemas p.query) p.valid, ap Fates same, refl))

origin_leads : (schemas : List Heading) (rows : ℕ → Rows) (journal : List Entry) (zones : List Query) (owns : List (Option ℕ)) (i : ℕ) (r : Role)
    → slice_get (roles (canons_of schemas zones)) i ≡ Some r
    → Leads schemas rows journal (dues_of schemas rows journal zones (over_zones schemas zones (valid_origins (roles (canons_of schemas zones)) owns (valid_places schemas 0 zones))))
    (origin_of (spread (roles (canons_of schemas zones)) owns) (valid_places schemas 0 zones) (0 + i) r)
origin_leads schemas rows journal zones owns i Remote is q valid = tt
origin_leads schemas rows journal zones owns i (Local source) is q valid =
    let rs = roles (canons_of schemas zones) in
    let owned = spread rs owns in
    let places = valid_places schemas 0 zones in
    let Own : ℕ → Option ℕ = λ n. unwrap_or (slice_get owned n) None in
    let z : 0 + source ≡ source = omega arith in
    led_to schemas rows journal zones (valid_origins rs owns places) source (Own source) (Own (0 + source)) (slice_get places source) q refl
    (of_item 0 (λ p. origin_of owned places p.0 p.1) rs source Remote (sources_right (canons_of schemas zones) i (Local source) is).0) (ap Own z) valid

pub leaders_met : (schemas : List Heading) (rows : ℕ → Rows) (journal : List Entry) (zones : List Query) (met : List Met) (takes : List (Option ℕ))
    → HaveLeaders (dues_of schemas rows journal zones (origins_met schemas zones met takes)) (dues_of schemas rows journal zones (origins_met schemas zones met takes))
leaders_met schemas rows journal zones met takes =
    let rs = roles (canons_of schemas zones) in
    let owns = own_flights met takes in
    let places = valid_places schemas 0 zones in
    let all = dues_of schemas rows journal zones (origins_met schemas zones met takes) in
    all_lead schemas rows journal all zones (valid_origins rs owns places)
    (λ i o is. let w = item_of 0 (λ p. origin_of (spread rs owns) places p.0 p.1) rs i o is in
    let Lead : Origin → Type 0 = λ x. Leads schemas rows journal all x in
    subst Lead w.2 (origin_leads schemas rows journal zones owns i w.0 w.1))

none_lead : (schemas : List Heading) (all : List DueOf) (zones : List Query) → HaveLeaders all (map (refused_due schemas) zones)
none_lead schemas all [] = tt
none_lead schemas all (q ∷ zones) = (tt, none_lead schemas all zones)

pub leaders_refused : (schemas : List Heading) (zones : List Query) → HaveLeaders (map (refused_due schemas) zones) (map (refused_due schemas) zones)
leaders_refused schemas zones = none_lead schemas (map (refused_due schemas) zones) zones
