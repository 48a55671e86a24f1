-- A draft that was read keeps what its parts ask for.
use Rattle.std.proofs.Common.{◌≡◌, ℕ, ◌+◌, ◌<◌, ◌≤◌, List, [], ◌∷◌, ◌++◌, Bool, true, length, Option, Some, None, refl, ap, sym, ◌∙◌, subst, arith, length-append}
use Rattle.std.specs.Prelude.{ℤ, pos, negsuc, nat_le, nat_lt, option_and_then, ◌&&◌, Ok, codes}
use Rattle.std.specs.List.{list_all}
use Rattle.std.proofs.lemmas.Bool.{le-leb}
use Rattle.std.proofs.lemmas.Option.{option_and_then_some, same_Some, cond_some}
use Rattle.serde_json.specs.Data.{Data, Items, no_items, item}
use Rattle.serde_json.specs.Find.{as_array, get}
use Rattle.dq_base.specs.Headings.{Heading}
use Rattle.dq_script.proofs.Chains.{first_holds, and_then_ok, mapped_ok, within_ok, provided_ok, given_ok, both_first, both_second, same_Ok, kept-after, array-made, object-made, wanted-made, optional-made}
use Rattle.dq_script.proofs.Numbers.{all-with}
use Rattle.dq_script.proofs.Paired.{AreLanes, lanes-paired}
use Rattle.dq_base.specs.declared.predicate.Predicate.{Predicate}
use Rattle.dq_script.specs.Arrays.{next_item, items_after, array_after, array_of}
use Rattle.dq_script.specs.Columns.{column_of, with_column, next_column, no_columns, heading_with, columns_of, extract_of, extract_with, with_extract, next_extract, no_extracts, extracts_of, known}
use Rattle.dq_script.specs.Drafts.{usual_capacity, capacity_of, plan_with, plan_of, draft_with, draft_over, draft_in, draft_parts, members_of, without_strangers, draft_of}
use Rattle.dq_script.specs.Faults.{whole_from, numbers_of, faults_of}
use Rattle.dq_script.specs.Filters.{filter_of}
use Rattle.dq_script.specs.Forms.{form_of}
use Rattle.dq_script.specs.Objects.{is_object, no_strangers, optional, wanted}
use Rattle.dq_script.specs.Parts.{between, number_of, whole_of, most_whole, some, some_items, new_name, place_in}
use Rattle.dq_script.specs.Readings.{Reading, given, within, mapped, and_then, both}
use Rattle.dq_script.specs.Sessions.{new_source, filtered_with, filters_over, source_parts, session_of, with_session, next_session, no_sessions, sessions_of, sessions_in}
use Rattle.dq_script.specs.Steps.{lanes_of}
use Rattle.dq_script.specs.Zones.{columns_at}
use Rattle.dq_script.specs.declared.columns.Column.{Column}
use Rattle.dq_script.specs.declared.columns.Columns.{Columns}
use Rattle.dq_script.specs.declared.draft.Draft.{Draft}
use Rattle.dq_script.specs.declared.draft.Plan.{Plan}
use Rattle.dq_script.specs.declared.extracts.Extract.{Extract}
use Rattle.dq_script.specs.declared.extracts.Extracts.{Extracts}
use Rattle.dq_script.specs.declared.faults.Fault.{Fault}
use Rattle.dq_script.specs.declared.form.Form.{Form}
use Rattle.dq_script.specs.declared.form.Form.TheVariants as form
use Rattle.dq_script.specs.declared.sessions.Filtered.{Filtered}
use Rattle.dq_script.specs.declared.sessions.Sessions.{Sessions}
use Rattle.dq_script.specs.declared.step.Lanes.{Lanes}

-- columns and extracts

-- an extract has a column
abbrev pub has_columns : Heading → Bool
has_columns h = nat_lt 0 (length h.names)

pub record HasColumns (cs : Columns) : Type 0 where
  pub some : 0 < length cs.names

next-has : (cs t : Columns) (d : Data) → next_column cs d ≡ Ok t → 0 ≤ length cs.names → HasColumns t
next-has cs t d e start = mapped_ok (with_column cs) (column_of cs.names d) t e (λ c found made.
    let longer : length (cs.names ++ c.name ∷ []) ≡ length cs.names + 1 = length-append cs.names (c.name ∷ []) in
    subst HasColumns made record { some = omega arith })

columns-some : (ds es : Items) (t : Columns) → some ds ≡ Some es → items_after next_column 0 no_columns es ≡ Ok t → HasColumns t
columns-some no_items es t is e = absurd (cc is)
columns-some (item d ds) es t is e =
    let P : Items → Type 0 = λ xs. items_after next_column 0 no_columns xs ≡ Ok t in
    let from : items_after next_column 0 no_columns (item d ds) ≡ Ok t = subst P (sym (same_Some (item d ds) es is)) e in
    and_then_ok _ (within _ (next_column no_columns d)) t from (λ u one more.
    kept-after HasColumns next_column (λ s v x next has. next-has s v x next (omega arith)) ds _ u t more (next-has no_columns u d (within_ok _ (next_column no_columns d) u one) (omega arith)))

columns_of-some : (d : Data) (h : Heading) → columns_of d ≡ Ok h → has_columns h ≡ true
columns_of-some d h e = mapped_ok heading_with _ h e (λ cs read made. and_then_ok (items_after next_column 0 no_columns) (given (some_items d)) cs read (λ es found more.
    option_and_then_some some (as_array d) es (given_ok (some_items d) es found) (λ ds array is.
    let has : HasColumns cs = columns-some ds es cs is more in
    let P : Heading → Type 0 = λ x. has_columns x ≡ true in
    let here : 0 < length cs.names = has.some in
    subst P made (le-leb 1 (length cs.names) here))))

pub record IsFull (e : Extract) : Type 0 where
  pub full : has_columns e.schema ≡ true

abbrev extract_parts : List (List ℕ) → Data → Reading (List ℕ × Heading)
extract_parts earlier d = both (wanted (codes "name") (λ n. given (new_name earlier n)) d) (wanted (codes "columns") columns_of d)

extract-full : (earlier : List (List ℕ)) (d : Data) (e : Extract) → extract_of earlier d ≡ Ok e → IsFull e
extract-full earlier d e is = object-made IsFull (codes "name" ∷ codes "columns" ∷ []) (mapped extract_with (extract_parts earlier d)) d e is (λ y read.
    mapped_ok extract_with (extract_parts earlier d) y read (λ p parts made.
    let read_columns : wanted (codes "columns") columns_of d ≡ Ok p.1 = both_second (wanted (codes "name") (λ n. given (new_name earlier n)) d) (wanted (codes "columns") columns_of d) p parts in
    subst IsFull made record { full = wanted-made (λ h. has_columns h ≡ true) (codes "columns") columns_of d p.1 read_columns (λ x found. columns_of-some x p.1 found) }))

pub record IsNamed (es : Extracts) : Type 0 where
  pub named : length es.names ≡ length es.schemas
  pub full : list_all has_columns es.schemas ≡ true

next-named : (es t : Extracts) (d : Data) → next_extract es d ≡ Ok t → IsNamed es → IsNamed t
next-named es t d e named = mapped_ok (with_extract es) (extract_of es.names d) t e (λ x found made.
    let one : IsFull x = extract-full es.names d x found in
    subst IsNamed made record {
      named = length-append es.names (x.name ∷ []) ∙ (ap (λ n. n + 1) named.named ∙ sym (length-append es.schemas (x.schema ∷ [])));
      full = all-with has_columns es.schemas x.schema named.full one.full;
    })

extracts-named : (d : Data) (t : Extracts) → extracts_of d ≡ Ok t → IsNamed t
extracts-named d t e = array-made IsNamed next_extract next-named no_extracts t d e record { named = refl; full = refl }

-- numbers

abbrev pub is_some_number : ℕ → Bool
is_some_number n = nat_lt 0 n

between-some : (high n : ℕ) (z : ℤ) → between 1 high z ≡ Some n → is_some_number n ≡ true
between-some high n (pos m) e =
    let t = cond_some (nat_le 1 m && nat_le m high) m n e in
    let P : ℕ → Type 0 = λ k. is_some_number k ≡ true in
    subst P t.1 (first_holds (nat_le 1 m) (nat_le m high) t.0)
between-some high n (negsuc m) e = absurd (cc e)

whole-some : (d : Data) (n : ℕ) → whole_from 1 d ≡ Ok n → is_some_number n ≡ true
whole-some d n e = option_and_then_some (between 1 most_whole) (whole_of d) n (given_ok (number_of 1 most_whole d) n e) (λ z found is. between-some most_whole n z is)

pub record AreSome (xs : List ℕ) : Type 0 where
  pub all : list_all is_some_number xs ≡ true

next-some : (xs ys : List ℕ) (d : Data) → next_item (whole_from 1) xs d ≡ Ok ys → AreSome xs → AreSome ys
next-some xs ys d e are = mapped_ok (λ x. xs ++ x ∷ []) (whole_from 1 d) ys e (λ n found made. subst AreSome made record { all = all-with is_some_number xs n are.all (whole-some d n found) })

numbers-some : (d : Data) (xs : List ℕ) → numbers_of 1 d ≡ Ok xs → AreSome xs
numbers-some d xs e = array-made AreSome (next_item (whole_from 1)) next-some [] xs d e record { all = refl }

usual-some : (f : Form) → is_some_number (usual_capacity f) ≡ true
usual-some form.First = refl
usual-some form.Second = refl

capacity-some : (f : Form) (name : List ℕ) (d : Data) (n : ℕ) → capacity_of f name d ≡ Ok n → is_some_number n ≡ true
capacity-some f name d n e = optional-made (λ m. is_some_number m ≡ true) (usual_capacity f) name (whole_from 1) d n e (usual-some f) (λ y read. whole-some y n read)

-- sessions

abbrev pub has_lane : Filtered → Bool
has_lane s = nat_lt 0 s.lane

pub record IsOfLane (s : Filtered) : Type 0 where
  pub lane : has_lane s ≡ true

abbrev source_read : List (List ℕ × ℕ) → Data → ℕ → Reading (List ℕ)
source_read keys d lane = wanted (codes "source") (new_source keys lane) d

abbrev filters_read : Extracts → Data → ℕ → Reading (List Predicate)
filters_read es d source = wanted (codes "filters") (array_of (filter_of (columns_at es.schemas source))) d

rest-lane : (es : Extracts) (keys : List (List ℕ × ℕ)) (d : Data) (lane : ℕ) (s : Filtered) → source_parts es keys d lane ≡ Ok s → is_some_number lane ≡ true → IsOfLane s
rest-lane es keys d lane s e some = and_then_ok (λ name. filters_over es d lane name (place_in es.names name)) (source_read keys d lane) s e (λ name source filters.
    mapped_ok (filtered_with lane name (place_in es.names name)) (filters_read es d (place_in es.names name)) s filters (λ fs all made. subst IsOfLane made record { lane = some }))

session-lane : (es : Extracts) (keys : List (List ℕ × ℕ)) (d : Data) (s : Filtered) → session_of es keys d ≡ Ok s → IsOfLane s
session-lane es keys d s e = object-made IsOfLane (codes "lane" ∷ codes "source" ∷ codes "filters" ∷ []) (and_then (source_parts es keys d) (wanted (codes "lane") (whole_from 1) d)) d s e (λ y read.
    and_then_ok (source_parts es keys d) (wanted (codes "lane") (whole_from 1) d) y read (λ lane found rest.
    rest-lane es keys d lane y rest (wanted-made (λ n. is_some_number n ≡ true) (codes "lane") (whole_from 1) d lane found (λ x is. whole-some x lane is))))

pub record AreOfLanes (ss : Sessions) : Type 0 where
  pub all : list_all has_lane ss.sessions ≡ true

next-of-lanes : (es : Extracts) (ss t : Sessions) (d : Data) → next_session es ss d ≡ Ok t → AreOfLanes ss → AreOfLanes t
next-of-lanes es ss t d e are = mapped_ok (with_session ss) (session_of es ss.keys d) t e (λ s found made.
    let one : IsOfLane s = session-lane es ss.keys d s found in
    subst AreOfLanes made record { all = all-with has_lane ss.sessions s are.all one.lane })

sessions-of-lanes : (es : Extracts) (d : Data) (ss : List Filtered) → sessions_of es d ≡ Ok ss → list_all has_lane ss ≡ true
sessions-of-lanes es d ss e = mapped_ok (λ all. all.sessions) (array_after (next_session es) no_sessions d) ss e (λ all read made.
    let are : AreOfLanes all = array-made AreOfLanes (next_session es) (next-of-lanes es) no_sessions all d read record { all = refl } in
    let P : List Filtered → Type 0 = λ xs. list_all has_lane xs ≡ true in
    subst P made are.all)

sessions-in : (f : Form) (es : Extracts) (d : Data) (ss : List Filtered) → sessions_in f es d ≡ Ok ss → list_all has_lane ss ≡ true
sessions-in form.First es d ss e = let P : List Filtered → Type 0 = λ xs. list_all has_lane xs ≡ true in subst P (same_Ok [] ss e) refl
sessions-in form.Second es d ss e = optional-made (λ xs. list_all has_lane xs ≡ true) [] (codes "sessions") (sessions_of es) d ss e refl (λ y read. sessions-of-lanes es y ss read)

-- drafts

pub record IsTimed (p : Plan) : Type 0 where
  pub turns : list_all is_some_number p.schedule ≡ true
  pub literal : is_some_number p.literal ≡ true
  pub clever : is_some_number p.clever ≡ true
  pub sessions : list_all has_lane p.sessions ≡ true
  pub lanes : AreLanes p.lanes

pub record IsKept (d : Draft) : Type 0 where
  pub extracts : IsNamed d.extracts
  pub plan : IsTimed d.plan

abbrev capacities_read : Form → Data → Reading (ℕ × ℕ)
capacities_read f d = both (capacity_of f (codes "literal") d) (capacity_of f (codes "clever") d)

abbrev lists_read : Form → Extracts → Data → Reading (List Fault × List Filtered)
lists_read f es d = both (optional [] (codes "faults") faults_of d) (sessions_in f es d)

abbrev turns_read : Form → Extracts → Data → Reading (List ℕ × (List Fault × List Filtered))
turns_read f es d = both (optional [] (codes "schedule") (numbers_of 1) d) (lists_read f es d)

abbrev lanes_read : Form → Extracts → Data → Reading (Lanes × (List ℕ × (List Fault × List Filtered)))
lanes_read f es d = both (wanted (codes "lanes") (lanes_of f es) d) (turns_read f es d)

plan-timed : (f : Form) (es : Extracts) (d : Data) (p : Plan) → plan_of f es d ≡ Ok p → IsTimed p
plan-timed f es d p e = mapped_ok plan_with (both (capacities_read f d) (lanes_read f es d)) p e (λ q parts made.
    let capacities : capacities_read f d ≡ Ok q.0 = both_first (capacities_read f d) (lanes_read f es d) q parts in
    let of_lanes : lanes_read f es d ≡ Ok q.1 = both_second (capacities_read f d) (lanes_read f es d) q parts in
    let lanes : wanted (codes "lanes") (lanes_of f es) d ≡ Ok q.1.0 = both_first (wanted (codes "lanes") (lanes_of f es) d) (turns_read f es d) q.1 of_lanes in
    let of_turns : turns_read f es d ≡ Ok q.1.1 = both_second (wanted (codes "lanes") (lanes_of f es) d) (turns_read f es d) q.1 of_lanes in
    let schedule : optional [] (codes "schedule") (numbers_of 1) d ≡ Ok q.1.1.0 = both_first (optional [] (codes "schedule") (numbers_of 1) d) (lists_read f es d) q.1.1 of_turns in
    let lists : lists_read f es d ≡ Ok q.1.1.1 = both_second (optional [] (codes "schedule") (numbers_of 1) d) (lists_read f es d) q.1.1 of_turns in
    let turns : AreSome q.1.1.0 = optional-made AreSome [] (codes "schedule") (numbers_of 1) d q.1.1.0 schedule record { all = refl } (λ y read. numbers-some y q.1.1.0 read) in
    subst IsTimed made record {
      turns = turns.all;
      literal = capacity-some f (codes "literal") d q.0.0 (both_first (capacity_of f (codes "literal") d) (capacity_of f (codes "clever") d) q.0 capacities);
      clever = capacity-some f (codes "clever") d q.0.1 (both_second (capacity_of f (codes "literal") d) (capacity_of f (codes "clever") d) q.0 capacities);
      sessions = sessions-in f es d q.1.1.1.1 (both_second (optional [] (codes "faults") faults_of d) (sessions_in f es d) q.1.1.1 lists);
      lanes = wanted-made AreLanes (codes "lanes") (lanes_of f es) d q.1.0 lanes (λ y read. lanes-paired f es y q.1.0 read);
    })

over-kept : (d : Data) (f : Form) (es : Extracts) (t : Draft) → draft_over d f es ≡ Ok t → IsNamed es → IsKept t
over-kept d f es t e named = mapped_ok (draft_with f es) (plan_of f (known es) d) t e (λ p plan made. subst IsKept made record { extracts = named; plan = plan-timed f (known es) d p plan })

in-kept : (d : Data) (f : Form) (t : Draft) → draft_in d f ≡ Ok t → IsKept t
in-kept d f t e = and_then_ok (draft_over d f) (wanted (codes "extracts") extracts_of d) t e (λ es extracts over.
    over-kept d f es t over (wanted-made IsNamed (codes "extracts") extracts_of d es extracts (λ y read. extracts-named y es read)))

-- a draft has as many names as schemas, no extract without columns, numbers that count from 1, and pairs beside its steps
pub draft_of-kept : (d : Data) (t : Draft) → draft_of d ≡ Ok t → IsKept t
draft_of-kept d t e = and_then_ok (without_strangers d) (draft_parts d) t (provided_ok (is_object d) (and_then (without_strangers d) (draft_parts d)) t e) (λ u parts same.
    mapped_ok (λ none. u) (no_strangers (members_of u.form) d) t same (λ none strangers is.
    subst IsKept is (and_then_ok (draft_in d) (wanted (codes "form") (λ n. given (form_of n)) d) u parts (λ f form rest. in-kept d f u rest))))
