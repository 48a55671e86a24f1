-- One look-up more.
use Rattle.std.proofs.Common.{◌≡◌, ℕ, suc, Bool, true, ◌&&◌, List, [], ◌∷◌, ◌++◌, map, find, length, refl, sym, ap, ◌∙◌, subst}
use Rattle.std.proofs.lemmas.List.Sums.{fold_push}
use Rattle.std.specs.Arc.{arc_value}
use Rattle.std.specs.Cmp.Lexicographic.{bytes_decides, pointwise}
use Rattle.std.specs.List.{AllByRecursion}
use Rattle.std.specs.Option.{option_map}
use Rattle.std.specs.Prelude.{Option, Some, None, IfSome, nat_eq, slice_get}
use Rattle.dq_base.specs.Answers.{answer}
use Rattle.dq_base.specs.Covering.{covers, query_eq}
use Rattle.dq_base.specs.Headings.{Heading}
use Rattle.dq_base.specs.declared.cell.Cell.{Cell}
use Rattle.dq_base.specs.declared.query.Query.{Query}
use Rattle.dq_cache.proofs.Looked.{equal_by}
use Rattle.dq_cache.specs.Entries.{BodiedOf, CleverOf, EntryOf, LiteralOf, fits, has_body, to_front}
use Rattle.dq_cache.specs.Finds.{Finds}
use Rattle.dq_cache.specs.declared.entry.Found.{Found}
use Rattle.dq_cover.proofs.CoverLaws.{covers_refl, exact_numbers, exact_queries}
use Rattle.dq_journal.specs.declared.entry.Met.{Met}
use Rattle.dq_journal.specs.declared.entry.Met.TheVariants as met
use Rattle.dq_machine.proofs.Fronts.{stays}
use Rattle.dq_machine.proofs.Reached.{and_first, and_second}
use Rattle.dq_machine.specs.Admitting.{Looked, has_cover, has_same, look, look_literal, may_join, met_flight, then_look}
use Rattle.dq_machine.specs.Preparing.{is_valid}
use Rattle.dq_machine.specs.Publishing.{rows_at, stamp_in}
use Rattle.dq_machine.specs.State.{Flown, Publication, Shelves}
use Rattle.dq_text.proofs.ToldWhole.{body_same}
use Rattle.dq_text.specs.Sizes.{IsSizedQuery}
use Rattle.dq_text.specs.Statements.{body}
use Rattle.dq_desk.specs.Admissions.{IsFound, IsShare}
use Rattle.dq_desk.specs.Handed.{AllHanded, AreHandedOut, HandedFor, IsSound, IsSoundBodied, all_filled, filled, looked_in, shelves_in}
use Rattle.dq_desk.specs.Kept.{IsBodied, IsTable, shelved_in, shelved_of}
use Rattle.dq_desk.specs.Plans.{HandsOut, literal_left}
use Rattle.dq_desk.proofs.Along.{Alike, all_front, all_of, all_weaker, find_along, found_is, found_passes, front_along}
use Rattle.dq_desk.proofs.Stamps.{rows_by_stamp}

-- the two look-ups in the words of the machine

pub cover_alike : (stamp : ℕ) (q : Query) (es : List EntryOf) → Alike shelved_of (has_cover stamp q) (fits stamp q) es
cover_alike stamp q es = all_of (λ e. has_cover stamp q (shelved_of e) ≡ fits stamp q e) (λ e. refl) es

same_text : (versions : List Publication) (q : Query) (b : BodiedOf) → IsBodied versions b → IsSizedQuery q → pointwise nat_eq b.body (body q) ≡ query_eq b.entry.key q
same_text versions q b h sized =
    let tells = bytes_decides b.body (body q) in
    equal_by (pointwise nat_eq b.body (body q)) b.entry.key q
    (λ e. body_same b.entry.key q h.sized sized (sym h.body ∙ tells.0 e))
    (λ e. tells.1 (h.body ∙ ap body e))

same_alike_one : (versions : List Publication) (stamp : ℕ) (q : Query) (b : BodiedOf) → IsBodied versions b → IsSizedQuery q → has_same stamp q (shelved_in b) ≡ has_body stamp (body q) b
same_alike_one versions stamp q b h sized = ap (λ (t : Bool). nat_eq b.entry.stamp stamp && t) (sym (same_text versions q b h sized))

pub same_alike : (versions : List Publication) (stamp : ℕ) (q : Query) (bs : List BodiedOf) → AllByRecursion (IsBodied versions) bs → IsSizedQuery q
    → Alike shelved_in (has_same stamp q) (has_body stamp (body q)) bs
same_alike versions stamp q bs h sized =
    all_weaker (IsBodied versions) (λ b. has_same stamp q (shelved_in b) ≡ has_body stamp (body q) b) (λ b is. same_alike_one versions stamp q b is sized) bs h

bodied_all : (schemas : List Heading) (versions : List Publication) (bs : List BodiedOf) → AllByRecursion (IsSoundBodied schemas versions) bs → AllByRecursion (IsBodied versions) bs
bodied_all schemas versions bs h = all_weaker (IsSoundBodied schemas versions) (IsBodied versions) (λ b is. is.bodied) bs h

share_if : {T : Type 0} (o : Option T) (P Q : T → Type 0) → ((x : T) → P x → Q x) → IfSome o P → IfSome o Q
share_if None P Q by h = tt
share_if (Some x) P Q by h = by x h

-- a share of an entry

module _ (schemas : List Heading) (versions : List Publication) (q : Query) (e : EntryOf) (valid : is_valid schemas e.key ≡ true) (table : IsTable versions e)
    (stamp : e.stamp ≡ stamp_in versions q.source) (cover : covers e.key q ≡ true) where
  share_is : (key : Query) (rows : List (List Cell)) → key ≡ e.key → rows ≡ e.table → IsShare schemas versions q key rows
  share_is key rows k r =
      let is : e.table ≡ answer e.key (rows_at versions e.stamp) = table.table in
      let moved : answer e.key (rows_at versions e.stamp) ≡ answer key (rows_at versions (stamp_in versions q.source)) = λ j. answer (sym k j) (rows_at versions (stamp j)) in
      record {
        valid = ap (is_valid schemas) k ∙ valid;
        covering = ap (λ (p : Query). covers p q) k ∙ cover;
        table = r ∙ is ∙ moved ∙ ap (answer key) (rows_by_stamp versions q.source);
      }

  pub found_out : (f : Found) → Finds (Some e) (Some f) → IsFound schemas versions q e.flight f
  found_out f h = (
    h.0,
    share_if f.share (λ both. (arc_value both.0 ≡ e.key) × (arc_value both.1 ≡ e.table)) (λ both. IsShare schemas versions q (arc_value both.0) (arc_value both.1))
        (λ both is. share_is (arc_value both.0) (arc_value both.1) is.0 is.1) h.1,
  )

  pub handed_hit : (h : Option Found) → Finds (Some e) h → HandedFor schemas versions q (Some (met.Hit e.flight)) h
  handed_hit None h = absurd h
  handed_hit (Some f) h = found_out f h

  pub handed_literal : (h : Option Found) → Finds (Some e) h → HandedFor schemas versions q (Some (met.Literal e.flight)) h
  handed_literal None h = absurd h
  handed_literal (Some f) h = found_out f h

-- nothing of a cache
none_handed : (schemas : List Heading) (versions : List Publication) (q : Query) (o : Option Flown) → HandedFor schemas versions q (met_flight o) None
none_handed schemas versions q None = tt
none_handed schemas versions q (Some f) = tt

none_filled : (o : Option Flown) (m : Met) → filled (met_flight o) m ≡ m
none_filled None m = refl
none_filled (Some f) m = refl

-- a look-up
module _ (schemas : List Heading) (versions : List Publication) (flown : List Flown) (stamp : ℕ) (q : Query) (at : stamp ≡ stamp_in versions q.source) (sized : IsSizedQuery q) where
  -- what it leaves, and hands out
  record OneLook (one : Looked) (es : List EntryOf) (bs : List BodiedOf) (other m : Met) (h : Option Found) : Type 0 where
    shelves : ◌≡◌ {A = Shelves} (record { clever = map shelved_of es; literal = map shelved_in bs }) one.shelves
    found : Option Met
    found_are : one.found ≡ found ∷ []
    met_is : m ≡ filled found other
    held : HandedFor schemas versions q found h

  look_by : (es es' : List EntryOf) (bs bs' : List BodiedOf) (o : Option EntryOf) (p : Option BodiedOf) (other m : Met) (h : Option Found)
      → AllByRecursion (IsSound schemas versions) es → AllByRecursion (IsSoundBodied schemas versions) bs
      → find (fits stamp q) es ≡ o → find (has_body stamp (body q)) bs ≡ p
      → HandsOut o p other (m, h) → es' ≡ to_front (fits stamp q) es → bs' ≡ literal_left o stamp (body q) bs
      → OneLook (look flown stamp q (record { clever = map shelved_of es; literal = map shelved_in bs }) (option_map shelved_of o)) es' bs' other m h
  look_by es es' bs bs' (Some e) p other m h sound bodied found text out moved left =
      let is = found_is (IsSound schemas versions) (fits stamp q) es e found sound in
      let passes = found_passes (fits stamp q) es e found in
      let there : e.stamp ≡ stamp = exact_numbers e.stamp stamp (and_first (nat_eq e.stamp stamp) (covers e.key q) passes) in
      let cover : covers e.key q ≡ true = and_second (nat_eq e.stamp stamp) (covers e.key q) passes in
      let clever : map shelved_of es' ≡ to_front (has_cover stamp q) (map shelved_of es) =
      ap (map shelved_of) moved ∙ sym (front_along shelved_of (has_cover stamp q) (fits stamp q) es (cover_alike stamp q es)) in
      record {
        shelves = (λ j. record { clever = clever j; literal = map shelved_in (left j) });
        found = Some (met.Hit e.flight);
        found_are = refl;
        met_is = out.0;
        held = handed_hit schemas versions q e is.valid is.table (there ∙ at) cover h out.1;
      }
  look_by es es' bs bs' None (Some b) other m h sound bodied found text out moved left =
      let is = found_is (IsSoundBodied schemas versions) (has_body stamp (body q)) bs b text bodied in
      let alike = same_alike versions stamp q bs (bodied_all schemas versions bs bodied) sized in
      let passes = found_passes (has_body stamp (body q)) bs b text in
      let there : b.entry.stamp ≡ stamp = exact_numbers b.entry.stamp stamp (and_first (nat_eq b.entry.stamp stamp) (pointwise nat_eq b.body (body q)) passes) in
      let texts = and_second (nat_eq b.entry.stamp stamp) (pointwise nat_eq b.body (body q)) passes in
      let equal : b.entry.key ≡ q = exact_queries b.entry.key q (sym (same_text versions q b is.bodied sized) ∙ texts) in
      let cover : covers b.entry.key q ≡ true = ap (λ (k : Query). covers k q) equal ∙ covers_refl q in
      let clever : map shelved_of es' ≡ map shelved_of es = ap (map shelved_of) (moved ∙ sym (stays (fits stamp q) es found)) in
      let literal : map shelved_in bs' ≡ to_front (has_same stamp q) (map shelved_in bs) =
      ap (map shelved_in) left ∙ sym (front_along shelved_in (has_same stamp q) (has_body stamp (body q)) bs alike) in
      let there_is : find (has_same stamp q) (map shelved_in bs) ≡ Some (shelved_in b) =
      find_along shelved_in (has_same stamp q) (has_body stamp (body q)) bs alike ∙ ap (option_map shelved_in) text in
      record {
        shelves = (λ j. record { clever = clever j; literal = literal j });
        found = Some (met.Literal b.entry.flight);
        found_are = ap (λ o. look_literal flown stamp q o ∷ []) there_is;
        met_is = out.0;
        held = handed_literal schemas versions q b.entry is.valid is.bodied.table (there ∙ at) cover h out.1;
      }
  look_by es es' bs bs' None None other m h sound bodied found text out moved left =
      let alike = same_alike versions stamp q bs (bodied_all schemas versions bs bodied) sized in
      let clever : map shelved_of es' ≡ map shelved_of es = ap (map shelved_of) (moved ∙ sym (stays (fits stamp q) es found)) in
      let literal : map shelved_in bs' ≡ to_front (has_same stamp q) (map shelved_in bs) =
      ap (map shelved_in) left ∙ sym (front_along shelved_in (has_same stamp q) (has_body stamp (body q)) bs alike) in
      let none : find (has_same stamp q) (map shelved_in bs) ≡ None =
      find_along shelved_in (has_same stamp q) (has_body stamp (body q)) bs alike ∙ ap (option_map shelved_in) text in
      let o = find (may_join stamp q) flown in
      let H : Option Found → Type 0 = λ x. HandedFor schemas versions q (met_flight o) x in
      record {
        shelves = (λ j. record { clever = clever j; literal = literal j });
        found = met_flight o;
        found_are = ap (λ o. look_literal flown stamp q o ∷ []) none;
        met_is = out.0 ∙ sym (none_filled o other);
        held = subst H (sym out.1) (none_handed schemas versions q o);
      }

-- one more of each

handed_push : (schemas : List Heading) (versions : List Publication) (qs : List Query) (fs : List (Option Met)) (hs : List (Option Found)) (q : Query) (f : Option Met) (h : Option Found)
    → AllHanded schemas versions qs fs hs → HandedFor schemas versions q f h → AllHanded schemas versions (qs ++ q ∷ []) (fs ++ f ∷ []) (hs ++ h ∷ [])
handed_push schemas versions [] [] [] q f h all one = (one, tt)
handed_push schemas versions [] [] (x ∷ hs) q f h all one = absurd all
handed_push schemas versions [] (x ∷ fs) hs q f h all one = absurd all
handed_push schemas versions (x ∷ qs) [] hs q f h all one = absurd all
handed_push schemas versions (x ∷ qs) (y ∷ fs) [] q f h all one = absurd all
handed_push schemas versions (x ∷ qs) (y ∷ fs) (z ∷ hs) q f h all one = (all.0, handed_push schemas versions qs fs hs q f h all.1 one)

handed_long : (schemas : List Heading) (versions : List Publication) (qs : List Query) (fs : List (Option Met)) (hs : List (Option Found)) → AllHanded schemas versions qs fs hs → length fs ≡ length qs
handed_long schemas versions [] [] hs all = refl
handed_long schemas versions [] (x ∷ fs) hs all = absurd all
handed_long schemas versions (x ∷ qs) [] hs all = absurd all
handed_long schemas versions (x ∷ qs) (y ∷ fs) [] all = absurd all
handed_long schemas versions (x ∷ qs) (y ∷ fs) (z ∷ hs) all = ap suc (handed_long schemas versions qs fs hs all.1)

filled_push : (fs : List (Option Met)) (otherwise : List Met) (f : Option Met) (m : Met) → slice_get otherwise (length fs) ≡ Some m → all_filled (fs ++ f ∷ []) otherwise ≡ all_filled fs otherwise ++ filled f m ∷ []
filled_push [] [] f m at = cc
filled_push [] (o ∷ otherwise) f m at = let same : o ≡ m = cc in ap (λ x. filled f x ∷ []) same
filled_push (x ∷ fs) [] f m at = cc
filled_push (x ∷ fs) (o ∷ otherwise) f m at = ap (λ more. filled x o ∷ more) (filled_push fs otherwise f m at)

module _ (schemas : List Heading) (versions : List Publication) (flown : List Flown) (clever₀ : CleverOf) (literal₀ : LiteralOf) (otherwise : List Met) where
  pub handed_more : (qs : List Query) (q : Query) (clever clever' : CleverOf) (literal literal' : LiteralOf) (met met' : List Met) (held held' : List (Option Found)) (stamp : ℕ) (other m : Met)
      (h : Option Found) → stamp ≡ stamp_in versions q.source → IsSizedQuery q
      → AreHandedOut schemas versions qs (looked_in flown versions clever₀ literal₀ qs) clever₀ clever literal₀ literal otherwise met held
      → slice_get otherwise (length qs) ≡ Some other
      → HandsOut (find (fits stamp q) clever.entries) (find (has_body stamp (body q)) literal.entries) other (m, h)
      → clever'.entries ≡ to_front (fits stamp q) clever.entries → clever'.bound ≡ clever.bound
      → literal'.entries ≡ literal_left (find (fits stamp q) clever.entries) stamp (body q) literal.entries → literal'.bound ≡ literal.bound
      → met' ≡ met ++ m ∷ [] → held' ≡ held ++ h ∷ []
      → AreHandedOut schemas versions (qs ++ q ∷ []) (looked_in flown versions clever₀ literal₀ (qs ++ q ∷ [])) clever₀ clever' literal₀ literal' otherwise met' held'
  handed_more qs q clever clever' literal literal' met met' held held' stamp other m h at sized before open_at out moved bound left text_bound more given =
      let b : Looked = looked_in flown versions clever₀ literal₀ qs in
      let shelves : Shelves = shelves_in clever literal in
      let one = look_by schemas versions flown stamp q at sized clever.entries clever'.entries literal.entries literal'.entries _ _ other m h before.moved.clever_sound before.moved.literal_sound
      refl refl out moved left in
      let moved_on : look flown stamp q shelves (find (has_cover stamp q) shelves.clever) ≡ look flown (stamp_in versions q.source) q b.shelves (find (has_cover (stamp_in versions q.source) q) b.shelves.clever) =
      λ j. look flown (at j) q (before.moved.shelves j) (find (has_cover (at j) q) (before.moved.shelves j).clever) in
      let step : look flown stamp q shelves (option_map shelved_of (find (fits stamp q) clever.entries))
      ≡ look flown (stamp_in versions q.source) q b.shelves (find (has_cover (stamp_in versions q.source) q) b.shelves.clever) =
      ap (look flown stamp q shelves) (sym (find_along shelved_of (has_cover stamp q) (fits stamp q) clever.entries (cover_alike stamp q clever.entries))) ∙ moved_on in
      let whole : then_look flown versions b q ≡ looked_in flown versions clever₀ literal₀ (qs ++ q ∷ []) =
      sym (fold_push (then_look flown versions) (record { shelves = shelves_in clever₀ literal₀; found = [] }) qs q) in
      let found : b.found ++ one.found ∷ [] ≡ (looked_in flown versions clever₀ literal₀ (qs ++ q ∷ [])).found =
      ap (λ fs. b.found ++ fs) (sym one.found_are ∙ ap (λ (x : Looked). x.found) step) ∙ ap (λ (x : Looked). x.found) whole in
      let put : met ++ m ∷ [] ≡ all_filled b.found otherwise ++ filled one.found other ∷ [] = λ j. before.met_are j ++ one.met_is j ∷ [] in
      let H : List (Option Met) → Type 0 = λ fs. AllHanded schemas versions (qs ++ q ∷ []) fs (held ++ h ∷ []) in
      let K : List (Option Found) → Type 0 = λ hs. AllHanded schemas versions (qs ++ q ∷ []) (looked_in flown versions clever₀ literal₀ (qs ++ q ∷ [])).found hs in
      let S : List EntryOf → Type 0 = λ es. AllByRecursion (IsSound schemas versions) es in
      let T : List BodiedOf → Type 0 = λ bs. AllByRecursion (IsSoundBodied schemas versions) bs in
      record {
        moved = record {
          shelves = one.shelves ∙ ap (λ (x : Looked). x.shelves) step ∙ ap (λ (x : Looked). x.shelves) whole;
          clever_sound = subst S (sym moved) (all_front (IsSound schemas versions) (fits stamp q) clever.entries before.moved.clever_sound);
          literal_sound = subst T (sym left) (left_sound (find (fits stamp q) clever.entries) stamp q literal.entries before.moved.literal_sound);
          clever_bound = bound ∙ before.moved.clever_bound;
          literal_bound = text_bound ∙ before.moved.literal_bound;
        };
        met_are = more
            ∙ put
            ∙ sym (filled_push b.found otherwise one.found other (ap (slice_get otherwise) (handed_long schemas versions qs b.found held before.held_are) ∙ open_at))
            ∙ ap (λ fs. all_filled fs otherwise) found;
        held_are = subst K (sym given) (subst H found (handed_push schemas versions qs b.found held q one.found h before.held_are one.held));
      }
    where
      left_sound : (o : Option EntryOf) (stamp : ℕ) (q : Query) (bs : List BodiedOf) → AllByRecursion (IsSoundBodied schemas versions) bs
          → AllByRecursion (IsSoundBodied schemas versions) (literal_left o stamp (body q) bs)
      left_sound None stamp q bs h = all_front (IsSoundBodied schemas versions) (has_body stamp (body q)) bs h
      left_sound (Some e) stamp q bs h = h
