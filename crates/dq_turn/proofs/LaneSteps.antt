-- A lane that is handed out and one that is joined keep the rule.
use Rattle.std.proofs.Common.{◌≡◌, ◌≢◌, ℕ, ◌+◌, ◌-◌, ◌^◌, ◌<◌, ◌≤◌, List, [], ◌∷◌, ◌++◌, length, length-append, length-set, set, sum_by, sym, refl, ap, ◌∙◌, subst, arith, ⊎_elim, Option}
use Rattle.std.proofs.lemmas.List.Sums.{sum_by-append}
use mathlib.Core.Option.{none, some, some-injective, some-ne-none}
use mathlib.Core.Logic.{dite}
use native.Mathlib.Decide.{ℕ_discrete}
use mathlib.Core.Option as maybe
use lib.ListN.{get_elem?}
use Rattle.atomic_table.specs.Table.{State, keeps, Allows, Splits, Joins}
use Rattle.atomic_table.proofs.Lists.{set_else, at_longer}
use Rattle.dq_journal.specs.declared.entry.Entry.{Entry}
use Rattle.dq_turn.specs.declared.views.Role.{Role}
use Rattle.dq_turn.specs.declared.views.Role.TheVariants.{Keeper, Lane}
use Rattle.dq_turn.specs.declared.views.Stage.{Stage}
use Rattle.dq_turn.specs.declared.views.Stage.TheVariants.{Outside, Waiting, Inside}
use Rattle.dq_turn.specs.declared.views.Joined.{Joined}
use Rattle.dq_turn.specs.declared.views.View.{View}
use Rattle.dq_turn.specs.Made.{Begins, made}
use Rattle.dq_turn.specs.Views.{spent, new_lane, handing, left_by, joining}
use Rattle.dq_turn.specs.Turning.{Place, home, away, Book, tickets_at, tickets, lanes_at, lanes, KnowsStage, KnowsJoined, AllJoined, KnowsKeeper, KnowsLane, Knows, Lies, Kept, Turning}
use Rattle.dq_turn.specs.Steps.{Seated, AllSeen, heard}
use Rattle.dq_turn.proofs.Journals.{begins_same, longer_begins, made_none}
use Rattle.dq_turn.proofs.Sums.{put, put_here, put_else, below, at_push, each_set, sum_set}
use Rattle.dq_turn.proofs.Books.{outside≢inside, lane_of_role, keeper_of_role, role_of_keeper, lane_moves, StillJoined, joined_move, moves, lies_else, unmoved}

module _ {S L : Type 0} (loaded : S → L) (journal : S → List Entry) where
  abbrev B : Type 0
  B = Book S L

  abbrev St : Type 0
  St = State (Option S) (View S)

  abbrev Rule : St → Type 0
  Rule = Turning loaded journal

  -- the book, where one more lane was handed out, to a seat of that number
  abbrev handing_out : B → ℕ → B
  handing_out b n = record b { handed = b.handed + 1; seat = put b.seat (b.handed + 1) n }

  hand_stage : (b : B) (n j : ℕ) (t : Stage S) → KnowsStage loaded journal b j t → KnowsStage loaded journal (handing_out b n) j t
  hand_stage b n j Outside k = tt
  hand_stage b n j (Waiting t) k = k
  hand_stage b n j (Inside t x) k = k

  hand_lies : (b : B) (homes : List (maybe.Option (Option S))) (vs more : List (View S)) (p : Place S) → Lies loaded journal b homes vs p → Lies loaded journal b homes (vs ++ more) p
  hand_lies b homes vs more (home x) l = l
  hand_lies b homes vs more (away h) l = (l.0, (l.1.0, l.1.1, l.1.2, at_longer vs more h l.1.0 l.1.3, l.1.4, l.1.5))

  same_lies : (b : B) (n : ℕ) (homes : List (maybe.Option (Option S))) (vs : List (View S)) (p : Place S) → Lies loaded journal b homes vs p → Lies loaded journal (handing_out b n) homes vs p
  same_lies b n homes vs (home x) l = l
  same_lies b n homes vs (away h) l = l

  hand_each : (b : B) (s : St) (id : ℕ) (k : View S) → Kept loaded journal b s → get_elem? s.views id ≡ some k → k.role ≡ Keeper
      → (j : ℕ) (u : View S) → get_elem? (set s.views id (handing k)) j ≡ some u → Knows loaded journal (handing_out b (length s.views)) j u
  hand_each b s id k r at role =
      let n : ℕ = length s.views in let c : B = handing_out b n in
      let mine = keeper_of_role loaded journal b id k role (r.each id k at) in
      let still : StillJoined loaded journal b c = λ lane pos up is. (put_else b.seat (b.handed + 1) n lane (λ e. omega arith) ∙ is, refl) in
      each_set (Knows loaded journal c) s.views id (handing k)
      (role_of_keeper loaded journal c id (handing k) role record {
        id_is = mine.id_is;
        given = mine.given;
        stage = mine.stage;
        handed = ap (λ (z : ℕ). z + 1) mine.handed;
        seen = mine.seen;
        before = mine.before;
        joined = joined_move loaded journal b c k.seen k.seen k.joined (omega arith) still (begins_same k.seen) mine.joined;
      })
      (λ j u other there. moves loaded journal b c j u
      (λ h. let up : u.lane ≤ b.handed = h.lane.1 in lane_moves loaded journal b c j u h refl (omega arith) (put_else b.seat (b.handed + 1) n u.lane (λ e. omega arith) ∙ h.seat) (begins_same b.log) refl (hand_stage b n j u.stage h.stage))
      (λ h. absurd (other (h.id_is ∙ sym mine.id_is))) u.role (r.each j u there))

  hand_new : (b : B) (s : St) (id : ℕ) (k : View S) → Kept loaded journal b s → get_elem? s.views id ≡ some k → k.role ≡ Keeper → KnowsLane loaded journal (handing_out b (length s.views)) (length s.views) (new_lane k)
  hand_new b s id k r at role =
      let n : ℕ = length s.views in
      let mine = keeper_of_role loaded journal b id k role (r.each id k at) in
      let there : id < n = below s.views id k at in
      let is : k.handed ≡ b.handed = mine.handed in
      let none : made (k.handed + 1) b.log ≡ [] = r.others (k.handed + 1) (λ _. omega arith) in
      record {
        not_keeper = omega arith;
        given = mine.given;
        lane = (omega arith, omega arith);
        seat = ap (λ (z : ℕ). put b.seat (b.handed + 1) n (z + 1)) is ∙ put_here b.seat (b.handed + 1) n;
        seen = mine.seen;
        own_seen = made_none (k.handed + 1) k.seen b.log mine.seen none;
        own = none;
        stage = tt;
      }

  hand_kept : (b : B) (s : St) (id : ℕ) (k : View S) → Kept loaded journal b s → get_elem? s.views id ≡ some k → k.role ≡ Keeper → k.handed < 2 ^ 32 - 1
      → Kept loaded journal (handing_out b (length s.views)) record { words = s.words; homes = s.homes; views = set s.views id (handing k) ++ new_lane k ∷ [] }
  hand_kept b s id k r at role few =
      let n : ℕ = length s.views in let c : B = handing_out b n in let vs : List (View S) = set s.views id (handing k) in
      let mine = keeper_of_role loaded journal b id k role (r.each id k at) in
      let is : k.handed ≡ b.handed = mine.handed in
      let t : b.drawn ≡ b.passed + sum_by tickets s.views = r.tickets_are in
      let t1 : sum_by tickets vs + tickets k ≡ sum_by tickets s.views + tickets k = sum_set tickets s.views id k (handing k) at in
      let t2 : sum_by tickets (vs ++ new_lane k ∷ []) ≡ sum_by tickets vs + 0 = sum_by-append tickets vs (new_lane k ∷ []) in
      let l : sum_by lanes s.views ≡ b.handed = r.lanes_are in
      let l1 : sum_by lanes vs + lanes k ≡ sum_by lanes s.views + lanes k = sum_set lanes s.views id k (handing k) at in
      let l2 : sum_by lanes (vs ++ new_lane k ∷ []) ≡ sum_by lanes vs + 1 = sum_by-append lanes vs (new_lane k ∷ []) in
      record {
        words = r.words;
        short = r.short;
        tickets_are = omega arith;
        lanes_are = omega arith;
        few = omega arith;
        lies = same_lies b n s.homes (vs ++ new_lane k ∷ []) b.place (hand_lies b s.homes vs (new_lane k ∷ []) b.place
            (lies_else loaded journal b b s.homes s.views id k (handing k) refl refl at (λ u x e. outside≢inside u x (sym mine.stage ∙ e)) b.place r.lies));
        each = λ j u there. ⊎_elim (hand_each b s id k r at role j u)
            (λ (z : (j ≡ length vs) × (new_lane k ≡ u)). subst (λ (y : ℕ × View S). Knows loaded journal c y.0 y.1) (λ i. (sym (z.0 ∙ length-set s.views id (handing k)) i, z.1 i)) (hand_new b s id k r at role))
            (at_push vs (new_lane k) u j there);
        others = λ lane none. r.others lane (λ pos. (let far : b.handed + 1 < lane = none pos in omega arith));
      }

  pub hands : (id : ℕ) (k : View S) → k.role ≡ Keeper → k.handed < 2 ^ 32 - 1 → Splits Rule id k (handing k) (new_lane k)
  hands id k role few s r at = (handing_out r.0 (length s.views), hand_kept r.0 s id k r.1 at role few)

  -- the book, where a lane was joined
  abbrev taking_in : B → ℕ → B
  taking_in b lane = record b { seat = put b.seat lane 0 }

  in_stage : (b : B) (lane j : ℕ) (t : Stage S) → KnowsStage loaded journal b j t → KnowsStage loaded journal (taking_in b lane) j t
  in_stage b lane j Outside k = tt
  in_stage b lane j (Waiting t) k = k
  in_stage b lane j (Inside t x) k = k

  joined_push : (b : B) (seen : List Entry) (js : List Joined) (j : Joined) → AllJoined loaded journal b seen js → KnowsJoined loaded journal b seen j → AllJoined loaded journal b seen (js ++ j ∷ [])
  joined_push b seen [] j all k = (k, tt)
  joined_push b seen (i ∷ js) j all k = (all.0, joined_push b seen js j all.1 k)

  put_zero : (f : ℕ → ℕ) (i j : ℕ) → f j ≡ 0 → put f i 0 j ≡ 0
  put_zero f i j e = dite (ℕ_discrete j i) (λ is. ap (put f i 0) is ∙ put_here f i 0) (λ n. put_else f i 0 j n ∙ e)

  in_keeper : (b : B) (id other : ℕ) (k w : View S) → KnowsKeeper loaded journal b id k → KnowsLane loaded journal b other w → KnowsKeeper loaded journal (taking_in b w.lane) id (joining k w)
  in_keeper b id other k w mine theirs =
      let c : B = taking_in b w.lane in
      let both = longer_begins k.seen w.seen b.log mine.seen theirs.seen in
      let new : List Entry = (joining k w).seen in
      let still : StillJoined loaded journal b c = λ lane pos up is. (put_zero b.seat w.lane lane is, refl) in
      record {
        id_is = mine.id_is;
        given = mine.given;
        stage = mine.stage;
        handed = mine.handed;
        seen = both.0;
        before = both.1;
        joined = joined_push c new k.joined (left_by w) (joined_move loaded journal b c k.seen new k.joined (omega arith) still both.1 mine.joined)
            record { lane = theirs.lane; seat = put_here b.seat w.lane 0; seen = both.2; own = theirs.own };
      }

  in_each : (b : B) (s : St) (id other : ℕ) (k w : View S) → Kept loaded journal b s → get_elem? s.views id ≡ some k → other ≢ id → get_elem? s.views other ≡ some w → k.role ≡ Keeper → w.role ≡ Lane
      → (j : ℕ) (u : View S) → get_elem? (set (set s.views id (joining k w)) other spent) j ≡ some u → Knows loaded journal (taking_in b w.lane) j u
  in_each b s id other k w r at apart at' role role' =
      let c : B = taking_in b w.lane in
      let mine = keeper_of_role loaded journal b id k role (r.each id k at) in
      let theirs = lane_of_role loaded journal b other w role' (r.each other w at') in
      each_set (Knows loaded journal c) (set s.views id (joining k w)) other spent refl
      (λ j u far there. each_set (λ (i : ℕ) (v : View S). i ≢ other → Knows loaded journal c i v) s.views id (joining k w)
      (λ _. role_of_keeper loaded journal c id (joining k w) role (in_keeper b id other k w mine theirs))
      (λ i v near here far'. moves loaded journal b c i v
      (λ h. lane_moves loaded journal b c i v h refl h.lane.1 (put_else b.seat w.lane 0 v.lane (λ e. far' (sym h.seat ∙ (ap b.seat e ∙ theirs.seat))) ∙ h.seat) (begins_same b.log) refl (in_stage b w.lane i v.stage h.stage))
      (λ h. absurd (near (h.id_is ∙ sym mine.id_is))) v.role (r.each i v here)) j u there far)

  in_kept : (b : B) (s : St) (id other : ℕ) (k w : View S) → Kept loaded journal b s → get_elem? s.views id ≡ some k → other ≢ id → get_elem? (set s.views id (joining k w)) other ≡ some w → k.role ≡ Keeper → w.role ≡ Lane → w.stage ≡ Outside
      → Kept loaded journal (taking_in b w.lane) record { words = s.words; homes = s.homes; views = set (set s.views id (joining k w)) other spent }
  in_kept b s id other k w r at apart at' role role' out =
      let c : B = taking_in b w.lane in let vs : List (View S) = set s.views id (joining k w) in
      let there : get_elem? s.views other ≡ some w = sym (set_else s.views id other (joining k w) apart) ∙ at' in
      let mine = keeper_of_role loaded journal b id k role (r.each id k at) in
      let t : b.drawn ≡ b.passed + sum_by tickets s.views = r.tickets_are in
      let t1 : sum_by tickets vs + tickets k ≡ sum_by tickets s.views + tickets k = sum_set tickets s.views id k (joining k w) at in
      let t2 : sum_by tickets (set vs other spent) + tickets w ≡ sum_by tickets vs + 0 = sum_set tickets vs other w spent at' in
      let t3 : tickets w ≡ 0 = ap tickets_at out in
      let l : sum_by lanes s.views ≡ b.handed = r.lanes_are in
      let l1 : sum_by lanes vs + lanes k ≡ sum_by lanes s.views + lanes (joining k w) = sum_set lanes s.views id k (joining k w) at in
      let l2 : sum_by lanes (set vs other spent) + lanes w ≡ sum_by lanes vs + 0 = sum_set lanes vs other w spent at' in
      let l3 : lanes w ≡ 1 = ap (λ (q : Role). lanes_at q (length w.joined)) role' in
      let l4 : lanes k ≡ length k.joined = ap (λ (q : Role). lanes_at q (length k.joined)) role in
      let l5 : lanes (joining k w) ≡ length k.joined + 1 = ap (λ (q : Role). lanes_at q (length (k.joined ++ left_by w ∷ []))) role ∙ length-append k.joined (left_by w ∷ []) in
      record {
        words = r.words;
        short = r.short;
        tickets_are = omega arith;
        lanes_are = omega arith;
        few = r.few;
        lies = lies_else loaded journal b c s.homes vs other w spent refl refl at' (λ u x e. outside≢inside u x (sym out ∙ e)) b.place
            (lies_else loaded journal b b s.homes s.views id k (joining k w) refl refl at (λ u x e. outside≢inside u x (sym mine.stage ∙ e)) b.place r.lies);
        each = in_each b s id other k w r at apart there role role';
        others = r.others;
      }

  pub takes_in : (id : ℕ) (k : View S) (other : ℕ) (w : View S) → k.role ≡ Keeper → w.role ≡ Lane → w.stage ≡ Outside → Joins Rule id k other w (joining k w) spent
  takes_in id k other w role role' out s r at apart at' = (taking_in r.0 w.lane, in_kept r.0 s id other k w r.1 at apart at' role role' out)

  all_seen : (b : B) (seen : List Entry) (js : List Joined) → AllJoined loaded journal b seen js → AllSeen seen js
  all_seen b seen [] all = tt
  all_seen b seen (j ∷ js) all = (all.0.seen, all_seen b seen js all.1)

  pub hears : (n id i : ℕ) (me : Seated S) → me.0.role ≡ Keeper → Allows Rule n id me i (λ y. y) (λ r m. heard me m)
  hears n id i me role s r wide at small =
      let mine = keeper_of_role loaded journal r.0 id me.0 role (r.1.each id me.0 at) in
      (me.0, keeps, tt, unmoved loaded journal s i id me.0 at r, (refl, mine.before, all_seen r.0 me.0.seen me.0.joined mine.joined))

  last_seen : (seen : List Entry) (js : List Joined) (j : Joined) → AllSeen seen (js ++ j ∷ []) → Begins j.seen seen
  last_seen seen [] j all = all.0
  last_seen seen (i ∷ js) j all = last_seen seen js j all.1

  -- after a join the keeper has seen what either had seen
  pub heard_both : (k w : View S) (m n : Seated S) → m.0 ≡ joining k w → heard m n → Begins k.seen n.0.seen × Begins w.seen n.0.seen
  heard_both k w m n is h = subst (λ (z : Seated S). Begins k.seen z.0.seen × Begins w.seen z.0.seen) (sym h.0)
      (subst (λ (v : View S). Begins v.before m.0.seen) is h.1, last_seen m.0.seen k.joined (left_by w) (subst (λ (v : View S). AllSeen m.0.seen v.joined) is h.2))
