-- What a view knows stays known where the book changes in what doesn't touch it.
use Rattle.std.proofs.Common.{◌≡◌, ◌≢◌, ℕ, ◌+◌, ◌%◌, ◌^◌, ◌<◌, ◌≤◌, Bool, true, false, true≢false, List, [], ◌∷◌, ◌++◌, length, set, get_or, sum_by, sym, refl, ap, ◌∙◌, subst, arith, Option, Some, None}
use mathlib.Core.Option.{none, some, some-injective}
use mathlib.Core.Option as maybe
use lib.ListN.{get_elem?}
use lib.Seq.{set-get_or}
use Rattle.atomic_table.specs.Table.{State}
use Rattle.atomic_table.proofs.Lists.{set_else, set_again}
use Rattle.dq_journal.specs.declared.entry.Entry.{Entry}
use Rattle.dq_turn.specs.declared.views.Role.{Role}
use Rattle.dq_turn.specs.declared.views.Role.TheVariants.{Keeper, Lane, Spent}
use Rattle.dq_turn.specs.declared.views.Stage.{Stage}
use Rattle.dq_turn.specs.declared.views.Stage.TheVariants.{Outside, Waiting, Inside}
use Rattle.dq_turn.specs.declared.views.Joined.{Joined}
use Rattle.dq_turn.specs.declared.views.View.{View}
use Rattle.dq_turn.specs.Made.{Begins, made}
use Rattle.dq_turn.specs.Turning.{Place, home, away, Book, tickets_at, tickets, lanes_at, lanes, KnowsStage, AllJoined, KnowsKeeper, KnowsLane, KnowsAs, Knows, Lies, Kept, Turning}
use Rattle.dq_turn.proofs.Journals.{begins_trans}
use Rattle.dq_turn.proofs.Sums.{sum_le}

abbrev is_lane : Role → Bool
is_lane Keeper = false
is_lane Lane = true
is_lane Spent = false

pub keeper≢lane : Keeper ≢ Lane
keeper≢lane e = true≢false (sym (ap is_lane e))

module _ {S : Type 0} where
  abbrev is_home : Place S → Bool
  is_home (home x) = true
  is_home (away h) = false

  pub home≢away : (x : S) (h : ℕ) → home x ≢ away h
  home≢away x h e = true≢false (ap is_home e)

  abbrev holder : Place S → ℕ
  holder (home x) = 0
  holder (away h) = h

  pub one_holder : (p : Place S) (i j : ℕ) → p ≡ away i → p ≡ away j → i ≡ j
  one_holder p i j e f = ap holder (sym e ∙ f)

  abbrev is_inside : Stage S → Bool
  is_inside Outside = false
  is_inside (Waiting t) = false
  is_inside (Inside t x) = true

  pub outside≢inside : (t : ℕ) (x : S) → Outside ≢ Inside t x
  outside≢inside t x e = true≢false (sym (ap is_inside e))

  pub waiting≢inside : (r t : ℕ) (x : S) → Waiting r ≢ Inside t x
  waiting≢inside r t x e = true≢false (sym (ap is_inside e))

module _ {S L : Type 0} (loaded : S → L) (journal : S → List Entry) where
  abbrev B : Type 0
  B = Book S L

  abbrev Homes : Type 0
  Homes = List (maybe.Option (Option S))

  abbrev St : Type 0
  St = State (Option S) (View S)

  abbrev Rule : St → Type 0
  Rule = Turning loaded journal

  pub lane_of_role : (b : B) (id : ℕ) (v : View S) → v.role ≡ Lane → Knows loaded journal b id v → KnowsLane loaded journal b id v
  lane_of_role b id v is k = subst (λ (r : Role). KnowsAs loaded journal b r id v) is k

  pub role_of_lane : (b : B) (id : ℕ) (v : View S) → v.role ≡ Lane → KnowsLane loaded journal b id v → Knows loaded journal b id v
  role_of_lane b id v is k = subst (λ (r : Role). KnowsAs loaded journal b r id v) (sym is) k

  pub keeper_of_role : (b : B) (id : ℕ) (v : View S) → v.role ≡ Keeper → Knows loaded journal b id v → KnowsKeeper loaded journal b id v
  keeper_of_role b id v is k = subst (λ (r : Role). KnowsAs loaded journal b r id v) is k

  pub role_of_keeper : (b : B) (id : ℕ) (v : View S) → v.role ≡ Keeper → KnowsKeeper loaded journal b id v → Knows loaded journal b id v
  role_of_keeper b id v is k = subst (λ (r : Role). KnowsAs loaded journal b r id v) (sym is) k

  pub stage_of : (b : B) (id : ℕ) (v : View S) (t : Stage S) → v.stage ≡ t → KnowsLane loaded journal b id v → KnowsStage loaded journal b id t
  stage_of b id v t is k = subst (KnowsStage loaded journal b id) is k.stage

  pub lane_moves : (b c : B) (id : ℕ) (v : View S) → KnowsLane loaded journal b id v → c.first ≡ b.first → v.lane ≤ c.handed → c.seat v.lane ≡ id → Begins b.log c.log
      → made v.lane c.log ≡ made v.lane b.log → KnowsStage loaded journal c id v.stage → KnowsLane loaded journal c id v
  lane_moves b c id v k first handed seat grows same stage = record {
    not_keeper = k.not_keeper;
    given = k.given ∙ ap Some (sym first);
    lane = (k.lane.0, handed);
    seat = seat;
    seen = begins_trans v.seen b.log c.log k.seen grows;
    own_seen = k.own_seen;
    own = same ∙ k.own;
    stage = stage;
  }

  -- a lane that the keeper keeps is as it was
  abbrev pub StillJoined : B → B → Type 0
  StillJoined b c = (lane : ℕ) → 0 < lane → lane ≤ b.handed → b.seat lane ≡ 0 → (c.seat lane ≡ 0) × (made lane c.log ≡ made lane b.log)

  pub joined_move : (b c : B) (old new : List Entry) (js : List Joined) → b.handed ≤ c.handed → StillJoined b c → Begins old new → AllJoined loaded journal b old js → AllJoined loaded journal c new js
  joined_move b c old new [] le still grows all = tt
  joined_move b c old new (j ∷ js) le still grows all =
      let k = all.0 in let s = still j.lane k.lane.0 k.lane.1 k.seat in let up : j.lane ≤ b.handed = k.lane.1 in (
        record { lane = (k.lane.0, omega arith); seat = s.0; seen = begins_trans j.seen old new k.seen grows; own = s.1 ∙ k.own },
        joined_move b c old new js le still grows all.1,
      )

  pub keeper_moves : (b c : B) (id : ℕ) (v : View S) → KnowsKeeper loaded journal b id v → c.first ≡ b.first → c.handed ≡ b.handed → StillJoined b c → Begins b.log c.log → KnowsKeeper loaded journal c id v
  keeper_moves b c id v k first handed still grows = record {
    id_is = k.id_is;
    given = k.given ∙ ap Some (sym first);
    stage = k.stage;
    handed = k.handed ∙ sym handed;
    seen = begins_trans v.seen b.log c.log k.seen grows;
    before = k.before;
    joined = joined_move b c v.seen v.seen v.joined (let h : c.handed ≡ b.handed = handed in omega arith) still ([], sym (Rattle.std.proofs.Common.append-nil v.seen)) k.joined;
  }

  -- by the role
  pub moves : (b c : B) (id : ℕ) (v : View S) → (KnowsLane loaded journal b id v → KnowsLane loaded journal c id v) → (KnowsKeeper loaded journal b id v → KnowsKeeper loaded journal c id v)
      → (r : Role) → KnowsAs loaded journal b r id v → KnowsAs loaded journal c r id v
  moves b c id v lane keeper Keeper k = keeper k
  moves b c id v lane keeper Lane k = lane k
  moves b c id v lane keeper Spent k = k

  -- where no ticket is drawn, no turn passed and no place changed, each stage knows what it knew
  pub stage_stays : (b c : B) (id : ℕ) (t : Stage S) → c.drawn ≡ b.drawn → c.passed ≡ b.passed → ((k : ℕ) → c.owner k ≡ b.owner k) → c.place ≡ b.place → c.log ≡ b.log → c.first ≡ b.first
      → KnowsStage loaded journal b id t → KnowsStage loaded journal c id t
  stage_stays b c id Outside d p o l g f k = tt
  stage_stays b c id (Waiting t) d p o l g f k =
      let d' : c.drawn ≡ b.drawn = d in let p' : c.passed ≡ b.passed = p in let k0 : b.passed ≤ t = k.0 in let k1 : t < b.drawn = k.1 in (omega arith, omega arith, o t ∙ k.2)
  stage_stays b c id (Inside t x) d p o l g f k =
      let d' : c.drawn ≡ b.drawn = d in let k1 : t < b.drawn = k.1 in (k.0 ∙ sym p, omega arith, o t ∙ k.2, l ∙ k.3, (k.4.0 ∙ sym g, k.4.1 ∙ sym f))

  few_of_stage : (r : Role) (v : View S) (b : B) (id : ℕ) → v.role ≡ r → KnowsAs loaded journal b r id v → (t : Stage S) → v.stage ≡ t → tickets_at t ≤ lanes_at r (length v.joined)
  few_of_stage Keeper v b id is k t st = let e : tickets_at t ≡ 0 = ap tickets_at (sym st ∙ k.stage) in omega arith
  few_of_stage Lane v b id is k Outside st = omega arith
  few_of_stage Lane v b id is k (Waiting t) st = omega arith
  few_of_stage Lane v b id is k (Inside t x) st = omega arith
  few_of_stage Spent v b id is k t st = let e : tickets_at t ≡ 0 = ap tickets_at (sym st ∙ k) in omega arith

  few_of : (v : View S) (b : B) (id : ℕ) (r : Role) → v.role ≡ r → KnowsAs loaded journal b r id v → tickets v ≤ lanes v
  few_of v b id r is k = subst (λ (q : Role). tickets v ≤ lanes_at q (length v.joined)) (sym is) (few_of_stage r v b id is k v.stage refl)

  -- fewer tickets are out than there are lanes
  pub few_tickets : (b : B) (s : St) → Kept loaded journal b s → sum_by tickets s.views ≤ b.handed
  few_tickets b s k =
      let le : sum_by tickets s.views ≤ sum_by lanes s.views = sum_le tickets lanes s.views (λ i v at. few_of v b i v.role refl (k.each i v at)) in
      let is : sum_by lanes s.views ≡ b.handed = k.lanes_are in omega arith

  -- a view that isn't inside may change
  pub lies_else : (b c : B) (homes : Homes) (vs : List (View S)) (id : ℕ) (v w : View S) → c.log ≡ b.log → c.first ≡ b.first → get_elem? vs id ≡ some v → ((t : ℕ) (x : S) → v.stage ≢ Inside t x)
      → (p : Place S) → Lies loaded journal b homes vs p → Lies loaded journal c homes (set vs id w) p
  lies_else b c homes vs id v w g f at not (home x) l = (l.0, (l.1.0 ∙ sym g, l.1.1 ∙ sym f))
  lies_else b c homes vs id v w g f at not (away h) l =
      let u : View S = l.1.0 in let t : ℕ = l.1.1 in let x : S = l.1.2 in
      let apart : h ≢ id = λ same. not t x (ap (λ (z : View S). z.stage) (some-injective v u (sym at ∙ (ap (get_elem? vs) (sym same) ∙ l.1.3))) ∙ l.1.5) in
      (l.0, (u, t, x, set_else vs id h w apart ∙ l.1.3, l.1.4, l.1.5))

  -- a load with nothing else
  pub unmoved : (s : St) (i id : ℕ) (v : View S) → get_elem? s.views id ≡ some v → Rule s → Rule record { words = set s.words i (get_or s.words i 0); homes = s.homes; views = set s.views id v }
  unmoved s i id v at r =
      subst (λ (z : List ℕ × List (View S)). Rule record { words = z.0; homes = s.homes; views = z.1 }) (λ k. (sym (set-get_or s.words i 0) k, sym (set_again s.views id v at) k)) r
