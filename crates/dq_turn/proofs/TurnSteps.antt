-- The steps of a turn keep the rule: a ticket is drawn, its turn comes, the journal's length is counted, and the turn is past.
use Rattle.std.proofs.Common.{◌≡◌, ◌≢◌, ℕ, ◌+◌, ◌%◌, ◌^◌, ◌<◌, ◌≤◌, false, List, [], ◌∷◌, length, set, get_or, sum_by, sym, refl, ap, ◌∙◌, subst, arith, Option, Some, None, true≢false, is_some, unwrap_or}
use mathlib.Core.Logic.{dite}
use mathlib.Core.Option.{none, some, some-injective}
use mathlib.Core.Option as maybe
use lib.Seq.{set-get_or}
use native.Mathlib.Decide.{ℕ_discrete}
use lib.ListN.{get_elem?}
use Rattle.atomic_table.specs.Table.{State, Act, keeps, takes, gives, put_back, stepped, Valid, carried_after, Allows}
use Rattle.atomic_table.proofs.Lists.{set_here, one_turn}
use Rattle.dq_journal.specs.declared.entry.Entry.{Entry}
use Rattle.dq_turn.specs.declared.views.Role.TheVariants.{Lane}
use Rattle.dq_turn.specs.declared.views.Stage.{Stage}
use Rattle.dq_turn.specs.declared.views.Stage.TheVariants.{Outside, Waiting, Inside}
use Rattle.dq_turn.specs.declared.views.View.{View}
use Rattle.dq_turn.specs.Made.{Begins, made, Grows}
use Rattle.dq_turn.specs.Views.{ticket_of, inside, is_waiting}
use Rattle.dq_turn.specs.Turning.{Place, home, away, Book, tickets_at, tickets, lanes, Fits, KnowsStage, KnowsLane, Knows, Lies, Kept, Turning}
use Rattle.dq_turn.specs.Steps.{Seated, in_turn, counting, drew, passed, Follows, Takes, watched, counted}
use Rattle.dq_turn.proofs.Journals.{begins_same, grows_begins, grows_other}
use Rattle.dq_turn.proofs.Sums.{put, put_here, put_else, below, one_at, each_set, sum_set}
use Rattle.dq_turn.proofs.Books.{home≢away, one_holder, outside≢inside, waiting≢inside, lane_of_role, role_of_lane, stage_of, lane_moves, keeper_moves, moves, few_tickets, lies_else, unmoved}

never : (A : Type 0) → ⊥ → A
never A h = absurd h

module _ {S L : Type 0} (loaded : S → L) (journal : S → List Entry) where
  abbrev B : Type 0
  B = Book S L

  abbrev St : Type 0
  St = State (Option S) (View S)

  abbrev M : Type 0
  M = Seated S

  abbrev Rule : St → Type 0
  Rule = Turning loaded journal

  -- the views' counts, where a view becomes w
  abbrev Counted : List (View S) → ℕ → View S → View S → Type 0
  Counted vs id v w = (sum_by tickets (set vs id w) + tickets v ≡ sum_by tickets vs + tickets w) × (sum_by lanes (set vs id w) + lanes v ≡ sum_by lanes vs + lanes w)

  counts_set : (vs : List (View S)) (id : ℕ) (v w : View S) → get_elem? vs id ≡ some v → Counted vs id v w
  counts_set vs id v w at = (sum_set tickets vs id v w at, sum_set lanes vs id v w at)

  -- the book, where a ticket was drawn
  abbrev drawing : B → ℕ → B
  drawing b id = record b { drawn = b.drawn + 1; owner = put b.owner b.drawn id }

  draw_stage : (b : B) (id j : ℕ) (t : Stage S) → KnowsStage loaded journal b j t → KnowsStage loaded journal (drawing b id) j t
  draw_stage b id j Outside k = tt
  draw_stage b id j (Waiting t) k = let k1 : t < b.drawn = k.1 in (k.0, omega arith, put_else b.owner b.drawn id t (λ e. omega arith) ∙ k.2)
  draw_stage b id j (Inside t x) k = let k1 : t < b.drawn = k.1 in (k.0, omega arith, put_else b.owner b.drawn id t (λ e. omega arith) ∙ k.2, k.3, k.4)

  draw_kept : (b : B) (s : St) (id : ℕ) (v : View S) → Kept loaded journal b s → get_elem? s.views id ≡ some v → v.role ≡ Lane → v.stage ≡ Outside
      → Kept loaded journal (drawing b id) record { words = set s.words 0 ((get_or s.words 0 0 + 1) % 2 ^ 64); homes = s.homes; views = set s.views id (record v { stage = Waiting b.drawn }) }
  draw_kept b s id v k at role out =
      let w : View S = record v { stage = Waiting b.drawn } in let c : B = drawing b id in
      let mine = lane_of_role loaded journal b id v role (k.each id v at) in
      let sums = counts_set s.views id v w at in
      let none : tickets v ≡ 0 = ap tickets_at out in
      let t : b.drawn ≡ b.passed + sum_by tickets s.views = k.tickets_are in
      let t' : sum_by tickets (set s.views id w) + tickets v ≡ sum_by tickets s.views + 1 = sums.0 in
      let l' : sum_by lanes (set s.views id w) + lanes v ≡ sum_by lanes s.views + lanes v = sums.1 in
      let l : sum_by lanes s.views ≡ b.handed = k.lanes_are in
      record {
        words = ap (λ (ws : List ℕ). set ws 0 ((get_or ws 0 0 + 1) % 2 ^ 64)) k.words ∙ ap (λ (n : ℕ). n ∷ (b.passed % 2 ^ 64) ∷ length b.log ∷ []) (let e : (b.drawn % 2 ^ 64 + 1) % 2 ^ 64 ≡ (b.drawn + 1) % 2 ^ 64 = omega arith in e);
        short = k.short;
        tickets_are = omega arith;
        lanes_are = omega arith;
        few = k.few;
        lies = lies_else loaded journal b c s.homes s.views id v w refl refl at (λ u x e. outside≢inside u x (sym out ∙ e)) b.place k.lies;
        each = each_set (Knows loaded journal c) s.views id w
            (role_of_lane loaded journal c id w role record { not_keeper = mine.not_keeper; given = mine.given; lane = mine.lane; seat = mine.seat; seen = mine.seen; own_seen = mine.own_seen; own = mine.own; stage = (omega arith, omega arith, put_here b.owner b.drawn id) })
            (λ j u other there. moves loaded journal b c j u
            (λ h. lane_moves loaded journal b c j u h refl h.lane.1 h.seat (begins_same b.log) refl (draw_stage b id j u.stage h.stage))
            (λ h. keeper_moves loaded journal b c j u h refl refl (λ lane pos up is. (is, refl)) (begins_same b.log)) u.role (k.each j u there));
        others = k.others;
      }

  pub draws : (n id : ℕ) (me : M) → me.0.role ≡ Lane → me.0.stage ≡ Outside → Allows Rule n id me 0 (λ y. (y + 1) % 2 ^ 64) (drew me)
  draws n id me role out s r wide at small = let b : B = r.0 in (
    record me.0 { stage = Waiting b.drawn },
    keeps,
    tt,
    (drawing b id, draw_kept b s id me.0 r.1 at role out),
    (b.drawn, ap (λ (ws : List ℕ). get_or ws 0 0) r.1.words, refl),
  )

  -- where its ticket has the turn, the state is at home
  at_home : (b : B) (s : St) (id : ℕ) (v : View S) (t : ℕ) → Kept loaded journal b s → get_elem? s.views id ≡ some v → v.stage ≡ Waiting t → t ≡ b.passed → b.owner t ≡ id
      → (p : Place S) → b.place ≡ p → Lies loaded journal b s.homes s.views p → (x : S) × (s.homes ≡ some (Some x) ∷ []) × (b.place ≡ home x) × Fits loaded journal b x
  at_home b s id v t k at st turn mine (home x) is l = (x, l.0, is, l.1)
  at_home b s id v t k at st turn mine (away h) is l =
      let u : View S = l.1.0 in let t' : ℕ = l.1.1 in let x : S = l.1.2 in
      let theirs = stage_of loaded journal b h u (Inside t' x) l.1.5 (lane_of_role loaded journal b h u l.1.4 (k.each h u l.1.3)) in
      let same : h ≡ id = sym theirs.2 ∙ (ap b.owner (theirs.0 ∙ sym turn) ∙ mine) in
      absurd (waiting≢inside t t' x (sym st ∙ (ap (λ (z : View S). z.stage) (one_at s.views id v u at (ap (get_elem? s.views) (sym same) ∙ l.1.3)) ∙ l.1.5)))

  -- the book, where the state went to a seat
  abbrev taking : B → ℕ → B
  taking b id = record b { place = away id }

  take_stage : (b : B) (id j : ℕ) (x : S) → b.place ≡ home x → (t : Stage S) → KnowsStage loaded journal b j t → KnowsStage loaded journal (taking b id) j t
  take_stage b id j x is Outside k = tt
  take_stage b id j x is (Waiting t) k = k
  take_stage b id j x is (Inside t y) k = absurd (home≢away x j (sym is ∙ k.3))

  take_kept : (b : B) (s : St) (id : ℕ) (v : View S) (t : ℕ) (x : S) → Kept loaded journal b s → get_elem? s.views id ≡ some v → v.role ≡ Lane → v.stage ≡ Waiting t → t ≡ b.passed
      → s.homes ≡ some (Some x) ∷ [] → b.place ≡ home x → Fits loaded journal b x
      → Kept loaded journal (taking b id) record { words = s.words; homes = set s.homes 0 none; views = set s.views id (record v { stage = Inside t x }) }
  take_kept b s id v t x k at role st turn homes place fits =
      let w : View S = record v { stage = Inside t x } in let c : B = taking b id in
      let mine = lane_of_role loaded journal b id v role (k.each id v at) in
      let knew = stage_of loaded journal b id v (Waiting t) st mine in
      let sums = counts_set s.views id v w at in
      let one : tickets v ≡ 1 = ap tickets_at st in
      let n : b.drawn ≡ b.passed + sum_by tickets s.views = k.tickets_are in
      let n' : sum_by tickets (set s.views id w) + tickets v ≡ sum_by tickets s.views + 1 = sums.0 in
      let l' : sum_by lanes (set s.views id w) + lanes v ≡ sum_by lanes s.views + lanes v = sums.1 in
      let l : sum_by lanes s.views ≡ b.handed = k.lanes_are in
      record {
        words = k.words;
        short = k.short;
        tickets_are = omega arith;
        lanes_are = omega arith;
        few = k.few;
        lies = (ap (λ hs. set hs 0 none) homes, (w, t, x, set_here s.views id w (below s.views id v at), role, refl));
        each = each_set (Knows loaded journal c) s.views id w
            (role_of_lane loaded journal c id w role record { not_keeper = mine.not_keeper; given = mine.given; lane = mine.lane; seat = mine.seat; seen = mine.seen; own_seen = mine.own_seen; own = mine.own; stage = (turn, knew.1, knew.2, refl, fits) })
            (λ j u other there. moves loaded journal b c j u
            (λ h. lane_moves loaded journal b c j u h refl h.lane.1 h.seat (begins_same b.log) refl (take_stage b id j x place u.stage h.stage))
            (λ h. keeper_moves loaded journal b c j u h refl refl (λ lane pos up is. (is, refl)) (begins_same b.log)) u.role (k.each j u there));
        others = k.others;
      }

  follows : (b : B) (id : ℕ) (v : View S) (x : S) → KnowsLane loaded journal b id v → Fits loaded journal b x → length b.log ≤ 2 ^ 63 → Follows loaded journal v x
  follows b id v x h fits short = (
    h.given ∙ ap Some (sym fits.1),
    subst (Begins v.seen) (sym fits.0) h.seen,
    ap (made v.lane) fits.0 ∙ h.own,
    h.own_seen,
    subst (λ (l : List Entry). length l ≤ 2 ^ 63) (sym fits.0) short,
  )

  abbrev Watches : ℕ → M → (ℕ → M → Type 0) → St → Type 0
  Watches id me then s = (w : View S) × (a : Act (Option S)) × Valid s.homes me.1 a × Rule (stepped s 1 (get_or s.words 1 0) id me.1 w a) × then (get_or s.words 1 0) (w, carried_after me.1 a)

  watch_takes : (id : ℕ) (me : M) (t : ℕ) (s : St) (b : B) (x : S) → Kept loaded journal b s → me.0.role ≡ Lane → me.0.stage ≡ Waiting t → get_elem? s.views id ≡ some me.0 → get_or s.words 1 0 ≡ t % 2 ^ 64
      → t ≡ b.passed → s.homes ≡ some (Some x) ∷ [] → b.place ≡ home x → Fits loaded journal b x → Watches id me (watched loaded journal me) s
  watch_takes id me t s b x k role st at hit turn homes place fits =
      let same : ticket_of me.0.stage ≡ t = ap ticket_of st in (
        in_turn me.0 x,
        takes 0 (Some x),
        ap (λ hs. get_elem? hs 0) homes,
        (
          taking b id,
          subst (λ (z : List ℕ × ℕ). Kept loaded journal (taking b id) record { words = z.0; homes = set s.homes 0 none; views = set s.views id (record me.0 { stage = Inside z.1 x }) })
              (λ i. (sym (set-get_or s.words 1 0) i, sym same i)) (take_kept b s id me.0 t x k at role st turn homes place fits),
        ),
        ((λ _. (x, refl, follows b id me.0 x (lane_of_role loaded journal b id me.0 role (k.each id me.0 at)) fits k.short)), λ miss. never ((in_turn me.0 x, (0, Some x) ∷ me.1) ≡ me) (miss (hit ∙ ap (λ (z : ℕ). z % 2 ^ 64) (sym same)))),
      )

  watch_hit : (id : ℕ) (me : M) (t : ℕ) (s : St) (b : B) → Kept loaded journal b s → me.0.role ≡ Lane → me.0.stage ≡ Waiting t → get_elem? s.views id ≡ some me.0 → get_or s.words 1 0 ≡ t % 2 ^ 64
      → Watches id me (watched loaded journal me) s
  watch_hit id me t s b k role st at hit =
      let knew = stage_of loaded journal b id me.0 (Waiting t) st (lane_of_role loaded journal b id me.0 role (k.each id me.0 at)) in
      let word : get_or s.words 1 0 ≡ b.passed % 2 ^ 64 = ap (λ (ws : List ℕ). get_or ws 1 0) k.words in
      let drawn : b.drawn ≡ b.passed + sum_by tickets s.views = k.tickets_are in
      let some_few : sum_by tickets s.views ≤ b.handed = few_tickets loaded journal b s k in
      let few : b.handed < 2 ^ 32 = k.few in
      let k0 : b.passed ≤ t = knew.0 in let k1 : t < b.drawn = knew.1 in
      let turn : t ≡ b.passed = sym (one_turn b.passed t (2 ^ 64) k0 (omega arith) (sym word ∙ hit)) in
      let found = at_home b s id me.0 t k at st turn knew.2 b.place refl k.lies in
      watch_takes id me t s b found.0 k role st at hit turn found.1 found.2 found.3

  watch_miss : (id : ℕ) (me : M) (t : ℕ) (s : St) → Rule s → me.0.stage ≡ Waiting t → get_elem? s.views id ≡ some me.0 → get_or s.words 1 0 ≢ t % 2 ^ 64 → Watches id me (watched loaded journal me) s
  watch_miss id me t s r st at miss =
      let same : ticket_of me.0.stage ≡ t = ap ticket_of st in (
        me.0,
        keeps,
        tt,
        unmoved loaded journal s 1 id me.0 at r,
        ((λ hit. never (Takes loaded journal me me) (miss (hit ∙ ap (λ (z : ℕ). z % 2 ^ 64) same))), λ _. refl),
      )

  pub watches : (n id : ℕ) (me : M) (t : ℕ) → me.0.role ≡ Lane → me.0.stage ≡ Waiting t → Allows Rule n id me 1 (λ y. y) (watched loaded journal me)
  watches n id me t role st s r wide at small =
      dite (ℕ_discrete (get_or s.words 1 0) (t % 2 ^ 64)) (λ hit. watch_hit id me t s r.0 r.1 role st at hit) (λ miss. watch_miss id me t s r st at miss)

  -- the book, where the history is the journal of y
  abbrev writing : B → S → B
  writing b y = record b { log = journal y }

  write_stage : (b : B) (id j : ℕ) (y : S) → j ≢ id → b.place ≡ away id → (t : Stage S) → KnowsStage loaded journal b j t → KnowsStage loaded journal (writing b y) j t
  write_stage b id j y other place Outside k = tt
  write_stage b id j y other place (Waiting t) k = k
  write_stage b id j y other place (Inside t x) k = absurd (other (one_holder b.place j id k.3 place))

  is_empty : (b : B) (homes : List (maybe.Option (Option S))) (vs : List (View S)) (id : ℕ) (p : Place S) → p ≡ away id → Lies loaded journal b homes vs p → homes ≡ none ∷ []
  is_empty b homes vs id (home x) is l = absurd (home≢away x id is)
  is_empty b homes vs id (away h) is l = l.0

  write_kept : (b : B) (s : St) (id : ℕ) (v : View S) (t k : ℕ) (x y : S) → Kept loaded journal b s → get_elem? s.views id ≡ some v → v.role ≡ Lane → v.stage ≡ Inside t x
      → loaded y ≡ loaded x → Grows v.lane (journal x) (journal y) → length (journal x) + k ≡ length (journal y) → length (journal y) ≤ 2 ^ 63
      → Kept loaded journal (writing b y) record { words = set s.words 2 ((get_or s.words 2 0 + k) % 2 ^ 64); homes = s.homes; views = set s.views id (record v { stage = Inside t y; seen = journal y; own = made v.lane (journal y) }) }
  write_kept b s id v t k x y r at role st same grows more short =
      let w : View S = record v { stage = Inside t y; seen = journal y; own = made v.lane (journal y) } in let c : B = writing b y in
      let mine = lane_of_role loaded journal b id v role (r.each id v at) in
      let knew = stage_of loaded journal b id v (Inside t x) st mine in
      let fits : Fits loaded journal b x = knew.4 in
      let grown : Grows v.lane b.log (journal y) = subst (λ (l : List Entry). Grows v.lane l (journal y)) fits.0 grows in
      let begins : Begins b.log (journal y) = grows_begins v.lane b.log (journal y) grown in
      let sums = counts_set s.views id v w at in
      let one : tickets v ≡ 1 = ap tickets_at st in
      let n : b.drawn ≡ b.passed + sum_by tickets s.views = r.tickets_are in
      let n' : sum_by tickets (set s.views id w) + tickets v ≡ sum_by tickets s.views + 1 = sums.0 in
      let l' : sum_by lanes (set s.views id w) + lanes v ≡ sum_by lanes s.views + lanes v = sums.1 in
      let l : sum_by lanes s.views ≡ b.handed = r.lanes_are in
      let from : length b.log + k ≡ length (journal y) = ap (λ (z : List Entry). length z + k) (sym fits.0) ∙ more in
      let other_lane : (j : ℕ) (lane : ℕ) → j ≢ id → b.seat lane ≡ j → lane ≢ v.lane = λ j lane other is e. other (sym is ∙ (ap b.seat e ∙ mine.seat)) in
      let not_zero : 0 ≢ id = λ e. (let pos : 0 < id = mine.not_keeper in omega arith) in
      record {
        words = ap (λ (ws : List ℕ). set ws 2 ((get_or ws 2 0 + k) % 2 ^ 64)) r.words ∙ ap (λ (z : ℕ). (b.drawn % 2 ^ 64) ∷ (b.passed % 2 ^ 64) ∷ z ∷ []) (let e : (length b.log + k) % 2 ^ 64 ≡ length (journal y) = omega arith in e);
        short = short;
        tickets_are = omega arith;
        lanes_are = omega arith;
        few = r.few;
        lies = subst (Lies loaded journal c s.homes (set s.views id w)) (sym knew.3) (is_empty b s.homes s.views id b.place knew.3 r.lies, (w, t, y, set_here s.views id w (below s.views id v at), role, refl));
        each = each_set (Knows loaded journal c) s.views id w
            (role_of_lane loaded journal c id w role record { not_keeper = mine.not_keeper; given = mine.given; lane = mine.lane; seat = mine.seat; seen = begins_same (journal y); own_seen = refl; own = refl; stage = (knew.0, knew.1, knew.2, knew.3, (refl, same ∙ fits.1)) })
            (λ j u other there. moves loaded journal b c j u
            (λ h. lane_moves loaded journal b c j u h refl h.lane.1 h.seat begins (grows_other v.lane u.lane b.log (journal y) (other_lane j u.lane other h.seat) grown) (write_stage b id j y other knew.3 u.stage h.stage))
            (λ h. keeper_moves loaded journal b c j u h refl refl (λ lane pos up is. (is, grows_other v.lane lane b.log (journal y) (other_lane 0 lane not_zero is) grown)) begins) u.role (r.each j u there));
        others = λ lane none. grows_other v.lane lane b.log (journal y) (λ e. (let e' : lane ≡ v.lane = e in let pos : 0 < v.lane = mine.lane.0 in let up : v.lane ≤ b.handed = mine.lane.1 in let far : b.handed < lane = none (omega arith) in omega arith)) grown ∙ r.others lane none;
      }

  abbrev state_or : S → List (ℕ × Option S) → S
  state_or d [] = d
  state_or d (x ∷ xs) = unwrap_or x.1 d

  pub counts : (n id : ℕ) (me : M) (t k : ℕ) (x y : S) → me.0.role ≡ Lane → me.0.stage ≡ Inside t x → me.1 ≡ (0, Some y) ∷ [] → loaded y ≡ loaded x → Grows me.0.lane (journal x) (journal y)
      → length (journal x) + k ≡ length (journal y) → length (journal y) ≤ 2 ^ 63 → Allows Rule n id me 2 (λ z. (z + k) % 2 ^ 64) (λ r m. counted loaded journal me m)
  counts n id me t k x y role st hand same grows more short s r wide at small =
      let is : ticket_of me.0.stage ≡ t = ap ticket_of st in (
        counting me.0 y (journal y),
        keeps,
        tt,
        (
          writing r.0 y,
          subst (λ (z : ℕ). Kept loaded journal (writing r.0 y) record { words = set s.words 2 ((get_or s.words 2 0 + k) % 2 ^ 64); homes = s.homes; views = set s.views id (record me.0 { stage = Inside z y; seen = journal y; own = made me.0.lane (journal y) }) })
              (sym is) (write_kept r.0 s id me.0 t k x y r.1 at role st same grows more short),
        ),
        λ z hand'. ap (λ (u : S). (counting me.0 u (journal u), me.1)) (ap (state_or y) (sym hand ∙ hand')),
      )

  -- the book, where a turn is past and y is at home
  abbrev passing : B → S → B
  passing b y = record b { passed = b.passed + 1; place = home y }

  pass_stage : (b : B) (id j : ℕ) (y : S) → j ≢ id → b.place ≡ away id → b.owner b.passed ≡ id → (t : Stage S) → KnowsStage loaded journal b j t → KnowsStage loaded journal (passing b y) j t
  pass_stage b id j y other place mine Outside k = tt
  pass_stage b id j y other place mine (Waiting t) k =
      let later : b.passed ≢ t = λ e. other (sym k.2 ∙ (ap b.owner (sym e) ∙ mine)) in let k0 : b.passed ≤ t = k.0 in (omega arith, k.1, k.2)
  pass_stage b id j y other place mine (Inside t x) k = absurd (other (one_holder b.place j id k.3 place))

  pass_kept : (b : B) (s : St) (id : ℕ) (v : View S) (t : ℕ) (y : S) → Kept loaded journal b s → get_elem? s.views id ≡ some v → v.role ≡ Lane → v.stage ≡ Inside t y
      → Kept loaded journal (passing b y) record { words = set s.words 1 ((get_or s.words 1 0 + 1) % 2 ^ 64); homes = set s.homes 0 (some (Some y)); views = set s.views id (record v { stage = Outside }) }
  pass_kept b s id v t y r at role st =
      let w : View S = record v { stage = Outside } in let c : B = passing b y in
      let mine = lane_of_role loaded journal b id v role (r.each id v at) in
      let knew = stage_of loaded journal b id v (Inside t y) st mine in
      let sums = counts_set s.views id v w at in
      let one : tickets v ≡ 1 = ap tickets_at st in
      let n : b.drawn ≡ b.passed + sum_by tickets s.views = r.tickets_are in
      let n' : sum_by tickets (set s.views id w) + tickets v ≡ sum_by tickets s.views + 0 = sums.0 in
      let l' : sum_by lanes (set s.views id w) + lanes v ≡ sum_by lanes s.views + lanes v = sums.1 in
      let l : sum_by lanes s.views ≡ b.handed = r.lanes_are in
      record {
        words = ap (λ (ws : List ℕ). set ws 1 ((get_or ws 1 0 + 1) % 2 ^ 64)) r.words ∙ ap (λ (z : ℕ). (b.drawn % 2 ^ 64) ∷ z ∷ length b.log ∷ []) (let e : (b.passed % 2 ^ 64 + 1) % 2 ^ 64 ≡ (b.passed + 1) % 2 ^ 64 = omega arith in e);
        short = r.short;
        tickets_are = omega arith;
        lanes_are = omega arith;
        few = r.few;
        lies = (ap (λ hs. set hs 0 (some (Some y))) (is_empty b s.homes s.views id b.place knew.3 r.lies), knew.4);
        each = each_set (Knows loaded journal c) s.views id w
            (role_of_lane loaded journal c id w role record { not_keeper = mine.not_keeper; given = mine.given; lane = mine.lane; seat = mine.seat; seen = mine.seen; own_seen = mine.own_seen; own = mine.own; stage = tt })
            (λ j u other there. moves loaded journal b c j u
            (λ h. lane_moves loaded journal b c j u h refl h.lane.1 h.seat (begins_same b.log) refl (pass_stage b id j y other knew.3 (ap b.owner (sym knew.0) ∙ knew.2) u.stage h.stage))
            (λ h. keeper_moves loaded journal b c j u h refl refl (λ lane pos up is. (is, refl)) (begins_same b.log)) u.role (r.each j u there));
        others = r.others;
      }

  pub passes : (n id : ℕ) (me : M) (t : ℕ) (y : S) → me.0.role ≡ Lane → me.0.stage ≡ Inside t y → me.1 ≡ (0, Some y) ∷ [] → Allows Rule n id me 1 (λ z. (z + 1) % 2 ^ 64) (λ r m. passed me m)
  passes n id me t y role st hand s r wide at small = (
    record me.0 { stage = Outside },
    gives,
    tt,
    (
      passing r.0 y,
      subst (λ (hs : List (maybe.Option (Option S))). Kept loaded journal (passing r.0 y) record { words = set s.words 1 ((get_or s.words 1 0 + 1) % 2 ^ 64); homes = hs; views = set s.views id (record me.0 { stage = Outside }) })
          (sym (ap (put_back s.homes) hand)) (pass_kept r.0 s id me.0 t y r.1 at role st),
    ),
    refl,
  )

-- a seat that has left, or not entered yet, is outside
pub is_outside : {S : Type 0} (t : Stage S) → inside t ≡ None → is_waiting t ≡ false → t ≡ Outside
is_outside Outside e w = refl
is_outside (Waiting t) e w = absurd (true≢false w)
is_outside (Inside t x) e w = absurd (true≢false (ap is_some e))

pub is_inside : {S : Type 0} (t : Stage S) (x : S) → inside t ≡ Some x → t ≡ Inside (ticket_of t) x
is_inside Outside x e = absurd (true≢false (sym (ap is_some e)))
is_inside (Waiting t) x e = absurd (true≢false (sym (ap is_some e)))
is_inside (Inside t y) x e = ap (Inside t) (ap (λ o. unwrap_or o y) e)
