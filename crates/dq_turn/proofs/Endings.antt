-- What the state has once all seats were joined.
use Rattle.std.proofs.Common.{◌≡◌, ◌≢◌, ℕ, ◌+◌, ◌<◌, ◌≤◌, List, [], ◌∷◌, length, sum_by, sym, ap, ◌∙◌, subst, arith, Option, Some, None, option_map, true≢false, is_some, unwrap_or}
use mathlib.Core.Option.{some, some-injective}
use lib.ListN.{get_elem?}
use Rattle.atomic_table.specs.Table.{State, Final, Seen as Known}
use Rattle.dq_journal.specs.declared.entry.Entry.{Entry}
use Rattle.dq_turn.specs.declared.views.Role.{Role}
use Rattle.dq_turn.specs.declared.views.Role.TheVariants.{Keeper}
use Rattle.dq_turn.specs.declared.views.Joined.{Joined}
use Rattle.dq_turn.specs.declared.views.View.{View}
use Rattle.dq_turn.specs.Made.{Begins, made}
use Rattle.dq_turn.specs.Turning.{Place, home, away, Book, lanes_at, lanes, Fits, AllJoined, Lies, Kept, Turning}
use Rattle.dq_turn.specs.Seen.{AllStand}
use Rattle.dq_turn.proofs.Journals.{begins_trans}
use Rattle.dq_turn.proofs.Sums.{one_at, sum_two}
use Rattle.dq_turn.proofs.Books.{keeper≢lane, keeper_of_role}

module _ {S L : Type 0} (loaded : S → L) (journal : S → List Entry) where
  abbrev B : Type 0
  B = Book S L

  abbrev St : Type 0
  St = State (Option S) (View S)

  abbrev Rule : St → Type 0
  Rule = Turning loaded journal

  -- what the state has once all seats were joined
  pub record Ends (k : View S) (x : S) : Type 0 where
    pub loaded_is : option_map loaded k.given ≡ Some (loaded x)
    pub seen : Begins k.seen (journal x)
    pub stand : AllStand (journal x) k.joined
    pub others : (lane : ℕ) → (0 < lane → k.handed < lane) → made lane (journal x) ≡ []

  all_stand : (b : B) (seen : List Entry) (js : List Joined) → Begins seen b.log → AllJoined loaded journal b seen js → AllStand b.log js
  all_stand b seen [] begins all = tt
  all_stand b seen (j ∷ js) begins all = (begins_trans j.seen seen b.log all.0.seen begins, all.0.own, all_stand b seen js begins all.1)

  last_home : (b : B) (s : St) (id : ℕ) (k : View S) → Kept loaded journal b s → get_elem? s.views id ≡ some k → k.role ≡ Keeper → length k.joined ≡ k.handed
      → (p : Place S) → Lies loaded journal b s.homes s.views p → (x : S) × (s.homes ≡ some (Some x) ∷ []) × Fits loaded journal b x
  last_home b s id k r at role all (home x) l = (x, l.0, l.1)
  last_home b s id k r at role all (away h) l =
      let u : View S = l.1.0 in
      let mine = keeper_of_role loaded journal b id k role (r.each id k at) in
      let apart : id ≢ h = λ e. keeper≢lane (sym role ∙ (ap (λ (z : View S). z.role) (one_at s.views id k u at (ap (get_elem? s.views) e ∙ l.1.3)) ∙ l.1.4)) in
      let two : lanes k + lanes u ≤ sum_by lanes s.views = sum_two lanes s.views id h k u apart at l.1.3 in
      let sum : sum_by lanes s.views ≡ b.handed = r.lanes_are in
      let is : k.handed ≡ b.handed = mine.handed in
      let a : lanes k ≡ length k.joined = ap (λ (q : Role). lanes_at q (length k.joined)) role in
      let c : lanes u ≡ 1 = ap (λ (q : Role). lanes_at q (length u.joined)) l.1.4 in
      let all' : length k.joined ≡ k.handed = all in
      absurd (omega arith)

  pub ends : (id : ℕ) (k : View S) (ws : List ℕ) (slots : List (Option S)) → k.role ≡ Keeper → length k.joined ≡ k.handed → Final (Known Rule id k) ws slots → (x : S) × (get_elem? slots 0 ≡ some (Some x)) × Ends k x
  ends id k ws slots role all f =
      let s : St = f.0 in let b : B = f.1.0.0 in let r : Kept loaded journal b s = f.1.0.1 in let at = f.1.1 in
      let found = last_home b s id k r at role all b.place r.lies in let x : S = found.0 in let fits : Fits loaded journal b x = found.2 in
      let mine = keeper_of_role loaded journal b id k role (r.each id k at) in (
        x,
        f.4 0 (Some x) (ap (λ hs. get_elem? hs 0) found.1),
        record {
          loaded_is = mine.given ∙ ap Some (sym fits.1);
          seen = subst (Begins k.seen) (sym fits.0) mine.seen;
          stand = subst (λ (l : List Entry). AllStand l k.joined) (sym fits.0) (all_stand b k.seen k.joined mine.seen mine.joined);
          others = λ lane none. ap (made lane) fits.0 ∙ r.others lane (λ pos. (let h : k.handed < lane = none pos in let is : k.handed ≡ b.handed = mine.handed in omega arith));
        },
      )

  -- what is taken out of the slot at the end is such a state
  pub never_none : (id : ℕ) (k : View S) (ws : List ℕ) (slots : List (Option S)) → k.role ≡ Keeper → length k.joined ≡ k.handed → Final (Known Rule id k) ws slots → get_elem? slots 0 ≢ some None
  never_none id k ws slots role all f e = let end = ends id k ws slots role all f in true≢false (ap is_some (some-injective (Some end.0) None (sym end.1 ∙ e)))

  pub last_state : (id : ℕ) (k : View S) (ws : List ℕ) (slots : List (Option S)) (x : S) → k.role ≡ Keeper → length k.joined ≡ k.handed → Final (Known Rule id k) ws slots → get_elem? slots 0 ≡ some (Some x) → Ends k x
  last_state id k ws slots x role all f e =
      let end = ends id k ws slots role all f in
      subst (Ends k) (ap (λ o. unwrap_or o x) (some-injective (Some end.0) (Some x) (sym end.1 ∙ e))) end.2
