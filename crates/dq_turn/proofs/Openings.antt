-- A new turnstile meets the rule.
use Rattle.std.proofs.Common.{◌≡◌, ℕ, zero, suc, List, [], ◌∷◌, sym, refl, subst, arith, Option, Some}
use mathlib.Core.Option.{some, some-injective, some-ne-none}
use lib.ListN.{get_elem?}
use Rattle.atomic_table.specs.Table.{State, opening}
use Rattle.dq_journal.specs.declared.entry.Entry.{Entry}
use Rattle.dq_turn.specs.declared.views.View.{View}
use Rattle.dq_turn.specs.Views.{first_keeper}
use Rattle.dq_turn.specs.Turning.{home, Book, Knows, Turning}

module _ {S L : Type 0} (loaded : S → L) (journal : S → List Entry) where
  abbrev B : Type 0
  B = Book S L

  abbrev St : Type 0
  St = State (Option S) (View S)

  abbrev Rule : St → Type 0
  Rule = Turning loaded journal

  -- a turnstile before the first lane
  abbrev opened : S → B
  opened x = record { drawn = 0; passed = 0; handed = 0; log = []; first = loaded x; owner = λ _. 0; seat = λ _. 0; place = home x }

  first_knows : (x : S) (id : ℕ) (v : View S) → get_elem? (first_keeper x ∷ []) id ≡ some v → Knows loaded journal (opened x) id v
  first_knows x zero v at = subst (Knows loaded journal (opened x) 0) (some-injective (first_keeper x) v at)
      record { id_is = refl; given = refl; stage = refl; handed = refl; seen = ([], refl); before = ([], refl); joined = tt }
  first_knows x (suc id) v at = absurd (some-ne-none v (sym at))

  pub opens : (x : S) → journal x ≡ [] → Rule (opening (0 ∷ 0 ∷ 0 ∷ []) (Some x ∷ []) (first_keeper x))
  opens x empty = (
    opened x,
    record {
      words = refl;
      short = omega arith;
      tickets_are = refl;
      lanes_are = refl;
      few = omega arith;
      lies = (refl, (empty, refl));
      each = first_knows x;
      others = λ lane none. refl;
    },
  )
