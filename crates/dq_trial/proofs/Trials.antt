-- A statement on a link that was made ready comes to what is said of a trial.
use Rattle.std.proofs.Common.{◌≡◌, ◌≢◌, inl, inr, ℕ, ◌+◌, ◌≤◌, Bool, true, false, ◌&&◌, eqb, List, refl, sym, ap, ◌∙◌, arith}
use Rattle.std.proofs.lemmas.Bool.{eq-eqb, le-leb}
use Rattle.std.proofs.lemmas.Bool.Decides.{eqb_tells}
use Rattle.std.specs.Prelude.{◌⊎◌, Option, Some, None, IfSome, nat_eq, nat_le, if◌then◌else◌}
use Rattle.dq_base.specs.Answers.{answer}
use Rattle.dq_base.specs.Headings.{Heading}
use Rattle.dq_base.specs.Versions.{Version}
use Rattle.dq_base.specs.declared.cell.Cell.{Cell}
use Rattle.dq_base.specs.declared.query.Query.{Query}
use Rattle.dq_link.proofs.OneMeaning.{one_meaning}
use Rattle.dq_link.specs.Meanings.{Means}
use Rattle.dq_link.specs.Mirrors.{readied, readying_count}
use Rattle.dq_link.specs.Mounts.{Holdings, Mounted, Mounts, Same, SetAt}
use Rattle.dq_link.specs.Views.{LostLink, PooledLink}
use Rattle.dq_machine.proofs.Reached.{and_both}
use Rattle.dq_machine.specs.Leasing.{Reach, given_as, lost_as, ran_as, reach, unran_as}
use Rattle.dq_machine.specs.State.{Flown, LinkOf, Publication}
use Rattle.dq_text.specs.Said.{said}
use Rattle.dq_text.specs.Statements.{spelling}
use Rattle.dq_text.specs.declared.statement.Statement.{Statement}
use Rattle.dq_trial.specs.Links.{AreNamed, IsLink, IsNamed, IsPlanned, LinkTells}
use Rattle.dq_trial.specs.Running.{Breaks, Brings, OfTried, RunsAs, Stays}
use Rattle.dq_trial.specs.Trying.{Answers, Gives, Loses, Trial, TriedAs}
use Rattle.dq_trial.specs.declared.trying.Tried.{Tried}
use Rattle.dq_trial.specs.declared.trying.Tried.TheVariants.{Answered, Wanting, Lost}

-- counts

-- as many calls made it ready as the machine allows
within : (k : LinkOf) (f : Flown) (n : ℕ) (b : Bool) → k.sure ≡ b → (k.sure ≡ true → n ≡ readying_count k.mirror f.stamp f.key) → n ≤ 33
    → ((reach k (Some f)).low ≤ n) × (n ≤ (reach k (Some f)).high)
within k f n true sure count few = rw sure (omega (arith, count sure), omega (arith, count sure))
within k f n false sure count few = rw sure (omega arith, omega (arith, few))

ran_so : (r : Reach) (ran called n runs calls : ℕ) → r.low ≤ n → n ≤ r.high → runs ≡ ran + 1 → calls ≡ called + n + 1 → ran_as ran called r runs calls ≡ true
ran_so r ran called n runs calls low high is_runs is_calls =
    and_both (nat_eq runs (ran + 1)) (nat_le (called + r.low + 1) calls && nat_le calls (called + r.high + 1)) (eq-eqb runs (ran + 1) is_runs)
    (and_both (nat_le (called + r.low + 1) calls) (nat_le calls (called + r.high + 1)) (le-leb (called + r.low + 1) calls (omega (arith, low, is_calls)))
    (le-leb calls (called + r.high + 1) (omega (arith, high, is_calls))))

unran_so : (r : Reach) (ran called n runs calls : ℕ) → n ≤ r.high → runs ≡ ran → calls ≡ called + n → unran_as 0 ran called r runs calls ≡ true
unran_so r ran called n runs calls high is_runs is_calls =
    and_both (nat_eq runs ran) (nat_le (called + 0) calls && nat_le calls (called + r.high)) (eq-eqb runs ran is_runs)
    (and_both (nat_le (called + 0) calls) (nat_le calls (called + r.high)) (le-leb (called + 0) calls (omega (arith, is_calls))) (le-leb calls (called + r.high) (omega (arith, high, is_calls))))

-- what is mounted

named_at : (schemas : List Heading) (versions : List Publication) (source s : ℕ) (m : Mounted) (before now : Option Mounted) → IfSome before (IsNamed schemas versions s)
    → IsNamed schemas versions source m → now ≡ (if nat_eq s source then Some m else before) → ((eqb s source ≡ true) × (s ≡ source)) ⊎ ((eqb s source ≡ false) × (s ≢ source))
    → IfSome now (IsNamed schemas versions s)
named_at schemas versions source s m before now old new is (inl (told, same)) = rw (is, told) (rw same new)
named_at schemas versions source s m before now old new is (inr (told, apart)) = rw (is, told) old

module _ {L : Type 0} (tells : LinkTells L) (t : Trial) (link ready : PooledLink L) (stamp : ℕ) (key : Query) (v : Version) (s : Statement) where
  -- what making ready left
  pub record IsReady (tables : L → Holdings) : Type 0 where
    pub number : ready.number ≡ link.number
    pub runs : tells.runs ready.link ≡ tells.runs link.link
    pub planned : tells.planned ready.link ≡ tells.planned link.link
    pub calls : tells.calls ready.link ≡ tells.calls link.link + readying_count link.mirror stamp key
    pub few : readying_count link.mirror stamp key ≤ 33
    pub mirror : ready.mirror ≡ readied link.mirror stamp key
    pub said : s ≡ said ready.mirror.tables stamp key
    pub means : Means (tells.mounts ready.link) (tables ready.link) (spelling s) (answer key v.rows)
    pub mounts : SetAt key.source (Some (record { stamp = stamp; version = v })) (tells.mounts link.link) (tells.mounts ready.link)

  module _ (h : IsLink tells t.loaded t.versions t.link link) (is_key : t.flight.key ≡ key) (is_stamp : t.flight.stamp ≡ stamp)
      (stood : IsNamed t.loaded.script.schemas t.versions key.source (record { stamp = stamp; version = v })) (tables : L → Holdings) (r : IsReady tables) where
    abbrev k : LinkOf
    k = t.link

    abbrev f : Flown
    f = t.flight

    abbrev n : ℕ
    n = readying_count link.mirror stamp key

    count : k.sure ≡ true → n ≡ readying_count k.mirror f.stamp f.key
    count sure = rw (is_key, is_stamp, h.mirror sure) refl

    reaches : ((reach k (Some f)).low ≤ n) × (n ≤ (reach k (Some f)).high)
    reaches = within k f n k.sure refl count r.few

    named : (p : PooledLink L) → Same (tells.mounts ready.link) (tells.mounts p.link) → AreNamed t.loaded.script.schemas t.versions (tells.mounts p.link)
    named p same source =
        named_at t.loaded.script.schemas t.versions key.source source (record { stamp = stamp; version = v }) (tells.mounts link.link source) (tells.mounts p.link source)
        (h.named source) stood (same source ∙ r.mounts source) (eqb_tells source key.source)

    said_so : (p : PooledLink L) → p.mirror ≡ ready.mirror → spelling s ≡ spelling (said p.mirror.tables f.stamp f.key)
    said_so p same = rw (r.said, same, is_key, is_stamp) refl

    mirror_so : (p : PooledLink L) → p.mirror ≡ ready.mirror → k.sure ≡ true → p.mirror ≡ readied k.mirror f.stamp f.key
    mirror_so p same sure = rw (is_key, is_stamp) (same ∙ r.mirror ∙ ap (λ m. readied m stamp key) (h.mirror sure))

    planned_so : (l : L) → tells.planned l ≡ tells.planned ready.link → IsPlanned t.loaded.script.fails (tells.planned l)
    planned_so l same = rw (same, r.planned) h.planned

    ran_counts : (runs calls : ℕ) → runs ≡ tells.runs ready.link + 1 → calls ≡ tells.calls ready.link + 1 → ran_as k.runs k.calls (reach k (Some f)) runs calls ≡ true
    ran_counts runs calls is_runs is_calls =
        ran_so (reach k (Some f)) k.runs k.calls n runs calls reaches.0 reaches.1 (omega (arith, is_runs, r.runs, h.runs)) (omega (arith, is_calls, r.calls, h.calls))

    gives_ran : (p : PooledLink L) → Stays tells.runs tells.calls tells.mounts tables ready (spelling s) true p → tells.planned p.link ≡ tells.planned ready.link → Gives tells t true p
    gives_ran p stays plan = record {
      number = stays.number ∙ r.number ∙ h.number;
      counts = ran_counts (tells.runs p.link) (tells.calls p.link) stays.ran_so stays.called_so;
      named = named p stays.stands;
      mirror = mirror_so p stays.mirror;
      text = stays.last refl ∙ ap (λ text. Some text) (said_so p stays.mirror);
      planned = planned_so p.link plan;
    }

    gives_unran : (p : PooledLink L) → Stays tells.runs tells.calls tells.mounts tables ready (spelling s) false p → tells.planned p.link ≡ tells.planned ready.link → Gives tells t false p
    gives_unran p stays plan = record {
      number = stays.number ∙ r.number ∙ h.number;
      counts = unran_so (reach k (Some f)) k.runs k.calls n (tells.runs p.link) (tells.calls p.link) reaches.1 (omega (arith, stays.ran_so, r.runs, h.runs))
          (omega (arith, stays.called_so, r.calls, h.calls));
      named = named p stays.stands;
      mirror = tt;
      text = tt;
      planned = planned_so p.link plan;
    }

    pub tried : (result : Tried L) → RunsAs tells.runs tells.calls tells.mounts tables ready (spelling s) result → OfTried (λ l. tells.planned l ≡ tells.planned ready.link) result
        → TriedAs tells t result
    tried (Answered p rows) brings plan = record {
      gives = gives_ran p brings.stays plan;
      table = rw (is_key, is_stamp) (one_meaning (tells.mounts ready.link) (tables ready.link) (spelling s) rows (answer key v.rows) brings.means r.means ∙ ap (answer key) stood.rows);
    }
    tried (Wanting p true) stays plan = gives_ran p stays plan
    tried (Wanting p false) stays plan = gives_unran p stays plan
    tried (Lost w true) breaks plan = record {
      number = breaks.1.number ∙ r.number ∙ h.number;
      counts = ran_counts (tells.runs w.link) (tells.calls w.link) breaks.1.ran_so breaks.1.called_so;
      planned = planned_so w.link plan;
    }
    tried (Lost w false) breaks plan = cc
