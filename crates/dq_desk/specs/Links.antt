-- How the links of a desk agree with those of the machine.
use Rattle.std.specs.Prelude.{◌≡◌, ⊤, ℕ, ◌+◌, Bool, true, false, List, [], ◌∷◌, ◌++◌, Option}
use Rattle.dq_base.specs.declared.script.Fails.{Fails}
use Rattle.dq_extract.specs.Loads.{LoadedFiles}
use Rattle.dq_journal.specs.declared.entry.Entry.{Entry}
use Rattle.dq_journal.specs.declared.entry.Entry.TheVariants.{Publish, Admit, Lease, Give, Lose, Land, Fall, Take, End}
use Rattle.dq_link.specs.Mirrors.{Mirror}
use Rattle.dq_link.specs.Views.{PooledLink, LostLink}
use Rattle.dq_link.specs.declared.pooled.Lost.{Lost}
use Rattle.dq_link.specs.declared.pooled.Lost.TheVariants.{Link, Dial}
use Rattle.dq_machine.specs.State.{Flown, LinkOf, Links, Phase, New, Leased, Given, Publication, State}
use Rattle.dq_trial.specs.Links.{IsLink, LinkTells, IsPlanned, MirrorAs}
use Rattle.dq_desk.specs.declared.leasing.Leased.{Leased as Lease_answer}
use Rattle.dq_desk.specs.declared.leasing.Leased.TheVariants as answer

module _ {L : Type 0} where
  -- one for each, in order
  abbrev pub AreLinks : LinkTells L → LoadedFiles → List Publication → List LinkOf → List (PooledLink L) → Type 0
  AreLinks tells l versions [] [] = Unit {0}
  AreLinks tells l versions [] (p ∷ ps) = ⊥
  AreLinks tells l versions (k ∷ ks) [] = ⊥
  AreLinks tells l versions (k ∷ ks) (p ∷ ps) = IsLink tells l versions k p × AreLinks tells l versions ks ps

  -- what a lease answers: the link that was given back last, or where none is idle the next number of a fresh one
  abbrev pub IsTop : LinkTells L → LoadedFiles → List Publication → List LinkOf → PooledLink L → Type 0
  IsTop tells l versions [] p = ⊥
  IsTop tells l versions (k ∷ ks) p = IsLink tells l versions k p

  abbrev pub LeasedAs : LinkTells L → LoadedFiles → State → Lease_answer L → Type 0
  LeasedAs tells l s (answer.Idle p) = IsTop tells l s.versions s.links.idle p
  LeasedAs tells l s (answer.Dial number) = (s.links.idle ≡ []) × (number ≡ s.links.fresh + 1)

-- the entry of a lease
abbrev pub lease_from : List LinkOf → ℕ → ℕ → ℕ → Entry
lease_from [] fresh lane flight = Lease lane flight (fresh + 1) true
lease_from (k ∷ idle) fresh lane flight = Lease lane flight k.number false

abbrev pub lease_entry : Links → ℕ → ℕ → Entry
lease_entry links lane flight = lease_from links.idle links.fresh lane flight

-- the link is the lane's, and a link that ran the flight's statement has the mirror of one that was made ready for it
abbrev pub IsMirror : Bool → Mirror → Phase → Option Flown → Type 0
IsMirror ran mirror (New losses) flight = ⊥
IsMirror ran mirror (Leased losses fresh k) flight = MirrorAs ran mirror k flight
IsMirror ran mirror (Given before) flight = ⊥

-- a lost link: its number, and its counts
pub record Loss : Type 0 where
  pub number : ℕ
  pub runs : ℕ
  pub calls : ℕ

-- the link that an entry loses, if it was dialled
abbrev pub loss_if : Bool → Loss → List Loss
loss_if true loss = loss ∷ []
loss_if false loss = []

abbrev pub loss_in : Entry → List Loss
loss_in (Publish lane step) = []
loss_in (Admit lane step met) = []
loss_in (Lease lane flight link fresh) = []
loss_in (Give lane flight link ran runs calls) = []
loss_in (Lose lane flight link dialled ran runs calls) = loss_if dialled (record { number = link; runs = runs; calls = calls })
loss_in (Land lane flight cells clever literal) = []
loss_in (Fall lane flight cause) = []
loss_in (Take lane flight next) = []
loss_in (End lane) = []

-- all of them, in order
abbrev pub losses : List Entry → List Loss
losses [] = []
losses (e ∷ entries) = loss_in e ++ losses entries

module _ {L : Type 0} where
  -- the wreck is what the entry tells
  pub record IsWreck (tells : LinkTells L) (fails : List Fails) (loss : Loss) (w : LostLink L) : Type 0 where
    pub number : w.number ≡ loss.number
    pub runs : tells.runs w.link ≡ loss.runs
    pub calls : tells.calls w.link ≡ loss.calls
    pub planned : IsPlanned fails (tells.planned w.link)

  -- one for each, in order
  abbrev pub AreWrecks : LinkTells L → List Fails → List Loss → List (LostLink L) → Type 0
  AreWrecks tells fails [] [] = Unit {0}
  AreWrecks tells fails [] (w ∷ ws) = ⊥
  AreWrecks tells fails (k ∷ ks) [] = ⊥
  AreWrecks tells fails (k ∷ ks) (w ∷ ws) = IsWreck tells fails k w × AreWrecks tells fails ks ws

  -- the entry for a loss
  abbrev pub lose_entry : LinkTells L → ℕ → ℕ → ℕ → Lost L → Entry
  lose_entry tells lane flight link (Link w ran) = Lose lane flight link true ran (tells.runs w.link) (tells.calls w.link)
  lose_entry tells lane flight link Dial = Lose lane flight link false false 0 0

  -- a wreck has the leased number
  abbrev pub IsLost : LinkTells L → List Fails → ℕ → Lost L → Type 0
  IsLost tells fails link (Link w ran) = (w.number ≡ link) × IsPlanned fails (tells.planned w.link)
  IsLost tells fails link Dial = ⊤
