-- What bringing a store to rest comes to.
use Rattle.std.specs.Prelude.{◌≡◌, ◌⊎◌, ℕ, ⊤, Bool, true, false, List, [], ◌++◌, All, Contains, Result, Ok, Err}
use Rattle.model_core.specs.declared.decision.Decision.{Decision}
use Rattle.model_core.specs.declared.model.Model.{Model}
use Rattle.constraint_net.specs.Networks.{IsIdle}
use Rattle.constraint_net.specs.declared.NetFault.{NetFault}
use Rattle.constraint_net.specs.declared.NetFault.TheVariants.{Collapsed, Memory}
use Rattle.db_refine.specs.Growth.{LeaveNothing}
use Rattle.db_store.specs.Stores.{Stored, snapshot_of}
use Rattle.db_posting.specs.Underway.{IsAtRest}
use Rattle.db_fixpoint.specs.declared.fixpoint.Round.{Round}
use Rattle.db_fixpoint.specs.declared.fixpoint.Round.TheVariants as rounds
use Rattle.db_fixpoint.specs.Looking.{IsOnWay}

-- the store is on its way for some decisions, and just what has changed is due
abbrev pub CanGoOn : Model → Stored → ℕ → Type 0
CanGoOn model stored unfolded = (decisions : List Decision) × IsOnWay model decisions stored unfolded stored.net.changed

-- only these variables and those that have changed are due
abbrev pub AreKnownDue : List ℕ → Stored → List ℕ → Type 0
AreKnownDue due stored waiting = All (λ number. Contains due number ⊎ Contains stored.net.changed number) waiting

-- the store is on its way for some decisions, and only these variables and those that have changed are due
abbrev pub CanComeToRest : Model → Stored → ℕ → List ℕ → Type 0
CanComeToRest model stored unfolded due =
    (decisions : List Decision) × (waiting : List ℕ)
    × (AreKnownDue due stored waiting × IsOnWay model decisions stored unfolded waiting)

-- nothing is left to do in the store, and nothing waits
pub record HasComeToRest (model : Model) (decisions : List Decision) (stored : Stored) : Type 0 where
  pub rests : IsAtRest model decisions stored.net.tables (snapshot_of stored)
  pub idle : IsIdle stored.net

-- what looking at the next variable that has changed answers and leaves: there was one, or nothing had changed
abbrev pub Heeds : Model → ℕ → Stored → Result Bool NetFault → Stored → Type 0
Heeds model unfolded old (Ok true) new =
    (decisions : List Decision)
    → IsOnWay model decisions old unfolded old.net.changed → IsOnWay model decisions new unfolded new.net.changed
Heeds model unfolded old (Ok false) new = (old.net.changed ≡ []) × (new ≡ old)
Heeds model unfolded old (Err Collapsed) new =
    (decisions : List Decision) → IsOnWay model decisions old unfolded old.net.changed → LeaveNothing model decisions
Heeds model unfolded old (Err Memory) new = ⊤

-- after the round the store is on its way with so many blocks unfolded, or has come to rest
abbrev pub RoundLeaves : Model → List Decision → Round → Stored → Type 0
RoundLeaves model decisions (rounds.On unfolded) new = IsOnWay model decisions new unfolded new.net.changed
RoundLeaves model decisions rounds.AtRest new = HasComeToRest model decisions new

-- what a round answers and leaves, for whatever decisions the old store was on its way
abbrev pub MakesRound : Model → ℕ → Stored → Result Round NetFault → Stored → Type 0
MakesRound model unfolded old (Ok next) new =
    (decisions : List Decision) → IsOnWay model decisions old unfolded old.net.changed → RoundLeaves model decisions next new
MakesRound model unfolded old (Err Collapsed) new =
    (decisions : List Decision) → IsOnWay model decisions old unfolded old.net.changed → LeaveNothing model decisions
MakesRound model unfolded old (Err Memory) new = ⊤

-- and many rounds
abbrev pub MakesRounds : Model → ℕ → Stored → Result (Unit {0}) NetFault → Stored → Type 0
MakesRounds model unfolded old (Ok done) new =
    (decisions : List Decision) → IsOnWay model decisions old unfolded old.net.changed → HasComeToRest model decisions new
MakesRounds model unfolded old (Err Collapsed) new =
    (decisions : List Decision) → IsOnWay model decisions old unfolded old.net.changed → LeaveNothing model decisions
MakesRounds model unfolded old (Err Memory) new = ⊤

-- what looking at all of these variables answers and leaves: they aren't due any more
abbrev pub LooksAtAll : Model → ℕ → List ℕ → Stored → Result (Unit {0}) NetFault → Stored → Type 0
LooksAtAll model unfolded due old (Ok done) new =
    (decisions : List Decision) (waiting : List ℕ)
    → IsOnWay model decisions old unfolded (due ++ waiting) → IsOnWay model decisions new unfolded waiting
LooksAtAll model unfolded due old (Err Collapsed) new =
    (decisions : List Decision) (waiting : List ℕ)
    → IsOnWay model decisions old unfolded (due ++ waiting) → LeaveNothing model decisions
LooksAtAll model unfolded due old (Err Memory) new = ⊤

-- what bringing the store to rest answers and leaves, for whatever decisions it was on its way, where only these variables and
-- those that have changed were due
abbrev pub BringsToRest : Model → ℕ → List ℕ → Stored → Result (Unit {0}) NetFault → Stored → Type 0
BringsToRest model unfolded due old (Ok done) new =
    (decisions : List Decision) (waiting : List ℕ) → AreKnownDue due old waiting
    → IsOnWay model decisions old unfolded waiting → HasComeToRest model decisions new
BringsToRest model unfolded due old (Err Collapsed) new =
    (decisions : List Decision) (waiting : List ℕ) → AreKnownDue due old waiting
    → IsOnWay model decisions old unfolded waiting → LeaveNothing model decisions
BringsToRest model unfolded due old (Err Memory) new = ⊤
