-- Going on by one decision, and beginning: what comes to rest.
use Rattle.std.proofs.Common.{◌≡◌, ℕ, ◌<◌, List, [], ◌∷◌, ◌++◌, ◌⊎◌, ◌+◌, ◌≤◌, zero, suc, None, length, Result, Ok, Err, inl, inr, sym, ◌∙◌, subst, arith}
use Rattle.std.specs.Prelude.{Contains, All, OnOk, MatchResult, slice_get}
use Rattle.std.proofs.lemmas.Bool.{cases_lt}
use Rattle.std.proofs.lemmas.List.Elements.{All-nil, All-cons, All-append, Contains-push, Contains-append_left}
use Rattle.eu_name.proofs.Ordered.{contains_head, contains_later}
use Rattle.model_core.specs.declared.decision.Decision.{Decision}
use Rattle.model_core.specs.declared.model.Model.{Model}
use Rattle.constraint_net.specs.declared.NetFault.{NetFault}
use Rattle.constraint_net.specs.declared.NetFault.TheVariants.{Collapsed, Memory}
use Rattle.db_refine.specs.Growth.{LeaveNothing}
use Rattle.db_store.specs.Stores.{Stored}
use Rattle.db_posting.specs.Tables.{HaveTables}
use Rattle.db_posting.specs.Underway.{IsStoreUnderway}
use Rattle.db_opening.specs.Beginning.{IsBeginning, BeginsFrom}
use Rattle.db_fixpoint.specs.Looking.{IsOnWay}
use Rattle.db_fixpoint.specs.Fixpoint.{AreKnownDue, CanComeToRest, BringsToRest}
use Rattle.db_decide.specs.TakingUp.{MayFollow}
use Rattle.timeline_core.proofs.Deciding.{none_decided}
use Rattle.db_history.specs.Advancing.{CanFollow, AdvancesBy, StartsFrom, BringsBeginningToRest}

all_of : {X : Type 0} (P : X → Type 0) (xs : List X) → ((x : X) → Contains xs x → P x) → All P xs
all_of P [] each = All-nil P
all_of P (x ∷ xs) each = All-cons P x xs (each x (contains_head x xs)) (all_of P xs (λ y there. each y (contains_later x y xs there)))

-- what is in the list itself or has changed is known
known_due : (due : List ℕ) (stored : Stored) → AreKnownDue due stored (due ++ stored.net.changed)
known_due due stored =
    let changed = stored.net.changed in
    All-append (λ number. Contains due number ⊎ Contains changed number) due changed
    (all_of (λ number. Contains due number ⊎ Contains changed number) due (λ number there. inl there))
    (all_of (λ number. Contains due number ⊎ Contains changed number) changed (λ number there. inr there))

known_all : (due : List ℕ) (stored : Stored) → AreKnownDue due stored due
known_all due stored = all_of (λ number. Contains due number ⊎ Contains stored.net.changed number) due (λ number there. inl there)

pub may_follow : (model : Model) (decisions : List Decision) (stored : Stored) (decision : Decision) → CanFollow model decisions stored decision → MayFollow model decisions stored decision
may_follow model decisions stored decision follows = record {
  rest = follows.rest;
  known = follows.known;
  undecided = follows.undecided;
  alike = follows.alike;
  postable = follows.postable;
  counts = follows.counts;
}

-- taking the decision up can fail
pub taking_fails : {X : Type 0} (model : Model) (decision : Decision) (old new : Stored) (result : Result X NetFault)
    → (result ≡ Err Collapsed → (decisions : List Decision) → MayFollow model decisions old decision → LeaveNothing model (decisions ++ decision ∷ []))
    → (fault : NetFault) → result ≡ Err fault → AdvancesBy model decision old (Err fault) new
taking_fails model decision old new result collapsed Collapsed is = λ decisions follows. collapsed is decisions (may_follow model decisions old decision follows)
taking_fails model decision old new result collapsed Memory is = tt

module _ (model : Model) (decision : Decision) (old mid : Stored) (due : List ℕ)
    (taken : (decisions : List Decision) → MayFollow model decisions old decision
    → IsStoreUnderway model (decisions ++ decision ∷ []) (decisions ++ decision ∷ []) mid (length old.blocks) (due ++ mid.net.changed)) where
  on_way : (decisions : List Decision) → CanFollow model decisions old decision → IsOnWay model (decisions ++ decision ∷ []) mid (length old.blocks) (due ++ mid.net.changed)
  on_way decisions follows = record { once = follows.once; underway = taken decisions (may_follow model decisions old decision follows) }

  pub can_come_to_rest : (decisions : List Decision) → CanFollow model decisions old decision → CanComeToRest model mid (length old.blocks) due
  can_come_to_rest decisions follows = (decisions ++ decision ∷ [], due ++ mid.net.changed, (known_due due mid, on_way decisions follows))

  pub advances : (new : Stored) (result : Result (Unit {0}) NetFault) → BringsToRest model (length old.blocks) due mid result new
      → OnOk result (new.net.tables ≡ mid.net.tables) → mid.net.tables ≡ old.net.tables → AdvancesBy model decision old result new
  advances new (Ok done) brings tables kept = λ decisions follows.
      let come = brings (decisions ++ decision ∷ []) (due ++ mid.net.changed) (known_due due mid) (on_way decisions follows) in
      (come.rests, tables ∙ kept, come.idle)
  advances new (Err Collapsed) brings tables kept = λ decisions follows.
      brings (decisions ++ decision ∷ []) (due ++ mid.net.changed) (known_due due mid) (on_way decisions follows)
  advances new (Err Memory) brings tables kept = tt

-- ---- beginning

module _ (model : Model) (old : Stored) (begins : IsBeginning model old) (due : List ℕ)
    (all : (number : ℕ) → number < length old.keys → Contains due number) where
  pub first_way : IsOnWay model [] old 0 due
  first_way = record { once = none_decided model; underway = begins.underway due all }

  pub can_begin : CanComeToRest model old 0 due
  can_begin = ([], due, (known_all due old, first_way))

  pub brings_beginning_to_rest : (new : Stored) (result : Result (Unit {0}) NetFault) → BringsToRest model 0 due old result new
      → OnOk result (new.net.tables ≡ old.net.tables) → BringsBeginningToRest model result new
  brings_beginning_to_rest new (Ok done) brings tables =
      let come = brings [] due (known_all due old) first_way in
      (come.rests, subst (HaveTables model) (sym tables) begins.tables, come.idle)
  brings_beginning_to_rest new (Err Collapsed) brings tables = brings [] due (known_all due old) first_way
  brings_beginning_to_rest new (Err Memory) brings tables = tt

pub starts_from : (model : Model) (rested : Result (Unit {0}) NetFault) (stored : Stored) (result : Result Stored NetFault) → BringsBeginningToRest model rested stored
    → MatchResult rested (λ done. result ≡ Ok stored) (λ fault. result ≡ Err fault) → StartsFrom model result
starts_from model (Ok done) stored result brings is = subst (StartsFrom model) (sym is) brings
starts_from model (Err Collapsed) stored result fails is = subst (StartsFrom model) (sym is) fails
starts_from model (Err Memory) stored result fails is = subst (StartsFrom model) (sym is) tt

pub start_fails : (model : Model) (fault : NetFault) → BeginsFrom model (Err fault) → StartsFrom model (Err fault)
start_fails model Collapsed fails = fails
start_fails model Memory fails = tt

pub one_more_there : (due : List ℕ) (number n : ℕ) → ((k : ℕ) → k < number → Contains due k) → n < number + 1 → Contains (due ++ number ∷ []) n
one_more_there due number n there less = elim (cases_lt n number) [
  | inl below ↦ Contains-append_left due (number ∷ []) n (there n below)
  | inr above ↦ let same : number ≡ n = omega (arith, less, above) in subst (Contains (due ++ number ∷ [])) same (Contains-push due number)
]

pub none_past : {X : Type 0} (xs : List X) (number : ℕ) → None ≡ slice_get xs number → length xs ≤ number
none_past [] number is = omega arith
none_past (x ∷ xs) zero is = cc
none_past (x ∷ xs) (suc number) is = let later = none_past xs number is in omega (arith, later)
