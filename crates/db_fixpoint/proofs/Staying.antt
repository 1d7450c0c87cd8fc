-- Steps that leave a store on its way.
use Rattle.std.proofs.Common.{◌≡◌, inl, inr, ℕ, List, [], ◌∷◌, ◌++◌, Ok, Err, refl, sym, subst}
use Rattle.std.specs.Prelude.{All, Contains, Result, Some, slice_get}
use Rattle.std.proofs.lemmas.List.{append_assoc, append-nil}
use Rattle.std.proofs.lemmas.List.Elements.{All-head, All-tail, All-weaker}
use Rattle.domain_core.specs.Domain.{IsDomain}
use Rattle.eu_name.specs.declared.name.TokenName.{TokenName}
use Rattle.model_core.specs.declared.decision.Decision.{Decision}
use Rattle.model_core.specs.declared.model.Model.{Model}
use Rattle.model_core.specs.declared.view.TokenState.{TokenState}
use Rattle.model_core.specs.declared.view.TokenState.TheVariants.{Inactive, Active, Fact, Merged, Rejected}
use Rattle.model_core.specs.State.{State}
use Rattle.model_core.specs.TokenStates.{HasTokenState}
use Rattle.narrow_core.specs.declared.field.Field.{Field}
use Rattle.narrow_core.proofs.Below.{within_refl}
use Rattle.constraint_net.specs.Calls.{GoesDown}
use Rattle.constraint_net.specs.Networks.{Network, AllConsistent}
use Rattle.constraint_net.specs.Steps.{PropagatesTo}
use Rattle.constraint_net.specs.declared.NetFault.{NetFault}
use Rattle.constraint_net.specs.declared.NetFault.TheVariants.{Collapsed, Memory}
use Rattle.constraint_net.specs.declared.constraint.Constraint.{Constraint}
use Rattle.plan_defs.specs.Claims.{Claim}
use Rattle.plan_defs.specs.Laws.{HaveToTurn}
use Rattle.model_core.specs.Content.{Content, shown}
use Rattle.db_refine.specs.Growth.{LeaveNothing, ends_before}
use Rattle.db_refine.specs.GrowthLaws.{with_domains}
use Rattle.db_refine.specs.Progress.{IsJustified, MissesNothing}
use Rattle.db_refine.proofs.Justifying.{posting_justified, propagation_justified}
use Rattle.db_refine.proofs.Keeping.{posting_misses}
use Rattle.db_refine.proofs.Lessening.{falling_misses}
use Rattle.plan_defs.specs.Unordered.{AreDecidedOnce}
use Rattle.token_store.specs.Orders.{name_at}
use Rattle.db_store.specs.Puts.{ChangesNet}
use Rattle.db_store.specs.Stores.{Stored}
use Rattle.db_posting.specs.Origins.{content_now}
use Rattle.db_posting.specs.Underway.{IsStoreUnderway}
use Rattle.db_fixpoint.specs.Turns.{PostsOrMarks, IsTurnOf, TakesTurns}
use Rattle.db_fixpoint.proofs.Claimed.{SaysOne}

-- ---- turns

-- the claim is that two tokens take turns
abbrev IsSomeTurn : Model → List Decision → State → Claim → Type 0
IsSomeTurn model decisions state claim =
    (one other : TokenName) × HaveToTurn model decisions state one other × (claim ≡ ends_before other one)

module _ (model : Model) (decisions : List Decision) (tables : List Field) (content : Content) where
  justified_more : (posted later : List Constraint) → IsJustified model decisions tables posted content
      → All (SaysOne content.names (IsSomeTurn model decisions (shown content))) later → IsJustified model decisions tables (posted ++ later) content
  justified_more posted [] is all = subst (λ list. IsJustified model decisions tables list content) (sym (append-nil posted)) is
  justified_more posted (constraint ∷ later) is all =
      let Says = SaysOne content.names (IsSomeTurn model decisions (shown content)) in
      let first = All-head Says constraint later all in
      subst (λ list. IsJustified model decisions tables list content) (append_assoc posted (constraint ∷ []) later)
      (justified_more (posted ++ constraint ∷ []) later
      (posting_justified model decisions tables posted content is constraint first.0 first.1 (inr first.2)) (All-tail Says constraint later all))

some_turn : (model : Model) (decisions : List Decision) (state : State) (one other : TokenName) (claim : Claim) → IsTurnOf model decisions state one other claim
    → IsSomeTurn model decisions state claim
some_turn model decisions state one other claim (inl turn) = (one, other, turn.0, turn.1)
some_turn model decisions state one other claim (inr turn) = (other, one, turn.0, turn.1)

pub turns_underway : (model : Model) (place : ℕ) (old new : Stored) → PostsOrMarks old new → TakesTurns model place old new
    → (followed decisions : List Decision) (unfolded : ℕ) (due : List ℕ) → AreDecidedOnce model decisions
    → IsStoreUnderway model followed decisions old unfolded due → IsStoreUnderway model followed decisions new unfolded due
turns_underway model place old new only turns followed decisions unfolded due once under =
    let content = content_now old in
    let Turn : Claim → Type 0 = λ claim. (other : TokenName) × IsTurnOf model decisions (shown content) (name_at content.tokens place) other claim in
    let sees = turns decisions (record { states = under.states; once = once }) in
    let says = All-weaker (SaysOne content.names Turn) (SaysOne content.names (IsSomeTurn model decisions (shown content)))
    (λ constraint is. (is.0, is.1, some_turn model decisions (shown content) (name_at content.tokens place) is.2.0 is.0 is.2.1)) sees.later sees.each in
    subst (λ stored. IsStoreUnderway model followed decisions stored unfolded due) (sym only) (record {
      justified = subst (λ list. IsJustified model decisions old.net.tables list content) (sym sees.behind)
          (justified_more model decisions old.net.tables content old.net.constraints sees.later under.justified says);
      complete = subst (λ list. MissesNothing model followed list content unfolded due) (sym sees.behind)
          (posting_misses model followed old.net.constraints sees.later content unfolded due under.complete);
      states = record { states = under.states.states; rejected = under.states.rejected };
      preds = under.preds;
      watched = under.watched;
      within = under.within;
    })

-- ---- what is due

pub due_more : (model : Model) (decisions : List Decision) (posted : List Constraint) (content : Content) (unfolded : ℕ) (due more : List ℕ)
    → ((number : ℕ) → Contains due number → Contains more number) → All IsDomain content.domains
    → MissesNothing model decisions posted content unfolded due → MissesNothing model decisions posted content unfolded more
due_more model decisions posted content unfolded due more there are misses =
    falling_misses model decisions posted content content.domains unfolded due more misses are (within_refl content.domains)
    (record { kept = there; each = λ variable below. inl refl })

pub underway_more : (model : Model) (followed decisions : List Decision) (stored : Stored) (unfolded : ℕ) (due more : List ℕ)
    → ((number : ℕ) → Contains due number → Contains more number)
    → IsStoreUnderway model followed decisions stored unfolded due → IsStoreUnderway model followed decisions stored unfolded more
underway_more model followed decisions stored unfolded due more there under = record {
  justified = under.justified;
  complete = due_more model followed stored.net.constraints (content_now stored) unfolded due more there under.justified.is_content.domains under.complete;
  states = under.states;
  preds = under.preds;
  watched = under.watched;
  within = under.within;
}

-- ---- propagation

token_state : (model : Model) (one other : State) → one.tokens ≡ other.tokens → (decisions : List Decision) (token : TokenName) (state : TokenState)
    → HasTokenState model one decisions token state → HasTokenState model other decisions token state
token_state model one other same decisions token Inactive is = is
token_state model one other same decisions token Active is = is
token_state model one other same decisions token Fact is = is
token_state model one other same decisions token (Merged place) is = (is.0, subst (λ (list : List TokenName). slice_get list place ≡ Some is.0) same is.1, is.2)
token_state model one other same decisions token Rejected is = is

-- what propagation leaves of a store that is on its way
pub record IsPropagatedOn (model : Model) (followed decisions : List Decision) (new : Stored) (unfolded : ℕ) : Type 0 where
  pub underway : IsStoreUnderway model followed decisions new unfolded new.net.changed
  pub consistent : AllConsistent new.net.tables new.net.constraints new.net.domains

abbrev pub PropagatesOn : Model → List Decision → List Decision → Result (Unit {0}) NetFault → Stored → ℕ → Type 0
PropagatesOn model followed decisions (Ok done) new unfolded = IsPropagatedOn model followed decisions new unfolded
PropagatesOn model followed decisions (Err Collapsed) new unfolded = LeaveNothing model decisions
PropagatesOn model followed decisions (Err Memory) new unfolded = Unit {0}

module _ (model : Model) (followed decisions : List Decision) (old : Stored) (net : Network) (unfolded : ℕ)
    (under : IsStoreUnderway model followed decisions old unfolded old.net.changed) (down : GoesDown old.net net) where
  abbrev left : Stored
  left = record old { net = net }

  propagated_ok : PropagatesTo (AllConsistent old.net.tables old.net.constraints) old.net.domains (Ok tt) net.domains → IsPropagatedOn model followed decisions left unfolded
  propagated_ok propagates =
      let content = content_now old in
      let justified = propagation_justified model decisions old.net.tables old.net.constraints content under.justified (Ok tt) net.domains propagates in
      let complete = falling_misses model followed old.net.constraints content net.domains unfolded old.net.changed net.changed under.complete
      propagates.0.are propagates.0.within down.notes in
      record {
        underway = record {
          justified = subst (λ tables. IsJustified model decisions tables net.constraints (with_domains content net.domains)) (sym down.tables)
              (subst (λ posted. IsJustified model decisions old.net.tables posted (with_domains content net.domains)) (sym down.constraints) justified);
          complete = subst (λ posted. MissesNothing model followed posted (with_domains content net.domains) unfolded net.changed) (sym down.constraints) complete;
          states = record {
            states = λ place token state named stated.
                token_state model (shown content) (shown (with_domains content net.domains)) refl decisions token state (under.states.states place token state named stated);
            rejected = under.states.rejected;
          };
          preds = under.preds;
          watched = under.watched;
          within = under.within;
        };
        consistent = subst (λ tables. AllConsistent tables net.constraints net.domains) (sym down.tables)
            (subst (λ posted. AllConsistent old.net.tables posted net.domains) (sym down.constraints) propagates.1);
      }

  propagated_left : (result : Result (Unit {0}) NetFault) → PropagatesTo (AllConsistent old.net.tables old.net.constraints) old.net.domains result net.domains
      → PropagatesOn model followed decisions result left unfolded
  propagated_left (Ok done) propagates = propagated_ok propagates
  propagated_left (Err Collapsed) propagates =
      propagation_justified model decisions old.net.tables old.net.constraints (content_now old) under.justified (Err Collapsed) net.domains propagates
  propagated_left (Err Memory) propagates = tt

pub propagated_underway : (model : Model) (followed decisions : List Decision) (old new : Stored) (result : Result (Unit {0}) NetFault) (unfolded : ℕ)
    → IsStoreUnderway model followed decisions old unfolded old.net.changed → ChangesNet old new → GoesDown old.net new.net
    → PropagatesTo (AllConsistent old.net.tables old.net.constraints) old.net.domains result new.net.domains
    → PropagatesOn model followed decisions result new unfolded
propagated_underway model followed decisions old new result unfolded under changes down propagates =
    subst (λ stored. PropagatesOn model followed decisions result stored unfolded) (sym changes)
    (propagated_left model followed decisions old new.net unfolded under down result propagates)
