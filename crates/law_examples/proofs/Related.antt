-- What is posted between tokens, and about a rejectable, in states that are closed and in like ones that aren't.
use Rattle.std.proofs.Common.{◌≡◌, ℕ, ◌+◌, ◌≤◌, List, [], ◌∷◌, length, Some, pos, inl, inr, refl, sym, subst, arith}
use Rattle.std.specs.Prelude.{All, Contains, slice_get, ⊤, ◌⊎◌}
use Rattle.eu_name.specs.declared.name.Part.TheVariants.{Start, End, Param}
use Rattle.eu_name.specs.declared.name.VarName.TheVariants.{Token}
use Rattle.eu_name.proofs.Ordered.{contains_head, contains_later, contains_cases, contains_none}
use Rattle.model_core.specs.declared.class.ObjectKind.TheVariants as kind
use Rattle.model_core.specs.declared.class.PredKind.TheVariants as pred
use Rattle.model_core.specs.declared.decision.ConArg.TheVariants as given
use Rattle.model_core.specs.declared.decision.Decision.{Decision}
use Rattle.model_core.specs.declared.decision.Decision.TheVariants.{Specify, Activate, Merge, Reject, Order, Constrain, Relate}
use Rattle.model_core.specs.declared.item.Rel.TheVariants.{Before}
use Rattle.model_core.specs.declared.model.Model.{Model}
use Rattle.model_core.specs.declared.model.RootKind.{RootKind}
use Rattle.model_core.specs.declared.model.RootKind.TheVariants.{Goal, Rejectable}
use Rattle.model_core.specs.Decided.{IsTaken}
use Rattle.model_core.specs.State.{State, Gives}
use Rattle.model_core.specs.Tokens.{root_token}
use Rattle.plan_defs.specs.Claims.{Claim, IsOfPosting, Posts, at_most, part_of}
use Rattle.plan_defs.specs.Closure.{IsClosed, IsRespected}
use Rattle.plan_defs.specs.Consistency.{IsClaimConsistent}
use Rattle.plan_defs.specs.Terms.{Argument, Value, Variable, ArgumentCounts}
use Rattle.plan_defs.proofs.Counting.{part_counts}
use Rattle.law_examples.specs.Cases.{moment, activate_it}
use Rattle.law_examples.specs.Posted.{the_quantity, leq, relate_them}
use Rattle.law_examples.specs.Refused.{alone, two_goals}
use Rattle.law_examples.specs.Scenes.{root_of, scene, Moment, exactly, scene_state}
use Rattle.law_examples.proofs.Casts.{only_moment, one_moment, two_moments, no_rule}
use Rattle.law_examples.proofs.Choices.{still_closed, orders}
use Rattle.law_examples.proofs.Closed.{IsMoment}
use Rattle.law_examples.proofs.Examples.{plain_closed, part_there}
use Rattle.law_examples.proofs.Lists.{only_member}
use Rattle.law_examples.proofs.Pairs.{at_most_holds, at_most_says}
use Rattle.law_examples.proofs.Posted.{both, goal_counts}

-- the decision activates a token, or posts something
abbrev IsActivating : Decision → Type 0
IsActivating (Activate token) = ⊤
IsActivating (Constrain kind arguments) = ⊤
IsActivating (Relate relation one other) = ⊤
IsActivating decision = ⊥

-- such decisions leave a state closed in which what they post is consistent
module _ (kinds : List RootKind) (moments : List Moment) (lengths : length moments ≡ length kinds)
    (are : (place : ℕ) (moment : Moment) → slice_get moments place ≡ Some moment → IsMoment moment) where
  abbrev still : Model
  still = scene kind.Plain pred.Plain [] [] kinds

  abbrev rests : State
  rests = scene_state [] moments

  respected_of : (decision : Decision) → IsActivating decision → IsRespected decision rests
  respected_of (Activate token) activating = tt
  respected_of (Constrain kind arguments) activating = tt
  respected_of (Relate relation one other) activating = tt
  respected_of (Specify name value) activating = absurd activating
  respected_of (Merge token target) activating = absurd activating
  respected_of (Reject token) activating = absurd activating
  respected_of (Order one other) activating = absurd activating

  posted_closed : (decisions : List Decision) → ((decision : Decision) → Contains decisions decision → IsActivating decision)
      → ((claim : Claim) → IsOfPosting still decisions claim → IsClaimConsistent still rests claim) → IsClosed still decisions rests
  posted_closed decisions activating posted =
      still_closed [] kinds moments lengths are decisions (record {
        respected = λ decision c. respected_of decision (activating decision c);
        said = λ claim p. absurd (contains_none p.item p.stands);
        merged = λ claim p. absurd (activating (Merge p.token p.target) p.merged);
        ordered = λ claim p. absurd (activating (Order p.one p.other) p.ordered);
        posted = posted;
      })

-- ---- a relation

abbrev goals : List RootKind
goals = Goal ∷ Goal ∷ []

abbrev related : List Decision
related = relate_them Before ∷ []

-- what it says
abbrev first_before : Claim
first_before = at_most (part_of (root_token 0) End) (part_of (root_token 1) Start)

module _ (one other : Moment) where
  abbrev pair : State
  pair = scene_state [] (one ∷ other ∷ [])

  first_end : Gives pair (Token (root_token 0) End) (exactly (one.start + one.duration))
  first_end = part_there (one ∷ other ∷ []) 0 one End (exactly (one.start + one.duration)) refl refl

  second_start : Gives pair (Token (root_token 1) Start) (exactly other.start)
  second_start = part_there (one ∷ other ∷ []) 1 other Start (exactly other.start) refl refl

  related_says : IsClosed two_goals related pair → one.start + one.duration ≤ other.start
  related_says p =
      at_most_says two_goals pair (orders (one ∷ other ∷ [])) (part_of (root_token 0) End) (part_of (root_token 1) Start) (one.start + one.duration) other.start
      first_end second_start
      (p.consistent.claims first_before (inr (inr (inr (inr (inr (record {
        decision = relate_them Before;
        stands = contains_head (relate_them Before) [];
        posts = contains_head first_before [];
        counts = both (ArgumentCounts two_goals (IsTaken related)) (part_of (root_token 0) End) (part_of (root_token 1) Start)
            (part_counts two_goals related (root_token 0) (goal_counts related 0 refl) End) (part_counts two_goals related (root_token 1) (goal_counts related 1 refl) Start);
      })))))))

  related_closed : IsMoment one → IsMoment other → one.start + one.duration ≤ other.start → IsClosed two_goals related pair
  related_closed ok ok' less =
      posted_closed goals (one ∷ other ∷ []) refl (two_moments one other ok ok') related
      (λ decision c. subst IsActivating (only_member (relate_them Before) decision c) tt)
      (λ claim p.
      let posts : Posts (relate_them Before) claim = subst (λ d. Posts d claim) (sym (only_member (relate_them Before) p.decision p.stands)) p.posts in
      subst (IsClaimConsistent two_goals pair) (only_member first_before claim posts)
      (at_most_holds two_goals pair (orders (one ∷ other ∷ [])) (part_of (root_token 0) End) (part_of (root_token 1) Start) (one.start + one.duration) other.start
      first_end second_start less))

pub relation_closed : IsClosed two_goals (relate_them Before ∷ []) (scene_state [] (moment 0 5 0 ∷ moment 5 3 0 ∷ []))
relation_closed =
    related_closed (moment 0 5 0) (moment 5 3 0) (only_moment 0 5 0 (omega arith) (omega arith) (omega arith)) (only_moment 5 3 0 (omega arith) (omega arith) (omega arith)) (omega arith)

pub relation_overlap : IsClosed two_goals (relate_them Before ∷ []) (scene_state [] (moment 0 5 0 ∷ moment 4 3 0 ∷ [])) → ⊥
relation_overlap p = let less = related_says (moment 0 5 0) (moment 4 3 0) p in omega (arith, less)

pub unrelated_closed : IsClosed two_goals [] (scene_state [] (moment 0 5 0 ∷ moment 4 3 0 ∷ []))
unrelated_closed =
    plain_closed [] [] goals (moment 0 5 0 ∷ moment 4 3 0 ∷ []) refl
    (two_moments (moment 0 5 0) (moment 4 3 0) (only_moment 0 5 0 (omega arith) (omega arith) (omega arith)) (only_moment 4 3 0 (omega arith) (omega arith) (omega arith)))
    (no_rule [] kind.Plain pred.Plain [] goals)

-- ---- a constraint on a rejectable

abbrev low : Decision
low = leq the_quantity (given.Value (pos 1))

abbrev quantity : Argument
quantity = Variable (Token (root_token 0) (Param 0))

-- what it says
abbrev is_low : Claim
is_low = at_most quantity (Value (pos 1))

-- it alone, and after the activation of the rejectable
abbrev untaken_low : List Decision
untaken_low = low ∷ []

abbrev taken_low : List Decision
taken_low = activate_it ∷ low ∷ []

module _ (number : ℕ) where
  abbrev lone : State
  lone = scene_state [] (moment 0 1 number ∷ [])

  has_quantity : Gives lone (Token (root_token 0) (Param 0)) (exactly number)
  has_quantity = part_there (moment 0 1 number ∷ []) 0 (moment 0 1 number) (Param 0) (exactly number) refl refl

  low_says : IsClosed (alone Rejectable) taken_low lone → number ≤ 1
  low_says p =
      at_most_says (alone Rejectable) lone (orders (moment 0 1 number ∷ [])) quantity (Value (pos 1)) number 1 has_quantity refl
      (p.consistent.claims is_low (inr (inr (inr (inr (inr (record {
        decision = low;
        stands = contains_later activate_it low (low ∷ []) (contains_head low []);
        posts = refl;
        counts = both (ArgumentCounts (alone Rejectable) (IsTaken taken_low)) quantity (Value (pos 1))
            (λ token belongs rejectable. inl (subst (λ t. Contains taken_low (Activate t)) belongs (contains_head activate_it (low ∷ [])))) tt;
      })))))))

  low_closed : number ≤ 10 → (decisions : List Decision) → ((decision : Decision) → Contains decisions decision → (decision ≡ activate_it) ⊎ (decision ≡ low))
      → (All (ArgumentCounts (alone Rejectable) (IsTaken decisions)) (quantity ∷ Value (pos 1) ∷ []) → number ≤ 1) → IsClosed (alone Rejectable) decisions lone
  low_closed few decisions either small =
      posted_closed (Rejectable ∷ []) (moment 0 1 number ∷ []) refl (one_moment (moment 0 1 number) (only_moment 0 1 number (omega arith) (omega arith) few)) decisions
      (λ decision c. activating decision (either decision c))
      (λ claim p. consistent claim p.decision (either p.decision p.stands) p.posts p.counts)
    where
      activating : (decision : Decision) → (decision ≡ activate_it) ⊎ (decision ≡ low) → IsActivating decision
      activating decision (inl same) = subst IsActivating (sym same) tt
      activating decision (inr same) = subst IsActivating (sym same) tt

      consistent : (claim : Claim) (decision : Decision) → (decision ≡ activate_it) ⊎ (decision ≡ low) → Posts decision claim
          → All (ArgumentCounts (alone Rejectable) (IsTaken decisions)) claim.arguments → IsClaimConsistent (alone Rejectable) lone claim
      consistent claim decision (inl same) posts counts = absurd (subst (λ d. Posts d claim) same posts)
      consistent claim decision (inr same) posts counts =
          let says : claim ≡ is_low = subst (λ d. Posts d claim) same posts in
          let less = small (subst (λ (c : Claim). All (ArgumentCounts (alone Rejectable) (IsTaken decisions)) c.arguments) says counts) in
          subst (IsClaimConsistent (alone Rejectable) lone) (sym says)
          (at_most_holds (alone Rejectable) lone (orders (moment 0 1 number ∷ [])) quantity (Value (pos 1)) number 1 has_quantity refl less)

pub untaken_high : IsClosed (alone Rejectable) (leq the_quantity (given.Value (pos 1)) ∷ []) (scene_state [] (moment 0 1 2 ∷ []))
untaken_high =
    low_closed 2 (omega arith) untaken_low (λ decision c. inr (sym (only_member low decision c)))
    (λ counts. absurd (untaken (counts 0 quantity (omega arith) (root_token 0) refl (refl, (root_of 0 Rejectable, refl, refl)))))
  where
    untaken : IsTaken untaken_low (root_token 0) → ⊥
    untaken (inl activation) = let same = only_member low (Activate (root_token 0)) activation in cc
    untaken (inr merge) = let same = only_member low (Merge (root_token 0) merge.0) merge.1 in cc

pub taken_high : IsClosed (alone Rejectable) (activate_it ∷ leq the_quantity (given.Value (pos 1)) ∷ []) (scene_state [] (moment 0 1 2 ∷ [])) → ⊥
taken_high p = let less = low_says 2 p in omega (arith, less)

pub taken_kept : IsClosed (alone Rejectable) (activate_it ∷ leq the_quantity (given.Value (pos 1)) ∷ []) (scene_state [] (moment 0 1 1 ∷ []))
taken_kept = low_closed 1 (omega arith) taken_low either (λ counts. omega arith)
  where
    either : (decision : Decision) → Contains taken_low decision → (decision ≡ activate_it) ⊎ (decision ≡ low)
    either decision c = elim (contains_cases activate_it decision (low ∷ []) c) [
      | inl same ↦ inl (sym same)
      | inr later ↦ inr (sym (only_member low decision later))
    ]
