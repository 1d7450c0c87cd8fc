-- A decision that is admissible after the decisions of a store at rest may follow there.
use Rattle.std.proofs.Common.{◌≡◌, ℕ, List, [], ◌∷◌, ◌++◌, ◌⊎◌, inl, inr, ◌∙◌, ap, subst, arith}
use Rattle.std.specs.Prelude.{All, Contains}
use Rattle.std.proofs.lemmas.Bool.{cases_lt}
use Rattle.std.proofs.lemmas.List.Elements.{All-contains, All-weaker}
use Rattle.domain_core.specs.declared.kind.Kind.{Kind}
use Rattle.eu_name.specs.declared.name.TokenName.{TokenName}
use Rattle.model_core.specs.declared.decision.ConArg.{ConArg}
use Rattle.model_core.specs.declared.decision.ConArg.TheVariants.{Var, Value}
use Rattle.model_core.specs.declared.decision.Decision.{Decision}
use Rattle.model_core.specs.declared.decision.Decision.TheVariants.{Specify, Activate, Merge, Reject, Order, Constrain, Relate}
use Rattle.model_core.specs.declared.model.Model.{Model}
use Rattle.model_core.specs.declared.rule.Slot.{Slot}
use Rattle.model_core.specs.Arguments.{IsInType, Takes}
use Rattle.model_core.specs.Lawful.{IsLawful}
use Rattle.model_core.specs.State.{State}
use Rattle.model_core.specs.Tokens.{HasToken}
use Rattle.model_core.proofs.Leading.{token_once}
use Rattle.plan_defs.specs.Refusals.{Hinders, IsArgumentKnown, IsKnown, HaveSamePredicate, IsAdmissible}
use Rattle.model_core.specs.declared.refusal.Refusal.TheVariants.{Unknown, Decided, NotInDomain, NotActive, NotSamePredicate}
use Rattle.model_core.specs.declared.refusal.Refusal.{Refusal}
use Rattle.plan_defs.proofs.Counting.{postings_count}
use Rattle.plan_defs.proofs.Knowing.{known_or_not}
use Rattle.plan_defs.proofs.Settling.{least_same}
use Rattle.model_core.specs.Content.{shown, AreAlike}
use Rattle.db_posting.specs.Postable.{CanPostArguments}
use Rattle.db_posting.proofs.Suiting.{arguments_can_be_posted}
use Rattle.db_store.specs.Stores.{Stored, snapshot_of, IsSnapshot, named_content}
use Rattle.db_store.proofs.Naming.{names_are_once}
use Rattle.db_refusals.specs.InOrder.{state_of}
use Rattle.db_refusals.proofs.Seen.{put_in_order}
use Rattle.plan_defs.specs.Unordered.{AreDecidedOnce}
use Rattle.db_history.specs.Advancing.{IsLeastOf, CanFollow}

-- ---- numbers

number_same_or_not : (one other : ℕ) → (one ≡ other) ⊎ (one ≡ other → ⊥)
number_same_or_not one other = elim (cases_lt one other) [
  | inl less ↦ inr (λ same. omega (arith, less, same))
  | inr not_less ↦ elim (cases_lt other one) [
    | inl more ↦ inr (λ same. omega (arith, more, same))
    | inr not_more ↦ inl (omega (arith, not_less, not_more))
  ]
]

-- ---- alike states

argument_alike : (one other : State) → AreAlike one other → (argument : ConArg) → IsArgumentKnown other argument → IsArgumentKnown one argument
argument_alike one other alike (Var name) known = (known.0, (alike.gives name known.0).1 known.1)
argument_alike one other alike (Value value) known = tt

pub known_alike : (one other : State) → AreAlike one other → (decision : Decision) → IsKnown other decision → IsKnown one decision
known_alike one other alike (Specify name value) known = (known.0, (alike.gives name known.0).1 known.1)
known_alike one other alike (Activate token) known = (alike.tokens token).1 known
known_alike one other alike (Merge token target) known = ((alike.tokens token).1 known.0, (alike.tokens target).1 known.1)
known_alike one other alike (Reject token) known = (alike.tokens token).1 known
known_alike one other alike (Order before after) known = ((alike.tokens before).1 known.0, (alike.tokens after).1 known.1)
known_alike one other alike (Constrain kind arguments) known =
    All-weaker (IsArgumentKnown other) (IsArgumentKnown one) (argument_alike one other alike) arguments known
known_alike one other alike (Relate relation first second) known = ((alike.tokens first).1 known.0, (alike.tokens second).1 known.1)

module _ (model : Model) (decisions : List Decision) (stored : Stored) (decision : Decision) (is : IsSnapshot (snapshot_of stored))
    (least : IsLeastOf model decisions (snapshot_of stored)) (admissible : IsAdmissible model decisions decision)
    (once : AreDecidedOnce model (decisions ++ decision ∷ [])) (lawful : IsLawful model) where
  abbrev seen : State
  seen = state_of (named_content (snapshot_of stored))

  free : (reason : Refusal) → Hinders model decisions seen reason decision → ⊥
  free =
      subst (λ (state : State). (reason : Refusal) → Hinders model decisions state reason decision → ⊥)
      (least_same model decisions admissible.state seen admissible.least least.least) admissible.free

  known_seen : IsKnown seen decision
  known_seen = elim (known_or_not seen decision) [
    | inl known ↦ known
    | inr none ↦ absurd (free Unknown none)
  ]

  slot_of : (token : TokenName) → Contains seen.tokens token → (slot : Slot) × HasToken model token slot
  slot_of token there = All-contains (λ token. (slot : Slot) × HasToken model token slot) seen.tokens token least.least.closed.consistent.is_state.tokens there

  same_predicate : (token target : TokenName) → Contains seen.tokens token → Contains seen.tokens target
      → ((HaveSamePredicate model token target → ⊥) → ⊥) → HaveSamePredicate model token target
  same_predicate token target there other not_apart =
      let one = slot_of token there in
      let two = slot_of target other in
      elim (number_same_or_not one.0.pred two.0.pred) [
        | inl same ↦ record { slot = one.0; other_slot = two.0; has_one = one.1; has_other = two.1; same = same }
        | inr apart ↦ absurd (not_apart (λ have. apart (
            ap (λ (slot : Slot). slot.pred) (token_once model token one.0 have.slot one.1 have.has_one)
            ∙ (have.same ∙ ap (λ (slot : Slot). slot.pred) (token_once model target have.other_slot two.0 have.has_other two.1)))))
      ]

  postable : (kind : Kind) (arguments : List ConArg) → decision ≡ Constrain kind arguments → CanPostArguments kind arguments
  postable kind arguments same =
      arguments_can_be_posted model kind arguments lawful
      (subst (λ (d : Decision). Hinders model decisions seen NotInDomain d → ⊥) same (free NotInDomain))

  pub can_follow : CanFollow model decisions stored decision
  can_follow = record {
    rest = least.rest;
    known = known_alike (shown (named_content (snapshot_of stored))) seen (put_in_order (named_content (snapshot_of stored)) (names_are_once (snapshot_of stored) is)).alike decision known_seen;
    undecided = free Decided;
    alike = λ token target same.
        let there = subst (IsKnown seen) same known_seen in
        same_predicate token target there.0 there.1
        (subst (λ (d : Decision). Hinders model decisions seen NotSamePredicate d → ⊥) same (free NotSamePredicate));
    postable = postable;
    counts = λ claim posts. postings_count model decisions decision claim (free NotActive) posts;
    once = once;
  }
