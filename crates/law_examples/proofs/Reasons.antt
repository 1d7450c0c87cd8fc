-- The examples of refusals.
use Rattle.std.proofs.Common.{◌≡◌, ℕ, suc, zero, ◌<◌, ◌≤◌, ◌+◌, List, [], ◌∷◌, length, Some, ℤ, pos, ◌≤ℤ◌, inl, inr, refl, sym, ap, ◌∙◌, subst, arith}
use Rattle.std.specs.Prelude.{Contains, All, slice_get}
use Rattle.std.proofs.lemmas.Int.{ints}
use Rattle.std.proofs.lemmas.List.Elements.{All-contains}
use Rattle.domain_core.specs.Domain.{Domain, Range, Has}
use Rattle.eu_name.specs.declared.name.Part.TheVariants.{Param}
use Rattle.eu_name.specs.declared.name.TokenName.{TokenName}
use Rattle.eu_name.specs.declared.name.VarName.TheVariants.{Token, Global}
use Rattle.eu_name.specs.NameOrder.{IsTokenBefore}
use Rattle.eu_name.proofs.Orders.{token_order}
use Rattle.model_core.specs.declared.class.ObjectKind.TheVariants as kind
use Rattle.model_core.specs.declared.class.Pred.{Pred}
use Rattle.model_core.specs.declared.class.PredKind.TheVariants as pred
use Rattle.model_core.specs.declared.decision.Decision.TheVariants.{Specify, Activate, Merge, Reject}
use Rattle.model_core.specs.declared.item.Item.{Item}
use Rattle.model_core.specs.declared.model.Model.{Model}
use Rattle.model_core.specs.declared.model.Root.{Root}
use Rattle.model_core.specs.declared.model.RootKind.{RootKind}
use Rattle.model_core.specs.declared.model.RootKind.TheVariants.{Goal, Rejectable, Fact}
use Rattle.model_core.specs.declared.rule.Slot.{Slot}
use Rattle.model_core.specs.declared.variable.Base.TheVariants.{Given}
use Rattle.model_core.specs.declared.variable.VarDecl.{VarDecl}
use Rattle.model_core.specs.Decided.{IsTaken, IsActive, IsDecided}
use Rattle.model_core.specs.State.{Gives}
use Rattle.model_core.specs.Tokens.{IsRootOfKind, root_token, slot_of}
use Rattle.model_core.specs.Variables.{HasPartBase}
use Rattle.plan_defs.specs.Refusals.{rank_of, Hinders, IsDeclared, HaveSamePredicate, AreActive, IsFirstRefusal, IsRefused}
use Rattle.model_core.specs.declared.refusal.Refusal.TheVariants.{Unknown, WrongType, Decided, NotInDomain, NotActive, NotSamePredicate, NotRejectable, SameToken, ActiveFull}
use Rattle.model_core.specs.declared.refusal.Refusal.{Refusal}
use Rattle.eu_name.proofs.Ordered.{contains_head, contains_none}
use Rattle.law_examples.specs.Cases.{moment, two_facts, goal_and_fact, limited, at_most_one, activated, activate_it, quantity_is}
use Rattle.law_examples.specs.Globals.{declared_x, with_two, up_to}
use Rattle.law_examples.specs.Refused.{IsUnhindered, one_token, two_tokens, merge_them, order_them, order_it, reject_it, alone, two_goals, mixed, facts_and_goal, many_roots, many_moments, many_tokens}
use Rattle.law_examples.specs.Scenes.{both_objects, predicate_of, root_of, scene_with, Moment, tokens_of}
use Rattle.law_examples.specs.Worlds.{free_two, x_is}
use Rattle.law_examples.proofs.Closed.{slot_same}
use Rattle.law_examples.proofs.Lists.{all_members, only_member, same_some, get_root, root_get}
use Rattle.law_examples.proofs.Scenes.{tokens_in_order, token_of, token_there, entry_there}
use Rattle.law_examples.proofs.Settling.{free_least, zero_least}
use Rattle.law_examples.proofs.TwoVariables.{gives_first, one_of_two}

-- ---- of which kind the roots are

module _ (items : List Item) (kinds : List RootKind) where
  abbrev model : Model
  model = scene_with items kind.Plain pred.Plain [] [] kinds

  pub is_kind : (number : ℕ) (root_kind : RootKind) → slice_get kinds number ≡ Some root_kind → IsRootOfKind model root_kind (root_token number)
  is_kind number root_kind at = (refl, (root_of (0 + number) root_kind, root_get 0 kinds number root_kind at, refl))

  pub kind_is : (number : ℕ) (root_kind wanted : RootKind) → slice_get kinds number ≡ Some root_kind → IsRootOfKind model wanted (root_token number) → root_kind ≡ wanted
  kind_is number root_kind wanted at is =
      let found = get_root 0 kinds number is.1.0 is.1.1 in
      same_some root_kind found.0 (sym at ∙ found.1.0) ∙ (ap (λ (r : Root). r.kind) found.1.1 ∙ is.1.2)

  pub undecided : (number : ℕ) (root_kind : RootKind) → slice_get kinds number ≡ Some root_kind → (root_kind ≡ Fact → ⊥) → IsDecided model [] (root_token number) → ⊥
  undecided number root_kind at none (inl fact) = none (kind_is number root_kind Fact at fact)
  undecided number root_kind at none (inr (inl (inl activation))) = contains_none (Activate (root_token number)) activation
  undecided number root_kind at none (inr (inl (inr merge))) = contains_none (Merge (root_token number) merge.0) merge.1
  undecided number root_kind at none (inr (inr rejection)) = contains_none (Reject (root_token number)) rejection

  inactive : (number : ℕ) (root_kind : RootKind) → slice_get kinds number ≡ Some root_kind → (root_kind ≡ Fact → ⊥) → IsActive model [] (root_token number) → ⊥
  inactive number root_kind at none (inl fact) = none (kind_is number root_kind Fact at fact)
  inactive number root_kind at none (inr activation) = contains_none (Activate (root_token number)) activation

pub no_goal : Goal ≡ Fact → ⊥
no_goal e = cc

pub no_rejectable : Rejectable ≡ Fact → ⊥
no_rejectable e = cc

pub untaken : (token : TokenName) → IsTaken [] token → ⊥
untaken token (inl activation) = contains_none (Activate token) activation
untaken token (inr merge) = contains_none (Merge token merge.0) merge.1

pub one_there : Contains one_token.tokens (root_token 0)
one_there = contains_head (root_token 0) []

pub first_there : Contains two_tokens.tokens (root_token 0)
first_there = contains_head (root_token 0) (root_token 1 ∷ [])

pub second_there : Contains two_tokens.tokens (root_token 1)
second_there = (1, omega arith, refl)

-- ---- variables

pub no_third : (one other : Domain) → (domain : Domain) × Gives (with_two one other) (Global 2) domain → ⊥
no_third one other (domain, gives) = elim (one_of_two one other (Global 2) domain gives) [
  | inl is ↦ (let e = is.0 in cc)
  | inr is ↦ (let e = is.0 in cc)
]

x_base_is : (value : ℤ) → IsDeclared free_two (Global 0) value → value ≤ℤ pos 2
x_base_is value (base, has_base, has) =
    let variable : declared_x ≡ has_base.0 = same_some declared_x has_base.0 has_base.1 in
    let bases : Given (up_to 2) ≡ Given base = sym (has_base.2 ∙ ap (λ (v : VarDecl). v.base) (sym variable)) in
    let same : up_to 2 ≡ base = cc in
    (subst (λ d. Has d value) (sym same) has).1

pub quantity_given : Gives one_token (Token (root_token 0) (Param 0)) (Range (pos 1) (pos 1))
quantity_given = entry_there 0 (moment 0 1 1 ∷ []) 0 (moment 0 1 1) (Param 0) (Range (pos 1) (pos 1)) refl refl

quantity_base : (value : ℤ) → Has (Range (pos 0) (pos 1000000)) value → IsDeclared (limited Rejectable) (Token (root_token 0) (Param 0)) value
quantity_base value has = (
  Range (pos 0) (pos 1000000),
  (
    record { pred = 0; object = Given both_objects },
    record { root = root_of 0 Rejectable; is_root = refl; reached = refl },
    (_, record { predicate = predicate_of pred.Plain []; is_predicate = refl; declared = refl }, refl),
  ),
  has,
)

quantity_within : (value : ℤ) → IsDeclared (limited Rejectable) (Token (root_token 0) (Param 0)) value → value ≤ℤ pos 1000000
quantity_within value (base, has_base, has) =
    let slot = slot_same (at_most_one ∷ []) kind.Plain pred.Plain [] [] (Rejectable ∷ []) 0 has_base.0 has_base.1 in
    let part = subst (λ s. HasPartBase (limited Rejectable) s (Param 0) (Given base)) slot has_base.2 in
    let predicate : predicate_of pred.Plain [] ≡ part.1.predicate = same_some (predicate_of pred.Plain []) part.1.predicate part.1.is_predicate in
    let declared = subst (λ (p : Pred). slice_get p.params 0 ≡ Some part.0) (sym predicate) part.1.declared in
    let variable = same_some _ part.0 declared in
    let bases : Given (Range (pos 0) (pos 1000000)) ≡ Given base = sym (part.2 ∙ ap (λ (v : VarDecl). v.base) (sym variable)) in
    let same : Range (pos 0) (pos 1000000) ≡ base = cc in
    (subst (λ d. Has d value) (sym same) has).1

-- ---- the refusals

third_unknown_first : IsFirstRefusal free_two [] (with_two (up_to 2) (up_to 2)) (Specify (Global 2) (pos 3)) Unknown
third_unknown_first = record { hinders = no_third (up_to 2) (up_to 2); first = first }
  where
    first : (earlier : Refusal) → rank_of earlier < 0 → Hinders free_two [] (with_two (up_to 2) (up_to 2)) earlier (Specify (Global 2) (pos 3)) → ⊥
    first Unknown less h = omega (arith, less)
    first WrongType less h = omega (arith, less)
    first Decided less h = omega (arith, less)
    first NotInDomain less h = omega (arith, less)
    first NotActive less h = omega (arith, less)
    first NotSamePredicate less h = omega (arith, less)
    first NotRejectable less h = omega (arith, less)
    first SameToken less h = omega (arith, less)
    first ActiveFull less h = omega (arith, less)

pub third_unknown : IsRefused free_two [] (Specify (Global 2) (pos 3)) Unknown
third_unknown = record { state = (with_two (up_to 2) (up_to 2)); least = free_least; refusal = third_unknown_first }

x_decided_first : IsFirstRefusal free_two (x_is 0 ∷ []) (with_two (up_to 0) (up_to 2)) (x_is 3) Decided
x_decided_first = record { hinders = (pos 0, contains_head (x_is 0) []); first = first }
  where
    first : (earlier : Refusal) → rank_of earlier < 2 → Hinders free_two (x_is 0 ∷ []) (with_two (up_to 0) (up_to 2)) earlier (x_is 3) → ⊥
    first Unknown less h = h (up_to 0, gives_first (up_to 0) (up_to 2))
    first WrongType less h = h
    first Decided less h = omega (arith, less)
    first NotInDomain less h = omega (arith, less)
    first NotActive less h = omega (arith, less)
    first NotSamePredicate less h = omega (arith, less)
    first NotRejectable less h = omega (arith, less)
    first SameToken less h = omega (arith, less)
    first ActiveFull less h = omega (arith, less)

pub x_decided : IsRefused free_two (x_is 0 ∷ []) (x_is 3) Decided
x_decided = record { state = (with_two (up_to 0) (up_to 2)); least = zero_least; refusal = x_decided_first }

x_outside_first : IsFirstRefusal free_two [] (with_two (up_to 2) (up_to 2)) (x_is 3) NotInDomain
x_outside_first = record { hinders = λ declared. let few = x_base_is (pos 3) declared in omega (arith, ints, few); first = first }
  where
    first : (earlier : Refusal) → rank_of earlier < 3 → Hinders free_two [] (with_two (up_to 2) (up_to 2)) earlier (x_is 3) → ⊥
    first Unknown less h = h (up_to 2, gives_first (up_to 2) (up_to 2))
    first WrongType less h = h
    first Decided less h = contains_none (Specify (Global 0) h.0) h.1
    first NotInDomain less h = omega (arith, less)
    first NotActive less h = omega (arith, less)
    first NotSamePredicate less h = omega (arith, less)
    first NotRejectable less h = omega (arith, less)
    first SameToken less h = omega (arith, less)
    first ActiveFull less h = omega (arith, less)

pub x_outside : IsRefused free_two [] (x_is 3) NotInDomain
x_outside = record { state = (with_two (up_to 2) (up_to 2)); least = free_least; refusal = x_outside_first }

pub fact_decided : IsFirstRefusal (alone Fact) [] one_token activate_it Decided
fact_decided = record { hinders = inl (is_kind [] (Fact ∷ []) 0 Fact refl); first = first }
  where
    first : (earlier : Refusal) → rank_of earlier < 2 → Hinders (alone Fact) [] one_token earlier activate_it → ⊥
    first Unknown less h = h one_there
    first WrongType less h = h
    first Decided less h = omega (arith, less)
    first NotInDomain less h = omega (arith, less)
    first NotActive less h = omega (arith, less)
    first NotSamePredicate less h = omega (arith, less)
    first NotRejectable less h = omega (arith, less)
    first SameToken less h = omega (arith, less)
    first ActiveFull less h = omega (arith, less)

pub rejected_fact_decided : IsFirstRefusal (alone Fact) [] one_token reject_it Decided
rejected_fact_decided = record { hinders = inl (is_kind [] (Fact ∷ []) 0 Fact refl); first = first }
  where
    first : (earlier : Refusal) → rank_of earlier < 2 → Hinders (alone Fact) [] one_token earlier reject_it → ⊥
    first Unknown less h = h one_there
    first WrongType less h = h
    first Decided less h = omega (arith, less)
    first NotInDomain less h = omega (arith, less)
    first NotActive less h = omega (arith, less)
    first NotSamePredicate less h = omega (arith, less)
    first NotRejectable less h = omega (arith, less)
    first SameToken less h = omega (arith, less)
    first ActiveFull less h = omega (arith, less)

-- where nothing is active there aren't 512 active tokens
none_active : AreActive (alone Goal) [] 512 → ⊥
none_active p = at p.tokens p.active p.enough
  where
    root_only : (token : TokenName) → IsActive (alone Goal) [] token → ⊥
    root_only token (inr activation) = contains_none (Activate token) activation
    root_only token (inl fact) =
        let found = get_root 0 (Goal ∷ []) token.root fact.1.0 fact.1.1 in
        one token.root found.0 found.1.0 (ap (λ (r : Root). r.kind) found.1.1 ∙ fact.1.2)
      where
        one : (number : ℕ) (root_kind : RootKind) → slice_get (Goal ∷ []) number ≡ Some root_kind → root_kind ≡ Fact → ⊥
        one zero root_kind at e = no_goal (same_some Goal root_kind at ∙ e)
        one (suc number) root_kind at e = cc

    at : (tokens : List TokenName) → All (IsActive (alone Goal) []) tokens → 512 ≤ length tokens → ⊥
    at [] all enough = omega (arith, enough)
    at (token ∷ tokens) all enough = root_only token (All-contains (IsActive (alone Goal) []) (token ∷ tokens) token all (contains_head token tokens))

pub goal_free : IsUnhindered (alone Goal) [] one_token activate_it
goal_free Unknown h = h one_there
goal_free WrongType h = h
goal_free Decided h = undecided [] (Goal ∷ []) 0 Goal refl no_goal h
goal_free NotInDomain h = h
goal_free NotActive h = h
goal_free NotSamePredicate h = h
goal_free NotRejectable h = h
goal_free SameToken h = h
goal_free ActiveFull h = none_active h

pub quantity_outside : IsFirstRefusal (limited Rejectable) [] one_token (quantity_is 1000001) NotInDomain
quantity_outside = record { hinders = λ declared. let few = quantity_within (pos 1000001) declared in omega (arith, ints, few); first = first }
  where
    first : (earlier : Refusal) → rank_of earlier < 3 → Hinders (limited Rejectable) [] one_token earlier (quantity_is 1000001) → ⊥
    first Unknown less h = h (Range (pos 1) (pos 1), quantity_given)
    first WrongType less h = h
    first Decided less h = contains_none (Specify (Token (root_token 0) (Param 0)) h.0) h.1
    first NotInDomain less h = omega (arith, less)
    first NotActive less h = omega (arith, less)
    first NotSamePredicate less h = omega (arith, less)
    first NotRejectable less h = omega (arith, less)
    first SameToken less h = omega (arith, less)
    first ActiveFull less h = omega (arith, less)

pub quantity_untaken : IsFirstRefusal (limited Rejectable) [] one_token (quantity_is 1) NotActive
quantity_untaken = record { hinders = λ counts. untaken (root_token 0) (counts (root_token 0) refl (refl, (root_of 0 Rejectable, refl, refl))); first = first }
  where
    first : (earlier : Refusal) → rank_of earlier < 4 → Hinders (limited Rejectable) [] one_token earlier (quantity_is 1) → ⊥
    first Unknown less h = h (Range (pos 1) (pos 1), quantity_given)
    first WrongType less h = h
    first Decided less h = contains_none (Specify (Token (root_token 0) (Param 0)) h.0) h.1
    first NotInDomain less h = h (quantity_base (pos 1) (omega (arith, ints), omega (arith, ints)))
    first NotActive less h = omega (arith, less)
    first NotSamePredicate less h = omega (arith, less)
    first NotRejectable less h = omega (arith, less)
    first SameToken less h = omega (arith, less)
    first ActiveFull less h = omega (arith, less)

pub quantity_taken : IsUnhindered (limited Rejectable) activated one_token (quantity_is 1)
quantity_taken Unknown h = h (Range (pos 1) (pos 1), quantity_given)
quantity_taken WrongType h = h
quantity_taken Decided h = let same = only_member activate_it (Specify (Token (root_token 0) (Param 0)) h.0) h.1 in cc
quantity_taken NotInDomain h = h (quantity_base (pos 1) (omega (arith, ints), omega (arith, ints)))
quantity_taken NotActive h = h (λ token belongs rejectable. inl (subst (λ t. Contains activated (Activate t)) belongs (contains_head activate_it [])))
quantity_taken NotSamePredicate h = h
quantity_taken NotRejectable h = h
quantity_taken SameToken h = h
quantity_taken ActiveFull h = h

pub target_inactive : IsFirstRefusal two_goals [] two_tokens merge_them NotActive
target_inactive = record { hinders = inactive [] (Goal ∷ Goal ∷ []) 1 Goal refl no_goal; first = first }
  where
    first : (earlier : Refusal) → rank_of earlier < 4 → Hinders two_goals [] two_tokens earlier merge_them → ⊥
    first Unknown less h = h (first_there, second_there)
    first WrongType less h = h
    first Decided less h = undecided [] (Goal ∷ Goal ∷ []) 0 Goal refl no_goal h
    first NotInDomain less h = h
    first NotActive less h = omega (arith, less)
    first NotSamePredicate less h = omega (arith, less)
    first NotRejectable less h = omega (arith, less)
    first SameToken less h = omega (arith, less)
    first ActiveFull less h = omega (arith, less)

pub same_predicate : HaveSamePredicate goal_and_fact (root_token 0) (root_token 1)
same_predicate = record {
  slot = record { pred = 0; object = Given both_objects };
  other_slot = record { pred = 0; object = Given both_objects };
  has_one = record { root = root_of 0 Goal; is_root = refl; reached = refl };
  has_other = record { root = root_of 1 Fact; is_root = refl; reached = refl };
  same = refl;
}

pub merge_free : IsUnhindered goal_and_fact [] two_tokens merge_them
merge_free Unknown h = h (first_there, second_there)
merge_free WrongType h = h
merge_free Decided h = undecided [] (Goal ∷ Fact ∷ []) 0 Goal refl no_goal h
merge_free NotInDomain h = h
merge_free NotActive h = h (inl (is_kind [] (Goal ∷ Fact ∷ []) 1 Fact refl))
merge_free NotSamePredicate h = h same_predicate
merge_free NotRejectable h = h
merge_free SameToken h = h
merge_free ActiveFull h = h

pub goal_inactive : IsFirstRefusal goal_and_fact [] two_tokens order_them NotActive
goal_inactive = record { hinders = inl (inactive [] (Goal ∷ Fact ∷ []) 0 Goal refl no_goal); first = first }
  where
    first : (earlier : Refusal) → rank_of earlier < 4 → Hinders goal_and_fact [] two_tokens earlier order_them → ⊥
    first Unknown less h = h (first_there, second_there)
    first WrongType less h = h
    first Decided less h = contains_none order_them h
    first NotInDomain less h = h
    first NotActive less h = omega (arith, less)
    first NotSamePredicate less h = omega (arith, less)
    first NotRejectable less h = omega (arith, less)
    first SameToken less h = omega (arith, less)
    first ActiveFull less h = omega (arith, less)

pub goal_before_itself : IsFirstRefusal (alone Goal) [] one_token order_it NotActive
goal_before_itself = record { hinders = inl (inactive [] (Goal ∷ []) 0 Goal refl no_goal); first = first }
  where
    first : (earlier : Refusal) → rank_of earlier < 4 → Hinders (alone Goal) [] one_token earlier order_it → ⊥
    first Unknown less h = h (one_there, one_there)
    first WrongType less h = h
    first Decided less h = contains_none order_it h
    first NotInDomain less h = h
    first NotActive less h = omega (arith, less)
    first NotSamePredicate less h = omega (arith, less)
    first NotRejectable less h = omega (arith, less)
    first SameToken less h = omega (arith, less)
    first ActiveFull less h = omega (arith, less)

pub order_free : IsUnhindered (two_facts kind.Plain) [] two_tokens order_them
order_free Unknown h = h (first_there, second_there)
order_free WrongType h = h
order_free Decided h = contains_none order_them h
order_free NotInDomain h = h
order_free NotActive h = elim h [ inl none ↦ none (inl (is_kind [] (Fact ∷ Fact ∷ []) 0 Fact refl)) | inr none ↦ none (inl (is_kind [] (Fact ∷ Fact ∷ []) 1 Fact refl)) ]
order_free NotSamePredicate h = h
order_free NotRejectable h = h
order_free SameToken h = let roots = ap (λ (t : TokenName). t.root) h in omega (arith, roots)
order_free ActiveFull h = h

pub order_of_one : IsFirstRefusal (two_facts kind.Plain) [] two_tokens order_it SameToken
order_of_one = record { hinders = refl; first = first }
  where
    first : (earlier : Refusal) → rank_of earlier < 7 → Hinders (two_facts kind.Plain) [] two_tokens earlier order_it → ⊥
    first Unknown less h = h (first_there, first_there)
    first WrongType less h = h
    first Decided less h = contains_none order_it h
    first NotInDomain less h = h
    first NotActive less h = elim h [ inl none ↦ none (inl (is_kind [] (Fact ∷ Fact ∷ []) 0 Fact refl)) | inr none ↦ none (inl (is_kind [] (Fact ∷ Fact ∷ []) 0 Fact refl)) ]
    first NotSamePredicate less h = h
    first NotRejectable less h = h
    first SameToken less h = omega (arith, less)
    first ActiveFull less h = omega (arith, less)

pub differ : HaveSamePredicate mixed (root_token 0) (root_token 1) → ⊥
differ p =
    let one : p.slot ≡ record { pred = 0; object = Given both_objects } = p.has_one.reached ∙ ap slot_of (sym (same_some _ p.has_one.root p.has_one.is_root)) in
    let other : p.other_slot ≡ record { pred = 1; object = Given both_objects } = p.has_other.reached ∙ ap slot_of (sym (same_some _ p.has_other.root p.has_other.is_root)) in
    let preds : 0 ≡ 1 = sym (ap (λ (s : Slot). s.pred) one) ∙ (p.same ∙ ap (λ (s : Slot). s.pred) other) in
    omega (arith, preds)

mixed_undecided : IsDecided mixed [] (root_token 0) → ⊥
mixed_undecided (inl fact) =
    let root = same_some (root_of 0 Goal) fact.1.0 fact.1.1 in no_goal (ap (λ (r : Root). r.kind) root ∙ fact.1.2)
mixed_undecided (inr (inl (inl activation))) = contains_none (Activate (root_token 0)) activation
mixed_undecided (inr (inl (inr merge))) = contains_none (Merge (root_token 0) merge.0) merge.1
mixed_undecided (inr (inr rejection)) = contains_none (Reject (root_token 0)) rejection

pub mixed_differ : IsFirstRefusal mixed [] two_tokens merge_them NotSamePredicate
mixed_differ = record { hinders = differ; first = first }
  where
    first : (earlier : Refusal) → rank_of earlier < 5 → Hinders mixed [] two_tokens earlier merge_them → ⊥
    first Unknown less h = h (first_there, second_there)
    first WrongType less h = h
    first Decided less h = mixed_undecided h
    first NotInDomain less h = h
    first NotActive less h = h (inl (refl, (_, refl, refl)))
    first NotSamePredicate less h = omega (arith, less)
    first NotRejectable less h = omega (arith, less)
    first SameToken less h = omega (arith, less)
    first ActiveFull less h = omega (arith, less)

pub goal_not_rejectable : IsFirstRefusal (alone Goal) [] one_token reject_it NotRejectable
goal_not_rejectable = record { hinders = λ is. let e = kind_is [] (Goal ∷ []) 0 Goal Rejectable refl is in cc; first = first }
  where
    first : (earlier : Refusal) → rank_of earlier < 6 → Hinders (alone Goal) [] one_token earlier reject_it → ⊥
    first Unknown less h = h one_there
    first WrongType less h = h
    first Decided less h = undecided [] (Goal ∷ []) 0 Goal refl no_goal h
    first NotInDomain less h = h
    first NotActive less h = h
    first NotSamePredicate less h = h
    first NotRejectable less h = omega (arith, less)
    first SameToken less h = omega (arith, less)
    first ActiveFull less h = omega (arith, less)

pub rejectable_free : IsUnhindered (alone Rejectable) [] one_token reject_it
rejectable_free Unknown h = h one_there
rejectable_free WrongType h = h
rejectable_free Decided h = undecided [] (Rejectable ∷ []) 0 Rejectable refl no_rejectable h
rejectable_free NotInDomain h = h
rejectable_free NotActive h = h
rejectable_free NotSamePredicate h = h
rejectable_free NotRejectable h = h (is_kind [] (Rejectable ∷ []) 0 Rejectable refl)
rejectable_free SameToken h = h
rejectable_free ActiveFull h = h

-- ---- many tokens

many_goal : (number : ℕ) → slice_get (facts_and_goal number) number ≡ Some Goal
many_goal zero = refl
many_goal (suc number) = many_goal number

many_moment : (number : ℕ) → slice_get (many_moments number) number ≡ Some (moment 0 1 1)
many_moment zero = refl
many_moment (suc number) = many_moment number

many_fact : (number place : ℕ) → place < number → slice_get (facts_and_goal number) place ≡ Some Fact
many_fact zero place less = absurd (omega (arith, less))
many_fact (suc number) zero less = refl
many_fact (suc number) (suc place) less = many_fact number place (omega (arith, less))

-- so many moments
abbrev fact_moments : ℕ → List Moment
fact_moments zero = []
fact_moments (suc number) = moment 0 1 1 ∷ fact_moments number

fact_place : (number place : ℕ) (found : Moment) → slice_get (fact_moments number) place ≡ Some found → place < number
fact_place zero place found at = absurd (cc)
fact_place (suc number) zero found at = omega arith
fact_place (suc number) (suc place) found at = let less = fact_place number place found at in omega (arith, less)

tokens_length : (first number : ℕ) → length (tokens_of first (fact_moments number)) ≡ number
tokens_length first zero = refl
tokens_length first (suc number) = ap suc (tokens_length (first + 1) number)

many_active : (number : ℕ) → AreActive (many_roots number) [] number
many_active number = record {
  tokens = tokens_of 0 (fact_moments number);
  distinct = λ i j d less within same. token_order.irreflexive _ (subst (IsTokenBefore _) (sym same) (tokens_in_order 0 (fact_moments number) i j d less within));
  active = all_members (IsActive (many_roots number) []) (tokens_of 0 (fact_moments number)) (λ token c.
      let is = token_of 0 (fact_moments number) token c in
      let named : token ≡ root_token is.place = is.named ∙ ap root_token (let same : 0 + is.place ≡ is.place = omega arith in same) in
      subst (IsActive (many_roots number) []) (sym named) (inl (is_kind [] (facts_and_goal number) is.place Fact (many_fact number is.place (fact_place number is.place is.moment is.at)))));
  enough = omega (arith, tokens_length 0 number);
}

module _ (number : ℕ) where
  first_many : (earlier : Refusal) → rank_of earlier < 8 → Hinders (many_roots number) [] (many_tokens number) earlier (Activate (root_token number)) → ⊥
  first_many Unknown less h = h (subst (λ n. Contains (tokens_of 0 (many_moments number)) (root_token n)) (let same : 0 + number ≡ number = omega arith in same) (token_there 0 (many_moments number) number (moment 0 1 1) (many_moment number)))
  first_many WrongType less h = h
  first_many Decided less h = undecided [] (facts_and_goal number) number Goal (many_goal number) no_goal h
  first_many NotInDomain less h = h
  first_many NotActive less h = h
  first_many NotSamePredicate less h = h
  first_many NotRejectable less h = h
  first_many SameToken less h = h
  first_many ActiveFull less h = omega (arith, less)

pub many_full : IsFirstRefusal (many_roots 512) [] (many_tokens 512) (Activate (root_token 512)) ActiveFull
many_full = record { hinders = many_active 512; first = first_many 512 }
