-- The examples of constraints and relations that are posted.
use Rattle.std.proofs.Common.{◌≡◌, ℕ, ◌<◌, ◌≤◌, List, [], ◌∷◌, Some, ℤ, pos, inl, inr, refl, sym, ap, ◌∙◌, subst, arith}
use Rattle.std.specs.Prelude.{Contains, All, map, slice_get}
use Rattle.std.proofs.lemmas.Int.{ints}
use Rattle.std.proofs.lemmas.List.Elements.{All-nil, All-cons, All-head, All-tail}
use Rattle.domain_core.specs.Domain.{Domain, Range, IsValue}
use Rattle.domain_core.specs.declared.kind.Kind.{Kind}
use Rattle.domain_core.specs.declared.kind.Kind.TheVariants.{Eq, Leq}
use Rattle.eu_name.specs.declared.name.Part.TheVariants.{Param}
use Rattle.eu_name.specs.declared.name.TokenName.{TokenName}
use Rattle.eu_name.specs.declared.name.VarName.{VarName}
use Rattle.eu_name.specs.declared.name.VarName.TheVariants.{Token, Global}
use Rattle.eu_name.proofs.Ordered.{contains_head, contains_cases, contains_none}
use Rattle.model_core.specs.declared.class.PredKind.TheVariants as pred
use Rattle.model_core.specs.declared.decision.ConArg.{ConArg}
use Rattle.model_core.specs.declared.decision.ConArg.TheVariants.{Var, Value}
use Rattle.model_core.specs.declared.decision.Decision.{Decision}
use Rattle.model_core.specs.declared.decision.Decision.TheVariants.{Activate, Constrain}
use Rattle.model_core.specs.declared.item.Rel.TheVariants.{Before, Meets}
use Rattle.model_core.specs.declared.model.Model.{Model}
use Rattle.model_core.specs.declared.model.RootKind.TheVariants.{Goal, Rejectable}
use Rattle.model_core.specs.declared.refusal.Refusal.{Refusal}
use Rattle.model_core.specs.declared.refusal.Refusal.TheVariants.{Unknown, WrongType, Decided, NotInDomain, NotActive, NotSamePredicate, NotRejectable, SameToken, ActiveFull}
use Rattle.model_core.specs.declared.variable.Base.TheVariants.{Given}
use Rattle.model_core.specs.declared.variable.ValueKind.{ValueKind}
use Rattle.model_core.specs.declared.variable.ValueKind.TheVariants.{Int, Bool}
use Rattle.model_core.specs.declared.variable.VarDecl.{VarDecl}
use Rattle.model_core.specs.Arguments.{IsOfType, IsInType, AreCompared, Takes}
use Rattle.model_core.specs.Decided.{IsTaken}
use Rattle.model_core.specs.Kinds.{IsNumeric, IsValueOf, IsVariableOfKind}
use Rattle.model_core.specs.State.{State}
use Rattle.model_core.specs.Tokens.{root_token}
use Rattle.plan_defs.specs.Claims.{argument_of}
use Rattle.plan_defs.specs.Refusals.{rank_of, IsArgumentKnown, Hinders, IsAdmissible, IsFirstRefusal, IsRefused}
use Rattle.plan_defs.specs.Terms.{Variable, TokenCounts, ArgumentCounts}
use Rattle.law_examples.specs.Cases.{battery, limited, activated, activate_it}
use Rattle.law_examples.specs.Globals.{declared_x, with_two, up_to}
use Rattle.law_examples.specs.Posted.{the_x, the_y, the_third, the_quantity, leq, eq, leq_alone, relate_them, relate_it, both_truths, declared_b, typed, the_b, typed_state}
use Rattle.law_examples.specs.Refused.{IsUnhindered, one_token, two_tokens, two_goals}
use Rattle.law_examples.specs.Scenes.{both_objects, predicate_of, root_of}
use Rattle.law_examples.specs.Worlds.{declared_y, free_two}
use Rattle.law_examples.proofs.Lists.{only_member, same_some}
use Rattle.law_examples.proofs.Reasons.{kind_is, untaken, no_third, first_there, second_there, quantity_given}
use Rattle.law_examples.proofs.Settling.{free_least}
use Rattle.law_examples.proofs.TwoVariables.{gives_first, gives_second}

-- ---- reasons against a constraint

module _ (model : Model) (decisions : List Decision) (state : State) (kind : Kind) (arguments : List ConArg) where
  -- no reason speaks against it
  unhindered : All (IsArgumentKnown state) arguments → Takes (IsOfType model) kind arguments
      → (Contains decisions (Constrain kind arguments) → ⊥) → Takes (IsInType model) kind arguments
      → All (ArgumentCounts model (IsTaken decisions)) (map argument_of arguments)
      → IsUnhindered model decisions state (Constrain kind arguments)
  unhindered known of_type fresh in_type counts Unknown h = h known
  unhindered known of_type fresh in_type counts WrongType h = h of_type
  unhindered known of_type fresh in_type counts Decided h = fresh h
  unhindered known of_type fresh in_type counts NotInDomain h = h in_type
  unhindered known of_type fresh in_type counts NotActive h = h counts
  unhindered known of_type fresh in_type counts NotSamePredicate h = h
  unhindered known of_type fresh in_type counts NotRejectable h = h
  unhindered known of_type fresh in_type counts SameToken h = h
  unhindered known of_type fresh in_type counts ActiveFull h = h

  -- none that is looked for before this one does
  none_before : (rank : ℕ) → rank ≤ 4 → (0 < rank → All (IsArgumentKnown state) arguments) → (1 < rank → Takes (IsOfType model) kind arguments)
      → (2 < rank → Contains decisions (Constrain kind arguments) → ⊥) → (3 < rank → Takes (IsInType model) kind arguments)
      → (earlier : Refusal) → rank_of earlier < rank → Hinders model decisions state earlier (Constrain kind arguments) → ⊥
  none_before rank few known of_type fresh in_type Unknown less h = h (known less)
  none_before rank few known of_type fresh in_type WrongType less h = h (of_type less)
  none_before rank few known of_type fresh in_type Decided less h = fresh less h
  none_before rank few known of_type fresh in_type NotInDomain less h = h (in_type less)
  none_before rank few known of_type fresh in_type NotActive less h = omega (arith, few, less)
  none_before rank few known of_type fresh in_type NotSamePredicate less h = h
  none_before rank few known of_type fresh in_type NotRejectable less h = h
  none_before rank few known of_type fresh in_type SameToken less h = h
  none_before rank few known of_type fresh in_type ActiveFull less h = h

-- what holds of both holds of all
pub both : {X : Type 0} (P : X → Type 0) (one other : X) → P one → P other → All P (one ∷ other ∷ [])
both P one other first second = All-cons P one (other ∷ []) first (All-cons P other [] second (All-nil P))

-- ---- x and y

abbrev whole : State
whole = with_two (up_to 2) (up_to 2)

x_known : (one other : Domain) → IsArgumentKnown (with_two one other) the_x
x_known one other = (one, gives_first one other)

y_known : (one other : Domain) → IsArgumentKnown (with_two one other) the_y
y_known one other = (other, gives_second one other)

x_is_int : IsVariableOfKind free_two Int (Global 0)
x_is_int = (declared_x, (refl, refl))

y_is_int : IsVariableOfKind free_two Int (Global 1)
y_is_int = (declared_y, (refl, refl))

pub global_counts : (model : Model) (decisions : List Decision) (number : ℕ) → ArgumentCounts model (IsTaken decisions) (Variable (Global number))
global_counts model decisions number token belongs rejectable = absurd belongs

-- two arguments of which the first is x
x_and : (Suits : ValueKind → ConArg → Type 0) (other : ConArg) → Suits Int the_x → Suits Int other → AreCompared Suits Int (the_x ∷ other ∷ [])
x_and Suits other first second = record { name = Global 0; some = contains_head the_x (other ∷ []); suit = both (Suits Int) the_x other first second }

y_and : (Suits : ValueKind → ConArg → Type 0) (other : ConArg) → Suits Int the_y → Suits Int other → AreCompared Suits Int (the_y ∷ other ∷ [])
y_and Suits other first second = record { name = Global 1; some = contains_head the_y (other ∷ []); suit = both (Suits Int) the_y other first second }

-- x is of no other kind than its own
x_kind : (model : Model) (kind : ValueKind) (variable : VarDecl) → model.problem.globals ≡ declared_x ∷ variable ∷ [] → IsVariableOfKind model kind (Global 0) → kind ≡ Int
x_kind model kind variable are is =
    let first : Some declared_x ≡ Some is.0 = sym (ap (λ globals. slice_get globals 0) are) ∙ is.1.0 in
    is.1.1 ∙ ap (λ (v : VarDecl). v.kind) (sym (same_some declared_x is.0 first))

x_below_y : (Suits : ValueKind → ConArg → Type 0) → Suits Int the_x → Suits Int the_y → Takes Suits Leq (the_x ∷ the_y ∷ [])
x_below_y Suits first second = (Int, tt, x_and Suits the_y first second)

-- ---- unknown

argument_unknown_first : IsFirstRefusal free_two [] whole (leq the_x the_third) Unknown
argument_unknown_first = record {
  hinders = λ known. no_third (up_to 2) (up_to 2)
      (All-head (IsArgumentKnown whole) the_third [] (All-tail (IsArgumentKnown whole) the_x (the_third ∷ []) known));
  first = none_before free_two [] whole Leq (the_x ∷ the_third ∷ []) 0 (omega arith)
      (λ less. absurd (omega (arith, less))) (λ less. absurd (omega (arith, less))) (λ less. absurd (omega (arith, less))) (λ less. absurd (omega (arith, less)));
}

pub argument_unknown : IsRefused free_two [] (leq the_x the_third) Unknown
argument_unknown = record { state = whole; least = free_least; refusal = argument_unknown_first }

lone_unknown_first : IsFirstRefusal free_two [] whole (leq_alone the_third) Unknown
lone_unknown_first = record {
  hinders = λ known. no_third (up_to 2) (up_to 2) (All-head (IsArgumentKnown whole) the_third [] known);
  first = none_before free_two [] whole Leq (the_third ∷ []) 0 (omega arith)
      (λ less. absurd (omega (arith, less))) (λ less. absurd (omega (arith, less))) (λ less. absurd (omega (arith, less))) (λ less. absurd (omega (arith, less)));
}

pub lone_unknown : IsRefused free_two [] (leq_alone the_third) Unknown
lone_unknown = record { state = whole; least = free_least; refusal = lone_unknown_first }

pub x_below_y_admissible : IsAdmissible free_two [] (leq the_x the_y)
x_below_y_admissible = record {
  state = whole;
  least = free_least;
  free = unhindered free_two [] whole Leq (the_x ∷ the_y ∷ [])
      (both (IsArgumentKnown whole) the_x the_y (x_known (up_to 2) (up_to 2)) (y_known (up_to 2) (up_to 2)))
      (x_below_y (IsOfType free_two) x_is_int y_is_int) (contains_none (leq the_x the_y)) (x_below_y (IsInType free_two) x_is_int y_is_int)
      (both (ArgumentCounts free_two (IsTaken [])) (Variable (Global 0)) (Variable (Global 1)) (global_counts free_two [] 0) (global_counts free_two [] 1));
}

-- ---- arguments that a constraint doesn't take

alone_refused : IsFirstRefusal free_two [] whole (leq_alone the_x) WrongType
alone_refused = record {
  hinders = λ takes. takes;
  first = none_before free_two [] whole Leq (the_x ∷ []) 1 (omega arith)
      (λ less. All-cons (IsArgumentKnown whole) the_x [] (x_known (up_to 2) (up_to 2)) (All-nil (IsArgumentKnown whole)))
      (λ less. absurd (omega (arith, less))) (λ less. absurd (omega (arith, less))) (λ less. absurd (omega (arith, less)));
}

pub too_few : IsRefused free_two [] (leq_alone the_x) WrongType
too_few = record { state = whole; least = free_least; refusal = alone_refused }

values_refused : IsFirstRefusal free_two [] whole (eq (Value (pos 1)) (Value (pos 2))) WrongType
values_refused = record {
  hinders = λ takes. no_name takes.1.name takes.1.some;
  first = none_before free_two [] whole Eq (Value (pos 1) ∷ Value (pos 2) ∷ []) 1 (omega arith)
      (λ less. both (IsArgumentKnown whole) (Value (pos 1)) (Value (pos 2)) tt tt)
      (λ less. absurd (omega (arith, less))) (λ less. absurd (omega (arith, less))) (λ less. absurd (omega (arith, less)));
}
  where
    no_name : (name : VarName) → Contains (Value (pos 1) ∷ Value (pos 2) ∷ []) (Var name) → ⊥
    no_name name some = elim (contains_cases (Value (pos 1)) (Var name) (Value (pos 2) ∷ []) some) [
      | inl same ↦ cc
      | inr later ↦ (let same = only_member (Value (pos 2)) (Var name) later in cc)
    ]

pub no_variable : IsRefused free_two [] (eq (Value (pos 1)) (Value (pos 2))) WrongType
no_variable = record { state = whole; least = free_least; refusal = values_refused }

-- what the arguments are where one is x and the other a value
module _ (value : ℤ) (is_value : IsValue value) where
  x_and_value : IsUnhindered free_two [] whole (eq the_x (Value value))
  x_and_value =
      unhindered free_two [] whole Eq (the_x ∷ Value value ∷ [])
      (both (IsArgumentKnown whole) the_x (Value value) (x_known (up_to 2) (up_to 2)) tt)
      (Int, x_and (IsOfType free_two) (Value value) x_is_int tt) (contains_none (eq the_x (Value value)))
      (Int, x_and (IsInType free_two) (Value value) x_is_int is_value)
      (both (ArgumentCounts free_two (IsTaken [])) (Variable (Global 0)) (argument_of (Value value)) (global_counts free_two [] 0) tt)

  x_below_value : IsUnhindered free_two [] whole (leq the_x (Value value))
  x_below_value =
      unhindered free_two [] whole Leq (the_x ∷ Value value ∷ [])
      (both (IsArgumentKnown whole) the_x (Value value) (x_known (up_to 2) (up_to 2)) tt)
      (Int, tt, x_and (IsOfType free_two) (Value value) x_is_int tt) (contains_none (leq the_x (Value value)))
      (Int, tt, x_and (IsInType free_two) (Value value) x_is_int is_value)
      (both (ArgumentCounts free_two (IsTaken [])) (Variable (Global 0)) (argument_of (Value value)) (global_counts free_two [] 0) tt)

pub with_variable : IsAdmissible free_two [] (eq the_x (Value (pos 2)))
with_variable = record { state = whole; least = free_least; free = x_and_value (pos 2) (omega (arith, ints), omega (arith, ints)) }

-- ---- two kinds

b_known : IsArgumentKnown typed_state the_b
b_known = (both_truths, gives_second (up_to 2) both_truths)

b_kind : (kind : ValueKind) → IsVariableOfKind typed kind (Global 1) → kind ≡ Bool
b_kind kind is = is.1.1 ∙ ap (λ (v : VarDecl). v.kind) (sym (same_some declared_b is.0 is.1.0))

pub two_kinds : IsFirstRefusal typed [] typed_state (eq the_x the_b) WrongType
two_kinds = record {
  hinders = λ takes. differ takes.0 takes.1.suit;
  first = none_before typed [] typed_state Eq (the_x ∷ the_b ∷ []) 1 (omega arith)
      (λ less. both (IsArgumentKnown typed_state) the_x the_b (x_known (up_to 2) both_truths) b_known)
      (λ less. absurd (omega (arith, less))) (λ less. absurd (omega (arith, less))) (λ less. absurd (omega (arith, less)));
}
  where
    differ : (kind : ValueKind) → All (IsOfType typed kind) (the_x ∷ the_b ∷ []) → ⊥
    differ kind suit =
        let first = x_kind typed kind declared_b refl (All-head (IsOfType typed kind) the_x (the_b ∷ []) suit) in
        let second = b_kind kind (All-head (IsOfType typed kind) the_b [] (All-tail (IsOfType typed kind) the_x (the_b ∷ []) suit)) in
        let same : Int ≡ Bool = sym first ∙ second in
        cc

pub ordered_truths : IsFirstRefusal typed [] typed_state (leq the_b (Value (pos 1))) WrongType
ordered_truths = record {
  hinders = λ takes. subst IsNumeric (b_kind takes.0 (All-head (IsOfType typed takes.0) the_b (Value (pos 1) ∷ []) takes.2.suit)) takes.1;
  first = none_before typed [] typed_state Leq (the_b ∷ Value (pos 1) ∷ []) 1 (omega arith)
      (λ less. both (IsArgumentKnown typed_state) the_b (Value (pos 1)) b_known tt)
      (λ less. absurd (omega (arith, less))) (λ less. absurd (omega (arith, less))) (λ less. absurd (omega (arith, less)));
}

pub equal_truths : IsUnhindered typed [] typed_state (eq the_b (Value (pos 1)))
equal_truths =
    unhindered typed [] typed_state Eq (the_b ∷ Value (pos 1) ∷ []) (both (IsArgumentKnown typed_state) the_b (Value (pos 1)) b_known tt)
    (Bool, and_one (IsOfType typed) is_truth tt) (contains_none (eq the_b (Value (pos 1)))) (Bool, and_one (IsInType typed) is_truth (inr refl))
    (both (ArgumentCounts typed (IsTaken [])) (Variable (Global 1)) (argument_of (Value (pos 1))) (global_counts typed [] 1) tt)
  where
    is_truth : IsVariableOfKind typed Bool (Global 1)
    is_truth = (declared_b, (refl, refl))

    and_one : (Suits : ValueKind → ConArg → Type 0) → Suits Bool the_b → Suits Bool (Value (pos 1)) → AreCompared Suits Bool (the_b ∷ Value (pos 1) ∷ [])
    and_one Suits first second =
        record { name = Global 1; some = contains_head the_b (Value (pos 1) ∷ []); suit = both (Suits Bool) the_b (Value (pos 1)) first second }

-- ---- decided

abbrev posted : List Decision
posted = leq the_x the_y ∷ []

pub posted_decided : IsFirstRefusal free_two (leq the_x the_y ∷ []) (with_two (up_to 2) (up_to 2)) (leq the_x the_y) Decided
posted_decided = record {
  hinders = contains_head (leq the_x the_y) [];
  first = none_before free_two posted whole Leq (the_x ∷ the_y ∷ []) 2 (omega arith)
      (λ less. both (IsArgumentKnown whole) the_x the_y (x_known (up_to 2) (up_to 2)) (y_known (up_to 2) (up_to 2)))
      (λ less. x_below_y (IsOfType free_two) x_is_int y_is_int)
      (λ less. absurd (omega (arith, less))) (λ less. absurd (omega (arith, less)));
}

pub turned_free : IsUnhindered free_two (leq the_x the_y ∷ []) (with_two (up_to 2) (up_to 2)) (leq the_y the_x)
turned_free =
    unhindered free_two posted whole Leq (the_y ∷ the_x ∷ [])
    (both (IsArgumentKnown whole) the_y the_x (y_known (up_to 2) (up_to 2)) (x_known (up_to 2) (up_to 2)))
    (Int, tt, y_and (IsOfType free_two) the_x y_is_int x_is_int) fresh (Int, tt, y_and (IsInType free_two) the_x y_is_int x_is_int)
    (both (ArgumentCounts free_two (IsTaken posted)) (Variable (Global 1)) (Variable (Global 0)) (global_counts free_two posted 1) (global_counts free_two posted 0))
  where
    same_number : (a b : ℕ) → Global a ≡ Global b → a ≡ b
    same_number a b same = cc

    fresh : Contains posted (leq the_y the_x) → ⊥
    fresh there =
        let same = only_member (leq the_x the_y) (leq the_y the_x) there in
        let names : Global 0 ≡ Global 1 = cc in
        let numbers = same_number 0 1 names in
        omega (arith, numbers)

-- ---- values

outside_refused : IsFirstRefusal free_two [] whole (leq the_x (Value (pos 1000001))) NotInDomain
outside_refused = record {
  hinders = λ takes. too_much takes.0 takes.2.suit;
  first = none_before free_two [] whole Leq (the_x ∷ Value (pos 1000001) ∷ []) 3 (omega arith)
      (λ less. both (IsArgumentKnown whole) the_x (Value (pos 1000001)) (x_known (up_to 2) (up_to 2)) tt)
      (λ less. (Int, tt, x_and (IsOfType free_two) (Value (pos 1000001)) x_is_int tt)) (λ less. contains_none (leq the_x (Value (pos 1000001))))
      (λ less. absurd (omega (arith, less)));
}
  where
    too_much : (kind : ValueKind) → All (IsInType free_two kind) (the_x ∷ Value (pos 1000001) ∷ []) → ⊥
    too_much kind suit =
        let is_int = x_kind free_two kind declared_y refl (All-head (IsInType free_two kind) the_x (Value (pos 1000001) ∷ []) suit) in
        let of_kind = All-head (IsInType free_two kind) (Value (pos 1000001)) [] (All-tail (IsInType free_two kind) the_x (Value (pos 1000001) ∷ []) suit) in
        let is_value : IsValue (pos 1000001) = subst (λ k. IsValueOf free_two k (pos 1000001)) is_int of_kind in
        let few = is_value.1 in
        omega (arith, ints, few)

pub value_outside : IsRefused free_two [] (leq the_x (Value (pos 1000001))) NotInDomain
value_outside = record { state = whole; least = free_least; refusal = outside_refused }

pub value_inside : IsAdmissible free_two [] (leq the_x (Value (pos 1000000)))
value_inside = record { state = whole; least = free_least; free = x_below_value (pos 1000000) (omega (arith, ints), omega (arith, ints)) }

-- ---- rejectables

module _ (decisions : List Decision) where
  abbrev low : List ConArg
  low = the_quantity ∷ Value (pos 1) ∷ []

  quantity_known : All (IsArgumentKnown one_token) low
  quantity_known = both (IsArgumentKnown one_token) the_quantity (Value (pos 1)) (Range (pos 1) (pos 1), quantity_given) tt

  quantity_is_int : IsVariableOfKind (limited Rejectable) Int (Token (root_token 0) (Param 0))
  quantity_is_int = (
    record { pred = 0; object = Given both_objects },
    (
      record { root = root_of 0 Rejectable; is_root = refl; reached = refl },
      (_, record { predicate = predicate_of pred.Plain []; is_predicate = refl; declared = refl }, refl),
    ),
  )

  quantity_and : (Suits : ValueKind → ConArg → Type 0) → Suits Int the_quantity → Suits Int (Value (pos 1)) → Takes Suits Leq low
  quantity_and Suits first second = (
    Int,
    tt,
    record {
      name = Token (root_token 0) (Param 0);
      some = contains_head the_quantity (Value (pos 1) ∷ []);
      suit = both (Suits Int) the_quantity (Value (pos 1)) first second;
    },
  )

pub low_untaken : IsFirstRefusal (limited Rejectable) [] one_token (leq the_quantity (Value (pos 1))) NotActive
low_untaken = record {
  hinders = λ counts. untaken (root_token 0)
      (All-head (ArgumentCounts (limited Rejectable) (IsTaken [])) (Variable (Token (root_token 0) (Param 0))) (argument_of (Value (pos 1)) ∷ []) counts
      (root_token 0) refl (refl, (root_of 0 Rejectable, refl, refl)));
  first = none_before (limited Rejectable) [] one_token Leq (low []) 4 (omega arith) (λ less. quantity_known [])
      (λ less. quantity_and [] (IsOfType (limited Rejectable)) (quantity_is_int []) tt) (λ less. contains_none (leq the_quantity (Value (pos 1))))
      (λ less. quantity_and [] (IsInType (limited Rejectable)) (quantity_is_int []) (omega (arith, ints), omega (arith, ints)));
}

pub low_taken : IsUnhindered (limited Rejectable) activated one_token (leq the_quantity (Value (pos 1)))
low_taken =
    unhindered (limited Rejectable) activated one_token Leq (low activated) (quantity_known activated)
    (quantity_and activated (IsOfType (limited Rejectable)) (quantity_is_int activated) tt)
    (λ there. let same = only_member activate_it (leq the_quantity (Value (pos 1))) there in cc)
    (quantity_and activated (IsInType (limited Rejectable)) (quantity_is_int activated) (omega (arith, ints), omega (arith, ints)))
    (both (ArgumentCounts (limited Rejectable) (IsTaken activated)) (Variable (Token (root_token 0) (Param 0))) (argument_of (Value (pos 1)))
    (λ token belongs rejectable. inl (subst (λ t. Contains activated (Activate t)) belongs (contains_head activate_it []))) tt)

pub relation_untaken : IsFirstRefusal battery [] two_tokens (relate_them Before) NotActive
relation_untaken = record { hinders = λ counts. untaken (root_token 1) (counts.1 (refl, (root_of 1 Rejectable, refl, refl))); first = first }
  where
    first : (earlier : Refusal) → rank_of earlier < 4 → Hinders battery [] two_tokens earlier (relate_them Before) → ⊥
    first Unknown less h = h (first_there, second_there)
    first WrongType less h = h
    first Decided less h = contains_none (relate_them Before) h
    first NotInDomain less h = h
    first NotActive less h = omega (arith, less)
    first NotSamePredicate less h = h
    first NotRejectable less h = h
    first SameToken less h = omega (arith, less)
    first ActiveFull less h = h

-- ---- relations

pub goal_counts : (decisions : List Decision) (number : ℕ) → slice_get (Goal ∷ Goal ∷ []) number ≡ Some Goal
    → TokenCounts two_goals (IsTaken decisions) (root_token number)
goal_counts decisions number at rejectable = absurd (let same = kind_is [] (Goal ∷ Goal ∷ []) number Goal Rejectable at rejectable in cc)

pub relation_free : IsUnhindered two_goals [] two_tokens (relate_them Before)
relation_free Unknown h = h (first_there, second_there)
relation_free WrongType h = h
relation_free Decided h = contains_none (relate_them Before) h
relation_free NotInDomain h = h
relation_free NotActive h = h (goal_counts [] 0 refl, goal_counts [] 1 refl)
relation_free NotSamePredicate h = h
relation_free NotRejectable h = h
relation_free SameToken h = let roots = ap (λ (t : TokenName). t.root) h in omega (arith, roots)
relation_free ActiveFull h = h

pub relation_of_one : IsFirstRefusal two_goals [] two_tokens (relate_it Before) SameToken
relation_of_one = record { hinders = refl; first = first }
  where
    first : (earlier : Refusal) → rank_of earlier < 7 → Hinders two_goals [] two_tokens earlier (relate_it Before) → ⊥
    first Unknown less h = h (first_there, first_there)
    first WrongType less h = h
    first Decided less h = contains_none (relate_it Before) h
    first NotInDomain less h = h
    first NotActive less h = h (goal_counts [] 0 refl, goal_counts [] 0 refl)
    first NotSamePredicate less h = h
    first NotRejectable less h = h
    first SameToken less h = omega (arith, less)
    first ActiveFull less h = h

abbrev related : List Decision
related = relate_them Before ∷ []

pub relation_decided : IsFirstRefusal two_goals (relate_them Before ∷ []) two_tokens (relate_them Before) Decided
relation_decided = record { hinders = contains_head (relate_them Before) []; first = first }
  where
    first : (earlier : Refusal) → rank_of earlier < 2 → Hinders two_goals related two_tokens earlier (relate_them Before) → ⊥
    first Unknown less h = h (first_there, second_there)
    first WrongType less h = h
    first Decided less h = omega (arith, less)
    first NotInDomain less h = omega (arith, less)
    first NotActive less h = omega (arith, less)
    first NotSamePredicate less h = omega (arith, less)
    first NotRejectable less h = omega (arith, less)
    first SameToken less h = omega (arith, less)
    first ActiveFull less h = omega (arith, less)

pub other_relation_free : IsUnhindered two_goals (relate_them Before ∷ []) two_tokens (relate_them Meets)
other_relation_free Unknown h = h (first_there, second_there)
other_relation_free WrongType h = h
other_relation_free Decided h = let same = only_member (relate_them Before) (relate_them Meets) h in cc
other_relation_free NotInDomain h = h
other_relation_free NotActive h = h (goal_counts related 0 refl, goal_counts related 1 refl)
other_relation_free NotSamePredicate h = h
other_relation_free NotRejectable h = h
other_relation_free SameToken h = let roots = ap (λ (t : TokenName). t.root) h in omega (arith, roots)
other_relation_free ActiveFull h = h
