-- Which plans agree with which decisions.
use Rattle.std.proofs.Common.{◌≡◌, List, [], ◌∷◌, Some, ℤ, pos, Bool, true, false, inl, inr, refl, sym, ap, subst, arith}
use Rattle.std.specs.Prelude.{Contains, slice_get}
use Rattle.std.specs.List.{AllZip}
use Rattle.std.proofs.lemmas.Int.{ints}
use Rattle.domain_core.specs.Constraints.{HoldsOf}
use Rattle.domain_core.specs.declared.kind.Kind.TheVariants.{Leq}
use Rattle.eu_name.specs.declared.name.Part.TheVariants.{Start, End, Param}
use Rattle.eu_name.specs.declared.name.TokenName.{TokenName}
use Rattle.eu_name.specs.declared.name.VarName.TheVariants as variables
use Rattle.model_core.specs.declared.class.ObjectKind.TheVariants as kind
use Rattle.model_core.specs.declared.decision.ConArg.TheVariants.{Value}
use Rattle.model_core.specs.declared.decision.Decision.{Decision}
use Rattle.model_core.specs.declared.decision.Decision.TheVariants.{Activate, Merge, Reject, Order}
use Rattle.model_core.specs.declared.item.Rel.TheVariants as rel
use Rattle.model_core.specs.declared.model.Model.{Model}
use Rattle.plan_defs.specs.declared.plan.Line.{Line}
use Rattle.plan_defs.specs.declared.plan.Line.TheVariants as lines
use Rattle.plan_defs.specs.declared.plan.Plan.{Plan}
use Rattle.plan_defs.specs.Broken.{IsTrueIn, AgreesWith}
use Rattle.plan_defs.specs.Claims.{argument_of, at_most, part_of}
use Rattle.plan_defs.specs.Plans.{HasValues, GivesValue}
use Rattle.plan_defs.specs.Valid.{HasArgumentValue, IsClaimTrue}
use Rattle.eu_name.proofs.Ordered.{contains_head, contains_later, contains_cases, contains_none}
use Rattle.law_examples.specs.Cases.{two_facts, battery, quantity_is}
use Rattle.law_examples.specs.Globals.{free_x}
use Rattle.law_examples.specs.Plans.{values_alone, first_fact, fact_from, facts_with, using_fact, taking_out}
use Rattle.law_examples.specs.Posted.{the_x, leq, relate_them}
use Rattle.law_examples.specs.Refused.{two_goals}
use Rattle.law_examples.specs.Swaps.{g, gg, values, old}
use Rattle.law_examples.specs.Worlds.{x_is}
use Rattle.law_examples.proofs.Lists.{only_member, same_some}
use Rattle.law_examples.proofs.Sharing.{first_ends, first_is_early, second_is_late}
use Rattle.law_examples.proofs.Swaps.{not_activated}

-- a plan agrees with one decision that is true in it, and with two that are
with_one : (model : Model) (plan : Plan) (decision : Decision) → IsTrueIn model plan decision → AgreesWith model plan (decision ∷ [])
with_one model plan decision is other c = subst (IsTrueIn model plan) (only_member decision other c) is

with_two : (model : Model) (plan : Plan) (one other : Decision) → IsTrueIn model plan one → IsTrueIn model plan other → AgreesWith model plan (one ∷ other ∷ [])
with_two model plan one other is_one is_other found c = elim (contains_cases one found (other ∷ []) c) [
  | inl same ↦ subst (IsTrueIn model plan) same is_one
  | inr later ↦ with_one model plan other is_other found later
]

pub nothing_agrees : AgreesWith free_x (values_alone (pos 0 ∷ [])) []
nothing_agrees decision c = absurd (contains_none decision c)

-- ---- values

pub x_agrees : AgreesWith free_x (values_alone (pos 0 ∷ [])) (x_is 0 ∷ [])
x_agrees = with_one free_x (values_alone (pos 0 ∷ [])) (x_is 0) refl

pub x_differs : AgreesWith free_x (values_alone (pos 0 ∷ [])) (x_is 1 ∷ []) → ⊥
x_differs agrees = let same = same_some (pos 0) (pos 1) (agrees (x_is 1) (contains_head (x_is 1) [])) in omega (arith, ints, same)

abbrev merge : Line
merge = lines.Merged g gg

abbrev token : Line
token = lines.Token gg false values

token_stands : Contains old.lines token
token_stands = contains_later merge token (token ∷ []) (contains_head token [])

pub quantity_agrees : AgreesWith two_goals old (quantity_is 1 ∷ [])
quantity_agrees = with_one two_goals old (quantity_is 1) (inr (gg, contains_head merge (token ∷ []), (values, (false, token_stands), refl)))

pub quantity_differs : AgreesWith two_goals old (quantity_is 2 ∷ []) → ⊥
quantity_differs agrees = differs (agrees (quantity_is 2) (contains_head (quantity_is 2) []))
  where
    -- what takes place has a quantity of 1
    one : (owner : TokenName) (fact : Bool) (found : List ℤ) → Contains old.lines (lines.Token owner fact found) → slice_get found 4 ≡ Some (pos 2) → ⊥
    one owner fact found c at = elim (contains_cases merge (lines.Token owner fact found) (token ∷ []) c) [
      | inl same ↦ cc
      | inr later ↦ (let same = only_member token (lines.Token owner fact found) later in
          let list : values ≡ found = cc in
          let two = same_some (pos 1) (pos 2) (subst (λ (xs : List ℤ). slice_get xs 4 ≡ Some (pos 2)) (sym list) at) in
          omega (arith, ints, two))
    ]

    differs : GivesValue old (variables.Token g (Param 0)) (pos 2) → ⊥
    differs (inl has) = one g has.1.0 has.0 has.1.1 has.2
    differs (inr has) = one has.0 has.2.1.0 has.2.0 has.2.1.1 has.2.2

-- ---- activations and merges

pub activation_agrees : AgreesWith two_goals old (Activate gg ∷ [])
activation_agrees = with_one two_goals old (Activate gg) (values, token_stands)

pub fact_differs : AgreesWith (two_facts kind.Plain) (facts_with 5) (Activate g ∷ []) → ⊥
fact_differs agrees =
    let is = agrees (Activate g) (contains_head (Activate g) []) in
    elim (contains_cases first_fact (lines.Token g false is.0) (fact_from 5 ∷ []) is.1) [
      | inl same ↦ cc
      | inr later ↦ (let same = only_member (fact_from 5) (lines.Token g false is.0) later in cc)
    ]

pub merge_agrees : AgreesWith two_goals old (Merge g gg ∷ [])
merge_agrees = with_one two_goals old (Merge g gg) (contains_head merge (token ∷ []))

pub merge_differs : AgreesWith two_goals old (Merge gg g ∷ []) → ⊥
merge_differs agrees =
    let is = agrees (Merge gg g) (contains_head (Merge gg g) []) in
    elim (contains_cases merge (lines.Merged gg g) (token ∷ []) is) [
      | inl same ↦ (let tokens : g ≡ gg = cc in omega (arith, ap (λ (t : TokenName). t.root) tokens))
      | inr later ↦ (let same = only_member token (lines.Merged gg g) later in cc)
    ]

-- ---- rejections

abbrev rejection : Line
rejection = lines.Rejected gg

pub rejection_agrees : AgreesWith battery (taking_out 5) (Reject gg ∷ [])
rejection_agrees = with_one battery (taking_out 5) (Reject gg) (contains_later (using_fact 5) rejection (rejection ∷ []) (contains_head rejection []))

pub rejection_differs : AgreesWith battery (taking_out 5) (Reject g ∷ []) → ⊥
rejection_differs agrees =
    let is = agrees (Reject g) (contains_head (Reject g) []) in
    elim (contains_cases (using_fact 5) (lines.Rejected g) (rejection ∷ []) is) [
      | inl same ↦ cc
      | inr later ↦ (let same = only_member rejection (lines.Rejected g) later in
          let tokens : gg ≡ g = cc in
          omega (arith, ap (λ (t : TokenName). t.root) tokens))
    ]

-- ---- orders

pub order_agrees : AgreesWith (two_facts kind.Plain) (facts_with 5) (Order g gg ∷ [])
order_agrees = with_one (two_facts kind.Plain) (facts_with 5) (Order g gg) (first_ends 5 (two_facts kind.Plain) (omega arith))

pub overlap_differs : AgreesWith (two_facts kind.Plain) (facts_with 4) (Order g gg ∷ []) → ⊥
overlap_differs agrees = omega (arith, first_is_early 4 (two_facts kind.Plain) (agrees (Order g gg) (contains_head (Order g gg) [])))

pub order_differs : AgreesWith (two_facts kind.Plain) (facts_with 5) (Order gg g ∷ []) → ⊥
order_differs agrees = second_is_late 5 (two_facts kind.Plain) (agrees (Order gg g) (contains_head (Order gg g) []))

-- ---- constraints

pub constraint_agrees : AgreesWith free_x (values_alone (pos 0 ∷ [])) (leq the_x (Value (pos 1)) ∷ [])
constraint_agrees =
    with_one free_x (values_alone (pos 0 ∷ [])) (leq the_x (Value (pos 1))) (record { values = pos 0 ∷ pos 1 ∷ []; have = (refl, (refl, tt)); holds = omega (arith, ints) })

pub constraint_differs : AgreesWith free_x (values_alone (pos 0 ∷ [])) (leq (Value (pos 1)) the_x ∷ []) → ⊥
constraint_differs agrees =
    let is = agrees (leq (Value (pos 1)) the_x) (contains_head (leq (Value (pos 1)) the_x) []) in
    not_less is.values is.have is.holds
  where
    not_less : (found : List ℤ) → AllZip (HasArgumentValue (values_alone (pos 0 ∷ []))) (argument_of (Value (pos 1)) ∷ argument_of the_x ∷ []) found → HoldsOf Leq found → ⊥
    not_less [] have holds = have
    not_less (v ∷ []) have holds = have.1
    not_less (v ∷ w ∷ more ∷ rest) have holds = have.1.1
    not_less (v ∷ w ∷ []) have holds = let is_zero = same_some (pos 0) w have.1.0 in omega (arith, ints, have.0, is_zero, holds)

-- x has no value in a plan without globals
pub none_differs : AgreesWith free_x (values_alone []) (leq the_x (Value (pos 1)) ∷ []) → ⊥
none_differs agrees =
    let is = agrees (leq the_x (Value (pos 1))) (contains_head (leq the_x (Value (pos 1))) []) in
    no_value is.values is.have
  where
    no_value : (found : List ℤ) → AllZip (HasArgumentValue (values_alone [])) (argument_of the_x ∷ argument_of (Value (pos 1)) ∷ []) found → ⊥
    no_value [] have = have
    no_value (v ∷ found) have = let none = have.0 in cc

-- ---- relations

pub relation_agrees : AgreesWith (two_facts kind.Plain) (facts_with 5) (relate_them rel.Before ∷ [])
relation_agrees =
    with_one (two_facts kind.Plain) (facts_with 5) (relate_them rel.Before) (record {
      one_has = inl (_, (true, contains_head first_fact (fact_from 5 ∷ [])));
      other_has = inl (_, (true, contains_later first_fact (fact_from 5) (fact_from 5 ∷ []) (contains_head (fact_from 5) [])));
      holds = λ claim says. subst (IsClaimTrue (two_facts kind.Plain) (facts_with 5)) (only_member (at_most (part_of g End) (part_of gg Start)) claim says)
          (first_ends 5 (two_facts kind.Plain) (omega arith));
    })

pub relation_differs : AgreesWith (two_facts kind.Plain) (facts_with 4) (relate_them rel.Before ∷ []) → ⊥
relation_differs agrees =
    let is = agrees (relate_them rel.Before) (contains_head (relate_them rel.Before) []) in
    let ends = is.holds (at_most (part_of g End) (part_of gg Start)) (contains_head (at_most (part_of g End) (part_of gg Start)) []) in
    omega (arith, first_is_early 4 (two_facts kind.Plain) ends)

pub any_agrees : AgreesWith two_goals old (relate_them rel.Any ∷ [])
any_agrees =
    with_one two_goals old (relate_them rel.Any) (record {
      one_has = inr (gg, contains_head merge (token ∷ []), (values, (false, token_stands)));
      other_has = inl (values, (false, token_stands));
      holds = λ claim says. absurd (contains_none claim says);
    })

pub any_differs : AgreesWith battery (taking_out 5) (relate_them rel.Any ∷ []) → ⊥
any_differs agrees = has_none (agrees (relate_them rel.Any) (contains_head (relate_them rel.Any) [])).other_has
  where
    has_none : HasValues (taking_out 5) gg → ⊥
    has_none (inl (found, (fact, own))) = elim (contains_cases (using_fact 5) (lines.Token gg fact found) (rejection ∷ []) own) [
      | inl same ↦ (let tokens : g ≡ gg = cc in omega (arith, ap (λ (t : TokenName). t.root) tokens))
      | inr later ↦ (let same = only_member rejection (lines.Token gg fact found) later in cc)
    ]
    has_none (inr (target, merged, its)) = elim (contains_cases (using_fact 5) (lines.Merged gg target) (rejection ∷ []) merged) [
      | inl same ↦ cc
      | inr later ↦ (let same = only_member rejection (lines.Merged gg target) later in cc)
    ]

-- ---- lists of two

pub both_agree : AgreesWith two_goals old (Merge g gg ∷ Activate gg ∷ [])
both_agree = with_two two_goals old (Merge g gg) (Activate gg) (contains_head merge (token ∷ [])) (values, token_stands)

pub one_differs : AgreesWith two_goals old (Merge g gg ∷ Activate g ∷ []) → ⊥
one_differs agrees =
    not_activated (with_one two_goals old (Activate g)
    (agrees (Activate g) (contains_later (Merge g gg) (Activate g) (Activate g ∷ []) (contains_head (Activate g) []))))
