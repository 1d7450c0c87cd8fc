-- One clause after the other.
use Rattle.std.proofs.Common.{◌≡◌, ◌+◌, ◌<◌, Option, Some, None, inl, inr, refl, subst, arith}
use Rattle.std.proofs.lemmas.Bool.{cases_lt}
use Rattle.std.proofs.lemmas.List.Elements.{All-weaker}
use Rattle.eu_name.specs.declared.name.VarName.TheVariants as variables
use Rattle.model_core.specs.declared.model.Model.{Model}
use Rattle.plan_defs.specs.declared.plan.Clause.{Clause}
use Rattle.plan_defs.specs.declared.plan.Clause.TheVariants.{V1, V2, V3, V4, V5, V6, V7, V8, V9, V10}
use Rattle.plan_defs.specs.declared.plan.Line.{Line}
use Rattle.plan_defs.specs.declared.plan.Line.TheVariants as lines
use Rattle.plan_defs.specs.declared.plan.Place.{Place}
use Rattle.plan_defs.specs.declared.plan.Plan.{Plan}
use Rattle.plan_defs.specs.Broken.{clauses_before, IsLeastBroken, IsFirstBroken}
use Rattle.plan_defs.specs.Plans.{IsPlanOf, IsLineOf}
use Rattle.plan_defs.specs.Valid.{IsClauseKept, IsValid}
use Rattle.plan_values.specs.Keys.{IsOrderly, HasProperName}
use Rattle.plan_inventory.specs.declared.inventory.Broken.{Broken}
use Rattle.plan_inventory.specs.Breaks.{FindsBreak}
use Rattle.plan_inventory.specs.Verdicts.{KeptBelow, FindsBelow}

-- as many clauses come before two only if they are one
same_clause : (one other : Clause) → clauses_before one ≡ clauses_before other → one ≡ other
same_clause V1 V1 e = refl
same_clause V1 V2 e = absurd (omega arith)
same_clause V1 V3 e = absurd (omega arith)
same_clause V1 V4 e = absurd (omega arith)
same_clause V1 V5 e = absurd (omega arith)
same_clause V1 V6 e = absurd (omega arith)
same_clause V1 V7 e = absurd (omega arith)
same_clause V1 V8 e = absurd (omega arith)
same_clause V1 V9 e = absurd (omega arith)
same_clause V1 V10 e = absurd (omega arith)
same_clause V2 V1 e = absurd (omega arith)
same_clause V2 V2 e = refl
same_clause V2 V3 e = absurd (omega arith)
same_clause V2 V4 e = absurd (omega arith)
same_clause V2 V5 e = absurd (omega arith)
same_clause V2 V6 e = absurd (omega arith)
same_clause V2 V7 e = absurd (omega arith)
same_clause V2 V8 e = absurd (omega arith)
same_clause V2 V9 e = absurd (omega arith)
same_clause V2 V10 e = absurd (omega arith)
same_clause V3 V1 e = absurd (omega arith)
same_clause V3 V2 e = absurd (omega arith)
same_clause V3 V3 e = refl
same_clause V3 V4 e = absurd (omega arith)
same_clause V3 V5 e = absurd (omega arith)
same_clause V3 V6 e = absurd (omega arith)
same_clause V3 V7 e = absurd (omega arith)
same_clause V3 V8 e = absurd (omega arith)
same_clause V3 V9 e = absurd (omega arith)
same_clause V3 V10 e = absurd (omega arith)
same_clause V4 V1 e = absurd (omega arith)
same_clause V4 V2 e = absurd (omega arith)
same_clause V4 V3 e = absurd (omega arith)
same_clause V4 V4 e = refl
same_clause V4 V5 e = absurd (omega arith)
same_clause V4 V6 e = absurd (omega arith)
same_clause V4 V7 e = absurd (omega arith)
same_clause V4 V8 e = absurd (omega arith)
same_clause V4 V9 e = absurd (omega arith)
same_clause V4 V10 e = absurd (omega arith)
same_clause V5 V1 e = absurd (omega arith)
same_clause V5 V2 e = absurd (omega arith)
same_clause V5 V3 e = absurd (omega arith)
same_clause V5 V4 e = absurd (omega arith)
same_clause V5 V5 e = refl
same_clause V5 V6 e = absurd (omega arith)
same_clause V5 V7 e = absurd (omega arith)
same_clause V5 V8 e = absurd (omega arith)
same_clause V5 V9 e = absurd (omega arith)
same_clause V5 V10 e = absurd (omega arith)
same_clause V6 V1 e = absurd (omega arith)
same_clause V6 V2 e = absurd (omega arith)
same_clause V6 V3 e = absurd (omega arith)
same_clause V6 V4 e = absurd (omega arith)
same_clause V6 V5 e = absurd (omega arith)
same_clause V6 V6 e = refl
same_clause V6 V7 e = absurd (omega arith)
same_clause V6 V8 e = absurd (omega arith)
same_clause V6 V9 e = absurd (omega arith)
same_clause V6 V10 e = absurd (omega arith)
same_clause V7 V1 e = absurd (omega arith)
same_clause V7 V2 e = absurd (omega arith)
same_clause V7 V3 e = absurd (omega arith)
same_clause V7 V4 e = absurd (omega arith)
same_clause V7 V5 e = absurd (omega arith)
same_clause V7 V6 e = absurd (omega arith)
same_clause V7 V7 e = refl
same_clause V7 V8 e = absurd (omega arith)
same_clause V7 V9 e = absurd (omega arith)
same_clause V7 V10 e = absurd (omega arith)
same_clause V8 V1 e = absurd (omega arith)
same_clause V8 V2 e = absurd (omega arith)
same_clause V8 V3 e = absurd (omega arith)
same_clause V8 V4 e = absurd (omega arith)
same_clause V8 V5 e = absurd (omega arith)
same_clause V8 V6 e = absurd (omega arith)
same_clause V8 V7 e = absurd (omega arith)
same_clause V8 V8 e = refl
same_clause V8 V9 e = absurd (omega arith)
same_clause V8 V10 e = absurd (omega arith)
same_clause V9 V1 e = absurd (omega arith)
same_clause V9 V2 e = absurd (omega arith)
same_clause V9 V3 e = absurd (omega arith)
same_clause V9 V4 e = absurd (omega arith)
same_clause V9 V5 e = absurd (omega arith)
same_clause V9 V6 e = absurd (omega arith)
same_clause V9 V7 e = absurd (omega arith)
same_clause V9 V8 e = absurd (omega arith)
same_clause V9 V9 e = refl
same_clause V9 V10 e = absurd (omega arith)
same_clause V10 V1 e = absurd (omega arith)
same_clause V10 V2 e = absurd (omega arith)
same_clause V10 V3 e = absurd (omega arith)
same_clause V10 V4 e = absurd (omega arith)
same_clause V10 V5 e = absurd (omega arith)
same_clause V10 V6 e = absurd (omega arith)
same_clause V10 V7 e = absurd (omega arith)
same_clause V10 V8 e = absurd (omega arith)
same_clause V10 V9 e = absurd (omega arith)
same_clause V10 V10 e = refl

module _ (model : Model) (plan : Plan) where
  pub none_before : KeptBelow model plan 0
  none_before clause place below = absurd (omega arith)

  -- with one clause more
  pub one_kept : (clause : Clause) → KeptBelow model plan (clauses_before clause) → ((place : Place) → IsClauseKept model plan clause place) → KeptBelow model plan (clauses_before clause + 1)
  one_kept clause before here other place below = elim (cases_lt (clauses_before other) (clauses_before clause)) [
    | inl less ↦ before other place less
    | inr not_less ↦ subst (λ (c : Clause). IsClauseKept model plan c place) (same_clause clause other (omega arith)) (here place)
  ]

  pub first_broken : (clause : Clause) (place : Place) → KeptBelow model plan (clauses_before clause) → IsLeastBroken model plan clause place → IsFirstBroken model plan clause place
  first_broken clause place before least = record { here = least; first = λ earlier other less. before earlier other less }

  -- by what was found of one clause
  pub first_at : (clause : Clause) (place : Place) (found : Option Place) → found ≡ Some place → KeptBelow model plan (clauses_before clause) → FindsBreak model plan clause found
      → IsFirstBroken model plan clause place
  first_at clause place found is before finds = first_broken clause place before (subst (FindsBreak model plan clause) is finds)

  pub kept_where : (clause : Clause) (found : Option Place) → ((place : Place) → found ≡ Some place → ⊥) → KeptBelow model plan (clauses_before clause) → FindsBreak model plan clause found
      → KeptBelow model plan (clauses_before clause + 1)
  kept_where clause None none before finds = one_kept clause before finds
  kept_where clause (Some place) none before finds = absurd (none place refl)

  -- by what was found of all clauses
  pub broken_where : (broken : Broken) (found : Option Broken) → found ≡ Some broken → FindsBelow model plan 10 found → IsFirstBroken model plan broken.clause broken.place
  broken_where broken found is finds = subst (FindsBelow model plan 10) is finds

  pub valid_where : (found : Option Broken) → found ≡ None → FindsBelow model plan 10 found → IsValid model plan
  valid_where found is finds = λ clause place. (subst (FindsBelow model plan 10) is finds) clause place (few clause)
    where
      few : (clause : Clause) → clauses_before clause < 10
      few V1 = omega arith
      few V2 = omega arith
      few V3 = omega arith
      few V4 = omega arith
      few V5 = omega arith
      few V6 = omega arith
      few V7 = omega arith
      few V8 = omega arith
      few V9 = omega arith
      few V10 = omega arith

-- ---- plans of a model are in order

proper_name : (model : Model) (line : Line) → IsLineOf model line → HasProperName line
proper_name model (lines.Token name fact values) is = tt
proper_name model (lines.Merged name target) is = tt
proper_name model (lines.Rejected name) is = tt
proper_name model (lines.Local (variables.Local token rule number) value) is = tt
proper_name model (lines.Local (variables.Token token part) value) is = absurd is
proper_name model (lines.Local (variables.Global number) value) is = absurd is

pub orderly_plan : (model : Model) (plan : Plan) → IsPlanOf model plan → IsOrderly plan
orderly_plan model plan is = record { order = is.order; names = All-weaker (IsLineOf model) HasProperName (proper_name model) plan.lines is.lines }
