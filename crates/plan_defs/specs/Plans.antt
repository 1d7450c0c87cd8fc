-- Plans: which are plans of a model, and what a plan says.
use Rattle.std.specs.Prelude.{◌≡◌, ℕ, ◌+◌, ◌<◌, ◌≤◌, ◌^◌, ◌⊎◌, ℤ, Bool, false, List, ◌∷◌, Some}
use Rattle.std.specs.Prelude.{length, map, slice_get}
use Rattle.std.specs.Prelude.{All, AllPairs, Contains}
use Rattle.std.specs.List.{AllZip}
use Rattle.domain_core.specs.Domain.{Range}
use Rattle.eu_name.specs.declared.name.Part.{Part}
use Rattle.eu_name.specs.declared.name.Part.TheVariants.{Start, End, Duration, Object, Param}
use Rattle.eu_name.specs.declared.name.TokenName.{TokenName}
use Rattle.eu_name.specs.declared.name.VarName.{VarName}
use Rattle.eu_name.specs.declared.name.VarName.TheVariants as variables
use Rattle.eu_name.specs.NameOrder.{IsVarBefore}
use Rattle.model_core.specs.declared.class.Pred.{Pred}
use Rattle.model_core.specs.declared.model.Model.{Model}
use Rattle.model_core.specs.declared.rule.Slot.{Slot}
use Rattle.model_core.specs.declared.variable.ValueKind.{ValueKind}
use Rattle.model_core.specs.declared.variable.ValueKind.TheVariants as kinds
use Rattle.model_core.specs.declared.variable.VarDecl.{VarDecl}
use Rattle.model_core.specs.Kinds.{IsValueOf}
use Rattle.model_core.specs.Lawful.{IsToken}
use Rattle.model_core.specs.Tokens.{HasToken}
use Rattle.model_core.specs.Variables.{IsGlobal, HasLocal}
use Rattle.plan_defs.specs.declared.plan.Line.{Line}
use Rattle.plan_defs.specs.declared.plan.Line.TheVariants as lines
use Rattle.plan_defs.specs.declared.plan.Plan.{Plan}
use Rattle.plan_defs.specs.Situations.{Situation}

-- ---- plans of a model

-- the kinds of the values of a token of the predicate: of its start, end, duration and object, and of its parameters
abbrev pub value_kinds : Pred → List ValueKind
value_kinds pred = kinds.Int ∷ kinds.Int ∷ kinds.Int ∷ kinds.Object ∷ map (λ variable. variable.kind) pred.params

-- the values are those of the parts of a token of the predicate of this number, each of its kind
abbrev pub AreTokenValues : Model → ℕ → List ℤ → Type 0
AreTokenValues model number values =
    (pred : Pred) × (slice_get model.preds number ≡ Some pred) × AllZip (IsValueOf model) (value_kinds pred) values

-- the variable is a local of the model, and the value is of its kind
abbrev pub IsLocalValue : Model → VarName → ℤ → Type 0
IsLocalValue model (variables.Local token rule number) value =
    (slot : Slot) × HasToken model token slot
    × ((variable : VarDecl) × HasLocal model slot rule number variable × IsValueOf model variable.kind value)
IsLocalValue model name value = ⊥

-- the line names what the model has, and its values are of their kinds
abbrev pub IsLineOf : Model → Line → Type 0
IsLineOf model (lines.Token name fact values) =
    (slot : Slot) × HasToken model name slot × AreTokenValues model slot.pred values
IsLineOf model (lines.Merged name target) = IsToken model name × IsToken model target
IsLineOf model (lines.Rejected name) = IsToken model name
IsLineOf model (lines.Local name value) = IsLocalValue model name value

-- what the line goes by in the order of variables: a token's by one of its parts, which all come before its locals
abbrev pub order_name : Line → VarName
order_name (lines.Token name fact values) = variables.Token name Start
order_name (lines.Merged name target) = variables.Token name Start
order_name (lines.Rejected name) = variables.Token name Start
order_name (lines.Local name value) = name

-- the line of a token comes before those of its locals, and these before the next token's
abbrev pub IsLineBefore : Line → Line → Type 0
IsLineBefore one other = IsVarBefore (order_name one) (order_name other)

-- the plan is one of the model: it has values for the first globals, each of its kind, and lines in order of names, so none
-- stands twice
pub record IsPlanOf (model : Model) (plan : Plan) : Type 0 where
  pub few_globals : length plan.globals ≤ length model.problem.globals
  pub globals : (number : ℕ) (value : ℤ) (variable : VarDecl)
      → slice_get plan.globals number ≡ Some value → IsGlobal model number variable
      → IsValueOf model variable.kind value
  pub few_lines : length plan.lines < 2 ^ 32
  pub lines : All (IsLineOf model) plan.lines
  pub order : AllPairs IsLineBefore plan.lines

-- ---- what a plan says

-- the token takes place, with these values
abbrev pub TakesPlaceWith : Plan → TokenName → List ℤ → Type 0
TakesPlaceWith plan token values = (fact : Bool) × Contains plan.lines (lines.Token token fact values)

-- the token takes place, and not as a fact
abbrev pub IsActivatedIn : Plan → TokenName → Type 0
IsActivatedIn plan token = (values : List ℤ) × Contains plan.lines (lines.Token token false values)

-- the token is another one
abbrev pub IsMergedIn : Plan → TokenName → Type 0
IsMergedIn plan token = (target : TokenName) × Contains plan.lines (lines.Merged token target)

-- the token is taken: it takes place, and not as a fact, or is another one
abbrev pub IsTakenIn : Plan → TokenName → Type 0
IsTakenIn plan token = IsActivatedIn plan token ⊎ IsMergedIn plan token

-- the token has values: its own, or those of the one that it is
abbrev pub HasValues : Plan → TokenName → Type 0
HasValues plan token =
    ((values : List ℤ) × TakesPlaceWith plan token values)
    ⊎ ((target : TokenName) × Contains plan.lines (lines.Merged token target)
    × ((values : List ℤ) × TakesPlaceWith plan target values))

-- where the value of a part stands among those of a token
abbrev pub place_in_values : Part → ℕ
place_in_values Start = 0
place_in_values End = 1
place_in_values Duration = 2
place_in_values Object = 3
place_in_values (Param number) = 4 + number

-- the token takes place, and its part has this value
abbrev pub HasPartValue : Plan → TokenName → Part → ℤ → Type 0
HasPartValue plan token part value =
    (values : List ℤ) × TakesPlaceWith plan token values × (slice_get values (place_in_values part) ≡ Some value)

-- the token is another one whose part has this value
abbrev pub HasTargetValue : Plan → TokenName → Part → ℤ → Type 0
HasTargetValue plan token part value =
    (target : TokenName) × Contains plan.lines (lines.Merged token target) × HasPartValue plan target part value

-- the plan gives the variable this value; a merged token has its target's
abbrev pub GivesValue : Plan → VarName → ℤ → Type 0
GivesValue plan (variables.Global number) value = slice_get plan.globals number ≡ Some value
GivesValue plan (variables.Token token part) value =
    HasPartValue plan token part value ⊎ HasTargetValue plan token part value
GivesValue plan (variables.Local token rule number) value =
    Contains plan.lines (lines.Local (variables.Local token rule number) value)

-- the situation of the plan: each variable that it gives a value may be that value alone
abbrev pub plan_situation : Plan → Situation
plan_situation plan = record {
  taken = IsTakenIn plan;
  activated = IsActivatedIn plan;
  gives = λ name domain. (value : ℤ) × GivesValue plan name value × (domain ≡ Range value value);
}
