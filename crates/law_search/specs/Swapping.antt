-- Two tokens of a plan that change places: what stands under the one comes to stand under the other.
use Rattle.std.specs.Prelude.{◌≡◌, ◌==◌, ◌&&◌, List, [], ◌∷◌, ◌++◌, Option, Some, None, map, AllPairs}
use Rattle.std.specs.Prelude.{IsPermutation, if◌then◌else◌}
use Rattle.std.specs.Option.{option_map_or}
use Rattle.eu_name.specs.declared.name.Step.{Step}
use Rattle.eu_name.specs.declared.name.TokenName.{TokenName}
use Rattle.eu_name.specs.declared.name.VarName.{VarName}
use Rattle.eu_name.specs.declared.name.VarName.TheVariants as variables
use Rattle.plan_defs.specs.declared.plan.Line.{Line}
use Rattle.plan_defs.specs.declared.plan.Line.TheVariants as lines
use Rattle.plan_defs.specs.declared.plan.Plan.{Plan}
use Rattle.plan_defs.specs.Plans.{IsLineBefore}

-- ---- names

-- the token to which these steps lead from the top; no steps lead to the top itself
abbrev pub token_under : TokenName → List Step → TokenName
token_under top steps = record { root = top.root; steps = top.steps ++ steps }

-- what of the steps stands behind these, if they begin so
abbrev pub steps_behind : List Step → List Step → Option (List Step)
steps_behind [] steps = Some steps
steps_behind (step ∷ front) [] = None
steps_behind (step ∷ front) (other ∷ steps) =
    if step.rule == other.rule && step.slot == other.slot then steps_behind front steps else None

-- the steps that lead from the top to the token, if it is the top or stands under it
abbrev pub steps_from : TokenName → TokenName → Option (List Step)
steps_from top token = if top.root == token.root then steps_behind top.steps token.steps else None

-- the token's name where the two change places, each with what stands under it
abbrev pub swapped_token : TokenName → TokenName → TokenName → TokenName
swapped_token one other token =
    option_map_or (token_under other)
    (steps_from one token)
    (option_map_or (token_under one) (steps_from other token) token)

abbrev pub swapped_name : TokenName → TokenName → VarName → VarName
swapped_name one other (variables.Global number) = variables.Global number
swapped_name one other (variables.Token token part) = variables.Token (swapped_token one other token) part
swapped_name one other (variables.Local token rule number) = variables.Local (swapped_token one other token) rule number

-- ---- plans

-- the line with names of tokens changed
abbrev pub swapped_line : TokenName → TokenName → Line → Line
swapped_line one other (lines.Token token fact values) = lines.Token (swapped_token one other token) fact values
swapped_line one other (lines.Merged token target) =
    lines.Merged (swapped_token one other token) (swapped_token one other target)
swapped_line one other (lines.Rejected token) = lines.Rejected (swapped_token one other token)
swapped_line one other (lines.Local name value) = lines.Local (swapped_name one other name) value

-- In the new plan the two tokens have changed places: it has the old one's lines with these names, in order.
pub record IsSwap (one other : TokenName) (old new : Plan) : Type 0 where
  pub globals : new.globals ≡ old.globals
  pub lines : IsPermutation (map (swapped_line one other) old.lines) new.lines
  pub order : AllPairs IsLineBefore new.lines
