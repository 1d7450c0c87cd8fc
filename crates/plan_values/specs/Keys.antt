-- What the parts of a name name together, and which lines have the names that they are to have.
use Rattle.std.specs.Prelude.{List, [], ◌∷◌, ◌++◌, Option, Some, None, ⊤, AllPairs, All}
use Rattle.eu_name.specs.declared.name.Part.TheVariants.{Start}
use Rattle.eu_name.specs.declared.name.Step.{Step}
use Rattle.eu_name.specs.declared.name.TokenName.{TokenName}
use Rattle.eu_name.specs.declared.name.VarName.{VarName}
use Rattle.eu_name.specs.declared.name.VarName.TheVariants as variables
use Rattle.plan_defs.specs.declared.plan.Line.{Line}
use Rattle.plan_defs.specs.declared.plan.Line.TheVariants as lines
use Rattle.plan_defs.specs.declared.plan.Plan.{Plan}
use Rattle.plan_defs.specs.Plans.{IsLineBefore}
use Rattle.plan_values.specs.declared.key.Ask.{Ask}
use Rattle.plan_values.specs.declared.key.Key.{Key}
use Rattle.plan_values.specs.declared.key.Key.TheVariants as keys
use Rattle.plan_values.specs.declared.key.TokenKey.{TokenKey}

-- the step to the slot
abbrev pub step_of : Ask → Step
step_of ask = record { rule = ask.rule; slot = ask.slot }

-- the steps, with the last one where there is one
abbrev pub steps_with : List Step → Option Ask → List Step
steps_with steps None = steps
steps_with steps (Some ask) = steps ++ step_of ask ∷ []

-- the token that the key names
abbrev pub key_token : TokenKey → TokenName
key_token key = record { root = key.root; steps = steps_with key.steps.now key.last }

-- what the line that is looked for goes by in the order of variables
abbrev pub key_name : Key → VarName
key_name (keys.Token token) = variables.Token (key_token token) Start
key_name (keys.Local token rule number) = variables.Local (key_token token) rule number

-- the variable is a local
abbrev pub IsLocal : VarName → Type 0
IsLocal (variables.Local token rule number) = ⊤
IsLocal name = ⊥

-- a line for a local names one
abbrev pub HasProperName : Line → Type 0
HasProperName (lines.Local name value) = IsLocal name
HasProperName line = ⊤

-- the lines stand in order of names, and each line of a local names one
pub record IsOrderly (plan : Plan) : Type 0 where
  pub order : AllPairs IsLineBefore plan.lines
  pub names : All HasProperName plan.lines
