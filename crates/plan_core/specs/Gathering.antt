-- Statements with the names of what they are about.
use Rattle.std.specs.Prelude.{◌≡◌, ◌≢◌, ℕ, ℤ, Bool, true, false, List, [], ◌∷◌, ◌++◌, length, map, All, AllPairs}
use Rattle.eu_name.specs.declared.name.VarName.{VarName}
use Rattle.plan_text.specs.declared.statement.Statement.{Statement}
use Rattle.plan_text.specs.Lines.{stated_name}
use Rattle.plan_text.specs.PlanTexts.{names_stated, global_values, plan_lines}
use Rattle.plan_defs.specs.declared.plan.Line.{Line}
use Rattle.plan_core.specs.declared.gathering.Named.{Named}

-- what they say
abbrev pub said_of : List Named → List Statement
said_of said = map (λ named. named.statement) said

-- each has its name
abbrev pub AreNamed : List Named → Type 0
AreNamed said = All (λ named. named.name ≡ stated_name named.statement) said

-- no two are about one thing
abbrev pub AreNamesOnce : List Named → Type 0
AreNamesOnce said = AllPairs (λ one other. one.name ≢ other.name) said

-- these names are those of what is said, each once
pub record AreKept (names : List VarName) (said : List Named) : Type 0 where
  pub known : names ≡ names_stated (said_of said)
  pub named : AreNamed said
  pub once : AreNamesOnce said

-- which values of globals come of more statements from this number on, if globals still go on
abbrev pub values_if : Bool → ℕ → List Statement → List ℤ
values_if true next more = global_values next more
values_if false next more = []

-- a statement is taken: whatever comes of it and of more behind what there is comes of these behind what there is then
pub record Takes (said : Statement) (going_on goes_on : Bool) (old new : List ℤ) (old_lines new_lines : List Line) : Type 0 where
  pub values : (more : List Statement)
      → old ++ values_if going_on (length old) (said ∷ more) ≡ new ++ values_if goes_on (length new) more
  pub lines : (more : List Statement) → old_lines ++ plan_lines (said ∷ more) ≡ new_lines ++ plan_lines more
