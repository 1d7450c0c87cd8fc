-- Plan texts: which text is written of a plan, and what a text is read as.
use Rattle.std.specs.Prelude.{◌≡◌, ℕ, ◌+◌, ◌<◌, ◌≤◌, ◌⊎◌, ◌↔◌, ℤ, Bool, true, false, ⊤, Some, None}
use Rattle.std.specs.Prelude.{List, [], ◌∷◌, ◌++◌, length, map, All, AllPairs, Contains, IsTrue, codes, Result, Ok, Err}
use Rattle.std.specs.Prelude.{if◌then◌else◌, ◌==◌}
use Rattle.std.specs.Char.{is_ascii_digit}
use Rattle.eu_name.specs.declared.name.VarName.{VarName}
use Rattle.eu_name.specs.NameOrder.{IsVarBefore}
use Rattle.model_core.specs.declared.model.Model.{Model}
use Rattle.plan_defs.specs.declared.plan.Line.{Line}
use Rattle.plan_defs.specs.declared.plan.Plan.{Plan}
use Rattle.plan_text.specs.declared.fault.PlanTextFault.{PlanTextFault}
use Rattle.plan_text.specs.declared.fault.PlanTextFault.TheVariants as faults
use Rattle.plan_text.specs.declared.fault.Wrong.{Wrong}
use Rattle.plan_text.specs.declared.fault.Wrong.TheVariants.{Syntax, Twice, Unknown, Memory}
use Rattle.plan_text.specs.declared.statement.Statement.{Statement}
use Rattle.plan_text.specs.declared.statement.Statement.TheVariants.{Global, Of}
use Rattle.plan_text.specs.Words.{place_in}
use Rattle.plan_text.specs.Found.{Found, Got, Stopped, Done, OneWord, Then, Exactly}
use Rattle.plan_text.specs.Lines.{OneLine, stated_name}

-- ---- the frame

-- a text begins with `plan`, or with a line that says how many lists a search visited
abbrev pub opening_text : Bool → List ℕ
opening_text true = codes "found"
opening_text false = codes "plan"

abbrev pub IsNoOpening : Wrong → List ℕ → Type 0
IsNoOpening Syntax word = (counted : Bool) → word ≡ opening_text counted → ⊥
IsNoOpening wrong word = ⊥

-- one to seven digits
abbrev pub IsCount : List ℕ → Type 0
IsCount word = (0 < length word) × (length word ≤ 7) × All (λ byte. IsTrue (is_ascii_digit byte)) word

abbrev pub IsNoCount : Wrong → List ℕ → Type 0
IsNoCount Syntax word = IsCount word → ⊥
IsNoCount wrong word = ⊥

abbrev pub AfterOpening : Bool → List ℕ → Found (Unit {0}) → Type 0
AfterOpening false = Done tt
AfterOpening true =
    Then (OneWord (codes " ") (λ (said : Unit {0}) word. IsCount word) IsNoCount) (λ said. Exactly (codes "\n") (codes "plan"))

-- `plan`, with or without a line `found N` before it
abbrev pub Opening : List ℕ → Found (Unit {0}) → Type 0
Opening = Then (OneWord [] (λ counted word. word ≡ opening_text counted) IsNoOpening) AfterOpening

-- nothing, or a line feed
abbrev pub IsLast : List ℕ → Type 0
IsLast text = (text ≡ []) ⊎ (text ≡ codes "\n")

-- the text ends here
abbrev pub TextEnding : List ℕ → Found (Unit {0}) → Type 0
TextEnding text (Got said rest) = (rest ≡ text) × IsLast text
TextEnding text (Stopped wrong at) = (wrong ≡ Syntax) × (at ≡ text) × (IsLast text → ⊥)

-- ---- the lines

-- what lines are about
abbrev pub names_stated : List Statement → List VarName
names_stated said = map stated_name said

-- behind the lines that were read before, the text goes on with the lines of these statements, and then with the rest
abbrev pub HasLines : Model → List Statement → List ℕ → List Statement → List ℕ → Type 0
HasLines model before text [] rest = rest ≡ text
HasLines model before text (said ∷ more) rest =
    (mid : List ℕ) × (OneLine model (names_stated before) text (Got (Some said) mid)
    × HasLines model (before ++ said ∷ []) mid more rest)

-- lines up to `end`; the first fault is that of the first line that isn't right
abbrev pub AllLines : Model → List ℕ → Found (List Statement) → Type 0
AllLines model text (Got said rest) =
    (mid : List ℕ) × (HasLines model [] text said mid × OneLine model (names_stated said) mid (Got None rest))
AllLines model text (Stopped wrong at) =
    (said : List Statement) × ((mid : List ℕ)
    × (HasLines model [] text said mid × OneLine model (names_stated said) mid (Stopped wrong at)))

-- the whole text
abbrev pub WholeText : Model → List ℕ → Found (List Statement) → Type 0
WholeText model = Then Opening (λ begun. Then (AllLines model) (λ said. Then TextEnding (λ ended. Done said)))

-- ---- the plan

abbrev pub IsStatedBefore : Statement → Statement → Type 0
IsStatedBefore one other = IsVarBefore (stated_name one) (stated_name other)

-- the values of the globals, from this number on, up to the first of which nothing is said
abbrev pub global_values : ℕ → List Statement → List ℤ
global_values next [] = []
global_values next (Global number value ∷ more) = if number == next then value ∷ global_values (next + 1) more else []
global_values next (Of line ∷ more) = []

-- the lines among the statements
abbrev pub plan_lines : List Statement → List Line
plan_lines [] = []
plan_lines (Global number value ∷ more) = plan_lines more
plan_lines (Of line ∷ more) = line ∷ plan_lines more

-- the plan that statements in order make
abbrev pub plan_stated : List Statement → Plan
plan_stated said = record { globals = global_values 0 said; lines = plan_lines said }

-- the plan says what the statements say, put in order
pub record Gathers (said : List Statement) (plan : Plan) : Type 0 where
  pub ordered : List Statement
  pub order : AllPairs IsStatedBefore ordered
  pub same : (statement : Statement) → Contains ordered statement ↔ Contains said statement
  pub is : plan ≡ plan_stated ordered

-- what is said of the globals from this number on
abbrev pub global_statements : ℕ → List ℤ → List Statement
global_statements next [] = []
global_statements next (value ∷ values) = Global next value ∷ global_statements (next + 1) values

-- what a plan says, in order: of the globals, and then of tokens and locals
abbrev pub plan_statements : Plan → List Statement
plan_statements plan = global_statements 0 plan.globals ++ map (λ line. Of line) plan.lines

-- the text is the one that is written of the plan: `plan`, its lines in order, and `end`, each line ended by a line feed
abbrev pub IsPlanText : Model → Plan → List ℕ → Type 0
IsPlanText model plan text =
    (lines : List ℕ) × ((text ≡ codes "plan" ++ lines) × AllLines model lines (Got (plan_statements plan) (codes "\n")))

-- the fault of this sort, at the place
abbrev pub plan_fault_at : Wrong → ℕ → PlanTextFault
plan_fault_at Syntax at = faults.Syntax at
plan_fault_at Twice at = faults.Twice at
plan_fault_at Unknown at = faults.Unknown at
plan_fault_at Memory at = faults.Memory

-- the answer to a text: the plan of which it has the lines, in any order, or the first fault with its place; memory may run out
-- before it is met
abbrev pub ReadsPlan : Model → List ℕ → Result Plan PlanTextFault → Type 0
ReadsPlan model text (Ok plan) =
    (said : List Statement) × ((rest : List ℕ) × (WholeText model text (Got said rest) × Gathers said plan))
ReadsPlan model text (Err (faults.Syntax at)) =
    (rest : List ℕ) × (WholeText model text (Stopped Syntax rest) × (at ≡ place_in text rest))
ReadsPlan model text (Err (faults.Twice at)) =
    (rest : List ℕ) × (WholeText model text (Stopped Twice rest) × (at ≡ place_in text rest))
ReadsPlan model text (Err (faults.Unknown at)) =
    (rest : List ℕ) × (WholeText model text (Stopped Unknown rest) × (at ≡ place_in text rest))
ReadsPlan model text (Err faults.Memory) = ⊤
