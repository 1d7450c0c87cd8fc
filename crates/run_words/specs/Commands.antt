-- What `clap` reads of the commands.
use Rattle.std.specs.Prelude.{◌≡◌, ℕ, List, [], ◌∷◌, Option, Some, None, codes, true, false}
use Rattle.clap.specs.Walk.{Rule}
use Rattle.clap.specs.Matches.{first_value}
use Rattle.clap.specs.declared.parser.matches.Found.{Found}
use Rattle.clap.specs.Simple.{App, new_app, new_rule, on_top}

-- which operands and options a command has
pub data Form : Type 0 where
  Single : Form
  Double : Form
  Planned : Form

-- a required operand
abbrev pub operand_rule : List ℕ → Rule
operand_rule id = record (new_rule id) { required = true }

-- an option with a value
abbrev pub option_rule : List ℕ → Rule
option_rule id = record (new_rule id) { long = Some id }

-- a command without arguments that reads all words, and has no help
abbrev pub bare_app : List ℕ → App
bare_app name = on_top (λ shape. record shape { no_binary_name = true; disable_help_flag = true }) (new_app name)

-- the arguments of a form
abbrev pub rules_for : Form → List Rule
rules_for Single = operand_rule (codes "first") ∷ []
rules_for Double = operand_rule (codes "first") ∷ operand_rule (codes "second") ∷ []
rules_for Planned = option_rule (codes "steps") ∷ option_rule (codes "tokens") ∷ operand_rule (codes "first") ∷ []

-- the command of a form
abbrev pub app_for : Form → List ℕ → App
app_for form name = on_top (λ shape. record shape { rules = rules_for form }) (bare_app name)

-- not both operands are there
abbrev pub HasNoTwo : Found → Type 0
HasNoTwo found = (one other : List ℕ) → first_value found (codes "first") ≡ Some one → first_value found (codes "second") ≡ Some other → ⊥
