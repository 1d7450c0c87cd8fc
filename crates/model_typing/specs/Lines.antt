-- Classes of which something is, whatever it stands for.
use Rattle.std.specs.Prelude.{◌≡◌, ◌↔◌, ℕ, ⊤, List, [], Some, Vec, slice_get}
use Rattle.std.specs.Option.{option_map_or}
use Rattle.std.specs.declared.alloc.Global.{Global}
use Rattle.model_core.specs.declared.class.Pred.{Pred}
use Rattle.model_core.specs.declared.model.Model.{Model}
use Rattle.model_core.specs.declared.variable.ValueKind.TheVariants as kinds
use Rattle.model_core.specs.declared.variable.VarDecl.{VarDecl}
use Rattle.model_core.specs.Kinds.{AreObjectsOf, IsUnder}
use Rattle.model_typing.specs.declared.line.Line.{Line}
use Rattle.model_typing.specs.declared.line.Line.TheVariants as lines

-- the line has the class: it goes up from one class, or has all that there are, or none
abbrev pub IsOnLine : Model → Line → ℕ → Type 0
IsOnLine model (lines.From first) class = IsUnder model first class
IsOnLine model lines.Every class = ⊤
IsOnLine model lines.Nothing class = ⊥

-- the line has just the classes of which it is so
abbrev pub IsLine : Model → Line → (ℕ → Type 0) → Type 0
IsLine model line IsSo = (class : ℕ) → IsSo class ↔ IsOnLine model line class

-- where the variable is an object, the line has the classes of which it is one, whatever it is
abbrev pub HasLine : Model → VarDecl → Line → Type 0
HasLine model variable line = variable.kind ≡ kinds.Object → IsLine model line (λ class. AreObjectsOf model class variable.base)

-- the line of this number, which has nothing where there is none
abbrev pub line_in : List Line → ℕ → Line
line_in listed number = option_map_or (λ line. line) (slice_get listed number) lines.Nothing

-- these are the lines of the variables, by their numbers
unfoldable pub AreLinesOf : Model → List VarDecl → List Line → Type 0
AreLinesOf model variables listed =
    (number : ℕ) (variable : VarDecl) → slice_get variables number ≡ Some variable → HasLine model variable (line_in listed number)

-- the lines of this number
abbrev pub lines_in : List (Vec Line Global) → ℕ → List Line
lines_in table number = option_map_or (λ listed. listed.items) (slice_get table number) []

-- these are the lines of the parameters of the predicates, by their numbers
unfoldable pub ArePredLines : Model → List Pred → List (Vec Line Global) → Type 0
ArePredLines model preds table =
    (number : ℕ) (pred : Pred) → slice_get preds number ≡ Some pred → AreLinesOf model pred.params (lines_in table number)
