-- What is lawful of a table, in the words of lawful models: so the later stages of a compiler needn't look again.
use Rattle.std.specs.Prelude.{◌≡◌, ◌≢◌, ℕ, List, [], Some, All, AllPairs, slice_get}
use Rattle.model_core.specs.declared.class.Class.{Class}
use Rattle.model_core.specs.declared.class.Pred.{Pred}
use Rattle.model_core.specs.declared.model.Model.{Model}
use Rattle.model_core.specs.Lawful.{IsHorizon, IsLawful, IsLawfulClass, IsLawfulEnum, IsLawfulPred}
use Rattle.nddl_ast.specs.declared.declaration.FileDecls.{FileDecls}
use Rattle.nddl_laws.specs.Given.{AreGiven}
use Rattle.nddl_types.specs.declared.table.TypeTable.{TypeTable}
use Rattle.nddl_types.specs.Table.{IsTable}

-- the model has the enums, the classes and the predicates of the table of files that some shelf gives
pub record HasTable (files : List FileDecls) (table : TypeTable) (model : Model) : Type 0 where
  pub given : AreGiven files
  pub is_table : IsTable files table
  pub enums : model.enums ≡ table.enums
  pub classes : model.classes ≡ table.classes
  pub preds : model.preds ≡ table.preds

-- each enum of a table is lawful
abbrev pub HasLawfulEnums : Type 0
HasLawfulEnums = (files : List FileDecls) (table : TypeTable) (model : Model) → HasTable files table model
    → All IsLawfulEnum model.enums

-- each class of a table is
abbrev pub HasLawfulClasses : Type 0
HasLawfulClasses = (files : List FileDecls) (table : TypeTable) (model : Model) → HasTable files table model
    → (number : ℕ) (class : Class) → slice_get model.classes number ≡ Some class → IsLawfulClass model number class

-- and each predicate
abbrev pub HasLawfulPreds : Type 0
HasLawfulPreds = (files : List FileDecls) (table : TypeTable) (model : Model) → HasTable files table model
    → (number : ℕ) (pred : Pred) → slice_get model.preds number ≡ Some pred → IsLawfulPred model number pred

-- two predicates of one class have different names
abbrev pub HasDistinctPreds : Type 0
HasDistinctPreds = (files : List FileDecls) (table : TypeTable) (model : Model) → HasTable files table model
    → AllPairs (λ one other. one.class ≡ other.class → one.name ≢ other.name) model.preds

-- beside its table the model has nothing: no rules, no objects, and nothing that is asked for
pub record HasNothingElse (model : Model) : Type 0 where
  pub rules : model.rules ≡ []
  pub objects : model.objects ≡ []
  pub roots : model.problem.roots ≡ []
  pub globals : model.problem.globals ≡ []
  pub items : model.problem.items ≡ []
  pub decisions : model.problem.decisions ≡ []

-- a table is lawful as far as it goes: a model with nothing beside it is, if its horizon is
abbrev pub TablesAreLawful : Type 0
TablesAreLawful = (files : List FileDecls) (table : TypeTable) (model : Model) → HasTable files table model
    → HasNothingElse model → IsHorizon model.problem → IsLawful model
