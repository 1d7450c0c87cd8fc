-- That the arguments of constraints in the rules of faultless files are lawful, where the model has what the files name.
use Rattle.std.specs.Prelude.{◌≡◌, ⊤, ℕ, ℤ, List, Some, All, Contains, slice_get}
use Rattle.domain_core.specs.declared.kind.Kind.{Kind}
use Rattle.domain_core.specs.declared.kind.Kind.TheVariants as constraints
use Rattle.eu_name.specs.declared.name.Part.{Part}
use Rattle.model_core.specs.declared.class.Object.{Object}
use Rattle.model_core.specs.declared.item.Item.TheVariants.{Constraint}
use Rattle.model_core.specs.declared.item.Term.{Term}
use Rattle.model_core.specs.declared.model.Model.{Model}
use Rattle.model_core.specs.declared.model.Root.{Root}
use Rattle.model_core.specs.declared.rule.Guard.{Guard}
use Rattle.model_core.specs.declared.rule.Rule.{Rule}
use Rattle.model_core.specs.declared.rule.Turn.{Turn}
use Rattle.model_core.specs.declared.variable.ValueKind.TheVariants as kinds
use Rattle.model_core.specs.Blocks.{OfBranch, OfItem}
use Rattle.model_core.specs.Entries.{Entries}
use Rattle.model_core.specs.Kinds.{AreArguments, AreComparable, IsOfKind, IsPartOfKind, IsValueOf, OfProblem, OfRule}
use Rattle.model_core.specs.Standing.{StandsAt}
use Rattle.model_core.specs.Tokens.{IsRoot}
use Rattle.nddl_ast.specs.declared.declaration.FileDecls.{FileDecls}
use Rattle.nddl_types.specs.declared.table.TypeTable.{TypeTable}
use Rattle.nddl_terms.specs.declared.lexicon.Attribute.{Attribute}
use Rattle.nddl_terms.specs.declared.lexicon.Lexicon.{Lexicon}
use Rattle.nddl_terms.specs.declared.stands.Stand.{Stand}
use Rattle.nddl_terms.specs.declared.stands.Stand.TheVariants as stands
use Rattle.nddl_terms.specs.Lexicon.{class_objects, part_called, part_kind, shape_fields}
use Rattle.nddl_terms.specs.Paths.{known_value}
use Rattle.nddl_terms.specs.PlainTree.{PlainTree}
use Rattle.nddl_env.specs.Lexicons.{lexicon_of}
use Rattle.nddl_env.specs.Shapes.{World}
use Rattle.nddl_unroll.specs.Rules.{tree_rule}
use Rattle.nddl_rule_laws.specs.Meanings.{AreFaultless}
use Rattle.nddl_lowering_laws.specs.Seen.{sides_of}

-- ---- what the model has

-- What a name of the files stands for is in the model: a value or a variable of its kind, or a posted token of its predicate.
abbrev pub IsInModel : Model → Stand → Type 0
IsInModel model (stands.Value term kind class) = IsOfKind model OfProblem kind term
IsInModel model (stands.Root number pred) = (root : Root) × IsRoot model number root × (root.pred ≡ pred)
IsInModel model (stands.Slot number pred) = ⊥
IsInModel model stand = ⊤

-- The model has what the files name, of its kind: what their names stand for, the objects of classes with what these have in
-- their fields, and the parts of tokens.
pub record HasThings (model : Model) (lexicon : Lexicon) (objects : List Object) : Type 0 where
  pub names : All (IsInModel model) lexicon.scope
  pub values : (class : ℕ) (value : ℤ) → Contains (class_objects lexicon class) value → IsValueOf model kinds.Object value
  pub contents : (class number : ℕ) (value content : ℤ) (attribute : Attribute) → Contains (class_objects lexicon class) value
      → slice_get (shape_fields lexicon class) number ≡ Some attribute → known_value objects value number ≡ Some content
      → IsValueOf model attribute.shape.kind content
  pub parts : (pred : ℕ) (name : List ℕ) (part : Part) → part_called lexicon pred name ≡ Some part
      → IsPartOfKind model pred (part_kind lexicon pred part) part

-- ---- lawful arguments

-- the constraint isn't that something is in a field
abbrev pub IsNoAccess : Kind → Type 0
IsNoAccess (constraints.Field number) = ⊥
IsNoAccess kind = ⊤

-- in a rule of this predicate constraints have arguments of kinds that they take, and the two sides of a guard are of one kind
pub record HasFittingArguments (model : Model) (pred : ℕ) (rule : Rule) : Type 0 where
  pub arguments : (path : List Turn) (place : ℕ) (kind : Kind) (some : List Term) → IsNoAccess kind
      → StandsAt rule.top path place (OfItem (Constraint kind some)) → AreArguments model (OfRule pred rule) kind some
  pub guards : (path : List Turn) (place : ℕ) (guard : Guard) (then otherwise : Entries)
      → StandsAt rule.top path place (OfBranch guard then otherwise) → AreComparable model (OfRule pred rule) (sides_of guard)

-- so it is in the rules of faultless files
abbrev pub ArgumentsFit : Type 0
ArgumentsFit =
    (model : Model) (files : List FileDecls) (table : TypeTable) (trees : List PlainTree) (world : World) (objects : List Object)
    → AreFaultless files table trees world objects → HasThings model (lexicon_of world) objects
    → All (λ tree. HasFittingArguments model tree.pred (tree_rule (lexicon_of world) objects tree)) trees
