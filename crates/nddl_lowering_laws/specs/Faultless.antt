-- What is lawful in the rules of faultless files.
use Rattle.std.specs.Prelude.{◌≡◌, ◌<◌, ℕ, List, [], All, length}
use Rattle.domain_core.specs.declared.kind.Kind.TheVariants.{Field}
use Rattle.model_core.specs.declared.class.Object.{Object}
use Rattle.model_core.specs.declared.item.Item.TheVariants.{Constraint, Relation}
use Rattle.model_core.specs.declared.item.Rel.{Rel}
use Rattle.model_core.specs.declared.item.Term.{Term}
use Rattle.model_core.specs.declared.model.Model.{Model}
use Rattle.model_core.specs.declared.rule.Rule.{Rule}
use Rattle.model_core.specs.declared.rule.Turn.{Turn}
use Rattle.model_core.specs.Blocks.{OfItem}
use Rattle.model_core.specs.Kinds.{AreArguments, OfRule}
use Rattle.model_core.specs.Lawful.{IsLawfulVariable}
use Rattle.model_core.specs.Standing.{StandsAt}
use Rattle.nddl_ast.specs.declared.declaration.FileDecls.{FileDecls}
use Rattle.nddl_types.specs.declared.table.TypeTable.{TypeTable}
use Rattle.nddl_terms.specs.PlainTree.{PlainTree}
use Rattle.nddl_env.specs.Lexicons.{lexicon_of}
use Rattle.nddl_env.specs.Shapes.{World}
use Rattle.nddl_instance.specs.Numbers.{rules_of_pred}
use Rattle.nddl_unroll.specs.Rules.{tree_rule, tree_rules}
use Rattle.nddl_unroll.specs.Weighing.{tree_limits}
use Rattle.nddl_rule_laws.specs.Meanings.{AreFaultless}
use Rattle.nddl_lowering_laws.specs.Fitting.{HasThings}
use Rattle.nddl_lowering_laws.specs.Seen.{HasArities, HasSeenTerms, IsScoped}
use Rattle.nddl_lowering_laws.specs.Slots.{HasPredsOf}
use Rattle.nddl_lowering_laws.specs.Whole.{ListsLawfulRules}

-- ---- names

-- the names of each of their trees are read as they are seen, and its calls are fine
abbrev pub TreesAreScoped : Type 0
TreesAreScoped =
    (files : List FileDecls) (table : TypeTable) (trees : List PlainTree) (world : World) (objects : List Object)
    → AreFaultless files table trees world objects → All (IsScoped (lexicon_of world) objects) trees

-- what stands in the rule names what is seen from its block, its constraints have as many arguments as their kinds take, and its
-- relations are with slots of it
pub record NamesWhatIsSeen (rule : Rule) : Type 0 where
  pub seen : HasSeenTerms rule.top
  pub arities : HasArities rule.top
  pub related : (path : List Turn) (place : ℕ) (relation : Rel) (number : ℕ)
      → StandsAt rule.top path place (OfItem (Relation relation number))
      → number < length rule.slots

-- so does each of their rules
abbrev pub RulesNameWhatIsSeen : Type 0
RulesNameWhatIsSeen =
    (files : List FileDecls) (table : TypeTable) (trees : List PlainTree) (world : World) (objects : List Object)
    → AreFaultless files table trees world objects → All (λ tree. NamesWhatIsSeen (tree_rule (lexicon_of world) objects tree)) trees

-- ---- kinds

-- in a rule of this predicate locals are lawful, and what is read from a field of an object is of the field's kind
pub record HasFittingFields (model : Model) (pred : ℕ) (rule : Rule) : Type 0 where
  pub locals : All (IsLawfulVariable model) rule.locals
  pub fields : (path : List Turn) (place number : ℕ) (some : List Term)
      → StandsAt rule.top path place (OfItem (Constraint (Field number) some))
      → AreArguments model (OfRule pred rule) (Field number) some

-- no limit is told of the rules of faultless files, the model has these rules, the predicates of the files and what they name,
-- and fields fit
pub record HasFaultlessRules (model : Model) (files : List FileDecls) (table : TypeTable) (trees : List PlainTree) (world : World)
    (objects : List Object) : Type 0 where
  pub faultless : AreFaultless files table trees world objects
  pub no_limit : tree_limits (lexicon_of world) trees ≡ []
  pub rules : model.rules ≡ tree_rules (lexicon_of world) objects trees
  pub preds : HasPredsOf model (lexicon_of world)
  pub things : HasThings model (lexicon_of world) objects
  pub fields : All (λ tree. HasFittingFields model tree.pred (tree_rule (lexicon_of world) objects tree)) trees

-- then each predicate lists lawful rules, which are few
abbrev pub FaultlessRulesAreLawful : Type 0
FaultlessRulesAreLawful =
    (model : Model) (files : List FileDecls) (table : TypeTable) (trees : List PlainTree) (world : World) (objects : List Object)
    → HasFaultlessRules model files table trees world objects → (pred : ℕ)
    → ListsLawfulRules model pred (rules_of_pred pred 0 trees)
