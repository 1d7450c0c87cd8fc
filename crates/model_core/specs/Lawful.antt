-- Which models are lawful: all that come from a text are, and perhaps others.
use Rattle.std.specs.Prelude.{◌≡◌, ◌≢◌, ℕ, ◌+◌, ◌<◌, ◌≤◌, ◌^◌, pos}
use Rattle.std.specs.Prelude.{◌≤ℤ◌, ◌<ℤ◌, Bool, true, false, ⊤, List, [], ◌∷◌, ◌++◌}
use Rattle.std.specs.Prelude.{Some, length, slice_get, All, AllPairs, Contains, codes, sum_by, count_by}
use Rattle.std.specs.List.{AllZip}
use Rattle.domain_core.specs.Domain.{Range, IsDomain, IsValue}
use Rattle.eu_name.specs.declared.name.TokenName.{TokenName}
use Rattle.eu_name.specs.Word.{IsName}
use Rattle.model_core.specs.declared.class.Class.{Class}
use Rattle.model_core.specs.declared.class.Enum.{Enum}
use Rattle.model_core.specs.declared.class.Object.{Object}
use Rattle.model_core.specs.declared.class.ObjectKind.{ObjectKind}
use Rattle.model_core.specs.declared.class.ObjectKind.TheVariants as object_kinds
use Rattle.model_core.specs.declared.class.Pred.{Pred}
use Rattle.model_core.specs.declared.class.PredKind.{PredKind}
use Rattle.model_core.specs.declared.class.PredKind.TheVariants.{Plain}
use Rattle.model_core.specs.declared.decision.ConArg.{ConArg}
use Rattle.model_core.specs.declared.decision.ConArg.TheVariants.{Var, Value}
use Rattle.model_core.specs.declared.decision.Decision.{Decision}
use Rattle.model_core.specs.declared.decision.Decision.TheVariants.{Specify, Activate, Merge, Reject, Order, Constrain, Relate}
use Rattle.model_core.specs.declared.item.Item.{Item}
use Rattle.model_core.specs.declared.item.Item.TheVariants.{Constraint, Relation}
use Rattle.model_core.specs.declared.model.Model.{Model}
use Rattle.model_core.specs.declared.model.Problem.{Problem}
use Rattle.model_core.specs.declared.model.Root.{Root}
use Rattle.model_core.specs.declared.model.RootKind.{RootKind}
use Rattle.model_core.specs.declared.model.RootKind.TheVariants.{Fact}
use Rattle.model_core.specs.declared.rule.Guard.{Guard}
use Rattle.model_core.specs.declared.rule.Guard.TheVariants.{Equal, Differ}
use Rattle.model_core.specs.declared.rule.Rule.{Rule}
use Rattle.model_core.specs.declared.rule.Slot.{Slot}
use Rattle.model_core.specs.declared.rule.Turn.{Turn}
use Rattle.model_core.specs.declared.variable.Base.{Base}
use Rattle.model_core.specs.declared.variable.Base.TheVariants.{Given, Void}
use Rattle.model_core.specs.declared.variable.ValueKind.TheVariants as kinds
use Rattle.model_core.specs.declared.variable.VarDecl.{VarDecl}
use Rattle.model_core.specs.Blocks.{Direct, OfSlot, OfLocal, OfItem, OfBranch}
use Rattle.domain_core.specs.Constraints.{arity_of}
use Rattle.model_core.specs.Entries.{Entries, NoEntry, WithSlot, WithLocal, WithItem, WithBranch}
use Rattle.model_core.specs.Kinds.{IsUnder, AreObjectsOf, IsKind, IsValueOf, IsBaseOf}
use Rattle.model_core.specs.Kinds.{Scope, OfProblem, OfRule, AreComparable, AreArguments}
use Rattle.model_core.specs.Naming.{builtin_names, names_of, declared_names, file_names, IsGlobalName, IsObjectName, IsParameterName}
use Rattle.model_core.specs.Standing.{StandsAt, StandsOnce, LeadsToBlock, IsTermSeen, IsItemSeen}
use Rattle.model_core.specs.Tokens.{HasToken}
use Rattle.model_core.specs.Variables.{IsGlobal, HasBase, IsGiven}

-- a base is void or a domain
abbrev pub IsLawfulBase : Base → Type 0
IsLawfulBase (Given domain) = IsDomain domain
IsLawfulBase Void = ⊤

-- the model has the variable's kind, and what the variable may be is of it
pub record IsLawfulVariable (model : Model) (variable : VarDecl) : Type 0 where
  pub kind : IsKind model variable.kind
  pub base : IsLawfulBase variable.base
  pub inside : IsBaseOf model variable.kind variable.base

-- an enum has 1 to 4,096 members
pub record IsLawfulEnum (found : Enum) : Type 0 where
  pub name : IsName found.name
  pub members : All IsName found.members
  pub some : 0 < length found.members
  pub few : length found.members ≤ 4096

-- the class has first the fields of the one that it extends, and then its own
pub record ExtendsFields (model : Model) (class : Class) (parent : ℕ) : Type 0 where
  pub above : Class
  pub own : List VarDecl
  pub is_above : slice_get model.classes parent ≡ Some above
  pub fields : class.fields ≡ above.fields ++ own

-- the class of this number has the fields of the class that it extends and then its own, and extends no class that is under it
pub record IsLawfulClass (model : Model) (number : ℕ) (class : Class) : Type 0 where
  pub name : IsName class.name
  pub extends : (parent : ℕ) → class.parent ≡ Some parent → ExtendsFields model class parent
  pub no_circle : (parent : ℕ) → class.parent ≡ Some parent → IsUnder model parent number → ⊥
  pub fields : All (IsLawfulVariable model) class.fields
  pub names : All IsName (names_of class.fields)
  pub distinct : AllPairs ◌≢◌ (names_of class.fields)

-- a capacity isn't negative, and a level begins within its limits
abbrev pub IsLawfulKind : ObjectKind → Type 0
IsLawfulKind object_kinds.Plain = ⊤
IsLawfulKind object_kinds.Timeline = ⊤
IsLawfulKind (object_kinds.Reusable capacity) = IsValue capacity × (pos 0 ≤ℤ capacity)
IsLawfulKind (object_kinds.Reservoir initial low high) =
    IsValue low × IsValue high × (low ≤ℤ initial) × (initial ≤ℤ high)

-- an object has one value for each field of its class, of the field's kind
pub record IsLawfulObject (model : Model) (object : Object) : Type 0 where
  pub name : IsObjectName object.name
  pub class : Class
  pub is_class : slice_get model.classes object.class ≡ Some class
  pub fields : AllZip (λ variable value. IsValueOf model variable.kind value) class.fields object.fields
  pub kind : IsLawfulKind object.kind

-- a slot asks for a token of a predicate that there is, on objects of the predicate's class
pub record IsLawfulSlot (model : Model) (slot : Slot) : Type 0 where
  pub pred : Pred
  pub is_pred : slice_get model.preds slot.pred ≡ Some pred
  pub base : IsLawfulBase slot.object
  pub inside : IsBaseOf model kinds.Object slot.object
  pub objects : AreObjectsOf model pred.class slot.object

-- a constraint has as many arguments as its kind takes, and of the kinds that it takes; relations stand in rules only
abbrev pub IsLawfulItem : Model → Scope → Item → Type 0
IsLawfulItem model scope (Constraint kind arguments) =
    (length arguments ≡ arity_of kind) × AreArguments model scope kind arguments
IsLawfulItem model (OfRule pred rule) (Relation relation number) =
    (slot : Slot) × (slice_get rule.slots number ≡ Some slot)
IsLawfulItem model OfProblem (Relation relation number) = ⊥

-- the two sides of a guard are of one kind, and are seen from the block in which it stands
abbrev pub IsLawfulGuard : Model → ℕ → Rule → List Turn → Guard → Type 0
IsLawfulGuard model pred rule path (Equal left right) =
    AreComparable model (OfRule pred rule) (left ∷ right ∷ []) × All (IsTermSeen rule.top path) (left ∷ right ∷ [])
IsLawfulGuard model pred rule path (Differ left right) =
    AreComparable model (OfRule pred rule) (left ∷ right ∷ []) × All (IsTermSeen rule.top path) (left ∷ right ∷ [])

-- what stands in the block to which the way leads: slots and locals that the rule has, lawful items that name what is seen
-- from there, and lawful guards
abbrev pub IsLawfulEntry : Model → ℕ → Rule → List Turn → Direct → Type 0
IsLawfulEntry model pred rule path (OfSlot number) = (slot : Slot) × (slice_get rule.slots number ≡ Some slot)
IsLawfulEntry model pred rule path (OfLocal number) =
    (variable : VarDecl) × (slice_get rule.locals number ≡ Some variable)
IsLawfulEntry model pred rule path (OfItem item) =
    IsLawfulItem model (OfRule pred rule) item × IsItemSeen rule.top path item
IsLawfulEntry model pred rule path (OfBranch guard then otherwise) = IsLawfulGuard model pred rule path guard

-- a rule of the predicate of this number: what stands in it is lawful, and each slot and local stands in it once
pub record IsLawfulRule (model : Model) (pred : ℕ) (rule : Rule) : Type 0 where
  pub entries : (path : List Turn) (place : ℕ) (what : Direct)
      → StandsAt rule.top path place what → (place < 2 ^ 16) × IsLawfulEntry model pred rule path what
  pub nested : (path : List Turn) (block : Entries) → LeadsToBlock rule.top path block → length path < 16
  pub slots : All (IsLawfulSlot model) rule.slots
  pub slots_stand : (number : ℕ) → number < length rule.slots → StandsOnce rule.top (OfSlot number)
  pub locals : All (IsLawfulVariable model) rule.locals
  pub unnamed : All (λ variable. variable.name ≡ []) rule.locals
  pub locals_stand : (number : ℕ) → number < length rule.locals → StandsOnce rule.top (OfLocal number)

-- how many items stand in the blocks
abbrev pub item_count : Entries → ℕ
item_count NoEntry = 0
item_count (WithSlot slot more) = item_count more
item_count (WithLocal local more) = item_count more
item_count (WithItem item more) = item_count more + 1
item_count (WithBranch guard then otherwise more) = item_count then + (item_count otherwise + item_count more)

-- how many guards stand in the blocks
abbrev pub guard_count : Entries → ℕ
guard_count NoEntry = 0
guard_count (WithSlot slot more) = guard_count more
guard_count (WithLocal local more) = guard_count more
guard_count (WithItem item more) = guard_count more
guard_count (WithBranch guard then otherwise more) = guard_count then + (guard_count otherwise + guard_count more) + 1

-- the rules of one predicate are few, and there is little in them together
pub record AreFew (listed : List Rule) : Type 0 where
  pub rules : length listed ≤ 1024
  pub slots : sum_by (λ rule. length rule.slots) listed ≤ 128
  pub locals : sum_by (λ rule. length rule.locals) listed ≤ 128
  pub items : sum_by (λ rule. item_count rule.top) listed ≤ 1024
  pub guards : sum_by (λ rule. guard_count rule.top) listed ≤ 1024

-- how much is used, produced or consumed: from 0 to 1,000,000
abbrev pub quantity : VarDecl
quantity = record { name = codes "quantity"; kind = kinds.Int; base = Given (Range (pos 0) (pos 1000000)) }

-- what uses, produces or consumes has a quantity as its one parameter
abbrev pub HasQuantity : PredKind → List VarDecl → Type 0
HasQuantity Plain params = ⊤
HasQuantity kind params = params ≡ quantity ∷ []

-- the predicate of this number
pub record IsLawfulPred (model : Model) (number : ℕ) (pred : Pred) : Type 0 where
  pub name : IsName pred.name
  pub class : Class
  pub is_class : slice_get model.classes pred.class ≡ Some class
  pub no_field : Contains (names_of class.fields) pred.name → ⊥
  pub params : All (IsLawfulVariable model) pred.params
  pub few_params : length pred.params ≤ 32
  pub names : All IsParameterName (names_of pred.params)
  pub distinct : AllPairs ◌≢◌ (names_of pred.params)
  pub quantity : HasQuantity pred.kind pred.params
  pub rules : List Rule
  pub are_rules : AllZip (λ place rule. slice_get model.rules place ≡ Some rule) pred.rules rules
  pub few : AreFew rules
  pub lawful : All (IsLawfulRule model number) rules

-- a root is of a predicate that there is, none of whose parameters is void, on one or more objects of the predicate's class
pub record IsLawfulRoot (model : Model) (root : Root) : Type 0 where
  pub label : IsName root.label
  pub pred : Pred
  pub is_pred : slice_get model.preds root.pred ≡ Some pred
  pub given : All (λ variable. IsGiven variable.base) pred.params
  pub object : IsDomain root.object
  pub inside : IsBaseOf model kinds.Object (Given root.object)
  pub objects : AreObjectsOf model pred.class (Given root.object)

-- the model has this token
abbrev pub IsToken : Model → TokenName → Type 0
IsToken model token = (slot : Slot) × HasToken model token slot

-- the model has the variable, or the value is one
abbrev pub IsLawfulArgument : Model → ConArg → Type 0
IsLawfulArgument model (Var name) = (base : Base) × HasBase model name base
IsLawfulArgument model (Value value) = IsValue value

-- the decision names tokens and variables that the model has, and values
abbrev pub IsLawfulDecision : Model → Decision → Type 0
IsLawfulDecision model (Specify variable value) = ((base : Base) × HasBase model variable base) × IsValue value
IsLawfulDecision model (Activate token) = IsToken model token
IsLawfulDecision model (Merge token target) = IsToken model token × IsToken model target
IsLawfulDecision model (Reject token) = IsToken model token
IsLawfulDecision model (Order first second) = IsToken model first × IsToken model second
IsLawfulDecision model (Constrain kind arguments) = All (IsLawfulArgument model) arguments
IsLawfulDecision model (Relate relation first second) = IsToken model first × IsToken model second

-- the horizon begins at 0 or later and isn't a single instant, and a search may visit 1 to 1,000,000 lists
pub record IsHorizon (problem : Problem) : Type 0 where
  pub start : pos 0 ≤ℤ problem.start
  pub order : problem.start <ℤ problem.end
  pub end : IsValue problem.end
  pub some_steps : 0 < problem.steps
  pub few_steps : problem.steps ≤ 1000000

-- whether roots of this kind are facts
abbrev pub is_fact : RootKind → Bool
is_fact Fact = true
is_fact kind = false

-- the model keeps the limits and the rules of names, and each number in it names what is there
pub record IsLawful (model : Model) : Type 0 where
  pub horizon : IsHorizon model.problem
  pub few_enums : length model.enums < 2 ^ 32
  pub few_classes : length model.classes < 2 ^ 32
  pub few_preds : length model.preds < 2 ^ 32
  pub few_rules : length model.rules < 2 ^ 32
  pub few_objects : length model.objects ≤ 4096
  pub few_roots : length model.problem.roots ≤ 4096
  pub few_facts : count_by (λ root. is_fact root.kind) model.problem.roots ≤ 512
  pub few_globals : length model.problem.globals ≤ 4096
  pub few_items : length model.problem.items < 2 ^ 32
  pub enums : All IsLawfulEnum model.enums
  pub classes : (number : ℕ) (class : Class)
      → slice_get model.classes number ≡ Some class → IsLawfulClass model number class
  pub objects : All (IsLawfulObject model) model.objects
  pub preds : (number : ℕ) (pred : Pred)
      → slice_get model.preds number ≡ Some pred → IsLawfulPred model number pred
  pub pred_names : AllPairs (λ one other. one.class ≡ other.class → one.name ≢ other.name) model.preds
  pub roots : All (IsLawfulRoot model) model.problem.roots
  pub globals : All (IsLawfulVariable model) model.problem.globals
  pub items : All (IsLawfulItem model OfProblem) model.problem.items
  pub decisions : All (λ placed. IsLawfulDecision model placed.decision) model.problem.decisions
  pub names : (number : ℕ) (variable : VarDecl) → IsGlobal model number variable → IsGlobalName number variable.name
  pub not_builtin : All (λ name. Contains builtin_names name → ⊥) (declared_names model)
  pub distinct : AllPairs ◌≢◌ (file_names model)
