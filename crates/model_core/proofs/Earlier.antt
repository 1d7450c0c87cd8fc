-- A lawful model with an earlier end is lawful: all that isn't the horizon is the same.
use Rattle.std.proofs.Common.{ℕ, List, [], ◌∷◌, refl, arith}
use Rattle.std.specs.Prelude.{ℤ, All}
use Rattle.std.specs.List.{AllZip}
use Rattle.std.proofs.lemmas.Int.{ints}
use Rattle.std.proofs.lemmas.List.Elements.{All-weaker}
use Rattle.domain_core.specs.declared.kind.Kind.{Kind}
use Rattle.domain_core.specs.declared.kind.Kind.TheVariants.{Eq, Neq, Lt, Leq, AddEq, MulEq, TestEq, TestLeq, Field}
use Rattle.eu_name.specs.declared.name.Part.{Part}
use Rattle.eu_name.specs.declared.name.Part.TheVariants as parts
use Rattle.eu_name.specs.declared.name.Step.{Step}
use Rattle.eu_name.specs.declared.name.TokenName.{TokenName}
use Rattle.eu_name.specs.declared.name.VarName.{VarName}
use Rattle.eu_name.specs.declared.name.VarName.TheVariants as variables
use Rattle.model_core.specs.declared.class.Class.{Class}
use Rattle.model_core.specs.declared.class.Object.{Object}
use Rattle.model_core.specs.declared.class.Pred.{Pred}
use Rattle.model_core.specs.declared.decision.ConArg.{ConArg}
use Rattle.model_core.specs.declared.decision.ConArg.TheVariants as arguments
use Rattle.model_core.specs.declared.decision.Decision.{Decision}
use Rattle.model_core.specs.declared.decision.Decision.TheVariants as decisions
use Rattle.model_core.specs.declared.item.Item.{Item}
use Rattle.model_core.specs.declared.item.Item.TheVariants.{Constraint, Relation}
use Rattle.model_core.specs.declared.item.Term.{Term}
use Rattle.model_core.specs.declared.item.Term.TheVariants as terms
use Rattle.model_core.specs.declared.model.Model.{Model}
use Rattle.model_core.specs.declared.model.Placed.{Placed}
use Rattle.model_core.specs.declared.model.Root.{Root}
use Rattle.model_core.specs.declared.rule.Guard.{Guard}
use Rattle.model_core.specs.declared.rule.Guard.TheVariants.{Equal, Differ}
use Rattle.model_core.specs.declared.rule.Rule.{Rule}
use Rattle.model_core.specs.declared.rule.Slot.{Slot}
use Rattle.model_core.specs.declared.rule.Turn.{Turn}
use Rattle.model_core.specs.declared.variable.Base.{Base}
use Rattle.model_core.specs.declared.variable.Base.TheVariants.{Given, Void}
use Rattle.model_core.specs.declared.variable.ValueKind.{ValueKind}
use Rattle.model_core.specs.declared.variable.ValueKind.TheVariants as kinds
use Rattle.model_core.specs.declared.variable.VarDecl.{VarDecl}
use Rattle.model_core.specs.Blocks.{Direct, OfSlot, OfLocal, OfItem, OfBranch}
use Rattle.model_core.specs.Horizon.{with_end, EarlierEndsAreLawful}
use Rattle.model_core.specs.Kinds.{Climbs, IsUnder, IsObjectOf, AreObjectsOf, IsKind, IsValueOf, IsBaseOf, IsPartOfKind, Scope}
use Rattle.model_core.specs.Kinds.{OfProblem, OfRule, IsOfKind, AreOfKind, AreComparable, AreNumbers, IsPartOfClass, IsOfClass}
use Rattle.model_core.specs.Kinds.{AccessesField, AreArguments}
use Rattle.model_core.specs.Lawful.{IsLawfulVariable, IsLawfulClass, IsLawfulObject, IsLawfulSlot, IsLawfulItem}
use Rattle.model_core.specs.Lawful.{IsLawfulGuard, IsLawfulEntry, IsLawfulRule, IsLawfulPred, IsLawfulRoot, IsToken}
use Rattle.model_core.specs.Lawful.{IsLawfulArgument, IsLawfulDecision, ExtendsFields}
use Rattle.model_core.specs.Tokens.{HasRule, LeadsToSlot, Reaches, HasToken, slot_of}
use Rattle.model_core.specs.Variables.{HasParameter, HasPartBase, HasLocalBase, HasBase}

zips_more : {X Y : Type 0} (P Q : X → Y → Type 0) → ((x : X) (y : Y) → P x y → Q x y) → (xs : List X) (ys : List Y)
    → AllZip P xs ys → AllZip Q xs ys
zips_more P Q more [] [] zips = zips
zips_more P Q more [] (y ∷ ys) zips = absurd zips
zips_more P Q more (x ∷ xs) [] zips = absurd zips
zips_more P Q more (x ∷ xs) (y ∷ ys) (at, zips) = (more x y at, zips_more P Q more xs ys zips)

module _ (model : Model) (end : ℤ) where
  -- the model that ends earlier
  abbrev earlier : Model
  earlier = with_end model end

  -- ---- classes, objects and kinds

  climbs : (class : ℕ) (path : List ℕ) (ancestor : ℕ) → Climbs model class path ancestor → Climbs earlier class path ancestor
  climbs class [] ancestor is = is
  climbs class (parent ∷ path) ancestor (up, on) = (up, climbs parent path ancestor on)

  climbed : (class : ℕ) (path : List ℕ) (ancestor : ℕ) → Climbs earlier class path ancestor → Climbs model class path ancestor
  climbed class [] ancestor is = is
  climbed class (parent ∷ path) ancestor (up, on) = (up, climbed parent path ancestor on)

  under : (class ancestor : ℕ) → IsUnder model class ancestor → IsUnder earlier class ancestor
  under class ancestor (path, up) = (path, climbs class path ancestor up)

  object_of : (class : ℕ) (value : ℤ) → IsObjectOf model class value → IsObjectOf earlier class value
  object_of class value (object, is_object, up) = (object, is_object, under object.class class up)

  objects_of : (class : ℕ) (base : Base) → AreObjectsOf model class base → AreObjectsOf earlier class base
  objects_of class (Given domain) are = λ value has. object_of class value (are value has)
  objects_of class Void are = tt

  kind_kept : (kind : ValueKind) → IsKind model kind → IsKind earlier kind
  kind_kept kinds.Int is = tt
  kind_kept kinds.Float is = tt
  kind_kept kinds.Bool is = tt
  kind_kept (kinds.Enum number) is = is
  kind_kept kinds.Object is = tt

  value_kept : (kind : ValueKind) (value : ℤ) → IsValueOf model kind value → IsValueOf earlier kind value
  value_kept kinds.Int value is = is
  value_kept kinds.Float value is = is
  value_kept kinds.Bool value is = is
  value_kept (kinds.Enum number) value is = record {
    found = is.found;
    is_enum = is.is_enum;
    place = is.place;
    is_place = is.is_place;
    member = is.member;
    is_member = is.is_member;
  }
  value_kept kinds.Object value is = is

  base_kept : (kind : ValueKind) (base : Base) → IsBaseOf model kind base → IsBaseOf earlier kind base
  base_kept kind (Given domain) is = record {
    values = λ value has. value_kept kind value (is.values value has);
    range = is.range;
  }
  base_kept kind Void is = is

  variable_kept : (variable : VarDecl) → IsLawfulVariable model variable → IsLawfulVariable earlier variable
  variable_kept variable is = record {
    kind = kind_kept variable.kind is.kind;
    base = is.base;
    inside = base_kept variable.kind variable.base is.inside;
  }

  variables_kept : (declared : List VarDecl) → All (IsLawfulVariable model) declared → All (IsLawfulVariable earlier) declared
  variables_kept declared = All-weaker (IsLawfulVariable model) (IsLawfulVariable earlier) variable_kept declared

  extends_kept : (class : Class) (parent : ℕ) → ExtendsFields model class parent → ExtendsFields earlier class parent
  extends_kept class parent is = record {
    above = is.above;
    own = is.own;
    is_above = is.is_above;
    fields = is.fields;
  }

  class_kept : (number : ℕ) (class : Class) → IsLawfulClass model number class → IsLawfulClass earlier number class
  class_kept number class is = record {
    name = is.name;
    extends = λ parent at. extends_kept class parent (is.extends parent at);
    no_circle = λ parent at round. is.no_circle parent at (round.0, climbed parent round.0 number round.1);
    fields = variables_kept class.fields is.fields;
    names = is.names;
    distinct = is.distinct;
  }

  object_kept : (object : Object) → IsLawfulObject model object → IsLawfulObject earlier object
  object_kept object is = record {
    name = is.name;
    class = is.class;
    is_class = is.is_class;
    fields =
        zips_more (λ variable value. IsValueOf model variable.kind value) (λ variable value. IsValueOf earlier variable.kind value)
        (λ variable value of. value_kept variable.kind value of) is.class.fields object.fields is.fields;
    kind = is.kind;
  }

  -- ---- terms and items

  parameter : (pred number : ℕ) (variable : VarDecl) → HasParameter model pred number variable
      → HasParameter earlier pred number variable
  parameter pred number variable has = record {
    predicate = has.predicate;
    is_predicate = has.is_predicate;
    declared = has.declared;
  }

  part_kept : (pred : ℕ) (kind : ValueKind) (part : Part) → IsPartOfKind model pred kind part
      → IsPartOfKind earlier pred kind part
  part_kept pred kind parts.Start is = is
  part_kept pred kind parts.End is = is
  part_kept pred kind parts.Duration is = is
  part_kept pred kind parts.Object is = is
  part_kept pred kind (parts.Param number) (variable, has, is) = (variable, parameter pred number variable has, is)

  term_kept : (scope : Scope) (kind : ValueKind) (term : Term) → IsOfKind model scope kind term → IsOfKind earlier scope kind term
  term_kept scope kind (terms.Lit value) is = value_kept kind value is
  term_kept scope kind (terms.Global number) is = is
  term_kept scope kind (terms.Root number part) (root, is_root, is) = (root, is_root, part_kept root.pred kind part is)
  term_kept (OfRule pred rule) kind (terms.Here part) is = part_kept pred kind part is
  term_kept (OfRule pred rule) kind (terms.Slot number part) (slot, is_slot, is) =
      (slot, is_slot, part_kept slot.pred kind part is)
  term_kept (OfRule pred rule) kind (terms.Local number) is = is
  term_kept OfProblem kind term is = absurd is

  terms_kept : (scope : Scope) (kind : ValueKind) (compared : List Term) → AreOfKind model scope kind compared
      → AreOfKind earlier scope kind compared
  terms_kept scope kind compared =
      All-weaker (IsOfKind model scope kind) (IsOfKind earlier scope kind) (term_kept scope kind) compared

  comparable_kept : (scope : Scope) (compared : List Term) → AreComparable model scope compared
      → AreComparable earlier scope compared
  comparable_kept scope compared (kind, are) = (kind, terms_kept scope kind compared are)

  numbers_kept : (scope : Scope) (compared : List Term) → AreNumbers model scope compared → AreNumbers earlier scope compared
  numbers_kept scope compared (kind, numeric, are) = (kind, numeric, terms_kept scope kind compared are)

  part_class_kept : (pred class : ℕ) (part : Part) → IsPartOfClass model pred class part → IsPartOfClass earlier pred class part
  part_class_kept pred class parts.Start is = is
  part_class_kept pred class parts.End is = is
  part_class_kept pred class parts.Duration is = is
  part_class_kept pred class parts.Object (found, is_found, up) = (found, is_found, under found.class class up)
  part_class_kept pred class (parts.Param number) (variable, has, are) =
      (variable, parameter pred number variable has, objects_of class variable.base are)

  class_term_kept : (scope : Scope) (class : ℕ) (term : Term) → IsOfClass model scope class term
      → IsOfClass earlier scope class term
  class_term_kept scope class (terms.Lit value) is = object_of class value is
  class_term_kept scope class (terms.Global number) (variable, is_global, are) =
      (variable, is_global, objects_of class variable.base are)
  class_term_kept scope class (terms.Root number part) (root, is_root, is) =
      (root, is_root, part_class_kept root.pred class part is)
  class_term_kept (OfRule pred rule) class (terms.Here part) is = part_class_kept pred class part is
  class_term_kept (OfRule pred rule) class (terms.Slot number part) (slot, is_slot, is) =
      (slot, is_slot, part_class_kept slot.pred class part is)
  class_term_kept (OfRule pred rule) class (terms.Local number) (variable, declared, are) =
      (variable, declared, objects_of class variable.base are)
  class_term_kept OfProblem class term is = absurd is

  field_kept : (scope : Scope) (number : ℕ) (object value : Term) → AccessesField model scope number object value
      → AccessesField earlier scope number object value
  field_kept scope number object value is = record {
    class = is.class;
    found = is.found;
    is_class = is.is_class;
    variable = is.variable;
    declared = is.declared;
    of_kind = term_kept scope kinds.Object object is.of_kind;
    of_class = class_term_kept scope is.class object is.of_class;
    value_kind = term_kept scope is.variable.kind value is.value_kind;
  }

  arguments_kept : (scope : Scope) (kind : Kind) (arguments : List Term) → AreArguments model scope kind arguments
      → AreArguments earlier scope kind arguments
  arguments_kept scope Eq arguments are = comparable_kept scope arguments are
  arguments_kept scope Neq arguments are = comparable_kept scope arguments are
  arguments_kept scope Lt arguments are = numbers_kept scope arguments are
  arguments_kept scope Leq arguments are = numbers_kept scope arguments are
  arguments_kept scope AddEq arguments are = numbers_kept scope arguments are
  arguments_kept scope MulEq (first ∷ terms.Lit factor ∷ product ∷ []) (are, is_value, some) =
      (numbers_kept scope (first ∷ product ∷ []) are, is_value, some)
  arguments_kept scope TestEq (truth ∷ compared) (is, are) =
      (term_kept scope kinds.Bool truth is, comparable_kept scope compared are)
  arguments_kept scope TestLeq (truth ∷ compared) (is, are) =
      (term_kept scope kinds.Bool truth is, numbers_kept scope compared are)
  arguments_kept scope (Field number) (object ∷ value ∷ []) is = field_kept scope number object value is
  arguments_kept scope kind arguments are = absurd are

  item_kept : (scope : Scope) (item : Item) → IsLawfulItem model scope item → IsLawfulItem earlier scope item
  item_kept scope (Constraint kind arguments) (long, are) = (long, arguments_kept scope kind arguments are)
  item_kept (OfRule pred rule) (Relation relation number) is = is
  item_kept OfProblem (Relation relation number) is = absurd is

  -- ---- rules and predicates

  slot_kept : (slot : Slot) → IsLawfulSlot model slot → IsLawfulSlot earlier slot
  slot_kept slot is = record {
    pred = is.pred;
    is_pred = is.is_pred;
    base = is.base;
    inside = base_kept kinds.Object slot.object is.inside;
    objects = objects_of is.pred.class slot.object is.objects;
  }

  guard_kept : (pred : ℕ) (rule : Rule) (path : List Turn) (guard : Guard) → IsLawfulGuard model pred rule path guard
      → IsLawfulGuard earlier pred rule path guard
  guard_kept pred rule path (Equal left right) (are, seen) = (comparable_kept (OfRule pred rule) (left ∷ right ∷ []) are, seen)
  guard_kept pred rule path (Differ left right) (are, seen) = (comparable_kept (OfRule pred rule) (left ∷ right ∷ []) are, seen)

  entry_kept : (pred : ℕ) (rule : Rule) (path : List Turn) (what : Direct) → IsLawfulEntry model pred rule path what
      → IsLawfulEntry earlier pred rule path what
  entry_kept pred rule path (OfSlot number) is = is
  entry_kept pred rule path (OfLocal number) is = is
  entry_kept pred rule path (OfItem item) (is, seen) = (item_kept (OfRule pred rule) item is, seen)
  entry_kept pred rule path (OfBranch guard then otherwise) is = guard_kept pred rule path guard is

  rule_kept : (pred : ℕ) (rule : Rule) → IsLawfulRule model pred rule → IsLawfulRule earlier pred rule
  rule_kept pred rule is = record {
    entries = λ path place what stands. (
      (is.entries path place what stands).0,
      entry_kept pred rule path what (is.entries path place what stands).1,
    );
    nested = is.nested;
    slots = All-weaker (IsLawfulSlot model) (IsLawfulSlot earlier) slot_kept rule.slots is.slots;
    slots_stand = is.slots_stand;
    locals = variables_kept rule.locals is.locals;
    unnamed = is.unnamed;
    locals_stand = is.locals_stand;
  }

  pred_kept : (number : ℕ) (pred : Pred) → IsLawfulPred model number pred → IsLawfulPred earlier number pred
  pred_kept number pred is = record {
    name = is.name;
    class = is.class;
    is_class = is.is_class;
    no_field = is.no_field;
    params = variables_kept pred.params is.params;
    few_params = is.few_params;
    names = is.names;
    distinct = is.distinct;
    quantity = is.quantity;
    rules = is.rules;
    are_rules = is.are_rules;
    few = is.few;
    lawful = All-weaker (IsLawfulRule model number) (IsLawfulRule earlier number) (rule_kept number) is.rules is.lawful;
  }

  -- ---- roots and decisions

  root_kept : (root : Root) → IsLawfulRoot model root → IsLawfulRoot earlier root
  root_kept root is = record {
    label = is.label;
    pred = is.pred;
    is_pred = is.is_pred;
    given = is.given;
    object = is.object;
    inside = base_kept kinds.Object (Given root.object) is.inside;
    objects = objects_of is.pred.class (Given root.object) is.objects;
  }

  has_rule_kept : (pred number : ℕ) (rule : Rule) → HasRule model pred number rule → HasRule earlier pred number rule
  has_rule_kept pred number rule has = record {
    predicate = has.predicate;
    place = has.place;
    is_predicate = has.is_predicate;
    listed = has.listed;
    is_rule = has.is_rule;
  }

  leads_kept : (pred : ℕ) (step : Step) (slot : Slot) → LeadsToSlot model pred step slot → LeadsToSlot earlier pred step slot
  leads_kept pred step slot leads = record {
    rule = leads.rule;
    has_rule = has_rule_kept pred step.rule leads.rule leads.has_rule;
    is_slot = leads.is_slot;
  }

  reaches_kept : (slot : Slot) (steps : List Step) (reached : Slot) → Reaches model slot steps reached
      → Reaches earlier slot steps reached
  reaches_kept slot [] reached is = is
  reaches_kept slot (step ∷ steps) reached (next, leads, on) =
      (next, leads_kept slot.pred step next leads, reaches_kept next steps reached on)

  has_token_kept : (token : TokenName) (slot : Slot) → HasToken model token slot → HasToken earlier token slot
  has_token_kept token slot has = record {
    root = has.root;
    is_root = has.is_root;
    reached = reaches_kept (slot_of has.root) token.steps slot has.reached;
  }

  token_kept : (token : TokenName) → IsToken model token → IsToken earlier token
  token_kept token (slot, has) = (slot, has_token_kept token slot has)

  part_base_kept : (slot : Slot) (part : Part) (base : Base) → HasPartBase model slot part base
      → (other : Base) × HasPartBase earlier slot part other
  part_base_kept slot parts.Start base has = (_, refl)
  part_base_kept slot parts.End base has = (_, refl)
  part_base_kept slot parts.Duration base has = (_, refl)
  part_base_kept slot parts.Object base has = (_, refl)
  part_base_kept slot (parts.Param number) base (variable, has, is) =
      (base, (variable, parameter slot.pred number variable has, is))

  local_base_kept : (token : TokenName) (rule number : ℕ) (base : Base) → HasLocalBase model token rule number base
      → HasLocalBase earlier token rule number base
  local_base_kept token rule number base has = record {
    slot = has.slot;
    has_token = has_token_kept token has.slot has.has_token;
    variable = has.variable;
    has_local = record {
      found = has.has_local.found;
      has_rule = has_rule_kept has.slot.pred rule has.has_local.found has.has_local.has_rule;
      declared = has.has_local.declared;
    };
    is_base = has.is_base;
  }

  some_base : (name : VarName) (base : Base) → HasBase model name base → (other : Base) × HasBase earlier name other
  some_base (variables.Global number) base has = (base, has)
  some_base (variables.Token token part) base (slot, has, is) =
      let kept = part_base_kept slot part base is in
      (kept.0, (slot, has_token_kept token slot has, kept.1))
  some_base (variables.Local token rule number) base has = (base, local_base_kept token rule number base has)

  argument_kept : (argument : ConArg) → IsLawfulArgument model argument → IsLawfulArgument earlier argument
  argument_kept (arguments.Var name) (base, has) = some_base name base has
  argument_kept (arguments.Value value) is = is

  decision_kept : (decision : Decision) → IsLawfulDecision model decision → IsLawfulDecision earlier decision
  decision_kept (decisions.Specify variable value) ((base, has), is) = (some_base variable base has, is)
  decision_kept (decisions.Activate token) is = token_kept token is
  decision_kept (decisions.Merge token target) (is, is_target) = (token_kept token is, token_kept target is_target)
  decision_kept (decisions.Reject token) is = token_kept token is
  decision_kept (decisions.Order first second) (is, is_second) = (token_kept first is, token_kept second is_second)
  decision_kept (decisions.Constrain kind given) are =
      All-weaker (IsLawfulArgument model) (IsLawfulArgument earlier) argument_kept given are
  decision_kept (decisions.Relate relation first second) (is, is_second) = (token_kept first is, token_kept second is_second)

pub earlier_end : EarlierEndsAreLawful
earlier_end model end lawful order no_later = record {
  horizon = record {
    start = lawful.horizon.start;
    order = order;
    end = (
      omega (arith, ints, lawful.horizon.start, order),
      omega (arith, ints, no_later, lawful.horizon.end.1),
    );
    some_steps = lawful.horizon.some_steps;
    few_steps = lawful.horizon.few_steps;
  };
  few_enums = lawful.few_enums;
  few_classes = lawful.few_classes;
  few_preds = lawful.few_preds;
  few_rules = lawful.few_rules;
  few_objects = lawful.few_objects;
  few_roots = lawful.few_roots;
  few_facts = lawful.few_facts;
  few_globals = lawful.few_globals;
  few_items = lawful.few_items;
  enums = lawful.enums;
  classes = λ number class at. class_kept model end number class (lawful.classes number class at);
  objects = All-weaker (IsLawfulObject model) (IsLawfulObject (with_end model end)) (object_kept model end)
      model.objects lawful.objects;
  preds = λ number pred at. pred_kept model end number pred (lawful.preds number pred at);
  pred_names = lawful.pred_names;
  roots = All-weaker (IsLawfulRoot model) (IsLawfulRoot (with_end model end)) (root_kept model end)
      model.problem.roots lawful.roots;
  globals = variables_kept model end model.problem.globals lawful.globals;
  items = All-weaker (IsLawfulItem model OfProblem) (IsLawfulItem (with_end model end) OfProblem)
      (item_kept model end OfProblem) model.problem.items lawful.items;
  decisions = All-weaker (λ (placed : Placed). IsLawfulDecision model placed.decision)
      (λ (placed : Placed). IsLawfulDecision (with_end model end) placed.decision)
      (λ placed is. decision_kept model end placed.decision is) model.problem.decisions lawful.decisions;
  names = lawful.names;
  not_builtin = lawful.not_builtin;
  distinct = lawful.distinct;
}
