-- The predicates of classes.
use Rattle.std.specs.Prelude.{ℕ, ◌==◌, List, [], ◌∷◌, ◌++◌, Option, Some, None, codes, if◌then◌else◌}
use Rattle.std.specs.List.{filter_map, flat_map}
use Rattle.model_core.specs.declared.class.Enum.{Enum}
use Rattle.model_core.specs.declared.class.Pred.{Pred}
use Rattle.model_core.specs.declared.class.PredKind.{PredKind}
use Rattle.model_core.specs.declared.class.PredKind.TheVariants as uses
use Rattle.model_core.specs.Lawful.{quantity}
use Rattle.nddl_ast.specs.declared.declaration.Member.{Member}
use Rattle.nddl_ast.specs.declared.declaration.Member.TheVariants as members
use Rattle.nddl_symbols.specs.declared.scope.Meaning.{Meaning}
use Rattle.nddl_symbols.specs.declared.scope.Meaning.TheVariants as meanings
use Rattle.nddl_hierarchy.specs.Ancestors.{above}
use Rattle.nddl_hierarchy.specs.Facts.{Facts}
use Rattle.nddl_hierarchy.specs.Decls.{members_of}
use Rattle.nddl_declarations.specs.Members.{parameters_of}
use Rattle.nddl_declarations.specs.Declares.{variables_of}
use Rattle.nddl_types.specs.Classes.{class_entries, class_number, line_down}

-- such a predicate, of the class of this number
abbrev pub builtin_pred : ℕ → List ℕ → PredKind → Pred
builtin_pred class name kind =
    record { class = class; name = name; params = quantity ∷ []; kind = kind; rules = [] }

-- the predicates of the built-in class of the second number, where the class of the first has them
abbrev pub builtin_preds : ℕ → ℕ → List Pred
builtin_preds class number =
    if number == 2 then builtin_pred class (codes "uses") uses.Uses ∷ []
    else (if number == 3
    then builtin_pred class (codes "produce") uses.Produce ∷ builtin_pred class (codes "consume") uses.Consume ∷ []
    else [])

-- those of a built-in class that is extended
abbrev pub given_preds : ℕ → Option Meaning → List Pred
given_preds class (Some (meanings.BuiltIn number)) = builtin_preds class number
given_preds class meaning = []

-- the predicate of the class of this number that a member declares
abbrev pub pred_of : Facts → List Enum → ℕ → Member → Option Pred
pred_of facts enums class (members.Predicate at name parts) =
    Some (record {
      class = class;
      name = name.text;
      params = variables_of facts enums (parameters_of parts);
      kind = uses.Plain;
      rules = [];
    })
pred_of facts enums class member = None

-- what the class of the second number adds to the predicates of a line, for the class of the first
abbrev pub preds_at : Facts → List Enum → ℕ → ℕ → List Pred
preds_at facts enums class entry =
    given_preds class (above facts.names facts.program entry)
    ++ filter_map (pred_of facts enums class) (members_of facts.names facts.program entry)

-- the predicates of the class whose name has this number: those of its ancestors, the topmost first, and then its own
abbrev pub class_preds : Facts → List Enum → ℕ → List Pred
class_preds facts enums entry =
    flat_map (preds_at facts enums (class_number facts.names (meanings.Entry entry))) (line_down facts entry)

-- the predicates by class, in the order of the classes
abbrev pub preds_of : Facts → List Enum → List Pred
preds_of facts enums =
    builtin_preds 2 2 ++ (builtin_preds 3 3 ++ flat_map (class_preds facts enums) (class_entries facts.names 0 facts.names))
