-- What is so of a compiled model, joined.
use Rattle.std.proofs.Common.{List, get_or}
use Rattle.std.specs.Prelude.{All}
use Rattle.model_core.specs.declared.class.Object.{Object}
use Rattle.model_core.specs.declared.model.Model.{Model}
use Rattle.model_core.specs.Lawful.{IsLawful, IsLawfulKind, IsLawfulObject}
use Rattle.nddl_problem.specs.Compiled.{compiled_model}
use Rattle.nddl_problem.specs.Known.{Known}
use Rattle.nddl_model_laws.specs.Faultless.{IsFaultless}
use Rattle.nddl_model_laws.specs.Joined.{HasRest}
use Rattle.nddl_model_laws.specs.Named.{IsPlacedObject}
use Rattle.nddl_model_laws.specs.Ruled.{HaveLawfulRules}
use Rattle.nddl_model_laws.specs.Valued.{HasFieldValues}
use Rattle.nddl_model_laws.proofs.Counted.{has_few}
use Rattle.nddl_model_laws.proofs.Distinct.{names_differ}
use Rattle.nddl_model_laws.proofs.Foreign.{all_foreign}
use Rattle.nddl_model_laws.proofs.Naming.{global_names}
use Rattle.nddl_model_laws.proofs.Placed.{objects_placed}
use Rattle.nddl_model_laws.proofs.Valued.{all_values}
use Rattle.nddl_model_laws.proofs.Tables.{enums_lawful, model_classes_lawful, model_preds_differ, model_preds_lawful}

object_lawful : (model : Model) (object : Object) → IsPlacedObject model object → HasFieldValues model object → IsLawfulKind object.kind
    → IsLawfulObject model object
object_lawful model object placed has kind = record {
  name = placed.name;
  class = placed.class;
  is_class = placed.is_class;
  fields = has placed.class placed.is_class;
  kind = kind;
}

objects_lawful : (model : Model) (objects : List Object) → All (IsPlacedObject model) objects → All (HasFieldValues model) objects
    → All (λ (object : Object). IsLawfulKind object.kind) objects → All (IsLawfulObject model) objects
objects_lawful model objects placed has kinds = λ k d within. object_lawful model (get_or objects k d) (placed k d within) (has k d within) (kinds k d within)

pub rest_makes_lawful : (known : Known) → IsFaultless known → HaveLawfulRules (compiled_model known) → HasRest (compiled_model known)
    → IsLawful (compiled_model known)
rest_makes_lawful known is ruled rest =
    let few = has_few known is in
    record {
      horizon = rest.horizon;
      few_enums = few.enums;
      few_classes = few.classes;
      few_preds = few.preds;
      few_rules = rest.few_rules;
      few_objects = few.objects;
      few_roots = few.roots;
      few_facts = few.facts;
      few_globals = rest.few_globals;
      few_items = rest.few_items;
      enums = enums_lawful known is;
      classes = model_classes_lawful known is;
      objects = objects_lawful (compiled_model known) (compiled_model known).objects (objects_placed known is) (all_values known is) rest.kinds;
      preds = model_preds_lawful known is ruled;
      pred_names = model_preds_differ known is;
      roots = rest.roots;
      globals = rest.globals;
      items = rest.items;
      decisions = rest.decisions;
      names = global_names known is;
      not_builtin = all_foreign known is;
      distinct = names_differ known is rest.few_globals rest.objects_differ;
    }
