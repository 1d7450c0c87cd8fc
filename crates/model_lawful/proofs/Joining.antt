-- A model is lawful if all that is told of it is so, and only then.
use Rattle.std.proofs.Common.{◌≡◌, ℕ, zero, suc, List, [], ◌∷◌, get_or, slice_get, Some, All, Contains, sym, subst, arith}
use Rattle.eu_name.proofs.Members.{get_same, get_below, get_all, get_within}
use Rattle.model_core.specs.declared.class.Class.{Class}
use Rattle.model_core.specs.declared.class.Pred.{Pred}
use Rattle.model_core.specs.declared.model.Model.{Model}
use Rattle.model_core.specs.Naming.{names_of}
use Rattle.model_core.specs.Lawful.{IsLawful, IsLawfulClass, IsLawfulPred}
use Rattle.model_typing.specs.declared.table.Classes.{Classes}
use Rattle.model_typing.specs.Ground.{AreClasses, IsGround}
use Rattle.model_lawful.specs.Classes.{AreInLine, HasLawfulMembers}
use Rattle.model_rules.specs.Distinct.{AreFree, HasFieldNamed}
use Rattle.model_lawful.specs.Preds.{AreLawfulPreds}
use Rattle.model_lawful.specs.Wholes.{HasLawfulBasis, HasLawfulTypes, IsLawfulAbove, IsSmallModel}
use Rattle.model_lawful.proofs.Lining.{count_same, extends_under, under_extends}

all-get : {X : Type 0} (P : X → Type 0) (list : List X) → ((place : ℕ) (x : X) → slice_get list place ≡ Some x → P x) → All P list
all-get P list each = λ k d below. (let at = get_within list k below in subst P (sym (reads list k d at.0 at.1)) (each k at.0 at.1))
  where
    reads : {X : Type 0} (xs : List X) (k : ℕ) (d x : X) → slice_get xs k ≡ Some x → get_or xs k d ≡ x
    reads [] k d x at = cc
    reads (y ∷ xs) zero d x at = cc
    reads (y ∷ xs) (suc k) d x at = reads xs k d x at

module _ (model : Model) where
  class_lawful : HasLawfulTypes model → AreInLine model → (number : ℕ) (class : Class) → slice_get model.classes number ≡ Some class → IsLawfulClass model number class
  class_lawful types line number class at =
      let members = get_all (HasLawfulMembers model) model.classes number class types.members at in
      record {
        name = members.name;
        extends = members.extends;
        no_circle = λ parent is under. line.no_circle number parent (extends_under model number parent (class, at, is)) under;
        fields = members.fields;
        names = members.names;
        distinct = members.distinct;
      }

  pred_lawful : AreFree model.classes model.preds → AreLawfulPreds model → (number : ℕ) (pred : Pred) → slice_get model.preds number ≡ Some pred → IsLawfulPred model number pred
  pred_lawful free preds number pred at =
      let all = preds number pred at in
      let none = get_all (λ (p : Pred). HasFieldNamed model.classes p.class p.name → ⊥) model.preds number pred free at in
      record {
        name = all.of_class.name;
        class = all.of_class.class;
        is_class = all.of_class.is_class;
        no_field = λ has. none (all.of_class.class, all.of_class.is_class, has);
        params = all.params.params;
        few_params = all.params.few_params;
        names = all.params.names;
        distinct = all.params.distinct;
        quantity = all.params.quantity;
        rules = all.rules.0;
        are_rules = all.rules.1;
        few = all.rules.2.few;
        lawful = all.rules.2.lawful;
      }

  pub whole_lawful : IsSmallModel model → HasLawfulBasis model → HasLawfulTypes model → IsLawfulAbove model → IsLawful model
  whole_lawful small basis types above = record {
    horizon = basis.horizon;
    few_enums = small.few_enums;
    few_classes = small.few_classes;
    few_preds = small.few_preds;
    few_rules = small.few_rules;
    few_objects = small.few_objects;
    few_roots = small.few_roots;
    few_facts = basis.few_facts;
    few_globals = small.few_globals;
    few_items = small.few_items;
    enums = basis.enums;
    classes = class_lawful types above.line;
    objects = basis.objects;
    preds = pred_lawful types.named.free above.problem.preds;
    pred_names = types.named.preds;
    roots = above.problem.roots;
    globals = basis.globals;
    items = above.problem.items;
    decisions = basis.decisions;
    names = types.named.globals;
    not_builtin = types.named.own;
    distinct = types.named.apart;
  }

  module _ (lawful : IsLawful model) where
    pub lawful_small : IsSmallModel model
    lawful_small = record {
      few_enums = lawful.few_enums;
      few_classes = lawful.few_classes;
      few_preds = lawful.few_preds;
      few_rules = lawful.few_rules;
      few_objects = lawful.few_objects;
      few_roots = lawful.few_roots;
      few_globals = lawful.few_globals;
      few_items = lawful.few_items;
    }

    pub lawful_basis : HasLawfulBasis model
    lawful_basis = record {
      horizon = lawful.horizon;
      few_facts = lawful.few_facts;
      enums = lawful.enums;
      objects = lawful.objects;
      globals = lawful.globals;
      decisions = lawful.decisions;
    }

    lawful_free : AreFree model.classes model.preds
    lawful_free = all-get (λ (p : Pred). HasFieldNamed model.classes p.class p.name → ⊥) model.preds (λ number pred at named.
        let is = lawful.preds number pred at in
        is.no_field (subst (λ (k : Class). Contains (names_of k.fields) pred.name) (get_same model.classes pred.class named.0 is.class named.1 is.is_class) named.2))

    lawful_all : AreLawfulPreds model
    lawful_all number pred at =
        let is = lawful.preds number pred at in
        record {
          params = record { params = is.params; few_params = is.few_params; names = is.names; distinct = is.distinct; quantity = is.quantity };
          rules = (is.rules, is.are_rules, record { few = is.few; lawful = is.lawful });
          of_class = record { name = is.name; class = is.class; is_class = is.is_class };
        }

    pub lawful_types : HasLawfulTypes model
    lawful_types = record {
      named = record { globals = lawful.names; preds = lawful.pred_names; free = lawful_free; apart = lawful.distinct; own = lawful.not_builtin };
      members = all-get (HasLawfulMembers model) model.classes (λ number class at.
          let is = lawful.classes number class at in
          record { name = is.name; extends = is.extends; fields = is.fields; names = is.names; distinct = is.distinct });
    }

    pub lawful_above : IsLawfulAbove model
    lawful_above = record {
      line = record {
        there = λ number parent at. (
            let extends = under_extends model number parent at in
            let above = (lawful.classes number extends.0 extends.1).extends parent extends.2 in
            let below = get_below model.classes parent above.above above.is_above in
            let count = count_same model in
            omega (arith, below, count));
        no_circle = λ number parent at under. (
            let extends = under_extends model number parent at in
            (lawful.classes number extends.0 extends.1).no_circle parent extends.2 under);
      };
      problem = record { preds = lawful_all; roots = lawful.roots; items = lawful.items };
    }

  pub ground_is : (classes : Classes) → IsSmallModel model → HasLawfulBasis model → AreClasses model classes → IsGround model classes
  ground_is classes small basis are = record { enums = basis.enums; few_objects = small.few_objects; few_classes = small.few_classes; classes_are = are }
