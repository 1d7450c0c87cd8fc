-- The classes and predicates of a model.
use Rattle.std.specs.Prelude.{ℕ, ◌+◌, List, [], ◌∷◌, map}
use Rattle.model_core.specs.declared.class.Class.{Class}
use Rattle.model_core.specs.declared.class.Pred.{Pred}
use Rattle.model_core.specs.declared.variable.VarDecl.{VarDecl}
use Rattle.nddl_terms.specs.PlainTree.{PlainTree}
use Rattle.nddl_terms.specs.declared.lexicon.Attribute.{Attribute}
use Rattle.nddl_terms.specs.declared.lexicon.Lexicon.{Lexicon}
use Rattle.nddl_terms.specs.Lexicon.{pred_params, shape_fields}
use Rattle.nddl_instance.specs.Numbers.{rules_of_pred}

-- a field or a parameter as a variable
abbrev pub attribute_variable : Attribute → VarDecl
attribute_variable attribute =
    record { name = attribute.name; kind = attribute.shape.kind; base = attribute.shape.base }

abbrev pub attribute_variables : List Attribute → List VarDecl
attribute_variables attributes = map attribute_variable attributes

-- ---- classes

-- the class of this number in the table, whose fields may be what is known once objects are made
abbrev pub modelled_class : Lexicon → ℕ → Class → Class
modelled_class lexicon number class = record {
  name = class.name;
  parent = class.parent;
  fields = attribute_variables (shape_fields lexicon number);
}

-- all classes of a table, of which the first here has this number
abbrev pub modelled_classes : Lexicon → ℕ → List Class → List Class
modelled_classes lexicon number [] = []
modelled_classes lexicon number (class ∷ more) =
    modelled_class lexicon number class ∷ modelled_classes lexicon (number + 1) more

-- ---- predicates

-- the predicate of this number in the table, whose parameters may be what is known once objects are made, with these rules
abbrev pub modelled_pred : Lexicon → ℕ → List ℕ → Pred → Pred
modelled_pred lexicon number rules pred = record {
  class = pred.class;
  name = pred.name;
  params = attribute_variables (pred_params lexicon number);
  kind = pred.kind;
  rules = rules;
}

-- All predicates of a table, of which the first here has this number. Each has the rules of those texts that are for it, by
-- their numbers, since a model has the rules of all texts in their order.
abbrev pub modelled_preds : Lexicon → List PlainTree → ℕ → List Pred → List Pred
modelled_preds lexicon trees number [] = []
modelled_preds lexicon trees number (pred ∷ more) =
    modelled_pred lexicon number (rules_of_pred number 0 trees) pred ∷ modelled_preds lexicon trees (number + 1) more
