-- Classes by which a field is accessed.
use Rattle.std.proofs.Common.{◌≡◌, ℕ, refl, sym, subst, ◌↔◌, IsTrue, Bool}
use Rattle.model_core.specs.declared.item.Term.{Term}
use Rattle.model_core.specs.declared.model.Model.{Model}
use Rattle.model_core.specs.declared.variable.ValueKind.TheVariants as kinds
use Rattle.model_core.specs.Kinds.{AccessesField, IsOfKind, Scope, IsParentClass}
use Rattle.model_typing.specs.declared.line.Line.{Line}
use Rattle.model_typing.specs.declared.line.Line.TheVariants.{From}
use Rattle.model_typing.specs.Terms.{FieldFits, FitsOnLine, IsTermLine}
use Rattle.model_typing.proofs.Under.{self_under, under_more, under_less, under_none}

module _ (model : Model) (scope : Scope) (field : ℕ) (value : Term) where
  pub above_here : (class : ℕ) → FieldFits model scope class field value → FitsOnLine model scope (From class) field value
  above_here class is = (class, self_under model class class refl, is)

  pub above_more : (class parent : ℕ) → IsParentClass model class parent → FitsOnLine model scope (From parent) field value → FitsOnLine model scope (From class) field value
  above_more class parent extends (top, under, is) = (top, under_more model class parent top extends under, is)

  apart_from : (class top : ℕ) → (FieldFits model scope class field value → ⊥) → FieldFits model scope top field value → class ≡ top → ⊥
  apart_from class top none is same = none (subst (λ (c : ℕ). FieldFits model scope c field value) (sym same) is)

  pub above_less : (class parent : ℕ) → IsParentClass model class parent → (FieldFits model scope class field value → ⊥)
      → FitsOnLine model scope (From class) field value → FitsOnLine model scope (From parent) field value
  above_less class parent extends none (top, under, is) = (top, under_less model class parent top extends (apart_from class top none is) under, is)

  pub above_none : (class : ℕ) → ((parent : ℕ) → IsParentClass model class parent → ⊥) → (FieldFits model scope class field value → ⊥)
      → FitsOnLine model scope (From class) field value → ⊥
  above_none class top_class none (top, under, is) = under_none model class top top_class (apart_from class top none is) under

  -- an object has the field where a class of its line does
  pub accesses_told : (object : Term) (line : Line) (answer : Bool) → IsTermLine model scope object line → IsTrue answer ↔ FitsOnLine model scope line field value
      → IsOfKind model scope kinds.Object object → IsTrue answer ↔ AccessesField model scope field object value
  accesses_told object line answer lined told kind = (
    λ yes. let fits = told.0 yes in record {
      class = fits.0;
      found = fits.2.has_field.0;
      is_class = fits.2.has_field.1;
      variable = fits.2.variable;
      declared = fits.2.has_field.2;
      of_kind = kind;
      of_class = (lined kind fits.0).1 fits.1;
      value_kind = fits.2.value_kind;
    },
    λ accesses. told.1 (
      accesses.class,
      (lined kind accesses.class).0 accesses.of_class,
      record { variable = accesses.variable; has_field = (accesses.found, accesses.is_class, accesses.declared); value_kind = accesses.value_kind },
    ),
  )
