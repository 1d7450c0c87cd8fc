-- Lawful items can be posted.
use Rattle.std.proofs.Common.{ℕ, ℤ, ◌<◌, ◌≤◌, List, [], ◌∷◌, length, inl, inr, arith}
use Rattle.std.specs.Prelude.{All}
use Rattle.std.proofs.lemmas.Int.{ints}
use Rattle.std.proofs.lemmas.List.Elements.{All-cons, All-head, All-nil, All-tail}
use Rattle.domain_core.specs.Domain.{IsValue}
use Rattle.model_core.specs.declared.class.Class.{Class}
use Rattle.model_core.specs.declared.item.Item.TheVariants.{Constraint, Relation}
use Rattle.domain_core.specs.declared.kind.Kind.{Kind}
use Rattle.domain_core.specs.declared.kind.Kind.TheVariants.{Eq, Neq, Lt, Leq, AddEq, MulEq, TestEq, TestLeq, AllDiff, Field}
use Rattle.model_core.specs.declared.item.Term.{Term}
use Rattle.model_core.specs.declared.item.Term.TheVariants as terms
use Rattle.model_core.specs.declared.model.Model.{Model}
use Rattle.model_core.specs.declared.variable.ValueKind.{ValueKind}
use Rattle.model_core.specs.declared.variable.ValueKind.TheVariants as kinds
use Rattle.model_core.specs.Kinds.{Scope, OfProblem, OfRule, IsValueOf, IsOfKind, AreOfKind, AreArguments}
use Rattle.model_core.specs.Lawful.{IsLawful, IsLawfulEnum}
use Rattle.narrow_core.specs.declared.field.Field as tables
use Rattle.plan_defs.specs.Terms.{Context, InProblem, InRule}
use Rattle.eu_name.proofs.Members.{get_all, get_below}
use Rattle.model_core.proofs.Few.{few_rule}
use Rattle.db_posting.specs.Postable.{AreTermsAllowed, HasFactorTerm}
use Rattle.db_posting.specs.PostingLaws.{IsInScope, LawfulTermsCanStand, LawfulItemsCanBePosted}
use Rattle.db_posting.specs.Tables.{HaveTables}
use Rattle.db_posting.specs.Terms.{CanStand}

-- the term is of some kind
abbrev pub HasKind : Model → Scope → Term → Type 0
HasKind model scope term = (kind : ValueKind) × IsOfKind model scope kind term

module _ (model : Model) (scope : Scope) where
  each_kind : (kind : ValueKind) (terms : List Term) → AreOfKind model scope kind terms → All (HasKind model scope) terms
  each_kind kind terms all = λ k d below. (kind, all k d below)

  mul_kinds : (terms : List Term) → AreArguments model scope MulEq terms → All (HasKind model scope) terms
  mul_kinds (x ∷ terms.Lit factor ∷ z ∷ []) are =
      let outer = each_kind are.0.0 (x ∷ z ∷ []) are.0.2 in
      All-cons (HasKind model scope) x (terms.Lit factor ∷ z ∷ []) (All-head (HasKind model scope) x (z ∷ []) outer)
      (All-cons (HasKind model scope) (terms.Lit factor) (z ∷ []) (kinds.Int, are.1) (All-tail (HasKind model scope) x (z ∷ []) outer))
  mul_kinds terms are = absurd are

  field_kinds : (number : ℕ) (terms : List Term) → AreArguments model scope (Field number) terms → All (HasKind model scope) terms
  field_kinds number (object ∷ value ∷ []) are =
      All-cons (HasKind model scope) object (value ∷ []) (kinds.Object, are.of_kind)
      (All-cons (HasKind model scope) value [] (are.variable.kind, are.value_kind) (All-nil (HasKind model scope)))
  field_kinds number terms are = absurd are

  -- all arguments of a constraint are of some kind
  pub arguments_kinds : (kind : Kind) (terms : List Term) → AreArguments model scope kind terms → All (HasKind model scope) terms
  arguments_kinds Eq terms are = each_kind are.0 terms are.1
  arguments_kinds Neq terms are = each_kind are.0 terms are.1
  arguments_kinds Lt terms are = each_kind are.0 terms are.2
  arguments_kinds Leq terms are = each_kind are.0 terms are.2
  arguments_kinds AddEq terms are = each_kind are.0 terms are.2
  arguments_kinds MulEq terms are = mul_kinds terms are
  arguments_kinds TestEq [] are = absurd are
  arguments_kinds TestEq (truth ∷ compared) are = All-cons (HasKind model scope) truth compared (kinds.Bool, are.0) (each_kind are.1.0 compared are.1.1)
  arguments_kinds TestLeq [] are = absurd are
  arguments_kinds TestLeq (truth ∷ compared) are = All-cons (HasKind model scope) truth compared (kinds.Bool, are.0) (each_kind are.1.0 compared are.1.2)
  arguments_kinds AllDiff terms are = absurd are
  arguments_kinds (Field number) terms are = field_kinds number terms are

module _ (model : Model) (lawful : IsLawful model) where
  -- whatever kind it is of, it is a value
  pub value_of_kind : (kind : ValueKind) (value : ℤ) → IsValueOf model kind value → IsValue value
  value_of_kind kinds.Int value is = is
  value_of_kind kinds.Float value is = is
  value_of_kind kinds.Bool value (inl is) = (omega (arith, ints, is), omega (arith, ints, is))
  value_of_kind kinds.Bool value (inr is) = (omega (arith, ints, is), omega (arith, ints, is))
  value_of_kind (kinds.Enum number) value is =
      let few = (get_all IsLawfulEnum model.enums number is.found lawful.enums is.is_enum).few in
      let below = get_below is.found.members is.place is.member is.is_member in
      let place = is.is_place in
      (omega (arith, ints, place, few, below), omega (arith, ints, place, few, below))
  value_of_kind kinds.Object value is =
      let below = get_below model.objects is.1.0 is.0 is.1.2 in
      (omega (arith, ints, is.1.1, lawful.few_objects, below), omega (arith, ints, is.1.1, lawful.few_objects, below))

  -- what is of some kind may stand there
  pub stands : (context : Context) (scope : Scope) → IsInScope model context scope → (kind : ValueKind) (term : Term) → IsOfKind model scope kind term → CanStand context term
  stands context scope within kind (terms.Lit value) is = value_of_kind kind value is
  stands context scope within kind (terms.Global number) is = tt
  stands context scope within kind (terms.Root number part) is = tt
  stands (InRule token number) (OfRule pred rule) within kind (terms.Here part) is = tt
  stands (InRule token number) (OfRule pred rule) within kind (terms.Slot slot part) is =
      omega (arith, get_below rule.slots slot is.0 is.1, (few_rule model pred number rule lawful within).slots)
  stands (InRule token number) (OfRule pred rule) within kind (terms.Local local) is =
      omega (arith, get_below rule.locals local is.0 is.1, (few_rule model pred number rule lawful within).locals)
  stands InProblem OfProblem within kind (terms.Here part) is = absurd is
  stands InProblem OfProblem within kind (terms.Slot slot part) is = absurd is
  stands InProblem OfProblem within kind (terms.Local local) is = absurd is
  stands InProblem (OfRule pred rule) within kind term is = absurd within
  stands (InRule token number) OfProblem within kind term is = absurd within

  module _ (tables : List tables.Field) (have : HaveTables model tables) where
    factor_term : (scope : Scope) (terms : List Term) → AreArguments model scope MulEq terms → HasFactorTerm terms
    factor_term scope (x ∷ terms.Lit factor ∷ z ∷ []) are = are.2
    factor_term scope terms are = absurd are

    field_table : (scope : Scope) (number : ℕ) (terms : List Term) → AreArguments model scope (Field number) terms → number < length tables
    field_table scope number (object ∷ value ∷ []) are =
        let few = get_all (λ (class : Class). length class.fields ≤ length tables) model.classes are.class are.found have are.is_class in
        omega (arith, few, get_below are.found.fields number are.variable are.declared)
    field_table scope number terms are = absurd are

    terms_allowed : (scope : Scope) (kind : Kind) (terms : List Term) → AreArguments model scope kind terms → AreTermsAllowed tables kind terms
    terms_allowed scope MulEq terms are = factor_term scope terms are
    terms_allowed scope (Field number) terms are = field_table scope number terms are
    terms_allowed scope AllDiff terms are = absurd are
    terms_allowed scope kind terms are = tt

pub lawful_terms_can_stand : LawfulTermsCanStand
lawful_terms_can_stand model context scope kind term lawful within is = stands model lawful context scope within kind term is

pub lawful_items_can_be_posted : LawfulItemsCanBePosted
lawful_items_can_be_posted model tables context scope (Constraint kind terms) lawful have within is =
    record {
      stand = λ k d below.
          let of_kind = arguments_kinds model scope kind terms is.1 k d below in
          stands model lawful context scope within of_kind.0 _ of_kind.1;
      count = is.0;
      allowed = terms_allowed model lawful tables have scope kind terms is.1;
    }
lawful_items_can_be_posted model tables (InRule token number) (OfRule pred rule) (Relation rel slot) lawful have within is =
    omega (arith, get_below rule.slots slot is.0 is.1, (few_rule model pred number rule lawful within).slots)
lawful_items_can_be_posted model tables InProblem OfProblem (Relation rel slot) lawful have within is = absurd is
lawful_items_can_be_posted model tables InProblem (OfRule pred rule) (Relation rel slot) lawful have within is = absurd within
lawful_items_can_be_posted model tables (InRule token number) OfProblem (Relation rel slot) lawful have within is = absurd within
