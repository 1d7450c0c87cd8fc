-- Terms that are compared.
use Rattle.std.proofs.Common.{◌≡◌, ℕ, ◌≤◌, ℤ, pos, Bool, true, false, get_or, List, Some, None, ◌↔◌, IsTrue, All, Contains, inl, inr, sym, subst, arith}
use Rattle.std.proofs.lemmas.Int.{ints}
use Rattle.std.proofs.lemmas.List.Elements.{All-contains}
use Rattle.eu_name.proofs.Members.{get_below, get_all}
use Rattle.domain_core.specs.Domain.{IsValue}
use Rattle.model_core.specs.declared.item.Term.{Term}
use Rattle.model_core.specs.declared.item.Term.TheVariants as terms
use Rattle.model_core.specs.declared.model.Model.{Model}
use Rattle.model_core.specs.declared.variable.ValueKind.{ValueKind}
use Rattle.model_core.specs.declared.variable.ValueKind.TheVariants as kinds
use Rattle.model_core.specs.Kinds.{Scope, IsOfKind, IsNumeric, IsValueOf, AreOfKind, AreComparable, AreNumbers}
use Rattle.model_core.specs.Lawful.{IsLawfulEnum}
use Rattle.model_typing.specs.declared.table.Classes.{Classes}
use Rattle.model_typing.specs.Ground.{IsGround}
use Rattle.model_typing.specs.Terms.{IsJust, IsNamed}
use Rattle.model_typing.proofs.Telling.{told_as, told_not, some_same}

module _ (model : Model) (scope : Scope) (list : List Term) where
  -- where one of the terms has one kind, they are compared as of this kind
  pub compared_as : (term : Term) → Contains list term → (kind : ValueKind) (answer : Bool) → IsJust (Some kind) (λ k. IsOfKind model scope k term)
      → IsTrue answer ↔ AreOfKind model scope kind list → IsTrue answer ↔ AreComparable model scope list
  compared_as term there kind answer just told =
      told_as answer (AreOfKind model scope kind list) (AreComparable model scope list) (λ all. (kind, all))
      (λ any. subst (λ (k : ValueKind). AreOfKind model scope k list) (sym (some_same kind any.0 ((just any.0).0 (All-contains (IsOfKind model scope any.0) list term any.1 there)))) any.1) told

  pub compared_none : (term : Term) → Contains list term → IsJust None (λ k. IsOfKind model scope k term) → IsTrue false ↔ AreComparable model scope list
  compared_none term there just =
      told_not (AreComparable model scope list) (λ any. let same = (just any.0).0 (All-contains (IsOfKind model scope any.0) list term any.1 there) in cc)

  small_value : (n : ℕ) → n ≤ 1000000 → IsValue (pos n)
  small_value n small = (omega (arith, ints), omega (arith, ints, small))

  -- a value that is of any kind is a whole number
  value_int : (classes : Classes) → IsGround model classes → (kind : ValueKind) (value : ℤ) → IsValueOf model kind value → IsValue value
  value_int classes ground kinds.Int value is = is
  value_int classes ground kinds.Float value is = is
  value_int classes ground kinds.Bool value (inl is) = subst IsValue (sym is) (small_value 0 (omega arith))
  value_int classes ground kinds.Bool value (inr is) = subst IsValue (sym is) (small_value 1 (omega arith))
  value_int classes ground (kinds.Enum number) value is =
      let few = (get_all IsLawfulEnum model.enums number is.found ground.enums is.is_enum).few in
      let below = get_below is.found.members is.place is.member is.is_member in
      subst IsValue (sym is.is_place) (small_value is.place (omega (arith, few, below)))
  value_int classes ground kinds.Object value (object, (number, at, is)) =
      let below = get_below model.objects number object is in
      let few = ground.few_objects in
      subst IsValue (sym at) (small_value number (omega (arith, few, below)))

  term_int : (classes : Classes) → IsGround model classes → (term : Term) → (IsNamed term → ⊥) → (kind : ValueKind) → IsOfKind model scope kind term → IsOfKind model scope kinds.Int term
  term_int classes ground (terms.Lit value) plain kind is = value_int classes ground kind value is
  term_int classes ground (terms.Here part) plain kind is = absurd (plain tt)
  term_int classes ground (terms.Slot number part) plain kind is = absurd (plain tt)
  term_int classes ground (terms.Local number) plain kind is = absurd (plain tt)
  term_int classes ground (terms.Global number) plain kind is = absurd (plain tt)
  term_int classes ground (terms.Root number part) plain kind is = absurd (plain tt)

  pub compared_values : (classes : Classes) → IsGround model classes → All (λ term. IsNamed term → ⊥) list → (answer : Bool)
      → IsTrue answer ↔ AreOfKind model scope kinds.Int list → IsTrue answer ↔ AreComparable model scope list
  compared_values classes ground plain answer told =
      told_as answer (AreOfKind model scope kinds.Int list) (AreComparable model scope list) (λ all. (kinds.Int, all))
      (λ any k d below. term_int classes ground (get_or list k d) (plain k d below) any.0 (any.1 k d below)) told

  -- ---- the same of numbers

  one_kind : (term : Term) → Contains list term → (kind : ValueKind) → IsJust (Some kind) (λ k. IsOfKind model scope k term) → (any : AreNumbers model scope list) → any.0 ≡ kind
  one_kind term there kind just any =
      sym (some_same kind any.0 ((just any.0).0 (All-contains (IsOfKind model scope any.0) list term any.2 there)))

  pub numbers_as : (term : Term) → Contains list term → (kind : ValueKind) (answer : Bool) → IsJust (Some kind) (λ k. IsOfKind model scope k term)
      → IsNumeric kind → IsTrue answer ↔ AreOfKind model scope kind list → IsTrue answer ↔ AreNumbers model scope list
  numbers_as term there kind answer just numeric told =
      told_as answer (AreOfKind model scope kind list) (AreNumbers model scope list) (λ all. (kind, numeric, all))
      (λ any. subst (λ (k : ValueKind). AreOfKind model scope k list) (one_kind term there kind just any) any.2) told

  pub numbers_not : (term : Term) → Contains list term → (kind : ValueKind) (answer : Bool) → IsJust (Some kind) (λ k. IsOfKind model scope k term)
      → answer ≡ false → IsTrue answer ↔ IsNumeric kind → IsTrue answer ↔ AreNumbers model scope list
  numbers_not term there kind answer just not told = (
    λ yes. absurd (let yes : answer ≡ true = yes in cc),
    λ any. told.1 (subst IsNumeric (one_kind term there kind just any) any.1),
  )

  pub numbers_none : (term : Term) → Contains list term → IsJust None (λ k. IsOfKind model scope k term) → IsTrue false ↔ AreNumbers model scope list
  numbers_none term there just =
      told_not (AreNumbers model scope list) (λ any. let same = (just any.0).0 (All-contains (IsOfKind model scope any.0) list term any.2 there) in cc)

  -- a value that is a number of any kind is a whole number
  literal_int : (term : Term) → (IsNamed term → ⊥) → (kind : ValueKind) → IsNumeric kind → IsOfKind model scope kind term → IsOfKind model scope kinds.Int term
  literal_int (terms.Lit value) plain kinds.Int numeric is = is
  literal_int (terms.Lit value) plain kinds.Float numeric is = is
  literal_int (terms.Lit value) plain kinds.Bool numeric is = absurd numeric
  literal_int (terms.Lit value) plain (kinds.Enum number) numeric is = absurd numeric
  literal_int (terms.Lit value) plain kinds.Object numeric is = absurd numeric
  literal_int (terms.Here part) plain kind numeric is = absurd (plain tt)
  literal_int (terms.Slot number part) plain kind numeric is = absurd (plain tt)
  literal_int (terms.Local number) plain kind numeric is = absurd (plain tt)
  literal_int (terms.Global number) plain kind numeric is = absurd (plain tt)
  literal_int (terms.Root number part) plain kind numeric is = absurd (plain tt)

  pub numbers_written : All (λ term. IsNamed term → ⊥) list → (answer : Bool)
      → IsTrue answer ↔ AreOfKind model scope kinds.Int list → IsTrue answer ↔ AreNumbers model scope list
  numbers_written plain answer told =
      told_as answer (AreOfKind model scope kinds.Int list) (AreNumbers model scope list) (λ all. (kinds.Int, tt, all))
      (λ any k d below. literal_int (get_or list k d) (plain k d below) any.0 any.1 (any.2 k d below)) told
