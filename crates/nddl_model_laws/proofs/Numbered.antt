-- Sets of numbers of objects are lawful bases.
use Rattle.std.proofs.Common.{◌≡◌, ℕ, zero, suc, ◌+◌, ◌<◌, ◌≤◌, Bool, true, false, List, [], ◌∷◌, ◌++◌, length, get_or, map, ℤ, pos, negsuc, refl, sym, subst, arith}
use Rattle.std.specs.Prelude.{Option, Some, None, All, slice_get, if◌then◌else◌}
use Rattle.std.specs.List.{filter_map, cons_option}
use Rattle.std.proofs.lemmas.Option.{same_Some, none-some}
use Rattle.std.proofs.lemmas.List.{length-map}
use Rattle.std.proofs.lemmas.List.Elements.{All-nil, All-cons, All-append, All-weaker, All-map, All-contains}
use Rattle.domain_core.specs.Domain.{IsValue}
use Rattle.model_core.specs.declared.model.Model.{Model}
use Rattle.model_core.specs.declared.variable.ValueKind.TheVariants as value_kinds
use Rattle.model_core.specs.Kinds.{IsBaseOf, IsValueOf}
use Rattle.model_core.specs.Lawful.{IsLawfulBase}
use Rattle.nddl_symbols.specs.declared.scope.Meaning.{Meaning}
use Rattle.nddl_hierarchy.specs.Facts.{Facts}
use Rattle.nddl_declarations.specs.Domains.{numbers_base}
use Rattle.nddl_declarations.proofs.Placing.{ascending_has}
use Rattle.nddl_constructors.specs.Creations.{is_of_class}
use Rattle.nddl_construction.specs.declared.made.Datum.TheVariants as datums
use Rattle.nddl_construction.specs.declared.made.MadeObject.{MadeObject}
use Rattle.nddl_construction.specs.declared.made.NamedObject.{NamedObject}
use Rattle.nddl_construction.specs.declared.made.NamedObject.TheVariants as stands
use Rattle.nddl_env.specs.Objects.{entry_object, made_object, objects_of}
use Rattle.nddl_laws.proofs.Bases.{set_right, small}
use Rattle.nddl_laws.proofs.Lists.{all_kept}

-- ---- objects

pub stands_there : {X : Type 0} (xs : List X) (n : ℕ) → n < length xs → (x : X) × (slice_get xs n ≡ Some x)
stands_there [] n less = absurd (omega arith)
stands_there (x ∷ xs) zero less = (x, refl)
stands_there (x ∷ xs) (suc n) less = stands_there xs n (omega arith)

-- the value is the number of one of so many objects
abbrev pub IsNumberBelow : ℕ → ℤ → Type 0
IsNumberBelow count value = (number : ℕ) × (value ≡ pos number) × (number < count)

module _ (model : Model) (count : ℕ) (long : length model.objects ≡ count) (few : count ≤ 4096) where
  number_value : (value : ℤ) → IsNumberBelow count value → IsValue value
  number_value value is =
      let less : is.0 < count = is.2 in
      subst IsValue (sym is.1) (small is.0 (omega (arith, few)))

  number_object : (value : ℤ) → IsNumberBelow count value → IsValueOf model value_kinds.Object value
  number_object value is =
      let less : is.0 < count = is.2 in
      let found = stands_there model.objects is.0 (omega (arith, long)) in
      (found.0, (is.0, is.1, found.1))

  -- what may be these objects is a lawful base
  pub numbers_right : (values : List ℤ) → All (IsNumberBelow count) values → length values ≤ 4096
      → IsLawfulBase (numbers_base values) × IsBaseOf model value_kinds.Object (numbers_base values)
  numbers_right [] all most = (tt, refl)
  numbers_right (value ∷ more) all most = (
    set_right (value ∷ more) (All-weaker (IsNumberBelow count) IsValue number_value (value ∷ more) all) (omega arith) most,
    record {
      values = λ one has. number_object one (All-contains (IsNumberBelow count) (value ∷ more) one all ((ascending_has (value ∷ more) one).0 has));
      range = λ is. absurd is;
    },
  )

-- ---- the objects of a class

module _ (facts : Facts) (class : Meaning) where
  own_below : (count number : ℕ) (some : List MadeObject) → number + length some ≤ count → All (λ (n : ℕ). n < count) (objects_of facts class number some)
  own_below count number [] fits = All-nil (λ (n : ℕ). n < count)
  own_below count number (object ∷ more) fits =
      All-append (λ (n : ℕ). n < count) (if is_of_class facts class object.class then number ∷ [] else []) (objects_of facts class (number + 1) more)
      (by (is_of_class facts class object.class)) (own_below count (number + 1) more (omega arith))
    where
      by : (b : Bool) → All (λ (n : ℕ). n < count) (if b then number ∷ [] else [])
      by true = All-cons (λ (n : ℕ). n < count) number [] (omega arith) (All-nil (λ (n : ℕ). n < count))
      by false = All-nil (λ (n : ℕ). n < count)

  own_few : (number : ℕ) (some : List MadeObject) → length (objects_of facts class number some) ≤ length some
  own_few number [] = omega arith
  own_few number (object ∷ more) = by (is_of_class facts class object.class) (own_few (number + 1) more)
    where
      by : (b : Bool) → length (objects_of facts class (number + 1) more) ≤ length more
          → length ((if b then number ∷ [] else []) ++ objects_of facts class (number + 1) more) ≤ length (object ∷ more)
      by true rest = omega arith
      by false rest = omega arith

  -- as values
  pub class_below : (objects : List MadeObject) → All (IsNumberBelow (length objects)) (map pos (objects_of facts class 0 objects))
  class_below objects =
      All-map (IsNumberBelow (length objects)) pos (objects_of facts class 0 objects)
      (All-weaker (λ (n : ℕ). n < length objects) (λ (n : ℕ). IsNumberBelow (length objects) (pos n)) (λ n less. (n, refl, less)) (objects_of facts class 0 objects)
      (own_below (length objects) 0 objects (omega arith)))

  pub class_few : (objects : List MadeObject) → length (map pos (objects_of facts class 0 objects)) ≤ length objects
  class_few objects =
      let long = length-map (objects_of facts class 0 objects) pos in
      let most = own_few 0 objects in
      omega arith

-- ---- the objects of a written set

pub kept_few : {X Y : Type 0} (f : X → Option Y) (xs : List X) → length (filter_map f xs) ≤ length xs
kept_few f [] = omega arith
kept_few {X} {Y} f (x ∷ xs) = by (f x) (kept_few f xs)
  where
    by : (o : Option Y) → length (filter_map f xs) ≤ length xs → length (cons_option o (filter_map f xs)) ≤ length (x ∷ xs)
    by None rest = omega arith
    by (Some y) rest = omega arith

module _ (named_objects : List NamedObject) (count : ℕ)
    (there : (entry number : ℕ) → slice_get named_objects entry ≡ Some (stands.Made (Some (datums.Object number))) → number < count) where
  written_below : (member value : ℤ) → entry_object named_objects member ≡ Some value → IsNumberBelow count value
  written_below (negsuc number) value is = absurd (none-some value is)
  written_below (pos entry) value is = by (slice_get named_objects entry) refl is
    where
      by : (o : Option NamedObject) → slice_get named_objects entry ≡ o → made_object o ≡ Some value → IsNumberBelow count value
      by None at is = absurd (none-some value is)
      by (Some stands.Unmade) at is = absurd (none-some value is)
      by (Some (stands.Made None)) at is = absurd (none-some value is)
      by (Some (stands.Made (Some (datums.Number number)))) at is = absurd (none-some value is)
      by (Some (stands.Made (Some (datums.Decimal thousandths)))) at is = absurd (none-some value is)
      by (Some (stands.Made (Some (datums.Truth truth)))) at is = absurd (none-some value is)
      by (Some (stands.Made (Some (datums.Member member)))) at is = absurd (none-some value is)
      by (Some (stands.Made (Some (datums.Object number)))) at is = (number, sym (same_Some (pos number) value is), there entry number at)

  pub set_below : (members : List ℤ) → All (IsNumberBelow count) (filter_map (entry_object named_objects) members)
  set_below members =
      all_kept (IsNumberBelow count) (entry_object named_objects) members (λ k d within value is. written_below (get_or members k d) value is)
