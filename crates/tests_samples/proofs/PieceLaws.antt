-- The parts of small models are lawful in every model that has them.
use Rattle.std.proofs.Common.{◌≡◌, ℕ, ℤ, pos, ◌<◌, ◌≤◌, List, [], ◌∷◌, length, Some, Ok, slice_get, zero, suc, refl, sym, ◌∙◌, ap, subst, arith}
use Rattle.std.specs.Prelude.{Contains, All, true}
use Rattle.std.proofs.lemmas.Int.{ints}
use Rattle.std.proofs.lemmas.List.Elements.{All-from_recursion}
use Rattle.domain_core.specs.Domain.{Domain, Range, Set, IsDomain, IsValue, AreAscending}
use Rattle.domain_core.specs.Lists.{MakesSet}
use Rattle.eu_name.specs.Word.{IsName}
use Rattle.model_core.specs.declared.class.Object.{Object}
use Rattle.model_core.specs.declared.class.ObjectKind.{ObjectKind}
use Rattle.model_core.specs.declared.class.Pred.{Pred}
use Rattle.model_core.specs.declared.model.Model.{Model}
use Rattle.model_core.specs.declared.model.RootKind.{RootKind}
use Rattle.model_core.specs.declared.variable.Base.TheVariants.{Given}
use Rattle.model_core.specs.declared.variable.VarDecl.{VarDecl}
use Rattle.model_core.specs.Kinds.{AreObjectsOf}
use Rattle.model_core.specs.Lawful.{IsLawfulVariable, IsLawfulClass, IsLawfulKind, IsLawfulObject, IsLawfulSlot, IsLawfulRoot}
use Rattle.model_core.specs.Variables.{IsGiven}
use Rattle.model_core.proofs.Words.{plain_name, is_plain, differing}
use Rattle.tests_samples.specs.Pieces.{alone_on, span_variable, bare_class, bare_object, root_on}

-- ---- domains of one value

pub contains_one : (x y : ℤ) → Contains (x ∷ []) y → y ≡ x
contains_one x y (zero, within, is) = sym is
contains_one x y (suc k, within, is) = absurd (omega (arith, within))

-- a list with no number but the one has that alone, once
only_member : (x : ℤ) (members : List ℤ) → AreAscending members → 0 < length members → ((value : ℤ) → Contains members value → value ≡ x) → members ≡ x ∷ []
only_member x [] ascending some among = absurd (omega (arith, some))
only_member x (y ∷ []) ascending some among = let first : y ≡ x = among y (0, omega arith, refl) in λ i. first i ∷ []
only_member x (y ∷ (z ∷ more)) ascending some among =
    let first : y ≡ x = among y (0, omega arith, refl) in
    let second : z ≡ x = among z (1, omega arith, refl) in
    absurd (omega (arith, ints, ascending 0 1 y (omega arith) (omega arith), first, second))

-- a domain made of the one number is the set of it
pub alone_is : (number : ℤ) (domain : Domain) → MakesSet (number ∷ []) (Ok domain) → domain ≡ Set (number ∷ [])
alone_is number domain (members, is, are) =
    is ∙ ap Set (only_member number members are.are.ascending are.are.some (λ value has. contains_one number value ((are.same value).0 has)))

pub alone_domain : (number : ℕ) → number ≤ 1000000 → IsDomain (alone_on number)
alone_domain number small = record {
  ascending = λ i j d below within. absurd (omega (arith, below, within));
  values = All-from_recursion IsValue (pos number ∷ []) ((omega (arith, ints), omega (arith, ints, small)), tt);
  some = omega arith;
  few = omega arith;
}

pub on_object : (model : Model) (number : ℕ) (object : Object) → slice_get model.objects number ≡ Some object → AreObjectsOf model object.class (Given (alone_on number))
on_object model number object is value has = (object, (number, contains_one (pos number) value has, is), ([], refl))

-- ---- variables, classes and objects

pub lawful_span : (model : Model) (name : List ℕ) (greatest : ℕ) → greatest ≤ 1000000 → IsLawfulVariable model (span_variable name greatest)
lawful_span model name greatest small = record {
  kind = tt;
  base = ((omega (arith, ints), omega (arith, ints)), (omega (arith, ints), omega (arith, ints, small)), omega (arith, ints));
  inside = record { values = λ value has. (omega (arith, ints, has), omega (arith, ints, small, has)); range = λ is_range. tt };
}

pub class_is : (model : Model) (number : ℕ) (name : List ℕ) → is_plain name ≡ true → IsLawfulClass model number (bare_class name)
class_is model number name plain = record {
  name = plain_name name plain;
  extends = λ parent is. cc;
  no_circle = λ parent is under. absurd (cc);
  fields = All-from_recursion (IsLawfulVariable model) [] tt;
  names = All-from_recursion IsName [] tt;
  distinct = differing [] refl;
}

pub lawful_object : (model : Model) (name class_name : List ℕ) (class : ℕ) (kind : ObjectKind) → is_plain name ≡ true
    → slice_get model.classes class ≡ Some (bare_class class_name) → IsLawfulKind kind → IsLawfulObject model (bare_object name class kind)
lawful_object model name class_name class kind plain is lawful = record {
  name = (name ∷ [], omega arith, All-from_recursion IsName (name ∷ []) (plain_name name plain, tt), refl);
  class = bare_class class_name;
  is_class = is;
  fields = tt;
  kind = lawful;
}

-- ---- slots and roots

pub lawful_slot : (model : Model) (pred number : ℕ) (found : Pred) (object : Object) → number ≤ 1000000 → slice_get model.preds pred ≡ Some found
    → slice_get model.objects number ≡ Some object → object.class ≡ found.class → IsLawfulSlot model (record { pred = pred; object = Given (alone_on number) })
lawful_slot model pred number found object small is_pred is same = record {
  pred = found;
  is_pred = is_pred;
  base = alone_domain number small;
  inside = record { values = λ value has. (object, (number, contains_one (pos number) value has, is)); range = λ is_range. absurd is_range };
  objects = subst (λ (class : ℕ). AreObjectsOf model class (Given (alone_on number))) same (on_object model number object is);
}

pub lawful_root : (model : Model) (label : List ℕ) (kind : RootKind) (pred number : ℕ) (found : Pred) (object : Object) → is_plain label ≡ true → number ≤ 1000000
    → slice_get model.preds pred ≡ Some found → slice_get model.objects number ≡ Some object → object.class ≡ found.class
    → All (λ (variable : VarDecl). IsGiven variable.base) found.params → IsLawfulRoot model (root_on label kind pred number)
lawful_root model label kind pred number found object plain small is_pred is same given = record {
  label = plain_name label plain;
  pred = found;
  is_pred = is_pred;
  given = given;
  object = alone_domain number small;
  inside = record { values = λ value has. (object, (number, contains_one (pos number) value has, is)); range = λ is_range. absurd is_range };
  objects = subst (λ (class : ℕ). AreObjectsOf model class (Given (alone_on number))) same (on_object model number object is);
}

pub one_given : (name : List ℕ) (greatest : ℕ) → All (λ (variable : VarDecl). IsGiven variable.base) (span_variable name greatest ∷ [])
one_given name greatest = All-from_recursion (λ (variable : VarDecl). IsGiven variable.base) (span_variable name greatest ∷ []) ((Range (pos 0) (pos greatest), refl), tt)
