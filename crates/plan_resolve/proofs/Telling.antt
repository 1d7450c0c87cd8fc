-- What a word says of a value is one.
use Rattle.std.proofs.Common.{◌≡◌, ℕ, zero, suc, ℤ, pos, List, [], ◌∷◌, length, slice_get, map, Some, sym, ◌∙◌, ap, subst, inl, inr, arith}
use Rattle.std.specs.Prelude.{◌≢◌, AllPairs}
use Rattle.std.specs.List.{flat_map}
use Rattle.std.proofs.lemmas.Fmt.{signed_decimal_injective}
use Rattle.model_core.specs.declared.class.Enum.{Enum}
use Rattle.model_core.specs.declared.class.Object.{Object}
use Rattle.model_core.specs.declared.model.Model.{Model}
use Rattle.model_core.specs.declared.variable.ValueKind.{ValueKind}
use Rattle.model_core.specs.declared.variable.ValueKind.TheVariants as kinds
use Rattle.model_core.specs.Lawful.{IsLawful}
use Rattle.model_core.proofs.Distinct.{pairs_front, pairs_back, place_once}
use Rattle.plan_text.specs.Values.{IsValueText}
use Rattle.plan_text.proofs.Decimals.{decimal_text_injective}
use Rattle.plan_resolve.proofs.Valuing.{value_small}

some_is : {X : Type 0} (one other : X) → Some one ≡ Some other → one ≡ other
some_is one other same = cc

flat_distinct : (enums : List Enum) (number : ℕ) (found : Enum) → AllPairs ◌≢◌ (flat_map (λ (e : Enum). e.members) enums) → slice_get enums number ≡ Some found → AllPairs ◌≢◌ found.members
flat_distinct [] number found pairs is = cc
flat_distinct (first ∷ enums) zero found pairs is =
    subst (λ (e : Enum). AllPairs ◌≢◌ e.members) (some_is first found is) (pairs_front ◌≢◌ first.members (flat_map (λ (e : Enum). e.members) enums) pairs)
flat_distinct (first ∷ enums) (suc number) found pairs is =
    flat_distinct enums number found (pairs_back ◌≢◌ first.members (flat_map (λ (e : Enum). e.members) enums) pairs) is

named_once : (names : List (List ℕ)) (i j : ℕ) (name : List ℕ) → AllPairs ◌≢◌ names → slice_get names i ≡ Some name → slice_get names j ≡ Some name → i ≡ j
named_once names i j name distinct first second =
    place_once names distinct i j name first second

objects_once : (model : Model) (i j : ℕ) (one other : Object) → IsLawful model → slice_get model.objects i ≡ Some one → slice_get model.objects j ≡ Some other → one.name ≡ other.name → i ≡ j
objects_once model i j one other lawful first second same =
    let names = map (λ (o : Object). o.name) model.objects in
    let distinct : AllPairs ◌≢◌ names = pairs_front ◌≢◌ names _ (pairs_back ◌≢◌ (map (λ root. root.label) model.problem.roots) _ (pairs_back ◌≢◌ (map (λ variable. variable.name) model.problem.globals) _ (pairs_front ◌≢◌ _ _ lawful.distinct))) in
    named_once names i j one.name distinct (named_at model.objects i one first) (subst (λ n. slice_get names j ≡ Some n) (sym same) (named_at model.objects j other second))
  where
    named_at : (objects : List Object) (k : ℕ) (o : Object) → slice_get objects k ≡ Some o → slice_get (map (λ (o : Object). o.name) objects) k ≡ Some o.name
    named_at [] k o is = cc
    named_at (first ∷ objects) zero o is = ap (λ (x : Object). Some x.name) (some_is first o is)
    named_at (first ∷ objects) (suc k) o is = named_at objects k o is

pub value_told : (model : Model) (kind : ValueKind) (word : List ℕ) (one other : ℤ) → IsLawful model → IsValueText model kind one word → IsValueText model kind other word → one ≡ other
value_told model kinds.Int word one other lawful a b = signed_decimal_injective one other (value_small one a.0) (value_small other b.0) (sym a.1 ∙ b.1)
value_told model kinds.Float word one other lawful a b = decimal_text_injective one other a.0 b.0 (sym a.1 ∙ b.1)
value_told model kinds.Bool word one other lawful (inl a) (inl b) = a.0 ∙ sym b.0
value_told model kinds.Bool word one other lawful (inl a) (inr b) = absurd (omega (arith, ap length (sym a.1 ∙ b.1)))
value_told model kinds.Bool word one other lawful (inr a) (inl b) = absurd (omega (arith, ap length (sym a.1 ∙ b.1)))
value_told model kinds.Bool word one other lawful (inr a) (inr b) = a.0 ∙ sym b.0
value_told model (kinds.Enum number) word one other lawful a b =
    let both : Some a.found ≡ Some b.found = sym a.is_enum ∙ b.is_enum in
    let same = some_is a.found b.found both in
    let distinct : AllPairs ◌≢◌ a.found.members =
    flat_distinct model.enums number a.found (pairs_back ◌≢◌ (map (λ (e : Enum). e.name) model.enums) _ (pairs_back ◌≢◌ (map (λ (o : Object). o.name) model.objects) _ (pairs_back ◌≢◌ (map (λ root. root.label) model.problem.roots) _
    (pairs_back ◌≢◌ (map (λ variable. variable.name) model.problem.globals) _ (pairs_front ◌≢◌ _ _ lawful.distinct))))) a.is_enum in
    let places = named_once a.found.members a.place b.place word distinct a.is_member (subst (λ (e : Enum). slice_get e.members b.place ≡ Some word) (sym same) b.is_member) in
    a.is_place ∙ (ap pos places ∙ sym b.is_place)
value_told model kinds.Object word one other lawful (object, ((place, at, is), named)) (object', ((place', at', is'), named')) =
    at ∙ (ap pos (objects_once model place place' object object' lawful is is' (named ∙ sym named')) ∙ sym at')
