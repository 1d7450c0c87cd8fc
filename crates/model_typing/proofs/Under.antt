-- Classes under others, and objects.
use Rattle.std.proofs.Common.{◌≡◌, ℕ, ℤ, pos, [], ◌∷◌, Option, Some, None, sym, ap, ◌∙◌, subst}
use Rattle.std.specs.Prelude.{slice_get, MatchOption}
use Rattle.eu_name.proofs.Members.{get_same}
use Rattle.model_core.specs.declared.class.Class.{Class}
use Rattle.model_core.specs.declared.class.Enum.{Enum}
use Rattle.model_core.specs.declared.class.Object.{Object}
use Rattle.model_core.specs.declared.class.Pred.{Pred}
use Rattle.model_core.specs.declared.model.Model.{Model}
use Rattle.model_core.specs.declared.variable.VarDecl.{VarDecl}
use Rattle.model_core.specs.Kinds.{IsParentClass, Climbs, IsUnder, IsObject, IsMemberOf}
use Rattle.model_core.specs.Variables.{HasParameter}
use Rattle.model_typing.specs.Members.{HasMember}
use Rattle.model_typing.proofs.Telling.{some_same}

module _ (model : Model) where
  pub one_parent : (class one other : ℕ) → IsParentClass model class one → IsParentClass model class other → one ≡ other
  one_parent class one other (found, at, is) (found', at', is') =
      some_same one other (sym is ∙ (ap (λ (c : Class). c.parent) (get_same model.classes class found found' at at') ∙ is'))

  pub parent_told : (class : ℕ) (found : Class) (answer : Option ℕ) → slice_get model.classes class ≡ Some found → answer ≡ found.parent
      → MatchOption answer ((parent : ℕ) → IsParentClass model class parent → ⊥) (IsParentClass model class)
  parent_told class found (Some parent) at same = (found, at, sym same)
  parent_told class found None at same = λ parent is.
      let there : found.parent ≡ Some parent = ap (λ (c : Class). c.parent) (get_same model.classes class found is.0 at is.1) ∙ is.2 in
      cc

  pub self_under : (class ancestor : ℕ) → class ≡ ancestor → IsUnder model class ancestor
  self_under class ancestor same = ([], sym same)

  pub under_more : (class parent ancestor : ℕ) → IsParentClass model class parent → IsUnder model parent ancestor → IsUnder model class ancestor
  under_more class parent ancestor is (path, climbs) = (parent ∷ path, (is, climbs))

  pub under_less : (class parent ancestor : ℕ) → IsParentClass model class parent → (class ≡ ancestor → ⊥) → IsUnder model class ancestor → IsUnder model parent ancestor
  under_less class parent ancestor is apart ([], same) = absurd (apart (sym same))
  under_less class parent ancestor is apart (next ∷ path, (step, climbs)) =
      (path, subst (λ (n : ℕ). Climbs model n path ancestor) (one_parent class next parent step is) climbs)

  pub under_none : (class ancestor : ℕ) → ((parent : ℕ) → IsParentClass model class parent → ⊥) → (class ≡ ancestor → ⊥) → IsUnder model class ancestor → ⊥
  under_none class ancestor none apart ([], same) = apart (sym same)
  under_none class ancestor none apart (next ∷ path, (step, climbs)) = none next step

  pub object_once : (value : ℤ) (one other : Object) → IsObject model value one → IsObject model value other → one ≡ other
  object_once value one other (number, is, at) (number', is', at') =
      let values : pos number' ≡ pos number = sym is' ∙ is in
      let same : number' ≡ number = cc in
      get_same model.objects number one other at (subst (λ (n : ℕ). slice_get model.objects n ≡ Some other) same at')

  pub param_once : (pred number : ℕ) (one other : VarDecl) → HasParameter model pred number one → HasParameter model pred number other → one ≡ other
  param_once pred number one other is are =
      let same = get_same model.preds pred is.predicate are.predicate is.is_predicate are.is_predicate in
      get_same are.predicate.params number one other (subst (λ (p : Pred). slice_get p.params number ≡ Some one) same is.declared) are.declared

  pub member_of : (number : ℕ) (value : ℤ) (found : Enum) → slice_get model.enums number ≡ Some found → HasMember found value → IsMemberOf model number value
  member_of number value found at (member, (place, is, there)) =
      record { found = found; is_enum = at; place = place; is_place = is; member = member; is_member = there }

  pub of_member : (number : ℕ) (value : ℤ) (found : Enum) → slice_get model.enums number ≡ Some found → IsMemberOf model number value → HasMember found value
  of_member number value found at is =
      subst (λ (e : Enum). HasMember e value) (get_same model.enums number is.found found is.is_enum at) (is.member, (is.place, is.is_place, is.is_member))
