-- The names of members and objects.
use Rattle.std.proofs.Common.{◌≡◌, ℕ, ℤ, pos, List, Some, get_or, w32, to_z, of_z, sym, ◌∙◌, ap}
use Rattle.model_core.specs.declared.class.Enum.{Enum}
use Rattle.model_core.specs.declared.class.Object.{Object}
use Rattle.model_core.specs.declared.model.Model.{Model}
use Rattle.model_core.specs.Kinds.{IsMemberOf, IsObject}
use Rattle.model_core.proofs.Items.{item_is}
use Rattle.plan_text.specs.Values.{IsMemberNamed}
use Rattle.plan_text.proofs.Putting.{found_item}

place_is : (value : ℤ) (place found : ℕ) → value ≡ pos place → to_z w32 (of_z w32 value) ≡ pos found → to_z w32 (of_z w32 value) ≡ value → place ≡ found
place_is value place found is at kept = let both : pos place ≡ pos found = sym is ∙ (sym kept ∙ at) in cc

pub member_is : (model : Model) (number : ℕ) (value : ℤ) (found : ℕ) (enums : List Enum) (enum : Enum) (members : List (List ℕ)) (text word : List ℕ) → (of : IsMemberOf model number value)
    → to_z w32 (of_z w32 value) ≡ pos found → to_z w32 (of_z w32 value) ≡ value → enums ≡ model.enums → enum ≡ get_or enums number enum → members ≡ enum.members → text ≡ get_or members found text → word ≡ text
    → IsMemberNamed model number value word
member_is model number value found enums enum members text word of at kept same is members_is is_text word_is =
    let places : of.place ≡ found = place_is value of.place found of.is_place at kept in
    let enum_is : of.found ≡ enum = found_item model.enums enums number enum of.found same is of.is_enum in
    let listed : of.found.members ≡ members = ap (λ (e : Enum). e.members) enum_is ∙ sym members_is in
    let named : of.member ≡ word =
    sym (item_is of.found.members of.place text of.member of.is_member) ∙ (ap (λ (l : List (List ℕ)). get_or l of.place text) listed ∙ (ap (λ (n : ℕ). get_or members n text) places ∙ (sym is_text ∙ sym word_is))) in
    record { found = of.found; is_enum = of.is_enum; place = of.place; is_place = of.is_place; is_member = of.is_member ∙ ap Some named }

pub object_is : (model : Model) (value : ℤ) (found : ℕ) (objects : List Object) (d : Object) (word : List ℕ) → (object : Object) × IsObject model value object
    → to_z w32 (of_z w32 value) ≡ pos found → to_z w32 (of_z w32 value) ≡ value → objects ≡ model.objects → word ≡ (get_or objects found d).name
    → (object : Object) × (IsObject model value object × (object.name ≡ word))
object_is model value found objects d word (object, (place, is_place, is_object)) at kept same word_is =
    let places : place ≡ found = place_is value place found is_place at kept in (
      object,
      (
        (place, is_place, is_object),
        sym (word_is ∙ (ap (λ (l : List Object). (get_or l found d).name) same ∙ (ap (λ (n : ℕ). (get_or model.objects n d).name) (sym places) ∙ ap (λ (o : Object). o.name) (item_is model.objects place d object is_object)))),
      ),
    )
