-- What variables are declared with where two tokens have changed places.
use Rattle.std.proofs.Common.{◌≡◌, ℕ, ◌⊎◌, inr, refl, sym, ◌∙◌, subst}
use Rattle.eu_name.specs.declared.name.Part.{Part}
use Rattle.eu_name.specs.declared.name.Part.TheVariants.{Start, End, Duration, Object, Param}
use Rattle.eu_name.specs.declared.name.TokenName.{TokenName}
use Rattle.eu_name.specs.declared.name.VarName.TheVariants as names
use Rattle.model_core.specs.declared.model.Model.{Model}
use Rattle.model_core.specs.declared.rule.Slot.{Slot}
use Rattle.model_core.specs.declared.variable.Base.{Base}
use Rattle.model_core.specs.Tokens.{HasToken, HasRule}
use Rattle.model_core.specs.Variables.{HasPartBase, HasParameter}
use Rattle.plan_defs.specs.declared.plan.Plan.{Plan}
use Rattle.plan_defs.specs.Claims.{HasPart}
use Rattle.plan_defs.specs.Refusals.{HaveSamePredicate}
use Rattle.plan_defs.specs.Valid.{HasDeclaredValue, HasDeclaredParts}
use Rattle.law_search.specs.Swapping.{swapped_token}
use Rattle.law_search.proofs.Renaming.{swapped_twice}
use Rattle.law_search.proofs.Trees.{KeepsSlot, token_moved}
use Rattle.law_search.proofs.Having.{HaveSwapped, flipped, one_becomes, other_becomes, values_moved, values_kept}

-- slots of one predicate have the same parts
part_of_predicate : (model : Model) (slot later : Slot) (part : Part) (base : Base) → later.pred ≡ slot.pred → HasPartBase model slot part base
    → (own : Base) × HasPartBase model later part own
part_of_predicate model slot later Start base same is = (base, is)
part_of_predicate model slot later End base same is = (base, is)
part_of_predicate model slot later Duration base same is = (base, is)
part_of_predicate model slot later Object base same is = (later.object, refl)
part_of_predicate model slot later (Param number) base same is =
    (base, (is.0, subst (λ p. HasParameter model p number is.0) (sym same) is.1, is.2))

module _ (model : Model) (old new : Plan) (one other : TokenName) (has : HaveSwapped model old new one other) where
  pub slot_moved : (token : TokenName) (slot : Slot) → HasToken model token slot
      → (later : Slot) × (HasToken model (swapped_token one other token) later × (later.pred ≡ slot.pred))
  slot_moved token slot of = token_moved model one other has.apart has.same (one_becomes one other has.apart) (other_becomes one other has.apart) token slot of

  pub part_of_moved : (token : TokenName) (part : Part) → HasPart model token part → HasPart model (swapped_token one other token) part
  part_of_moved token part p =
      let later = slot_moved token p.0 p.1 in
      (later.0, later.1.0, part_of_predicate model p.0 later.0 part p.2.0 later.1.1 p.2.1)

module _ (model : Model) (old new : Plan) (one other : TokenName) (has : HaveSwapped model old new one other) where
  part_back : (token : TokenName) (part : Part) → HasPart model (swapped_token one other token) part → HasPart model token part
  part_back token part p =
      subst (λ (t : TokenName). HasPart model t part) (swapped_twice one other has.apart token)
      (part_of_moved model new old other one (flipped model old new one other has) (swapped_token one other token) part p)

  -- what keeps its slot keeps what its parts are declared with
  pub parts_moved : (token : TokenName) → KeepsSlot model one other token → HasDeclaredParts model old token → HasDeclaredParts model new (swapped_token one other token)
  parts_moved token keeps parts part p =
      let found = parts part (part_back token part p) in
      let base = found.2 in (
        found.0,
        values_moved model old new one other has (names.Token token part) found.0 found.1,
        (base.0, (base.1.0, keeps base.1.0 base.1.1, base.1.2), base.2),
      )

  -- the two keep their values, whatever name these had
  pub parts_kept : (token : TokenName) → (token ≡ one) ⊎ (token ≡ other) → HasDeclaredParts model old token → HasDeclaredParts model new token
  parts_kept token which parts part p =
      let found = parts part p in
      (found.0, values_kept model old new one other has token (inr which) part found.0 found.1, found.2)

  pub local_moved : (token : TokenName) (rule number : ℕ) → HasDeclaredValue model old (names.Local token rule number)
      → HasDeclaredValue model new (names.Local (swapped_token one other token) rule number)
  local_moved token rule number found =
      let base = found.2 in
      let own = base.1 in
      let later = slot_moved model old new one other has token own.slot own.has_token in (
        found.0,
        values_moved model old new one other has (names.Local token rule number) found.0 found.1,
        (
          base.0,
          record {
            slot = later.0;
            has_token = later.1.0;
            variable = own.variable;
            has_local = record {
              found = own.has_local.found;
              has_rule = subst (λ p. HasRule model p rule own.has_local.found) (sym later.1.1) own.has_local.has_rule;
              declared = own.has_local.declared;
            };
            is_base = own.is_base;
          },
          base.2,
        ),
      )

  pub predicates_moved : (a b : TokenName) → HaveSamePredicate model a b → HaveSamePredicate model (swapped_token one other a) (swapped_token one other b)
  predicates_moved a b p =
      let first = slot_moved model old new one other has a p.slot p.has_one in
      let second = slot_moved model old new one other has b p.other_slot p.has_other in
      record { slot = first.0; other_slot = second.0; has_one = first.1.0; has_other = second.1.0; same = first.1.1 ∙ p.same ∙ sym second.1.1 }
