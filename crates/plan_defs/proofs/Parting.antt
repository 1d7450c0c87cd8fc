-- Which parts a token has.
use Rattle.std.proofs.Common.{◌≡◌, ℕ, ◌+◌, ◌<◌, length, zero, suc, Some, refl, sym, ap, ◌∙◌, subst, arith}
use Rattle.std.specs.Prelude.{slice_get}
use Rattle.std.proofs.lemmas.Option.{slice_get_within}
use Rattle.eu_name.specs.declared.name.Part.{Part}
use Rattle.eu_name.specs.declared.name.Part.TheVariants.{Start, End, Duration, Object, Param}
use Rattle.eu_name.proofs.Members.{get_within}
use Rattle.model_core.specs.declared.class.Pred.{Pred}
use Rattle.model_core.specs.declared.model.Model.{Model}
use Rattle.model_core.specs.declared.rule.Slot.{Slot}
use Rattle.model_core.specs.declared.variable.Base.{Base}
use Rattle.model_core.specs.declared.variable.Base.TheVariants.{Given}
use Rattle.model_core.specs.Variables.{HasPartBase}
use Rattle.plan_defs.specs.Plans.{place_in_values}

-- the part at each place
pub part_there : (k : ℕ) → (part : Part) × (place_in_values part ≡ k)
part_there zero = (Start, refl)
part_there (suc zero) = (End, refl)
part_there (suc (suc zero)) = (Duration, refl)
part_there (suc (suc (suc zero))) = (Object, refl)
part_there (suc (suc (suc (suc k)))) = (Param k, omega arith)

-- a place has one part
pub same_part : (one other : Part) → place_in_values one ≡ place_in_values other → one ≡ other
same_part Start Start e = refl
same_part End End e = refl
same_part Duration Duration e = refl
same_part Object Object e = refl
same_part (Param m) (Param n) e = ap Param (omega (arith, e))
same_part one other e = absurd (omega (arith, e))

-- the first parts of a token of the predicate are parts that it has
pub has_part : (model : Model) (slot : Slot) (found : Pred) (part : Part) → slice_get model.preds slot.pred ≡ Some found → place_in_values part < 4 + length found.params
    → (base : Base) × HasPartBase model slot part base
has_part model slot found Start is below = (Given _, refl)
has_part model slot found End is below = (Given _, refl)
has_part model slot found Duration is below = (Given _, refl)
has_part model slot found Object is below = (slot.object, refl)
has_part model slot found (Param number) is below =
    let at = get_within found.params number (omega (arith, below)) in
    (at.0.base, (at.0, record { predicate = found; is_predicate = is; declared = at.1 }, refl))

-- and the parts that it has are among them
pub part_below : (model : Model) (slot : Slot) (found : Pred) (part : Part) (base : Base) → slice_get model.preds slot.pred ≡ Some found → HasPartBase model slot part base
    → place_in_values part < 4 + length found.params
part_below model slot found Start base is has = omega arith
part_below model slot found End base is has = omega arith
part_below model slot found Duration base is has = omega arith
part_below model slot found Object base is has = omega arith
part_below model slot found (Param number) base is (variable, has, same) =
    let preds : has.predicate ≡ found = some_same has.predicate found (sym has.is_predicate ∙ is) in
    omega (arith, slice_get_within found.params number variable (subst (λ (p : Pred). slice_get p.params number ≡ Some variable) preds has.declared))
  where
    some_same : (x y : Pred) → Some x ≡ Some y → x ≡ y
    some_same x y e = cc
