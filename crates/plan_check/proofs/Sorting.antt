-- Of which kind the predicate of a token is, and what goes through all objects.
use Rattle.std.proofs.Common.{◌≡◌, ℕ, ◌+◌, ◌<◌, ◌≤◌, ℤ, pos, Bool, length, Option, Some, None, Ok, Err, Result, inl, inr, refl, sym, ap, ◌∙◌, subst, arith}
use Rattle.std.specs.Prelude.{slice_get, MatchBool, IfOk}
use Rattle.std.proofs.lemmas.Bool.{cases_lt}
use Rattle.eu_name.specs.declared.name.TokenName.{TokenName}
use Rattle.eu_name.proofs.Members.{get_same, get_below}
use Rattle.model_core.specs.declared.class.Object as classes
use Rattle.model_core.specs.declared.class.ObjectKind.TheVariants.{Reusable, Reservoir}
use Rattle.model_core.specs.declared.class.Pred.{Pred}
use Rattle.model_core.specs.declared.class.PredKind.{PredKind}
use Rattle.model_core.specs.declared.model.Model.{Model}
use Rattle.model_core.specs.declared.rule.Slot.{Slot}
use Rattle.model_core.proofs.Leading.{token_once}
use Rattle.model_core.specs.Tokens.{HasPred}
use Rattle.plan_defs.specs.declared.plan.Clause.TheVariants.{V9, V10}
use Rattle.plan_defs.specs.declared.plan.Place.{Place}
use Rattle.plan_defs.specs.declared.plan.Place.TheVariants as places
use Rattle.plan_defs.specs.declared.plan.Plan.{Plan}
use Rattle.plan_defs.specs.Broken.{AreLesserNames, IsLeastBroken}
use Rattle.plan_defs.specs.Resources.{IsInstant}
use Rattle.plan_defs.specs.Valid.{IsOfSort, IsWithinCapacity, IsLevelWithin, KeepsReusables, KeepsReservoirs}
use Rattle.plan_defs.proofs.Filling.{one_sort}
use Rattle.plan_values.proofs.Matching.{match_bool}
use Rattle.plan_check.specs.Acts.{IsFirstInstant, FindsInstant}

pub no_sort : (model : Model) (token : TokenName) (pred : ℕ) → HasPred model token pred → ((found : Pred) → slice_get model.preds pred ≡ Some found → ⊥)
    → (kind : PredKind) → IsOfSort model kind token → ⊥
no_sort model token pred of_pred none kind sort =
    let preds : sort.slot.pred ≡ pred = ap (λ (s : Slot). s.pred) (token_once model token sort.slot of_pred.0 sort.has_token of_pred.1) ∙ of_pred.2 in
    none sort.predicate (subst (λ (n : ℕ). slice_get model.preds n ≡ Some sort.predicate) preds sort.is_predicate)

pub sort_pred : (model : Model) (token : TokenName) (pred : ℕ) (found : Pred) → HasPred model token pred → slice_get model.preds pred ≡ Some found → IsOfSort model found.kind token
sort_pred model token pred found (slot, has, same) at = record {
  slot = slot;
  has_token = has;
  predicate = found;
  is_predicate = subst (λ (n : ℕ). slice_get model.preds n ≡ Some found) (sym same) at;
  is_kind = refl;
}

pub kind_answer : (model : Model) (token : TokenName) (found kind : PredKind) (answer : Bool) → IsOfSort model found token → MatchBool answer (found ≡ kind) (found ≡ kind → ⊥)
    → MatchBool answer (IsOfSort model kind token) (IsOfSort model kind token → ⊥)
kind_answer model token found kind answer sort is = match_bool answer _ _ _ _
    (λ same. subst (λ (k : PredKind). IsOfSort model k token) same sort)
    (λ other of_kind. other (one_sort model token found kind sort of_kind)) is

-- ---- instants

-- what is so at the same instants is found at the same
pub finds_same : (P Q : ℤ → Type 0) (found : Option ℤ) → ((instant : ℤ) → P instant → Q instant) → ((instant : ℤ) → Q instant → P instant) → FindsInstant P found → FindsInstant Q found
finds_same P Q None to back all = λ instant. to instant (all instant)
finds_same P Q (Some at) to back first = record { fails = λ q. first.fails (back at q); before = λ earlier less. to earlier (first.before earlier less) }

pub ok_same : {A E : Type 0} (result : Result A E) (P Q : A → Type 0) → ((a : A) → P a → Q a) → IfOk result P → IfOk result Q
ok_same (Ok a) P Q to is = to a is
ok_same (Err e) P Q to is = tt

pub at_all : (P : ℤ → Type 0) (found : Option ℤ) → ((at : ℤ) → found ≡ Some at → ⊥) → FindsInstant P found → (instant : ℤ) → P instant
at_all P None none all = all
at_all P (Some at) none first = absurd (none at refl)

-- ---- objects

module _ (model : Model) (plan : Plan) where
  -- the clause is kept at each instant for the objects of the numbers below this one
  abbrev Below : (Place → Type 0) → ℕ → Type 0
  Below Keeps count = (earlier : ℕ) (instant : ℤ) → earlier < count → Keeps (places.Instant earlier instant)

  pub more_objects : (Keeps : Place → Type 0) (count : ℕ) → Below Keeps count → ((instant : ℤ) → Keeps (places.Instant count instant)) → Below Keeps (count + 1)
  more_objects Keeps count before here earlier instant below = elim (cases_lt earlier count) [
    | inl less ↦ before earlier instant less
    | inr not_less ↦ (let same : count ≡ earlier = omega arith in subst (λ (n : ℕ). Keeps (places.Instant n instant)) same (here instant))
  ]

  module _ (number : ℕ) (at : ℤ) where
    reusables_below : Below (KeepsReusables model plan) number → IsFirstInstant (λ instant. KeepsReusables model plan (places.Instant number instant)) at → (other : Place)
        → AreLesserNames other (places.Instant number at) → KeepsReusables model plan other
    reusables_below before first (places.Instant earlier instant) (inl below) = before earlier instant below
    reusables_below before first (places.Instant earlier instant) (inr tied) =
        subst (λ (n : ℕ). KeepsReusables model plan (places.Instant n instant)) (sym tied.0) (first.before instant tied.1)
    reusables_below before first other less = tt

    reservoirs_below : Below (KeepsReservoirs model plan) number → IsFirstInstant (λ instant. KeepsReservoirs model plan (places.Instant number instant)) at → (other : Place)
        → AreLesserNames other (places.Instant number at) → KeepsReservoirs model plan other
    reservoirs_below before first (places.Instant earlier instant) (inl below) = before earlier instant below
    reservoirs_below before first (places.Instant earlier instant) (inr tied) =
        subst (λ (n : ℕ). KeepsReservoirs model plan (places.Instant n instant)) (sym tied.0) (first.before instant tied.1)
    reservoirs_below before first other less = tt

  pub reusable_least : (number : ℕ) (at at' : ℤ) (found : Option ℤ) → at' ≡ at → found ≡ Some at → Below (KeepsReusables model plan) number
      → FindsInstant (λ instant. KeepsReusables model plan (places.Instant number instant)) found → IsLeastBroken model plan V9 (places.Instant number at')
  reusable_least number at at' found cast is before finds =
      let first = subst (λ (f : Option ℤ). FindsInstant (λ instant. KeepsReusables model plan (places.Instant number instant)) f) is finds in
      subst (λ (v : ℤ). IsLeastBroken model plan V9 (places.Instant number v)) (sym cast) (record { broken = first.fails; least = reusables_below number at before first })

  pub reservoir_least : (number : ℕ) (at at' : ℤ) (found : Option ℤ) → at' ≡ at → found ≡ Some at → Below (KeepsReservoirs model plan) number
      → FindsInstant (λ instant. KeepsReservoirs model plan (places.Instant number instant)) found → IsLeastBroken model plan V10 (places.Instant number at')
  reservoir_least number at at' found cast is before finds =
      let first = subst (λ (f : Option ℤ). FindsInstant (λ instant. KeepsReservoirs model plan (places.Instant number instant)) f) is finds in
      subst (λ (v : ℤ). IsLeastBroken model plan V10 (places.Instant number v)) (sym cast) (record { broken = first.fails; least = reservoirs_below number at before first })

  pub reusables_kept : (count : ℕ) → length model.objects ≤ count → Below (KeepsReusables model plan) count → (place : Place) → KeepsReusables model plan place
  reusables_kept count all before (places.Instant number instant) = λ object capacity at.
      before number instant (omega (arith, all, get_below model.objects number object at)) object capacity at
  reusables_kept count all before other = tt

  pub reservoirs_kept : (count : ℕ) → length model.objects ≤ count → Below (KeepsReservoirs model plan) count → (place : Place) → KeepsReservoirs model plan place
  reservoirs_kept count all before (places.Instant number instant) = λ object initial low high at.
      before number instant (omega (arith, all, get_below model.objects number object at)) object initial low high at
  reservoirs_kept count all before other = tt

  level_along : (object instant initial low high initial' low' high' : ℤ) → initial ≡ initial' → low ≡ low' → high ≡ high' → IsLevelWithin model object instant plan initial low high
      → IsLevelWithin model object instant plan initial' low' high'
  level_along object instant initial low high initial' low' high' i l h within =
      subst (λ x. IsLevelWithin model object instant plan x low' high') i
      (subst (λ y. IsLevelWithin model object instant plan initial y high') l
      (subst (λ z. IsLevelWithin model object instant plan initial low z) h within))

  module _ (number : ℕ) (object : classes.Object) (there : slice_get model.objects number ≡ Some object) where
    pub reusable_finds : (capacity capacity' : ℤ) (found : Option ℤ) → capacity' ≡ capacity → object.kind ≡ Reusable capacity
        → FindsInstant (λ instant. IsInstant model instant → IsWithinCapacity model (pos number) instant plan capacity') found
        → FindsInstant (λ instant. KeepsReusables model plan (places.Instant number instant)) found
    reusable_finds capacity capacity' found cast kind finds = finds_same _ _ found
        (λ instant so other amount at is within.
        let objects = get_same model.objects number object other there at in
        let kinds : Reusable amount ≡ Reusable capacity = sym is ∙ (ap (λ (o : classes.Object). o.kind) (sym objects) ∙ kind) in
        let amounts : amount ≡ capacity = cc in
        subst (IsWithinCapacity model (pos number) instant plan) (cast ∙ sym amounts) (so within))
        (λ instant keeps within. subst (IsWithinCapacity model (pos number) instant plan) (sym cast) (keeps object capacity there kind within)) finds

    pub reservoir_finds : (initial low high initial' low' high' : ℤ) (found : Option ℤ) → initial' ≡ initial → low' ≡ low → high' ≡ high → object.kind ≡ Reservoir initial low high
        → FindsInstant (λ instant. IsInstant model instant → IsLevelWithin model (pos number) instant plan initial' low' high') found
        → FindsInstant (λ instant. KeepsReservoirs model plan (places.Instant number instant)) found
    reservoir_finds initial low high initial' low' high' found cast_i cast_l cast_h kind finds = finds_same _ _ found
        (λ instant so other first least most at is within.
        let objects = get_same model.objects number object other there at in
        let kinds : Reservoir first least most ≡ Reservoir initial low high = sym is ∙ (ap (λ (o : classes.Object). o.kind) (sym objects) ∙ kind) in
        let firsts : first ≡ initial = cc in
        let leasts : least ≡ low = cc in
        let mosts : most ≡ high = cc in
        level_along (pos number) instant initial' low' high' first least most (cast_i ∙ sym firsts) (cast_l ∙ sym leasts) (cast_h ∙ sym mosts) (so within))
        (λ instant keeps within. level_along (pos number) instant initial low high initial' low' high' (sym cast_i) (sym cast_l) (sym cast_h) (keeps object initial low high there kind within)) finds
