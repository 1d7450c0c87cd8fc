-- Of which kind the values are that a state gives.
use Rattle.std.proofs.Common.{◌≡◌, ℕ, ◌+◌, ◌<◌, List, [], ◌∷◌, length, zero, suc, Some, ℤ, pos, ◌≤ℤ◌, ◌-ℤ◌, refl, sym, ap, ◌∙◌, subst, arith}
use Rattle.std.specs.Prelude.{slice_get, map}
use Rattle.std.specs.List.{AllZip}
use Rattle.std.proofs.lemmas.Int.{ints}
use Rattle.std.proofs.lemmas.List.{length-map}
use Rattle.domain_core.specs.Domain.{Domain, Range, Has, IsValue, IsWithin}
use Rattle.eu_name.specs.declared.name.Part.{Part}
use Rattle.eu_name.specs.declared.name.Part.TheVariants.{Start, End, Duration, Object, Param}
use Rattle.eu_name.specs.declared.name.Step.{Step}
use Rattle.eu_name.specs.declared.name.TokenName.{TokenName}
use Rattle.eu_name.specs.declared.name.VarName.TheVariants as variables
use Rattle.eu_name.proofs.Members.{get_all, get_below, get_same}
use Rattle.model_core.specs.declared.class.Pred.{Pred}
use Rattle.model_core.specs.declared.model.Model.{Model}
use Rattle.model_core.specs.declared.model.Root.{Root}
use Rattle.model_core.specs.declared.rule.Slot.{Slot}
use Rattle.model_core.specs.declared.variable.Base.{Base}
use Rattle.model_core.specs.declared.variable.Base.TheVariants.{Given, Void}
use Rattle.model_core.specs.declared.variable.ValueKind.{ValueKind}
use Rattle.model_core.specs.declared.variable.ValueKind.TheVariants as kinds
use Rattle.model_core.specs.declared.variable.VarDecl.{VarDecl}
use Rattle.model_core.specs.Kinds.{IsValueOf, IsBaseOf}
use Rattle.model_core.specs.Lawful.{IsLawful, IsLawfulRoot, IsLawfulSlot, IsLawfulVariable}
use Rattle.model_core.specs.State.{State}
use Rattle.model_core.specs.Tokens.{HasToken, Reaches, LeadsToSlot, slot_of}
use Rattle.model_core.specs.Variables.{HasPartBase, IsInBase, IsGlobal}
use Rattle.model_core.proofs.Leading.{token_once}
use Rattle.plan_defs.specs.Closure.{AreInBase}
use Rattle.plan_defs.specs.Plans.{value_kinds, AreTokenValues, IsLocalValue, place_in_values}
use Rattle.plan_defs.specs.StatePlans.{GivesOnly, ArePartValues}
use Rattle.plan_defs.proofs.Parting.{part_there, has_part, part_below}
use Rattle.model_core.proofs.Few.{few_rule}

-- ---- what lawful models declare

-- the slot is lawful as far as its predicate and its objects go
record IsFine (model : Model) (slot : Slot) : Type 0 where
  pred : Pred
  is_pred : slice_get model.preds slot.pred ≡ Some pred
  inside : IsBaseOf model kinds.Object slot.object

module _ (model : Model) (lawful : IsLawful model) where
  root_fine : (number : ℕ) (root : Root) → slice_get model.problem.roots number ≡ Some root → IsFine model (slot_of root)
  root_fine number root is =
      let fine : IsLawfulRoot model root = get_all (IsLawfulRoot model) model.problem.roots number root lawful.roots is in
      record { pred = fine.pred; is_pred = fine.is_pred; inside = fine.inside }

  slot_fine : (pred : ℕ) (step : Step) (slot : Slot) → LeadsToSlot model pred step slot → IsFine model slot
  slot_fine pred step slot leads =
      let rule = (few_rule model pred step.rule leads.rule lawful leads.has_rule).lawful in
      let fine : IsLawfulSlot model slot = get_all (IsLawfulSlot model) leads.rule.slots step.slot slot rule.slots leads.is_slot in
      record { pred = fine.pred; is_pred = fine.is_pred; inside = fine.inside }

  reached_fine : (slot : Slot) (steps : List Step) (reached : Slot) → IsFine model slot → Reaches model slot steps reached → IsFine model reached
  reached_fine slot [] reached fine same = subst (λ (s : Slot). IsFine model s) (sym same) fine
  reached_fine slot (step ∷ steps) reached fine (next, leads, rest) = reached_fine next steps reached (slot_fine slot.pred step next leads) rest

  token_fine : (token : TokenName) (slot : Slot) → HasToken model token slot → IsFine model slot
  token_fine token slot has = reached_fine (slot_of has.root) token.steps slot (root_fine token.root has.root has.is_root) has.reached

pub pred_of_slot : (model : Model) (token : TokenName) (slot : Slot) → IsLawful model → HasToken model token slot → (pred : Pred) × (slice_get model.preds slot.pred ≡ Some pred)
pred_of_slot model token slot lawful has = let fine = token_fine model lawful token slot has in (fine.pred, fine.is_pred)

-- a value in a base of a kind is of the kind
in_kind : (model : Model) (kind : ValueKind) (base : Base) (domain : Domain) (value : ℤ) → IsBaseOf model kind base → IsInBase domain base → Has domain value → IsValueOf model kind value
in_kind model kind (Given outer) domain value of inside has = of.values value (inside.values value has)
in_kind model kind Void domain value of inside has = absurd inside

in_range : (lo hi value : ℤ) (domain : Domain) (base : Base) → base ≡ Given (Range lo hi) → IsInBase domain base → Has domain value → (lo ≤ℤ value) × (value ≤ℤ hi)
in_range lo hi value domain base same inside has =
    let within : IsWithin domain (Range lo hi) = subst (λ b. IsInBase domain b) same inside in
    within.values value has

map_get : (params : List VarDecl) (k : ℕ) (variable : VarDecl) → slice_get params k ≡ Some variable → slice_get (map (λ (v : VarDecl). v.kind) params) k ≡ Some variable.kind
map_get [] k variable e = absurd (cc)
map_get (x ∷ xs) zero variable e = let same : x ≡ variable = cc in ap (λ (v : VarDecl). Some v.kind) same
map_get (x ∷ xs) (suc k) variable e = map_get xs k variable e

param_kind : (params : List VarDecl) (k : ℕ) (variable : VarDecl) → slice_get params k ≡ Some variable
    → slice_get (kinds.Int ∷ kinds.Int ∷ kinds.Int ∷ kinds.Object ∷ map (λ (v : VarDecl). v.kind) params) (4 + k) ≡ Some variable.kind
param_kind params k variable e =
    let n : 4 + k ≡ suc (suc (suc (suc k))) = omega arith in
    subst (λ (m : ℕ). slice_get (kinds.Int ∷ kinds.Int ∷ kinds.Int ∷ kinds.Object ∷ map (λ (v : VarDecl). v.kind) params) m ≡ Some variable.kind) (sym n)
    (map_get params k variable e)

zip_by : {K V : Type 0} (R : K → V → Type 0) (ks : List K) (vs : List V)
    → ((i : ℕ) (k : K) → slice_get ks i ≡ Some k → (v : V) × (slice_get vs i ≡ Some v) × R k v)
    → ((i : ℕ) (v : V) → slice_get vs i ≡ Some v → i < length ks) → AllZip R ks vs
zip_by R [] [] forth back = tt
zip_by R [] (v ∷ vs) forth back = absurd (omega (arith, back 0 v refl))
zip_by {K} {V} R (k ∷ ks) [] forth back =
    let first = forth 0 k refl in
    let e : slice_get {X = V} [] 0 ≡ Some first.0 = first.1 in
    absurd (cc)
zip_by R (k ∷ ks) (v ∷ vs) forth back =
    let first = forth 0 k refl in
    let same : first.0 ≡ v = same_item first.0 v (sym first.1) in
    (subst (λ x. R k x) same first.2, zip_by R ks vs (λ i. forth (suc i)) (λ i x e. omega (arith, back (suc i) x e)))
  where
    same_item : {X : Type 0} (x y : X) → Some x ≡ Some y → x ≡ y
    same_item x y e = cc

kinds_long : (pred : Pred) → length (value_kinds pred) ≡ 4 + length pred.params
kinds_long pred = omega (arith, length-map pred.params (λ (v : VarDecl). v.kind))

module _ (model : Model) (lawful : IsLawful model) (state : State) (in_base : AreInBase model state) where
  horizon_value : (value : ℤ) → (model.problem.start ≤ℤ value) × (value ≤ℤ model.problem.end) → IsValue value
  horizon_value value is =
      (omega (arith, ints, is.0, lawful.horizon.start), omega (arith, ints, is.1, lawful.horizon.end.1))

  -- the value of a part of a token of the predicate
  part_kind : (token : TokenName) (slot : Slot) (pred : Pred) (part : Part) (value : ℤ) → HasToken model token slot → slice_get model.preds slot.pred ≡ Some pred
      → GivesOnly state (variables.Token token part) value → (kind : ValueKind) × (slice_get (value_kinds pred) (place_in_values part) ≡ Some kind) × IsValueOf model kind value
  part_kind token slot pred part value has is value_is =
      let inside = in_base (variables.Token token part) value_is.0 value_is.1 in
      let slots = token_once model token inside.1.0 slot inside.1.1 has in
      of_part part inside.0 (subst (λ (s : Slot). HasPartBase model s part inside.0) slots inside.1.2) inside.2
    where
      of_part : (which : Part) (base : Base) → HasPartBase model slot which base → IsInBase value_is.0 base
          → (kind : ValueKind) × (slice_get (value_kinds pred) (place_in_values which) ≡ Some kind) × IsValueOf model kind value
      of_part Start base same inside = (kinds.Int, refl, horizon_value value (in_range _ _ value value_is.0 base same inside value_is.2.has))
      of_part End base same inside = (kinds.Int, refl, horizon_value value (in_range _ _ value value_is.0 base same inside value_is.2.has))
      of_part Duration base same inside =
          let ends = in_range (pos 1) (model.problem.end -ℤ model.problem.start) value value_is.0 base same inside value_is.2.has in
          (kinds.Int, refl, (omega (arith, ints, ends.0), omega (arith, ints, ends.1, lawful.horizon.start, lawful.horizon.end.1)))
      of_part Object base same inside =
          let fine = token_fine model lawful token slot has in
          (kinds.Object, refl, in_kind model kinds.Object slot.object value_is.0 value fine.inside (subst (λ b. IsInBase value_is.0 b) same inside) value_is.2.has)
      of_part (Param number) base (variable, param, same) inside =
          let fine = (lawful.preds slot.pred param.predicate param.is_predicate).params in
          let variable_fine : IsLawfulVariable model variable = get_all (IsLawfulVariable model) param.predicate.params number variable fine param.declared in
          let preds : param.predicate ≡ pred = get_same model.preds slot.pred param.predicate pred param.is_predicate is in
          let declared : slice_get pred.params number ≡ Some variable = subst (λ (p : Pred). slice_get p.params number ≡ Some variable) preds param.declared in (
            variable.kind,
            param_kind pred.params number variable declared,
            in_kind model variable.kind variable.base value_is.0 value variable_fine.inside (subst (λ b. IsInBase value_is.0 b) same inside) value_is.2.has,
          )

  -- the values of all parts of a token are those of its predicate
  pub token_values : (token : TokenName) (slot : Slot) (pred : Pred) (values : List ℤ) → HasToken model token slot → slice_get model.preds slot.pred ≡ Some pred
      → ArePartValues state token values → ((part : Part) (base : Base) → HasPartBase model slot part base → (value : ℤ) × GivesOnly state (variables.Token token part) value)
      → AreTokenValues model slot.pred values
  token_values token slot pred values has is are each =
      (pred, is, zip_by (IsValueOf model) (value_kinds pred) values forth back)
    where
      forth : (i : ℕ) (kind : ValueKind) → slice_get (value_kinds pred) i ≡ Some kind → (value : ℤ) × (slice_get values i ≡ Some value) × IsValueOf model kind value
      forth i kind at =
          let part = part_there i in
          let below = get_below (value_kinds pred) i kind at in
          let base = has_part model slot pred part.0 is (omega (arith, below, part.1, kinds_long pred)) in
          let value = each part.0 base.0 base.1 in
          let found = part_kind token slot pred part.0 value.0 has is value.1 in
          let same : found.0 ≡ kind = get_same (value_kinds pred) i found.0 kind (subst (λ n. slice_get (value_kinds pred) n ≡ Some found.0) part.1 found.1) at in
          (value.0, subst (λ n. slice_get values n ≡ Some value.0) part.1 ((are part.0 value.0).1 value.1), subst (λ k. IsValueOf model k value.0) same found.2)

      back : (i : ℕ) (value : ℤ) → slice_get values i ≡ Some value → i < length (value_kinds pred)
      back i value at =
          let part = part_there i in
          let here : slice_get values (place_in_values part.0) ≡ Some value = subst (λ n. slice_get values n ≡ Some value) (sym part.1) at in
          let value_is = (are part.0 value).0 here in
          let inside = in_base (variables.Token token part.0) value_is.0 value_is.1 in
          let slots = token_once model token inside.1.0 slot inside.1.1 has in
          let below = part_below model slot pred part.0 inside.0 is (subst (λ (s : Slot). HasPartBase model s part.0 inside.0) slots inside.1.2) in
          omega (arith, below, part.1, kinds_long pred)

  pub local_value : (token : TokenName) (rule number : ℕ) (value : ℤ) → GivesOnly state (variables.Local token rule number) value
      → IsLocalValue model (variables.Local token rule number) value
  local_value token rule number value value_is =
      let inside = in_base (variables.Local token rule number) value_is.0 value_is.1 in
      let base = inside.1 in
      let fine = (few_rule model base.slot.pred rule base.has_local.found lawful base.has_local.has_rule).lawful in
      let variable_fine : IsLawfulVariable model base.variable = get_all (IsLawfulVariable model) base.has_local.found.locals number base.variable fine.locals base.has_local.declared in (
        base.slot,
        base.has_token,
        (
          base.variable,
          base.has_local,
          in_kind model base.variable.kind base.variable.base value_is.0 value variable_fine.inside (subst (λ b. IsInBase value_is.0 b) base.is_base inside.2) value_is.2.has,
        ),
      )

  pub global_value : (number : ℕ) (value : ℤ) (variable : VarDecl) → GivesOnly state (variables.Global number) value → IsGlobal model number variable
      → IsValueOf model variable.kind value
  global_value number value variable value_is is_global =
      let inside = in_base (variables.Global number) value_is.0 value_is.1 in
      let same = get_same model.problem.globals number inside.1.0 variable inside.1.1 is_global in
      let fine : IsLawfulVariable model variable = get_all (IsLawfulVariable model) model.problem.globals number variable lawful.globals is_global in
      let base : inside.0 ≡ variable.base = inside.1.2 ∙ ap (λ (v : VarDecl). v.base) same in
      in_kind model variable.kind variable.base value_is.0 value fine.inside (subst (λ b. IsInBase value_is.0 b) base inside.2) value_is.2.has
