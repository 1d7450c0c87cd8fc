-- The predicate of a token, and what tokens of it do.
use Rattle.std.proofs.Common.{◌≡◌, ℕ, List, Option, Some, None, MatchOption, Bor, sym, ◌∙◌, ap, subst}
use Rattle.std.specs.Prelude.{slice_get, option_copied}
use Rattle.eu_name.specs.declared.name.Step.{Step}
use Rattle.eu_name.specs.declared.name.TokenName.{TokenName}
use Rattle.model_core.specs.declared.class.Pred.{Pred}
use Rattle.model_core.specs.declared.class.PredKind.{PredKind}
use Rattle.model_core.specs.declared.model.Model.{Model}
use Rattle.model_core.specs.declared.model.Root.{Root}
use Rattle.model_core.specs.declared.rule.Slot.{Slot}
use Rattle.model_core.specs.Lookup.{LeadsOn}
use Rattle.model_core.specs.State.{State}
use Rattle.model_core.specs.Tokens.{HasToken, slot_of}
use Rattle.model_core.specs.Views.{IsTokenAt}
use Rattle.model_core.proofs.Leading.{reaches_on, on_reaches, token_once}
use Rattle.db_resources.specs.Actors.{IsRole, HasRole}

-- the predicate of a token, among those of the model
abbrev IsPredOf : Model → TokenName → Slot → Pred → Type 0
IsPredOf model token slot predicate = HasToken model token slot × (slice_get model.preds slot.pred ≡ Some predicate)

module _ (model : Model) (token : TokenName) where
  pub no_root : slice_get model.problem.roots token.root ≡ None → (slot : Slot) → HasToken model token slot → ⊥
  no_root none slot has = let is = has.is_root in cc

  pub no_way : (root : Root) (steps : List Step) → slice_get model.problem.roots token.root ≡ Some root → steps ≡ token.steps → ((reached : ℕ) → LeadsOn model root.pred steps reached → ⊥) → (slot : Slot) → HasToken model token slot → ⊥
  no_way root steps is_root same none slot has =
      let options : Some has.root ≡ Some root = sym has.is_root ∙ is_root in
      let roots : has.root ≡ root = cc in
      let on : LeadsOn model root.pred token.steps slot.pred = subst (λ (r : Root). LeadsOn model r.pred token.steps slot.pred) roots (reaches_on model (slot_of has.root) slot token.steps has.reached) in
      none slot.pred (subst (λ list. LeadsOn model root.pred list slot.pred) (sym same) on)

  pub found_pred : (root : Root) (steps : List Step) (pred : ℕ) (found : Option Pred) → slice_get model.problem.roots token.root ≡ Some root → steps ≡ token.steps → LeadsOn model root.pred steps pred
      → found ≡ slice_get model.preds pred
      → MatchOption found ((slot : Slot) (predicate : Pred) → HasToken model token slot → slice_get model.preds slot.pred ≡ Some predicate → ⊥)
      (λ predicate. (slot : Slot) × HasToken model token slot × (slice_get model.preds slot.pred ≡ Some predicate))
  found_pred root steps pred found is_root same on is =
      let on' : LeadsOn model root.pred token.steps pred = subst (λ list. LeadsOn model root.pred list pred) same on in
      let last = on_reaches model (slot_of root) pred token.steps on' in
      let has : HasToken model token last.0 = record { root = root; is_root = is_root; reached = last.1 } in
      let there : found ≡ slice_get model.preds last.0.pred = is ∙ ap (λ n. slice_get model.preds n) (sym last.2) in
      by_case found last.0 has there
    where
      by_case : (found : Option Pred) (slot : Slot) → HasToken model token slot → found ≡ slice_get model.preds slot.pred
          → MatchOption found ((slot : Slot) (predicate : Pred) → HasToken model token slot → slice_get model.preds slot.pred ≡ Some predicate → ⊥)
          (λ predicate. (slot : Slot) × HasToken model token slot × (slice_get model.preds slot.pred ≡ Some predicate))
      by_case (Some predicate) slot has there = (slot, has, sym there)
      by_case None slot has there = λ other predicate has' is'.
          let slots : other ≡ slot = token_once model token other slot has' has in
          let here : slice_get model.preds slot.pred ≡ Some predicate = subst (λ (s : Slot). slice_get model.preds s.pred ≡ Some predicate) slots is' in
          cc

module _ (model : Model) (state : State) (place : ℕ) (token : TokenName) (at : IsTokenAt state place token) where
  other_token : (other : TokenName) → IsTokenAt state place other → other ≡ token
  other_token other at' = cc

  -- a token without a predicate has no role
  pub no_role : ((slot : Slot) (predicate : Pred) → HasToken model token slot → slice_get model.preds slot.pred ≡ Some predicate → ⊥)
      → (other : TokenName) (kind : PredKind) → IsTokenAt state place other → HasRole model other kind → ⊥
  no_role none other kind at' has = (
      let same = other_token other at' in
      let has' : HasRole model token kind = subst (λ t. HasRole model t kind) same has in
      none has'.slot has'.predicate has'.has_token has'.is_predicate)

  pub role_told : (predicate : Pred) (told : Option PredKind) → ((slot : Slot) × HasToken model token slot × (slice_get model.preds slot.pred ≡ Some predicate))
      → MatchOption told (IsRole predicate.kind → ⊥) (λ kind. (kind ≡ predicate.kind) × IsRole predicate.kind)
      → MatchOption told ((token : TokenName) (kind : PredKind) → IsTokenAt state place token → HasRole model token kind → ⊥)
      (λ kind. (token : TokenName) × IsTokenAt state place token × HasRole model token kind)
  role_told predicate (Some kind) has is = (
    token,
    at,
    record { is_role = subst IsRole (sym is.0) is.1; slot = has.0; has_token = has.1; predicate = predicate; is_predicate = has.2; is_kind = sym is.0 },
  )
  role_told predicate None has none = λ other kind at' role.
      let same = other_token other at' in
      let role' : HasRole model token kind = subst (λ t. HasRole model t kind) same role in
      let slots : role'.slot ≡ has.0 = token_once model token role'.slot has.0 role'.has_token has.1 in
      let here : slice_get model.preds has.0.pred ≡ Some role'.predicate = subst (λ (s : Slot). slice_get model.preds s.pred ≡ Some role'.predicate) slots role'.is_predicate in
      let options : Some role'.predicate ≡ Some predicate = sym here ∙ has.2 in
      let preds : role'.predicate ≡ predicate = cc in
      none (subst IsRole (sym role'.is_kind ∙ ap (λ (p : Pred). p.kind) preds) role'.is_role)

-- what is said of what a reference points to
pub copied_told : {X : Type 0} (P : Type 0) (Q : X → Type 0) (found : Option (Bor X)) → MatchOption (option_copied found) P Q → MatchOption found P (λ x. Q x.now)
copied_told P Q (Some x) is = is
copied_told P Q None is = is
