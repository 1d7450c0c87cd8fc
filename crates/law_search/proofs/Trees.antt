-- What a model has under two tokens of one predicate.
use Rattle.std.proofs.Common.{◌≡◌, ℕ, ◌⊎◌, inl, inr, List, [], ◌∷◌, ◌++◌, refl, sym, ap, ◌∙◌, subst}
use Rattle.std.proofs.lemmas.List.{append-nil}
use Rattle.eu_name.specs.declared.name.Step.{Step}
use Rattle.eu_name.specs.declared.name.TokenName.{TokenName}
use Rattle.model_core.specs.declared.model.Model.{Model}
use Rattle.model_core.specs.declared.rule.Slot.{Slot}
use Rattle.model_core.specs.Tokens.{HasToken, LeadsToSlot, Reaches, slot_of}
use Rattle.model_core.proofs.Leading.{token_once}
use Rattle.plan_defs.specs.Refusals.{HaveSamePredicate}
use Rattle.law_search.specs.Swapping.{token_under, swapped_token}
use Rattle.law_search.proofs.Renaming.{AreApart, swapped_one, swapped_other, stands}

-- ---- steps and further steps

reaches_split : (model : Model) (from last : Slot) (steps more : List Step) → Reaches model from (steps ++ more) last
    → (mid : Slot) × (Reaches model from steps mid × Reaches model mid more last)
reaches_split model from last [] more there = (from, (refl, there))
reaches_split model from last (step ∷ steps) more there =
    let rest = reaches_split model there.0 last steps more there.2 in
    (rest.0, ((there.0, there.1, rest.1.0), rest.1.1))

reaches_join : (model : Model) (from mid last : Slot) (steps more : List Step) → Reaches model from steps mid → Reaches model mid more last
    → Reaches model from (steps ++ more) last
reaches_join model from mid last [] more there further = subst (λ (s : Slot). Reaches model s more last) there further
reaches_join model from mid last (step ∷ steps) more there further =
    (there.0, there.1, reaches_join model there.0 mid last steps more there.2 further)

leads_alike : (model : Model) (pred other : ℕ) (step : Step) (next : Slot) → pred ≡ other → LeadsToSlot model pred step next → LeadsToSlot model other step next
leads_alike model pred other step next same leads = subst (λ p. LeadsToSlot model p step next) same leads

-- from slots of one predicate the same steps lead to the same slots, but for none
reaches_alike : (model : Model) (one other last : Slot) (step : Step) (steps : List Step) → one.pred ≡ other.pred
    → Reaches model one (step ∷ steps) last → Reaches model other (step ∷ steps) last
reaches_alike model one other last step steps same there = (there.0, leads_alike model one.pred other.pred step there.0 same there.1, there.2)

module _ (model : Model) (top : TokenName) where
  -- what stands under the top is reached from its slot
  under_slot : (steps : List Step) (slot : Slot) → HasToken model (token_under top steps) slot
      → (own : Slot) × (HasToken model top own × Reaches model own steps slot)
  under_slot steps slot has =
      let parts = reaches_split model (slot_of has.root) slot top.steps steps has.reached in
      (parts.0, (record { root = has.root; is_root = has.is_root; reached = parts.1.0 }, parts.1.1))

  slot_under : (steps : List Step) (own slot : Slot) → HasToken model top own → Reaches model own steps slot → HasToken model (token_under top steps) slot
  slot_under steps own slot has further =
      record { root = has.root; is_root = has.is_root; reached = reaches_join model (slot_of has.root) own slot top.steps steps has.reached further }

-- two tokens, with the slots that say of which predicate they are
module _ (model : Model) (one other : TokenName) (of_one of_other : Slot) (has_one : HasToken model one of_one) (has_other : HasToken model other of_other)
    (same : of_one.pred ≡ of_other.pred) where
  -- what stands further under the one stands so under the other
  under_other : (step : Step) (steps : List Step) (slot : Slot) → HasToken model (token_under one (step ∷ steps)) slot
      → HasToken model (token_under other (step ∷ steps)) slot
  under_other step steps slot has =
      let found = under_slot model one (step ∷ steps) slot has in
      let slots : found.0 ≡ of_one = token_once model one found.0 of_one found.1.0 has_one in
      slot_under model other (step ∷ steps) of_other slot has_other
      (reaches_alike model of_one of_other slot step steps same (subst (λ (s : Slot). Reaches model s (step ∷ steps) slot) slots found.1.1))

-- the token has its slot under the name that it gets
abbrev pub KeepsSlot : Model → TokenName → TokenName → TokenName → Type 0
KeepsSlot model one other token = (slot : Slot) → HasToken model token slot → HasToken model (swapped_token one other token) slot

-- the token is one of the two, or keeps its slot
abbrev pub IsOneOrKeeps : Model → TokenName → TokenName → TokenName → Type 0
IsOneOrKeeps model one other token = (token ≡ one) ⊎ ((token ≡ other) ⊎ KeepsSlot model one other token)

module _ (model : Model) (one other : TokenName) (apart : AreApart one other) (same : HaveSamePredicate model one other) where
  under_one_keeps : (steps : List Step) (token : TokenName) → token ≡ token_under one steps → IsOneOrKeeps model one other token
  under_one_keeps [] token is = inl (is ∙ (λ i. record { root = one.root; steps = append-nil one.steps i }))
  under_one_keeps (step ∷ steps) token is = inr (inr (λ slot has.
      subst (λ (t : TokenName). HasToken model t slot)
      (sym (swapped_one one other apart (step ∷ steps)) ∙ ap (swapped_token one other) (sym is))
      (under_other model one other same.slot same.other_slot same.has_one same.has_other same.same step steps slot
      (subst (λ (t : TokenName). HasToken model t slot) is has))))

  under_other_keeps : (steps : List Step) (token : TokenName) → token ≡ token_under other steps → IsOneOrKeeps model one other token
  under_other_keeps [] token is = inr (inl (is ∙ (λ i. record { root = other.root; steps = append-nil other.steps i })))
  under_other_keeps (step ∷ steps) token is = inr (inr (λ slot has.
      subst (λ (t : TokenName). HasToken model t slot)
      (sym (swapped_other one other apart (step ∷ steps)) ∙ ap (swapped_token one other) (sym is))
      (under_other model other one same.other_slot same.slot same.has_other same.has_one (sym same.same) step steps slot
      (subst (λ (t : TokenName). HasToken model t slot) is has))))

  pub one_or_keeps : (token : TokenName) → IsOneOrKeeps model one other token
  one_or_keeps token = elim (stands one other apart token) [
    | inl found ↦ under_one_keeps found.0 token found.1
    | inr (inl found) ↦ under_other_keeps found.0 token found.1
    | inr (inr elsewhere) ↦ inr (inr (λ slot has. subst (λ (t : TokenName). HasToken model t slot) (sym elsewhere.stays) has))
  ]

  -- under the name that it gets the token has a slot of its predicate
  pub token_moved : swapped_token one other one ≡ other → swapped_token one other other ≡ one
      → (token : TokenName) (slot : Slot) → HasToken model token slot
      → (later : Slot) × (HasToken model (swapped_token one other token) later × (later.pred ≡ slot.pred))
  token_moved one_becomes other_becomes token slot has = elim (one_or_keeps token) [
    | inl is ↦
        let slots = token_once model one slot same.slot (subst (λ (t : TokenName). HasToken model t slot) is has) same.has_one in (
          same.other_slot,
          (
            subst (λ (t : TokenName). HasToken model t same.other_slot) (sym one_becomes ∙ ap (swapped_token one other) (sym is)) same.has_other,
            sym same.same ∙ ap (λ (s : Slot). s.pred) (sym slots),
          ),
        )
    | inr (inl is) ↦
        let slots = token_once model other slot same.other_slot (subst (λ (t : TokenName). HasToken model t slot) is has) same.has_other in (
          same.slot,
          (
            subst (λ (t : TokenName). HasToken model t same.slot) (sym other_becomes ∙ ap (swapped_token one other) (sym is)) same.has_one,
            same.same ∙ ap (λ (s : Slot). s.pred) (sym slots),
          ),
        )
    | inr (inr keeps) ↦ (slot, (keeps slot has, refl))
  ]
