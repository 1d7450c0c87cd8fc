-- A predicate has one rule of a number, and a step leads to one slot.
use Rattle.std.proofs.Common.{◌≡◌, ℕ, ◌+◌, ◌<◌, ◌≤◌, List, ◌∷◌, length, get_or, drop, None, slice_get, refl, sym, ◌∙◌, ap, subst}
use Rattle.std.proofs.lemmas.List.{drop_more, drop_all}
use Rattle.eu_name.specs.declared.name.Step.{Step}
use Rattle.model_core.specs.declared.model.Model.{Model}
use Rattle.model_core.specs.declared.rule.Rule.{Rule}
use Rattle.model_core.specs.declared.rule.Slot.{Slot}
use Rattle.model_core.specs.Lookup.{LeadsOn}
use Rattle.model_core.specs.Tokens.{HasRule, LeadsToSlot}

pub has_rule_once : (model : Model) (pred number : ℕ) (one other : Rule) → HasRule model pred number one → HasRule model pred number other → one ≡ other
has_rule_once model pred number one other first second =
    let preds : first.predicate ≡ second.predicate = cc in
    let places : first.place ≡ second.place = cc in
    cc

-- where the rule has no such slot, the step leads nowhere
pub leads_nowhere : (model : Model) (pred : ℕ) (step : Step) (rule : Rule) → HasRule model pred step.rule rule → slice_get rule.slots step.slot ≡ None → (slot : Slot) → LeadsToSlot model pred step slot → ⊥
leads_nowhere model pred step rule has none slot leads =
    let same : leads.rule ≡ rule = has_rule_once model pred step.rule leads.rule rule leads.has_rule has in
    cc

pub leads_once : (model : Model) (pred : ℕ) (step : Step) (one other : Slot) → LeadsToSlot model pred step one → LeadsToSlot model pred step other → one ≡ other
leads_once model pred step one other first second =
    let same : first.rule ≡ second.rule = has_rule_once model pred step.rule first.rule second.rule first.has_rule second.has_rule in
    cc

-- ---- steps that are left

on_next : (model : Model) (pred next : ℕ) (step : Step) (steps : List Step) (reached : ℕ) → (slot : Slot) × LeadsToSlot model pred step slot × (slot.pred ≡ next)
    → LeadsOn model pred (step ∷ steps) reached → LeadsOn model next steps reached
on_next model pred next step steps reached (slot, leads, is) (other, first, on) =
    let same : other.pred ≡ next = ap (λ (s : Slot). s.pred) (leads_once model pred step other slot first leads) ∙ is in
    subst (λ (n : ℕ). LeadsOn model n steps reached) same on

on_from : (model : Model) (pred next : ℕ) (step : Step) (steps : List Step) (reached : ℕ) → (slot : Slot) × LeadsToSlot model pred step slot × (slot.pred ≡ next)
    → LeadsOn model next steps reached → LeadsOn model pred (step ∷ steps) reached
on_from model pred next step steps reached (slot, leads, is) on =
    (slot, leads, subst (λ (n : ℕ). LeadsOn model n steps reached) (sym is) on)

-- the steps from this one on lead to where those after it lead from the next token
pub on_more : (model : Model) (pred next : ℕ) (steps : List Step) (i : ℕ) (d : Step) (reached : ℕ) → i < length steps
    → (slot : Slot) × LeadsToSlot model pred (get_or steps i d) slot × (slot.pred ≡ next) → LeadsOn model pred (drop i steps) reached → LeadsOn model next (drop (i + 1) steps) reached
on_more model pred next steps i d reached within leads on =
    on_next model pred next (get_or steps i d) (drop (i + 1) steps) reached leads (rw (drop_more steps i d within) at on)

pub on_back : (model : Model) (pred next : ℕ) (steps : List Step) (i : ℕ) (d : Step) (reached : ℕ) → i < length steps
    → (slot : Slot) × LeadsToSlot model pred (get_or steps i d) slot × (slot.pred ≡ next) → LeadsOn model next (drop (i + 1) steps) reached → LeadsOn model pred (drop i steps) reached
on_back model pred next steps i d reached within leads on =
    rw (drop_more steps i d within) (on_from model pred next (get_or steps i d) (drop (i + 1) steps) reached leads on)

-- where the step leads nowhere, so do the steps from it on
pub on_nowhere : (model : Model) (pred : ℕ) (steps : List Step) (i : ℕ) (d : Step) (reached : ℕ) → i < length steps
    → ((slot : Slot) → LeadsToSlot model pred (get_or steps i d) slot → ⊥) → LeadsOn model pred (drop i steps) reached → ⊥
on_nowhere model pred steps i d reached within none on =
    let first : LeadsOn model pred (get_or steps i d ∷ drop (i + 1) steps) reached = rw (drop_more steps i d within) at on in
    none first.0 first.1

-- at the end nothing is left
pub on_end : (model : Model) (pred : ℕ) (steps : List Step) (i : ℕ) → length steps ≤ i → LeadsOn model pred (drop i steps) pred
on_end model pred steps i past = rw (drop_all i steps past) refl
