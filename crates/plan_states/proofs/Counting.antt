-- How much a lawful model has of each kind.
use Rattle.std.proofs.Common.{◌≡◌, ℕ, ◌<◌, ◌≤◌, List, length, Some, sym, subst, arith}
use Rattle.std.specs.Prelude.{slice_get}
use Rattle.std.proofs.lemmas.Slice.Zip.{AllZip-long}
use Rattle.eu_name.specs.declared.name.TokenName.{TokenName}
use Rattle.eu_name.specs.declared.name.VarName.TheVariants as variables
use Rattle.eu_name.proofs.Members.{get_below, get_same}
use Rattle.domain_core.specs.Domain.{Domain}
use Rattle.model_core.specs.declared.class.Pred.{Pred}
use Rattle.model_core.specs.declared.decision.Decision.{Decision}
use Rattle.model_core.specs.declared.model.Model.{Model}
use Rattle.model_core.specs.declared.rule.Rule.{Rule}
use Rattle.model_core.specs.declared.rule.Slot.{Slot}
use Rattle.model_core.specs.declared.variable.VarDecl.{VarDecl}
use Rattle.model_core.specs.Lawful.{IsLawful}
use Rattle.model_core.specs.State.{State, Gives}
use Rattle.model_core.specs.Tokens.{HasToken, HasRule}
use Rattle.model_core.specs.Views.{IsTokenAt}
use Rattle.model_core.proofs.Rules.{has_rule_once}
use Rattle.plan_defs.specs.StatePlans.{IsSettledState}
use Rattle.plan_states.proofs.Completing.{local_below}
use Rattle.plan_defs.proofs.Telling.{one_at}
use Rattle.model_core.proofs.Few.{few_rule}

pub few_parts : (model : Model) (pred : ℕ) (found : Pred) → IsLawful model → slice_get model.preds pred ≡ Some found → length found.params ≤ 32
few_parts model pred found lawful is = (lawful.preds pred found is).few_params

pub few_rules : (model : Model) (pred : ℕ) (found : Pred) → IsLawful model → slice_get model.preds pred ≡ Some found → length found.rules ≤ 1024
few_rules model pred found lawful is =
    let fine = lawful.preds pred found is in
    omega (arith, AllZip-long (λ place rule. slice_get model.rules place ≡ Some rule) found.rules fine.rules fine.are_rules, fine.few.rules)

pub rule_below : (model : Model) (pred number : ℕ) (found : Pred) (rule : Rule) → slice_get model.preds pred ≡ Some found → HasRule model pred number rule → number < length found.rules
rule_below model pred number found rule is has =
    let same : has.predicate ≡ found = get_same model.preds pred has.predicate found has.is_predicate is in
    let listed : slice_get found.rules number ≡ Some has.place = subst (λ (p : Pred). slice_get p.rules number ≡ Some has.place) same has.listed in
    get_below found.rules number has.place listed

pub few_locals : (model : Model) (pred number : ℕ) (rule : Rule) → IsLawful model → HasRule model pred number rule → length rule.locals ≤ 128
few_locals model pred number rule lawful has = (few_rule model pred number rule lawful has).locals

pub local_in : (model : Model) (pred rule number : ℕ) (found other : Rule) (variable : VarDecl) → HasRule model pred rule found → HasRule model pred rule other
    → slice_get other.locals number ≡ Some variable → number < length found.locals
local_in model pred rule number found other variable has is at =
    let same : other ≡ found = has_rule_once model pred rule other found is has in
    get_below found.locals number variable (subst (λ (r : Rule). slice_get r.locals number ≡ Some variable) same at)

-- ---- what bounds the locals of the token at a place

module _ (known model : Model) (same_model : known ≡ model) (decisions : List Decision) (state : State) (settled : IsSettledState known decisions state)
    (place pred : ℕ) (at : (token : TokenName) × IsTokenAt state place token × ((slot : Slot) × HasToken model token slot × (slot.pred ≡ pred)))
    (token : TokenName) (here : IsTokenAt state place token) where
  place_rule : (rule number : ℕ) (domain : Domain) → Gives state (variables.Local token rule number) domain
      → (found : Rule) × HasRule model pred rule found × ((variable : VarDecl) × (slice_get found.locals number ≡ Some variable))
  place_rule rule number domain gives =
      let has : HasToken model token at.2.0 = subst (λ t. HasToken model t at.2.0) (one_at state place at.0 token at.1 here) at.2.1 in
      let known_has : HasToken known token at.2.0 = subst (λ m. HasToken m token at.2.0) (sym same_model) has in
      let local = local_below known decisions state settled token at.2.0 rule number domain known_has gives in
      (local.0, subst (λ n. HasRule model n rule local.0) at.2.2 (subst (λ m. HasRule m at.2.0.pred rule local.0) same_model local.1), local.2)

  pub number_below : (rule number count : ℕ) (domain : Domain)
      → ((found : Rule) (n : ℕ) (variable : VarDecl) → HasRule model pred rule found → slice_get found.locals n ≡ Some variable → n < count)
      → Gives state (variables.Local token rule number) domain → number < count
  number_below rule number count domain counts gives =
      let local = place_rule rule number domain gives in counts local.0 number local.2.0 local.1 local.2.1

  pub rule_number_below : (rule number count : ℕ) (domain : Domain) → ((r : ℕ) (found : Rule) → HasRule model pred r found → r < count)
      → Gives state (variables.Local token rule number) domain → rule < count
  rule_number_below rule number count domain counts gives =
      let local = place_rule rule number domain gives in counts rule local.0 local.1
