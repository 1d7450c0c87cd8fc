-- What names something in a lawful model is well-formed.
use Rattle.std.proofs.Common.{◌≡◌, ℕ, ◌<◌, ◌≤◌, List, [], ◌∷◌, length, Some, slice_get, zero, suc, refl, sym, subst, All, inl, inr, arith}
use Rattle.std.specs.Prelude.{codes, sum_by}
use Rattle.std.specs.List.{AllZip, AllByRecursion}
use Rattle.std.proofs.lemmas.List.Elements.{All-from_recursion}
use Rattle.std.proofs.lemmas.List.Sums.{get_or-le-sum_by}
use Rattle.eu_name.specs.declared.name.Step.{Step}
use Rattle.eu_name.specs.declared.name.Part.{Part}
use Rattle.eu_name.specs.declared.name.TokenName.{TokenName}
use Rattle.eu_name.specs.declared.name.VarName.{VarName}
use Rattle.eu_name.specs.declared.name_text.NameText.{NameText}
use Rattle.eu_name.specs.declared.name.Part.TheVariants as parts
use Rattle.eu_name.specs.declared.name_text.Tail.TheVariants as tails
use Rattle.eu_name.specs.declared.name.VarName.TheVariants.{Token, Local, Global}
use Rattle.eu_name.specs.Spelling.{IsWellFormed, IsStep, IsTail}
use Rattle.eu_name.specs.Word.{IsName}
use Rattle.model_core.specs.declared.model.Model.{Model}
use Rattle.model_core.specs.declared.rule.Rule.{Rule}
use Rattle.model_core.specs.declared.rule.Slot.{Slot}
use Rattle.model_core.specs.declared.variable.VarDecl.{VarDecl}
use Rattle.model_core.specs.Lawful.{IsLawful, IsLawfulRoot}
use Rattle.model_core.specs.Naming.{IsGlobalName}
use Rattle.model_core.specs.Names.{LeadsToToken, NamesToken, NamesVariable, IsPartWord}
use Rattle.model_core.specs.Tokens.{HasRule, LeadsToSlot, Reaches, slot_of}
use Rattle.model_core.proofs.Items.{item_within, item_is, item_all}
use Rattle.model_core.proofs.Naming.{parameter_name}
use Rattle.model_core.proofs.Words.{plain_name}

-- ---- numbers

-- the rule at this place of a predicate's list
rule_listed : (model : Model) (places : List ℕ) (rules : List Rule) (number place : ℕ) (rule : Rule) → AllZip (λ p r. slice_get model.rules p ≡ Some r) places rules
    → slice_get places number ≡ Some place → slice_get model.rules place ≡ Some rule → slice_get rules number ≡ Some rule
rule_listed model [] rules number place rule are listed is_rule = cc
rule_listed model (first ∷ places) [] number place rule are listed is_rule = absurd are
rule_listed model (first ∷ places) (found ∷ rules) zero place rule (here, later) listed is_rule =
    let same : first ≡ place = cc in
    cc
rule_listed model (first ∷ places) (found ∷ rules) (suc number) place rule (here, later) listed is_rule = rule_listed model places rules number place rule later listed is_rule

-- a rule of a lawful predicate has a small number, and so do its slots and locals
pub record IsSmall (number : ℕ) (rule : Rule) : Type 0 where
  pub place : number < 65536
  pub slots : length rule.slots < 65536
  pub locals : length rule.locals < 65536

in_sum : (f : Rule → ℕ) (rules : List Rule) (number : ℕ) (rule : Rule) → slice_get rules number ≡ Some rule → f rule ≤ sum_by f rules
in_sum f rules number rule listed =
    subst (λ (found : Rule). f found ≤ sum_by f rules) (item_is rules number rule rule listed) (get_or-le-sum_by f rules number rule (item_within rules number rule listed))

small_rule : (model : Model) (pred number : ℕ) (rule : Rule) → IsLawful model → HasRule model pred number rule → IsSmall number rule
small_rule model pred number rule lawful has =
    let pred_lawful = lawful.preds pred has.predicate has.is_predicate in
    let listed = rule_listed model has.predicate.rules pred_lawful.rules number has.place rule pred_lawful.are_rules has.listed has.is_rule in
    let within = item_within pred_lawful.rules number rule listed in
    record {
      place = omega (arith, within, pred_lawful.few.rules);
      slots = omega (arith, in_sum (λ (r : Rule). length r.slots) pred_lawful.rules number rule listed, pred_lawful.few.slots);
      locals = omega (arith, in_sum (λ (r : Rule). length r.locals) pred_lawful.rules number rule listed, pred_lawful.few.locals);
    }

small_step : (model : Model) (pred : ℕ) (step : Step) (slot : Slot) → IsLawful model → LeadsToSlot model pred step slot → IsStep step
small_step model pred step slot lawful leads =
    let small = small_rule model pred step.rule leads.rule lawful leads.has_rule in
    (small.place, omega (arith, small.slots, item_within leads.rule.slots step.slot slot leads.is_slot))

small_steps : (model : Model) (slot last : Slot) (steps : List Step) → IsLawful model → Reaches model slot steps last → AllByRecursion IsStep steps
small_steps model slot last [] lawful reached = tt
small_steps model slot last (step ∷ steps) lawful (next, leads, reached) = (small_step model slot.pred step next lawful leads, small_steps model next last steps lawful reached)

-- ---- words

part_name : (model : Model) (pred : ℕ) (part : Part) (word : List ℕ) → IsLawful model → IsPartWord model pred part word → IsName word
part_name model pred parts.Start word lawful is = subst IsName (sym is) (plain_name (codes "start") refl)
part_name model pred parts.End word lawful is = subst IsName (sym is) (plain_name (codes "end") refl)
part_name model pred parts.Duration word lawful is = subst IsName (sym is) (plain_name (codes "duration") refl)
part_name model pred parts.Object word lawful is = subst IsName (sym is) (plain_name (codes "object") refl)
part_name model pred (parts.Param number) word lawful (variable, has, named) = subst IsName named (parameter_name model pred number variable lawful has).0

-- ---- texts

-- what leads to a token and ends well is well-formed
leads_well : (model : Model) (text : NameText) (token : TokenName) (slot : Slot) → IsLawful model → LeadsToToken model text token slot → IsTail text.tail → IsWellFormed text
leads_well model text token slot lawful leads tail =
    let label = subst IsName leads.label (item_all (IsLawfulRoot model) model.problem.roots token.root leads.root lawful.roots leads.is_root).label in
    let steps = All-from_recursion IsStep token.steps (small_steps model (slot_of leads.has_token.root) slot token.steps lawful leads.has_token.reached) in
    inl (label, subst (All IsStep) leads.steps steps, tail)

pub token_text_well_formed : (model : Model) (text : NameText) (token : TokenName) → IsLawful model → NamesToken model text token → IsWellFormed text
token_text_well_formed model text token lawful (whole, (slot, leads)) = leads_well model text token slot lawful leads (subst IsTail (sym whole) tt)

global_well : (model : Model) (text : NameText) (number : ℕ) (variable : VarDecl) → IsLawful model → text.steps ≡ [] → text.tail ≡ tails.None
    → slice_get model.problem.globals number ≡ Some variable → variable.name ≡ text.label → IsWellFormed text
global_well model text number variable lawful steps whole stands named =
    elim (subst (IsGlobalName number) named (lawful.names number variable stands)) [
      | inl name ↦ inl (name, subst (All IsStep) (sym steps) (All-from_recursion IsStep [] tt), subst IsTail (sym whole) tt)
      | inr numbered ↦ inr ((number, omega (arith, item_within model.problem.globals number variable stands, lawful.few_globals), numbered), steps, whole)
    ]

pub variable_text_well_formed : (model : Model) (text : NameText) (variable : VarName) → IsLawful model → NamesVariable model text variable → IsWellFormed text
variable_text_well_formed model text (Global number) lawful names = global_well model text number names.variable lawful names.steps names.tail names.is_global names.label
variable_text_well_formed model text (Token token part) lawful names =
    leads_well model text token names.slot lawful names.leads (subst IsTail (sym names.tail) (part_name model names.slot.pred part names.word lawful names.is_word))
variable_text_well_formed model text (Local token rule number) lawful names =
    let has = names.has_local in
    let small = small_rule model names.slot.pred rule has.found lawful has.has_rule in
    leads_well model text token names.slot lawful names.leads
    (subst IsTail (sym names.tail) (small.place, omega (arith, small.locals, item_within has.found.locals number names.variable has.declared)))
