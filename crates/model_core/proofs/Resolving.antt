-- What a name names, from where it leads.
use Rattle.std.proofs.Common.{◌≡◌, ℕ, List, Some, slice_get, sym, ◌∙◌, ap, subst}
use Rattle.eu_name.specs.declared.name.Part.{Part}
use Rattle.eu_name.specs.declared.name.TokenName.{TokenName}
use Rattle.eu_name.specs.declared.name.VarName.{VarName}
use Rattle.eu_name.specs.declared.name.VarName.TheVariants.{Token, Local, Global}
use Rattle.eu_name.specs.declared.name_text.NameText.{NameText}
use Rattle.eu_name.specs.declared.name_text.Tail.TheVariants as tails
use Rattle.model_core.specs.declared.model.Model.{Model}
use Rattle.model_core.specs.declared.rule.Rule.{Rule}
use Rattle.model_core.specs.declared.rule.Slot.{Slot}
use Rattle.model_core.specs.declared.variable.VarDecl.{VarDecl}
use Rattle.model_core.specs.Lawful.{IsLawful}
use Rattle.model_core.specs.Names.{LeadsToToken, NamesToken, NamesVariable, IsPartWord}
use Rattle.model_core.specs.Tokens.{HasRule}
use Rattle.model_core.proofs.Leading.{leads_one}

-- the name leads to no token
abbrev pub LeadsNowhere : Model → NameText → Type 0
LeadsNowhere model text = (token : TokenName) (slot : Slot) → LeadsToToken model text token slot → ⊥

-- the name leads to the token, which is of this predicate
abbrev pub LeadsThere : Model → NameText → TokenName → ℕ → Type 0
LeadsThere model text token pred = (slot : Slot) × LeadsToToken model text token slot × (slot.pred ≡ pred)

pub no_token : (model : Model) (text : NameText) → LeadsNowhere model text → (token : TokenName) → NamesToken model text token → ⊥
no_token model text nowhere token (whole, (slot, leads)) = nowhere token slot leads

pub token_named : (model : Model) (text : NameText) (token : TokenName) (pred : ℕ) → text.tail ≡ tails.None → LeadsThere model text token pred → NamesToken model text token
token_named model text token pred tail (slot, leads, is) = (tail, (slot, leads))

pub no_variable : (model : Model) (text : NameText) → (text.tail ≡ tails.None → ⊥) → LeadsNowhere model text → (variable : VarName) → NamesVariable model text variable → ⊥
no_variable model text tail nowhere (Global number) names = tail names.tail
no_variable model text tail nowhere (Token token part) names = nowhere token names.slot names.leads
no_variable model text tail nowhere (Local token rule number) names = nowhere token names.slot names.leads

pub no_part_variable : (model : Model) (text : NameText) (token : TokenName) (pred : ℕ) (word : List ℕ) → IsLawful model → text.tail ≡ tails.Part word → LeadsThere model text token pred
    → ((part : Part) → IsPartWord model pred part word → ⊥) → (variable : VarName) → NamesVariable model text variable → ⊥
no_part_variable model text token pred word lawful tail there none (Global number) names = let whole = names.tail in cc
no_part_variable model text token pred word lawful tail (slot, leads, is) none (Token other part) names =
    let same = leads_one model text other token names.slot slot lawful names.leads leads in
    let preds : names.slot.pred ≡ pred = ap (λ (s : Slot). s.pred) same.1 ∙ is in
    let tail' = names.tail in
    let words : names.word ≡ word = cc in
    none part (subst (λ (w : List ℕ). IsPartWord model pred part w) words (subst (λ (n : ℕ). IsPartWord model n part names.word) preds names.is_word))
no_part_variable model text token pred word lawful tail there none (Local other rule number) names = let whole = names.tail in cc

pub part_named : (model : Model) (text : NameText) (token : TokenName) (pred : ℕ) (word : List ℕ) (part : Part) → text.tail ≡ tails.Part word → LeadsThere model text token pred
    → IsPartWord model pred part word → NamesVariable model text (Token token part)
part_named model text token pred word part tail (slot, leads, is) named =
    record { slot = slot; leads = leads; word = word; tail = tail; is_word = subst (λ (n : ℕ). IsPartWord model n part word) (sym is) named }

-- the predicate's rule has this local
abbrev pub HasOwnLocal : Model → ℕ → ℕ → ℕ → VarDecl → Type 0
HasOwnLocal model pred rule number variable = (found : Rule) × HasRule model pred rule found × (slice_get found.locals number ≡ Some variable)

pub no_local_variable : (model : Model) (text : NameText) (token : TokenName) (pred rule number : ℕ) → IsLawful model → text.tail ≡ tails.Local rule number → LeadsThere model text token pred
    → ((found : Rule) (variable : VarDecl) → HasRule model pred rule found → slice_get found.locals number ≡ Some variable → ⊥) → (variable : VarName) → NamesVariable model text variable → ⊥
no_local_variable model text token pred rule number lawful tail there none (Global place) names = let whole = names.tail in cc
no_local_variable model text token pred rule number lawful tail there none (Token other part) names = let whole = names.tail in cc
no_local_variable model text token pred rule number lawful tail (slot, leads, is) none (Local other rule' number') names =
    let same = leads_one model text other token names.slot slot lawful names.leads leads in
    let preds : names.slot.pred ≡ pred = ap (λ (s : Slot). s.pred) same.1 ∙ is in
    let tail' = names.tail in
    let has = names.has_local in
    let rules : rule' ≡ rule = cc in
    let numbers : number' ≡ number = cc in
    let has_rule = subst (λ (n : ℕ). HasRule model pred n has.found) rules (subst (λ (n : ℕ). HasRule model n rule' has.found) preds has.has_rule) in
    none has.found names.variable has_rule (subst (λ (n : ℕ). slice_get has.found.locals n ≡ Some names.variable) numbers has.declared)

pub local_named : (model : Model) (text : NameText) (token : TokenName) (pred rule number : ℕ) (variable : VarDecl) → text.tail ≡ tails.Local rule number → LeadsThere model text token pred
    → HasOwnLocal model pred rule number variable → NamesVariable model text (Local token rule number)
local_named model text token pred rule number variable tail (slot, leads, is) (found, has_rule, declared) =
    record {
      slot = slot;
      leads = leads;
      tail = tail;
      variable = variable;
      has_local = record { found = found; has_rule = subst (λ (n : ℕ). HasRule model n rule found) (sym is) has_rule; declared = declared };
    }
