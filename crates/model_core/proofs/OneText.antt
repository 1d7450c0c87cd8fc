-- Each token and each variable is named by one text.
use Rattle.std.proofs.Common.{◌≡◌, ℕ, List, [], Some, slice_get, refl, sym, ◌∙◌, ap, subst}
use Rattle.eu_name.specs.declared.name.Step.{Step}
use Rattle.eu_name.specs.declared.name.Part.{Part}
use Rattle.eu_name.specs.declared.name.TokenName.{TokenName}
use Rattle.eu_name.specs.declared.name.VarName.{VarName}
use Rattle.eu_name.specs.declared.name_text.NameText.{NameText}
use Rattle.eu_name.specs.declared.name_text.Tail.{Tail}
use Rattle.eu_name.specs.declared.name.Part.TheVariants as parts
use Rattle.eu_name.specs.declared.name_text.Tail.TheVariants as tails
use Rattle.eu_name.specs.declared.name.VarName.TheVariants.{Token, Local, Global}
use Rattle.model_core.specs.declared.model.Model.{Model}
use Rattle.model_core.specs.declared.model.Root.{Root}
use Rattle.model_core.specs.declared.rule.Slot.{Slot}
use Rattle.model_core.specs.declared.variable.Base.{Base}
use Rattle.model_core.specs.declared.variable.VarDecl.{VarDecl}
use Rattle.model_core.specs.Names.{IsOnly, LeadsToToken, NamesToken, NamesVariable, IsPartWord}
use Rattle.model_core.specs.Tokens.{HasToken}
use Rattle.model_core.specs.Variables.{HasBase}
use Rattle.model_core.proofs.Leading.{token_once}
use Rattle.model_core.proofs.Naming.{part_has_word}

-- the text with this label, these steps and this tail
abbrev text_of : List ℕ → List Step → Tail → NameText
text_of label steps tail = record { label = label; steps = steps; tail = tail }

same_text : (one other : NameText) → one.label ≡ other.label → one.steps ≡ other.steps → one.tail ≡ other.tail → one ≡ other
same_text one other label steps tail = λ i. record { label = label i; steps = steps i; tail = tail i }

-- a text that leads to the token
leading : (model : Model) (token : TokenName) (slot : Slot) (tail : Tail) (has : HasToken model token slot) → LeadsToToken model (text_of has.root.label token.steps tail) token slot
leading model token slot tail has = record { root = has.root; is_root = has.is_root; label = refl; steps = refl; has_token = has }

-- two that end alike are the same
leading_once : (model : Model) (one other : NameText) (token : TokenName) (slot slot' : Slot) → LeadsToToken model one token slot → LeadsToToken model other token slot' → one.tail ≡ other.tail → one ≡ other
leading_once model one other token slot slot' first second tail =
    let roots : first.root ≡ second.root = cc in
    same_text one other (sym first.label ∙ (ap (λ (r : Root). r.label) roots ∙ second.label)) (sym first.steps ∙ second.steps) tail

pub one_token_text : (model : Model) (token : TokenName) (slot : Slot) → HasToken model token slot
    → (text : NameText) × IsOnly (λ named. NamesToken model named token) text
one_token_text model token slot has =
    let text = text_of has.root.label token.steps tails.None in
    let leads = leading model token slot tails.None has in
    (text, record { names = (refl, (slot, leads)); only = λ other names. leading_once model other text token names.1.0 slot names.1.1 leads names.0 })

-- a part has one word
one_word : (model : Model) (pred : ℕ) (part : Part) (one other : List ℕ) → IsPartWord model pred part one → IsPartWord model pred part other → one ≡ other
one_word model pred parts.Start one other first second = first ∙ sym second
one_word model pred parts.End one other first second = first ∙ sym second
one_word model pred parts.Duration one other first second = first ∙ sym second
one_word model pred parts.Object one other first second = first ∙ sym second
one_word model pred (parts.Param number) one other (variable, has, named) (variable', has', named') =
    let preds : has.predicate ≡ has'.predicate = cc in
    let variables : variable ≡ variable' = cc in
    sym named ∙ (ap (λ (v : VarDecl). v.name) variables ∙ named')

global_text : (model : Model) (number : ℕ) (variable : VarDecl) → slice_get model.problem.globals number ≡ Some variable
    → (text : NameText) × IsOnly (λ named. NamesVariable model named (Global number)) text
global_text model number variable stands = (
  text_of variable.name [] tails.None,
  record {
    names = record { steps = refl; tail = refl; variable = variable; is_global = stands; label = refl };
    only = λ other p.
        let stands' = p.is_global in
        let variables : p.variable ≡ variable = cc in
        same_text other (text_of variable.name [] tails.None) (sym p.label ∙ ap (λ (v : VarDecl). v.name) variables) p.steps p.tail;
  },
)

pub one_variable_text : (model : Model) (variable : VarName) (base : Base) → HasBase model variable base
    → (text : NameText) × IsOnly (λ named. NamesVariable model named variable) text
one_variable_text model (Global number) base (variable, stands, is) = global_text model number variable stands
one_variable_text model (Token token part) base (slot, has, has_part) =
    let word = part_has_word model slot part base has_part in
    let text = text_of has.root.label token.steps (tails.Part word.0) in
    let leads = leading model token slot (tails.Part word.0) has in (
      text,
      record {
        names = record { slot = slot; leads = leads; word = word.0; tail = refl; is_word = word.1 };
        only = λ other p.
            let slots : p.slot ≡ slot = token_once model token p.slot slot p.leads.has_token has in
            let words : p.word ≡ word.0 = one_word model slot.pred part p.word word.0 (subst (λ (s : Slot). IsPartWord model s.pred part p.word) slots p.is_word) word.1 in
            leading_once model other text token p.slot slot p.leads leads (p.tail ∙ ap tails.Part words);
      },
    )
one_variable_text model (Local token rule number) base has =
    let text = text_of has.has_token.root.label token.steps (tails.Local rule number) in
    let leads = leading model token has.slot (tails.Local rule number) has.has_token in (
      text,
      record {
        names = record { slot = has.slot; leads = leads; tail = refl; variable = has.variable; has_local = has.has_local };
        only = λ other p. leading_once model other text token p.slot has.slot p.leads leads p.tail;
      },
    )
