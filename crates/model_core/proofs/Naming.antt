-- The texts of variables, and that a text names one thing.
use Rattle.std.proofs.Common.{◌≡◌, ℕ, pos, ◌-ℤ◌, ◌<◌, List, Result, Ok, Err, Some, slice_get, refl, sym, ◌∙◌, ap, subst, get_or, length, arith}
use Rattle.std.specs.Prelude.{IfOk, codes}
use Rattle.std.proofs.lemmas.List.{get_or-map, length-map}
use Rattle.std.proofs.lemmas.List.Elements.{All-get_or}
use Rattle.domain_core.specs.Domain.{Range}
use Rattle.eu_name.specs.declared.name.Part.{Part}
use Rattle.eu_name.specs.declared.name.Part.TheVariants as parts
use Rattle.eu_name.specs.declared.name.TokenName.{TokenName}
use Rattle.eu_name.specs.declared.name.VarName.{VarName}
use Rattle.eu_name.specs.declared.name.VarName.TheVariants.{Token, Local, Global}
use Rattle.eu_name.specs.declared.name_text.NameText.{NameText}
use Rattle.eu_name.specs.declared.name_text.Tail.TheVariants as tails
use Rattle.model_core.specs.declared.class.Pred.{Pred}
use Rattle.model_core.specs.declared.model.Model.{Model}
use Rattle.model_core.specs.declared.rule.Slot.{Slot}
use Rattle.model_core.specs.declared.variable.Base.{Base}
use Rattle.model_core.specs.declared.variable.Base.TheVariants.{Given}
use Rattle.model_core.specs.declared.variable.VarDecl.{VarDecl}
use Rattle.model_core.specs.Lawful.{IsLawful}
use Rattle.model_core.specs.Naming.{names_of, IsParameterName}
use Rattle.model_core.specs.Names.{LeadsToToken, NamesToken, NamesVariable, IsPartWord}
use Rattle.model_core.specs.Tokens.{HasToken}
use Rattle.model_core.specs.Variables.{HasBase, HasPartBase, HasParameter}
use Rattle.model_core.proofs.Distinct.{global_once, parameter_once}
use Rattle.model_core.proofs.Items.{item_within, item_is}
use Rattle.model_core.proofs.Leading.{leads_one}

-- every part of a token has a word
pub part_has_word : (model : Model) (slot : Slot) (part : Part) (base : Base) → HasPartBase model slot part base → (word : List ℕ) × IsPartWord model slot.pred part word
part_has_word model slot parts.Start base has = (codes "start", refl)
part_has_word model slot parts.End base has = (codes "end", refl)
part_has_word model slot parts.Duration base has = (codes "duration", refl)
part_has_word model slot parts.Object base has = (codes "object", refl)
part_has_word model slot (parts.Param number) base (variable, has, is) = (variable.name, (variable, has, refl))

pub part_word_is : (model : Model) (token : TokenName) (part : Part) (pred : ℕ) → (base : Base) × HasBase model (Token token part) base → ((slot : Slot) → HasToken model token slot → slot.pred ≡ pred)
    → (word : List ℕ) × IsPartWord model pred part word
part_word_is model token part pred (base, (slot, has, has_part)) preds =
    let word = part_has_word model slot part base has_part in
    (word.0, subst (λ (n : ℕ). IsPartWord model n part word.0) (preds slot has) word.1)

-- a text that leads to the token and goes on with the part's word names the part
part_text : (model : Model) (token : TokenName) (part : Part) (pred : ℕ) (word : List ℕ) (text : NameText) → (base : Base) × HasBase model (Token token part) base
    → ((slot : Slot) → HasToken model token slot → slot.pred ≡ pred) → IsPartWord model pred part word → ((slot : Slot) → HasToken model token slot → LeadsToToken model text token slot)
    → text.tail ≡ tails.Part word → NamesVariable model text (Token token part)
part_text model token part pred word text (base, (slot, has, has_part)) preds named leads tail =
    record { slot = slot; leads = leads slot has; word = word; tail = tail; is_word = subst (λ (n : ℕ). IsPartWord model n part word) (sym (preds slot has)) named }

pub part_texts : {E : Type 0} (model : Model) (token : TokenName) (part : Part) (pred : ℕ) (word : List ℕ) (result : Result NameText E) → (base : Base) × HasBase model (Token token part) base
    → ((slot : Slot) → HasToken model token slot → slot.pred ≡ pred) → IsPartWord model pred part word
    → IfOk result (λ text. (slot : Slot) → HasToken model token slot → LeadsToToken model text token slot) → IfOk result (λ text. text.tail ≡ tails.Part word)
    → IfOk result (λ text. NamesVariable model text (Token token part))
part_texts model token part pred word (Ok text) has preds named leads tail = part_text model token part pred word text has preds named leads tail
part_texts model token part pred word (Err fault) has preds named leads tail = tt

-- ---- one thing a text

pub names_one_token : (model : Model) (text : NameText) (one other : TokenName) → IsLawful model → NamesToken model text one → NamesToken model text other → one ≡ other
names_one_token model text one other lawful (whole, (slot, leads)) (whole', (slot', leads')) = (leads_one model text one other slot slot' lawful leads leads').0

-- a lawful parameter has a name that may be one
pub parameter_name : (model : Model) (pred number : ℕ) (variable : VarDecl) → IsLawful model → HasParameter model pred number variable → IsParameterName variable.name
parameter_name model pred number variable lawful has =
    let within = item_within has.predicate.params number variable has.declared in
    let name : get_or (names_of has.predicate.params) number variable.name ≡ variable.name =
    get_or-map (λ (v : VarDecl). v.name) has.predicate.params number variable variable.name within ∙ ap (λ (v : VarDecl). v.name) (item_is has.predicate.params number variable variable has.declared) in
    let few : number < length (names_of has.predicate.params) = omega (arith, length-map has.predicate.params (λ (v : VarDecl). v.name), within) in
    subst IsParameterName name (All-get_or IsParameterName (names_of has.predicate.params) number variable.name few (lawful.preds pred has.predicate has.is_predicate).names)

-- so it isn't one of the four words
not_start : (model : Model) (pred number : ℕ) (word : List ℕ) → IsLawful model → IsPartWord model pred (parts.Param number) word → word ≡ codes "start" → ⊥
not_start model pred number word lawful (variable, has, named) is = (parameter_name model pred number variable lawful has).1 (0, omega arith, sym (named ∙ is))

not_end : (model : Model) (pred number : ℕ) (word : List ℕ) → IsLawful model → IsPartWord model pred (parts.Param number) word → word ≡ codes "end" → ⊥
not_end model pred number word lawful (variable, has, named) is = (parameter_name model pred number variable lawful has).1 (1, omega arith, sym (named ∙ is))

not_duration : (model : Model) (pred number : ℕ) (word : List ℕ) → IsLawful model → IsPartWord model pred (parts.Param number) word → word ≡ codes "duration" → ⊥
not_duration model pred number word lawful (variable, has, named) is = (parameter_name model pred number variable lawful has).1 (2, omega arith, sym (named ∙ is))

not_object : (model : Model) (pred number : ℕ) (word : List ℕ) → IsLawful model → IsPartWord model pred (parts.Param number) word → word ≡ codes "object" → ⊥
not_object model pred number word lawful (variable, has, named) is = (parameter_name model pred number variable lawful has).1 (3, omega arith, sym (named ∙ is))

part_once : (model : Model) (pred : ℕ) (one other : Part) (word : List ℕ) → IsLawful model → IsPartWord model pred one word → IsPartWord model pred other word → one ≡ other
part_once model pred parts.Start parts.Start word lawful first second = refl
part_once model pred parts.End parts.End word lawful first second = refl
part_once model pred parts.Duration parts.Duration word lawful first second = refl
part_once model pred parts.Object parts.Object word lawful first second = refl
part_once model pred (parts.Param m) (parts.Param n) word lawful (variable, has, named) (variable', has', named') =
    let preds : has.predicate ≡ has'.predicate = cc in
    let declared = subst (λ (found : Pred). slice_get found.params m ≡ Some variable) preds has.declared in
    ap parts.Param (parameter_once model pred m n has'.predicate variable variable' lawful has'.is_predicate declared has'.declared (named ∙ sym named'))
part_once model pred (parts.Param m) parts.Start word lawful first second = absurd (not_start model pred m word lawful first second)
part_once model pred (parts.Param m) parts.End word lawful first second = absurd (not_end model pred m word lawful first second)
part_once model pred (parts.Param m) parts.Duration word lawful first second = absurd (not_duration model pred m word lawful first second)
part_once model pred (parts.Param m) parts.Object word lawful first second = absurd (not_object model pred m word lawful first second)
part_once model pred parts.Start (parts.Param n) word lawful first second = absurd (not_start model pred n word lawful second first)
part_once model pred parts.End (parts.Param n) word lawful first second = absurd (not_end model pred n word lawful second first)
part_once model pred parts.Duration (parts.Param n) word lawful first second = absurd (not_duration model pred n word lawful second first)
part_once model pred parts.Object (parts.Param n) word lawful first second = absurd (not_object model pred n word lawful second first)
part_once model pred one other word lawful first second = absurd (omega (arith, ap (λ (letters : List ℕ). get_or letters 0 0) (sym first ∙ second)))

pub names_one_variable : (model : Model) (text : NameText) (one other : VarName) → IsLawful model → NamesVariable model text one → NamesVariable model text other → one ≡ other
names_one_variable model text (Global m) (Global n) lawful p q =
    ap Global (global_once model m n p.variable q.variable lawful p.is_global q.is_global (p.label ∙ sym q.label))
names_one_variable model text (Token one part) (Token other part') lawful p q =
    let same = leads_one model text one other p.slot q.slot lawful p.leads q.leads in
    let tail = p.tail in
    let tail' = q.tail in
    let words : q.word ≡ p.word = cc in
    let back = subst (λ (s : Slot). IsPartWord model s.pred part' q.word) (sym same.1) q.is_word in
    let parts : part ≡ part' = part_once model p.slot.pred part part' p.word lawful p.is_word (subst (λ (w : List ℕ). IsPartWord model p.slot.pred part' w) words back) in
    λ i. Token (same.0 i) (parts i)
names_one_variable model text (Local one rule number) (Local other rule' number') lawful p q =
    let same = leads_one model text one other p.slot q.slot lawful p.leads q.leads in
    let tail = p.tail in
    let tail' = q.tail in
    let rules : rule ≡ rule' = cc in
    let numbers : number ≡ number' = cc in
    λ i. Local (same.0 i) (rules i) (numbers i)
names_one_variable model text (Global m) (Token other part) lawful p q = let tail = p.tail in let tail' = q.tail in cc
names_one_variable model text (Global m) (Local other rule number) lawful p q = let tail = p.tail in let tail' = q.tail in cc
names_one_variable model text (Token one part) (Global n) lawful p q = let tail = p.tail in let tail' = q.tail in cc
names_one_variable model text (Token one part) (Local other rule number) lawful p q = let tail = p.tail in let tail' = q.tail in cc
names_one_variable model text (Local one rule number) (Global n) lawful p q = let tail = p.tail in let tail' = q.tail in cc
names_one_variable model text (Local one rule number) (Token other part) lawful p q = let tail = p.tail in let tail' = q.tail in cc

-- ---- what there is

part_has_base : (model : Model) (slot : Slot) (part : Part) (word : List ℕ) → IsPartWord model slot.pred part word → (base : Base) × HasPartBase model slot part base
part_has_base model slot parts.Start word is = (Given (Range model.problem.start model.problem.end), refl)
part_has_base model slot parts.End word is = (Given (Range model.problem.start model.problem.end), refl)
part_has_base model slot parts.Duration word is = (Given (Range (pos 1) (model.problem.end -ℤ model.problem.start)), refl)
part_has_base model slot parts.Object word is = (slot.object, refl)
part_has_base model slot (parts.Param number) word (variable, has, named) = (variable.base, (variable, has, refl))

pub names_what_there_is : (model : Model) (text : NameText) (variable : VarName) → NamesVariable model text variable → (base : Base) × HasBase model variable base
names_what_there_is model text (Global number) names = (names.variable.base, (names.variable, names.is_global, refl))
names_what_there_is model text (Token token part) names =
    let part = part_has_base model names.slot part names.word names.is_word in
    (part.0, (names.slot, names.leads.has_token, part.1))
names_what_there_is model text (Local token rule number) names = (
  names.variable.base,
  record { slot = names.slot; has_token = names.leads.has_token; variable = names.variable; has_local = names.has_local; is_base = refl },
)
