-- Lines that were written.
use Rattle.std.proofs.Common.{◌≡◌, ℕ, ℤ, Bool, true, false, cond, List, ◌++◌, Result, Ok, Err, Some, refl, sym, subst, codes, Contains}
use Rattle.std.specs.Prelude.{OnOk}
use Rattle.eu_name.specs.declared.name.Part.TheVariants.{Start}
use Rattle.eu_name.specs.declared.name.TokenName.{TokenName}
use Rattle.eu_name.specs.declared.name.VarName.{VarName}
use Rattle.eu_name.specs.declared.name.VarName.TheVariants as variables
use Rattle.eu_name.specs.declared.name_text.NameText.{NameText}
use Rattle.eu_name.specs.Spelling.{name_spelling}
use Rattle.model_core.specs.declared.model.Model.{Model}
use Rattle.model_core.specs.declared.rule.Slot.{Slot}
use Rattle.model_core.specs.declared.variable.ValueKind.{ValueKind}
use Rattle.model_core.specs.declared.variable.VarDecl.{VarDecl}
use Rattle.model_core.specs.Lawful.{IsLawful, IsToken}
use Rattle.model_core.specs.Names.{NamesVariable}
use Rattle.model_core.specs.Tokens.{HasToken}
use Rattle.model_core.specs.Variables.{IsGlobal}
use Rattle.model_core.proofs.WellFormed.{variable_text_well_formed}
use Rattle.plan_defs.specs.declared.plan.Line.TheVariants as lines
use Rattle.plan_text.specs.declared.statement.Keyword.{Keyword}
use Rattle.plan_text.specs.declared.statement.Keyword.TheVariants as keywords
use Rattle.plan_text.specs.declared.statement.Statement.{Statement}
use Rattle.plan_text.specs.declared.statement.Statement.TheVariants.{Global, Of}
use Rattle.plan_text.specs.declared.subject.NamedGlobal.{NamedGlobal}
use Rattle.plan_text.specs.declared.subject.NamedToken.{NamedToken}
use Rattle.plan_text.specs.declared.subject.NamedLocal.{NamedLocal}
use Rattle.plan_text.specs.Words.{IsPaused, IsUnbroken}
use Rattle.plan_text.specs.Found.{Then, Done}
use Rattle.plan_text.specs.Lines.{OneKeyword, AfterKeyword, OneLine, TokenValues}
use Rattle.plan_text.specs.Subjects.{NamesSubject, IsNameOf, IsLocalOfKind, IsGlobalOf, IsTokenOf, IsLocalOf, IsFreshName, OneGlobal, OneToken, OneLocal, OneTarget, OnePredicate}
use Rattle.plan_text.specs.Values.{OneValue}
use Rattle.plan_text.specs.Writing.{EndsLine, Adds, AddsLine}
use Rattle.plan_text.proofs.Adding.{adds_word, adds_then, adds_last, adds_at_end}
use Rattle.plan_text.proofs.Unbroken.{spelling_unbroken}

named_unbroken : (model : Model) (name : VarName) (word : List ℕ) → IsNameOf model name word → IsUnbroken word
named_unbroken model name word is = subst IsUnbroken (sym is.spells.1) (spelling_unbroken is.text is.spells.0)

abbrev found_token : TokenName → ℕ → NamedToken
found_token name pred = record { name = name; pred = pred }

token_adds : (model : Model) (names : List VarName) (token : TokenName) (slot : Slot) (old new : List ℕ) → HasToken model token slot → (Contains names (variables.Token token Start) → ⊥)
    → (word : List ℕ) × ((new ≡ old ++ (codes " " ++ word)) × IsNameOf model (variables.Token token Start) word)
    → Adds IsPaused (OneToken model names) (found_token token slot.pred) old new
token_adds model names token slot old new has fresh (word, (put, is)) =
    adds_word 32 word old new (λ found. IsFreshName model names (IsTokenOf model found)) _ (found_token token slot.pred) refl (named_unbroken model _ word is)
    (record { name = variables.Token token Start; is_name = is; wanted = (refl, (slot, (has, refl))); new = fresh }) put

target_adds : (model : Model) (target : TokenName) (old new : List ℕ) → (word : List ℕ) × ((new ≡ old ++ (codes " " ++ word)) × IsNameOf model (variables.Token target Start) word)
    → Adds IsPaused (OneTarget model) target old new
target_adds model target old new (word, (put, is)) = adds_word 32 word old new _ _ target refl (named_unbroken model _ word is) is put

-- a line is its keyword and what follows it
line_adds : (model : Model) (names : List VarName) (keyword : Keyword) (said : Statement) (old mid new : List ℕ) → Adds IsPaused OneKeyword keyword old mid
    → Adds EndsLine (AfterKeyword model names keyword) (Some said) mid new → Adds EndsLine (OneLine model names) (Some said) old new
line_adds model names keyword said old mid new first second = adds_then EndsLine OneKeyword (AfterKeyword model names) keyword (Some said) old mid new first second

pub rejected_put : {A E : Type 0} (model : Model) (name : TokenName) (old mid new : List ℕ) (r : Result A E) → IsToken model name → Adds IsPaused OneKeyword keywords.Rejected old mid
    → OnOk r ((word : List ℕ) × ((new ≡ mid ++ (codes " " ++ word)) × IsNameOf model (variables.Token name Start) word)) → OnOk r (AddsLine model (Of (lines.Rejected name)) old new)
rejected_put model name old mid new (Ok x) (slot, has) key put = λ names fresh.
    line_adds model names keywords.Rejected (Of (lines.Rejected name)) old mid new key
    (adds_last EndsLine (OneToken model names) (λ found. Some (Of (lines.Rejected found.name))) (found_token name slot.pred) mid new (adds_at_end _ _ mid new (token_adds model names name slot mid new has fresh put)))
rejected_put model name old mid new (Err e) is key put = tt

pub merged_put : {A E : Type 0} (model : Model) (name target : TokenName) (old mid named new : List ℕ) (r : Result A E) → IsToken model name → Adds IsPaused OneKeyword keywords.Merged old mid
    → (word : List ℕ) × ((named ≡ mid ++ (codes " " ++ word)) × IsNameOf model (variables.Token name Start) word)
    → OnOk r ((word : List ℕ) × ((new ≡ named ++ (codes " " ++ word)) × IsNameOf model (variables.Token target Start) word)) → OnOk r (AddsLine model (Of (lines.Merged name target)) old new)
merged_put model name target old mid named new (Ok x) (slot, has) key first second = λ names fresh.
    line_adds model names keywords.Merged (Of (lines.Merged name target)) old mid new key
    (adds_then EndsLine (OneToken model names) (λ found. Then (OneTarget model) (λ target. Done (Some (Of (lines.Merged found.name target))))) (found_token name slot.pred) _ mid named new
    (token_adds model names name slot mid named has fresh first)
    (adds_last EndsLine (OneTarget model) (λ target. Some (Of (lines.Merged name target))) target named new (adds_at_end _ _ named new (target_adds model target named new second))))
merged_put model name target old mid named new (Err e) is key first second = tt

-- the word with which the line of a token begins that takes place
abbrev pub active_keyword : Bool → Keyword
active_keyword fact = cond fact keywords.Fact keywords.Token

active_after : (model : Model) (names : List VarName) (fact : Bool) (name : TokenName) (slot : Slot) (values : List ℤ) (mid named pred new : List ℕ)
    → Adds IsPaused (OneToken model names) (found_token name slot.pred) mid named → Adds IsPaused (OnePredicate model slot.pred) tt named pred → Adds EndsLine (TokenValues model slot.pred) values pred new
    → Adds EndsLine (AfterKeyword model names (active_keyword fact)) (Some (Of (lines.Token name fact values))) mid new
active_after model names true name slot values mid named pred new first second third =
    adds_then EndsLine (OneToken model names) (λ found. Then (OnePredicate model found.pred) (λ said. Then (TokenValues model found.pred) (λ values. Done (Some (Of (lines.Token found.name true values)))))) (found_token name slot.pred) _ mid named new first
    (adds_then EndsLine (OnePredicate model slot.pred) (λ said. Then (TokenValues model slot.pred) (λ values. Done (Some (Of (lines.Token name true values))))) tt _ named pred new second
    (adds_last EndsLine (TokenValues model slot.pred) (λ values. Some (Of (lines.Token name true values))) values pred new third))
active_after model names false name slot values mid named pred new first second third =
    adds_then EndsLine (OneToken model names) (λ found. Then (OnePredicate model found.pred) (λ said. Then (TokenValues model found.pred) (λ values. Done (Some (Of (lines.Token found.name false values)))))) (found_token name slot.pred) _ mid named new first
    (adds_then EndsLine (OnePredicate model slot.pred) (λ said. Then (TokenValues model slot.pred) (λ values. Done (Some (Of (lines.Token name false values))))) tt _ named pred new second
    (adds_last EndsLine (TokenValues model slot.pred) (λ values. Some (Of (lines.Token name false values))) values pred new third))

pub active_put : {A E : Type 0} (model : Model) (fact : Bool) (name : TokenName) (number : ℕ) (values : List ℤ) (old mid named pred new : List ℕ) (r : Result A E) → IsToken model name
    → ((slot : Slot) → HasToken model name slot → slot.pred ≡ number) → Adds IsPaused OneKeyword (active_keyword fact) old mid
    → (word : List ℕ) × ((named ≡ mid ++ (codes " " ++ word)) × IsNameOf model (variables.Token name Start) word)
    → Adds IsPaused (OnePredicate model number) tt named pred → OnOk r (Adds EndsLine (TokenValues model number) values pred new) → OnOk r (AddsLine model (Of (lines.Token name fact values)) old new)
active_put model fact name number values old mid named pred new (Ok x) (slot, has) preds key first second third = λ names fresh.
    let same = sym (preds slot has) in
    line_adds model names (active_keyword fact) (Of (lines.Token name fact values)) old mid new key
    (active_after model names fact name slot values mid named pred new (token_adds model names name slot mid named has fresh first)
    (subst (λ (n : ℕ). Adds IsPaused (OnePredicate model n) tt named pred) same second) (subst (λ (n : ℕ). Adds EndsLine (TokenValues model n) values pred new) same third))
active_put model fact name number values old mid named pred new (Err e) is preds key first second third = tt

-- ---- globals and locals

pub global_put : {A E : Type 0} (model : Model) (number : ℕ) (kind : ValueKind) (variable : VarDecl) (value : ℤ) (text : NameText) (old mid named new : List ℕ) (r : Result A E) → IsLawful model → IsGlobal model number variable
    → kind ≡ variable.kind → Adds IsPaused OneKeyword keywords.Global old mid → NamesVariable model text (variables.Global number) → named ≡ mid ++ (codes " " ++ name_spelling text)
    → OnOk r (Adds IsPaused (OneValue model kind) value named new) → OnOk r (AddsLine model (Global number value) old new)
global_put model number kind variable value text old mid named new (Ok x) lawful is_global same key names_it put adds = λ names fresh.
    let found : NamedGlobal = record { number = number; kind = kind } in
    let well = variable_text_well_formed model text (variables.Global number) lawful names_it in
    line_adds model names keywords.Global (Global number value) old mid new key
    (adds_then EndsLine (OneGlobal model names) (λ found. Then (OneValue model found.kind) (λ value. Done (Some (Global found.number value)))) found _ mid named new
    (adds_word 32 (name_spelling text) mid named (λ found. IsFreshName model names (IsGlobalOf model found)) _ found refl (spelling_unbroken text well)
    (record { name = variables.Global number; is_name = record { text = text; spells = (well, refl); names = names_it }; wanted = (refl, (variable, (is_global, same))); new = fresh }) put)
    (adds_last EndsLine (OneValue model kind) (λ value. Some (Global number value)) value named new (adds_at_end _ _ named new adds)))
global_put model number kind variable value text old mid named new (Err e) lawful is_global same key names_it put adds = tt

local_named : (model : Model) (kind : ValueKind) (name : VarName) (text : NameText) → IsLocalOfKind model kind name → NamesVariable model text name → NamesSubject model text name
local_named model kind (variables.Global number) text is names_it = names_it
local_named model kind (variables.Token token part) text is names_it = absurd is
local_named model kind (variables.Local token rule number) text is names_it = names_it

pub local_put : {A E : Type 0} (model : Model) (name : VarName) (value written : ℤ) (text : NameText) (old mid named new : List ℕ) (r : Result A E) → written ≡ value → IsLawful model
    → Adds IsPaused OneKeyword keywords.Local old mid → NamesVariable model text name → named ≡ mid ++ (codes " " ++ name_spelling text)
    → OnOk r ((kind : ValueKind) × (IsLocalOfKind model kind name × Adds IsPaused (OneValue model kind) written named new)) → OnOk r (AddsLine model (Of (lines.Local name value)) old new)
local_put model name value written text old mid named new (Ok x) same lawful key names_it put (kind, (is, adds)) = λ names fresh.
    let found : NamedLocal = record { name = name; kind = kind } in
    let well = variable_text_well_formed model text name lawful names_it in
    line_adds model names keywords.Local (Of (lines.Local name value)) old mid new key
    (adds_then EndsLine (OneLocal model names) (λ found. Then (OneValue model found.kind) (λ value. Done (Some (Of (lines.Local found.name value))))) found _ mid named new
    (adds_word 32 (name_spelling text) mid named (λ found. IsFreshName model names (IsLocalOf model found)) _ found refl (spelling_unbroken text well)
    (record { name = name; is_name = record { text = text; spells = (well, refl); names = local_named model kind name text is names_it }; wanted = (refl, is); new = fresh }) put)
    (adds_last EndsLine (OneValue model kind) (λ value. Some (Of (lines.Local name value))) value named new (adds_at_end _ _ named new (subst (λ v. Adds IsPaused (OneValue model kind) v named new) same adds))))
local_put model name value written text old mid named new (Err e) same lawful key names_it put is = tt
