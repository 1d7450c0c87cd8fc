-- Which decision a command asks for.
use Rattle.std.proofs.Common.{◌≡◌, ℕ, ℤ, List, Option, Some, None, Result, Ok, Err, MatchOption, refl, sym, ap, ◌∙◌, subst}
use Rattle.std.specs.Prelude.{IfOk, IsErr, MatchResult}
use Rattle.std.proofs.lemmas.Bool.{false≢true}
use Rattle.std.specs.Option.{option_map}
use Rattle.eu_name.specs.declared.name.TokenName.{TokenName}
use Rattle.eu_name.specs.declared.name.VarName.{VarName}
use Rattle.eu_name.specs.declared.name_text.NameText.{NameText}
use Rattle.domain_core.specs.declared.kind.Kind.{Kind}
use Rattle.model_core.specs.declared.decision.ConArg.{ConArg}
use Rattle.model_core.specs.declared.decision.Decision.{Decision}
use Rattle.model_core.specs.declared.decision.Decision.TheVariants as decisions
use Rattle.model_core.specs.declared.item.Rel.{Rel}
use Rattle.model_core.specs.declared.model.Model.{Model}
use Rattle.model_core.specs.declared.variable.ValueKind.{ValueKind}
use Rattle.model_core.specs.Kinds.{IsVariableOfKind}
use Rattle.model_core.specs.Lawful.{IsLawful}
use Rattle.model_core.specs.Names.{NamesToken, NamesVariable}
use Rattle.model_core.proofs.Kinding.{kind_once}
use Rattle.model_core.proofs.Naming.{names_one_token, names_one_variable}
use Rattle.script_lang.specs.declared.command.Command.{Command}
use Rattle.script_lang.specs.declared.command.Command.TheVariants as commands
use Rattle.script_lang.specs.Naming.{SaysValue, AsksDecision, AsksNothing, SayArguments, StandsFor, StandForArguments, StandsForDecision, FindsDecision}
use Rattle.script_lang.proofs.Arguing.{said_once}
use Rattle.script_lang.proofs.Kinding.{value_said_once}

-- ---- what is so where something was found, and where nothing was

module _ {X : Type 0} (P : Type 0) (Q : X → Type 0) (found : Option X) where
  pub none_is : found ≡ None → MatchOption found P Q → P
  none_is is fact = subst (λ (f : Option X). MatchOption f P Q) is fact

  pub some_is : (x : X) → found ≡ Some x → MatchOption found P Q → Q x
  some_is x is fact = subst (λ (f : Option X). MatchOption f P Q) is fact

-- the text names no token, or no variable
abbrev pub NamesNoToken : Model → NameText → Type 0
NamesNoToken model text = (token : TokenName) → NamesToken model text token → ⊥

abbrev pub NamesNoVariable : Model → NameText → Type 0
NamesNoVariable model text = (variable : VarName) → NamesVariable model text variable → ⊥

-- ---- one decision

pub asks_one : (model : Model) (command : Command) (one other : Decision) → IsLawful model → AsksDecision model command one → AsksDecision model command other → one ≡ other
asks_one model (commands.Specify text word) (decisions.Specify name value) (decisions.Specify name' value') lawful (names, (kind, (of, says))) (names', (kind', (of', says'))) =
    let same : name ≡ name' = names_one_variable model text name name' lawful names names' in
    let kinds : kind ≡ kind' = kind_once model name kind kind' of (subst (IsVariableOfKind model kind') (sym same) of') in
    let values : value ≡ value' = value_said_once model kind word value value' lawful says (subst (λ (k : ValueKind). SaysValue model k value' word) (sym kinds) says') in
    cc
asks_one model (commands.Activate text) (decisions.Activate token) (decisions.Activate token') lawful names names' =
    ap decisions.Activate (names_one_token model text token token' lawful names names')
asks_one model (commands.Merge text into) (decisions.Merge token target) (decisions.Merge token' target') lawful (names, into_names) (names', into_names') =
    let tokens : token ≡ token' = names_one_token model text token token' lawful names names' in
    let targets : target ≡ target' = names_one_token model into target target' lawful into_names into_names' in
    cc
asks_one model (commands.Reject text) (decisions.Reject token) (decisions.Reject token') lawful names names' =
    ap decisions.Reject (names_one_token model text token token' lawful names names')
asks_one model (commands.Order text after) (decisions.Order first second) (decisions.Order first' second') lawful (names, after_names) (names', after_names') =
    let firsts : first ≡ first' = names_one_token model text first first' lawful names names' in
    let seconds : second ≡ second' = names_one_token model after second second' lawful after_names after_names' in
    cc
asks_one model (commands.Post kind words) (decisions.Constrain other given) (decisions.Constrain other' given') lawful (is, say) (is', say') =
    let kinds : other ≡ other' = is ∙ sym is' in
    let arguments : given ≡ given' = said_once model lawful kind words given given' say say' in
    cc
asks_one model (commands.Relate relation text after) (decisions.Relate other first second) (decisions.Relate other' first' second') lawful (is, names, after_names) (is', names', after_names') =
    let relations : other ≡ other' = is ∙ sym is' in
    let firsts : first ≡ first' = names_one_token model text first first' lawful names names' in
    let seconds : second ≡ second' = names_one_token model after second second' lawful after_names after_names' in
    cc
asks_one model (commands.Specify text word) (decisions.Specify name value) other lawful asks asks' = absurd asks'
asks_one model (commands.Activate text) (decisions.Activate token) other lawful asks asks' = absurd asks'
asks_one model (commands.Merge text into) (decisions.Merge token target) other lawful asks asks' = absurd asks'
asks_one model (commands.Reject text) (decisions.Reject token) other lawful asks asks' = absurd asks'
asks_one model (commands.Order text after) (decisions.Order first second) other lawful asks asks' = absurd asks'
asks_one model (commands.Post kind words) (decisions.Constrain other given) decision lawful asks asks' = absurd asks'
asks_one model (commands.Relate relation text after) (decisions.Relate other first second) decision lawful asks asks' = absurd asks'
asks_one model command one other lawful asks asks' = absurd asks

-- ---- values of variables

-- the word says no value of the variable's kind
abbrev pub SaysNoValue : Model → VarName → List ℕ → Type 0
SaysNoValue model name word = (kind : ValueKind) (value : ℤ) → IsVariableOfKind model kind name → SaysValue model kind value word → ⊥

-- the decision stands for that which gives the variable the value that the word says
abbrev pub IsSpecified : Model → VarName → List ℕ → Decision → Type 0
IsSpecified model name word decision =
    (kind : ValueKind) × ((value : ℤ) × (IsVariableOfKind model kind name × SaysValue model kind value word × StandsForDecision decision (decisions.Specify name value)))

pub specified_none : (model : Model) (name : VarName) (word : List ℕ) (kind : ValueKind) → IsVariableOfKind model kind name → ((value : ℤ) → SaysValue model kind value word → ⊥) → SaysNoValue model name word
specified_none model name word kind of none = λ other value is says.
    none value (subst (λ (k : ValueKind). SaysValue model k value word) (kind_once model name other kind is of) says)

pub specified_some : (model : Model) (name : VarName) (word : List ℕ) (kind : ValueKind) (value kept : ℤ) → kept ≡ value → IsVariableOfKind model kind name
    → (said : ℤ) × (SaysValue model kind said word × StandsFor value said) → IsSpecified model name word (decisions.Specify name kept)
specified_some model name word kind value kept same of (said, (says, stands)) =
    (kind, (said, (of, says, (refl, subst (λ (v : ℤ). StandsFor v said) (sym same) stands))))

pub no_specify : (model : Model) (text : NameText) (word : List ℕ) → NamesNoVariable model text → AsksNothing model (commands.Specify text word)
no_specify model text word none (decisions.Specify name value) asks = none name asks.0
no_specify model text word none decision asks = asks

pub specify_found : (model : Model) (text : NameText) (word : List ℕ) (name : VarName) (answer : Option Decision) → IsLawful model → NamesVariable model text name
    → MatchOption answer (SaysNoValue model name word) (IsSpecified model name word)
    → FindsDecision model (commands.Specify text word) answer
specify_found model text word name (Some decision) lawful names (kind, (value, (of, says, stands))) =
    (decisions.Specify name value, ((names, (kind, (of, says))), stands))
specify_found model text word name None lawful names none = by
  where
    by : AsksNothing model (commands.Specify text word)
    by (decisions.Specify name' value) (names', (kind, (of, says))) =
        let same : name' ≡ name = names_one_variable model text name' name lawful names' names in
        none kind value (subst (IsVariableOfKind model kind) same of) says
    by decision asks = asks

-- ---- tokens

pub no_activate : (model : Model) (text : NameText) → NamesNoToken model text → AsksNothing model (commands.Activate text)
no_activate model text none (decisions.Activate token) names = none token names
no_activate model text none decision asks = asks

pub no_reject : (model : Model) (text : NameText) → NamesNoToken model text → AsksNothing model (commands.Reject text)
no_reject model text none (decisions.Reject token) names = none token names
no_reject model text none decision asks = asks

-- the texts don't both name tokens
abbrev pub NameNoTokens : Model → NameText → NameText → Type 0
NameNoTokens model one other = (first second : TokenName) → NamesToken model one first → NamesToken model other second → ⊥

pub no_merge : (model : Model) (text into : NameText) → NameNoTokens model text into → AsksNothing model (commands.Merge text into)
no_merge model text into none (decisions.Merge token target) (names, names') = none token target names names'
no_merge model text into none decision asks = asks

pub no_order : (model : Model) (text after : NameText) → NameNoTokens model text after → AsksNothing model (commands.Order text after)
no_order model text after none (decisions.Order first second) (names, names') = none first second names names'
no_order model text after none decision asks = asks

pub no_relate : (model : Model) (relation : Rel) (text after : NameText) → NameNoTokens model text after → AsksNothing model (commands.Relate relation text after)
no_relate model relation text after none (decisions.Relate other first second) (is, names, names') = none first second names names'
no_relate model relation text after none decision asks = asks

pub both_named : {E F : Type 0} (model : Model) (one other : NameText) (first : TokenName) (second : Result (Option TokenName) E) (result : Result (Option (TokenName × TokenName)) F) → NamesToken model one first
    → IfOk second (λ answer. MatchOption answer (NamesNoToken model other) (NamesToken model other))
    → MatchResult second (λ found. result ≡ Ok (option_map (λ token. (first, token)) found)) (λ _. IsErr result)
    → IfOk result (λ answer. MatchOption answer (NameNoTokens model one other) (λ tokens. NamesToken model one tokens.0 × NamesToken model other tokens.1))
both_named {F = F} model one other first (Ok (Some token)) result names names' is =
    subst (λ (r : Result (Option (TokenName × TokenName)) F). IfOk r (λ answer. MatchOption answer (NameNoTokens model one other) (λ tokens. NamesToken model one tokens.0 × NamesToken model other tokens.1))) (sym is) (names, names')
both_named {F = F} model one other first (Ok None) result names none is =
    subst (λ (r : Result (Option (TokenName × TokenName)) F). IfOk r (λ answer. MatchOption answer (NameNoTokens model one other) (λ tokens. NamesToken model one tokens.0 × NamesToken model other tokens.1))) (sym is) (λ a b named named'. none b named')
both_named model one other first (Err fault) (Ok found) names none is = absurd (false≢true is)
both_named model one other first (Err fault) (Err other_fault) names none is = tt

-- ---- constraints

-- the words say no arguments
abbrev pub SayNoArguments : Model → Kind → List (List ℕ) → Type 0
SayNoArguments model kind words = (given : List ConArg) → SayArguments model kind words given → ⊥

pub no_post : (model : Model) (kind : Kind) (words : List (List ℕ)) → SayNoArguments model kind words → AsksNothing model (commands.Post kind words)
no_post model kind words none (decisions.Constrain other given) (is, say) = none given say
no_post model kind words none decision asks = asks

pub post_found : (model : Model) (kind : Kind) (words : List (List ℕ)) (given : List ConArg)
    → (asked : List ConArg) × (SayArguments model kind words asked × StandForArguments given asked)
    → FindsDecision model (commands.Post kind words) (Some (decisions.Constrain kind given))
post_found model kind words given (asked, (say, stand)) = (decisions.Constrain kind asked, ((refl, say), (refl, stand)))
