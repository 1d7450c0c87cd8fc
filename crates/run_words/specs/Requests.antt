-- What the words after the program's name ask for.
use Rattle.std.specs.Prelude.{◌≡◌, ◌≢◌, ◌≤◌, ℕ, List, [], ◌∷◌, Option, Some, None, MatchOption, codes, length}
use Rattle.std.specs.Borrow.{Bor}
use Rattle.std.specs.Str.Parse.{IsNumeral, digits_value}
use Rattle.run_words.specs.Words.{HasOperands, HasPlanWords}
use Rattle.run_words.specs.declared.division.PlanWords.{PlanWords}
use Rattle.run_words.specs.declared.request.Verb.{Verb}
use Rattle.run_words.specs.declared.request.Verb.TheVariants as verb
use Rattle.run_words.specs.declared.request.Request.{Request}
use Rattle.run_words.specs.declared.request.Request.TheVariants.{Plan, Script, Check, Show, Generate, Try}

-- ---- numbers

-- one to seven digits, whose value lies within the bounds
abbrev pub IsNumber : ℕ → ℕ → List ℕ → ℕ → Type 0
IsNumber least most text number =
    IsNumeral 10 text × (length text ≤ 7) × (number ≡ digits_value 10 text) × (least ≤ number) × (number ≤ most)

abbrev pub IsNoNumber : ℕ → ℕ → List ℕ → Type 0
IsNoNumber least most text = (number : ℕ) → IsNumber least most text number → ⊥

-- the steps that the option's value gives; without it, none
abbrev pub AreStepsOf : Option (List ℕ) → Option ℕ → Type 0
AreStepsOf None steps = steps ≡ None
AreStepsOf (Some text) steps = (number : ℕ) × (steps ≡ Some number) × IsNumber 1 1000000 text number

-- the tokens that the option's value gives; without it, 512
abbrev pub AreTokensOf : Option (List ℕ) → ℕ → Type 0
AreTokensOf None tokens = tokens ≡ 512
AreTokensOf (Some text) tokens = IsNumber 0 512 text tokens

-- ---- requests

-- what each command begins with
abbrev pub verb_word : Verb → List ℕ
verb_word verb.Plan = codes "plan"
verb_word verb.Script = codes "script"
verb_word verb.Check = codes "check"
verb_word verb.Show = codes "show"
verb_word verb.Generate = codes "gen"
verb_word verb.Try = codes "try"

-- no command begins with the word
abbrev pub IsNoVerb : List ℕ → Type 0
IsNoVerb word = (verb : Verb) → word ≢ verb_word verb

-- the words ask for the request
abbrev pub Asks : List (List ℕ) → Request (List ℕ) → Type 0
Asks [] request = ⊥
Asks (word ∷ rest) (Plan file steps tokens) = (word ≡ codes "plan") × ((steps_text tokens_text : Option (List ℕ))
    × HasPlanWords rest file steps_text tokens_text × (file ≢ []) × AreStepsOf steps_text steps × AreTokensOf tokens_text tokens)
Asks (word ∷ rest) (Script file) = (word ≡ codes "script") × HasOperands rest (file ∷ []) × (file ≢ [])
Asks (word ∷ rest) (Check file plan) = (word ≡ codes "check") × HasOperands rest (file ∷ plan ∷ []) × (file ≢ []) × (plan ≢ [])
Asks (word ∷ rest) (Show file) = (word ≡ codes "show") × HasOperands rest (file ∷ []) × (file ≢ [])
Asks (word ∷ rest) (Generate number) = (word ≡ codes "gen") × ((text : List ℕ) × HasOperands rest (text ∷ []) × IsNumber 1 200 text number)
Asks (word ∷ rest) (Try number) = (word ≡ codes "try") × ((text : List ℕ) × HasOperands rest (text ∷ []) × IsNumber 1 200 text number)

-- the words ask for nothing
abbrev pub AreNoCommand : List (List ℕ) → Type 0
AreNoCommand words = (request : Request (List ℕ)) → Asks words request → ⊥

-- ---- answers over references

-- the text, if there is one
abbrev pub told : Option (Bor (List ℕ)) → Option (List ℕ)
told None = None
told (Some text) = Some text.now

-- the request, with its files' names in place of references to them
abbrev pub told_request : Request (Bor (List ℕ)) → Request (List ℕ)
told_request (Plan file steps tokens) = Plan file.now steps tokens
told_request (Script file) = Script file.now
told_request (Check file plan) = Check file.now plan.now
told_request (Show file) = Show file.now
told_request (Generate number) = Generate number
told_request (Try number) = Try number

-- the answer is what the words ask for, or that they ask for nothing
abbrev pub Answers : List (List ℕ) → Option (Request (Bor (List ℕ))) → Type 0
Answers words answer = MatchOption answer (AreNoCommand words) (λ request. Asks words (told_request request))

abbrev pub AreSteps : Option (Bor (List ℕ)) → Option ℕ → Type 0
AreSteps text steps = AreStepsOf (told text) steps

abbrev pub AreNoSteps : Option (Bor (List ℕ)) → Type 0
AreNoSteps text = (steps : Option ℕ) → AreSteps text steps → ⊥

abbrev pub AreTokens : Option (Bor (List ℕ)) → ℕ → Type 0
AreTokens text tokens = AreTokensOf (told text) tokens

abbrev pub AreNoTokens : Option (Bor (List ℕ)) → Type 0
AreNoTokens text = (tokens : ℕ) → AreTokens text tokens → ⊥

-- the request is to plan with what these words give
abbrev pub IsPlanOf : PlanWords → Request (Bor (List ℕ)) → Type 0
IsPlanOf words request = (steps : Option ℕ) × (tokens : ℕ) × (request ≡ Plan words.file steps tokens) × (words.file.now ≢ [])
    × AreSteps words.steps steps × AreTokens words.tokens tokens

-- there is no request to plan with these words
abbrev pub IsNoPlan : PlanWords → Type 0
IsNoPlan words = (steps : Option ℕ) (tokens : ℕ) → words.file.now ≢ [] → AreSteps words.steps steps → AreTokens words.tokens tokens → ⊥
