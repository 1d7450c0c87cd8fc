-- What words ask for, by their first one.
use Rattle.std.proofs.Common.{◌≡◌, ◌∙◌, ℕ, Bool, true, false, refl, sym, ap, ap₂, subst, List, [], ◌∷◌, Option, Some, None, true≢false, codes}
use Rattle.std.specs.Prelude.{MatchOption, unwrap_or}
use Rattle.std.specs.Borrow.{Bor}
use Rattle.std.specs.Str.{bytes_eq}
use Rattle.std.specs.Str.Parse.{digits_value}
use Rattle.std.proofs.lemmas.Slice.Eq.{bytes_eq-Decides}
use Rattle.run_words.specs.Words.{Parts, no_parts, Divides, HasOperands, HasNoOperands, HasNoPair, HasPlanWords, HasNoPlanWords}
use Rattle.run_words.specs.Requests.{Asks, AreNoCommand, Answers, AreStepsOf, AreTokensOf, AreSteps, AreTokens, IsNoNumber, IsNoVerb, IsNumber, IsNoPlan, IsPlanOf, told, told_request, verb_word}
use Rattle.run_words.specs.Laws.{WordsAskOnce}
use Rattle.run_words.specs.declared.division.PlanWords.{PlanWords}
use Rattle.run_words.specs.declared.request.Request.{Request}
use Rattle.run_words.specs.declared.request.Request.TheVariants.{Plan, Script, Check, Show, Generate, Try}
use Rattle.run_words.specs.declared.request.Verb.{Verb}
use Rattle.run_words.specs.declared.request.Verb.TheVariants as verb
use Rattle.run_words.proofs.Reading.{divides_once}

abbrev verb_for : Request (List ℕ) → Verb
verb_for (Plan file steps tokens) = verb.Plan
verb_for (Script file) = verb.Script
verb_for (Check file plan) = verb.Check
verb_for (Show file) = verb.Show
verb_for (Generate number) = verb.Generate
verb_for (Try number) = verb.Try

asked : (word : List ℕ) (rest : List (List ℕ)) (request : Request (List ℕ)) → Asks (word ∷ rest) request → word ≡ verb_word (verb_for request)
asked word rest (Plan file steps tokens) a = a.0
asked word rest (Script file) a = a.0
asked word rest (Check file plan) a = a.0
asked word rest (Show file) a = a.0
asked word rest (Generate number) a = a.0
asked word rest (Try number) a = a.0

unequal : (a b : List ℕ) → bytes_eq a b ≡ false → a ≡ b → ⊥
unequal a b differ same = true≢false (sym ((bytes_eq-Decides a b).1 same) ∙ differ)

-- ---- one division

abbrev first_or : List (List ℕ) → List ℕ
first_or [] = []
first_or (x ∷ xs) = x

abbrev second_or : List (List ℕ) → List ℕ
second_or [] = []
second_or (x ∷ xs) = first_or xs

operand_once : (rest : List (List ℕ)) (a b : List ℕ) → HasOperands rest (a ∷ []) → HasOperands rest (b ∷ []) → a ≡ b
operand_once rest a b one other =
    ap (λ (p : Parts). first_or p.operands) (divides_once rest (record no_parts { operands = a ∷ [] }) (record no_parts { operands = b ∷ [] }) one other)

pair_once : (rest : List (List ℕ)) (a b c d : List ℕ) → HasOperands rest (a ∷ b ∷ []) → HasOperands rest (c ∷ d ∷ []) → (a ≡ c) × (b ≡ d)
pair_once rest a b c d one other =
    let same = divides_once rest (record no_parts { operands = a ∷ b ∷ [] }) (record no_parts { operands = c ∷ d ∷ [] }) one other in
    (ap (λ (p : Parts). first_or p.operands) same, ap (λ (p : Parts). second_or p.operands) same)

plan_once : (rest : List (List ℕ)) (a b : List ℕ) (s t u v : Option (List ℕ)) → HasPlanWords rest a s t → HasPlanWords rest b u v → (a ≡ b) × (s ≡ u) × (t ≡ v)
plan_once rest a b s t u v one other =
    let same = divides_once rest (record { operands = a ∷ []; steps = s; tokens = t }) (record { operands = b ∷ []; steps = u; tokens = v }) one other in
    (ap (λ (p : Parts). first_or p.operands) same, ap (λ (p : Parts). p.steps) same, ap (λ (p : Parts). p.tokens) same)

number_once : (least most : ℕ) (text : List ℕ) (m n : ℕ) → IsNumber least most text m → IsNumber least most text n → m ≡ n
number_once least most text m n a b = a.2 ∙ sym b.2

steps_once : (text : Option (List ℕ)) (s t : Option ℕ) → AreStepsOf text s → AreStepsOf text t → s ≡ t
steps_once None s t a b = a ∙ sym b
steps_once (Some text) s t a b = a.1 ∙ ap (λ (n : ℕ). Some n) (number_once 1 1000000 text a.0 b.0 a.2 b.2) ∙ sym b.1

tokens_once : (text : Option (List ℕ)) (s t : ℕ) → AreTokensOf text s → AreTokensOf text t → s ≡ t
tokens_once None s t a b = a ∙ sym b
tokens_once (Some text) s t a b = number_once 0 512 text s t a b

given_once : (rest : List (List ℕ)) (m n : ℕ) → ((text : List ℕ) × HasOperands rest (text ∷ []) × IsNumber 1 200 text m)
    → ((text : List ℕ) × HasOperands rest (text ∷ []) × IsNumber 1 200 text n) → m ≡ n
given_once rest m n a b =
    let same = operand_once rest a.0 b.0 a.1 b.1 in
    number_once 1 200 b.0 m n (subst (λ (t : List ℕ). IsNumber 1 200 t m) same a.2) b.2

-- ---- one request

pub asks_once : WordsAskOnce
asks_once [] one other a b = absurd a
asks_once (word ∷ rest) (Plan f s t) (Plan g u v) a b =
    let same = plan_once rest f g a.1.0 a.1.1 b.1.0 b.1.1 a.1.2 b.1.2 in
    let steps = steps_once b.1.0 s u (subst (λ (o : Option (List ℕ)). AreStepsOf o s) same.1 a.1.4) b.1.4 in
    let tokens = tokens_once b.1.1 t v (subst (λ (o : Option (List ℕ)). AreTokensOf o t) same.2 a.1.5) b.1.5 in
    ap₂ (λ (x : List ℕ) (y : Option ℕ). Plan x y t) same.0 steps ∙ ap (λ (x : ℕ). Plan g u x) tokens
asks_once (word ∷ rest) (Script f) (Script g) a b = ap (λ (x : List ℕ). Script x) (operand_once rest f g a.1 b.1)
asks_once (word ∷ rest) (Check f p) (Check g q) a b =
    let same = pair_once rest f p g q a.1 b.1 in ap₂ (λ (x y : List ℕ). Check x y) same.0 same.1
asks_once (word ∷ rest) (Show f) (Show g) a b = ap (λ (x : List ℕ). Show x) (operand_once rest f g a.1 b.1)
asks_once (word ∷ rest) (Generate m) (Generate n) a b = ap (λ (x : ℕ). Generate x) (given_once rest m n a.1 b.1)
asks_once (word ∷ rest) (Try m) (Try n) a b = ap (λ (x : ℕ). Try x) (given_once rest m n a.1 b.1)
asks_once (word ∷ rest) one other a b =
    absurd (unequal (verb_word (verb_for one)) (verb_word (verb_for other)) refl (sym (asked word rest one a) ∙ asked word rest other b))

-- ---- no request

pub no_words : AreNoCommand []
no_words request a = a

pub no_verb : (word : List ℕ) (rest : List (List ℕ)) → IsNoVerb word → AreNoCommand (word ∷ rest)
no_verb word rest none request a = none (verb_for request) (asked word rest request a)

pub no_verb_of : (words : List (List ℕ)) (word : List ℕ) (rest : List (List ℕ)) → IsNoVerb word → words ≡ word ∷ rest → AreNoCommand words
no_verb_of words word rest none is = subst AreNoCommand (sym is) (no_verb word rest none)

pub no_plan : (rest : List (List ℕ))
    → ((file : List ℕ) (s t : Option (List ℕ)) (steps : Option ℕ) (tokens : ℕ) → HasPlanWords rest file s t → (file ≡ [] → ⊥) → AreStepsOf s steps → AreTokensOf t tokens → ⊥)
    → AreNoCommand (codes "plan" ∷ rest)
no_plan rest none (Plan file steps tokens) a = none file a.1.0 a.1.1 steps tokens a.1.2 a.1.3 a.1.4 a.1.5
no_plan rest none request a = absurd (unequal (codes "plan") (verb_word (verb_for request)) refl (asked (codes "plan") rest request a))

pub no_script : (rest : List (List ℕ)) → ((file : List ℕ) → HasOperands rest (file ∷ []) → (file ≡ [] → ⊥) → ⊥) → AreNoCommand (codes "script" ∷ rest)
no_script rest none (Script file) a = none file a.1 a.2
no_script rest none request a = absurd (unequal (codes "script") (verb_word (verb_for request)) refl (asked (codes "script") rest request a))

pub no_show : (rest : List (List ℕ)) → ((file : List ℕ) → HasOperands rest (file ∷ []) → (file ≡ [] → ⊥) → ⊥) → AreNoCommand (codes "show" ∷ rest)
no_show rest none (Show file) a = none file a.1 a.2
no_show rest none request a = absurd (unequal (codes "show") (verb_word (verb_for request)) refl (asked (codes "show") rest request a))

pub no_check : (rest : List (List ℕ)) → ((file plan : List ℕ) → HasOperands rest (file ∷ plan ∷ []) → (file ≡ [] → ⊥) → (plan ≡ [] → ⊥) → ⊥)
    → AreNoCommand (codes "check" ∷ rest)
no_check rest none (Check file plan) a = none file plan a.1 a.2 a.3
no_check rest none request a = absurd (unequal (codes "check") (verb_word (verb_for request)) refl (asked (codes "check") rest request a))

pub no_generate : (rest : List (List ℕ)) → ((text : List ℕ) (number : ℕ) → HasOperands rest (text ∷ []) → IsNumber 1 200 text number → ⊥)
    → AreNoCommand (codes "gen" ∷ rest)
no_generate rest none (Generate number) a = none a.1.0 number a.1.1 a.1.2
no_generate rest none request a = absurd (unequal (codes "gen") (verb_word (verb_for request)) refl (asked (codes "gen") rest request a))

pub no_try : (rest : List (List ℕ)) → ((text : List ℕ) (number : ℕ) → HasOperands rest (text ∷ []) → IsNumber 1 200 text number → ⊥)
    → AreNoCommand (codes "try" ∷ rest)
no_try rest none (Try number) a = none a.1.0 number a.1.1 a.1.2
no_try rest none request a = absurd (unequal (codes "try") (verb_word (verb_for request)) refl (asked (codes "try") rest request a))

-- ---- what is so of one division is so of all

pub empty_file : (rest : List (List ℕ)) (file : List ℕ) → HasOperands rest (file ∷ []) → file ≡ [] → (other : List ℕ) → HasOperands rest (other ∷ []) → (other ≡ [] → ⊥) → ⊥
empty_file rest file d empty other e nonempty = nonempty (operand_once rest other file e d ∙ empty)

pub no_number : (rest : List (List ℕ)) (text : List ℕ) → HasOperands rest (text ∷ []) → IsNoNumber 1 200 text
    → (other : List ℕ) (number : ℕ) → HasOperands rest (other ∷ []) → IsNumber 1 200 other number → ⊥
no_number rest text d none other number e is = none number (subst (λ (t : List ℕ). IsNumber 1 200 t number) (operand_once rest other text e d) is)

pub empty_pair : (rest : List (List ℕ)) (file plan : List ℕ) → HasOperands rest (file ∷ plan ∷ []) → ((file ≡ [] → ⊥) → (plan ≡ [] → ⊥) → ⊥)
    → (one other : List ℕ) → HasOperands rest (one ∷ other ∷ []) → (one ≡ [] → ⊥) → (other ≡ [] → ⊥) → ⊥
empty_pair rest file plan d empty one other e first second =
    let same = pair_once rest one other file plan e d in
    empty (λ none. first (same.0 ∙ none)) (λ none. second (same.1 ∙ none))

pub plan_none_of : (rest : List (List ℕ)) (words : PlanWords) → HasPlanWords rest words.file.now (told words.steps) (told words.tokens) → IsNoPlan words
    → AreNoCommand (codes "plan" ∷ rest)
plan_none_of rest words d none = no_plan rest (λ file s t steps tokens e nonempty are_steps are_tokens.
    let same = plan_once rest file words.file.now s t (told words.steps) (told words.tokens) e d in
    none steps tokens (λ empty. nonempty (same.0 ∙ empty))
    (subst (λ (o : Option (List ℕ)). AreStepsOf o steps) same.1 are_steps) (subst (λ (o : Option (List ℕ)). AreTokensOf o tokens) same.2 are_tokens))

pub plan_answers : (rest : List (List ℕ)) (words : PlanWords) (answer : Option (Request (Bor (List ℕ))))
    → HasPlanWords rest words.file.now (told words.steps) (told words.tokens) → MatchOption answer (IsNoPlan words) (IsPlanOf words)
    → Answers (codes "plan" ∷ rest) answer
plan_answers rest words None d none = plan_none_of rest words d none
plan_answers rest words (Some request) d some =
    subst (λ (r : Request (Bor (List ℕ))). Asks (codes "plan" ∷ rest) (told_request r)) (sym some.2)
    (refl, (told words.steps, told words.tokens, d, some.3, some.4, some.5))
