-- The answers of the commands, from the matches that `clap` gives.
use Rattle.std.proofs.Common.{◌≡◌, ◌∙◌, ℕ, Bool, true, refl, sym, ap, subst, List, [], ◌∷◌, Option, Some, None, codes}
use Rattle.std.specs.Prelude.{option_map, MatchOption, unwrap_or}
use Rattle.std.specs.Borrow.{Bor}
use Rattle.clap.specs.Walk.{Text, first_of, rows_of}
use Rattle.clap.specs.Simple.{App, matches_of}
use Rattle.clap.specs.Faults.{fault_of}
use Rattle.clap.specs.Matches.{first_value, found_of}
use Rattle.clap.proofs.WalkLemmas.{first_value-rows}
use Rattle.clap.specs.declared.parser.matches.ArgMatches.{ArgMatches}
use Rattle.clap.specs.declared.parser.matches.Found.{Found}
use Rattle.run_words.specs.Commands.{Form, Single, Double, Planned, app_for, HasNoTwo}
use Rattle.run_words.specs.Words.{HasOperands, HasNoOperands, HasNoPair, HasPlanWords, HasNoPlanWords}
use Rattle.run_words.specs.Requests.{told}
use Rattle.run_words.specs.declared.division.PlanWords.{PlanWords}
use Rattle.run_words.proofs.Turns.{AreSpelled}
use Rattle.run_words.proofs.Taken.{single_taken, takes_single, double_taken, takes_double, plan_taken, takes_plan}

-- what a parse by the command answers
abbrev pub Parsed : App → List Text → Option ArgMatches → Type 0
Parsed app words answer = MatchOption answer (fault_of app words ≡ [] → ⊥)
    (λ matches. (fault_of app words ≡ []) × (rows_of (found_of matches) ≡ matches_of app words))

first_value_is : (id : Text) (m : ArgMatches) (app : App) (words : List Text) → rows_of (found_of m) ≡ matches_of app words
    → first_value (found_of m) id ≡ first_of id (matches_of app words)
first_value_is id m app words same = first_value-rows (found_of m) id ∙ ap (first_of id) same

text_same : (a b : Text) → Some a ≡ Some b → a ≡ b
text_same a b e = ap (λ (o : Option Text). unwrap_or o []) e

some_none : (o : Option Text) (text : Text) → o ≡ Some text → o ≡ None → ⊥
some_none o text some none = cc

pub single_some : (app : App) (name : Text) (words : List Text) (m : ArgMatches) (r : Option (Bor Text)) → app ≡ app_for Single name → AreSpelled words
    → Parsed app words (Some m) → option_map (λ (s : Bor Text). s.now) r ≡ first_value (found_of m) (codes "first")
    → MatchOption r (HasNoOperands words) (λ operand. HasOperands words (operand.now ∷ []))
single_some app name words m r is all parsed read = go r (read ∙ first_value_is (codes "first") m (app_for Single name) words here.1 ∙ found.2)
  where
    here : (fault_of (app_for Single name) words ≡ []) × (rows_of (found_of m) ≡ matches_of (app_for Single name) words)
    here = subst (λ (a : App). Parsed a words (Some m)) is parsed

    found : (value : Text) × HasOperands words (value ∷ []) × (first_of (codes "first") (matches_of (app_for Single name) words) ≡ Some value)
    found = single_taken name words all here.0

    go : (o : Option (Bor Text)) → option_map (λ (s : Bor Text). s.now) o ≡ Some found.0 → MatchOption o (HasNoOperands words) (λ operand. HasOperands words (operand.now ∷ []))
    go None e = cc
    go (Some text) e = subst (λ (t : Text). HasOperands words (t ∷ [])) (sym (text_same text.now found.0 e)) found.1

pub single_none : (app : App) (name : Text) (words : List Text) → app ≡ app_for Single name → AreSpelled words → Parsed app words None → HasNoOperands words
single_none app name words is all parsed = λ operand d. parsed (ap (λ (a : App). fault_of a words) is ∙ takes_single name words all operand d)

pub double_some : (app : App) (name : Text) (words : List Text) (m : ArgMatches) (r : Option (Bor Text × Bor Text)) → app ≡ app_for Double name → AreSpelled words
    → Parsed app words (Some m)
    → MatchOption r (HasNoTwo (found_of m)) (λ pair. (first_value (found_of m) (codes "first") ≡ Some pair.0.now) × (first_value (found_of m) (codes "second") ≡ Some pair.1.now))
    → MatchOption r (HasNoPair words) (λ pair. HasOperands words (pair.0.now ∷ pair.1.now ∷ []))
double_some app name words m r is all parsed read = go r read
  where
    here : (fault_of (app_for Double name) words ≡ []) × (rows_of (found_of m) ≡ matches_of (app_for Double name) words)
    here = subst (λ (a : App). Parsed a words (Some m)) is parsed

    found : (one other : Text) × HasOperands words (one ∷ other ∷ []) × (first_of (codes "first") (matches_of (app_for Double name) words) ≡ Some one)
        × (first_of (codes "second") (matches_of (app_for Double name) words) ≡ Some other)
    found = double_taken name words all here.0

    one_is : first_value (found_of m) (codes "first") ≡ Some found.0
    one_is = first_value_is (codes "first") m (app_for Double name) words here.1 ∙ found.3

    other_is : first_value (found_of m) (codes "second") ≡ Some found.1
    other_is = first_value_is (codes "second") m (app_for Double name) words here.1 ∙ found.4

    go : (o : Option (Bor Text × Bor Text))
        → MatchOption o (HasNoTwo (found_of m)) (λ pair. (first_value (found_of m) (codes "first") ≡ Some pair.0.now) × (first_value (found_of m) (codes "second") ≡ Some pair.1.now))
        → MatchOption o (HasNoPair words) (λ pair. HasOperands words (pair.0.now ∷ pair.1.now ∷ []))
    go None none = absurd (none found.0 found.1 one_is other_is)
    go (Some pair) both =
        let first : found.0 ≡ pair.0.now = text_same found.0 pair.0.now (sym one_is ∙ both.0) in
        let second : found.1 ≡ pair.1.now = text_same found.1 pair.1.now (sym other_is ∙ both.1) in
        subst (λ (t : Text). HasOperands words (pair.0.now ∷ t ∷ [])) second (subst (λ (t : Text). HasOperands words (t ∷ found.1 ∷ [])) first found.2)

pub double_none : (app : App) (name : Text) (words : List Text) → app ≡ app_for Double name → AreSpelled words → Parsed app words None → HasNoPair words
double_none app name words is all parsed = λ one other d. parsed (ap (λ (a : App). fault_of a words) is ∙ takes_double name words all one other d)

pub plan_some : (app : App) (name : Text) (words : List Text) (m : ArgMatches) (r : Option PlanWords) → app ≡ app_for Planned name → AreSpelled words
    → Parsed app words (Some m)
    → MatchOption r (first_value (found_of m) (codes "first") ≡ None) (λ plan. (first_value (found_of m) (codes "first") ≡ Some plan.file.now)
    × (first_value (found_of m) (codes "steps") ≡ told plan.steps) × (first_value (found_of m) (codes "tokens") ≡ told plan.tokens))
    → MatchOption r (HasNoPlanWords words) (λ plan. HasPlanWords words plan.file.now (told plan.steps) (told plan.tokens))
plan_some app name words m r is all parsed read = go r read
  where
    here : (fault_of (app_for Planned name) words ≡ []) × (rows_of (found_of m) ≡ matches_of (app_for Planned name) words)
    here = subst (λ (a : App). Parsed a words (Some m)) is parsed

    found : (value : Text) × (steps : Option Text) × (tokens : Option Text) × HasPlanWords words value steps tokens
        × (first_of (codes "first") (matches_of (app_for Planned name) words) ≡ Some value)
        × (first_of (codes "steps") (matches_of (app_for Planned name) words) ≡ steps) × (first_of (codes "tokens") (matches_of (app_for Planned name) words) ≡ tokens)
    found = plan_taken name words all here.0

    file_is : first_value (found_of m) (codes "first") ≡ Some found.0
    file_is = first_value_is (codes "first") m (app_for Planned name) words here.1 ∙ found.4

    steps_is : first_value (found_of m) (codes "steps") ≡ found.1
    steps_is = first_value_is (codes "steps") m (app_for Planned name) words here.1 ∙ found.5

    tokens_is : first_value (found_of m) (codes "tokens") ≡ found.2
    tokens_is = first_value_is (codes "tokens") m (app_for Planned name) words here.1 ∙ found.6

    go : (o : Option PlanWords)
        → MatchOption o (first_value (found_of m) (codes "first") ≡ None) (λ plan. (first_value (found_of m) (codes "first") ≡ Some plan.file.now)
        × (first_value (found_of m) (codes "steps") ≡ told plan.steps) × (first_value (found_of m) (codes "tokens") ≡ told plan.tokens))
        → MatchOption o (HasNoPlanWords words) (λ plan. HasPlanWords words plan.file.now (told plan.steps) (told plan.tokens))
    go None none = absurd (some_none (first_value (found_of m) (codes "first")) found.0 file_is none)
    go (Some plan) both =
        let file : found.0 ≡ plan.file.now = text_same found.0 plan.file.now (sym file_is ∙ both.0) in
        let steps : found.1 ≡ told plan.steps = sym steps_is ∙ both.1 in
        let tokens : found.2 ≡ told plan.tokens = sym tokens_is ∙ both.2 in
        subst (λ (t : Option Text). HasPlanWords words plan.file.now (told plan.steps) t) tokens
        (subst (λ (t : Option Text). HasPlanWords words plan.file.now t found.2) steps
        (subst (λ (t : Text). HasPlanWords words t found.1 found.2) file found.3))

pub plan_none : (app : App) (name : Text) (words : List Text) → app ≡ app_for Planned name → AreSpelled words → Parsed app words None → HasNoPlanWords words
plan_none app name words is all parsed = λ value steps tokens d. parsed (ap (λ (a : App). fault_of a words) is ∙ takes_plan name words all value steps tokens d)
