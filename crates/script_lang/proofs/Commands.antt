-- Laws of what words and lines ask for.
use Rattle.std.proofs.Common.{◌≡◌, ℕ, ◌≤◌, ◌<◌, ◌⊎◌, List, [], ◌∷◌, length, take, Result, Ok, Err, Some, None, refl, sym, ap, ◌∙◌, subst, inl, inr, arith}
use Rattle.std.specs.Prelude.{codes, ⊤, IsOkAnd, MatchResult}
use Rattle.std.specs.Fmt.{decimal}
use Rattle.std.proofs.lemmas.Bool.{cases_lt}
use Rattle.std.proofs.lemmas.Fmt.{decimal_injective}
use Rattle.std.proofs.lemmas.List.{take_all, length-take-le}
use Rattle.domain_core.specs.declared.kind.Kind.{Kind}
use Rattle.eu_name.specs.declared.name_text.NameText.{NameText}
use Rattle.eu_name.specs.Spelling.{Spells}
use Rattle.eu_name.proofs.Names.{spells_one_name}
use Rattle.model_core.specs.declared.item.Rel.{Rel}
use Rattle.script_lang.specs.declared.command.Command.{Command}
use Rattle.script_lang.specs.declared.command.Command.TheVariants as commands
use Rattle.script_lang.specs.declared.command.LineFault.{LineFault}
use Rattle.script_lang.specs.declared.command.LineFault.TheVariants.{TooLong, Syntax, Memory}
use Rattle.script_lang.specs.Line.{IsCommand, KeepsWord, AnswersWords, ReadsLine}
use Rattle.script_lang.specs.Words.{words_of}
use Rattle.script_lang.specs.declared.verb.Verb.{Verb}
use Rattle.script_lang.specs.declared.verb.Verb.TheVariants as verbs
use Rattle.script_lang.specs.Laws.{WordsAskOnce, LinesAskOnce, LinesHaveOneAnswer, FrontDecides}
use Rattle.script_lang.specs.KindWords.{constraint_word, relation_word}
use Rattle.script_lang.specs.Operands.{Says, Tells, IsValueOf, IsOne, AreTwo, AreConstraint, AreRelation, AreBounds}
use Rattle.script_lang.specs.Verbs.{verb_word, all_verbs, verb_of}
use Rattle.script_lang.proofs.Spelled.{spelled_so, same_constraint, same_relation}

-- ---- verbs

-- the verb that is found is written so
pub verb_found : (word : List ℕ) (verb : Verb) → verb_of word ≡ Some verb → verb_word verb ≡ word
unfolding verb_of
verb_found word verb is =
    (spelled_so verb_word (λ (v : Verb). ⊤) word all_verbs verb
    (tt, (tt, (tt, (tt, (tt, (tt, (tt, (tt, (tt, (tt, (tt, (tt, (tt, (tt, (tt, (tt, (tt, (tt, (tt, tt))))))))))))))))))) is).0

-- no two verbs are written alike
named_verb : (verb : Verb) → verb_of (verb_word verb) ≡ Some verb
unfolding verb_of
named_verb verbs.Specify = refl
named_verb verbs.Activate = refl
named_verb verbs.Merge = refl
named_verb verbs.Reject = refl
named_verb verbs.Order = refl
named_verb verbs.Post = refl
named_verb verbs.Relate = refl
named_verb verbs.Reset = refl
named_verb verbs.Withdraw = refl
named_verb verbs.Unrelate = refl
named_verb verbs.Undo = refl
named_verb verbs.Domain = refl
named_verb verbs.Tokens = refl
named_verb verbs.Decisions = refl
named_verb verbs.Flaws = refl
named_verb verbs.Solve = refl
named_verb verbs.Why = refl
named_verb verbs.Cycle = refl
named_verb verbs.Quit = refl

-- where none is found, the word is none
pub verb_missed : (word : List ℕ) → verb_of word ≡ None → (verb : Verb) → word ≡ verb_word verb → ⊥
verb_missed word none verb is =
    let both : None ≡ Some verb = sym none ∙ (ap verb_of is ∙ named_verb verb) in
    cc

same_verb : (one other : Verb) → verb_word one ≡ verb_word other → one ≡ other
same_verb one other same =
    let both : Some one ≡ Some other = sym (named_verb one) ∙ (ap verb_of same ∙ named_verb other) in
    cc

-- ---- what a verb asks for, by the words behind it

abbrev Asked : Verb → Type 0
Asked verbs.Specify = NameText × List ℕ
Asked verbs.Activate = NameText
Asked verbs.Merge = NameText × NameText
Asked verbs.Reject = NameText
Asked verbs.Order = NameText × NameText
Asked verbs.Post = Kind × List (List ℕ)
Asked verbs.Relate = Rel × (NameText × NameText)
Asked verbs.Reset = NameText ⊎ (NameText × NameText)
Asked verbs.Withdraw = Kind × List (List ℕ)
Asked verbs.Unrelate = Rel × (NameText × NameText)
Asked verbs.Domain = NameText
Asked verbs.Solve = ℕ × ℕ
Asked verbs.Undo = ⊤
Asked verbs.Tokens = ⊤
Asked verbs.Decisions = ⊤
Asked verbs.Flaws = ⊤
Asked verbs.Why = ⊤
Asked verbs.Cycle = ⊤
Asked verbs.Quit = ⊤

abbrev command_of : (verb : Verb) → Asked verb → Command
command_of verbs.Specify asked = commands.Specify asked.0 asked.1
command_of verbs.Activate asked = commands.Activate asked
command_of verbs.Merge asked = commands.Merge asked.0 asked.1
command_of verbs.Reject asked = commands.Reject asked
command_of verbs.Order asked = commands.Order asked.0 asked.1
command_of verbs.Post asked = commands.Post asked.0 asked.1
command_of verbs.Relate asked = commands.Relate asked.0 asked.1.0 asked.1.1
command_of verbs.Reset (inl name) = commands.Reset name
command_of verbs.Reset (inr names) = commands.ResetOrder names.0 names.1
command_of verbs.Withdraw asked = commands.Withdraw asked.0 asked.1
command_of verbs.Unrelate asked = commands.Unrelate asked.0 asked.1.0 asked.1.1
command_of verbs.Domain asked = commands.Domain asked
command_of verbs.Solve asked = commands.Solve asked.0 asked.1
command_of verbs.Undo asked = commands.Undo
command_of verbs.Tokens asked = commands.Tokens
command_of verbs.Decisions asked = commands.Decisions
command_of verbs.Flaws asked = commands.Flaws
command_of verbs.Why asked = commands.Why
command_of verbs.Cycle asked = commands.Cycle
command_of verbs.Quit asked = commands.Quit

abbrev IsBehind : (verb : Verb) → List (List ℕ) → Asked verb → Type 0
IsBehind verbs.Specify rest asked = AreTwo Spells IsValueOf rest asked
IsBehind verbs.Activate rest asked = IsOne Spells rest asked
IsBehind verbs.Merge rest asked = AreTwo Spells Spells rest asked
IsBehind verbs.Reject rest asked = IsOne Spells rest asked
IsBehind verbs.Order rest asked = AreTwo Spells Spells rest asked
IsBehind verbs.Post rest asked = AreConstraint rest asked
IsBehind verbs.Relate rest asked = AreRelation rest asked
IsBehind verbs.Reset rest (inl name) = IsOne Spells rest name
IsBehind verbs.Reset rest (inr names) = AreTwo Spells Spells rest names
IsBehind verbs.Withdraw rest asked = AreConstraint rest asked
IsBehind verbs.Unrelate rest asked = AreRelation rest asked
IsBehind verbs.Domain rest asked = IsOne Spells rest asked
IsBehind verbs.Solve rest asked = AreBounds rest asked
IsBehind verbs.Undo rest asked = rest ≡ []
IsBehind verbs.Tokens rest asked = rest ≡ []
IsBehind verbs.Decisions rest asked = rest ≡ []
IsBehind verbs.Flaws rest asked = rest ≡ []
IsBehind verbs.Why rest asked = rest ≡ []
IsBehind verbs.Cycle rest asked = rest ≡ []
IsBehind verbs.Quit rest asked = rest ≡ []

-- a word before equal lists
onto : (word : List ℕ) (one other : List (List ℕ)) → one ≡ other → word ∷ one ≡ word ∷ other
onto word one other same = ap (λ words. word ∷ words) same

pub is_command : (verb : Verb) (rest : List (List ℕ)) (asked : Asked verb) → IsBehind verb rest asked → IsCommand (verb_word verb ∷ rest) (command_of verb asked)
is_command verbs.Specify rest asked (word, (value, (are, spells, (same, form)))) =
    (word, (onto (codes "specify") rest (word ∷ asked.1 ∷ []) (are ∙ ap (λ last. word ∷ last ∷ []) same), spells, form))
is_command verbs.Activate rest asked (word, (are, spells)) = (word, (onto (codes "activate") rest _ are, spells))
is_command verbs.Merge rest asked (word, (next, (are, one, other))) = (word, (next, (onto (codes "merge") rest _ are, one, other)))
is_command verbs.Reject rest asked (word, (are, spells)) = (word, (onto (codes "reject") rest _ are, spells))
is_command verbs.Order rest asked (word, (next, (are, one, other))) = (word, (next, (onto (codes "order") rest _ are, one, other)))
is_command verbs.Post rest asked (are, posted, some, words) = (onto (codes "post") rest _ are, posted, some, words)
is_command verbs.Relate rest asked (word, (next, (are, one, other))) = (word, (next, (onto (codes "relate") rest _ are, one, other)))
is_command verbs.Reset rest (inl name) (word, (are, spells)) = (word, (onto (codes "reset") rest _ are, spells))
is_command verbs.Reset rest (inr names) (word, (next, (are, one, other))) = (word, (next, (onto (codes "reset") rest _ are, one, other)))
is_command verbs.Withdraw rest asked (are, posted, some, words) = (onto (codes "withdraw") rest _ are, posted, some, words)
is_command verbs.Unrelate rest asked (word, (next, (are, one, other))) = (word, (next, (onto (codes "unrelate") rest _ are, one, other)))
is_command verbs.Domain rest asked (word, (are, spells)) = (word, (onto (codes "domain") rest _ are, spells))
is_command verbs.Solve rest asked (are, some, few, small) = (onto (codes "solve") rest _ are, some, few, small)
is_command verbs.Undo rest asked none = onto (codes "undo") rest [] none
is_command verbs.Tokens rest asked none = onto (codes "tokens") rest [] none
is_command verbs.Decisions rest asked none = onto (codes "decisions") rest [] none
is_command verbs.Flaws rest asked none = onto (codes "flaws") rest [] none
is_command verbs.Why rest asked none = onto (codes "why") rest [] none
is_command verbs.Cycle rest asked none = onto (codes "cycle") rest [] none
is_command verbs.Quit rest asked none = onto (codes "quit") rest [] none

-- the command is what a verb asks for before words
record IsAsked (words : List (List ℕ)) (command : Command) : Type 0 where
  verb : Verb
  asked : Asked verb
  rest : List (List ℕ)
  whole : words ≡ verb_word verb ∷ rest
  is : command ≡ command_of verb asked
  behind : IsBehind verb rest asked

not_empty : (first : List ℕ) (rest : List (List ℕ)) → first ∷ rest ≡ [] → ⊥
not_empty first rest none = cc

first_word : (one other : List ℕ) (rest left : List (List ℕ)) → one ∷ rest ≡ other ∷ left → one ≡ other
first_word one other rest left same = cc

-- a command without a word behind the verb
lone : (verb : Verb) (asked : Asked verb) (words : List (List ℕ)) (command : Command) → IsBehind verb [] asked → command ≡ command_of verb asked → words ≡ verb_word verb ∷ [] → IsAsked words command
lone verb asked words command behind is are = record { verb = verb; asked = asked; rest = []; whole = are; is = is; behind = behind }

-- words ask for nothing where there are none, and else what their verb asks for
parts : (words : List (List ℕ)) (command : Command) → IsCommand words command → ((words ≡ []) × (command ≡ commands.Empty)) ⊎ IsAsked words command
parts words commands.Empty none = inl (none, refl)
parts words (commands.Specify variable value) (word, (are, spells, form)) =
    inr (record { verb = verbs.Specify; asked = (variable, value); rest = word ∷ value ∷ []; whole = are; is = refl; behind = (word, (value, (refl, spells, (refl, form)))) })
parts words (commands.Activate token) (word, (are, spells)) =
    inr (record { verb = verbs.Activate; asked = token; rest = word ∷ []; whole = are; is = refl; behind = (word, (refl, spells)) })
parts words (commands.Merge token target) (word, (next, (are, one, other))) =
    inr (record { verb = verbs.Merge; asked = (token, target); rest = word ∷ next ∷ []; whole = are; is = refl; behind = (word, (next, (refl, one, other))) })
parts words (commands.Reject token) (word, (are, spells)) =
    inr (record { verb = verbs.Reject; asked = token; rest = word ∷ []; whole = are; is = refl; behind = (word, (refl, spells)) })
parts words (commands.Order first second) (word, (next, (are, one, other))) =
    inr (record { verb = verbs.Order; asked = (first, second); rest = word ∷ next ∷ []; whole = are; is = refl; behind = (word, (next, (refl, one, other))) })
parts words (commands.Post kind arguments) (are, posted, some, fine) =
    inr (record { verb = verbs.Post; asked = (kind, arguments); rest = constraint_word kind ∷ arguments; whole = are; is = refl; behind = (refl, posted, some, fine) })
parts words (commands.Relate relation first second) (word, (next, (are, one, other))) =
    inr (record { verb = verbs.Relate; asked = (relation, (first, second)); rest = relation_word relation ∷ word ∷ next ∷ []; whole = are; is = refl; behind = (word, (next, (refl, one, other))) })
parts words (commands.Reset subject) (word, (are, spells)) =
    inr (record { verb = verbs.Reset; asked = inl subject; rest = word ∷ []; whole = are; is = refl; behind = (word, (refl, spells)) })
parts words (commands.ResetOrder first second) (word, (next, (are, one, other))) =
    inr (record { verb = verbs.Reset; asked = inr (first, second); rest = word ∷ next ∷ []; whole = are; is = refl; behind = (word, (next, (refl, one, other))) })
parts words (commands.Withdraw kind arguments) (are, posted, some, fine) =
    inr (record { verb = verbs.Withdraw; asked = (kind, arguments); rest = constraint_word kind ∷ arguments; whole = are; is = refl; behind = (refl, posted, some, fine) })
parts words (commands.Unrelate relation first second) (word, (next, (are, one, other))) =
    inr (record { verb = verbs.Unrelate; asked = (relation, (first, second)); rest = relation_word relation ∷ word ∷ next ∷ []; whole = are; is = refl; behind = (word, (next, (refl, one, other))) })
parts words commands.Undo are = inr (lone verbs.Undo tt words commands.Undo refl refl are)
parts words (commands.Domain variable) (word, (are, spells)) =
    inr (record { verb = verbs.Domain; asked = variable; rest = word ∷ []; whole = are; is = refl; behind = (word, (refl, spells)) })
parts words commands.Tokens are = inr (lone verbs.Tokens tt words commands.Tokens refl refl are)
parts words commands.Decisions are = inr (lone verbs.Decisions tt words commands.Decisions refl refl are)
parts words commands.Flaws are = inr (lone verbs.Flaws tt words commands.Flaws refl refl are)
parts words (commands.Solve steps tokens) (are, some, few, small) =
    inr (record { verb = verbs.Solve; asked = (steps, tokens); rest = decimal steps ∷ decimal tokens ∷ []; whole = are; is = refl; behind = (refl, some, few, small) })
parts words commands.Why are = inr (lone verbs.Why tt words commands.Why refl refl are)
parts words commands.Cycle are = inr (lone verbs.Cycle tt words commands.Cycle refl refl are)
parts words commands.Quit are = inr (lone verbs.Quit tt words commands.Quit refl refl are)

-- the verb before words is their first one
record HasVerb (verb : Verb) (rest : List (List ℕ)) (command : Command) : Type 0 where
  asked : Asked verb
  is : command ≡ command_of verb asked
  behind : IsBehind verb rest asked

with_verb : (verb : Verb) (rest : List (List ℕ)) (command : Command) → IsAsked (verb_word verb ∷ rest) command → HasVerb verb rest command
with_verb verb rest command found =
    let both : verb_word verb ∷ rest ≡ verb_word found.verb ∷ found.rest = found.whole in
    let heads : verb_word found.verb ≡ verb_word verb = cc in
    let tails : found.rest ≡ rest = cc in
    let P : Verb → Type 0 = λ v. (asked : Asked v) → command ≡ command_of v asked → IsBehind v rest asked → HasVerb verb rest command in
    let base : P verb = λ asked is behind. record { asked = asked; is = is; behind = behind } in
    subst P (sym (same_verb found.verb verb heads)) base found.asked found.is
    (subst (λ words. IsBehind found.verb words found.asked) tails found.behind)

-- what a command that begins with the verb asks for
of_verb : (verb : Verb) (rest : List (List ℕ)) (command : Command) → IsCommand (verb_word verb ∷ rest) command → HasVerb verb rest command
of_verb verb rest command is = elim (parts (verb_word verb ∷ rest) command is) [
  | inl empty ↦ absurd (not_empty (verb_word verb) rest empty.0)
  | inr found ↦ with_verb verb rest command found
]

pub no_command : (verb : Verb) (rest : List (List ℕ)) → ((asked : Asked verb) → IsBehind verb rest asked → ⊥) → (command : Command) → IsCommand (verb_word verb ∷ rest) command → ⊥
no_command verb rest none command is = let found = of_verb verb rest command is in none found.asked found.behind

-- a first word that is no verb begins no command
pub no_verb : (first : List ℕ) (rest : List (List ℕ)) → ((verb : Verb) → first ≡ verb_word verb → ⊥) → (command : Command) → IsCommand (first ∷ rest) command → ⊥
no_verb first rest none command is = elim (parts (first ∷ rest) command is) [
  | inl empty ↦ not_empty first rest empty.0
  | inr found ↦ none found.verb (first_word first (verb_word found.verb) rest found.rest found.whole)
]

-- ---- what is answered

-- what is answered where nothing is said
faulty : (verb : Verb) (rest : List (List ℕ)) (fault : LineFault) → ((asked : Asked verb) → KeepsWord (command_of verb asked)) → Says (IsBehind verb rest) (Err fault)
    → AnswersWords (verb_word verb ∷ rest) (Err fault)
faulty verb rest TooLong keeps says = says
faulty verb rest Syntax keeps says = no_command verb rest says
faulty verb rest Memory keeps says = (command_of verb says.0, is_command verb rest says.0 says.1, keeps says.0)

faulty_told : (verb : Verb) (rest : List (List ℕ)) (fault : LineFault) → Tells (IsBehind verb rest) (Err fault) → AnswersWords (verb_word verb ∷ rest) (Err fault)
faulty_told verb rest TooLong tells = tells
faulty_told verb rest Syntax tells = no_command verb rest tells
faulty_told verb rest Memory tells = absurd tells

-- what is said, which takes memory, is answered as the verb's command
pub answers_keeping : (verb : Verb) (rest : List (List ℕ)) (said : Result (Asked verb) LineFault) (result : Result Command LineFault) (Post : Asked verb → Command → Type 0)
    → ((asked : Asked verb) → KeepsWord (command_of verb asked)) → ((asked : Asked verb) (command : Command) → Post asked command → command ≡ command_of verb asked)
    → Says (IsBehind verb rest) said → MatchResult said (λ asked. IsOkAnd result (Post asked)) (λ fault. result ≡ Err fault) → AnswersWords (verb_word verb ∷ rest) result
answers_keeping verb rest (Ok asked) (Ok command) Post keeps gives says post = subst (IsCommand (verb_word verb ∷ rest)) (sym (gives asked command post)) (is_command verb rest asked says)
answers_keeping verb rest (Ok asked) (Err fault) Post keeps gives says post = absurd post
answers_keeping verb rest (Err fault) result Post keeps gives says same = subst (AnswersWords (verb_word verb ∷ rest)) (sym same) (faulty verb rest fault keeps says)

-- and what takes none
pub answers_told : (verb : Verb) (rest : List (List ℕ)) (said : Result (Asked verb) LineFault) (result : Result Command LineFault) (Post : Asked verb → Command → Type 0)
    → ((asked : Asked verb) (command : Command) → Post asked command → command ≡ command_of verb asked)
    → Tells (IsBehind verb rest) said → MatchResult said (λ asked. IsOkAnd result (Post asked)) (λ fault. result ≡ Err fault) → AnswersWords (verb_word verb ∷ rest) result
answers_told verb rest (Ok asked) (Ok command) Post gives tells post = subst (IsCommand (verb_word verb ∷ rest)) (sym (gives asked command post)) (is_command verb rest asked tells)
answers_told verb rest (Ok asked) (Err fault) Post gives tells post = absurd post
answers_told verb rest (Err fault) result Post gives tells same = subst (AnswersWords (verb_word verb ∷ rest)) (sym same) (faulty_told verb rest fault tells)

-- the same of a verb that was told apart
pub keeps_for : (given verb : Verb) (rest : List (List ℕ)) (said : Result (Asked verb) LineFault) (result : Result Command LineFault) (Post : Asked verb → Command → Type 0) → given ≡ verb
    → ((asked : Asked verb) → KeepsWord (command_of verb asked)) → ((asked : Asked verb) (command : Command) → Post asked command → command ≡ command_of verb asked)
    → Says (IsBehind verb rest) said → MatchResult said (λ asked. IsOkAnd result (Post asked)) (λ fault. result ≡ Err fault) → AnswersWords (verb_word given ∷ rest) result
keeps_for given verb rest said result Post same keeps gives says cases =
    let P : Verb → Type 0 = λ v. AnswersWords (verb_word v ∷ rest) result in
    subst P (sym same) (answers_keeping verb rest said result Post keeps gives says cases)

pub told_for : (given verb : Verb) (rest : List (List ℕ)) (said : Result (Asked verb) LineFault) (result : Result Command LineFault) (Post : Asked verb → Command → Type 0) → given ≡ verb
    → ((asked : Asked verb) (command : Command) → Post asked command → command ≡ command_of verb asked)
    → Tells (IsBehind verb rest) said → MatchResult said (λ asked. IsOkAnd result (Post asked)) (λ fault. result ≡ Err fault) → AnswersWords (verb_word given ∷ rest) result
told_for given verb rest said result Post same gives tells cases =
    let P : Verb → Type 0 = λ v. AnswersWords (verb_word v ∷ rest) result in
    subst P (sym same) (answers_told verb rest said result Post gives tells cases)

-- ---- `reset`, before one name or two

keeps_reset : (asked : Asked verbs.Reset) → KeepsWord (command_of verbs.Reset asked)
keeps_reset (inl name) = tt
keeps_reset (inr names) = tt

-- what is said in one of the two forms, where the other isn't that of the words
module _ (A : Type 0) (Is : A → Type 0) (put : A → Asked verbs.Reset) (rest : List (List ℕ)) (behind : (said : A) → Is said → IsBehind verbs.Reset rest (put said))
    (only : ((said : A) → Is said → ⊥) → (asked : Asked verbs.Reset) → IsBehind verbs.Reset rest asked → ⊥) where
  faulty_form : (fault : LineFault) → Says Is (Err fault) → AnswersWords (codes "reset" ∷ rest) (Err fault)
  faulty_form TooLong says = says
  faulty_form Syntax says = no_command verbs.Reset rest (only says)
  faulty_form Memory says =
      (command_of verbs.Reset (put says.0), is_command verbs.Reset rest (put says.0) (behind says.0 says.1), keeps_reset (put says.0))

  form_answered : (said : Result A LineFault) (result : Result Command LineFault) (Post : A → Command → Type 0)
      → ((asked : A) (command : Command) → Post asked command → command ≡ command_of verbs.Reset (put asked))
      → Says Is said → MatchResult said (λ asked. IsOkAnd result (Post asked)) (λ fault. result ≡ Err fault) → AnswersWords (codes "reset" ∷ rest) result
  form_answered (Ok asked) (Ok command) Post gives says post =
      subst (IsCommand (codes "reset" ∷ rest)) (sym (gives asked command post)) (is_command verbs.Reset rest (put asked) (behind asked says))
  form_answered (Ok asked) (Err fault) Post gives says post = absurd post
  form_answered (Err fault) result Post gives says same = subst (AnswersWords (codes "reset" ∷ rest)) (sym same) (faulty_form fault says)

not_two : (rest : List (List ℕ)) (word : List ℕ) (names : NameText × NameText) → rest ≡ word ∷ [] → AreTwo Spells Spells rest names → ⊥
not_two rest word names alone (first, (second, (are, is, is_too))) = let both : word ∷ [] ≡ first ∷ (second ∷ []) = sym alone ∙ are in cc

only_one : (rest : List (List ℕ)) (word : List ℕ) → rest ≡ word ∷ [] → ((name : NameText) → IsOne Spells rest name → ⊥)
    → (asked : Asked verbs.Reset) → IsBehind verbs.Reset rest asked → ⊥
only_one rest word alone none (inl name) is = none name is
only_one rest word alone none (inr names) is = not_two rest word names alone is

only_two : (rest : List (List ℕ)) → ((word : List ℕ) → rest ≡ word ∷ [] → ⊥) → ((names : NameText × NameText) → AreTwo Spells Spells rest names → ⊥)
    → (asked : Asked verbs.Reset) → IsBehind verbs.Reset rest asked → ⊥
only_two rest not_one none (inl name) (word, (are, spells)) = not_one word are
only_two rest not_one none (inr names) is = none names is

-- one word is a name or nothing, and words that aren't one are two names or nothing
pub reset_one : (rest : List (List ℕ)) (word : List ℕ) (said : Result NameText LineFault) (result : Result Command LineFault) (Post : NameText → Command → Type 0) → rest ≡ word ∷ []
    → ((name : NameText) (command : Command) → Post name command → command ≡ commands.Reset name)
    → Says (IsOne Spells rest) said → MatchResult said (λ name. IsOkAnd result (Post name)) (λ fault. result ≡ Err fault) → AnswersWords (codes "reset" ∷ rest) result
reset_one rest word said result Post alone gives says cases =
    form_answered NameText (IsOne Spells rest) (λ name. inl name) rest (λ name is. is) (only_one rest word alone) said result Post gives says cases

pub reset_two : (rest : List (List ℕ)) (said : Result (NameText × NameText) LineFault) (result : Result Command LineFault) (Post : NameText × NameText → Command → Type 0)
    → ((word : List ℕ) → rest ≡ word ∷ [] → ⊥)
    → ((names : NameText × NameText) (command : Command) → Post names command → command ≡ commands.ResetOrder names.0 names.1)
    → Says (AreTwo Spells Spells rest) said → MatchResult said (λ names. IsOkAnd result (Post names)) (λ fault. result ≡ Err fault) → AnswersWords (codes "reset" ∷ rest) result
reset_two rest said result Post not_one gives says cases =
    form_answered (NameText × NameText) (AreTwo Spells Spells rest) (λ names. inr names) rest (λ names is. is) (only_two rest not_one) said result Post gives says cases

-- a first word that is a verb, and one that is none
pub read_first : (words : List (List ℕ)) (first : List ℕ) (rest : List (List ℕ)) (verb : Verb) (r : Result Command LineFault) → words ≡ first ∷ rest → verb_of first ≡ Some verb
    → AnswersWords (verb_word verb ∷ rest) r → AnswersWords words r
read_first words first rest verb r whole is answers =
    subst (λ ws. AnswersWords ws r) (ap (λ (word : List ℕ). word ∷ rest) (verb_found first verb is) ∙ sym whole) answers

pub read_none : (words : List (List ℕ)) (first : List ℕ) (rest : List (List ℕ)) → words ≡ first ∷ rest → verb_of first ≡ None → (command : Command) → IsCommand words command → ⊥
read_none words first rest whole none command is =
    no_verb first rest (verb_missed first none) command (subst (λ ws. IsCommand ws command) whole is)

-- ---- laws

same_one : (rest : List (List ℕ)) (one other : NameText) → IsOne Spells rest one → IsOne Spells rest other → one ≡ other
same_one rest one other (word, (are, spells)) (word', (are', spells')) =
    let both : word ∷ [] ≡ word' ∷ [] = sym are ∙ are' in
    let same : word' ≡ word = cc in
    spells_one_name word one other spells (subst (λ w. Spells w other) same spells')

-- the same two words
record AreSame (first second first' second' : List ℕ) : Type 0 where
  front : first' ≡ first
  back : second' ≡ second

same_words : (rest : List (List ℕ)) (first second first' second' : List ℕ) → rest ≡ first ∷ second ∷ [] → rest ≡ first' ∷ second' ∷ [] → AreSame first second first' second'
same_words rest first second first' second' are are' =
    let both : first ∷ (second ∷ []) ≡ first' ∷ (second' ∷ []) = sym are ∙ are' in
    record { front = cc; back = cc }

same_two : {B : Type 0} (Other : List ℕ → B → Type 0) → ((word : List ℕ) (one other : B) → Other word one → Other word other → one ≡ other)
    → (rest : List (List ℕ)) (one other : NameText × B) → AreTwo Spells Other rest one → AreTwo Spells Other rest other → (one.0 ≡ other.0) × (one.1 ≡ other.1)
same_two Other once rest one other (first, (second, (are, is, is_too))) (first', (second', (are', is', is_too'))) =
    let same = same_words rest first second first' second' are are' in
    (spells_one_name first one.0 other.0 is (subst (λ w. Spells w other.0) same.front is'), once second one.1 other.1 is_too (subst (λ w. Other w other.1) same.back is_too'))

same_value : (word one other : List ℕ) → IsValueOf word one → IsValueOf word other → one ≡ other
same_value word one other is is' = sym is.0 ∙ is'.0

same_bounds : (rest : List (List ℕ)) (one other : ℕ × ℕ) → AreBounds rest one → AreBounds rest other → (one.0 ≡ other.0) × (one.1 ≡ other.1)
same_bounds rest one other is is' =
    let same = same_words rest (decimal one.0) (decimal one.1) (decimal other.0) (decimal other.1) is.0 is'.0 in (
      decimal_injective one.0 other.0 (omega (arith, is.2)) (omega (arith, is'.2)) (sym same.front),
      decimal_injective one.1 other.1 (omega (arith, is.3)) (omega (arith, is'.3)) (sym same.back),
    )

same_posting : (rest : List (List ℕ)) (one other : Kind × List (List ℕ)) → AreConstraint rest one → AreConstraint rest other → (one.0 ≡ other.0) × (one.1 ≡ other.1)
same_posting rest one other is is' =
    let both : constraint_word one.0 ∷ one.1 ≡ constraint_word other.0 ∷ other.1 = sym is.0 ∙ is'.0 in
    let words : constraint_word one.0 ≡ constraint_word other.0 = cc in
    (same_constraint one.0 other.0 is.1 is'.1 words, cc)

-- the same relation and the same two words
record AreSameRelated (one other : Rel × (NameText × NameText)) : Type 0 where
  relation : one.0 ≡ other.0
  first : one.1.0 ≡ other.1.0
  second : one.1.1 ≡ other.1.1

same_relating : (rest : List (List ℕ)) (one other : Rel × (NameText × NameText)) → AreRelation rest one → AreRelation rest other → AreSameRelated one other
same_relating rest one other (first, (second, (are, is, is_too))) (first', (second', (are', is', is_too'))) =
    let both : relation_word one.0 ∷ (first ∷ (second ∷ [])) ≡ relation_word other.0 ∷ (first' ∷ (second' ∷ [])) = sym are ∙ are' in
    let words : relation_word one.0 ≡ relation_word other.0 = cc in
    let front : first' ≡ first = cc in
    let back : second' ≡ second = cc in
    record {
      relation = same_relation one.0 other.0 words;
      first = spells_one_name first one.1.0 other.1.0 is (subst (λ w. Spells w other.1.0) front is');
      second = spells_one_name second one.1.1 other.1.1 is_too (subst (λ w. Spells w other.1.1) back is_too');
    }

joined_three : (make : Rel → NameText → NameText → Command) (one other : Rel × (NameText × NameText)) → AreSameRelated one other → make one.0 one.1.0 one.1.1 ≡ make other.0 other.1.0 other.1.1
joined_three make one other same = rw (same.relation, same.first, same.second) refl

one_or_two : (rest : List (List ℕ)) (name : NameText) (names : NameText × NameText) → IsOne Spells rest name → AreTwo Spells Spells rest names → ⊥
one_or_two rest name names (word, (are, spells)) (first, (second, (are', is, is_too))) =
    let both : word ∷ [] ≡ first ∷ (second ∷ []) = sym are ∙ are' in
    cc

joined_pair : {A B : Type 0} (make : A → B → Command) (one other : A) (two twin : B) → (one ≡ other) × (two ≡ twin) → make one two ≡ make other twin
joined_pair make one other two twin same = rw (same.0, same.1) refl

-- words behind a verb say one thing at most
same_asked : (verb : Verb) (rest : List (List ℕ)) (one other : Asked verb) → IsBehind verb rest one → IsBehind verb rest other → command_of verb one ≡ command_of verb other
same_asked verbs.Specify rest one other is is' = joined_pair commands.Specify one.0 other.0 one.1 other.1 (same_two IsValueOf same_value rest one other is is')
same_asked verbs.Activate rest one other is is' = ap commands.Activate (same_one rest one other is is')
same_asked verbs.Merge rest one other is is' = joined_pair commands.Merge one.0 other.0 one.1 other.1 (same_two Spells spells_one_name rest one other is is')
same_asked verbs.Reject rest one other is is' = ap commands.Reject (same_one rest one other is is')
same_asked verbs.Order rest one other is is' = joined_pair commands.Order one.0 other.0 one.1 other.1 (same_two Spells spells_one_name rest one other is is')
same_asked verbs.Post rest one other is is' = joined_pair commands.Post one.0 other.0 one.1 other.1 (same_posting rest one other is is')
same_asked verbs.Relate rest one other is is' = joined_three commands.Relate one other (same_relating rest one other is is')
same_asked verbs.Reset rest (inl one) (inl other) is is' = ap commands.Reset (same_one rest one other is is')
same_asked verbs.Reset rest (inl one) (inr other) is is' = absurd (one_or_two rest one other is is')
same_asked verbs.Reset rest (inr one) (inl other) is is' = absurd (one_or_two rest other one is' is)
same_asked verbs.Reset rest (inr one) (inr other) is is' = joined_pair commands.ResetOrder one.0 other.0 one.1 other.1 (same_two Spells spells_one_name rest one other is is')
same_asked verbs.Withdraw rest one other is is' = joined_pair commands.Withdraw one.0 other.0 one.1 other.1 (same_posting rest one other is is')
same_asked verbs.Unrelate rest one other is is' = joined_three commands.Unrelate one other (same_relating rest one other is is')
same_asked verbs.Domain rest one other is is' = ap commands.Domain (same_one rest one other is is')
same_asked verbs.Solve rest one other is is' = joined_pair commands.Solve one.0 other.0 one.1 other.1 (same_bounds rest one other is is')
same_asked verbs.Undo rest one other is is' = refl
same_asked verbs.Tokens rest one other is is' = refl
same_asked verbs.Decisions rest one other is is' = refl
same_asked verbs.Flaws rest one other is is' = refl
same_asked verbs.Why rest one other is is' = refl
same_asked verbs.Cycle rest one other is is' = refl
same_asked verbs.Quit rest one other is is' = refl

once_asked : (words : List (List ℕ)) (one other : Command) → IsAsked words one → IsCommand words other → one ≡ other
once_asked words one other found is_other =
    let P : List (List ℕ) → Type 0 = λ ws. IsCommand ws other in
    let twin = of_verb found.verb found.rest other (subst P found.whole is_other) in
    found.is ∙ (same_asked found.verb found.rest found.asked twin.asked found.behind twin.behind ∙ sym twin.is)

once_empty : (words : List (List ℕ)) (other : Command) → words ≡ [] → ((words ≡ []) × (other ≡ commands.Empty)) ⊎ IsAsked words other → commands.Empty ≡ other
once_empty words other none (inl empty) = sym empty.1
once_empty words other none (inr found) = absurd (not_empty (verb_word found.verb) found.rest (sym found.whole ∙ none))

pub words_ask_once : WordsAskOnce
words_ask_once words one other is_one is_other = elim (parts words one is_one) [
  | inl empty ↦ empty.1 ∙ once_empty words other empty.0 (parts words other is_other)
  | inr found ↦ once_asked words one other found is_other
]

pub lines_ask_once : LinesAskOnce
lines_ask_once line one other is_one is_other = words_ask_once (words_of line) one other is_one.1 is_other.1

pub lines_have_one_answer : LinesHaveOneAnswer
lines_have_one_answer line (Ok one) (Ok other) is_one is_other safe safe' = ap Ok (lines_ask_once line one other is_one is_other)
lines_have_one_answer line (Ok one) (Err TooLong) is_one is_other safe safe' = absurd (omega (arith, is_one.0, is_other))
lines_have_one_answer line (Ok one) (Err Syntax) is_one is_other safe safe' = absurd (is_other.1 one is_one.1)
lines_have_one_answer line (Ok one) (Err Memory) is_one is_other safe safe' = absurd (safe' refl)
lines_have_one_answer line (Err TooLong) (Ok other) is_one is_other safe safe' = absurd (omega (arith, is_other.0, is_one))
lines_have_one_answer line (Err TooLong) (Err TooLong) is_one is_other safe safe' = refl
lines_have_one_answer line (Err TooLong) (Err Syntax) is_one is_other safe safe' = absurd (omega (arith, is_other.0, is_one))
lines_have_one_answer line (Err TooLong) (Err Memory) is_one is_other safe safe' = absurd (safe' refl)
lines_have_one_answer line (Err Syntax) (Ok other) is_one is_other safe safe' = absurd (is_one.1 other is_other.1)
lines_have_one_answer line (Err Syntax) (Err TooLong) is_one is_other safe safe' = absurd (omega (arith, is_one.0, is_other))
lines_have_one_answer line (Err Syntax) (Err Syntax) is_one is_other safe safe' = refl
lines_have_one_answer line (Err Syntax) (Err Memory) is_one is_other safe safe' = absurd (safe' refl)
lines_have_one_answer line (Err Memory) other is_one is_other safe safe' = absurd (safe refl)

front_at : (line : List ℕ) (result : Result Command LineFault) → (4096 < length line) ⊎ (length line ≤ 4096) → ReadsLine (take 4097 line) result → ReadsLine line result
front_at line result (inr short) reads = let P : List ℕ → Type 0 = λ bytes. ReadsLine bytes result in subst P (take_all 4097 line (omega arith)) reads
front_at line (Ok command) (inl long) reads = absurd (omega (arith, reads.0, length-take-le 4097 line long))
front_at line (Err TooLong) (inl long) reads = long
front_at line (Err Syntax) (inl long) reads = absurd (omega (arith, reads.0, length-take-le 4097 line long))
front_at line (Err Memory) (inl long) reads = absurd (omega (arith, reads.0, length-take-le 4097 line long))

-- a line that isn't too long is its own front, and of any other the front is too long as well
pub front_decides : FrontDecides
front_decides line result reads = front_at line result (cases_lt 4096 (length line)) reads
