-- The words that commands begin with.
use Rattle.std.specs.Prelude.{ℕ, Option, List, [], ◌∷◌, codes}
use Rattle.std.specs.List.{find}
use Rattle.std.specs.Str.{bytes_eq}
use Rattle.script_lang.specs.declared.verb.Verb.{Verb}
use Rattle.script_lang.specs.declared.verb.Verb.TheVariants as verbs

-- how the verb is written
abbrev pub verb_word : Verb → List ℕ
verb_word verbs.Specify = codes "specify"
verb_word verbs.Activate = codes "activate"
verb_word verbs.Merge = codes "merge"
verb_word verbs.Reject = codes "reject"
verb_word verbs.Order = codes "order"
verb_word verbs.Post = codes "post"
verb_word verbs.Relate = codes "relate"
verb_word verbs.Reset = codes "reset"
verb_word verbs.Withdraw = codes "withdraw"
verb_word verbs.Unrelate = codes "unrelate"
verb_word verbs.Undo = codes "undo"
verb_word verbs.Domain = codes "domain"
verb_word verbs.Tokens = codes "tokens"
verb_word verbs.Decisions = codes "decisions"
verb_word verbs.Flaws = codes "flaws"
verb_word verbs.Solve = codes "solve"
verb_word verbs.Why = codes "why"
verb_word verbs.Cycle = codes "cycle"
verb_word verbs.Quit = codes "quit"

-- all of them
abbrev pub all_verbs : List Verb
all_verbs =
    verbs.Specify ∷ verbs.Activate ∷ verbs.Merge ∷ verbs.Reject ∷ verbs.Order ∷ verbs.Post ∷ verbs.Relate ∷ verbs.Reset
    ∷ verbs.Withdraw ∷ verbs.Unrelate ∷ verbs.Undo ∷ verbs.Domain ∷ verbs.Tokens ∷ verbs.Decisions ∷ verbs.Flaws
    ∷ verbs.Solve ∷ verbs.Why ∷ verbs.Cycle ∷ verbs.Quit ∷ []

-- the one that is written so, if there is one
unfoldable pub verb_of : List ℕ → Option Verb
verb_of word = find (λ verb. bytes_eq (verb_word verb) word) all_verbs
