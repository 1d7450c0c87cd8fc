-- What the words behind the first one say.
use Rattle.std.specs.Prelude.{◌≡◌, ℕ, ◌<◌, ◌≤◌, List, [], ◌∷◌, length, All, Result, Ok, Err}
use Rattle.std.specs.Fmt.{decimal}
use Rattle.domain_core.specs.declared.kind.Kind.{Kind}
use Rattle.eu_name.specs.declared.name_text.NameText.{NameText}
use Rattle.eu_name.specs.Spelling.{Spells}
use Rattle.model_core.specs.declared.item.Rel.{Rel}
use Rattle.script_lang.specs.declared.command.LineFault.{LineFault}
use Rattle.script_lang.specs.declared.command.LineFault.TheVariants.{TooLong, Syntax, Memory}
use Rattle.script_lang.specs.KindWords.{IsPosted, constraint_word, relation_word}
use Rattle.script_lang.specs.Line.{IsValueWord, IsArgumentWord}

-- the answer where something is looked for: it, that there is none, or that memory ran out for it
abbrev pub Says : {A : Type 0} → (A → Type 0) → Result A LineFault → Type 0
Says Is (Ok found) = Is found
Says Is (Err TooLong) = ⊥
Says {A = A} Is (Err Syntax) = (found : A) → Is found → ⊥
Says {A = A} Is (Err Memory) = (found : A) × Is found

-- the same where it takes no memory
abbrev pub Tells : {A : Type 0} → (A → Type 0) → Result A LineFault → Type 0
Tells Is (Ok found) = Is found
Tells Is (Err TooLong) = ⊥
Tells {A = A} Is (Err Syntax) = (found : A) → Is found → ⊥
Tells Is (Err Memory) = ⊥

-- the value is the word, which can be one
abbrev pub IsValueOf : List ℕ → List ℕ → Type 0
IsValueOf word value = (word ≡ value) × IsValueWord value

-- there is one word, which says this
abbrev pub IsOne : {A : Type 0} → (List ℕ → A → Type 0) → List (List ℕ) → A → Type 0
IsOne Is words found = (word : List ℕ) × ((words ≡ word ∷ []) × Is word found)

-- there are two words, which say these two
abbrev pub AreTwo : {A B : Type 0} → (List ℕ → A → Type 0) → (List ℕ → B → Type 0) → List (List ℕ) → A × B → Type 0
AreTwo One Other words found =
    (first : List ℕ) × ((second : List ℕ) × ((words ≡ first ∷ second ∷ []) × One first found.0 × Other second found.1))

-- the words can be the arguments of a constraint, one or more
abbrev pub AreArguments : List (List ℕ) → List (List ℕ) → Type 0
AreArguments words arguments = (words ≡ arguments) × (0 < length arguments) × All IsArgumentWord arguments

-- the words are a constraint that may be posted, and its arguments
abbrev pub AreConstraint : List (List ℕ) → Kind × List (List ℕ) → Type 0
AreConstraint words found =
    (words ≡ constraint_word found.0 ∷ found.1) × IsPosted found.0 × (0 < length found.1) × All IsArgumentWord found.1

-- the words are a relation and two names
abbrev pub AreRelation : List (List ℕ) → Rel × (NameText × NameText) → Type 0
AreRelation words found =
    (first : List ℕ) × ((second : List ℕ) × ((words ≡ relation_word found.0 ∷ first ∷ second ∷ [])
    × Spells first found.1.0 × Spells second found.1.1))

-- the words are the visits and the active tokens that bound a search, in digits without leading zeros
abbrev pub AreBounds : List (List ℕ) → ℕ × ℕ → Type 0
AreBounds words bounds =
    (words ≡ decimal bounds.0 ∷ decimal bounds.1 ∷ []) × (0 < bounds.0) × (bounds.0 ≤ 1000000) × (bounds.1 ≤ 512)

-- both, where there are both; that one isn't there comes before want of memory for the other
abbrev pub joined : {A B : Type 0} → Result A LineFault → Result B LineFault → Result (A × B) LineFault
joined (Ok one) (Ok other) = Ok (one, other)
joined (Ok one) (Err fault) = Err fault
joined (Err Memory) (Ok other) = Err Memory
joined (Err Memory) (Err fault) = Err fault
joined (Err Syntax) other = Err Syntax
joined (Err TooLong) other = Err TooLong
