-- What is read from the front of a text, word by word, up to the first that is wrong.
use Rattle.std.specs.Prelude.{◌≡◌, ℕ, ◌⊎◌, List, Result, Ok, Err}
use Rattle.plan_text.specs.declared.fault.Wrong.{Wrong}
use Rattle.plan_text.specs.declared.fault.Wrong.TheVariants.{Syntax, Memory}
use Rattle.plan_text.specs.Words.{HasWord, HasNoWord}

-- what the words at the front say, with the text behind them; or the first fault, with the text from where the faulty word
-- was due
pub data Found (X : Type 0) : Type 0 where
  Got : X → List ℕ → Found X
  Stopped : Wrong → List ℕ → Found X

-- nothing is read, and this is what it says
abbrev pub Done : {X : Type 0} → X → List ℕ → Found X → Type 0
Done said text (Got x rest) = (x ≡ said) × (rest ≡ text)
Done said text (Stopped wrong at) = wrong ≡ Memory

-- one word, right behind the gap, which says this; else it is wrong in this way, and where there is no word that is a fault of
-- syntax
abbrev pub OneWord : {X : Type 0}
    → List ℕ → (X → List ℕ → Type 0) → (Wrong → List ℕ → Type 0) → List ℕ → Found X → Type 0
OneWord gap Says Amiss text (Got x rest) = (word : List ℕ) × (HasWord gap text word rest × Says x word)
OneWord gap Says Amiss text (Stopped wrong at) =
    (wrong ≡ Memory)
    ⊎ ((at ≡ text) × (((wrong ≡ Syntax) × HasNoWord gap text)
    ⊎ ((word : List ℕ) × ((rest : List ℕ) × (HasWord gap text word rest × Amiss wrong word)))))

-- the one and then the other, which goes by what the first said; the first fault is the one's, or the other's behind it
abbrev pub Then : {X Y : Type 0}
    → (List ℕ → Found X → Type 0) → (X → List ℕ → Found Y → Type 0) → List ℕ → Found Y → Type 0
Then {X = X} One Other text (Got y rest) = (x : X) × ((mid : List ℕ) × (One text (Got x mid) × Other x mid (Got y rest)))
Then {X = X} One Other text (Stopped wrong at) =
    One text (Stopped wrong at) ⊎ ((x : X) × ((mid : List ℕ) × (One text (Got x mid) × Other x mid (Stopped wrong at))))

-- only this word is right, and any other is a fault of syntax
abbrev pub IsOther : List ℕ → Wrong → List ℕ → Type 0
IsOther expected Syntax word = word ≡ expected → ⊥
IsOther expected wrong word = ⊥

-- just this word, right behind the gap
abbrev pub Exactly : List ℕ → List ℕ → List ℕ → Found (Unit {0}) → Type 0
Exactly gap expected = OneWord gap (λ said word. word ≡ expected) (IsOther expected)

-- what a call answers and leaves unread is what is found
abbrev pub FindsWords : {X : Type 0} → (Found X → Type 0) → Result X Wrong → List ℕ → Type 0
FindsWords Outcome (Ok x) rest = Outcome (Got x rest)
FindsWords Outcome (Err wrong) rest = Outcome (Stopped wrong rest)

-- a word is judged: it says this, or is wrong in this way
abbrev pub Judges : {X : Type 0}
    → (X → List ℕ → Type 0) → (Wrong → List ℕ → Type 0) → List ℕ → Result X Wrong → Type 0
Judges Says Amiss word (Ok x) = Says x word
Judges Says Amiss word (Err wrong) = (wrong ≡ Memory) ⊎ Amiss wrong word

-- what is left unread behind a word that is judged: what follows it, or still the word, if it is wrong
abbrev pub rest_behind : {X : Type 0} → Result X Wrong → List ℕ → List ℕ → List ℕ
rest_behind (Ok x) before rest = rest
rest_behind (Err wrong) before rest = before
