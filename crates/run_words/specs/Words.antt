-- How the words behind a command's word divide into operands and options.
use Rattle.std.specs.Prelude.{◌≡◌, ◌⊎◌, ℕ, List, [], ◌∷◌, ◌++◌, Option, Some, None, codes}

-- the options that there are
pub data Flag : Type 0 where
  Steps : Flag
  Tokens : Flag

-- what is written for it
abbrev pub flag_word : Flag → List ℕ
flag_word Steps = codes "--steps"
flag_word Tokens = codes "--tokens"

-- the operands in order, and the value of each option that is given
pub record Parts : Type 0 where
  pub operands : List (List ℕ)
  pub steps : Option (List ℕ)
  pub tokens : Option (List ℕ)

-- neither an operand nor an option
abbrev pub no_parts : Parts
no_parts = record { operands = []; steps = None; tokens = None }

-- one operand more in front
abbrev pub with_operand : List ℕ → Parts → Parts
with_operand word parts = record parts { operands = word ∷ parts.operands }

-- the parts are some for which `Rest` holds, and this value of the option, which those don't have
abbrev pub Gives : Flag → List ℕ → Parts → (Parts → Type 0) → Type 0
Gives Steps value parts Rest = (rest : Parts) × (rest.steps ≡ None) × (parts ≡ record rest { steps = Some value }) × Rest rest
Gives Tokens value parts Rest = (rest : Parts) × (rest.tokens ≡ None) × (parts ≡ record rest { tokens = Some value }) × Rest rest

-- the word is `-`, or doesn't begin so
abbrev pub IsPlain : List ℕ → Type 0
IsPlain [] = Unit {0}
IsPlain (first ∷ rest) = first ≡ 45 → rest ≡ []

-- the words divide so, where the option that is named waits for its value: `--` ends the options, a plain word is an
-- operand, an option is given behind `=` or by the next word, which is plain
abbrev pub Divides : Option Flag → List (List ℕ) → Parts → Type 0
Divides None [] parts = parts ≡ no_parts
Divides (Some flag) [] parts = ⊥
Divides (Some flag) (value ∷ rest) parts = IsPlain value × Gives flag value parts (λ more. Divides None rest more)
Divides None (word ∷ rest) parts = ((word ≡ codes "--") × (parts ≡ record no_parts { operands = rest }))
    ⊎ ((IsPlain word × ((more : Parts) × (parts ≡ with_operand word more) × Divides None rest more))
    ⊎ (((flag : Flag) × (word ≡ flag_word flag) × Divides (Some flag) rest parts)
    ⊎ ((flag : Flag) × (value : List ℕ) × (word ≡ flag_word flag ++ 61 ∷ value) × Gives flag value parts (λ more. Divides None rest more))))

-- the words are these operands, and no option is given
abbrev pub HasOperands : List (List ℕ) → List (List ℕ) → Type 0
HasOperands words operands = Divides None words (record no_parts { operands = operands })

-- the words aren't one operand
abbrev pub HasNoOperands : List (List ℕ) → Type 0
HasNoOperands words = (operand : List ℕ) → HasOperands words (operand ∷ []) → ⊥

-- the words aren't two operands
abbrev pub HasNoPair : List (List ℕ) → Type 0
HasNoPair words = (first second : List ℕ) → HasOperands words (first ∷ second ∷ []) → ⊥

-- the words are one operand, with these values of the options
abbrev pub HasPlanWords : List (List ℕ) → List ℕ → Option (List ℕ) → Option (List ℕ) → Type 0
HasPlanWords words file steps tokens = Divides None words (record { operands = file ∷ []; steps = steps; tokens = tokens })

-- the words aren't one operand with options
abbrev pub HasNoPlanWords : List (List ℕ) → Type 0
HasNoPlanWords words = (file : List ℕ) (steps tokens : Option (List ℕ)) → HasPlanWords words file steps tokens → ⊥
