-- What the readers of the parts of a name find.
use Rattle.std.specs.Prelude.{◌≡◌, ℕ, ◌<◌, List, [], ◌∷◌, ◌++◌, All, false, Result, Ok, Err, ⊤}
use Rattle.std.specs.Char.{is_ascii_digit}
use Rattle.std.specs.Fmt.{decimal}
use Rattle.std.specs.List.{flat_map}
use Rattle.eu_name.specs.declared.name.Step.{Step}
use Rattle.eu_name.specs.declared.name_text.Tail.{Tail}
use Rattle.eu_name.specs.declared.name_text.NameFault.{NameFault}
use Rattle.eu_name.specs.declared.name_text.NameFault.TheVariants.{Syntax, Memory}
use Rattle.eu_name.specs.Spelling.{step_text, ending_text, IsStep, IsTail}

-- no digit comes first
abbrev pub HasNoDigit : List ℕ → Type 0
HasNoDigit [] = ⊤
HasNoDigit (byte ∷ rest) = is_ascii_digit byte ≡ false

-- the text goes on with the mark and all digits of the number, and then with the rest
pub record HasNumber (mark : ℕ) (text : List ℕ) (number : ℕ) (rest : List ℕ) : Type 0 where
  pub small : number < 65536
  pub whole : text ≡ mark ∷ (decimal number ++ rest)
  pub ended : HasNoDigit rest

-- the text goes on with the step, and then with the rest
pub record HasStep (text : List ℕ) (step : Step) (rest : List ℕ) : Type 0 where
  pub small : IsStep step
  pub whole : text ≡ step_text step ++ rest
  pub ended : HasNoDigit rest

-- the text is what follows the label of a name with these steps and this tail
pub record IsEnding (text : List ℕ) (steps : List Step) (tail : Tail) : Type 0 where
  pub small : All IsStep steps
  pub tailed : IsTail tail
  pub whole : text ≡ ending_text steps tail

-- these steps are read of the text, and the rest isn't yet: whatever ending the text is, the rest is one with fewer
-- steps
pub record HasRead (text : List ℕ) (steps : List Step) (rest : List ℕ) : Type 0 where
  pub small : All IsStep steps
  pub whole : text ≡ flat_map step_text steps ++ rest
  pub follows : (others : List Step) (tail : Tail) → IsEnding text others tail
      → (more : List Step) × IsEnding rest more tail

-- all steps are read that the text begins with
pub record HasSteps (text : List ℕ) (steps : List Step) (rest : List ℕ) : Type 0 where
  pub read : HasRead text steps rest
  pub last : (step : Step) (after : List ℕ) → HasStep rest step after → ⊥

-- the answer to what follows a label
abbrev pub ReadsEnding : List ℕ → Result (List Step × Tail) NameFault → Type 0
ReadsEnding text (Ok found) = IsEnding text found.0 found.1
ReadsEnding text (Err Syntax) = (steps : List Step) (tail : Tail) → IsEnding text steps tail → ⊥
ReadsEnding text (Err Memory) = (steps : List Step) × ((tail : Tail) × IsEnding text steps tail)

-- the answer to what follows the steps
abbrev pub ReadsTail : List ℕ → Result Tail NameFault → Type 0
ReadsTail text (Ok tail) = IsEnding text [] tail
ReadsTail text (Err Syntax) = (tail : Tail) → IsEnding text [] tail → ⊥
ReadsTail text (Err Memory) = (tail : Tail) × IsEnding text [] tail
