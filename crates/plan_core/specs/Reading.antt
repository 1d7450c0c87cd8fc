-- How words are read one after another.
use Rattle.std.specs.Prelude.{◌≡◌, ℕ, Bool, true, false, ℤ, List, ◌++◌, Result, Ok, Err, codes}
use Rattle.plan_text.specs.declared.fault.Wrong.{Wrong}
use Rattle.plan_text.specs.declared.statement.Keyword.{Keyword}
use Rattle.plan_text.specs.declared.statement.Keyword.TheVariants as keywords
use Rattle.plan_text.specs.Found.{Found, Got, Stopped, OneWord}
use Rattle.plan_text.specs.Lines.{IsOtherParameter}

-- the numbers that are found were put behind the old ones
abbrev pub AppendsWords : (Found (List ℤ) → Type 0) → List ℤ → List ℤ → Result (Unit {0}) Wrong → List ℕ → Type 0
AppendsWords Outcome old new (Ok said) rest = (more : List ℤ) × ((new ≡ old ++ more) × Outcome (Got more rest))
AppendsWords Outcome old new (Err wrong) rest = Outcome (Stopped wrong rest)

-- the name of this parameter, behind a space
abbrev pub OneLabel : List (List ℕ) → List ℕ → List ℕ → Found (Unit {0}) → Type 0
OneLabel names expected =
    OneWord (codes " ") (λ (said : Unit {0}) word. word ≡ expected) (IsOtherParameter names expected)

-- the word with which the line of a token begins that takes place
abbrev pub active_keyword : Bool → Keyword
active_keyword true = keywords.Fact
active_keyword false = keywords.Token
