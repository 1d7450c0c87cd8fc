-- Words at the front of a text.
use Rattle.std.specs.Prelude.{◌≡◌, ℕ, Bool, List, [], codes}
use Rattle.plan_text.specs.Found.{Found, OneWord}
use Rattle.plan_text.specs.PlanTexts.{opening_text, IsNoOpening, IsCount, IsNoCount}

-- `plan` or `found` at the front of the text
abbrev pub OneOpening : List ℕ → Found Bool → Type 0
OneOpening = OneWord [] (λ counted word. word ≡ opening_text counted) IsNoOpening

-- how many lists a search visited, behind a space
abbrev pub OneCount : List ℕ → Found (Unit {0}) → Type 0
OneCount = OneWord (codes " ") (λ (said : Unit {0}) word. IsCount word) IsNoCount
