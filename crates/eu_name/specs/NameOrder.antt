-- Which of two names comes first.
use Rattle.std.specs.Prelude.{◌≡◌, ℕ, ◌+◌, ◌<◌, ◌⊎◌, List, [], ◌∷◌, length, ⊤}
use Rattle.eu_name.specs.declared.name.Step.{Step}
use Rattle.eu_name.specs.declared.name.TokenName.{TokenName}
use Rattle.eu_name.specs.declared.name.Part.{Part}
use Rattle.eu_name.specs.declared.name.Part.TheVariants.{Start, End, Duration, Object, Param}
use Rattle.eu_name.specs.declared.name.VarName.{VarName}
use Rattle.eu_name.specs.declared.name.VarName.TheVariants.{Token, Local, Global}

-- the lower number comes first, and between equal numbers the rest decides
abbrev pub ByNumber : ℕ → ℕ → Type 0 → Type 0
ByNumber m n rest = (m < n) ⊎ ((m ≡ n) × rest)

-- a step comes first by its rule, and then by its slot
abbrev pub IsStepBefore : Step → Step → Type 0
IsStepBefore a b = ByNumber a.rule b.rule (a.slot < b.slot)

-- the first place where the steps differ decides
abbrev pub AreStepsBefore : List Step → List Step → Type 0
AreStepsBefore [] others = ⊥
AreStepsBefore (a ∷ steps) [] = ⊥
AreStepsBefore (a ∷ steps) (b ∷ others) = IsStepBefore a b ⊎ ((a ≡ b) × AreStepsBefore steps others)

-- a token comes first by the number of its steps, then by its root, and then step by step
abbrev pub IsTokenBefore : TokenName → TokenName → Type 0
IsTokenBefore a b = ByNumber (length a.steps) (length b.steps) (ByNumber a.root b.root (AreStepsBefore a.steps b.steps))

-- the token that comes first decides, and between variables of one token the rest does
abbrev pub ByToken : TokenName → TokenName → Type 0 → Type 0
ByToken a b rest = IsTokenBefore a b ⊎ ((a ≡ b) × rest)

-- the place of a part among those of its token: object, start, end, duration, and then the parameters
abbrev pub place_of : Part → ℕ
place_of Object = 0
place_of Start = 1
place_of End = 2
place_of Duration = 3
place_of (Param number) = 4 + number

-- globals come first, by number, and then the variables of tokens, by token; within a token come its parts by
-- place, and then its locals by rule and number
abbrev pub IsVarBefore : VarName → VarName → Type 0
IsVarBefore (Global m) (Global n) = m < n
IsVarBefore (Global m) (Token b q) = ⊤
IsVarBefore (Global m) (Local b s n) = ⊤
IsVarBefore (Token a p) (Global n) = ⊥
IsVarBefore (Token a p) (Token b q) = ByToken a b (place_of p < place_of q)
IsVarBefore (Token a p) (Local b s n) = ByToken a b ⊤
IsVarBefore (Local a r m) (Global n) = ⊥
IsVarBefore (Local a r m) (Token b q) = ByToken a b ⊥
IsVarBefore (Local a r m) (Local b s n) = ByToken a b (ByNumber r s (m < n))

-- nothing comes before itself; what comes before something comes before all that this comes before; and of two
-- different things one comes first
pub record IsStrictTotalOrder {A : Type 0} (before : A → A → Type 0) : Type 0 where
  pub irreflexive : (a : A) → before a a → ⊥
  pub transitive : (a b c : A) → before a b → before b c → before a c
  pub total : (a b : A) → before a b ⊎ ((a ≡ b) ⊎ before b a)
