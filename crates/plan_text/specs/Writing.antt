-- What is written: words of which a reader gets this.
use Rattle.std.specs.Prelude.{◌≡◌, ℕ, List, ◌∷◌, ◌++◌, Some, Contains}
use Rattle.eu_name.specs.declared.name.VarName.{VarName}
use Rattle.model_core.specs.declared.model.Model.{Model}
use Rattle.plan_text.specs.declared.statement.Statement.{Statement}
use Rattle.plan_text.specs.Words.{IsPaused}
use Rattle.plan_text.specs.Found.{Found, Got}
use Rattle.plan_text.specs.Lines.{OneLine, stated_name}
use Rattle.plan_text.specs.PlanTexts.{HasLines}

-- a line ends here, and another one follows
abbrev pub EndsLine : List ℕ → Type 0
EndsLine rest = (more : List ℕ) × (rest ≡ 10 ∷ more)

-- a piece was written behind the old bytes; wherever such a rest follows it, the reader gets this of it, and leaves the rest
pub record Adds {X : Type 0} (Follows : List ℕ → Type 0) (Reader : List ℕ → Found X → Type 0) (said : X) (old new : List ℕ) :
    Type 0 where
  pub piece : List ℕ
  pub is : new ≡ old ++ piece
  pub paused : (rest : List ℕ) → Follows rest → IsPaused (piece ++ rest)
  pub reads : (rest : List ℕ) → Follows rest → Reader (piece ++ rest) (Got said rest)

-- the line was written that says this, whichever other things the lines before are about
abbrev pub AddsLine : Model → Statement → List ℕ → List ℕ → Type 0
AddsLine model said old new =
    (names : List VarName) → (Contains names (stated_name said) → ⊥) → Adds EndsLine (OneLine model names) (Some said) old new

-- these lines were written behind those of what was said before
pub record AddsLines (model : Model) (before said : List Statement) (old new : List ℕ) : Type 0 where
  pub piece : List ℕ
  pub is : new ≡ old ++ piece
  pub ends : (rest : List ℕ) → EndsLine rest → EndsLine (piece ++ rest)
  pub lines : (rest : List ℕ) → EndsLine rest → HasLines model before (piece ++ rest) said rest
