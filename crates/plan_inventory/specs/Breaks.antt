-- What of a plan is looked at in turn, and what is found there.
use Rattle.std.specs.Prelude.{◌≡◌, ℕ, ◌<◌, ⊤, true, false, Option, MatchOption}
use Rattle.eu_name.specs.declared.name.TokenName.{TokenName}
use Rattle.eu_name.specs.NameOrder.{ByNumber}
use Rattle.model_core.specs.declared.model.Model.{Model}
use Rattle.model_core.specs.declared.model.Root.{Root}
use Rattle.model_core.specs.declared.model.RootKind.{RootKind}
use Rattle.model_core.specs.declared.model.RootKind.TheVariants.{Goal, Rejectable, Fact}
use Rattle.model_core.specs.Tokens.{IsRoot, root_token}
use Rattle.plan_defs.specs.declared.plan.Clause.{Clause}
use Rattle.plan_defs.specs.declared.plan.Line.{Line}
use Rattle.plan_defs.specs.declared.plan.Line.TheVariants as lines
use Rattle.plan_defs.specs.declared.plan.Place.{Place}
use Rattle.plan_defs.specs.declared.plan.Plan.{Plan}
use Rattle.plan_defs.specs.Broken.{IsLeastBroken}
use Rattle.plan_defs.specs.Valid.{Becomes, IsClauseKept, IsLineAt}

-- the clause is kept everywhere, or this is the place with the least names where it is broken
abbrev pub FindsBreak : Model → Plan → Clause → Option Place → Type 0
FindsBreak model plan clause found =
    MatchOption found ((place : Place) → IsClauseKept model plan clause place) (IsLeastBroken model plan clause)

-- ---- lines

-- the line at this place is the first of which it isn't so
pub record IsFirstLine (plan : Plan) (IsSo : Line → Type 0) (place : ℕ) : Type 0 where
  pub line : Line
  pub at : IsLineAt plan place line
  pub fails : IsSo line → ⊥
  pub before : (earlier : ℕ) (other : Line) → earlier < place → IsLineAt plan earlier other → IsSo other

-- it is so of each line, or this is the place of the first of which it isn't
abbrev pub FindsLine : Plan → (Line → Type 0) → Option ℕ → Type 0
FindsLine plan IsSo found =
    MatchOption found ((place : ℕ) (line : Line) → IsLineAt plan place line → IsSo line) (IsFirstLine plan IsSo)

-- by the line the token takes place, and not as a fact
abbrev pub IsActivatedBy : Line → TokenName → Type 0
IsActivatedBy (lines.Token name false values) token = token ≡ name
IsActivatedBy line token = ⊥

-- ---- numbers

-- the number is the first of which it isn't so
pub record IsFirstNumber (IsSo : ℕ → Type 0) (number : ℕ) : Type 0 where
  pub fails : IsSo number → ⊥
  pub before : (earlier : ℕ) → earlier < number → IsSo earlier

-- it is so of each number, or this is the first of which it isn't
abbrev pub FindsNumber : (ℕ → Type 0) → Option ℕ → Type 0
FindsNumber IsSo found = MatchOption found ((number : ℕ) → IsSo number) (IsFirstNumber IsSo)

-- the two numbers, of a rule and of something in it, are the first of which it isn't so
pub record IsFirstInRules (IsSo : ℕ → ℕ → Type 0) (rule number : ℕ) : Type 0 where
  pub fails : IsSo rule number → ⊥
  pub before : (other earlier : ℕ) → ByNumber other rule (earlier < number) → IsSo other earlier

-- ---- roots

-- the line is one that a root of the kind may have
abbrev pub SuitsKind : RootKind → Line → Type 0
SuitsKind Fact (lines.Token name true values) = ⊤
SuitsKind Goal (lines.Token name false values) = ⊤
SuitsKind Rejectable (lines.Token name false values) = ⊤
SuitsKind Goal (lines.Merged name target) = ⊤
SuitsKind Rejectable (lines.Merged name target) = ⊤
SuitsKind Rejectable (lines.Rejected name) = ⊤
SuitsKind kind line = ⊥

-- the plan says of the root of this number what becomes of one of its kind
abbrev pub RootBecomes : Model → Plan → ℕ → Type 0
RootBecomes model plan number = (root : Root) → IsRoot model number root → Becomes plan root.kind (root_token number)
