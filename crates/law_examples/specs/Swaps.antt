-- Two goals, and two plans of them: in each one goal is merged into the other.
use Rattle.std.specs.Prelude.{◌≡◌, ℤ, pos, List, [], ◌∷◌, false}
use Rattle.eu_name.specs.declared.name.TokenName.{TokenName}
use Rattle.model_core.specs.declared.decision.Decision.{Decision}
use Rattle.model_core.specs.declared.decision.Decision.TheVariants.{Specify, Activate, Merge, Reject, Order, Constrain, Relate}
use Rattle.model_core.specs.Tokens.{root_token}
use Rattle.plan_defs.specs.declared.plan.Line.TheVariants as lines
use Rattle.plan_defs.specs.declared.plan.Plan.{Plan}
use Rattle.plan_defs.specs.Refusals.{IsAdmissible}
use Rattle.law_examples.specs.Refused.{two_goals}

-- the two goals
abbrev pub g : TokenName
g = root_token 0

abbrev pub gg : TokenName
gg = root_token 1

-- from 0 to 1, for 1, on the first object, with a quantity of 1
abbrev pub values : List ℤ
values = pos 0 ∷ pos 1 ∷ pos 1 ∷ pos 0 ∷ pos 1 ∷ []

-- `merged g gg` and `token gg ..` with the values
abbrev pub old : Plan
old = record { globals = []; lines = lines.Merged g gg ∷ lines.Token gg false values ∷ [] }

-- `token g ..` with the same values and `merged gg g`
abbrev pub new : Plan
new = record { globals = []; lines = lines.Token g false values ∷ lines.Merged gg g ∷ [] }

-- the decision says what becomes of the token
abbrev pub IsAboutToken : TokenName → Decision → Type 0
IsAboutToken token (Specify name value) = ⊥
IsAboutToken token (Activate other) = other ≡ token
IsAboutToken token (Merge other target) = other ≡ token
IsAboutToken token (Reject other) = other ≡ token
IsAboutToken token (Order one other) = ⊥
IsAboutToken token (Constrain kind arguments) = ⊥
IsAboutToken token (Relate relation one other) = ⊥

-- as long as nothing is decided, this is all that can be decided of the token
abbrev pub IsOnlyChoice : TokenName → Decision → Type 0
IsOnlyChoice token choice =
    (decision : Decision) → IsAboutToken token decision → IsAdmissible two_goals [] decision → decision ≡ choice
