-- Constraints and relations that decisions post.
use Rattle.std.specs.Prelude.{pos, [], ◌∷◌, codes}
use Rattle.domain_core.specs.declared.kind.Kind.TheVariants.{Eq, Leq}
use Rattle.domain_core.specs.Domain.{Domain, Set}
use Rattle.eu_name.specs.declared.name.Part.TheVariants.{Param}
use Rattle.eu_name.specs.declared.name.VarName.TheVariants.{Token, Global}
use Rattle.model_core.specs.declared.decision.ConArg.{ConArg}
use Rattle.model_core.specs.declared.decision.ConArg.TheVariants.{Var}
use Rattle.model_core.specs.declared.decision.Decision.{Decision}
use Rattle.model_core.specs.declared.decision.Decision.TheVariants.{Constrain, Relate}
use Rattle.model_core.specs.declared.item.Rel.{Rel}
use Rattle.model_core.specs.declared.model.Model.{Model}
use Rattle.model_core.specs.declared.variable.Base.TheVariants.{Given}
use Rattle.model_core.specs.declared.variable.ValueKind.TheVariants.{Bool}
use Rattle.model_core.specs.declared.variable.VarDecl.{VarDecl}
use Rattle.model_core.specs.State.{State}
use Rattle.model_core.specs.Tokens.{root_token}
use Rattle.law_examples.specs.Globals.{declared_x, problem_of, with_two, up_to}

-- ---- arguments

-- the variables x and y, one that isn't there, and the quantity of the first root
abbrev pub the_x : ConArg
the_x = Var (Global 0)

abbrev pub the_y : ConArg
the_y = Var (Global 1)

abbrev pub the_third : ConArg
the_third = Var (Global 2)

abbrev pub the_quantity : ConArg
the_quantity = Var (Token (root_token 0) (Param 0))

-- ---- decisions

-- the one is at most the other
abbrev pub leq : ConArg → ConArg → Decision
leq one other = Constrain Leq (one ∷ other ∷ [])

-- they are equal
abbrev pub eq : ConArg → ConArg → Decision
eq one other = Constrain Eq (one ∷ other ∷ [])

-- `leq` with one argument too few
abbrev pub leq_alone : ConArg → Decision
leq_alone one = Constrain Leq (one ∷ [])

-- the relation holds between the first two roots, and between the first one and itself
abbrev pub relate_them : Rel → Decision
relate_them relation = Relate relation (root_token 0) (root_token 1)

abbrev pub relate_it : Rel → Decision
relate_it relation = Relate relation (root_token 0) (root_token 0)

-- ---- variables of two kinds

-- `false` and `true`
abbrev pub both_truths : Domain
both_truths = Set (pos 0 ∷ pos 1 ∷ [])

-- `bool b;`
abbrev pub declared_b : VarDecl
declared_b = record { name = codes "b"; kind = Bool; base = Given both_truths }

-- `int [0 2] x; bool b;`
abbrev pub typed : Model
typed = problem_of (declared_x ∷ declared_b ∷ []) []

abbrev pub the_b : ConArg
the_b = Var (Global 1)

-- nothing is known of them
abbrev pub typed_state : State
typed_state = with_two (up_to 2) both_truths
