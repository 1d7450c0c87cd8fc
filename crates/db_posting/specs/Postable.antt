-- What can be posted of an item, and of a decision.
use Rattle.std.specs.Prelude.{◌≡◌, ◌≢◌, ◌<◌, ◌^◌, pos, ⊤, List, [], ◌∷◌, length, All, Contains}
use Rattle.model_core.specs.declared.item.Item.{Item}
use Rattle.model_core.specs.declared.item.Item.TheVariants.{Constraint, Relation}
use Rattle.domain_core.specs.declared.kind.Kind.{Kind}
use Rattle.domain_core.specs.declared.kind.Kind.TheVariants.{MulEq, AllDiff, Field}
use Rattle.model_core.specs.declared.item.Term.{Term}
use Rattle.model_core.specs.declared.item.Term.TheVariants.{Lit}
use Rattle.domain_core.specs.Constraints.{arity_of}
use Rattle.domain_core.specs.Domain.{IsValue}
use Rattle.model_core.specs.declared.decision.ConArg.{ConArg}
use Rattle.model_core.specs.declared.decision.ConArg.TheVariants as given
use Rattle.model_core.specs.Tokens.{slot_token}
use Rattle.narrow_core.specs.declared.field.Field as tables
use Rattle.plan_defs.specs.Terms.{Context, InProblem, InRule}
use Rattle.model_core.specs.Content.{Content}
use Rattle.db_refine.specs.Coming.{IsTermThere}
use Rattle.db_posting.specs.Terms.{CanStand, HasTimes}

-- the second of three terms is a value other than 0
abbrev pub HasFactorTerm : List Term → Type 0
HasFactorTerm (x ∷ Lit factor ∷ z ∷ []) = factor ≢ pos 0
HasFactorTerm terms = ⊥

-- what some kinds ask beside the count of their terms: a product has a factor, and a field a table
abbrev pub AreTermsAllowed : List tables.Field → Kind → List Term → Type 0
AreTermsAllowed tables MulEq terms = HasFactorTerm terms
AreTermsAllowed tables (Field number) terms = number < length tables
AreTermsAllowed tables AllDiff terms = ⊥
AreTermsAllowed tables kind terms = ⊤

-- a constraint of this kind can be posted on what these terms mean there
pub record CanPostTerms (tables : List tables.Field) (context : Context) (kind : Kind) (terms : List Term) : Type 0 where
  pub stand : All (CanStand context) terms
  pub count : length terms ≡ arity_of kind
  pub allowed : AreTermsAllowed tables kind terms

-- what the item says can be posted
abbrev pub CanPostItem : List tables.Field → Context → Item → Type 0
CanPostItem tables context (Constraint kind terms) = CanPostTerms tables context kind terms
CanPostItem tables (InRule token rule) (Relation rel slot) = slot < 2 ^ 16
CanPostItem tables InProblem (Relation rel slot) = ⊥

-- all variables that the item is about are there
abbrev pub IsItemNamed : Content → Context → Item → Type 0
IsItemNamed content context (Constraint kind terms) = All (IsTermThere content context) terms
IsItemNamed content (InRule token rule) (Relation rel slot) =
    HasTimes content token × HasTimes content (slot_token token rule slot)
IsItemNamed content InProblem (Relation rel slot) = ⊥

-- the argument is a variable, or a value that one may have
abbrev pub CanBeGiven : ConArg → Type 0
CanBeGiven (given.Var name) = ⊤
CanBeGiven (given.Value value) = IsValue value

-- the second of three arguments is a value other than 0
abbrev pub HasFactorArgument : List ConArg → Type 0
HasFactorArgument (x ∷ given.Value factor ∷ z ∷ []) = factor ≢ pos 0
HasFactorArgument arguments = ⊥

-- what some kinds ask beside the count of their arguments: a product has a factor; no decision posts a field, or that all differ
abbrev pub AreArgumentsAllowed : Kind → List ConArg → Type 0
AreArgumentsAllowed MulEq arguments = HasFactorArgument arguments
AreArgumentsAllowed (Field number) arguments = ⊥
AreArgumentsAllowed AllDiff arguments = ⊥
AreArgumentsAllowed kind arguments = ⊤

-- a constraint of this kind can be posted on these arguments, where their variables are there
pub record CanPostArguments (kind : Kind) (arguments : List ConArg) : Type 0 where
  pub values : All CanBeGiven arguments
  pub count : length arguments ≡ arity_of kind
  pub allowed : AreArgumentsAllowed kind arguments

-- the argument is there, if it is a variable
abbrev pub IsArgumentThere : Content → ConArg → Type 0
IsArgumentThere content (given.Var name) = Contains content.names name
IsArgumentThere content (given.Value value) = ⊤
