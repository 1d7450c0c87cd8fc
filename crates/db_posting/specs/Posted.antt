-- What is posted of items and of tokens.
use Rattle.std.specs.Prelude.{◌≡◌, ◌++◌, List, map, All, Contains}
use Rattle.std.specs.List.{AllZip}
use Rattle.eu_name.specs.declared.name.Part.TheVariants.{Start, End}
use Rattle.eu_name.specs.declared.name.TokenName.{TokenName}
use Rattle.eu_name.specs.declared.name.VarName.{VarName}
use Rattle.model_core.specs.declared.item.Item.{Item}
use Rattle.model_core.specs.declared.item.Item.TheVariants.{Constraint, Relation}
use Rattle.domain_core.specs.declared.kind.Kind.{Kind}
use Rattle.model_core.specs.declared.item.Term.{Term}
use Rattle.model_core.specs.Tokens.{slot_token}
use Rattle.constraint_net.specs.declared.constraint.Constraint as posts
use Rattle.plan_defs.specs.Claims.{Claim, relates, at_most, equal, part_of}
use Rattle.plan_defs.specs.Terms.{Argument, Context, InProblem, InRule, Means}
use Rattle.db_refine.specs.Claims.{SaysClaim, IsPostedIn}
use Rattle.db_store.specs.Stores.{Stored}
use Rattle.db_posting.specs.declared.relations.Comparison.{Comparison}
use Rattle.db_posting.specs.declared.relations.Comparison.TheVariants.{AtMost, Equal}
use Rattle.db_posting.specs.declared.relations.Moment.{Moment}
use Rattle.db_posting.specs.declared.relations.Moment.TheVariants as moments

-- behind the constraints that were there come some that each say one of these claims, and each of these claims is said
pub record PostsClaims (names : List VarName) (Said : Claim → Type 0) (old new : List posts.Constraint) : Type 0 where
  pub later : List posts.Constraint
  pub behind : new ≡ old ++ later
  pub each : All (λ constraint. (claim : Claim) × SaysClaim names constraint claim × Said claim) later
  pub all : (claim : Claim) → Said claim → IsPostedIn names later claim

-- but for the constraints of the network nothing changes
abbrev pub OnlyPosts : Stored → Stored → Type 0
OnlyPosts old new = new ≡ record old { net = record old.net { constraints = new.net.constraints } }

-- the constraint on these terms says the claim, whether or not what it is about counts
pub record AssertsOf (context : Context) (kind : Kind) (terms : List Term) (claim : Claim) : Type 0 where
  pub is_kind : claim.kind ≡ kind
  pub means : AllZip (Means context) terms claim.arguments

-- the item says the claim where it stands, whether or not what it is about counts
abbrev pub Asserts : Context → Item → Claim → Type 0
Asserts context (Constraint kind terms) claim = AssertsOf context kind terms claim
Asserts (InRule token rule) (Relation rel slot) claim = Contains (relates rel token (slot_token token rule slot)) claim
Asserts InProblem (Relation rel slot) claim = ⊥

-- the start or the end of one of the two tokens
abbrev pub moment_of : TokenName → TokenName → Moment → Argument
moment_of one other moments.Start = part_of one Start
moment_of one other moments.End = part_of one End
moment_of one other moments.OtherStart = part_of other Start
moment_of one other moments.OtherEnd = part_of other End

-- what the comparison claims of the two tokens
abbrev pub compares : TokenName → TokenName → Comparison → Claim
compares one other (AtMost first second) = at_most (moment_of one other first) (moment_of one other second)
compares one other (Equal first second) = equal (moment_of one other first) (moment_of one other second)

-- what they all claim
abbrev pub comparisons_claim : TokenName → TokenName → List Comparison → List Claim
comparisons_claim one other comparisons = map (compares one other) comparisons
