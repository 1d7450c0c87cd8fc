-- What is posted, followed or due stays so where variables, blocks and constraints are added.
use Rattle.std.proofs.Common.{◌≡◌, ℕ, List, [], ◌∷◌, Some, inl, inr}
use Rattle.std.specs.Prelude.{Contains, slice_get}
use Rattle.std.specs.List.{AllZip}
use Rattle.eu_name.specs.declared.name.TokenName.{TokenName}
use Rattle.eu_name.specs.declared.name.VarName.{VarName}
use Rattle.model_core.specs.declared.rule.Guard.{Guard}
use Rattle.model_core.specs.declared.rule.Side.{Side}
use Rattle.model_core.specs.Blocks.{TokenBlock}
use Rattle.constraint_net.specs.declared.constraint.Constraint.{Constraint}
use Rattle.constraint_net.specs.declared.constraint.NetArg.{NetArg}
use Rattle.plan_defs.specs.Claims.{Claim}
use Rattle.plan_defs.specs.Terms.{Argument, Value, Variable}
use Rattle.db_refine.specs.Claims.{IsNamedArgument, SaysClaim, IsPostedIn}
use Rattle.model_core.specs.Content.{Content}
use Rattle.db_refine.specs.Progress.{IsDue, IsFollowed, IsTurnDue, IsTurnFollowed}

module _ (names later : List VarName) (kept : (k : ℕ) (name : VarName) → slice_get names k ≡ Some name → slice_get later k ≡ Some name) where
  argument_kept : (argument : Argument) (arg : NetArg) → IsNamedArgument names argument arg → IsNamedArgument later argument arg
  argument_kept (Value value) arg is = is
  argument_kept (Variable name) arg is = (is.0, is.1, kept is.0 name is.2)

  arguments_kept : (arguments : List Argument) (args : List NetArg) → AllZip (IsNamedArgument names) arguments args → AllZip (IsNamedArgument later) arguments args
  arguments_kept [] [] zip = tt
  arguments_kept [] (arg ∷ args) zip = zip
  arguments_kept (argument ∷ arguments) [] zip = zip
  arguments_kept (argument ∷ arguments) (arg ∷ args) zip = (argument_kept argument arg zip.0, arguments_kept arguments args zip.1)

  pub says_kept : (constraint : Constraint) (claim : Claim) → SaysClaim names constraint claim → SaysClaim later constraint claim
  says_kept constraint claim says = record { kind = says.kind; arguments = arguments_kept claim.arguments constraint.args says.arguments }

  pub posted_kept : (posted more : List Constraint) → ((constraint : Constraint) → Contains posted constraint → Contains more constraint)
      → (claim : Claim) → IsPostedIn names posted claim → IsPostedIn later more claim
  posted_kept posted more stays claim is = (is.0, stays is.0 is.1, says_kept is.0 claim is.2)

module _ (old new : Content) (due later : List ℕ) (kept : (name : VarName) → IsDue old due name → IsDue new later name) where
  pub followed_kept : ((block : TokenBlock) → Contains old.blocks block → Contains new.blocks block)
      → (block : TokenBlock) (place : ℕ) (guard : Guard) (side : Side) → IsFollowed old due block place guard side → IsFollowed new later block place guard side
  followed_kept stays block place guard side (inl there) = inl (stays _ there)
  followed_kept stays block place guard side (inr (name, names, is)) = inr (name, names, kept name is)

  turn_kept : (one other : TokenName) → IsTurnDue old due one other → IsTurnDue new later one other
  turn_kept one other (inl (inl is)) = inl (inl (kept _ is))
  turn_kept one other (inl (inr is)) = inl (inr (kept _ is))
  turn_kept one other (inr (inl is)) = inr (inl (kept _ is))
  turn_kept one other (inr (inr is)) = inr (inr (kept _ is))

  pub turn_followed_kept : (posted more : List Constraint) → ((claim : Claim) → IsPostedIn old.names posted claim → IsPostedIn new.names more claim)
      → (one other : TokenName) → IsTurnFollowed posted old due one other → IsTurnFollowed more new later one other
  turn_followed_kept posted more stays one other (inl there) = inl (stays _ there)
  turn_followed_kept posted more stays one other (inr is) = inr (turn_kept one other is)
