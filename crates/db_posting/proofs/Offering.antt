-- Arguments by name, and values, as arguments of a constraint that is posted.
use Rattle.std.proofs.Common.{◌≡◌, ℕ, ◌+◌, ◌<◌, List, [], ◌∷◌, ◌++◌, length, take, get_or, map, sym, ap, ◌∙◌, subst}
use Rattle.std.specs.Prelude.{All}
use Rattle.std.specs.List.{AllZip}
use Rattle.std.proofs.lemmas.List.{take_more, map_push, length-map}
use Rattle.std.proofs.lemmas.List.Elements.{All-head, All-tail, All-cons, All-nil}
use Rattle.std.proofs.lemmas.Slice.Zip.{AllZip-long}
use Rattle.domain_core.specs.declared.kind.Kind.{Kind}
use Rattle.domain_core.specs.declared.kind.Kind.TheVariants.{MulEq, AllDiff, Field}
use Rattle.eu_name.specs.declared.name.VarName.{VarName}
use Rattle.model_core.specs.declared.decision.ConArg.{ConArg}
use Rattle.model_core.specs.declared.decision.ConArg.TheVariants as given
use Rattle.narrow_core.specs.declared.field.Field as tables
use Rattle.constraint_net.specs.Arguments.{IsArgument}
use Rattle.constraint_net.specs.Networks.{CanPost, IsAllowed, HasFactor}
use Rattle.constraint_net.specs.declared.constraint.NetArg.{NetArg}
use Rattle.plan_defs.specs.Claims.{argument_of}
use Rattle.plan_defs.specs.Terms.{Argument}
use Rattle.db_refine.specs.Claims.{IsNamedArgument}
use Rattle.db_posting.specs.Postable.{CanBeGiven, HasFactorArgument, AreArgumentsAllowed, CanPostArguments}
use Rattle.db_posting.proofs.Meaning.{named_argument, zip_push}

module _ (names : List VarName) where
  -- they are the first so many of the constraint's
  pub arguments_more : (arguments : List ConArg) (args : List NetArg) (count : ℕ) (arg : NetArg) (d : ConArg) → count < length arguments
      → AllZip (IsNamedArgument names) (map argument_of (take count arguments)) args → IsNamedArgument names (argument_of (get_or arguments count d)) arg
      → AllZip (IsNamedArgument names) (map argument_of (take (count + 1) arguments)) (args ++ arg ∷ [])
  arguments_more arguments args count arg d below zip is =
      let all : map argument_of (take (count + 1) arguments) ≡ map argument_of (take count arguments) ++ argument_of (get_or arguments count d) ∷ [] =
      ap (map argument_of) (take_more arguments count d below) ∙ map_push argument_of (take count arguments) (get_or arguments count d) in
      subst (λ (list : List Argument). AllZip (IsNamedArgument names) list (args ++ arg ∷ [])) (sym all)
      (zip_push (IsNamedArgument names) (map argument_of (take count arguments)) args (argument_of (get_or arguments count d)) arg zip is)

  argument_is : (count : ℕ) → length names ≡ count → (argument : ConArg) (arg : NetArg) → CanBeGiven argument → IsNamedArgument names (argument_of argument) arg → IsArgument count arg
  argument_is count long (given.Var name) arg can named = named_argument names count long name arg named
  argument_is count long (given.Value value) arg can named = subst (IsArgument count) (sym named) can

  arguments_are : (count : ℕ) → length names ≡ count → (arguments : List ConArg) (args : List NetArg) → All CanBeGiven arguments
      → AllZip (IsNamedArgument names) (map argument_of arguments) args → All (IsArgument count) args
  arguments_are count long [] [] can zip = All-nil (IsArgument count)
  arguments_are count long [] (arg ∷ args) can zip = absurd zip
  arguments_are count long (argument ∷ arguments) [] can zip = absurd zip
  arguments_are count long (argument ∷ arguments) (arg ∷ args) can zip =
      All-cons (IsArgument count) arg args
      (argument_is count long argument arg (All-head CanBeGiven argument arguments can) zip.0)
      (arguments_are count long arguments args (All-tail CanBeGiven argument arguments can) zip.1)

  has_factor : (arguments : List ConArg) (args : List NetArg) → AllZip (IsNamedArgument names) (map argument_of arguments) args → HasFactorArgument arguments → HasFactor args
  has_factor (x ∷ given.Value factor ∷ z ∷ []) (a ∷ b ∷ c ∷ []) zip has = subst (λ arg. HasFactor (a ∷ arg ∷ c ∷ [])) (sym zip.1.0) has
  has_factor (x ∷ given.Value factor ∷ z ∷ []) [] zip has = absurd zip
  has_factor (x ∷ given.Value factor ∷ z ∷ []) (a ∷ []) zip has = absurd zip.1
  has_factor (x ∷ given.Value factor ∷ z ∷ []) (a ∷ b ∷ []) zip has = absurd zip.1.1
  has_factor (x ∷ given.Value factor ∷ z ∷ []) (a ∷ b ∷ c ∷ d ∷ args) zip has = absurd zip.1.1.1
  has_factor arguments args zip has = absurd has

  allowed : (tables : List tables.Field) (kind : Kind) (arguments : List ConArg) (args : List NetArg) → AllZip (IsNamedArgument names) (map argument_of arguments) args
      → AreArgumentsAllowed kind arguments → IsAllowed tables kind args
  allowed tables MulEq arguments args zip is = has_factor arguments args zip is
  allowed tables (Field number) arguments args zip is = absurd is
  allowed tables AllDiff arguments args zip is = absurd is
  allowed tables kind arguments args zip is = tt

  -- a constraint that can be posted on them can be posted in the network
  pub can_post_named : (tables : List tables.Field) (count : ℕ) → length names ≡ count → (kind : Kind) (arguments : List ConArg) (args : List NetArg)
      → AllZip (IsNamedArgument names) (map argument_of arguments) args → CanPostArguments kind arguments → CanPost tables count kind args
  can_post_named tables count long kind arguments args zip can = record {
    arguments = arguments_are count long arguments args can.values zip;
    count = AllZip-long (IsNamedArgument names) (map argument_of arguments) args zip ∙ (length-map arguments argument_of ∙ can.count);
    allowed = allowed tables kind arguments args zip can.allowed;
  }
