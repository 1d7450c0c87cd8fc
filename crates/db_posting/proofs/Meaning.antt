-- Terms, what they mean, and the arguments that they are.
use Rattle.std.proofs.Common.{◌≡◌, ℕ, ℤ, ◌+◌, ◌<◌, List, [], ◌∷◌, ◌++◌, length, take, get_or, refl, sym, ◌∙◌, subst, arith}
use Rattle.std.specs.Prelude.{All}
use Rattle.std.specs.List.{AllZip}
use Rattle.std.proofs.lemmas.List.{take_more}
use Rattle.std.proofs.lemmas.List.Elements.{All-head, All-tail, All-cons, All-nil}
use Rattle.std.proofs.lemmas.Option.{slice_get_within}
use Rattle.std.proofs.lemmas.Slice.Zip.{AllZip-long}
use Rattle.domain_core.specs.Domain.{IsValue}
use Rattle.eu_name.specs.declared.name.VarName.{VarName}
use Rattle.eu_name.specs.declared.name.VarName.TheVariants as name
use Rattle.domain_core.specs.declared.kind.Kind.{Kind}
use Rattle.domain_core.specs.declared.kind.Kind.TheVariants.{MulEq, AllDiff, Field}
use Rattle.model_core.specs.declared.item.Term.{Term}
use Rattle.model_core.specs.declared.item.Term.TheVariants as terms
use Rattle.model_core.specs.Tokens.{root_token, slot_token}
use Rattle.narrow_core.specs.declared.field.Field as tables
use Rattle.constraint_net.specs.Arguments.{IsArgument}
use Rattle.constraint_net.specs.Networks.{CanPost, IsAllowed, HasFactor}
use Rattle.constraint_net.specs.declared.constraint.NetArg.{NetArg}
use Rattle.plan_defs.specs.Terms.{Context, InProblem, InRule, Argument, Value, Variable, Means}
use Rattle.db_refine.specs.Claims.{IsNamedArgument}
use Rattle.model_core.specs.Content.{Content}
use Rattle.db_posting.specs.Terms.{CanStand, IsTermArgument}
use Rattle.db_posting.specs.Postable.{CanPostTerms, AreTermsAllowed, HasFactorTerm}

pub zip_push : {X Y : Type 0} (R : X → Y → Type 0) (xs : List X) (ys : List Y) (x : X) (y : Y) → AllZip R xs ys → R x y → AllZip R (xs ++ x ∷ []) (ys ++ y ∷ [])
zip_push R [] [] x y all last = (last, tt)
zip_push R [] (other ∷ ys) x y all last = absurd all
zip_push R (first ∷ xs) [] x y all last = absurd all
zip_push R (first ∷ xs) (other ∷ ys) x y all last = (all.0, zip_push R xs ys x y all.1 last)

-- ---- one term

-- a term that may stand there means something
pub meant : (context : Context) (term : Term) → CanStand context term → (argument : Argument) × Means context term argument
meant context (terms.Lit value) stands = (Value value, refl)
meant context (terms.Global number) stands = (Variable (name.Global number), refl)
meant context (terms.Root number part) stands = (Variable (name.Token (root_token number) part), refl)
meant (InRule token rule) (terms.Here part) stands = (Variable (name.Token token part), refl)
meant (InRule token rule) (terms.Slot number part) stands = (Variable (name.Token (slot_token token rule number) part), refl)
meant (InRule token rule) (terms.Local number) stands = (Variable (name.Local token rule number), refl)
meant InProblem (terms.Here part) stands = absurd stands
meant InProblem (terms.Slot number part) stands = absurd stands
meant InProblem (terms.Local number) stands = absurd stands

-- a variable's number is that of an argument
pub named_argument : (names : List VarName) (count : ℕ) → length names ≡ count → (one : VarName) (arg : NetArg) → IsNamedArgument names (Variable one) arg → IsArgument count arg
named_argument names count long one arg named =
    subst (IsArgument count) (sym named.1) (let below = slice_get_within names named.0 one named.2 in let within : named.0 < count = omega (arith, below, long) in within)

-- a value that a term means is a value
value_is : (context : Context) (term : Term) (value : ℤ) → CanStand context term → Means context term (Value value) → IsValue value
value_is context (terms.Lit written) value stands means = let same : value ≡ written = cc in subst IsValue (sym same) stands
value_is context (terms.Global number) value stands means = absurd (cc)
value_is context (terms.Root number part) value stands means = absurd (cc)
value_is (InRule token rule) (terms.Here part) value stands means = absurd (cc)
value_is (InRule token rule) (terms.Slot number part) value stands means = absurd (cc)
value_is (InRule token rule) (terms.Local number) value stands means = absurd (cc)
value_is InProblem (terms.Here part) value stands means = absurd stands
value_is InProblem (terms.Slot number part) value stands means = absurd stands
value_is InProblem (terms.Local number) value stands means = absurd stands

module _ (content : Content) (context : Context) where
  meant_argument : (count : ℕ) → length content.names ≡ count → (term : Term) (argument : Argument) (arg : NetArg) → CanStand context term → Means context term argument
      → IsNamedArgument content.names argument arg → IsArgument count arg
  meant_argument count long term (Value value) arg stands means named = subst (IsArgument count) (sym named) (value_is context term value stands means)
  meant_argument count long term (Variable one) arg stands means named = named_argument content.names count long one arg named

  -- ---- all terms

  arguments_are : (count : ℕ) → length content.names ≡ count → (terms : List Term) (args : List NetArg) → All (CanStand context) terms
      → AllZip (IsTermArgument content context) terms args → All (IsArgument count) args
  arguments_are count long [] [] stand zip = All-nil (IsArgument count)
  arguments_are count long [] (arg ∷ args) stand zip = absurd zip
  arguments_are count long (term ∷ terms) [] stand zip = absurd zip
  arguments_are count long (term ∷ terms) (arg ∷ args) stand zip =
      let stands = All-head (CanStand context) term terms stand in
      let means = meant context term stands in
      All-cons (IsArgument count) arg args
      (meant_argument count long term means.0 arg stands means.1 (zip.0 means.0 means.1))
      (arguments_are count long terms args (All-tail (CanStand context) term terms stand) zip.1)

  has_factor : (terms : List Term) (args : List NetArg) → AllZip (IsTermArgument content context) terms args → HasFactorTerm terms → HasFactor args
  has_factor (x ∷ terms.Lit factor ∷ z ∷ []) (a ∷ b ∷ c ∷ []) zip has = subst (λ arg. HasFactor (a ∷ arg ∷ c ∷ [])) (sym (zip.1.0 (Value factor) refl)) has
  has_factor (x ∷ terms.Lit factor ∷ z ∷ []) [] zip has = absurd zip
  has_factor (x ∷ terms.Lit factor ∷ z ∷ []) (a ∷ []) zip has = absurd zip.1
  has_factor (x ∷ terms.Lit factor ∷ z ∷ []) (a ∷ b ∷ []) zip has = absurd zip.1.1
  has_factor (x ∷ terms.Lit factor ∷ z ∷ []) (a ∷ b ∷ c ∷ d ∷ args) zip has = absurd zip.1.1.1
  has_factor terms args zip has = absurd has

  allowed : (tables : List tables.Field) (kind : Kind) (terms : List Term) (args : List NetArg) → AllZip (IsTermArgument content context) terms args
      → AreTermsAllowed tables kind terms → IsAllowed tables kind args
  allowed tables MulEq terms args zip is = has_factor terms args zip is
  allowed tables (Field number) terms args zip is = is
  allowed tables AllDiff terms args zip is = absurd is
  allowed tables kind terms args zip is = tt

  -- what the terms mean can be posted
  pub can_post : (tables : List tables.Field) (count : ℕ) → length content.names ≡ count → (kind : Kind) (terms : List Term) (args : List NetArg)
      → AllZip (IsTermArgument content context) terms args → CanPostTerms tables context kind terms → CanPost tables count kind args
  can_post tables count long kind terms args zip can =
      record {
        arguments = arguments_are count long terms args can.stand zip;
        count = AllZip-long (IsTermArgument content context) terms args zip ∙ can.count;
        allowed = allowed tables kind terms args zip can.allowed;
      }

  -- the arguments that they mean
  pub all_meant : (terms : List Term) (args : List NetArg) → All (CanStand context) terms → AllZip (IsTermArgument content context) terms args
      → (arguments : List Argument) × AllZip (Means context) terms arguments × AllZip (IsNamedArgument content.names) arguments args
  all_meant [] [] stand zip = ([], tt, tt)
  all_meant [] (arg ∷ args) stand zip = absurd zip
  all_meant (term ∷ terms) [] stand zip = absurd zip
  all_meant (term ∷ terms) (arg ∷ args) stand zip =
      let means = meant context term (All-head (CanStand context) term terms stand) in
      let rest = all_meant terms args (All-tail (CanStand context) term terms stand) zip.1 in
      (means.0 ∷ rest.0, (means.1, rest.1), (zip.0 means.0 means.1, rest.2))

  pub all_named : (terms : List Term) (args : List NetArg) (arguments : List Argument) → AllZip (IsTermArgument content context) terms args → AllZip (Means context) terms arguments
      → AllZip (IsNamedArgument content.names) arguments args
  all_named [] [] [] zip means = tt
  all_named [] (arg ∷ args) arguments zip means = absurd zip
  all_named [] [] (argument ∷ arguments) zip means = absurd means
  all_named (term ∷ terms) [] arguments zip means = absurd zip
  all_named (term ∷ terms) (arg ∷ args) [] zip means = absurd means
  all_named (term ∷ terms) (arg ∷ args) (argument ∷ arguments) zip means =
      (zip.0 argument means.0, all_named terms args arguments zip.1 means.1)

  -- ---- in a loop

  pub arguments_more : (terms : List Term) (args : List NetArg) (count : ℕ) (arg : NetArg) (d : Term) → count < length terms → AllZip (IsTermArgument content context) (take count terms) args
      → IsTermArgument content context (get_or terms count d) arg → AllZip (IsTermArgument content context) (take (count + 1) terms) (args ++ arg ∷ [])
  arguments_more terms args count arg d below zip is =
      rw (take_more terms count d below) (zip_push (IsTermArgument content context) (take count terms) args (get_or terms count d) arg zip is)
