-- What a law says of the arguments is what the constraint of its kind says.
use Rattle.std.proofs.Common.{◌≡◌, ℕ, ℤ, List, [], ◌∷◌, length, Some, sym, subst, arith}
use Rattle.std.specs.Prelude.{All, Option, IsSomeAnd, slice_get, Result}
use Rattle.std.specs.declared.alloc.AllocError.{AllocError}
use Rattle.std.proofs.lemmas.List.Elements.{All-head, All-tail}
use Rattle.std.proofs.lemmas.Int.{ints}
use Rattle.domain_core.specs.Domain.{Domain, Range, IsDomain, IsValue, IsSingle}
use Rattle.domain_core.specs.declared.Change.{Change}
use Rattle.domain_core.specs.Consistency.{Values, Ends}
use Rattle.domain_core.specs.Constraints.{AgreeOn, HoldsOf, IsFieldOf}
use Rattle.domain_core.specs.declared.kind.Kind.{Kind}
use Rattle.domain_core.specs.declared.kind.Kind.TheVariants as kind
use Rattle.narrow_core.specs.Meanings.{IsInTable, IsProduct}
use Rattle.narrow_core.specs.declared.field.Field.{Field}
use Rattle.narrow_core.proofs.Three.{like_three}
use Rattle.constraint_net.specs.Arguments.{IsArgument, domain_of, domains_of, AgreeAt}
use Rattle.constraint_net.specs.Networks.{field_of, IsConsistent}
use Rattle.constraint_net.specs.Steps.{StepsTo}
use Rattle.constraint_net.specs.declared.constraint.NetArg.{NetArg}
use Rattle.constraint_net.specs.declared.constraint.NetArg.TheVariants.{Lit}
use Rattle.constraint_net.specs.declared.constraint.Constraint.{Constraint}
use Rattle.constraint_net.proofs.Within.{argument_is}
use Rattle.constraint_net.proofs.Advancing.{steps_as}

-- a step for the kind on the arguments is one for the constraint
pub for_kind : (tables : List Field) (constraint : Constraint) (kind : Kind) (args : List NetArg) (old new : List Domain) (result : Result Change AllocError) → constraint.kind ≡ kind → args ≡ constraint.args
    → StepsTo (λ domains. AgreeOn (field_of tables) kind (domains_of domains args)) old result new → StepsTo (IsConsistent tables constraint) old result new
for_kind tables constraint kind args old new result is args_are step =
    subst (λ k. StepsTo (λ domains. AgreeOn (field_of tables) k (domains_of domains constraint.args)) old result new) (sym is)
    (subst (λ list. StepsTo (λ domains. AgreeOn (field_of tables) kind (domains_of domains list)) old result new) args_are step)

-- a table is what the tables say of its number
pub for_field : (tables : List Field) (number : ℕ) (table : Field) (args : List NetArg) (old new : List Domain) (result : Result Change AllocError) → slice_get tables number ≡ Some table
    → StepsTo (AgreeAt Values (IsFieldOf (IsInTable table.entries)) args) old result new → StepsTo (λ domains. AgreeOn (field_of tables) (kind.Field number) (domains_of domains args)) old result new
for_field tables number table args old new result found step = subst of_table (sym found) step
  where
    of_table : Option Field → Type 0
    of_table some = StepsTo (AgreeAt Values (IsFieldOf (λ object value. IsSomeAnd some (λ t. IsInTable t.entries object value))) args) old result new

single_lit : (value : ℤ) → IsSingle (Range value value) value
single_lit value = record { has = (omega (arith, ints), omega (arith, ints)); only = λ other has. omega (arith, ints, has.0, has.1) }

-- a product by a factor is the constraint of three arguments, the second of which is written
pub for_product : (x z : NetArg) (factor : ℤ) (old new : List Domain) (result : Result Change AllocError) → All IsDomain old
    → IsArgument (length old) x → IsArgument (length old) z → IsValue factor
    → StepsTo (AgreeAt Ends (IsProduct factor) (x ∷ z ∷ [])) old result new → StepsTo (AgreeAt Ends (HoldsOf kind.MulEq) (x ∷ Lit factor ∷ z ∷ [])) old result new
for_product x z factor old new result are x_is z_is value step =
    steps_as (AgreeAt Ends (IsProduct factor) (x ∷ z ∷ [])) (AgreeAt Ends (HoldsOf kind.MulEq) (x ∷ Lit factor ∷ z ∷ [])) old new result are
    (λ domains d_are long.
    let law = like_three factor (domain_of domains x) (Range factor factor) (domain_of domains z)
    (argument_is domains x d_are (subst (λ n. IsArgument n x) (sym long) x_is)) (value, value, omega (arith, ints))
    (argument_is domains z d_are (subst (λ n. IsArgument n z) (sym long) z_is)) (single_lit factor) in
    (law.1, law.0))
    step

-- the value of a written factor
pub factor_value : (count : ℕ) (x factor z : NetArg) (number : ℤ) → factor ≡ Lit number → All (IsArgument count) (x ∷ factor ∷ z ∷ []) → IsValue number
factor_value count x factor z number is exist =
    subst (IsArgument count) is (All-head (IsArgument count) factor (z ∷ []) (All-tail (IsArgument count) x (factor ∷ z ∷ []) exist))

-- the same where the factor was looked at
pub for_factor : (x factor z : NetArg) (number other : ℤ) (old new : List Domain) (result : Result Change AllocError) → factor ≡ Lit number → other ≡ number → All IsDomain old → All (IsArgument (length old)) (x ∷ factor ∷ z ∷ [])
    → StepsTo (AgreeAt Ends (IsProduct other) (x ∷ z ∷ [])) old result new → StepsTo (AgreeAt Ends (HoldsOf kind.MulEq) (x ∷ factor ∷ z ∷ [])) old result new
for_factor x factor z number other old new result is same are exist step =
    let later = All-tail (IsArgument (length old)) x (factor ∷ z ∷ []) exist in
    let last = All-head (IsArgument (length old)) z [] (All-tail (IsArgument (length old)) factor (z ∷ []) later) in
    let first = All-head (IsArgument (length old)) x (factor ∷ z ∷ []) exist in
    subst (λ f. StepsTo (AgreeAt Ends (HoldsOf kind.MulEq) (x ∷ f ∷ z ∷ [])) old result new) (sym is)
    (for_product x z number old new result are first last (factor_value (length old) x factor z number is exist)
    (subst (λ k. StepsTo (AgreeAt Ends (IsProduct k) (x ∷ z ∷ [])) old result new) same step))
