-- The terms of what is compared: decimals, where one of it is a decimal.
use Rattle.std.specs.Prelude.{ℤ, pos, Bool, true, false, List, [], ◌∷◌, map, if◌then◌else◌}
use Rattle.std.specs.List.{list_any}
use Rattle.std.specs.Option.{option_map_or}
use Rattle.domain_core.specs.declared.kind.Kind.{Kind}
use Rattle.domain_core.specs.declared.kind.Kind.TheVariants.{MulEq, TestEq, TestLeq}
use Rattle.model_core.specs.declared.item.Term.{Term}
use Rattle.model_core.specs.declared.item.Term.TheVariants as terms
use Rattle.model_core.specs.declared.variable.ValueKind.TheVariants as kinds
use Rattle.nddl_ast.specs.Decimals.{decimal_for}
use Rattle.nddl_terms.specs.declared.stands.Stand.{Stand}
use Rattle.nddl_terms.specs.declared.stands.Stand.TheVariants.{Value}

-- the term for what is no value; nothing that is wrong stands in a rule that is unrolled, so it never comes
abbrev pub no_term : Term
no_term = terms.Lit (pos 0)

-- the term of a value
abbrev pub stand_term : Stand → Term
stand_term (Value term kind class) = term
stand_term other = no_term

-- ---- decimals

-- a decimal, or a variable that is one
abbrev pub is_decimal_stand : Stand → Bool
is_decimal_stand (Value term kinds.Float class) = true
is_decimal_stand stand = false

-- one of these is a decimal
abbrev pub has_decimal : List Stand → Bool
has_decimal stands = list_any is_decimal_stand stands

-- the decimal, in thousandths, for which a number stands; one that stands for none never comes
abbrev pub decimal_number : ℤ → ℤ
decimal_number number = option_map_or (λ decimal. decimal) (decimal_for number) number

-- what stands for it where a decimal is wanted: a number that is known stands for a decimal
abbrev pub decimal_stand : Stand → Stand
decimal_stand (Value (terms.Lit number) kinds.Int class) = Value (terms.Lit (decimal_number number)) kinds.Float class
decimal_stand stand = stand

abbrev pub decimal_term : Stand → Term
decimal_term stand = stand_term (decimal_stand stand)

-- ---- what is compared

-- the term of one that is compared, as a decimal or as it is
abbrev pub compared_term : Bool → Stand → Term
compared_term decimal stand = if decimal then decimal_term stand else stand_term stand

-- the terms of those that are compared: if one is a decimal, they all are
abbrev pub compared_terms : List Stand → List Term
compared_terms stands = map (compared_term (has_decimal stands)) stands

-- The terms of a constraint. The truth that tells of a comparison isn't compared, and a factor isn't, either.
abbrev pub constraint_terms : Kind → List Stand → List Term
constraint_terms TestEq (truth ∷ compared) = stand_term truth ∷ compared_terms compared
constraint_terms TestLeq (truth ∷ compared) = stand_term truth ∷ compared_terms compared
constraint_terms MulEq (first ∷ factor ∷ product ∷ []) =
    let decimal = has_decimal (first ∷ product ∷ []) in
    compared_term decimal first ∷ stand_term factor ∷ compared_term decimal product ∷ []
constraint_terms kind stands = compared_terms stands
