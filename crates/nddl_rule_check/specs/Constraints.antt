-- The words for constraints and relations, and what a constraint asks of its arguments.
use Rattle.std.specs.Prelude.{ℕ, ◌==◌, nat_lt, Bool, true, false, ◌&&◌, not, List, [], ◌∷◌, codes, Option, if◌then◌else◌}
use Rattle.std.specs.Map.{lookup}
use Rattle.std.specs.Str.{bytes_eq}
use Rattle.domain_core.specs.declared.kind.Kind.{Kind}
use Rattle.domain_core.specs.declared.kind.Kind.TheVariants as constraints
use Rattle.model_core.specs.declared.item.Rel.{Rel}
use Rattle.model_core.specs.declared.item.Rel.TheVariants as relations
use Rattle.nddl_typeexpr.specs.declared.kind.TypeKind.TheVariants as kinds
use Rattle.nddl_rule_check.specs.declared.asked.Asked.{Asked}
use Rattle.nddl_rule_check.specs.declared.asked.Asked.TheVariants as asked

abbrev pub constraint_words : List (List ℕ × Kind)
constraint_words =
    (codes "eq", constraints.Eq) ∷ (codes "neq", constraints.Neq) ∷ (codes "lt", constraints.Lt)
    ∷ (codes "leq", constraints.Leq) ∷ (codes "addEq", constraints.AddEq) ∷ (codes "mulEq", constraints.MulEq)
    ∷ (codes "testEQ", constraints.TestEq) ∷ (codes "testLEQ", constraints.TestLeq)
    ∷ (codes "allDiff", constraints.AllDiff) ∷ []

abbrev pub relation_words : List (List ℕ × Rel)
relation_words =
    (codes "any", relations.Any) ∷ (codes "before", relations.Before) ∷ (codes "after", relations.After)
    ∷ (codes "meets", relations.Meets) ∷ (codes "met_by", relations.MetBy) ∷ (codes "equals", relations.Equals)
    ∷ (codes "contains", relations.Contains) ∷ (codes "contained_by", relations.ContainedBy)
    ∷ (codes "starts", relations.Starts) ∷ (codes "ends", relations.Ends) ∷ (codes "parallels", relations.Parallels)
    ∷ (codes "paralleled_by", relations.ParalleledBy) ∷ (codes "starts_during", relations.StartsDuring)
    ∷ (codes "contains_start", relations.ContainsStart) ∷ (codes "ends_during", relations.EndsDuring)
    ∷ (codes "contains_end", relations.ContainsEnd) ∷ []

-- the constraint of this name
unfoldable pub constraint_named : List ℕ → Option Kind
constraint_named name = lookup (λ word. bytes_eq name word) constraint_words

-- the relation of this name
unfoldable pub relation_named : List ℕ → Option Rel
relation_named name = lookup (λ word. bytes_eq name word) relation_words

-- the constraint may have so many arguments
abbrev pub takes : Kind → ℕ → Bool
takes constraints.Eq number = number == 2
takes constraints.Neq number = number == 2
takes constraints.Lt number = number == 2
takes constraints.Leq number = number == 2
takes constraints.AddEq number = number == 3
takes constraints.MulEq number = number == 3
takes constraints.TestEq number = number == 3
takes constraints.TestLeq number = number == 3
takes constraints.AllDiff number = nat_lt 1 number
takes (constraints.Field field) number = false

-- what the constraint asks of its argument at this place
abbrev pub asked_at : Kind → ℕ → Asked
asked_at constraints.Lt place = asked.Of kinds.Int
asked_at constraints.Leq place = asked.Of kinds.Int
asked_at constraints.AddEq place = asked.Of kinds.Int
asked_at constraints.MulEq place = if place == 1 then asked.Factor else asked.Of kinds.Int
asked_at constraints.TestEq place = if place == 0 then asked.Of kinds.Bool else asked.Compared
asked_at constraints.TestLeq place = if place == 0 then asked.Of kinds.Bool else asked.Of kinds.Int
asked_at kind place = asked.Compared

-- the argument at this place is one of those that the constraint compares
abbrev pub is_compared_at : Kind → ℕ → Bool
is_compared_at constraints.MulEq place = not (place == 1)
is_compared_at constraints.TestEq place = not (place == 0)
is_compared_at constraints.TestLeq place = not (place == 0)
is_compared_at kind place = true

-- what the constraint asks of its argument at this place, where a decimal is among those that are compared or not
abbrev pub asked_among : Bool → Kind → ℕ → Asked
asked_among decimal kind place =
    if decimal && is_compared_at kind place then asked.Of kinds.Float else asked_at kind place
