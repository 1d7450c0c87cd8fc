-- The words for the constraints and relations that a decision may post.
use Rattle.std.specs.Prelude.{⊤, ℕ, Option, List, [], ◌∷◌, codes}
use Rattle.std.specs.List.{find}
use Rattle.std.specs.Str.{bytes_eq}
use Rattle.domain_core.specs.declared.kind.Kind.{Kind}
use Rattle.domain_core.specs.declared.kind.Kind.TheVariants as constraints
use Rattle.model_core.specs.declared.item.Rel.{Rel}
use Rattle.model_core.specs.declared.item.Rel.TheVariants as relations

-- a decision may post constraints of this kind
abbrev pub IsPosted : Kind → Type 0
IsPosted constraints.AllDiff = ⊥
IsPosted (constraints.Field number) = ⊥
IsPosted kind = ⊤

-- how a constraint is written
abbrev pub constraint_word : Kind → List ℕ
constraint_word constraints.Eq = codes "eq"
constraint_word constraints.Neq = codes "neq"
constraint_word constraints.Lt = codes "lt"
constraint_word constraints.Leq = codes "leq"
constraint_word constraints.AddEq = codes "addEq"
constraint_word constraints.MulEq = codes "mulEq"
constraint_word constraints.TestEq = codes "testEQ"
constraint_word constraints.TestLeq = codes "testLEQ"
constraint_word constraints.AllDiff = codes "allDiff"
constraint_word (constraints.Field number) = codes "field"

-- all that a decision may post
abbrev pub posted_kinds : List Kind
posted_kinds =
    constraints.Eq ∷ constraints.Neq ∷ constraints.Lt ∷ constraints.Leq ∷ constraints.AddEq ∷ constraints.MulEq
    ∷ constraints.TestEq ∷ constraints.TestLeq ∷ []

-- the one of them that is written so, if there is one
unfoldable pub constraint_named : List ℕ → Option Kind
constraint_named word = find (λ kind. bytes_eq (constraint_word kind) word) posted_kinds

-- how a relation is written
abbrev pub relation_word : Rel → List ℕ
relation_word relations.Any = codes "any"
relation_word relations.Before = codes "before"
relation_word relations.After = codes "after"
relation_word relations.Meets = codes "meets"
relation_word relations.MetBy = codes "met_by"
relation_word relations.Equals = codes "equals"
relation_word relations.Contains = codes "contains"
relation_word relations.ContainedBy = codes "contained_by"
relation_word relations.Starts = codes "starts"
relation_word relations.Ends = codes "ends"
relation_word relations.Parallels = codes "parallels"
relation_word relations.ParalleledBy = codes "paralleled_by"
relation_word relations.StartsDuring = codes "starts_during"
relation_word relations.ContainsStart = codes "contains_start"
relation_word relations.EndsDuring = codes "ends_during"
relation_word relations.ContainsEnd = codes "contains_end"

-- all of them
abbrev pub all_relations : List Rel
all_relations =
    relations.Any ∷ relations.Before ∷ relations.After ∷ relations.Meets ∷ relations.MetBy ∷ relations.Equals
    ∷ relations.Contains ∷ relations.ContainedBy ∷ relations.Starts ∷ relations.Ends ∷ relations.Parallels
    ∷ relations.ParalleledBy ∷ relations.StartsDuring ∷ relations.ContainsStart ∷ relations.EndsDuring
    ∷ relations.ContainsEnd ∷ []

-- the one that is written so, if there is one
unfoldable pub relation_named : List ℕ → Option Rel
relation_named word = find (λ relation. bytes_eq (relation_word relation) word) all_relations
