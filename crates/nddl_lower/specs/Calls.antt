-- What calls and labelled relations stand for in a rule.
use Rattle.std.specs.Prelude.{ℕ, List, [], ◌∷◌}
use Rattle.std.specs.Option.{option_map_or}
use Rattle.model_core.specs.declared.item.Rel.{Rel}
use Rattle.nddl_ast.specs.declared.expression.Expr.{Expr}
use Rattle.nddl_ast.specs.declared.expression.Expr.TheVariants as exprs
use Rattle.nddl_ast.specs.declared.name.Name.{Name}
use Rattle.nddl_ast.specs.declared.name.Path.{Path}
use Rattle.nddl_ast.specs.declared.statement.Ask.{Ask}
use Rattle.nddl_ast.specs.declared.statement.Call.{Call}
use Rattle.nddl_rule_check.specs.Constraints.{constraint_named, relation_named}
use Rattle.nddl_terms.specs.declared.growth.Growth.{Growth}
use Rattle.nddl_terms.specs.declared.stands.Made.{Made}
use Rattle.nddl_terms.specs.Readings.{Readings}
use Rattle.nddl_terms.specs.Stands.{first_stand}
use Rattle.nddl_lower.specs.Arguments.{with_constraint}
use Rattle.nddl_lower.specs.Slots.{asked_labelled, asked_path, with_asked, with_relation}

-- a relation that is written there, to what these names lead to: one name is a label, and more ask for a token
abbrev pub with_related : Readings → List Made → ℕ → Rel → Path → List Name → Growth → Growth
with_related reading turns at relation path [] growth =
    with_relation relation (first_stand reading turns growth path.first.at) growth
with_related reading turns at relation path (name ∷ more) growth =
    with_asked reading.lexicon at relation (asked_path reading turns path growth)

-- the same with the arguments of the relation, of which there is one
abbrev pub with_relation_to : Readings → List Made → ℕ → Rel → List Expr → Growth → Growth
with_relation_to reading turns at relation (exprs.Path path ∷ []) growth =
    with_related reading turns at relation path path.rest growth
with_relation_to reading turns at relation some growth = growth

-- a constraint, if the word is one
abbrev pub with_constraint_named : Readings → List Made → Name → List Expr → Growth → Growth
with_constraint_named reading turns word some growth =
    option_map_or (λ kind. with_constraint reading turns kind some growth) (constraint_named word.text) growth

-- a relation or a constraint
abbrev pub with_call : Readings → List Made → Call → Growth → Growth
with_call reading turns call growth =
    option_map_or (λ relation. with_relation_to reading turns call.path.first.at relation call.arguments growth)
    (relation_named call.path.first.text) (with_constraint_named reading turns call.path.first call.arguments growth)

-- a relation to a token that gets a label
abbrev pub with_ask : Readings → List Made → Ask → Growth → Growth
with_ask reading turns ask growth =
    option_map_or
    (λ relation. with_asked reading.lexicon ask.label.at relation (asked_labelled reading turns ask.path ask.path.rest growth))
    (relation_named ask.word.text) growth
