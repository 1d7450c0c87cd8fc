-- The names that are read in the statements of a rule are at nodes of these, in their order.
use Rattle.std.proofs.Common.{◌≡◌, ℕ, List, [], ◌∷◌, ◌++◌, refl, ◌∙◌, ap, subst, inl, inr, append_assoc, map}
use Rattle.std.specs.Prelude.{◌⊎◌, Option, Some, None, ⊤}
use Rattle.std.specs.List.{flat_map}
use Rattle.nddl_ast.specs.declared.declaration.PredicatePart.{PredicatePart}
use Rattle.nddl_ast.specs.declared.declaration.PredicatePart.TheVariants as parts
use Rattle.nddl_ast.specs.declared.expression.BaseType.{BaseType}
use Rattle.nddl_ast.specs.declared.expression.BaseType.TheVariants as bases
use Rattle.nddl_ast.specs.declared.expression.Bounds.{Bounds}
use Rattle.nddl_ast.specs.declared.expression.Bounds.TheVariants as bounds
use Rattle.nddl_ast.specs.declared.expression.Expr.{Expr}
use Rattle.nddl_ast.specs.declared.expression.Expr.TheVariants as exprs
use Rattle.nddl_ast.specs.declared.expression.Init.{Init}
use Rattle.nddl_ast.specs.declared.expression.Init.TheVariants as inits
use Rattle.nddl_ast.specs.declared.expression.Type as types
use Rattle.nddl_ast.specs.declared.expression.Value.{Value}
use Rattle.nddl_ast.specs.declared.expression.Value.TheVariants as values
use Rattle.nddl_ast.specs.declared.name.Name.{Name}
use Rattle.nddl_ast.specs.declared.statement.Condition.{Condition}
use Rattle.nddl_ast.specs.declared.statement.Condition.TheVariants as conditions
use Rattle.nddl_ast.specs.declared.statement.Variable.{Variable}
use Rattle.nddl_ast.specs.Block.{statements_of}
use Rattle.nddl_ast.specs.Places.{value_place}
use Rattle.nddl_ast.specs.Tree.{Statements, Nothing, Declares, Calls, Asks, Tests, Chooses, Repeats}
use Rattle.nddl_laws.specs.Nodes.{base_node, bounds_nodes, call_nodes, condition_nodes, expr_nodes, names_nodes, part_nodes, start_nodes, statements_nodes, type_nodes, variable_nodes}
use Rattle.eu_index.specs.Index.{Noted}
use Rattle.nddl_terms.specs.declared.tree.Meaning.{Meaning}
use Rattle.nddl_terms.specs.declared.tree.ReadName.{ReadName}
use Rattle.nddl_rules.specs.Reads.{NameSources, asked_read, base_read, bounds_read, condition_read, expr_read, exprs_read, front_meaning, init_read, local_read, read_at, scope_meaning, scope_read, type_read, value_read}
use Rattle.nddl_rules.specs.Sight.{Sight, with_label, with_rule_local, with_turn}
use Rattle.nddl_rules.specs.declared.sight.Tally.{Tally}
use Rattle.nddl_rules.specs.Tally.{local_more, slot_more, turn_more}
use Rattle.nddl_rules.specs.Blocks.{block_names, call_tally, tallied}
use Rattle.nddl_rules.specs.Collected.{part_statements}

-- ---- names at nodes

-- the names are read at some of these places, in their order
abbrev pub AreReadAt : List ReadName → List ℕ → Type 0
AreReadAt [] nodes = ⊤
AreReadAt (read ∷ names) [] = ⊥
AreReadAt (read ∷ names) (node ∷ nodes) = ((read.at ≡ node) × AreReadAt names nodes) ⊎ AreReadAt (read ∷ names) nodes

-- a place more in front
pub read_later : (names : List ReadName) (node : ℕ) (nodes : List ℕ) → AreReadAt names nodes → AreReadAt names (node ∷ nodes)
read_later [] node nodes are = tt
read_later (read ∷ names) node nodes are = inr are

-- more places in front
pub read_behind : (names : List ReadName) (front nodes : List ℕ) → AreReadAt names nodes → AreReadAt names (front ++ nodes)
read_behind names [] nodes are = are
read_behind names (node ∷ front) nodes are = read_later names node (front ++ nodes) (read_behind names front nodes are)

-- these at the first places, and others at those behind
pub read_both : (one other : List ReadName) (front back : List ℕ) → AreReadAt one front → AreReadAt other back → AreReadAt (one ++ other) (front ++ back)
read_both [] other front back first second = read_behind other front back second
read_both (read ∷ one) other [] back first second = absurd first
read_both (read ∷ one) other (node ∷ front) back (inl here) second = inl (here.0, read_both one other front back here.1 second)
read_both (read ∷ one) other (node ∷ front) back (inr later) second = inr (read_both (read ∷ one) other front back later second)

-- more places behind
pub read_before : (names : List ReadName) (front back : List ℕ) → AreReadAt names front → AreReadAt names (front ++ back)
read_before [] front back are = tt
read_before (read ∷ names) [] back are = absurd are
read_before (read ∷ names) (node ∷ front) back (inl here) = inl (here.0, read_before names front back here.1)
read_before (read ∷ names) (node ∷ front) back (inr later) = inr (read_before (read ∷ names) front back later)

-- ---- parts of statements

one_read : (at : ℕ) (meaning : Option Meaning) (more : List ℕ) → AreReadAt (read_at at meaning) (at ∷ more)
one_read at None more = tt
one_read at (Some meaning) more = inl (refl, tt)

expr_part : (sources : NameSources) (sight : Sight) (expr : Expr) → AreReadAt (expr_read sources sight expr) (expr_nodes expr)
expr_part sources sight (exprs.Path path) =
    one_read path.first.at (front_meaning sources sight path.first.text) (names_nodes path.rest)
expr_part sources sight (exprs.Literal literal) = tt

exprs_part : (sources : NameSources) (sight : Sight) (some : List Expr) → AreReadAt (exprs_read sources sight some) (flat_map expr_nodes some)
exprs_part sources sight [] = tt
exprs_part sources sight (expr ∷ more) =
    read_both (expr_read sources sight expr) (exprs_read sources sight more) (expr_nodes expr) (flat_map expr_nodes more)
    (expr_part sources sight expr) (exprs_part sources sight more)

base_part : (scope : Noted) (at : ℕ) (base : BaseType) → AreReadAt (base_read scope base) (base_node at base ∷ [])
base_part scope at (bases.Named name) = one_read name.at (scope_meaning scope name.text) []
base_part scope at bases.Int = tt
base_part scope at bases.Float = tt
base_part scope at bases.Bool = tt
base_part scope at bases.Str = tt

value_part : (sources : NameSources) (sight : Sight) (value : Value) → AreReadAt (value_read sources sight value) (value_place value ∷ [])
value_part sources sight (values.Name name) = one_read name.at (front_meaning sources sight name.text) []
value_part sources sight (values.Literal literal) = tt

values_part : (sources : NameSources) (sight : Sight) (some : List Value)
    → AreReadAt (flat_map (value_read sources sight) some) (map value_place some)
values_part sources sight [] = tt
values_part sources sight (value ∷ more) =
    read_both (value_read sources sight value) (flat_map (value_read sources sight) more) (value_place value ∷ []) (map value_place more)
    (value_part sources sight value) (values_part sources sight more)

bounds_part : (sources : NameSources) (sight : Sight) (bounds : Bounds) → AreReadAt (bounds_read sources sight bounds) (bounds_nodes bounds)
bounds_part sources sight bounds.All = tt
bounds_part sources sight (bounds.Range at least greatest) =
    let one = value_read sources sight least in
    let other = value_read sources sight greatest in
    read_later (one ++ other) at (value_place least ∷ value_place greatest ∷ [])
    (read_both one other (value_place least ∷ []) (value_place greatest ∷ [])
    (value_part sources sight least) (value_part sources sight greatest))
bounds_part sources sight (bounds.Set at some) =
    read_later (flat_map (value_read sources sight) some) at (map value_place some) (values_part sources sight some)

type_part : (sources : NameSources) (sight : Sight) (of : types.Type) → AreReadAt (type_read sources sight of) (type_nodes of)
type_part sources sight of =
    read_both (base_read sources.scope of.base) (bounds_read sources sight of.bounds) (base_node of.at of.base ∷ []) (bounds_nodes of.bounds)
    (base_part sources.scope of.at of.base) (bounds_part sources sight of.bounds)

init_part : (sources : NameSources) (sight : Sight) (init : Option Init) → AreReadAt (init_read sources sight init) (start_nodes init)
init_part sources sight None = tt
init_part sources sight (Some (inits.Expr expr)) = expr_part sources sight expr
init_part sources sight (Some (inits.New creation)) = tt

local_part : (sources : NameSources) (sight : Sight) (variable : Variable) → AreReadAt (local_read sources sight variable) (variable_nodes variable)
local_part sources sight variable =
    read_both (type_read sources sight variable.declared) (init_read sources sight variable.init) (type_nodes variable.declared)
    (variable.name.at ∷ start_nodes variable.init) (type_part sources sight variable.declared)
    (read_later (init_read sources sight variable.init) variable.name.at (start_nodes variable.init) (init_part sources sight variable.init))

asked_part : (sources : NameSources) (sight : Sight) (first : Name) (rest : List Name)
    → AreReadAt (asked_read sources sight first rest) (first.at ∷ names_nodes rest)
asked_part sources sight first [] = tt
asked_part sources sight first (name ∷ more) =
    one_read first.at (front_meaning sources sight first.text) (names_nodes (name ∷ more))

condition_part : (sources : NameSources) (sight : Sight) (condition : Condition)
    → AreReadAt (condition_read sources sight condition) (condition_nodes condition)
condition_part sources sight (conditions.Truth expr) = expr_part sources sight expr
condition_part sources sight (conditions.Equal one other) =
    read_both (expr_read sources sight one) (expr_read sources sight other) (expr_nodes one) (expr_nodes other)
    (expr_part sources sight one) (expr_part sources sight other)
condition_part sources sight (conditions.NotEqual one other) =
    read_both (expr_read sources sight one) (expr_read sources sight other) (expr_nodes one) (expr_nodes other)
    (expr_part sources sight one) (expr_part sources sight other)

-- ---- statements

-- those of an `if`, whose names are put together in another way than its nodes
joined_if : (condition then more : List ReadName) (at then_at : ℕ) (tested inside behind : List ℕ) → AreReadAt condition tested
    → AreReadAt then inside → AreReadAt more behind
    → AreReadAt (condition ++ (then ++ more)) ((at ∷ (tested ++ then_at ∷ inside)) ++ behind)
joined_if condition then more at then_at tested inside behind first second third =
    let front = read_later (condition ++ then) at (tested ++ then_at ∷ inside)
    (read_both condition then tested (then_at ∷ inside) first (read_later then then_at inside second)) in
    subst (λ names. AreReadAt names ((at ∷ (tested ++ then_at ∷ inside)) ++ behind)) (append_assoc condition then more)
    (read_both (condition ++ then) more (at ∷ (tested ++ then_at ∷ inside)) behind front third)

-- and those of one with an `else`
joined_else : (condition then else more : List ReadName) (at then_at : ℕ) (tested inside other behind : List ℕ) → AreReadAt condition tested
    → AreReadAt then inside → AreReadAt else other → AreReadAt more behind
    → AreReadAt (condition ++ (then ++ (else ++ more))) ((at ∷ (tested ++ ((then_at ∷ inside) ++ other))) ++ behind)
joined_else condition then else more at then_at tested inside other behind first second third fourth =
    let blocks = read_both then else (then_at ∷ inside) other (read_later then then_at inside second) third in
    let front = read_later (condition ++ (then ++ else)) at (tested ++ ((then_at ∷ inside) ++ other))
    (read_both condition (then ++ else) tested ((then_at ∷ inside) ++ other) first blocks) in
    subst (λ names. AreReadAt names ((at ∷ (tested ++ ((then_at ∷ inside) ++ other))) ++ behind))
    (append_assoc condition (then ++ else) more ∙ ap (λ rest. condition ++ rest) (append_assoc then else more))
    (read_both (condition ++ (then ++ else)) more (at ∷ (tested ++ ((then_at ∷ inside) ++ other))) behind front fourth)

-- the names that are read in statements are at their nodes
pub names_part : (sources : NameSources) (sight : Sight) (tally : Tally) (statements : Statements)
    → AreReadAt (block_names sources sight tally statements) (statements_nodes statements)
names_part sources sight tally Nothing = tt
names_part sources sight tally (Declares variable more) =
    read_both (local_read sources sight variable)
    (block_names sources (with_rule_local sight variable.name.text tally.locals) (local_more tally) more) (variable_nodes variable)
    (statements_nodes more) (local_part sources sight variable)
    (names_part sources (with_rule_local sight variable.name.text tally.locals) (local_more tally) more)
names_part sources sight tally (Calls call more) =
    read_both (exprs_read sources sight call.arguments) (block_names sources sight (call_tally tally call) more) (call_nodes call)
    (statements_nodes more)
    (read_behind (exprs_read sources sight call.arguments) (call.path.first.at ∷ names_nodes call.path.rest)
    (flat_map expr_nodes call.arguments) (exprs_part sources sight call.arguments))
    (names_part sources sight (call_tally tally call) more)
names_part sources sight tally (Asks ask more) =
    let named = asked_read sources sight ask.path.first ask.path.rest in
    let nodes = ask.path.first.at ∷ names_nodes ask.path.rest in
    read_both named (block_names sources (with_label sight ask.label.text tally.slots) (slot_more tally) more)
    (ask.word.at ∷ (nodes ++ ask.label.at ∷ [])) (statements_nodes more)
    (read_later named ask.word.at (nodes ++ ask.label.at ∷ [])
    (read_before named nodes (ask.label.at ∷ []) (asked_part sources sight ask.path.first ask.path.rest)))
    (names_part sources (with_label sight ask.label.text tally.slots) (slot_more tally) more)
names_part sources sight tally (Tests at condition then_at then more) =
    joined_if (condition_read sources sight condition) (block_names sources sight tally then)
    (block_names sources sight (tallied tally then) more) at then_at (condition_nodes condition) (statements_nodes then)
    (statements_nodes more) (condition_part sources sight condition) (names_part sources sight tally then)
    (names_part sources sight (tallied tally then) more)
names_part sources sight tally (Chooses at condition then_at then else_at else more) =
    let behind = tallied tally then in
    joined_else (condition_read sources sight condition) (block_names sources sight tally then) (block_names sources sight behind else)
    (block_names sources sight (tallied behind else) more) at then_at (condition_nodes condition) (statements_nodes then)
    (statements_nodes else) (statements_nodes more) (condition_part sources sight condition) (names_part sources sight tally then)
    (names_part sources sight behind else) (names_part sources sight (tallied behind else) more)
names_part sources sight tally (Repeats at name class body_at body more) =
    let over = scope_read sources.scope class in
    let inside = block_names sources (with_turn sight name.text tally.turns) (turn_more tally) body in
    let rest = block_names sources sight (tallied (turn_more tally) body) more in
    let nodes = class.at ∷ (body_at ∷ statements_nodes body) in
    let first : AreReadAt (over ++ inside) nodes =
    read_both over inside (class.at ∷ []) (body_at ∷ statements_nodes body) (one_read class.at (scope_meaning sources.scope class.text) [])
    (read_later inside body_at (statements_nodes body)
    (names_part sources (with_turn sight name.text tally.turns) (turn_more tally) body)) in
    let front = read_later (over ++ inside) at (name.at ∷ nodes) (read_later (over ++ inside) name.at nodes first) in
    subst (λ names. AreReadAt names ((at ∷ name.at ∷ nodes) ++ statements_nodes more)) (append_assoc over inside rest)
    (read_both (over ++ inside) rest (at ∷ name.at ∷ nodes) (statements_nodes more) front
    (names_part sources sight (tallied (turn_more tally) body) more))

-- those that are read in the constraints of a predicate's body are at the nodes of its parts
pub parts_part : (sources : NameSources) (sight : Sight) (tally : Tally) (some : List PredicatePart)
    → AreReadAt (block_names sources sight tally (statements_of (part_statements some))) (flat_map part_nodes some)
parts_part sources sight tally [] = tt
parts_part sources sight tally (parts.Parameter typed ∷ more) =
    read_behind (block_names sources sight tally (statements_of (part_statements more))) (part_nodes (parts.Parameter typed))
    (flat_map part_nodes more) (parts_part sources sight tally more)
parts_part sources sight tally (parts.Constraint call ∷ more) =
    read_both (exprs_read sources sight call.arguments)
    (block_names sources sight (call_tally tally call) (statements_of (part_statements more))) (call_nodes call)
    (flat_map part_nodes more)
    (read_behind (exprs_read sources sight call.arguments) (call.path.first.at ∷ names_nodes call.path.rest)
    (flat_map expr_nodes call.arguments) (exprs_part sources sight call.arguments))
    (parts_part sources sight (call_tally tally call) more)
