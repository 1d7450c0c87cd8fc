-- What is counted of single statements is enough.
use Rattle.std.proofs.Common.{◌≡◌, ℕ, ◌+◌, ◌-◌, ◌^◌, ◌≤◌, min, List, [], ◌∷◌, length, map, refl, ◌∙◌, subst, arith}
use Rattle.std.proofs.lemmas.List.{length-append, length-map}
use Rattle.domain_core.specs.declared.kind.Kind.{Kind}
use Rattle.domain_core.specs.declared.kind.Kind.TheVariants as kinds
use Rattle.model_core.specs.declared.item.Term.{Term}
use Rattle.nddl_ast.specs.declared.expression.Expr.{Expr}
use Rattle.nddl_ast.specs.declared.expression.Expr.TheVariants as exprs
use Rattle.nddl_ast.specs.declared.statement.Condition.{Condition}
use Rattle.nddl_ast.specs.declared.statement.Condition.TheVariants as conditions
use Rattle.nddl_terms.specs.declared.tree.ReadName.{ReadName}
use Rattle.nddl_terms.specs.declared.growth.Growth.{Growth}
use Rattle.nddl_terms.specs.declared.lexicon.Lexicon.{Lexicon}
use Rattle.nddl_terms.specs.declared.stands.Made.{Made}
use Rattle.nddl_terms.specs.declared.stands.Stand.{Stand}
use Rattle.nddl_terms.specs.Readings.{Readings}
use Rattle.nddl_unroll.specs.declared.amounts.Amounts.{Amounts}
use Rattle.nddl_unroll.specs.Amounts.{amounts_and}
use Rattle.nddl_unroll.specs.Counting.{condition_reads, constraint_amounts, constraint_count, pairs_of}
use Rattle.nddl_unroll.specs.Reads.{all_reads, expr_reads}
use Rattle.nddl_lower.specs.Arguments.{all_differ, argument, condition_guard, constraint_items, differ, given_arguments, with_constraint}
use Rattle.nddl_lower.specs.Compared.{compared_term, compared_terms, constraint_terms, has_decimal}
use Rattle.nddl_unroll.proofs.Extras.{Adds, EachMade, Extra, IsKnownStand, Sound, adds_any, adds_items, adds_then, extra_and, extra_items, extra_reads}
use Rattle.nddl_unroll.proofs.Paths.{path_adds}

-- so much is no more than these amounts, which stay at the greatest number
pub record Counts (extra : Extra) (amounts : Amounts) : Type 0 where
  pub slots : min extra.slots (2 ^ 64 - 1) ≤ amounts.slots
  pub locals : min extra.locals (2 ^ 64 - 1) ≤ amounts.locals
  pub items : min extra.items (2 ^ 64 - 1) ≤ amounts.items
  pub guards : min extra.guards (2 ^ 64 - 1) ≤ amounts.guards

pub counts_and : (one other : Extra) (some more : Amounts) → Counts one some → Counts other more → Counts (extra_and one other) (amounts_and some more)
counts_and one other some more first second = record {
  slots = omega (arith, first.slots, second.slots);
  locals = omega (arith, first.locals, second.locals);
  items = omega (arith, first.items, second.items);
  guards = omega (arith, first.guards, second.guards);
}

-- what a statement adds is no more than is counted of it, in whatever turns
pub record Enough (Step : List Made → Growth → Growth) (amounts : Amounts) : Type 0 where
  pub extra : Extra
  pub adds : (turns : List Made) → EachMade IsKnownStand turns → (growth : Growth) → Sound growth → Adds extra growth (Step turns growth)
  pub counts : Counts extra amounts

-- ---- arguments

pub expr_adds : (reading : Readings) (turns : List Made) (expr : Expr) (growth : Growth) → Sound growth → EachMade IsKnownStand turns
    → Adds (extra_reads (expr_reads reading.lexicon reading.names expr)) growth (argument reading turns expr growth).growth
expr_adds reading turns (exprs.Path path) growth sound known =
    path_adds reading turns path path.rest (length path.rest) growth (omega arith) sound known
expr_adds reading turns (exprs.Literal literal) growth sound known = adds_any (extra_reads 0) growth

-- how many fields arguments read
abbrev pub sum_reads : Lexicon → List ReadName → List Expr → ℕ
sum_reads lexicon names [] = 0
sum_reads lexicon names (expr ∷ more) = expr_reads lexicon names expr + sum_reads lexicon names more

reads_counted : (lexicon : Lexicon) (names : List ReadName) (some : List Expr) (total : ℕ)
    → min (total + sum_reads lexicon names some) (2 ^ 64 - 1) ≤ all_reads lexicon names some total
reads_counted lexicon names [] total = omega arith
reads_counted lexicon names (expr ∷ more) total =
    let rest = reads_counted lexicon names more (min (total + expr_reads lexicon names expr) (2 ^ 64 - 1)) in omega (arith, rest)

arguments_add : (reading : Readings) (turns : List Made) (some : List Expr) (growth : Growth) → Sound growth → EachMade IsKnownStand turns
    → Adds (extra_reads (sum_reads reading.lexicon reading.names some)) growth (given_arguments reading turns some growth).growth
arguments_add reading turns [] growth sound known = adds_any (extra_reads 0) growth
arguments_add reading turns (expr ∷ more) growth sound known =
    let first = expr_adds reading turns expr growth sound known in
    let next = (argument reading turns expr growth).growth in
    adds_then (extra_reads (expr_reads reading.lexicon reading.names expr)) (extra_reads (sum_reads reading.lexicon reading.names more))
    growth next (given_arguments reading turns more next).growth first
    (arguments_add reading turns more next (first.sound sound) known)

pub as_many : (reading : Readings) (turns : List Made) (some : List Expr) (growth : Growth)
    → length (given_arguments reading turns some growth).stands ≡ length some
as_many reading turns [] growth = refl
as_many reading turns (expr ∷ more) growth =
    let rest = as_many reading turns more (argument reading turns expr growth).growth in omega (arith, rest)

-- ---- constraints

-- how many two there are among these
abbrev pub sum_pairs : List Expr → ℕ
sum_pairs [] = 0
sum_pairs (expr ∷ more) = length more + sum_pairs more

pairs_counted : (some : List Expr) (total : ℕ) → min (total + sum_pairs some) (2 ^ 64 - 1) ≤ pairs_of some total
pairs_counted [] total = omega arith
pairs_counted (expr ∷ more) total =
    let rest = pairs_counted more (min (total + length more) (2 ^ 64 - 1)) in omega (arith, rest)

all_pairs : (given : List Term) (some : List Expr) → length given ≡ length some → length (all_differ given) ≡ sum_pairs some
all_pairs [] [] same = refl
all_pairs [] (expr ∷ more) same = absurd (omega (arith, same))
all_pairs (term ∷ given) [] same = absurd (omega (arith, same))
all_pairs (term ∷ given) (expr ∷ more) same =
    let fewer : length given ≡ length more = omega (arith, same) in
    let rest = all_pairs given more fewer in
    omega (arith, length-append (map (differ term) given) (all_differ given), length-map given (differ term), rest, fewer)

-- how many items the constraint is
abbrev pub sum_items : Kind → List Expr → ℕ
sum_items kinds.AllDiff some = sum_pairs some
sum_items kind some = 1

as_many_compared : (stands : List Stand) → length (compared_terms stands) ≡ length stands
as_many_compared stands = length-map stands (compared_term (has_decimal stands))

pub items_are : (kind : Kind) (stands : List Stand) (some : List Expr) → length stands ≡ length some
    → length (constraint_items kind (constraint_terms kind stands)) ≡ sum_items kind some
items_are kinds.AllDiff stands some same = all_pairs (compared_terms stands) some (as_many_compared stands ∙ same)
items_are kind stands some same = refl

sum_counted : (kind : Kind) (some : List Expr) → min (sum_items kind some) (2 ^ 64 - 1) ≤ constraint_count kind some
sum_counted kinds.AllDiff some = let counted = pairs_counted some 0 in omega (arith, counted)
sum_counted kind some = omega arith

pub constraint_enough : (reading : Readings) (kind : Kind) (some : List Expr)
    → Enough (λ turns growth. with_constraint reading turns kind some growth) (constraint_amounts reading.lexicon reading.names kind some)
constraint_enough reading kind some = record {
  extra = extra_and (extra_reads (sum_reads reading.lexicon reading.names some)) (extra_items (sum_items kind some));
  adds = λ turns known growth sound.
      let given = given_arguments reading turns some growth in
      adds_then (extra_reads (sum_reads reading.lexicon reading.names some)) (extra_items (sum_items kind some)) growth given.growth
      (with_constraint reading turns kind some growth) (arguments_add reading turns some growth sound known)
      (subst (λ (count : ℕ). Adds (extra_items count) given.growth (with_constraint reading turns kind some growth))
      (items_are kind given.stands some (as_many reading turns some growth))
      (adds_items (constraint_items kind (constraint_terms kind given.stands)) given.growth));
  counts =
      let reads = reads_counted reading.lexicon reading.names some 0 in
      let items = sum_counted kind some in
      record {
        slots = omega arith;
        locals = omega (arith, reads);
        items = omega (arith, reads, items);
        guards = omega arith;
      };
}

-- ---- guards

-- how many fields an `if` reads
abbrev pub sum_condition : Lexicon → List ReadName → Condition → ℕ
sum_condition lexicon names (conditions.Truth expr) = expr_reads lexicon names expr
sum_condition lexicon names (conditions.Equal one other) = expr_reads lexicon names one + expr_reads lexicon names other
sum_condition lexicon names (conditions.NotEqual one other) = expr_reads lexicon names one + expr_reads lexicon names other

pub condition_counted : (lexicon : Lexicon) (names : List ReadName) (condition : Condition)
    → min (sum_condition lexicon names condition) (2 ^ 64 - 1) ≤ condition_reads lexicon names condition
condition_counted lexicon names (conditions.Truth expr) = omega arith
condition_counted lexicon names (conditions.Equal one other) = omega arith
condition_counted lexicon names (conditions.NotEqual one other) = omega arith

two_add : (reading : Readings) (turns : List Made) (one other : Expr) (growth : Growth) → Sound growth → EachMade IsKnownStand turns
    → Adds (extra_reads (expr_reads reading.lexicon reading.names one + expr_reads reading.lexicon reading.names other)) growth
    (argument reading turns other (argument reading turns one growth).growth).growth
two_add reading turns one other growth sound known =
    let first = expr_adds reading turns one growth sound known in
    let next = (argument reading turns one growth).growth in
    adds_then (extra_reads (expr_reads reading.lexicon reading.names one)) (extra_reads (expr_reads reading.lexicon reading.names other))
    growth next (argument reading turns other next).growth first (expr_adds reading turns other next (first.sound sound) known)

pub condition_adds : (reading : Readings) (turns : List Made) (condition : Condition) (growth : Growth) → Sound growth → EachMade IsKnownStand turns
    → Adds (extra_reads (sum_condition reading.lexicon reading.names condition)) growth (condition_guard reading turns condition growth).growth
condition_adds reading turns (conditions.Truth expr) growth sound known = expr_adds reading turns expr growth sound known
condition_adds reading turns (conditions.Equal one other) growth sound known = two_add reading turns one other growth sound known
condition_adds reading turns (conditions.NotEqual one other) growth sound known = two_add reading turns one other growth sound known
