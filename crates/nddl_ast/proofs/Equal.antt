-- Trees are the same where they are equal once their places are 0.
use Rattle.std.proofs.Common.{◌≡◌, Option, Some, None, List, [], ◌∷◌, map, refl, sym, ◌∙◌, ap}
use Rattle.std.specs.Option.{option_map}
use Rattle.nddl_ast.specs.declared.name.Name.{Name}
use Rattle.nddl_ast.specs.declared.name.Path.{Path}
use Rattle.nddl_ast.specs.declared.expression.Literal.{Literal}
use Rattle.nddl_ast.specs.declared.expression.Expr.{Expr}
use Rattle.nddl_ast.specs.declared.expression.Expr.TheVariants as exprs
use Rattle.nddl_ast.specs.declared.expression.Value.{Value}
use Rattle.nddl_ast.specs.declared.expression.Value.TheVariants as values
use Rattle.nddl_ast.specs.declared.expression.BaseType.{BaseType}
use Rattle.nddl_ast.specs.declared.expression.BaseType.TheVariants as bases
use Rattle.nddl_ast.specs.declared.expression.Bounds.{Bounds}
use Rattle.nddl_ast.specs.declared.expression.Bounds.TheVariants as bounds
use Rattle.nddl_ast.specs.declared.expression.Type as types
use Rattle.nddl_ast.specs.declared.expression.Creation.{Creation}
use Rattle.nddl_ast.specs.declared.expression.Init.{Init}
use Rattle.nddl_ast.specs.declared.expression.Init.TheVariants as inits
use Rattle.nddl_ast.specs.declared.statement.Variable.{Variable}
use Rattle.nddl_ast.specs.declared.statement.Call.{Call}
use Rattle.nddl_ast.specs.declared.statement.Ask.{Ask}
use Rattle.nddl_ast.specs.declared.statement.Condition.{Condition}
use Rattle.nddl_ast.specs.declared.statement.Condition.TheVariants as conditions
use Rattle.nddl_ast.specs.declared.declaration.Typed.{Typed}
use Rattle.nddl_ast.specs.declared.declaration.PredicatePart.{PredicatePart}
use Rattle.nddl_ast.specs.declared.declaration.PredicatePart.TheVariants as parts
use Rattle.nddl_ast.specs.declared.declaration.Set.{Set}
use Rattle.nddl_ast.specs.declared.declaration.Set.TheVariants as sets
use Rattle.nddl_ast.specs.declared.declaration.Member.{Member}
use Rattle.nddl_ast.specs.declared.declaration.Member.TheVariants as members
use Rattle.nddl_ast.specs.declared.declaration.Decl.{Decl}
use Rattle.nddl_ast.specs.declared.declaration.Decl.TheVariants as decls
use Rattle.nddl_ast.specs.Tree.{Statements, Nothing, Declares, Calls, Asks, Tests, Chooses, Repeats, Braces}
use Rattle.nddl_ast.specs.Same.{AllSame, BothSame, SameName, SamePath, SameLiteral, SameExpr, SameValue, SameBase, SameBounds, SameType, SameCreation, SameInit, SameVariable, SameCall, SameAsk, SameCondition, SameStatements, SameBlock, SameTyped, SamePart, SameSet, SameMember, SameDecl}
use Rattle.nddl_ast.specs.Unplaced.{unplaced_name, unplaced_path, unplaced_literal, unplaced_expr, unplaced_value, unplaced_base, unplaced_bounds, unplaced_type, unplaced_creation, unplaced_init, unplaced_variable, unplaced_call, unplaced_ask, unplaced_condition, unplaced_statements, unplaced_block, unplaced_typed, unplaced_part, unplaced_set, unplaced_member, unplaced, SameIsEqual, SameIsAnEquivalence}

-- to be the same is to be equal after the function
pub record IsEqual {A : Type 0} (Same : A → A → Type 0) (bare : A → A) : Type 0 where
  pub to : (one other : A) → Same one other → bare one ≡ bare other
  pub from : (one other : A) → bare one ≡ bare other → Same one other

all_equal : {A : Type 0} {Same : A → A → Type 0} {bare : A → A} → IsEqual Same bare → (xs ys : List A) → (AllSame Same xs ys → map bare xs ≡ map bare ys) × (map bare xs ≡ map bare ys → AllSame Same xs ys)
all_equal is [] [] = (λ same. refl, λ same. tt)
all_equal is [] (y ∷ ys) = (λ same. absurd same, λ same. absurd (cc))
all_equal is (x ∷ xs) [] = (λ same. absurd same, λ same. absurd (cc))
all_equal {A} {Same} {bare} is (x ∷ xs) (y ∷ ys) =
    let more = all_equal is xs ys in (
      λ same. let first = is.to x y same.0 in let rest = more.0 same.1 in (λ i. first i ∷ rest i),
      λ same. let first : bare x ≡ bare y = cc in let rest : map bare xs ≡ map bare ys = cc in (is.from x y first, more.1 rest),
    )

both_equal : {A : Type 0} {Same : A → A → Type 0} {bare : A → A} → IsEqual Same bare → (one other : Option A) → (BothSame Same one other → option_map bare one ≡ option_map bare other) × (option_map bare one ≡ option_map bare other → BothSame Same one other)
both_equal is None None = (λ same. refl, λ same. tt)
both_equal is None (Some y) = (λ same. absurd same, λ same. absurd (cc))
both_equal is (Some x) None = (λ same. absurd same, λ same. absurd (cc))
both_equal {A} {Same} {bare} is (Some x) (Some y) = (λ same. ap Some (is.to x y same), λ same. let inner : bare x ≡ bare y = cc in is.from x y inner)

name_equal : IsEqual SameName unplaced_name
name_equal = record {
  to = λ one other same i. record { text = (same) i; at = 0 };
  from = λ one other same. (ap (λ (it : Name). it.text) same);
}

path_equal : IsEqual SamePath unplaced_path
path_equal = record {
  to = λ one other same i. record { first = name_equal.to one.first other.first same.0 i; rest = ((all_equal name_equal one.rest other.rest).0 same.1) i };
  from = λ one other same. (
    name_equal.from one.first other.first (ap (λ (it : Path). it.first) same),
    (all_equal name_equal one.rest other.rest).1 (ap (λ (it : Path). it.rest) same),
  );
}

literal_equal : IsEqual SameLiteral unplaced_literal
literal_equal = record {
  to = λ one other same i. record { constant = (same) i; at = 0 };
  from = λ one other same. (ap (λ (it : Literal). it.constant) same);
}

expr_to : (one other : Expr) → SameExpr one other → unplaced_expr one ≡ unplaced_expr other
expr_to (exprs.Path p) (exprs.Path p') same = λ i. exprs.Path (path_equal.to p p' same i)
expr_to (exprs.Literal l) (exprs.Literal l') same = λ i. exprs.Literal (literal_equal.to l l' same i)
expr_to one other same = absurd same

expr_from : (one other : Expr) → unplaced_expr one ≡ unplaced_expr other → SameExpr one other
expr_from (exprs.Path p) (exprs.Path p') same =
    let p_same : unplaced_path p ≡ unplaced_path p' = cc in
    path_equal.from p p' p_same
expr_from (exprs.Literal l) (exprs.Literal l') same =
    let l_same : unplaced_literal l ≡ unplaced_literal l' = cc in
    literal_equal.from l l' l_same
expr_from one other same = absurd (cc)

expr_equal : IsEqual SameExpr unplaced_expr
expr_equal = record { to = expr_to; from = expr_from }

value_to : (one other : Value) → SameValue one other → unplaced_value one ≡ unplaced_value other
value_to (values.Name n) (values.Name n') same = λ i. values.Name (name_equal.to n n' same i)
value_to (values.Literal l) (values.Literal l') same = λ i. values.Literal (literal_equal.to l l' same i)
value_to one other same = absurd same

value_from : (one other : Value) → unplaced_value one ≡ unplaced_value other → SameValue one other
value_from (values.Name n) (values.Name n') same =
    let n_same : unplaced_name n ≡ unplaced_name n' = cc in
    name_equal.from n n' n_same
value_from (values.Literal l) (values.Literal l') same =
    let l_same : unplaced_literal l ≡ unplaced_literal l' = cc in
    literal_equal.from l l' l_same
value_from one other same = absurd (cc)

value_equal : IsEqual SameValue unplaced_value
value_equal = record { to = value_to; from = value_from }

base_to : (one other : BaseType) → SameBase one other → unplaced_base one ≡ unplaced_base other
base_to bases.Int bases.Int same = refl
base_to bases.Float bases.Float same = refl
base_to bases.Bool bases.Bool same = refl
base_to bases.Str bases.Str same = refl
base_to (bases.Named n) (bases.Named n') same = λ i. bases.Named (name_equal.to n n' same i)
base_to one other same = absurd same

base_from : (one other : BaseType) → unplaced_base one ≡ unplaced_base other → SameBase one other
base_from bases.Int bases.Int same = tt
base_from bases.Float bases.Float same = tt
base_from bases.Bool bases.Bool same = tt
base_from bases.Str bases.Str same = tt
base_from (bases.Named n) (bases.Named n') same =
    let n_same : unplaced_name n ≡ unplaced_name n' = cc in
    name_equal.from n n' n_same
base_from one other same = absurd (cc)

base_equal : IsEqual SameBase unplaced_base
base_equal = record { to = base_to; from = base_from }

bounds_to : (one other : Bounds) → SameBounds one other → unplaced_bounds one ≡ unplaced_bounds other
bounds_to bounds.All bounds.All same = refl
bounds_to (bounds.Range at least greatest) (bounds.Range at' least' greatest') same = λ i. bounds.Range 0 (value_equal.to least least' same.0 i) (value_equal.to greatest greatest' same.1 i)
bounds_to (bounds.Set at vs) (bounds.Set at' vs') same = λ i. bounds.Set 0 (((all_equal value_equal vs vs').0 same) i)
bounds_to one other same = absurd same

bounds_from : (one other : Bounds) → unplaced_bounds one ≡ unplaced_bounds other → SameBounds one other
bounds_from bounds.All bounds.All same = tt
bounds_from (bounds.Range at least greatest) (bounds.Range at' least' greatest') same =
    let least_same : unplaced_value least ≡ unplaced_value least' = cc in
    let greatest_same : unplaced_value greatest ≡ unplaced_value greatest' = cc in
    (value_equal.from least least' least_same, value_equal.from greatest greatest' greatest_same)
bounds_from (bounds.Set at vs) (bounds.Set at' vs') same =
    let vs_same : map unplaced_value vs ≡ map unplaced_value vs' = cc in
    (all_equal value_equal vs vs').1 vs_same
bounds_from one other same = absurd (cc)

bounds_equal : IsEqual SameBounds unplaced_bounds
bounds_equal = record { to = bounds_to; from = bounds_from }

type_equal : IsEqual SameType unplaced_type
type_equal = record {
  to = λ one other same i. record { at = 0; base = base_equal.to one.base other.base same.0 i; bounds = bounds_equal.to one.bounds other.bounds same.1 i };
  from = λ one other same. (
    base_equal.from one.base other.base (ap (λ (it : types.Type). it.base) same),
    bounds_equal.from one.bounds other.bounds (ap (λ (it : types.Type). it.bounds) same),
  );
}

creation_equal : IsEqual SameCreation unplaced_creation
creation_equal = record {
  to = λ one other same i. record { at = 0; class = name_equal.to one.class other.class same.0 i; arguments = ((all_equal expr_equal one.arguments other.arguments).0 same.1) i };
  from = λ one other same. (
    name_equal.from one.class other.class (ap (λ (it : Creation). it.class) same),
    (all_equal expr_equal one.arguments other.arguments).1 (ap (λ (it : Creation). it.arguments) same),
  );
}

init_to : (one other : Init) → SameInit one other → unplaced_init one ≡ unplaced_init other
init_to (inits.Expr e) (inits.Expr e') same = λ i. inits.Expr (expr_equal.to e e' same i)
init_to (inits.New n) (inits.New n') same = λ i. inits.New (creation_equal.to n n' same i)
init_to one other same = absurd same

init_from : (one other : Init) → unplaced_init one ≡ unplaced_init other → SameInit one other
init_from (inits.Expr e) (inits.Expr e') same =
    let e_same : unplaced_expr e ≡ unplaced_expr e' = cc in
    expr_equal.from e e' e_same
init_from (inits.New n) (inits.New n') same =
    let n_same : unplaced_creation n ≡ unplaced_creation n' = cc in
    creation_equal.from n n' n_same
init_from one other same = absurd (cc)

init_equal : IsEqual SameInit unplaced_init
init_equal = record { to = init_to; from = init_from }

variable_equal : IsEqual SameVariable unplaced_variable
variable_equal = record {
  to = λ one other same i. record { declared = type_equal.to one.declared other.declared same.0 i; name = name_equal.to one.name other.name same.1 i; init = ((both_equal init_equal one.init other.init).0 same.2) i };
  from = λ one other same. (
    type_equal.from one.declared other.declared (ap (λ (it : Variable). it.declared) same),
    name_equal.from one.name other.name (ap (λ (it : Variable). it.name) same),
    (both_equal init_equal one.init other.init).1 (ap (λ (it : Variable). it.init) same),
  );
}

call_equal : IsEqual SameCall unplaced_call
call_equal = record {
  to = λ one other same i. record { path = path_equal.to one.path other.path same.0 i; arguments = ((all_equal expr_equal one.arguments other.arguments).0 same.1) i };
  from = λ one other same. (
    path_equal.from one.path other.path (ap (λ (it : Call). it.path) same),
    (all_equal expr_equal one.arguments other.arguments).1 (ap (λ (it : Call). it.arguments) same),
  );
}

ask_equal : IsEqual SameAsk unplaced_ask
ask_equal = record {
  to = λ one other same i. record { word = name_equal.to one.word other.word same.0 i; path = path_equal.to one.path other.path same.1 i; label = name_equal.to one.label other.label same.2 i };
  from = λ one other same. (
    name_equal.from one.word other.word (ap (λ (it : Ask). it.word) same),
    path_equal.from one.path other.path (ap (λ (it : Ask). it.path) same),
    name_equal.from one.label other.label (ap (λ (it : Ask). it.label) same),
  );
}

condition_to : (one other : Condition) → SameCondition one other → unplaced_condition one ≡ unplaced_condition other
condition_to (conditions.Truth e) (conditions.Truth e') same = λ i. conditions.Truth (expr_equal.to e e' same i)
condition_to (conditions.Equal e f) (conditions.Equal e' f') same = λ i. conditions.Equal (expr_equal.to e e' same.0 i) (expr_equal.to f f' same.1 i)
condition_to (conditions.NotEqual e f) (conditions.NotEqual e' f') same = λ i. conditions.NotEqual (expr_equal.to e e' same.0 i) (expr_equal.to f f' same.1 i)
condition_to one other same = absurd same

condition_from : (one other : Condition) → unplaced_condition one ≡ unplaced_condition other → SameCondition one other
condition_from (conditions.Truth e) (conditions.Truth e') same =
    let e_same : unplaced_expr e ≡ unplaced_expr e' = cc in
    expr_equal.from e e' e_same
condition_from (conditions.Equal e f) (conditions.Equal e' f') same =
    let e_same : unplaced_expr e ≡ unplaced_expr e' = cc in
    let f_same : unplaced_expr f ≡ unplaced_expr f' = cc in
    (expr_equal.from e e' e_same, expr_equal.from f f' f_same)
condition_from (conditions.NotEqual e f) (conditions.NotEqual e' f') same =
    let e_same : unplaced_expr e ≡ unplaced_expr e' = cc in
    let f_same : unplaced_expr f ≡ unplaced_expr f' = cc in
    (expr_equal.from e e' e_same, expr_equal.from f f' f_same)
condition_from one other same = absurd (cc)

condition_equal : IsEqual SameCondition unplaced_condition
condition_equal = record { to = condition_to; from = condition_from }

statements_to : (one other : Statements) → SameStatements one other → unplaced_statements one ≡ unplaced_statements other
statements_to Nothing Nothing same = refl
statements_to (Declares one more) (Declares other others) same = λ i. Declares (variable_equal.to one other same.0 i) (statements_to more others same.1 i)
statements_to (Calls one more) (Calls other others) same = λ i. Calls (call_equal.to one other same.0 i) (statements_to more others same.1 i)
statements_to (Asks one more) (Asks other others) same = λ i. Asks (ask_equal.to one other same.0 i) (statements_to more others same.1 i)
statements_to (Tests at condition then_at then more) (Tests at' condition' then_at' then' others) same = λ i.
    Tests 0 (condition_equal.to condition condition' same.0.0 i) 0 (statements_to then then' same.0.1 i) (statements_to more others same.1 i)
statements_to (Chooses at condition then_at then else_at else more) (Chooses at' condition' then_at' then' else_at' else' others) same = λ i.
    Chooses 0 (condition_equal.to condition condition' same.0.0 i) 0 (statements_to then then' same.0.1 i) 0 (statements_to else else' same.0.2 i) (statements_to more others same.1 i)
statements_to (Repeats at name class body_at body more) (Repeats at' name' class' body_at' body' others) same = λ i.
    Repeats 0 (name_equal.to name name' same.0.0 i) (name_equal.to class class' same.0.1 i) 0 (statements_to body body' same.0.2 i) (statements_to more others same.1 i)
statements_to one other same = absurd same

statements_from : (one other : Statements) → unplaced_statements one ≡ unplaced_statements other → SameStatements one other
statements_from Nothing Nothing same = tt
statements_from (Declares one more) (Declares other others) same =
    let first : unplaced_variable one ≡ unplaced_variable other = cc in
    let rest : unplaced_statements more ≡ unplaced_statements others = cc in
    (variable_equal.from one other first, statements_from more others rest)
statements_from (Calls one more) (Calls other others) same =
    let first : unplaced_call one ≡ unplaced_call other = cc in
    let rest : unplaced_statements more ≡ unplaced_statements others = cc in
    (call_equal.from one other first, statements_from more others rest)
statements_from (Asks one more) (Asks other others) same =
    let first : unplaced_ask one ≡ unplaced_ask other = cc in
    let rest : unplaced_statements more ≡ unplaced_statements others = cc in
    (ask_equal.from one other first, statements_from more others rest)
statements_from (Tests at condition then_at then more) (Tests at' condition' then_at' then' others) same =
    let conditions : unplaced_condition condition ≡ unplaced_condition condition' = cc in
    let thens : unplaced_statements then ≡ unplaced_statements then' = cc in
    let rest : unplaced_statements more ≡ unplaced_statements others = cc in
    ((condition_equal.from condition condition' conditions, statements_from then then' thens), statements_from more others rest)
statements_from (Chooses at condition then_at then else_at else more) (Chooses at' condition' then_at' then' else_at' else' others) same =
    let conditions : unplaced_condition condition ≡ unplaced_condition condition' = cc in
    let thens : unplaced_statements then ≡ unplaced_statements then' = cc in
    let elses : unplaced_statements else ≡ unplaced_statements else' = cc in
    let rest : unplaced_statements more ≡ unplaced_statements others = cc in
    ((condition_equal.from condition condition' conditions, statements_from then then' thens, statements_from else else' elses), statements_from more others rest)
statements_from (Repeats at name class body_at body more) (Repeats at' name' class' body_at' body' others) same =
    let names : unplaced_name name ≡ unplaced_name name' = cc in
    let classes : unplaced_name class ≡ unplaced_name class' = cc in
    let bodies : unplaced_statements body ≡ unplaced_statements body' = cc in
    let rest : unplaced_statements more ≡ unplaced_statements others = cc in
    ((name_equal.from name name' names, name_equal.from class class' classes, statements_from body body' bodies), statements_from more others rest)
statements_from one other same = absurd (cc)

block_equal : IsEqual SameBlock unplaced_block
block_equal = record {
  to = λ one other same i. record { at = 0; statements = statements_to one.statements other.statements same i };
  from = λ one other same. statements_from one.statements other.statements (ap (λ (it : Braces). it.statements) same);
}

typed_equal : IsEqual SameTyped unplaced_typed
typed_equal = record {
  to = λ one other same i. record { declared = type_equal.to one.declared other.declared same.0 i; name = name_equal.to one.name other.name same.1 i };
  from = λ one other same. (
    type_equal.from one.declared other.declared (ap (λ (it : Typed). it.declared) same),
    name_equal.from one.name other.name (ap (λ (it : Typed). it.name) same),
  );
}

part_to : (one other : PredicatePart) → SamePart one other → unplaced_part one ≡ unplaced_part other
part_to (parts.Parameter t) (parts.Parameter t') same = λ i. parts.Parameter (typed_equal.to t t' same i)
part_to (parts.Constraint c) (parts.Constraint c') same = λ i. parts.Constraint (call_equal.to c c' same i)
part_to one other same = absurd same

part_from : (one other : PredicatePart) → unplaced_part one ≡ unplaced_part other → SamePart one other
part_from (parts.Parameter t) (parts.Parameter t') same =
    let t_same : unplaced_typed t ≡ unplaced_typed t' = cc in
    typed_equal.from t t' t_same
part_from (parts.Constraint c) (parts.Constraint c') same =
    let c_same : unplaced_call c ≡ unplaced_call c' = cc in
    call_equal.from c c' c_same
part_from one other same = absurd (cc)

part_equal : IsEqual SamePart unplaced_part
part_equal = record { to = part_to; from = part_from }

set_to : (one other : Set) → SameSet one other → unplaced_set one ≡ unplaced_set other
set_to (sets.Field n v) (sets.Field n' v') same = λ i. sets.Field (name_equal.to n n' same.0 i) (init_equal.to v v' same.1 i)
set_to (sets.Super at es) (sets.Super at' es') same = λ i. sets.Super 0 (((all_equal expr_equal es es').0 same) i)
set_to one other same = absurd same

set_from : (one other : Set) → unplaced_set one ≡ unplaced_set other → SameSet one other
set_from (sets.Field n v) (sets.Field n' v') same =
    let n_same : unplaced_name n ≡ unplaced_name n' = cc in
    let v_same : unplaced_init v ≡ unplaced_init v' = cc in
    (name_equal.from n n' n_same, init_equal.from v v' v_same)
set_from (sets.Super at es) (sets.Super at' es') same =
    let es_same : map unplaced_expr es ≡ map unplaced_expr es' = cc in
    (all_equal expr_equal es es').1 es_same
set_from one other same = absurd (cc)

set_equal : IsEqual SameSet unplaced_set
set_equal = record { to = set_to; from = set_from }

member_to : (one other : Member) → SameMember one other → unplaced_member one ≡ unplaced_member other
member_to (members.Field t) (members.Field t') same = λ i. members.Field (typed_equal.to t t' same i)
member_to (members.Predicate at n ps) (members.Predicate at' n' ps') same = λ i. members.Predicate 0 (name_equal.to n n' same.0 i) (((all_equal part_equal ps ps').0 same.1) i)
member_to (members.Constructor n ts ss) (members.Constructor n' ts' ss') same = λ i. members.Constructor (name_equal.to n n' same.0 i) (((all_equal typed_equal ts ts').0 same.1) i) (((all_equal set_equal ss ss').0 same.2) i)
member_to one other same = absurd same

member_from : (one other : Member) → unplaced_member one ≡ unplaced_member other → SameMember one other
member_from (members.Field t) (members.Field t') same =
    let t_same : unplaced_typed t ≡ unplaced_typed t' = cc in
    typed_equal.from t t' t_same
member_from (members.Predicate at n ps) (members.Predicate at' n' ps') same =
    let n_same : unplaced_name n ≡ unplaced_name n' = cc in
    let ps_same : map unplaced_part ps ≡ map unplaced_part ps' = cc in
    (name_equal.from n n' n_same, (all_equal part_equal ps ps').1 ps_same)
member_from (members.Constructor n ts ss) (members.Constructor n' ts' ss') same =
    let n_same : unplaced_name n ≡ unplaced_name n' = cc in
    let ts_same : map unplaced_typed ts ≡ map unplaced_typed ts' = cc in
    let ss_same : map unplaced_set ss ≡ map unplaced_set ss' = cc in
    (name_equal.from n n' n_same, (all_equal typed_equal ts ts').1 ts_same, (all_equal set_equal ss ss').1 ss_same)
member_from one other same = absurd (cc)

member_equal : IsEqual SameMember unplaced_member
member_equal = record { to = member_to; from = member_from }

decl_to : (one other : Decl) → SameDecl one other → unplaced one ≡ unplaced other
decl_to (decls.Include at file file_at) (decls.Include at' file' file_at') same = λ i. decls.Include 0 ((same) i) 0
decl_to (decls.Enum at n members_at ns) (decls.Enum at' n' members_at' ns') same = λ i. decls.Enum 0 (name_equal.to n n' same.0 i) 0 (((all_equal name_equal ns ns').0 same.1) i)
decl_to (decls.Typedef at t n) (decls.Typedef at' t' n') same = λ i. decls.Typedef 0 (type_equal.to t t' same.0 i) (name_equal.to n n' same.1 i)
decl_to (decls.Forward at n) (decls.Forward at' n') same = λ i. decls.Forward 0 (name_equal.to n n' same i)
decl_to (decls.Class at n parent ms) (decls.Class at' n' parent' ms') same = λ i. decls.Class 0 (name_equal.to n n' same.0 i) (((both_equal name_equal parent parent').0 same.1) i) (((all_equal member_equal ms ms').0 same.2) i)
decl_to (decls.Rule c p b) (decls.Rule c' p' b') same = λ i. decls.Rule (name_equal.to c c' same.0 i) (name_equal.to p p' same.1 i) (block_equal.to b b' same.2 i)
decl_to (decls.Variable v) (decls.Variable v') same = λ i. decls.Variable (variable_equal.to v v' same i)
decl_to (decls.Call c) (decls.Call c') same = λ i. decls.Call (call_equal.to c c' same i)
decl_to (decls.Ask a) (decls.Ask a') same = λ i. decls.Ask (ask_equal.to a a' same i)
decl_to one other same = absurd same

decl_from : (one other : Decl) → unplaced one ≡ unplaced other → SameDecl one other
decl_from (decls.Include at file file_at) (decls.Include at' file' file_at') same =
    let file_same : file ≡ file' = cc in
    file_same
decl_from (decls.Enum at n members_at ns) (decls.Enum at' n' members_at' ns') same =
    let n_same : unplaced_name n ≡ unplaced_name n' = cc in
    let ns_same : map unplaced_name ns ≡ map unplaced_name ns' = cc in
    (name_equal.from n n' n_same, (all_equal name_equal ns ns').1 ns_same)
decl_from (decls.Typedef at t n) (decls.Typedef at' t' n') same =
    let t_same : unplaced_type t ≡ unplaced_type t' = cc in
    let n_same : unplaced_name n ≡ unplaced_name n' = cc in
    (type_equal.from t t' t_same, name_equal.from n n' n_same)
decl_from (decls.Forward at n) (decls.Forward at' n') same =
    let n_same : unplaced_name n ≡ unplaced_name n' = cc in
    name_equal.from n n' n_same
decl_from (decls.Class at n parent ms) (decls.Class at' n' parent' ms') same =
    let n_same : unplaced_name n ≡ unplaced_name n' = cc in
    let parent_same : option_map unplaced_name parent ≡ option_map unplaced_name parent' = cc in
    let ms_same : map unplaced_member ms ≡ map unplaced_member ms' = cc in
    (name_equal.from n n' n_same, (both_equal name_equal parent parent').1 parent_same, (all_equal member_equal ms ms').1 ms_same)
decl_from (decls.Rule c p b) (decls.Rule c' p' b') same =
    let c_same : unplaced_name c ≡ unplaced_name c' = cc in
    let p_same : unplaced_name p ≡ unplaced_name p' = cc in
    let b_same : unplaced_block b ≡ unplaced_block b' = cc in
    (name_equal.from c c' c_same, name_equal.from p p' p_same, block_equal.from b b' b_same)
decl_from (decls.Variable v) (decls.Variable v') same =
    let v_same : unplaced_variable v ≡ unplaced_variable v' = cc in
    variable_equal.from v v' v_same
decl_from (decls.Call c) (decls.Call c') same =
    let c_same : unplaced_call c ≡ unplaced_call c' = cc in
    call_equal.from c c' c_same
decl_from (decls.Ask a) (decls.Ask a') same =
    let a_same : unplaced_ask a ≡ unplaced_ask a' = cc in
    ask_equal.from a a' a_same
decl_from one other same = absurd (cc)

pub same_is_equal : SameIsEqual
same_is_equal one other = (decl_to one other, decl_from one other)

pub same_is_an_equivalence : SameIsAnEquivalence
same_is_an_equivalence = record {
  reflexive = λ one. decl_from one one refl;
  symmetric = λ one other same. decl_from other one (sym (decl_to one other same));
  transitive = λ one other third same also. decl_from one third (decl_to one other same ∙ decl_to other third also);
}
