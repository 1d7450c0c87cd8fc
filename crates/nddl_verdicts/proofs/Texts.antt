-- What is wrong with the text of a problem, and with that of what makes its objects, stands in a declaration.
use Rattle.std.proofs.Common.{◌≡◌, ℕ, ◌+◌, ◌<◌, List, [], ◌∷◌, length, Option, Some, None, Ok, Err, map, false, codes, arith}
use Rattle.std.specs.Prelude.{nat_lt, bytes_eq}
use Rattle.nddl_ast.specs.declared.declaration.Decl.{Decl}
use Rattle.nddl_ast.specs.declared.declaration.Decl.TheVariants as decls
use Rattle.nddl_ast.specs.declared.declaration.Member.{Member}
use Rattle.nddl_ast.specs.declared.declaration.Member.TheVariants as members
use Rattle.nddl_ast.specs.declared.declaration.Set.{Set}
use Rattle.nddl_ast.specs.declared.declaration.Set.TheVariants as sets
use Rattle.nddl_ast.specs.declared.expression.Creation.{Creation}
use Rattle.nddl_ast.specs.declared.expression.Expr.{Expr}
use Rattle.nddl_ast.specs.declared.expression.Expr.TheVariants as exprs
use Rattle.nddl_ast.specs.declared.expression.Init.{Init}
use Rattle.nddl_ast.specs.declared.expression.Init.TheVariants as inits
use Rattle.nddl_ast.specs.declared.kind.TextKind.TheVariants as faults
use Rattle.nddl_ast.specs.declared.name.Name.{Name}
use Rattle.nddl_ast.specs.declared.name.Path.{Path}
use Rattle.nddl_ast.specs.declared.statement.Ask.{Ask}
use Rattle.nddl_ast.specs.declared.statement.Call.{Call}
use Rattle.nddl_ast.specs.declared.statement.Variable.{Variable}
use Rattle.nddl_ast.specs.Path.{last_name, path_before}
use Rattle.nddl_ast.specs.Places.{expr_place}
use Rattle.nddl_symbols.specs.declared.scope.Meaning.{Meaning}
use Rattle.nddl_symbols.specs.Names.{is_config_sort, is_posting_word, sort_of_variable}
use Rattle.nddl_symbols.specs.Scope.{meaning_of, named_number}
use Rattle.nddl_typeexpr.specs.declared.kind.TypeKind.{TypeKind}
use Rattle.nddl_typeexpr.specs.declared.kind.TypeKind.TheVariants as kinds
use Rattle.nddl_typeexpr.specs.Bases.{base_kind}
use Rattle.nddl_hierarchy.specs.Ancestors.{above}
use Rattle.nddl_hierarchy.specs.Facts.{Facts}
use Rattle.nddl_resolve.specs.Following.{Understood, or_faulty}
use Rattle.nddl_resolve.specs.Paths.{Surroundings, expr_denoted}
use Rattle.nddl_rule_check.specs.Values.{kind_of_value}
use Rattle.nddl_constructors.specs.Bodies.{bodies_faults, body_faults, field_in_line, field_kind, named_bodies_faults, set_faults_in, super_faults}
use Rattle.nddl_constructors.specs.Constants.{constant_faults, constants_faults, value_faults}
use Rattle.nddl_constructors.specs.Wants.{wanted_at}
use Rattle.nddl_constructors.specs.Creations.{class_alone, creation_faults, creation_faults_by, meaning_wants, set_to_faults}
use Rattle.nddl_constructors.specs.Formals.{around_formals, formal_seen}
use Rattle.nddl_constructors.specs.Objects.{creation_of_faults, first_close, new_faults, object_faults, setting_faults, settings_faults, settings_faults_from, variable_faults_by, writing_faults, writing_faults_from, written_faults}
use Rattle.nddl_problem_check.specs.declared.acts.Act.{Act}
use Rattle.nddl_problem_check.specs.declared.acts.Act.TheVariants as acts
use Rattle.nddl_problem_check.specs.Acts.{act_faults, act_named, closing_faults, decided_faults, file_path_denoted, is_alone_label, merged_faults, none_taken_faults, nothing_around, one_act_faults, root_argument_faults, root_label_faults, specified_faults, specify_faults}
use Rattle.nddl_problem_check.specs.Posted.{posted_token, posting_faults}
use Rattle.nddl_problem_check.specs.Texts.{begun_faults, lone_call_faults, problem_call_faults, problem_decl_faults, problem_faults_from, problem_text_faults}
use Rattle.nddl_verdicts.proofs.Placing.{AllIn, constraint_call, each, either, here, joined, nil, no_act, optional, understood, unwanted}

module _ (Good : ℕ → Type 0) where
  module _ (decl : ℕ) (good : Good decl) (facts : Facts) where
    -- ---- values

    constant : (wanted : Option TypeKind) (expr : Expr) (found : Understood) → AllIn Good (constant_faults decl wanted expr found)
    constant wanted expr (Ok found) = here Good decl good (expr_place expr) _
    constant wanted expr (Err fault) = here Good decl good fault.at (Some fault.kind)

    value : (around : Surroundings) (wanted : Option TypeKind) (expr : Expr) → AllIn Good (value_faults facts around decl wanted expr)
    unfolding value_faults
    value around wanted expr = constant wanted expr (expr_denoted facts around expr)

    constants : (around : Surroundings) (wants : List (Option TypeKind)) (number : ℕ) (some : List Expr) → AllIn Good (constants_faults facts around decl wants number some)
    constants around wants number [] = nil Good
    constants around wants number (expr ∷ more) = joined Good _ _ (value around (wanted_at wants number) expr) (constants around wants (number + 1) more)

    -- ---- objects

    creation_by : (around : Surroundings) (creation : Creation) (meaning : Option Meaning) (wants : List (Option TypeKind))
        → AllIn Good (creation_faults_by facts around decl creation meaning wants)
    creation_by around creation meaning wants = joined Good _ _ (here Good decl good creation.class.at _) (constants around wants 0 creation.arguments)

    creation_of : (around : Surroundings) (creation : Creation) → AllIn Good (creation_faults facts around decl creation)
    unfolding creation_faults
    creation_of around creation =
        let meaning = meaning_of facts.names creation.class.text in
        creation_by around creation meaning (meaning_wants facts (class_alone facts.names meaning))

    set_to : (around : Surroundings) (wanted : Option TypeKind) (init : Init) → AllIn Good (set_to_faults facts around decl wanted init)
    set_to around wanted (inits.Expr expr) = value around wanted expr
    set_to around wanted (inits.New creation) = joined Good _ _ (here Good decl good creation.at _) (creation_of around creation)

    super : (around : Surroundings) (entry : ℕ) (some : List Expr) → AllIn Good (super_faults facts around decl entry some)
    super around entry some = constants around (meaning_wants facts (above facts.names facts.program entry)) 0 some

    one_set : (around : Surroundings) (entry : ℕ) (set : Set) → AllIn Good (set_faults_in facts around decl entry set)
    one_set around entry (sets.Field name init) =
        joined Good _ _ (here Good decl good name.at _) (set_to around (field_kind (field_in_line facts entry name.text)) init)
    one_set around entry (sets.Super at some) = super around entry some

    body : (entry : ℕ) (member : Member) → AllIn Good (body_faults facts decl entry member)
    unfolding body_faults
    body entry (members.Constructor name formals some) =
        each Good (set_faults_in facts (around_formals (map (formal_seen facts) formals)) decl entry) some (one_set (around_formals (map (formal_seen facts) formals)) entry)
    body entry (members.Field typed) = nil Good
    body entry (members.Predicate at name parts) = nil Good

    named_bodies : (name : List ℕ) (some : List Member) → AllIn Good (named_bodies_faults facts decl name some)
    named_bodies name some =
        optional Good (λ (entry : ℕ). bodies_faults facts decl entry some) (named_number false facts.names name) [] (λ entry. each Good (body_faults facts decl entry) some (body entry)) (nil Good)

    object : (kind : Option TypeKind) (creation : Creation) → AllIn Good (object_faults facts decl kind creation)
    object kind creation = joined Good _ _ (set_to (around_formals []) kind (inits.New creation)) (here Good decl good creation.class.at _)

    setting : (around : Surroundings) (number : ℕ) (expr : Expr) → AllIn Good (setting_faults facts around decl number expr)
    setting around number expr = either Good (nat_lt number 3) _ _ (value around (Some kinds.Int) expr) (understood Good decl good (expr_denoted facts around expr))

    settings_from : (around : Surroundings) (number : ℕ) (some : List Expr) → AllIn Good (settings_faults_from facts around decl number some)
    settings_from around number [] = nil Good
    settings_from around number (expr ∷ more) = joined Good _ _ (setting around number expr) (settings_from around (number + 1) more)

    settings : (creation : Creation) → AllIn Good (settings_faults facts decl creation)
    settings creation = joined Good _ _ (here Good decl good creation.class.at _) (settings_from (around_formals []) 0 creation.arguments)

    created : (variable : Variable) (creation : Creation) → AllIn Good (creation_of_faults facts decl variable creation)
    created variable creation =
        either Good (is_config_sort (sort_of_variable variable)) _ _ (settings creation) (object (base_kind facts.names facts.known variable.declared.base) creation)

    new : (closed : Option ℕ) (variable : Variable) (creation : Creation) → AllIn Good (new_faults facts closed decl variable creation)
    new closed variable creation = joined Good _ _ (here Good decl good creation.at _) (created variable creation)

    variable_by : (closed : Option ℕ) (variable : Variable) (init : Option Init) → AllIn Good (variable_faults_by facts closed decl variable init)
    variable_by closed variable (Some (inits.New creation)) = new closed variable creation
    variable_by closed variable (Some (inits.Expr expr)) = nil Good
    variable_by closed variable None = nil Good

    pub writing : (closed : Option ℕ) (one : Decl) → AllIn Good (writing_faults facts closed decl one)
    writing closed (decls.Class at name parent some) = named_bodies name.text some
    writing closed (decls.Variable variable) = variable_by closed variable variable.init
    writing closed (decls.Include at file file_at) = nil Good
    writing closed (decls.Enum at name members_at some) = nil Good
    writing closed (decls.Typedef at declared name) = nil Good
    writing closed (decls.Forward at name) = nil Good
    writing closed (decls.Rule class predicate some) = nil Good
    writing closed (decls.Call call) = nil Good
    writing closed (decls.Ask asks) = nil Good

    -- ---- acts

    specified : (at : ℕ) (found : Understood) → AllIn Good (specified_faults decl at found)
    specified at (Ok meant) = here Good decl good at _
    specified at (Err fault) = here Good decl good fault.at (Some fault.kind)

    closing : (at : ℕ) (found : Understood) → AllIn Good (closing_faults decl at found)
    closing at (Ok meant) = here Good decl good at _
    closing at (Err fault) = here Good decl good fault.at (Some fault.kind)

    root_label : (path : Path) → AllIn Good (root_label_faults facts decl path)
    root_label path = either Good (is_alone_label facts.names path path.rest) _ _ (nil Good) (unwanted Good decl good path.first.at (file_path_denoted facts path))

    root_argument : (expr : Expr) → AllIn Good (root_argument_faults facts decl expr)
    root_argument (exprs.Path path) = root_label path
    root_argument (exprs.Literal literal) = here Good decl good literal.at (Some faults.WrongType)

    none_taken : (at : ℕ) (some : List Expr) → AllIn Good (none_taken_faults decl at some)
    none_taken at [] = nil Good
    none_taken at (expr ∷ more) = here Good decl good at (Some faults.WrongCount)

    decided : (at : ℕ) (kind : Option TypeKind) (some : List Expr) → AllIn Good (decided_faults facts decl at kind some)
    decided at kind [] = here Good decl good at (Some faults.WrongCount)
    decided at kind (expr ∷ []) = value nothing_around kind expr
    decided at kind (expr ∷ other ∷ more) = here Good decl good at (Some faults.WrongCount)

    merged : (at : ℕ) (some : List Expr) → AllIn Good (merged_faults facts decl at some)
    merged at [] = here Good decl good at (Some faults.WrongCount)
    merged at (expr ∷ []) = root_argument expr
    merged at (expr ∷ other ∷ more) = here Good decl good at (Some faults.WrongCount)

    specify : (front : Path) (name : Name) (some : List Expr) → AllIn Good (specify_faults facts decl front name some)
    specify front name some =
        joined Good _ _ (specified front.first.at (file_path_denoted facts front)) (decided name.at (kind_of_value (or_faulty (file_path_denoted facts front))) some)

    one_act : (front : Path) (name : Name) (some : List Expr) (act : Act) → AllIn Good (one_act_faults facts decl front name some act)
    one_act front name some acts.Specify = specify front name some
    one_act front name some acts.Activate = joined Good _ _ (root_label front) (none_taken name.at some)
    one_act front name some acts.Reject = joined Good _ _ (root_label front) (none_taken name.at some)
    one_act front name some acts.Merge = joined Good _ _ (root_label front) (merged name.at some)
    one_act front name some acts.Close = joined Good _ _ (closing front.first.at (file_path_denoted facts front)) (none_taken name.at some)

    act : (front : Path) (name : Name) (some : List Expr) → AllIn Good (act_faults facts decl front name some)
    act front name some =
        optional Good (one_act_faults facts decl front name some) (act_named name.text) _ (one_act front name some)
        (no_act Good decl good facts name (file_path_denoted facts front))

    -- ---- declarations

    lone_call : (name : Name) (some : List Expr) → AllIn Good (lone_call_faults facts decl name some)
    lone_call name some =
        either Good (bytes_eq name.text (codes "close")) _ _ (none_taken name.at some) (constraint_call Good decl good facts nothing_around name some)

    problem_call : (call : Call) → AllIn Good (problem_call_faults facts decl call)
    problem_call call =
        optional Good (λ (front : Path). act_faults facts decl front (last_name call.path) call.arguments) (path_before call.path) _
        (λ front. act front (last_name call.path) call.arguments) (lone_call call.path.first call.arguments)

    begun : (variable : Variable) (init : Option Init) → AllIn Good (begun_faults facts decl variable init)
    begun variable (Some (inits.Expr expr)) = value nothing_around (base_kind facts.names facts.known variable.declared.base) expr
    begun variable (Some (inits.New creation)) = nil Good
    begun variable None = nil Good

    posting : (asks : Ask) → AllIn Good (posting_faults facts decl asks)
    posting asks =
        either Good (is_posting_word asks.word.text) _ _ (understood Good decl good (posted_token facts asks.path)) (here Good decl good asks.word.at (Some faults.Unknown))

    problem_decl : (one : Decl) → AllIn Good (problem_decl_faults facts decl one)
    problem_decl (decls.Variable variable) = begun variable variable.init
    problem_decl (decls.Call call) = problem_call call
    problem_decl (decls.Ask asks) = posting asks
    problem_decl (decls.Include at file file_at) = nil Good
    problem_decl (decls.Enum at name members_at some) = nil Good
    problem_decl (decls.Typedef at declared name) = nil Good
    problem_decl (decls.Forward at name) = nil Good
    problem_decl (decls.Class at name parent some) = nil Good
    problem_decl (decls.Rule class predicate some) = nil Good

  module _ (count : ℕ) (good : (number : ℕ) → number < count → Good number) (facts : Facts) where
    texts_from : (number : ℕ) (some : List Decl) → number + length some ≡ count → AllIn Good (problem_faults_from facts number some)
    texts_from number [] is = nil Good
    texts_from number (decl ∷ more) is =
        joined Good _ _ (problem_decl number (good number (omega (arith, is))) facts decl) (texts_from (number + 1) more (omega (arith, is)))

    writings_from : (closed : Option ℕ) (number : ℕ) (some : List Decl) → number + length some ≡ count → AllIn Good (writing_faults_from facts closed number some)
    writings_from closed number [] is = nil Good
    writings_from closed number (decl ∷ more) is =
        joined Good _ _ (writing number (good number (omega (arith, is))) facts closed decl) (writings_from closed (number + 1) more (omega (arith, is)))

  module _ (facts : Facts) (good : (number : ℕ) → number < length facts.program → Good number) where
    pub texts_in : AllIn Good (problem_text_faults facts)
    texts_in = texts_from (length facts.program) good facts 0 facts.program (omega arith)

    pub written_in : AllIn Good (written_faults facts)
    written_in = writings_from (length facts.program) good facts (first_close facts.program) 0 facts.program (omega arith)
