-- The tokens for which a rule asks, and what is wrong there.
use Rattle.std.specs.Prelude.{ℕ, Bool, ◌||◌, ◌&&◌, not, List, [], ◌∷◌, Option, Some, Ok, Err, is_some, if◌then◌else◌}
use Rattle.std.specs.List.{list_any}
use Rattle.std.specs.Option.{option_map_or}
use Rattle.std.specs.Str.{bytes_eq}
use Rattle.nddl_ast.specs.declared.kind.TextKind.TheVariants as faults
use Rattle.nddl_ast.specs.declared.expression.Expr.{Expr}
use Rattle.nddl_ast.specs.declared.expression.Expr.TheVariants as exprs
use Rattle.nddl_ast.specs.declared.name.Name.{Name}
use Rattle.nddl_ast.specs.declared.name.Path.{Path}
use Rattle.nddl_ast.specs.declared.statement.Ask.{Ask}
use Rattle.nddl_symbols.specs.declared.fault.Fault.{Fault}
use Rattle.nddl_symbols.specs.Finding.{faults_here}
use Rattle.nddl_hierarchy.specs.Facts.{Facts}
use Rattle.nddl_resolve.specs.declared.denoted.Seen.{Seen}
use Rattle.nddl_resolve.specs.declared.denoted.TokenSort.{TokenSort}
use Rattle.nddl_resolve.specs.Paths.{Surroundings, asked_token, path_denoted}
use Rattle.nddl_resolve.specs.Following.{Understood, named_token, unknown_at, understood_faults}
use Rattle.nddl_rule_check.specs.Constraints.{relation_named}

-- one of these has the name
abbrev pub is_name_seen : List ℕ → List Seen → Bool
is_name_seen name some = list_any (λ seen. bytes_eq name seen.name) some

-- the name is the label of a slot; a formal, a variable of `foreach` or a local of this name hides it
abbrev pub is_label : Surroundings → List ℕ → Bool
is_label around name =
    not (is_name_seen name around.formals || (is_name_seen name around.turns || is_name_seen name around.locals))
    && is_name_seen name around.labels

-- what is wrong with what isn't wanted where it stands, whatever it means
abbrev pub unwanted_faults : ℕ → ℕ → Understood → List Fault
unwanted_faults decl at (Ok meant) = faults_here decl at (Some faults.WrongType)
unwanted_faults decl at (Err fault) = faults_here decl fault.at (Some fault.kind)

-- what is wrong with a name that has to be the label of a slot
abbrev pub label_faults : Facts → Surroundings → ℕ → Path → List Fault
label_faults facts around decl path =
    if is_label around path.first.text then [] else unwanted_faults decl path.first.at (path_denoted facts around path)

-- a token of the predicate of this name, of the class whose rule it is
abbrev pub own_slot : Facts → Surroundings → Name → Understood
own_slot facts around name =
    option_map_or (λ token. named_token facts token.class name) around.token (unknown_at name.at)

-- the token for which a labelled relation asks: a predicate alone is one of the class whose rule it is
abbrev pub slot_names : Facts → Surroundings → Path → List Name → Understood
slot_names facts around path [] = own_slot facts around path.first
slot_names facts around path (name ∷ more) = asked_token facts around path

abbrev pub labelled_slot : Facts → Surroundings → Path → Understood
labelled_slot facts around path = slot_names facts around path path.rest

-- what is wrong with a relation to a token that gets a label, but for the label
abbrev pub ask_faults : Facts → Surroundings → ℕ → Ask → List Fault
ask_faults facts around decl ask =
    if is_some (relation_named ask.word.text) then understood_faults decl (labelled_slot facts around ask.path)
    else faults_here decl ask.word.at (Some faults.Unknown)

-- ---- relations without a new label

-- what is wrong with a path in a relation: one name is a label, and more ask for a token
abbrev pub related_names : Facts → Surroundings → ℕ → Path → List Name → List Fault
related_names facts around decl path [] = label_faults facts around decl path
related_names facts around decl path (name ∷ more) = understood_faults decl (asked_token facts around path)

abbrev pub related_faults : Facts → Surroundings → ℕ → Expr → List Fault
related_faults facts around decl (exprs.Path path) = related_names facts around decl path path.rest
related_faults facts around decl (exprs.Literal literal) = faults_here decl literal.at (Some faults.WrongType)

-- what is wrong with the arguments of a relation whose name stands there: it has one
abbrev pub relation_faults : Facts → Surroundings → ℕ → ℕ → List Expr → List Fault
relation_faults facts around decl at (expr ∷ []) = related_faults facts around decl expr
relation_faults facts around decl at exprs = faults_here decl at (Some faults.WrongCount)
