-- The globals that paths make by reading fields of what isn't a known object.
use Rattle.std.specs.Prelude.{ℕ, ◌+◌, Bool, true, false, List, [], ◌∷◌, ◌++◌, Option, Some, Ok, Err, map}
use Rattle.std.specs.Prelude.{if◌then◌else◌}
use Rattle.std.specs.List.{flat_map}
use Rattle.std.specs.Option.{option_map_or}
use Rattle.nddl_ast.specs.declared.declaration.Decl.{Decl}
use Rattle.nddl_ast.specs.declared.declaration.Decl.TheVariants as decls
use Rattle.nddl_ast.specs.declared.expression.Expr.{Expr}
use Rattle.nddl_ast.specs.declared.expression.Expr.TheVariants as exprs
use Rattle.nddl_ast.specs.declared.name.Name.{Name}
use Rattle.nddl_ast.specs.declared.name.Path.{Path}
use Rattle.nddl_ast.specs.declared.statement.Call.{Call}
use Rattle.nddl_symbols.specs.declared.place.Place.{Place}
use Rattle.nddl_ast.specs.Path.{last_name, path_before}
use Rattle.nddl_hierarchy.specs.Facts.{Facts}
use Rattle.nddl_resolve.specs.declared.denoted.Denoted.{Denoted}
use Rattle.nddl_resolve.specs.declared.denoted.Denoted.TheVariants as denoted
use Rattle.nddl_resolve.specs.Files.{file_denoted}
use Rattle.nddl_resolve.specs.Following.{Understood}
use Rattle.nddl_problem_check.specs.declared.acts.Act.{Act}
use Rattle.nddl_problem_check.specs.declared.acts.Act.TheVariants as acts
use Rattle.nddl_problem_check.specs.Acts.{act_named, file_path_denoted}
use Rattle.nddl_problem_check.specs.Posts.{place_here}

-- the first of these names is the part of a token
abbrev pub behind_part : List Name → List Name
behind_part [] = []
behind_part (part ∷ more) = more

-- the fields among these names that are read of variables, behind what means this
abbrev pub names_reading : Denoted → List Name → List Name
names_reading (denoted.Value kind true) names = []
names_reading (denoted.Value kind false) names = names
names_reading (denoted.Token token) names = behind_part names
names_reading other names = []

abbrev pub means_value : Understood → Bool
means_value (Ok (denoted.Value kind constant)) = true
means_value (Ok other) = false
means_value (Err fault) = false

-- the names of a path that read fields of variables; a path that means no value reads none
abbrev pub reading_names : Facts → Path → List Name
reading_names facts path =
    if means_value (file_path_denoted facts path)
    then option_map_or (λ begin. names_reading begin path.rest) (file_denoted facts path.first.text) []
    else []

-- the first name of the path, once for each global that it makes
abbrev pub path_places : Facts → ℕ → Path → List Place
path_places facts decl path = map (λ name. place_here decl path.first.at) (reading_names facts path)

abbrev pub expr_places : Facts → ℕ → Expr → List Place
expr_places facts decl (exprs.Path path) = path_places facts decl path
expr_places facts decl (exprs.Literal literal) = []

-- the same where an act is done to what the path means: only a variable is specified
abbrev pub act_places : Facts → ℕ → Path → Option Act → List Place
act_places facts decl front (Some acts.Specify) = path_places facts decl front
act_places facts decl front act = []

-- where a call makes globals: in the path before an act, or in its arguments
abbrev pub call_places : Facts → ℕ → Call → List Place
call_places facts decl call =
    option_map_or (λ front. act_places facts decl front (act_named (last_name call.path).text)) (path_before call.path)
    (flat_map (expr_places facts decl) call.arguments)

abbrev pub making_place : Facts → ℕ → Decl → List Place
making_place facts decl (decls.Call call) = call_places facts decl call
making_place facts decl other = []

-- where declarations make them, of which the first has this number
abbrev pub making_places : Facts → ℕ → List Decl → List Place
making_places facts number [] = []
making_places facts number (decl ∷ more) = making_place facts number decl ++ making_places facts (number + 1) more
