-- The last name of a path, and the path before it.
use Rattle.std.specs.Prelude.{Option, Some, None, List, [], ◌∷◌}
use Rattle.nddl_ast.specs.declared.name.Name.{Name}
use Rattle.nddl_ast.specs.declared.name.Path.{Path}

-- the last of a name and others behind it
abbrev pub last_in_path : Name → List Name → Name
last_in_path name [] = name
last_in_path name (next ∷ more) = last_in_path next more

-- those before it
abbrev pub all_but_last : Name → List Name → List Name
all_but_last name [] = []
all_but_last name (next ∷ more) = name ∷ all_but_last next more

abbrev pub last_name : Path → Name
last_name path = last_in_path path.first path.rest

-- a path of these names without the last of them, if that leaves one
abbrev pub path_until : Name → List Name → Option Path
path_until first [] = None
path_until first (next ∷ more) = Some (record { first = first; rest = all_but_last next more })

abbrev pub path_before : Path → Option Path
path_before path = path_until path.first path.rest
