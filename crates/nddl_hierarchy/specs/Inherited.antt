-- The names that a class has from those that it extends.
use Rattle.std.specs.Prelude.{ℕ, ◌==◌, List, [], ◌∷◌, Option, Some, None, codes, if◌then◌else◌}
use Rattle.std.specs.List.{filter_map}
use Rattle.nddl_ast.specs.declared.declaration.Decl.{Decl}
use Rattle.nddl_ast.specs.declared.declaration.Member.{Member}
use Rattle.nddl_ast.specs.declared.declaration.Member.TheVariants as members
use Rattle.nddl_ast.specs.declared.name.Name.{Name}
use Rattle.nddl_symbols.specs.declared.declared.Declared.{Declared}
use Rattle.nddl_symbols.specs.declared.scope.Meaning.{Meaning}
use Rattle.nddl_symbols.specs.declared.scope.Meaning.TheVariants as meanings
use Rattle.eu_index.specs.Index.{Noted, with_noted}
use Rattle.nddl_symbols.specs.Scope.{is_class_at, meaning_of}
use Rattle.nddl_hierarchy.specs.Ancestors.{above}
use Rattle.eu_forest.specs.Ancestors.{ancestry}
use Rattle.nddl_hierarchy.specs.Decls.{members_of}
use Rattle.nddl_hierarchy.specs.Facts.{Facts}

-- ---- names that are noted

-- the names are noted, each unless it was before
abbrev pub names_noted : Noted → List Name → Noted
names_noted noted [] = noted
names_noted noted (name ∷ more) = names_noted (with_noted noted name.text 0) more

-- words are
abbrev pub words_noted : Noted → List (List ℕ) → Noted
words_noted noted [] = noted
words_noted noted (word ∷ more) = words_noted (with_noted noted word 0) more

-- ---- members

-- the name of a field or of a predicate
abbrev pub member_name : Member → Option Name
member_name (members.Field typed) = Some typed.name
member_name (members.Predicate at name parts) = Some name
member_name (members.Constructor name formals sets) = None

abbrev pub member_names : List Member → List Name
member_names some = filter_map member_name some

-- the fields and predicates of a reservoir
abbrev pub reservoir_members : List (List ℕ)
reservoir_members =
    codes "initial" ∷ codes "low" ∷ codes "high" ∷ codes "produce" ∷ codes "consume" ∷ []

-- the fields and predicates of the built-in class of this number
abbrev pub builtin_members : ℕ → List (List ℕ)
builtin_members number =
    if number == 2 then codes "capacity" ∷ codes "uses" ∷ []
    else (if number == 3 then reservoir_members else [])

-- ---- ancestors

-- the members of a built-in class are noted
abbrev pub builtin_noted : Noted → Option Meaning → Noted
builtin_noted noted None = noted
builtin_noted noted (Some (meanings.BuiltIn number)) = words_noted noted (builtin_members number)
builtin_noted noted (Some (meanings.Entry entry)) = noted

-- the members of the class of this number are noted, with those of the built-in class that it extends
abbrev pub class_noted : List Declared → List Decl → Noted → ℕ → Noted
class_noted names program noted entry =
    builtin_noted (names_noted noted (member_names (members_of names program entry))) (above names program entry)

-- those of all classes of a line
abbrev pub line_noted : List Declared → List Decl → Noted → List ℕ → Noted
line_noted names program noted [] = noted
line_noted names program noted (entry ∷ more) = line_noted names program (class_noted names program noted entry) more

-- The members of what a class extends that means this. What stands above it counts as far as it is there, whatever is
-- wrong further up.
abbrev pub meaning_noted : Facts → Option Meaning → Noted
meaning_noted facts None = []
meaning_noted facts (Some (meanings.BuiltIn number)) = words_noted [] (builtin_members number)
meaning_noted facts (Some (meanings.Entry entry)) =
    if is_class_at facts.names entry
    then line_noted facts.names facts.program [] (ancestry facts.parents entry) else []

-- the names that a class has from those that it extends
abbrev pub inherited_noted : Facts → Option Name → Noted
inherited_noted facts None = []
inherited_noted facts (Some name) = meaning_noted facts (meaning_of facts.names name.text)
