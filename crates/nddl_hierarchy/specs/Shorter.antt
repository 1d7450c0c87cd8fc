-- Lines of classes in which those may be passed over that don't matter: those that add no members to them, or those that have
-- no constructor.
use Rattle.std.specs.Prelude.{◌≡◌, ℕ, ◌||◌, Bool, true, false, List, Option, Some, None, if◌then◌else◌}
use Rattle.std.specs.List.{filter, list_any}
use Rattle.std.specs.Option.{option_and_then, option_map_or}
use Rattle.eu_forest.specs.declared.walk.Mark.{Mark}
use Rattle.eu_forest.specs.Lines.{rootedness_in}
use Rattle.nddl_ast.specs.declared.declaration.Decl.{Decl}
use Rattle.nddl_ast.specs.declared.declaration.Member.{Member}
use Rattle.nddl_ast.specs.declared.declaration.Member.TheVariants as members
use Rattle.nddl_symbols.specs.declared.declared.Declared.{Declared}
use Rattle.nddl_symbols.specs.declared.scope.Meaning.{Meaning}
use Rattle.nddl_symbols.specs.declared.scope.Meaning.TheVariants as meanings
use Rattle.nddl_symbols.specs.Scope.{meaning_of}
use Rattle.nddl_hierarchy.specs.declared.shorter.ShortLines.{ShortLines}
use Rattle.nddl_hierarchy.specs.Ancestors.{above}
use Rattle.eu_forest.specs.Ancestors.{ancestry, parent_in}
use Rattle.nddl_hierarchy.specs.Decls.{class_parent, decl_members, declaration_with_body, members_of}
use Rattle.nddl_hierarchy.specs.Lines.{is_rooted}

-- ---- members

-- the member is a field or a predicate
abbrev pub is_named : Member → Bool
is_named (members.Field typed) = true
is_named (members.Predicate at name parts) = true
is_named (members.Constructor name formals sets) = false

abbrev pub has_named : List Member → Bool
has_named members = list_any is_named members

abbrev pub is_builtin_class : Option Meaning → Bool
is_builtin_class None = false
is_builtin_class (Some (meanings.BuiltIn number)) = true
is_builtin_class (Some (meanings.Entry entry)) = false

-- The class of this number adds members to a line: its own, or those of a built-in class that it extends. A constructor
-- adds none.
unfoldable pub adds_members : List Declared → List Decl → ℕ → Bool
adds_members names program entry =
    has_named (members_of names program entry) || is_builtin_class (above names program entry)

-- the same of a class that is declared so
abbrev pub adds_body : List Declared → Decl → Bool
adds_body names body =
    has_named (decl_members body)
    || is_builtin_class (option_and_then (λ name. meaning_of names name.text) (class_parent body))

abbrev pub adds_declared : List Declared → List Decl → Declared → Bool
adds_declared names program declared =
    option_map_or (adds_body names) (declaration_with_body names program declared) false

-- ---- constructors

abbrev pub is_constructor : Member → Bool
is_constructor (members.Constructor name formals sets) = true
is_constructor member = false

abbrev pub has_constructor : List Member → Bool
has_constructor members = list_any is_constructor members

-- the class of this number has a constructor
unfoldable pub builds : List Declared → List Decl → ℕ → Bool
builds names program entry = has_constructor (members_of names program entry)

-- the same of a class that is declared so
abbrev pub builds_body : Decl → Bool
builds_body body = has_constructor (decl_members body)

abbrev pub builds_declared : List Declared → List Decl → Declared → Bool
builds_declared names program declared = option_map_or builds_body (declaration_with_body names program declared) false

-- ---- lines

-- the same things of the two lists pass the test, in the same order
abbrev pub KeepTheSame : {X : Type 0} (test : X → Bool) (one other : List X) → Type 0
KeepTheSame test one other = filter test one ≡ filter test other

-- those classes of a line that add members to it
abbrev pub adding_along : List Declared → List Decl → List ℕ → List ℕ
adding_along names program line = filter (adds_members names program) line

-- the same classes add members to the two lines, in the same order
abbrev pub AddTheSame : List Declared → List Decl → List ℕ → List ℕ → Type 0
AddTheSame names program one other = KeepTheSame (adds_members names program) one other

-- the same classes of the two lines have a constructor, in the same order
abbrev pub BuildTheSame : List Declared → List Decl → List ℕ → List ℕ → Type 0
BuildTheSame names program one other = KeepTheSame (builds names program) one other

-- what stands next on a line, where only those stay that pass the test, if this is known of what is above
abbrev pub passed_over : (ℕ → Bool) → List (Option ℕ) → Option ℕ → Option ℕ
passed_over test short None = None
passed_over test short (Some number) = if test number then Some number else parent_in short number

-- The things stand under these as well: what leads up to a root has a line along them on which the same things pass the test.
abbrev pub AreShorterFor : (ℕ → Bool) → List (Option ℕ) → List Mark → List (Option ℕ) → Type 0
AreShorterFor test parents marked short =
    (entry : ℕ) → is_rooted (rootedness_in marked entry) ≡ true
    → KeepTheSame test (ancestry short entry) (ancestry parents entry)

-- along the one lines the same classes add members, and along the other ones the same classes have a constructor
abbrev pub AreShorter : List Declared → List Decl → List (Option ℕ) → List Mark → ShortLines → Type 0
AreShorter names program parents marked short =
    AreShorterFor (adds_members names program) parents marked short.adding.items
    × AreShorterFor (builds names program) parents marked short.building.items
