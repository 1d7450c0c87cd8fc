-- What of the constructors of classes is the same for all objects.
use Rattle.std.specs.Prelude.{◌≡◌, ℕ, List, [], Option, Some, None, map, length, slice_get}
use Rattle.std.specs.Option.{option_and_then, option_copied, option_map_or}
use Rattle.nddl_ast.specs.declared.declaration.Decl.{Decl}
use Rattle.nddl_ast.specs.declared.declaration.Member.{Member}
use Rattle.nddl_ast.specs.declared.declaration.Set.{Set}
use Rattle.nddl_symbols.specs.declared.declared.Declared.{Declared}
use Rattle.nddl_symbols.specs.Scope.{meaning_of}
use Rattle.nddl_typeexpr.specs.declared.kind.TypeKind.{TypeKind}
use Rattle.nddl_hierarchy.specs.Decls.{class_parent, decl_members, number_with_body}
use Rattle.nddl_hierarchy.specs.Facts.{Facts}
use Rattle.nddl_constructors.specs.Creations.{meaning_wants}
use Rattle.nddl_constructors.specs.Formals.{formal_seen}
use Rattle.nddl_construction.specs.declared.builders.Builder.{Builder}
use Rattle.nddl_construction.specs.declared.builders.Builders as code
use Rattle.nddl_construction.specs.Classes.{body_decl, constructor_at, constructor_formals, constructor_sets, own_constructor}
use Rattle.nddl_construction.specs.Passing.{handed_arguments, wants_above}

-- the kinds that are wanted of the arguments that a body hands on; none, if it hands on none that are as many
abbrev pub wants_handed : List (Option TypeKind) → List Set → List (Option TypeKind)
wants_handed wants body = option_map_or (λ arguments. wants) (handed_arguments (length wants) body) []

-- This is found of the constructor that stands in the declaration of this number, where what its class extends wants
-- arguments of these kinds: the constructor itself, the number, what its formals mean, and what it hands on. Nothing is found
-- where there is no constructor.
abbrev pub IsBuilder : Facts → ℕ → List (Option TypeKind) → Option Member → Option Builder → Type 0
IsBuilder facts decl wants constructor None = constructor ≡ None
IsBuilder facts decl wants constructor (Some builder) =
    (constructor ≡ Some builder.constructor.now)
    × (builder.decl ≡ decl)
    × (builder.formals ≡ map (formal_seen facts) (constructor_formals builder.constructor.now))
    × (option_copied builder.handed ≡ handed_arguments (length wants) (constructor_sets builder.constructor.now))
    × (builder.wants.items ≡ wants_handed wants (constructor_sets builder.constructor.now))

-- this is found of the constructor of the class of this number, or nothing if it has none
abbrev pub IsBuilderAt : Facts → ℕ → Option Builder → Type 0
IsBuilderAt facts entry found =
    IsBuilder facts (body_decl facts.names entry) (wants_above facts entry) (constructor_at facts.names facts.program entry) found

-- what stands in the list at this number
abbrev pub entry_at : List (Option Builder) → ℕ → Option Builder
entry_at entries number = option_and_then (λ found. found) (slice_get entries number)

-- what is found in the table of the class of this number
abbrev pub builder_at : code.Builders → ℕ → Option Builder
builder_at builders entry =
    option_and_then (entry_at builders.entries.items) (option_and_then (λ number. number) (slice_get builders.bodies.items entry))

-- Of each class that is found in the table which is so of its constructor, and of a number that is no class's nothing.
abbrev pub AreBuilders : Facts → code.Builders → Type 0
AreBuilders facts builders = (entry : ℕ) → IsBuilderAt facts entry (builder_at builders entry)

-- ---- declarations

-- the constructor in the declaration of this number
abbrev pub constructor_in : List Decl → ℕ → Option Member
constructor_in program number =
    option_and_then (λ decl. own_constructor (decl_members decl)) (slice_get program number)

-- the kinds of arguments that what a class extends wants, which is declared so
abbrev pub wants_over : Facts → Decl → List (Option TypeKind)
wants_over facts decl =
    meaning_wants facts (option_and_then (λ name. meaning_of facts.names name.text) (class_parent decl))

-- the same of the declaration of this number
abbrev pub wants_in : Facts → ℕ → List (Option TypeKind)
wants_in facts number = option_map_or (wants_over facts) (slice_get facts.program number) []

-- what stands in the list is found of the declarations in order
abbrev pub AreEntries : Facts → List (Option Builder) → Type 0
AreEntries facts entries =
    (number : ℕ) (found : Option Builder) → slice_get entries number ≡ Some found
    → IsBuilder facts number (wants_in facts number) (constructor_in facts.program number) found

-- for each name, the number of the declaration that has the members of its class
abbrev pub body_numbers : List Declared → List (Option ℕ)
body_numbers names = map (number_with_body names) names
