-- What follows a name in a path.
use Rattle.std.specs.Prelude.{ℕ, Bool, List, [], ◌∷◌, Option, Some, Result, Ok, Err}
use Rattle.std.specs.Option.{option_map_or}
use Rattle.nddl_ast.specs.declared.kind.TextKind.TheVariants as faults
use Rattle.nddl_ast.specs.declared.name.Name.{Name}
use Rattle.nddl_ast.specs.declared.name.Path.{Path}
use Rattle.nddl_symbols.specs.declared.fault.Fault.{Fault}
use Rattle.nddl_symbols.specs.declared.scope.Meaning.{Meaning}
use Rattle.nddl_symbols.specs.Finding.{faults_here}
use Rattle.nddl_typeexpr.specs.declared.kind.TypeKind.{TypeKind}
use Rattle.nddl_typeexpr.specs.declared.kind.TypeKind.TheVariants as kinds
use Rattle.nddl_hierarchy.specs.Facts.{Facts}
use Rattle.nddl_resolve.specs.declared.denoted.Denoted.{Denoted}
use Rattle.nddl_resolve.specs.declared.denoted.Denoted.TheVariants as denoted
use Rattle.nddl_resolve.specs.declared.denoted.PathFault.{PathFault}
use Rattle.nddl_resolve.specs.declared.denoted.Predicate.{Predicate}
use Rattle.nddl_resolve.specs.Fields.{class_field}
use Rattle.nddl_resolve.specs.Predicates.{class_predicate, token_part}

-- what a path means so far, or what is wrong with it
abbrev pub Understood : Type 0
Understood = Result Denoted PathFault

-- what is wrong with what was to be understood in the declaration of this number
abbrev pub understood_faults : ℕ → Understood → List Fault
understood_faults decl (Ok meant) = []
understood_faults decl (Err fault) = faults_here decl fault.at (Some fault.kind)

-- a name that isn't there, at its own place
abbrev pub unknown_at : ℕ → Understood
unknown_at at = Err (record { kind = faults.Unknown; at = at })

-- a path of the wrong kind, at the place of its first name
abbrev pub wrong_at : ℕ → Understood
wrong_at first = Err (record { kind = faults.WrongType; at = first })

-- what was found under the name, if anything
abbrev pub found_at : Name → Option Denoted → Understood
found_at name found = option_map_or Ok found (unknown_at name.at)

-- what comes next, where nothing is wrong so far
abbrev pub found_next : (Denoted → Understood) → Understood → Understood
found_next next (Ok here) = next here
found_next next (Err fault) = Err fault

-- ---- parts of tokens, fields of objects

-- what the name means behind a value: a field of an object
abbrev pub value_field : Facts → ℕ → Bool → TypeKind → Name → Understood
value_field facts first constant (kinds.Object class) name = found_at name (class_field facts constant name.text class)
value_field facts first constant kind name = wrong_at first

-- what the name means behind what means this, in a path whose first name stands there
abbrev pub next_denoted : Facts → ℕ → Denoted → Name → Understood
next_denoted facts first (denoted.Value kind constant) name = value_field facts first constant kind name
next_denoted facts first (denoted.Token token) name = found_at name (token_part facts name.text token)
next_denoted facts first (denoted.Class class) name = wrong_at first
next_denoted facts first denoted.Faulty name = Ok denoted.Faulty

-- what the last of these names means
abbrev pub rest_denoted : Facts → ℕ → Denoted → List Name → Understood
rest_denoted facts first here [] = Ok here
rest_denoted facts first here (name ∷ more) =
    found_next (λ next. rest_denoted facts first next more) (next_denoted facts first here name)

-- ---- predicates of classes and objects

abbrev pub token_with : Meaning → Name → Option Predicate → Understood
token_with class name predicate =
    option_map_or (λ found. Ok (denoted.Token (record { class = class; predicate = found }))) predicate (unknown_at name.at)

-- a token of the predicate of this name of a class
abbrev pub named_token : Facts → Meaning → Name → Understood
named_token facts class name = token_with class name (class_predicate facts name.text class)

abbrev pub value_token : Facts → ℕ → TypeKind → Name → Understood
value_token facts first (kinds.Object class) name = named_token facts class name
value_token facts first kind name = wrong_at first

-- a token of the predicate of this name behind a class, or behind an object of a declared class
abbrev pub token_denoted : Facts → ℕ → Denoted → Name → Understood
token_denoted facts first (denoted.Value kind constant) name = value_token facts first kind name
token_denoted facts first (denoted.Token token) name = wrong_at first
token_denoted facts first (denoted.Class class) name = named_token facts class name
token_denoted facts first denoted.Faulty name = Ok denoted.Faulty

-- the token for which these names ask behind what means this: the last of them is a predicate
abbrev pub asked_names : Facts → ℕ → Denoted → Name → List Name → Understood
asked_names facts first here name [] = token_denoted facts first here name
asked_names facts first here name (next ∷ more) =
    found_next (λ further. asked_names facts first further next more) (next_denoted facts first here name)

-- the same; one name alone asks for no token
abbrev pub asked_rest : Facts → ℕ → Denoted → List Name → Understood
asked_rest facts first here [] = wrong_at first
asked_rest facts first here (name ∷ more) = asked_names facts first here name more

-- the token for which a path asks whose last name is a predicate, where its first name means this
abbrev pub asked_by : Facts → Denoted → Path → Understood
asked_by facts owner path = asked_rest facts path.first.at owner path.rest

-- ---- what others see

-- the same, if it is an object
abbrev pub object_alone : Denoted → Denoted
object_alone (denoted.Value (kinds.Object class) constant) = denoted.Value (kinds.Object class) constant
object_alone other = denoted.Faulty

-- what a path means for others, who say nothing of its faults
abbrev pub or_faulty : Understood → Denoted
or_faulty (Ok here) = here
or_faulty (Err fault) = denoted.Faulty
