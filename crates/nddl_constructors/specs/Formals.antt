-- The formals of constructors, and what stands around in their bodies.
use Rattle.std.specs.Prelude.{ℕ, Bool, true, List, [], Option, None}
use Rattle.std.specs.List.{position_from}
use Rattle.std.specs.Str.{bytes_eq}
use Rattle.nddl_ast.specs.declared.declaration.Typed.{Typed}
use Rattle.eu_index.specs.Index.{HasFirsts, Noted}
use Rattle.nddl_hierarchy.specs.Facts.{Facts}
use Rattle.nddl_resolve.specs.declared.denoted.Seen.{Seen}
use Rattle.nddl_resolve.specs.Fields.{type_value}
use Rattle.nddl_resolve.specs.Paths.{Surroundings}

-- a formal is a constant of its type
abbrev pub formal_seen : Facts → Typed → Seen
formal_seen facts typed =
    record { name = typed.name.text; denoted = type_value facts.names facts.known true typed.declared }

-- these formals stand around, and nothing else
abbrev pub around_formals : List Seen → Surroundings
around_formals formals = record { formals = formals; turns = []; locals = []; labels = []; token = None }

-- ---- numbers

-- the number of the formal of this name
abbrev pub formal_number : List Seen → List ℕ → Option ℕ
formal_number formals name = position_from (λ formal. bytes_eq name formal.name) 0 formals

-- the same, as they are written
abbrev pub typed_number : List Typed → List ℕ → Option ℕ
typed_number formals name = position_from (λ typed. bytes_eq name typed.name.text) 0 formals

abbrev pub is_formal_named : List ℕ → Seen → Bool
is_formal_named name formal = bytes_eq name formal.name

-- the index has the number of each formal
abbrev pub AreNumbered : List Seen → Noted → Type 0
AreNumbered = HasFirsts is_formal_named
