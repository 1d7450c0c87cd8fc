-- Values of fields that lie outside of their types.
use Rattle.std.specs.Prelude.{ℕ, Bool, false, List, Option, Some, None}
use Rattle.std.specs.Option.{option_map_or}
use Rattle.nddl_typeexpr.specs.declared.kind.TypeMeaning.{TypeMeaning}
use Rattle.eu_forest.specs.Ancestors.{ancestry}
use Rattle.nddl_resolve.specs.Fields.{field_along}
use Rattle.nddl_construction.specs.declared.made.Datum.{Datum}
use Rattle.nddl_construction.specs.declared.made.MadeObject.{MadeObject}
use Rattle.nddl_construction.specs.Fitting.{is_outside_meaning, is_outside_type}
use Rattle.nddl_construction.specs.Scene.{Grounds}

-- the value lies outside of the type of the field of this name that one of the classes of the line declares
abbrev pub is_outside_along : Grounds → List MadeObject → List ℕ → Option Datum → List ℕ → Bool
is_outside_along grounds objects name datum line =
    option_map_or (λ typed. is_outside_type grounds objects typed.declared datum)
    (field_along grounds.facts.names grounds.facts.program name line) false

-- the value of the field of this name, which a constructor of the class of this number sets, lies outside of its type
abbrev pub is_outside_field : Grounds → List MadeObject → ℕ → List ℕ → Option Datum → Bool
is_outside_field grounds objects entry name datum =
    is_outside_along grounds objects name datum (ancestry grounds.facts.parents entry)

-- the value lies outside of what a type means, if it means anything
abbrev pub is_outside_known : Grounds → List MadeObject → Option TypeMeaning → Option Datum → Bool
is_outside_known grounds objects meaning None = false
is_outside_known grounds objects meaning (Some datum) = option_map_or (is_outside_meaning grounds objects datum) meaning false
