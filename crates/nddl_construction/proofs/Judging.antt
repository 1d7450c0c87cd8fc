-- Values of fields by what their types mean.
use Rattle.std.proofs.Common.{◌≡◌, ℕ, suc, ◌+◌, ◌<◌, Bool, false, List, Option, Some, None, length, drop, get_or, drop-cons, add-one, refl, sym, ap, ◌∙◌}
use Rattle.std.specs.Prelude.{Result, Ok, Err, IfOk}
use Rattle.std.specs.List.{filter_map}
use Rattle.std.specs.Option.{option_map, option_map_or, option_or}
use Rattle.nddl_ast.specs.declared.declaration.Typed.{Typed}
use Rattle.nddl_ast.specs.declared.expression.Type as types
use Rattle.nddl_typeexpr.specs.Types.{type_meaning}
use Rattle.nddl_hierarchy.specs.Decls.{members_of}
use Rattle.nddl_hierarchy.specs.Members.{member_field, named_typed}
use Rattle.nddl_hierarchy.specs.Shorter.{AddTheSame}
use Rattle.nddl_resolve.specs.Fields.{field_along}
use Rattle.nddl_resolve.proofs.Adding.{field_same}
use Rattle.nddl_construction.specs.declared.made.Datum.{Datum}
use Rattle.nddl_construction.specs.declared.made.MadeObject.{MadeObject}
use Rattle.nddl_construction.specs.Fitting.{is_outside_type}
use Rattle.nddl_construction.specs.Scene.{Grounds}
use Rattle.nddl_construction.specs.Outside.{is_outside_along, is_outside_known}

-- a value lies outside of a type where it lies outside of what it means
pub type_known : (grounds : Grounds) (objects : List MadeObject) (type : types.Type) (value : Option Datum)
    → is_outside_known grounds objects (type_meaning grounds.facts.names grounds.facts.known type) value
    ≡ is_outside_type grounds objects type value
type_known grounds objects type None = refl
type_known grounds objects type (Some datum) = refl

-- what is said of the first that is found is said of all
first_found : (test : Typed → Bool) (here rest : Option Typed) (outside : Bool)
    → Some outside ≡ option_map test here → outside ≡ option_map_or test (option_or here rest) false
first_found test None rest outside is = absurd cc
first_found test (Some typed) rest outside is = cc

-- and where there is none here, of those that are left
none_found : (test : Typed → Bool) (here rest : Option Typed) → None ≡ option_map test here
    → option_map_or test rest false ≡ option_map_or test (option_or here rest) false
none_found test None rest is = refl
none_found test (Some typed) rest is = absurd cc

-- the field of this name that the class of this number declares itself
abbrev pub own_typed : Grounds → List ℕ → ℕ → Option Typed
own_typed grounds name entry =
    named_typed name (filter_map member_field (members_of grounds.facts.names grounds.facts.program entry))

-- where the class at this place of a line declares the field, that is the one
pub declared_here : (grounds : Grounds) (objects : List MadeObject) (name : List ℕ) (value : Option Datum) (line : List ℕ) (index : ℕ)
    (outside : Bool) → index < length line
    → Some outside ≡ option_map (λ typed. is_outside_type grounds objects typed.declared value) (own_typed grounds name (get_or line index 0))
    → is_outside_along grounds objects name value (drop index line) ≡ is_outside_along grounds objects name value line
    → outside ≡ is_outside_along grounds objects name value line
declared_here grounds objects name value line index outside below found all =
    first_found (λ typed. is_outside_type grounds objects typed.declared value) (own_typed grounds name (get_or line index 0))
    (field_along grounds.facts.names grounds.facts.program name (drop (suc index) line)) outside found
    ∙ (ap (is_outside_along grounds objects name value) (sym (drop-cons line index 0 below)) ∙ all)

-- and else it is one of those behind it
pub declared_behind : (grounds : Grounds) (objects : List MadeObject) (name : List ℕ) (value : Option Datum) (line : List ℕ) (index : ℕ)
    → index < length line
    → None ≡ option_map (λ typed. is_outside_type grounds objects typed.declared value) (own_typed grounds name (get_or line index 0))
    → is_outside_along grounds objects name value (drop index line) ≡ is_outside_along grounds objects name value line
    → is_outside_along grounds objects name value (drop (index + 1) line) ≡ is_outside_along grounds objects name value line
declared_behind grounds objects name value line index below none all =
    ap (λ n. is_outside_along grounds objects name value (drop n line)) (add-one index)
    ∙ (none_found (λ typed. is_outside_type grounds objects typed.declared value) (own_typed grounds name (get_or line index 0))
    (field_along grounds.facts.names grounds.facts.program name (drop (suc index) line)) none
    ∙ (ap (is_outside_along grounds objects name value) (sym (drop-cons line index 0 below)) ∙ all))

-- what is said along a line that lacks classes that add no members is said along the whole one
pub along_same : {E : Type 0} (grounds : Grounds) (objects : List MadeObject) (name : List ℕ) (value : Option Datum) (short read whole : List ℕ)
    (result : Result Bool E) → read ≡ short → AddTheSame grounds.facts.names grounds.facts.program short whole
    → IfOk result (λ outside. outside ≡ is_outside_along grounds objects name value read)
    → IfOk result (λ outside. outside ≡ is_outside_along grounds objects name value whole)
along_same grounds objects name value short read whole (Err fault) is same told = tt
along_same grounds objects name value short read whole (Ok outside) is same told =
    told
    ∙ (ap (is_outside_along grounds objects name value) is
    ∙ ap (λ field. option_map_or (λ typed. is_outside_type grounds objects typed.declared value) field false)
    (field_same grounds.facts.names grounds.facts.program name short whole same))
