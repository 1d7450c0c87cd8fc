-- Objects that are declared.
use Rattle.std.proofs.Common.{◌≡◌, ℕ, false, List, ◌∙◌, ap}
use Rattle.std.specs.Prelude.{Option, Result, Ok, Err, OnOk}
use Rattle.nddl_ast.specs.declared.expression.Creation.{Creation}
use Rattle.nddl_ast.specs.declared.statement.Variable.{Variable}
use Rattle.nddl_symbols.specs.Scope.{named_number}
use Rattle.nddl_hierarchy.specs.Facts.{Facts}
use Rattle.nddl_construction.specs.declared.made.Datum.{Datum}
use Rattle.nddl_construction.specs.declared.made.NamedObject.{NamedObject}
use Rattle.nddl_construction.specs.Scene.{Grounds, Scenery}
use Rattle.nddl_objects.specs.Construction.{Construction}
use Rattle.nddl_objects.specs.Made.{Makes, made_by, new_datum, new_made}
use Rattle.nddl_objects.specs.Objects.{Progress, bare_scene, most_levels, object_declared, with_named}

-- a `new` in this scene, for the name of this number
pub placed : {X E : Type 0} (makes : Makes) (grounds : Grounds) (scene one : Scenery) (name : List ℕ) (entry other : Option ℕ)
    (creation : Creation) (old new : Construction) (result : Result X E)
    → scene ≡ one → entry ≡ other → OnOk result (new ≡ new_made makes grounds scene name entry creation old)
    → OnOk result (new ≡ new_made makes grounds one name other creation old)
placed makes grounds scene one name entry other creation old new (Err e) is_scene is_entry made = tt
placed makes grounds scene one name entry other creation old new (Ok done) is_scene is_entry made =
    made
    ∙ (ap (λ s. new_made makes grounds s name entry creation old) is_scene
    ∙ ap (λ e. new_made makes grounds one name e creation old) is_entry)

-- the object is made, and then its name stands for it
pub object_placed : (facts : Facts) (decl : ℕ) (variable : Variable) (creation : Creation) (progress : Progress)
    (so_far : Construction) (named_objects slice : List NamedObject) (entry : Option ℕ) (datum : Option Datum)
    → slice ≡ progress.named_objects
    → so_far ≡ new_made (made_by most_levels (record { facts = facts; named_objects = slice }))
    (record { facts = facts; named_objects = slice }) (bare_scene decl) variable.name.text
    (named_number false facts.names variable.name.text) creation progress.so_far
    → entry ≡ named_number false facts.names variable.name.text
    → datum ≡ new_datum most_levels facts creation progress.so_far
    → named_objects ≡ with_named progress.named_objects entry datum
    → (record { so_far = so_far; first = progress.first; named_objects = named_objects; settings = progress.settings })
    ≡ object_declared facts decl variable creation progress
object_placed facts decl variable creation progress so_far named_objects slice entry datum is_slice made is_entry is_datum named =
    let joined : Construction → List NamedObject → Progress =
    λ c s. record { so_far = c; first = progress.first; named_objects = s; settings = progress.settings } in
    let number = named_number false facts.names variable.name.text in
    let over : List NamedObject → Grounds = λ s. record { facts = facts; named_objects = s } in
    let made_over : List NamedObject → Construction =
    λ s. new_made (made_by most_levels (over s)) (over s) (bare_scene decl) variable.name.text number creation progress.so_far in
    ap (λ c. joined c named_objects) (made ∙ ap made_over is_slice)
    ∙ ap (λ s. joined (made_over progress.named_objects) s)
    (named
    ∙ (ap (λ e. with_named progress.named_objects e datum) is_entry
    ∙ ap (λ d. with_named progress.named_objects number d) is_datum))
