-- That each field of each object is set to something, and what follows: resources and the horizon of a search are as they should
-- be, and all that is read in rules means something.
use Rattle.std.specs.Prelude.{◌≡◌, ℕ, true, List, Some, All}
use Rattle.model_core.specs.Lawful.{IsHorizon, IsLawfulKind}
use Rattle.nddl_hierarchy.specs.Facts.{Facts}
use Rattle.nddl_resolve.specs.declared.denoted.Denoted.{Denoted}
use Rattle.nddl_resolve.specs.Fields.{class_field}
use Rattle.nddl_construction.specs.declared.made.Datum.{Datum}
use Rattle.nddl_construction.specs.declared.made.MadeObject.{MadeObject}
use Rattle.nddl_construction.specs.Fields.{field_datum}
use Rattle.nddl_problem.specs.Compiled.{compiled_model}
use Rattle.nddl_problem.specs.Known.{Known, objects_known, progress_known, world_known}
use Rattle.nddl_rule_laws.specs.Meanings.{AreFaultless}
use Rattle.nddl_name_laws.specs.Named.{AreWhole}
use Rattle.nddl_model_laws.specs.Faultless.{IsFaultless}

-- the object is set to something in each field of its class
abbrev pub HasAll : Facts → MadeObject → Type 0
HasAll facts object =
    (name : List ℕ) (value : Denoted) → class_field facts true name object.class ≡ Some value
    → (datum : Datum) × (field_datum name object.fields ≡ Some datum)

-- so is each object that is made
abbrev pub ObjectsAreSet : Type 0
ObjectsAreSet = (known : Known) → IsFaultless known → All (HasAll known.facts) (progress_known known).so_far.objects

-- the numbers of resources keep their bounds
abbrev pub ResourcesKeepBounds : Type 0
ResourcesKeepBounds = (known : Known) → IsFaultless known → All (λ object. IsLawfulKind object.kind) (compiled_model known).objects

-- a search has a horizon and a number of steps as it may have them
abbrev pub HorizonsAreRight : Type 0
HorizonsAreRight = (known : Known) → IsFaultless known → IsHorizon (compiled_model known).problem

-- each object has something in each of its fields, in one of objects one of the field's class
abbrev pub ObjectsAreWhole : Type 0
ObjectsAreWhole = (known : Known) → IsFaultless known → AreWhole (world_known known) (objects_known known)

-- so the files are faultless with these objects: what is read in their trees means something, and what is counted of them is
-- what their rules have
abbrev pub FilesAreFaultless : Type 0
FilesAreFaultless =
    (known : Known) → IsFaultless known
    → AreFaultless known.files known.table known.trees (world_known known) (objects_known known)
