-- The objects of classes and of written sets, as what variables may be.
use Rattle.std.specs.Prelude.{ℕ, ◌+◌, ℤ, pos, negsuc, List, [], ◌∷◌, ◌++◌, Option, Some, None, map}
use Rattle.std.specs.Prelude.{slice_get, if◌then◌else◌}
use Rattle.std.specs.List.{filter_map}
use Rattle.model_core.specs.declared.variable.Base.{Base}
use Rattle.nddl_symbols.specs.declared.scope.Meaning.{Meaning}
use Rattle.nddl_typeexpr.specs.declared.kind.Extent.{Extent}
use Rattle.nddl_typeexpr.specs.declared.kind.Extent.TheVariants as extents
use Rattle.nddl_hierarchy.specs.Facts.{Facts}
use Rattle.nddl_constructors.specs.Creations.{is_of_class}
use Rattle.nddl_construction.specs.declared.made.Datum.TheVariants as datums
use Rattle.nddl_construction.specs.declared.made.MadeObject.{MadeObject}
use Rattle.nddl_construction.specs.declared.made.NamedObject.{NamedObject}
use Rattle.nddl_construction.specs.declared.made.NamedObject.TheVariants as named
use Rattle.nddl_declarations.specs.Domains.{numbers_base}

-- the numbers of those objects that are of the class or of one under it, of which the first has this number
abbrev pub objects_of : Facts → Meaning → ℕ → List MadeObject → List ℕ
objects_of facts class number [] = []
objects_of facts class number (object ∷ more) =
    (if is_of_class facts class object.class then number ∷ [] else []) ++ objects_of facts class (number + 1) more

-- the object that a name of the files stands for
abbrev pub made_object : Option NamedObject → Option ℤ
made_object (Some (named.Made (Some (datums.Object number)))) = Some (pos number)
made_object named_object = None

-- the object whose name has this number in the scope
abbrev pub entry_object : List NamedObject → ℤ → Option ℤ
entry_object named_objects (pos entry) = made_object (slice_get named_objects entry)
entry_object named_objects (negsuc number) = None

-- what a variable of the class may be: the objects that are written out, or all
abbrev pub objects_base : Facts → List NamedObject → List MadeObject → Meaning → Extent → Base
objects_base facts named_objects objects class (extents.Set members) =
    numbers_base (filter_map (entry_object named_objects) members)
objects_base facts named_objects objects class extent = numbers_base (map pos (objects_of facts class 0 objects))
