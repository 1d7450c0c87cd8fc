-- What objects are made by.
use Rattle.nddl_construction.specs.Scene.{Grounds, grounds_of}
use Rattle.nddl_objects.specs.declared.blueprint.Blueprint.{Blueprint}

-- what is known of a program, and what its names stand for by now
abbrev pub grounds_in : Blueprint → Grounds
grounds_in blueprint = grounds_of blueprint.footing
