-- What is known where the value of a field or of an argument is read.
use Rattle.std.specs.Prelude.{ℕ, List, Option}
use Rattle.nddl_hierarchy.specs.Facts.{Facts, facts_of}
use Rattle.nddl_resolve.specs.declared.denoted.Seen.{Seen}
use Rattle.nddl_resolve.specs.Seen.{seen_in}
use Rattle.nddl_construction.specs.declared.made.Datum.{Datum}
use Rattle.nddl_construction.specs.declared.made.Ground as ground_code
use Rattle.nddl_construction.specs.declared.made.Scene as scene_code
use Rattle.nddl_construction.specs.declared.made.NamedObject.{NamedObject}

-- the facts of a program, and the objects of its names by now
pub record Grounds : Type 0 where
  pub facts : Facts
  pub named_objects : List NamedObject

abbrev pub grounds_of : ground_code.Ground → Grounds
grounds_of footing = record { facts = facts_of footing.basis; named_objects = footing.named_objects.now }

-- the declaration in which it is written, the formals that stand around, and their values
pub record Scenery : Type 0 where
  pub decl : ℕ
  pub formals : List Seen
  pub values : List (Option Datum)

abbrev pub scenery_of : scene_code.Scene → Scenery
scenery_of scene = record { decl = scene.decl; formals = seen_in scene.formals; values = scene.values.now }
