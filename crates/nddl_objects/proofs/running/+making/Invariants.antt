-- The levels that are left fall, or what is run is a part of what was run.
use Rattle.std.proofs.Common.{◌≡◌, ◌*◌, ◌+◌, drop}
use Rattle.nddl_construction.specs.Scene.{scenery_of}
use Rattle.nddl_objects.specs.Blueprints.{grounds_in}
use Rattle.nddl_objects.specs.Construction.{construction_of, subject_of}
use Rattle.nddl_objects.specs.Made.{classes_run, made_by, parts_run}
use Rattle.nddl_objects.proofs.running.+making.Given as goal

abbrev pub decreases-make_new : goal.decreases-make_new
decreases-make_new l = 11 * l.levels + 2

abbrev pub decreases-make_class : goal.decreases-make_class
decreases-make_class l = 11 * l.levels + 1

abbrev pub decreases-make : goal.decreases-make
decreases-make l = 11 * l.levels

abbrev pub decreases-run_object : goal.decreases-run_object
decreases-run_object l = 11 * l.levels + 10

abbrev pub decreases-run_classes : goal.decreases-run_classes
decreases-run_classes l = 11 * l.levels + 9

abbrev pub decreases-run_class : goal.decreases-run_class
decreases-run_class l = 11 * l.levels + 8

abbrev pub decreases-run_body : goal.decreases-run_body
decreases-run_body l = 11 * l.levels + 7

abbrev pub decreases-run_parts : goal.decreases-run_parts
decreases-run_parts l = 11 * l.levels + 6

abbrev pub decreases-run_part : goal.decreases-run_part
decreases-run_part l = 11 * l.levels + 5

abbrev pub decreases-set_init : goal.decreases-set_init
decreases-set_init l = 11 * l.levels + 4

abbrev pub decreases-set_new : goal.decreases-set_new
decreases-set_new l = 11 * l.levels + 3

-- what comes of the classes that are left from here comes of all from the start
abbrev pub invariant-run_classes-loop-passed : goal.invariant-run_classes-loop-passed
invariant-run_classes-loop-passed l =
    classes_run (made_by l.levels (grounds_in l.blueprint)) l.levels (grounds_in l.blueprint) (subject_of l.subject)
    (drop l.passed-index l.classes) (construction_of l.making)
    ≡ classes_run (made_by l.levels (grounds_in l.blueprint)) l.levels (grounds_in l.blueprint) (subject_of l.subject)
    l.classes (construction_of l.fn.making)

-- what comes of the parts that are left from here comes of all from the start
abbrev pub invariant-run_parts-loop-part : goal.invariant-run_parts-loop-part
invariant-run_parts-loop-part l =
    parts_run (made_by l.levels (grounds_in l.blueprint)) l.levels (grounds_in l.blueprint) (scenery_of l.frame.scene)
    (subject_of l.frame.subject) l.frame.entry (drop l.part-index l.parts) (construction_of l.making)
    ≡ parts_run (made_by l.levels (grounds_in l.blueprint)) l.levels (grounds_in l.blueprint) (scenery_of l.frame.scene)
    (subject_of l.frame.subject) l.frame.entry l.parts (construction_of l.fn.making)
