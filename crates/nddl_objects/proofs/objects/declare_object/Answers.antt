use Rattle.nddl_hierarchy.specs.Facts.{facts_of}
use Rattle.nddl_objects.specs.Construction.{construction_of}
use Rattle.nddl_objects.specs.Objects.{progress_of}
use Rattle.nddl_objects.proofs.Placing.{object_placed}
use Rattle.nddl_objects.proofs.objects.declare_object.Goals as goal

pub returns : goal.returns
returns c =
    object_placed (facts_of c.args.findings.now.basis) c.args.decl c.args.variable.now c.args.creation.now
    (progress_of c.args.program.now) (construction_of c.make_declared.new.making) c.name_object.new.named_objects.items
    c.as_slice.result.now c.entry-entry.result c.in_ok-datum.datum c.as_slice.ensures.value c.in_ok-datum.ensures.made
    c.entry-entry.ensures.number c.in_ok-datum.ensures.datum c.name_object.ensures
