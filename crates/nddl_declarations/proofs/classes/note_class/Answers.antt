use Rattle.nddl_hierarchy.specs.Facts.{facts_of}
use Rattle.nddl_declarations.proofs.Steps.{class_step}
use Rattle.nddl_declarations.proofs.classes.note_class.Goals as goal

pub returns : goal.returns
returns c =
    class_step (facts_of c.args.basis.now) c.args.decl c.args.class.now c.args.parent.now c.args.members.now c.args.first.now
    c.note_parent.new.first c.note_own_names.new.first c.note_members.new.first c.note_constructors.new.first
    c.note_parent.ensures c.in_ok-note_own_names.ensures c.in_ok-note_members.ensures c.note_constructors.ensures
