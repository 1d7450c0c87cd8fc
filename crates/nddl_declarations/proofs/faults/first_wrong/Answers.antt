use Rattle.nddl_hierarchy.specs.Facts.{facts_of}
use Rattle.nddl_declarations.proofs.Telling.{all_step}
use Rattle.nddl_declarations.proofs.faults.first_wrong.Goals as goal

pub returns : goal.returns
returns c =
    all_step (facts_of c.args.basis.now) c.note_second_names.new.first c.note_circles.new.first c.note_decls.new.first
    c.note_second_names.ensures c.note_circles.ensures c.in_ok-note_decls.ensures
