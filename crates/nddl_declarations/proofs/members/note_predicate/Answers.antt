use Rattle.nddl_hierarchy.specs.Facts.{facts_of}
use Rattle.nddl_declarations.proofs.Steps.{predicate_step}
use Rattle.nddl_declarations.proofs.members.note_predicate.Goals as goal

pub returns : goal.returns
returns c =
    predicate_step (facts_of c.args.basis.now) c.args.decl c.args.name.now c.args.parameters.now c.args.first.now
    c.note_typed.new.first c.note_names.new.first c.note_at.new.first c.in_ok-noted.noted c.kind_if.result
    c.in_ok-note_typed.ensures c.in_ok-noted.ensures c.in_ok-note_names.ensures c.kind_if.ensures c.note_at.ensures
