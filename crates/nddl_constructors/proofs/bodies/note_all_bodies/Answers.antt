use Rattle.nddl_symbols.specs.Finding.{earliest_fault}
use Rattle.nddl_hierarchy.specs.Facts.{facts_of}
use Rattle.nddl_declarations.proofs.Steps.{flat_step}
use Rattle.nddl_constructors.specs.Bodies.{bodies_faults, body_faults}
use Rattle.nddl_constructors.proofs.bodies.note_all_bodies.Goals as goal

pub loop-member-preserved : goal.loop-member-preserved
loop-member-preserved c =
    flat_step (body_faults (facts_of c.args.basis.now) c.args.decl c.args.entry) c.args.members.now c.loop-member.member-index
    c.member-item.result c.loop-member.first c.note_body.new.first
    (earliest_fault c.args.first.now (bodies_faults (facts_of c.args.basis.now) c.args.decl c.args.entry c.args.members.now))
    c.loop-member-test.true c.member-item.is c.in_ok-note_body.ensures c.loop-member.invariant
