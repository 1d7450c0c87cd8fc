use Rattle.std.specs.List.{flat_map}
use Rattle.nddl_symbols.specs.Finding.{earliest_fault}
use Rattle.nddl_hierarchy.specs.Facts.{facts_of}
use Rattle.nddl_declarations.specs.Members.{member_faults}
use Rattle.nddl_declarations.proofs.Steps.{flat_step}
use Rattle.nddl_declarations.proofs.members.note_members.Goals as goal

pub loop-member-preserved : goal.loop-member-preserved
loop-member-preserved c =
    flat_step (member_faults (facts_of c.args.basis.now) c.args.decl) c.args.members.now c.loop-member.member-index c.member-item.result
    c.loop-member.first c.note_member.new.first
    (earliest_fault c.args.first.now (flat_map (member_faults (facts_of c.args.basis.now) c.args.decl) c.args.members.now))
    c.loop-member-test.true c.member-item.is c.in_ok-note_member.ensures c.loop-member.invariant
