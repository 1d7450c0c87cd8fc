use Rattle.nddl_symbols.specs.Finding.{earliest_fault}
use Rattle.nddl_hierarchy.specs.Facts.{facts_of}
use Rattle.nddl_resolve.specs.Paths.{around_of}
use Rattle.nddl_declarations.proofs.Steps.{flat_step}
use Rattle.nddl_rule_check.specs.Types.{local_member_faults, local_members_faults}
use Rattle.nddl_rule_check.proofs.types.note_members.Goals as goal

pub loop-value-preserved : goal.loop-value-preserved
loop-value-preserved c =
    let facts = facts_of c.args.spot.now.basis in
    let around = around_of c.args.around.now in
    let decl = c.args.spot.now.decl in
    flat_step (local_member_faults facts around decl c.args.kind c.args.extent.now) c.args.values.now c.loop-value.value-index
    c.value-item.result c.loop-value.first c.note_member.new.first
    (earliest_fault c.args.first.now
    (local_members_faults facts around c.args.kind c.args.extent.now decl c.args.values.now))
    c.loop-value-test.true c.value-item.is c.in_ok-note_member.ensures c.loop-value.invariant
