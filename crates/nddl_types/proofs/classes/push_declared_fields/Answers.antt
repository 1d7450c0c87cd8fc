use Rattle.std.proofs.Common.{◌++◌}
use Rattle.nddl_hierarchy.specs.Facts.{facts_of}
use Rattle.nddl_types.specs.Classes.{declared_fields}
use Rattle.nddl_types.proofs.Splitting.{fields_step}
use Rattle.nddl_types.proofs.classes.push_declared_fields.Goals as goal

pub loop-member-preserved : goal.loop-member-preserved
loop-member-preserved c =
    let facts = facts_of c.args.sources.now.basis in
    let enums = c.args.sources.now.enums.now in
    fields_step facts enums c.args.members.now c.loop-member.member-index c.member-item.result c.loop-member.fields
    c.push_declared_field.new.fields (c.args.fields.now ++ declared_fields facts enums c.args.members.now)
    c.loop-member-test.true c.member-item.is c.in_ok-push_declared_field.ensures c.loop-member.invariant
