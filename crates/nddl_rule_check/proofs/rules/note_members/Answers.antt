use Rattle.nddl_symbols.specs.Finding.{earliest_fault}
use Rattle.nddl_hierarchy.specs.Facts.{facts_of}
use Rattle.nddl_rule_check.specs.Rules.{members_rule_faults}
use Rattle.nddl_rule_check.proofs.Steps.{members_step}
use Rattle.nddl_rule_check.proofs.rules.note_members.Goals as goal

pub loop-place-preserved : goal.loop-place-preserved
loop-place-preserved c =
    let facts = facts_of c.args.spot.now.basis in
    let decl = c.args.spot.now.decl in
    members_step facts decl c.args.entry c.args.members.now c.loop-place.place c.index-members-place.result
    c.loop-place.first c.note_member.new.first
    (earliest_fault c.args.first.now (members_rule_faults facts decl c.args.entry 0 c.args.members.now))
    c.loop-place-test.true c.index-members-place.is c.in_ok-note_member.ensures c.loop-place.invariant
