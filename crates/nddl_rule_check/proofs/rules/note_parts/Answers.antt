use Rattle.std.specs.List.{flat_map}
use Rattle.nddl_symbols.specs.Finding.{earliest_fault}
use Rattle.nddl_hierarchy.specs.Facts.{facts_of}
use Rattle.nddl_declarations.proofs.Steps.{flat_step}
use Rattle.nddl_rule_check.specs.Rules.{part_rule_faults}
use Rattle.nddl_rule_check.proofs.rules.note_parts.Goals as goal

pub loop-part-preserved : goal.loop-part-preserved
loop-part-preserved c =
    let facts = facts_of c.args.spot.now.basis in
    let decl = c.args.spot.now.decl in
    flat_step (part_rule_faults facts decl c.args.visible.now) c.args.parts.now c.loop-part.part-index
    c.part-item.result c.loop-part.first c.note_part.new.first
    (earliest_fault c.args.first.now
    (flat_map (part_rule_faults facts decl c.args.visible.now) c.args.parts.now))
    c.loop-part-test.true c.part-item.is c.in_ok-note_part.ensures c.loop-part.invariant
