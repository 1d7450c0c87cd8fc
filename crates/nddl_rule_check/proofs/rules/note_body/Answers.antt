use Rattle.std.proofs.Common.{◌≡◌, OnOk, subst}
use Rattle.std.specs.List.{flat_map}
use Rattle.nddl_symbols.specs.Finding.{earliest_fault}
use Rattle.nddl_hierarchy.specs.Facts.{facts_of}
use Rattle.nddl_resolve.specs.Paths.{Surroundings}
use Rattle.nddl_rule_check.specs.Rules.{part_rule_faults}
use Rattle.nddl_rule_check.proofs.rules.note_body.Goals as goal

pub returns : goal.returns
returns c =
    let facts = facts_of c.args.spot.now.basis in
    let decl = c.args.spot.now.decl in
    let Tells : Surroundings → Type 0 = λ around.
    OnOk c.note_parts.result (c.note_parts.new.first ≡ earliest_fault c.args.first.now
    (flat_map (part_rule_faults facts decl around) c.args.parts.now)) in
    subst Tells c.new-visible.ensures c.note_parts.ensures
