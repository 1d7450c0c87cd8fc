use Rattle.std.proofs.Common.{Bool, map, subst}
use Rattle.model_rules.specs.Distinct.{AddsAll}
use Rattle.model_rules.proofs.Adding.{flat_twice}
use Rattle.model_rules.proofs.distinct.add_members.Goals as goal

pub returns-then-not-branch : goal.returns-then-not-branch
returns-then-not-branch c =
    flat_twice (λ found. found.members) c.args.names.now c.loop-found.names c.args.enums.now c.loop-found.found-index c.found-item.result c.loop-found-test.true c.found-item.is c.loop-found.invariant.are
    (subst (λ (b : Bool). AddsAll c.loop-found.names (map (λ text. text) c.found-item.result.members) b c.add_all.new.names) c.if-not-branch.true
    (subst (λ list. AddsAll c.loop-found.names (map (λ text. text) list) c.in_ok-add_all.field-0 c.add_all.new.names) c.as_slice.ensures c.in_ok-add_all.ensures))
