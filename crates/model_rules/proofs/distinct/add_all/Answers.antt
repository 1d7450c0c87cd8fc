use Rattle.std.proofs.Common.{Contains, ◌∙◌, subst}
use Rattle.model_rules.specs.Distinct.{AddsNew}
use Rattle.std.proofs.Common.{true}
use Rattle.model_rules.proofs.Adding.{adds_true, adds_false, added_more, added_twice}
use Rattle.model_rules.proofs.distinct.add_all.Goals as goal

pub returns-then-not-branch : goal.returns-then-not-branch
returns-then-not-branch g c =
    added_twice g.T.Named.named c.args.names.now c.args.items.now c.loop-item.item-index c.item-item.result c.loop-item.names c.loop-item-test.true c.item-item.is c.loop-item.invariant
    (subst (Contains c.loop-item.names) (c.in_ok-name.ensures ∙ c.name.ensures)
    (adds_false c.loop-item.names c.add.new.self c.in_ok-name.name c.in_ok-add.field-0 c.if-not-branch.true c.in_ok-add.ensures))

pub loop-item-preserved : goal.loop-item-preserved
loop-item-preserved g c =
    added_more g.T.Named.named c.args.names.now c.args.items.now c.loop-item.item-index c.item-item.result c.loop-item.names c.add.new.self c.loop-item-test.true c.item-item.is c.loop-item.invariant
    (subst (λ key. AddsNew c.loop-item.names key true c.add.new.self) (c.in_ok-name.ensures ∙ c.name.ensures)
    (adds_true c.loop-item.names c.add.new.self c.in_ok-name.name c.in_ok-add.field-0 c.if-not-branch.false c.in_ok-add.ensures))
