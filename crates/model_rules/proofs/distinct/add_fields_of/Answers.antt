use Rattle.std.proofs.Common.{ℕ, List, subst}
use Rattle.model_rules.specs.Distinct.{AddsNew, field_key}
use Rattle.model_rules.proofs.Fielding.{came_all, came_more, none_more}
use Rattle.model_rules.proofs.distinct.add_fields_of.Goals as goal

pub loop-field-init : goal.loop-field-init
loop-field-init c = none_more c.args.names.now c.requires

pub loop-field-preserved : goal.loop-field-preserved
loop-field-preserved c =
    came_more (field_key c.args.class) c.args.names.now c.args.fields.now c.loop-field.field-index c.field-item.result c.loop-field.names c.add.new.self c.in_ok-_is_new._is_new
    c.loop-field-test.true c.field-item.is c.loop-field.invariant
    (subst (λ (name : List ℕ). AddsNew c.loop-field.names (c.args.class, name) c.in_ok-_is_new._is_new c.add.new.self) c.in_ok-name.ensures c.in_ok-_is_new.ensures)

pub returns : goal.returns
returns c = came_all (field_key c.args.class) c.args.names.now c.args.fields.now c.loop-field.field-index c.loop-field.names c.loop-field-test.false c.loop-field.invariant
