use Rattle.std.proofs.Common.{List, map, subst}
use Rattle.model_core.specs.declared.variable.VarDecl.{VarDecl}
use Rattle.model_rules.specs.Distinct.{HasMore, field_key}
use Rattle.model_rules.proofs.Fielding.{all_fields, more_fields, no_fields}
use Rattle.model_rules.proofs.distinct.add_fields.Goals as goal

pub loop-number-init : goal.loop-number-init
loop-number-init c = no_fields c.args.names.now c.args.classes.now c.requires.empty

pub add_fields_of-requires : goal.add_fields_of-requires
add_fields_of-requires c = c.loop-number.invariant.apart

pub loop-number-preserved : goal.loop-number-preserved
loop-number-preserved c =
    more_fields c.args.classes.now c.loop-number.number c.index-classes-number.result c.loop-number.names c.add_fields_of.new.names c.loop-number-test.true c.index-classes-number.is c.loop-number.invariant
    (subst (λ (fields : List VarDecl). HasMore c.loop-number.names (map (field_key c.loop-number.number) fields) c.add_fields_of.new.names) c.as_slice.ensures c.in_ok-add_fields_of.ensures)

pub returns : goal.returns
returns c = all_fields c.args.classes.now c.loop-number.number c.loop-number.names c.loop-number-test.false c.loop-number.invariant
