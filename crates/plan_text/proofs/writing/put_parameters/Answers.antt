use Rattle.std.proofs.Common.{arith}
use Rattle.plan_text.proofs.Listing.{all_parts}
use Rattle.plan_text.proofs.Stepping.{zip_length, zip_kept, part_step}
use Rattle.plan_text.proofs.writing.put_parameters.Goals as goal

pub bounds-values-number : goal.bounds-values-number
bounds-values-number c = omega (arith, c.loop-number-test.true, zip_length c.args.model.now c.args.params.now c.args.values.now c.requires.values)

pub put_value-requires-clause-value : goal.put_value-requires-clause-value
put_value-requires-clause-value c =
    zip_kept c.args.model.now c.args.params.now c.args.values.now c.loop-number.number c.index-params-number.result c.requires.lawful c.requires.values c.loop-number-test.true c.index-params-number.is

pub loop-number-preserved : goal.loop-number-preserved
loop-number-preserved c =
    part_step c.args.model.now c.args.params.now c.args.values.now c.loop-number.number c.index-params-number.result c.as_bytes.result.now c.args.out.now.items c.loop-number.out.items c.put_word.new.out.items c.put_value.new.out.items
    c.requires.lawful c.requires.names c.requires.values c.loop-number-test.true c.index-params-number.is c.as_bytes.ensures c.in_ok-put_word.ensures c.in_ok-put_value.ensures c.loop-number.invariant

pub returns : goal.returns
returns c =
    all_parts c.args.model.now c.args.params.now c.args.values.now c.loop-number.number c.args.out.now.items c.loop-number.out.items c.loop-number-test.false
    (omega (arith, c.loop-number-test.false, zip_length c.args.model.now c.args.params.now c.args.values.now c.requires.values)) c.loop-number.invariant
