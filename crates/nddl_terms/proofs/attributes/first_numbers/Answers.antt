use Rattle.nddl_symbols.proofs.Firsts.{firsts_step, firsts_whole, notes_name}
use Rattle.nddl_terms.specs.Attributes.{is_attribute_named}
use Rattle.nddl_terms.proofs.attributes.first_numbers.Goals as goal

pub loop-number-preserved : goal.loop-number-preserved
loop-number-preserved c =
    firsts_step is_attribute_named c.args.attributes.now c.loop-number.number c.index-attributes-number.result c.loop-number.numbers
    c.note.new.self c.loop-number-test.true c.index-attributes-number.is
    (notes_name (λ attribute. attribute.name) c.loop-number.number c.index-attributes-number.result c.loop-number.numbers c.note.new.self
    c.in_ok-note.ensures.noted)
    c.loop-number.invariant

pub returns : goal.returns
returns c =
    firsts_whole is_attribute_named c.args.attributes.now c.loop-number.number c.loop-number.numbers c.loop-number-test.false
    c.loop-number.invariant
