use Rattle.nddl_ast.specs.declared.declaration.Typed.{Typed}
use Rattle.nddl_symbols.proofs.Firsts.{firsts_step, firsts_whole, notes_name}
use Rattle.nddl_constructors.proofs.Numbering.{is_typed_named}
use Rattle.nddl_constructors.proofs.formals.first_numbers.Goals as goal

pub loop-number-preserved : goal.loop-number-preserved
loop-number-preserved c =
    firsts_step is_typed_named c.args.formals.now c.loop-number.number c.index-formals-number.result c.loop-number.numbers
    c.note.new.self c.loop-number-test.true c.index-formals-number.is
    (notes_name (λ (typed : Typed). typed.name.text) c.loop-number.number c.index-formals-number.result c.loop-number.numbers
    c.note.new.self c.in_ok-note.ensures.noted)
    c.loop-number.invariant

pub returns : goal.returns
returns c =
    firsts_whole is_typed_named c.args.formals.now c.loop-number.number c.loop-number.numbers c.loop-number-test.false
    c.loop-number.invariant
