use Rattle.std.proofs.Common.{Option, sym, subst, codes}
use Rattle.model_core.specs.declared.variable.ValueKind.{ValueKind}
use Rattle.session_replies.specs.Lines.{IsArgumentText}
use Rattle.session_replies.specs.Writable.{IsArgumentWritable}
use Rattle.session_replies.specs.Written.{WritesBehind}
use Rattle.session_replies.proofs.Arguing.{writable_lawful, writable_at, no_argument, argument_more, all_arguments}
use Rattle.session_replies.proofs.decisions.put_arguments.Goals as goal

pub kind_among-among-requires : goal.kind_among-among-requires
kind_among-among-requires c = writable_lawful c.args.model.now c.args.kind c.args.arguments.now c.requires.lawful c.requires.writable

pub loop-place-init : goal.loop-place-init
loop-place-init c = no_argument c.args.model.now c.args.kind c.kind_among-among.result c.args.arguments.now c.args.out.now.items

pub put_argument-requires-clause-writable : goal.put_argument-requires-clause-writable
put_argument-requires-clause-writable c =
    subst (λ (kind : Option ValueKind). IsArgumentWritable c.args.model.now kind c.index-arguments-place.result) (sym c.kind_at.ensures)
    (writable_at c.args.model.now c.args.kind c.args.arguments.now c.kind_among-among.result c.loop-place.place c.index-arguments-place.result c.requires.writable c.kind_among-among.ensures c.loop-place-test.true
    c.index-arguments-place.is)

pub loop-place-preserved : goal.loop-place-preserved
loop-place-preserved c =
    argument_more c.args.model.now c.args.kind c.kind_among-among.result c.args.arguments.now c.loop-place.place c.index-arguments-place.result c.args.out.now.items c.loop-place.out.items c.put_argument.new.out.items
    c.loop-place-test.true c.index-arguments-place.is
    (subst (λ (kind : Option ValueKind). WritesBehind (codes " ") (IsArgumentText c.args.model.now kind c.index-arguments-place.result) c.loop-place.out.items c.put_argument.new.out.items) c.kind_at.ensures
    c.in_ok-put_argument.ensures) c.loop-place.invariant

pub returns : goal.returns
returns c =
    (c.kind_among-among.result, (c.kind_among-among.ensures, all_arguments c.args.model.now c.args.kind c.kind_among-among.result c.args.arguments.now c.loop-place.place c.args.out.now.items c.loop-place.out.items c.loop-place-test.false c.loop-place.invariant))
