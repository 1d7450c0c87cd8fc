use Rattle.model_core.proofs.Leading.{token_on, on_once}
use Rattle.plan_text.proofs.names.pred_of.Goals as goal

pub unreachable-requires : goal.unreachable-requires
unreachable-requires c =
    let slot = c.requires.0 in
    c.in-None.ensures slot.pred
    (token_on c.args.model.now c.args.token.now slot c.as_slice.result.now c.index-as_slice-token.result c.as_slice-2.result.now c.requires.1 c.as_slice.ensures c.index-as_slice-token.is c.as_slice-2.ensures)

pub returns : goal.returns
returns c = λ slot has.
    let on = token_on c.args.model.now c.args.token.now slot c.as_slice.result.now c.index-as_slice-token.result c.as_slice-2.result.now has c.as_slice.ensures c.index-as_slice-token.is c.as_slice-2.ensures in
    on_once c.args.model.now c.index-as_slice-token.result.pred slot.pred c.in-Some.pred c.as_slice-2.result.now on c.in-Some.ensures
