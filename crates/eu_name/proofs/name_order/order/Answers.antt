use Rattle.eu_name.specs.NameOrder.{IsTokenBefore}
use Rattle.eu_name.proofs.Orders.{Exactly, token_compared}
use Rattle.eu_name.proofs.name_order.order.Goals as goal

exactly : (c : goal.After-then-2) → Exactly IsTokenBefore c.args.a.now c.args.b.now c.then-2.result
exactly c =
    token_compared c.args.a.now c.args.b.now _ _ _ _ _ _ _ _ _ c.len.ensures c.len-2.ensures c.as_slice.ensures c.as_slice-2.ensures
    c.cmp-by_count.ensures c.cmp-by_root.ensures c.cmp-by_step.ensures c.then.ensures c.then-2.ensures

pub returns-clause-less : goal.returns-clause-less
returns-clause-less c = (exactly c).less

pub returns-clause-equal : goal.returns-clause-equal
returns-clause-equal c = (exactly c).equal

pub returns-clause-greater : goal.returns-clause-greater
returns-clause-greater c = (exactly c).greater
