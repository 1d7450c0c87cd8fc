use Rattle.std.proofs.Common.{length, ap, arith}
use Rattle.eu_name.proofs.Members.{contains_from_get, get_below}
use Rattle.plan_defs.specs.Valid.{SuitsIfToken}
use Rattle.plan_values.proofs.Bisecting.{read_line}
use Rattle.plan_inventory.proofs.Sweeping.{one_more_line}
use Rattle.plan_inventory.proofs.tokens.unsuited_token.Goals as goal

pub suits_if_token-requires-clause-there : goal.suits_if_token-requires-clause-there
suits_if_token-requires-clause-there c =
    contains_from_get c.args.plan.now.lines c.loop-place.place c.line-item.result
    (read_line c.args.plan.now c.as_slice-line-items.result.now c.loop-place.place c.line-item.result c.as_slice-line-items.ensures c.loop-place-test.true c.line-item.is)

pub returns-then-not-suits_if_token : goal.returns-then-not-suits_if_token
returns-then-not-suits_if_token c = record {
  line = c.line-item.result;
  at = read_line c.args.plan.now c.as_slice-line-items.result.now c.loop-place.place c.line-item.result c.as_slice-line-items.ensures c.loop-place-test.true c.line-item.is;
  fails = c.if-not-suits_if_token.ensures;
  before = c.loop-place.invariant;
}

pub loop-place-preserved : goal.loop-place-preserved
loop-place-preserved c =
    one_more_line c.args.model.now c.args.plan.now (SuitsIfToken c.args.model.now c.args.plan.now) c.loop-place.place c.line-item.result
    (read_line c.args.plan.now c.as_slice-line-items.result.now c.loop-place.place c.line-item.result c.as_slice-line-items.ensures c.loop-place-test.true c.line-item.is)
    c.loop-place.invariant c.if-not-suits_if_token.ensures

pub returns : goal.returns
returns c = λ place line at.
    c.loop-place.invariant place line
    (omega (arith, get_below c.args.plan.now.lines place line at, c.loop-place-test.false, ap length c.as_slice-line-items.ensures)) at
