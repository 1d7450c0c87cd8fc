use Rattle.std.proofs.Common.{sym, subst, arith}
use Rattle.model_core.specs.History.{History, standing}
use Rattle.conflict_core.proofs.Turning.{ReducesBy, none_left, reduces_none, reduces_on, reduces_all}
use Rattle.conflict_core.proofs.conflict.reduce.Goals as goal

pub loop-decision-init : goal.loop-decision-init
loop-decision-init c = record {
  by = subst (λ (history : History). ReducesBy c.args.model.now c.args.decisions.now (standing history) c.args.decisions.now) (sym c.requires.none)
      (reduces_none c.args.model.now c.args.decisions.now);
  keeps = c.requires.kept;
}

pub loop-decision-preserved : goal.loop-decision-preserved
loop-decision-preserved c = record {
  by = reduces_on c.args.model.now c.args.decisions.now (standing c.loop-decision.log) (standing c.turn.new.log) c.loop-decision.rest.now c.in-Some.behind.now c.in-Some.decision.now
      c.in-Some.ensures.cases.0 c.loop-decision.invariant.by c.in_ok-turn.ensures.turn;
  keeps = c.in_ok-turn.ensures.kept;
}

pub returns : goal.returns
returns c =
    reduces_all c.args.model.now c.args.decisions.now (standing c.loop-decision.log) c.loop-decision.rest.now (none_left c.loop-decision.rest.now (omega (arith, c.in_default.ensures.cases))) c.loop-decision.invariant.by
