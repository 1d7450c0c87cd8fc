use Rattle.std.proofs.Common.{sym, subst, arith}
use Rattle.narrow_core.proofs.Places.{Swept, swept_start, swept_stop, swept_step, swept_all}
use Rattle.narrow_core.proofs.narrow.Narrow.narrow.Goals as goal

pub loop-place-init : goal.loop-place-init
loop-place-init g c = record { swept = swept_start _ _ _; domains = λ all. all }

pub loop-place-preserved : goal.loop-place-preserved
loop-place-preserved g c = record {
  swept =
      subst (Swept (g.Self.Narrow.reach c.args.self.now) (g.Self.Narrow.holds c.args.self.now) c.args.args.now c.narrow_at-step.new.args _) (sym c.then-change.ensures)
      (swept_step _ _ _ _ _ _ _ _ c.loop-place.invariant.swept c.narrow_at-step.ensures.narrowed c.in_default.not-Empty);
  domains = λ all. c.narrow_at-step.ensures.domains (c.loop-place.invariant.domains all);
}

pub returns-in-Empty-clause-swept : goal.returns-in-Empty-clause-swept
returns-in-Empty-clause-swept g c = swept_stop _ _ _ _ _ _ _ _ c.loop-place.invariant.swept c.narrow_at-step.ensures.narrowed c.in-Empty.is

pub returns-clause-swept : goal.returns-clause-swept
returns-clause-swept g c = swept_all _ _ _ _ _ _ c.loop-place.invariant.swept (omega (arith, c.loop-place.auto.args))
