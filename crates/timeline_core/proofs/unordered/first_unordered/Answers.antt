-- The first place that is the first of a pair, with its partner, is the first pair.
use Rattle.std.proofs.Common.{◌≡◌, subst, inl, inr, arith}
use Rattle.std.proofs.lemmas.Bool.{cases_lt}
use Rattle.plan_defs.specs.Unordered.{IsPairAt}
use Rattle.timeline_core.proofs.Telling.{first_pair, pair_within}
use Rattle.timeline_core.proofs.unordered.first_unordered.Goals as goal

pub returns-in-Some : goal.returns-in-Some
returns-in-Some g c = first_pair c.args.model.now (g.V.View.decisions c.args.view.now) (g.V.View.state c.args.view.now) c.requires.order c.loop-one.one c.in-Some.other c.loop-one.invariant c.in-Some.ensures

pub loop-one-preserved : goal.loop-one-preserved
loop-one-preserved g c = λ m n below pair.
    elim (cases_lt m c.loop-one.one) [
      | inl less ↦ c.loop-one.invariant m n less pair
      | inr rest ↦
          let same : m ≡ c.loop-one.one = omega arith in
          c.in_default.ensures n (subst (λ k. IsPairAt c.args.model.now (g.V.View.decisions c.args.view.now) (g.V.View.state c.args.view.now) k n) same pair)
    ]

pub returns : goal.returns
returns g c = λ m n pair.
    let within = pair_within c.args.model.now (g.V.View.decisions c.args.view.now) (g.V.View.state c.args.view.now) c.requires.order m n pair in
    c.loop-one.invariant m n (omega (arith, within.0, c.count-count.ensures)) pair
