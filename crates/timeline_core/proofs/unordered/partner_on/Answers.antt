-- The first place that has such a token is the first place after this one that has.
use Rattle.std.proofs.Common.{◌≡◌, subst, inl, inr, arith}
use Rattle.std.proofs.lemmas.Bool.{cases_lt}
use Rattle.plan_defs.specs.Unordered.{IsPairAt}
use Rattle.timeline_core.proofs.Telling.{no_earlier, pair_within}
use Rattle.timeline_core.proofs.unordered.partner_on.Goals as goal

pub returns-then-is_pair : goal.returns-then-is_pair
returns-then-is_pair g c =
    (c.if-is_pair.ensures, λ n pair. no_earlier c.args.model.now (g.V.View.decisions c.args.view.now) (g.V.View.state c.args.view.now) c.requires.order c.args.one c.loop-other.other n c.loop-other.invariant pair)

pub loop-other-preserved : goal.loop-other-preserved
loop-other-preserved g c = λ n below pair.
    elim (cases_lt n c.loop-other.other) [
      | inl less ↦ c.loop-other.invariant n less pair
      | inr rest ↦
          let same : n ≡ c.loop-other.other = omega arith in
          c.if-is_pair.ensures (subst (λ k. IsPairAt c.args.model.now (g.V.View.decisions c.args.view.now) (g.V.View.state c.args.view.now) c.args.one k) same pair)
    ]

pub returns : goal.returns
returns g c = λ n pair.
    let within = pair_within c.args.model.now (g.V.View.decisions c.args.view.now) (g.V.View.state c.args.view.now) c.requires.order c.args.one n pair in
    c.loop-other.invariant n (omega (arith, within.1, pair.before, c.count-count.ensures)) pair
