-- The activation is first where it is left.
use Rattle.std.proofs.Common.{arith, sym, subst}
use Rattle.plan_defs.specs.Refusals.{AreActive}
use Rattle.flaw_core.proofs.Numbering.{own_full, own_first, own_later}
use Rattle.flaw_core.proofs.choosing.own_choice.Goals as goal

pub are_active-requires : goal.are_active-requires
are_active-requires g c = c.requires.least

pub returns-then-are_active : goal.returns-then-are_active
returns-then-are_active g c = λ token activation left here activated rejected.
    own_full c.args.model.now (g.V.View.decisions c.args.view.now) (g.V.View.state c.args.view.now) c.args.bound c.args.place token here activation left c.args.number c.rejection.result (subst (λ m. AreActive m (g.V.View.decisions c.args.view.now) c.args.bound) c.requires.model c.if-are_active.ensures) activated
    (c.rejection.ensures token left here rejected)

pub returns-then-number-eq0 : goal.returns-then-number-eq0
returns-then-number-eq0 g c = λ token activation left here activated rejected.
    own_first c.args.model.now (g.V.View.decisions c.args.view.now) (g.V.View.state c.args.view.now) c.args.bound c.args.place token here activation left c.args.number (omega (arith, c.if-number-eq0.true)) (λ are. c.if-are_active.ensures (subst (λ m. AreActive m (g.V.View.decisions c.args.view.now) c.args.bound) (sym c.requires.model) are)) activated

pub returns : goal.returns
returns g c = λ token activation left here activated rejected.
    own_later c.args.model.now (g.V.View.decisions c.args.view.now) (g.V.View.state c.args.view.now) c.args.bound c.args.place token here activation left c.args.number _ c.rejection-2.result (omega (arith, c.if-number-eq0.false)) (λ are. c.if-are_active.ensures (subst (λ m. AreActive m (g.V.View.decisions c.args.view.now) c.args.bound) (sym c.requires.model) are)) activated
    (c.rejection-2.ensures token left here rejected)
