use Rattle.std.proofs.Common.{All}
use Rattle.model_core.specs.Naming.{declared_names}
use Rattle.model_typing.proofs.Telling.{told_as, told_false, told_not}
use Rattle.model_lawful.specs.Naming.{IsOwnName}
use Rattle.model_lawful.specs.Wholes.{AreNamed}
use Rattle.model_lawful.proofs.whole.are_named.Goals as goal

pub returns-then-not-globals : goal.returns-then-not-globals
returns-then-not-globals c = told_not _ (λ named. told_false c.in_ok-globals.globals _ c.if-not-globals.true c.in_ok-globals.ensures named.globals)

pub returns-then-not-preds : goal.returns-then-not-preds
returns-then-not-preds c = told_not _ (λ named. told_false c.in_ok-preds.preds _ c.if-not-preds.true c.in_ok-preds.ensures (named.preds, named.free))

pub returns-then-not-apart : goal.returns-then-not-apart
returns-then-not-apart c = told_not _ (λ named. told_false c.in_ok-apart.apart _ c.if-not-apart.true c.in_ok-apart.ensures named.apart)

pub returns : goal.returns
returns c =
    told_as c.have_own_names.result (All IsOwnName (declared_names c.args.model.now)) (AreNamed c.args.model.now)
    (λ own. record {
      globals = c.in_ok-globals.ensures.0 c.if-not-globals.false;
      preds = (c.in_ok-preds.ensures.0 c.if-not-preds.false).0;
      free = (c.in_ok-preds.ensures.0 c.if-not-preds.false).1;
      apart = c.in_ok-apart.ensures.0 c.if-not-apart.false;
      own = own;
    })
    (λ named. named.own) c.have_own_names.ensures
