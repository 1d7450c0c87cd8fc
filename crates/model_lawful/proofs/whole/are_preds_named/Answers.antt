use Rattle.std.proofs.Common.{List, ◌↔◌, IsTrue, ◌<◌, ◌^◌, ◌≡◌, length, ap, subst, arith}
use Rattle.std.specs.Prelude.{IfOk}
use Rattle.model_core.specs.declared.class.Class.{Class}
use Rattle.model_core.specs.declared.class.Pred.{Pred}
use Rattle.model_rules.specs.Distinct.{AreApart, AreFree}
use Rattle.model_lawful.proofs.whole.are_preds_named.Goals as goal

pub are_apart-requires : goal.are_apart-requires
are_apart-requires c =
    let few : length c.args.model.now.classes < 2 ^ 32 = c.requires.few_classes in
    let same : length c.as_slice.result.now ≡ length c.args.model.now.classes = ap length c.as_slice.ensures in
    omega (arith, few, same)

pub returns : goal.returns
returns c =
    subst (λ (preds : List Pred). IfOk c.are_apart.result (λ answer. IsTrue answer ↔ (AreApart preds × AreFree c.args.model.now.classes preds))) c.as_slice-2.ensures
    (subst (λ (classes : List Class). IfOk c.are_apart.result (λ answer. IsTrue answer ↔ (AreApart c.as_slice-2.result.now × AreFree classes c.as_slice-2.result.now))) c.as_slice.ensures c.are_apart.ensures)
