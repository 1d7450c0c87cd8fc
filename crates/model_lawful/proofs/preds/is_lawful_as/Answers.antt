use Rattle.std.proofs.Common.{List, sym, subst}
use Rattle.model_core.specs.declared.variable.VarDecl.{VarDecl}
use Rattle.model_typing.specs.Lines.{AreLinesOf}
use Rattle.model_lawful.proofs.preds.is_lawful_as.Goals as goal

pub is_lawful_rule-requires-clause-lines : goal.is_lawful_rule-requires-clause-lines
is_lawful_rule-requires-clause-lines c =
    let model = c.args.model.now in
    let locals = c.in_ok-locals.locals.items in
    let are = subst (λ (list : List VarDecl). AreLinesOf model list locals) c.as_slice.ensures c.in_ok-locals.ensures in
    subst (AreLinesOf model c.args.rule.now.locals) (sym c.as_slice-2.ensures.value) are
