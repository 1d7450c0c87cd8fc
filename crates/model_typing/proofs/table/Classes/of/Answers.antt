use Rattle.std.proofs.Common.{List, subst}
use Rattle.model_core.specs.declared.class.Pred.{Pred}
use Rattle.model_core.specs.declared.variable.VarDecl.{VarDecl}
use Rattle.model_typing.specs.Lines.{AreLinesOf, ArePredLines}
use Rattle.model_typing.proofs.table.Classes.of.Goals as goal

pub returns : goal.returns
returns c = record {
  parents_are = c.requires;
  globals_are = subst (λ (list : List VarDecl). AreLinesOf c.args.model.now list c.in_ok-globals.globals.items) c.as_slice.ensures c.in_ok-globals.ensures;
  params_are = subst (λ (list : List Pred). ArePredLines c.args.model.now list c.in_ok-params.params.items) c.as_slice-2.ensures c.in_ok-params.ensures;
}
