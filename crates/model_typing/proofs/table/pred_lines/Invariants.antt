use Rattle.std.specs.Prelude.{[], Vec, List}
use Rattle.std.specs.declared.alloc.Global.{Global}
use Rattle.model_core.specs.declared.class.Pred.{Pred}
use Rattle.model_typing.specs.declared.line.Line.{Line}
use Rattle.model_typing.specs.Lines.{AreLinesOf}
use Rattle.model_typing.proofs.Tabling.{AreKeptTo}
use Rattle.model_typing.proofs.table.pred_lines.Given as goal

abbrev pub invariant-loop-pred : goal.invariant-loop-pred
invariant-loop-pred l =
    AreKeptTo (λ (pred : Pred) (listed : List Line). AreLinesOf l.model pred.params listed) (λ (listed : Vec Line Global). listed.items) [] l.preds l.pred-index l.table.items
