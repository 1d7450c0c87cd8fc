use Rattle.std.proofs.Common.{◌≡◌, ◌+◌, List, [], Some, Vec, Global, sym, subst}
use Rattle.std.specs.Prelude.{slice_get}
use Rattle.model_core.specs.declared.class.Pred.{Pred}
use Rattle.model_core.specs.declared.variable.VarDecl.{VarDecl}
use Rattle.model_typing.specs.declared.line.Line.{Line}
use Rattle.model_typing.specs.Lines.{AreLinesOf, ArePredLines}
use Rattle.model_typing.proofs.Tabling.{AreKeptTo, kept_all, kept_more, kept_none, read_at}
use Rattle.model_typing.proofs.table.pred_lines.Goals as goal

pub loop-pred-init : goal.loop-pred-init
loop-pred-init c =
    let fits = λ (pred : Pred) (listed : List Line). AreLinesOf c.args.model.now pred.params listed in
    let kept = λ (listed : Vec Line Global). listed.items in
    subst (AreKeptTo fits kept [] c.args.preds.now 0) (sym c.new-table.ensures.items) (kept_none fits kept [] c.args.preds.now)

pub loop-pred-preserved : goal.loop-pred-preserved
loop-pred-preserved c =
    let fits = λ (pred : Pred) (listed : List Line). AreLinesOf c.args.model.now pred.params listed in
    let kept = λ (listed : Vec Line Global). listed.items in
    let preds = c.args.preds.now in
    let loop = c.loop-pred in
    let item = c.pred-item.result in
    let lines = c.in_ok-variable_lines.field-0 in
    let at : slice_get preds loop.pred-index ≡ Some item = read_at preds loop.pred-index item c.loop-pred-test.true c.pred-item.is in
    let are : AreLinesOf c.args.model.now item.params lines.items = subst (λ (list : List VarDecl). AreLinesOf c.args.model.now list lines.items) c.as_slice.ensures c.in_ok-variable_lines.ensures in
    subst (AreKeptTo fits kept [] preds (loop.pred-index + 1)) (sym c.in_ok-push.ensures.items)
    (kept_more fits kept [] preds loop.pred-index loop.table.items item lines at are loop.invariant)

pub returns : goal.returns
unfolding ArePredLines
returns c =
    let fits = λ (pred : Pred) (listed : List Line). AreLinesOf c.args.model.now pred.params listed in
    let kept = λ (listed : Vec Line Global). listed.items in
    kept_all fits kept [] c.args.preds.now c.loop-pred.pred-index c.loop-pred.table.items c.loop-pred-test.false c.loop-pred.invariant
