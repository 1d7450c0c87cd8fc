use Rattle.std.proofs.Common.{◌≡◌, ◌∷◌, [], reverse, length, ap, ◌∙◌, subst, arith, length-append}
use Rattle.std.proofs.lemmas.List.{reverse-append, length-reverse}
use Rattle.cell_store.specs.Cells.{GoesBack}
use Rattle.cell_store.specs.Kept.{view_of}
use Rattle.cell_store.proofs.Returning.{IsReturning, returning_more, goes_back}
use Rattle.cell_store.proofs.trail.go_back.Goals as goal

pub loop-cells-preserved : goal.loop-cells-preserved
loop-cells-preserved c =
    let step = c.step_back.ensures in
    let turned : reverse c.loop-cells.trail ≡ step.entry ∷ reverse c.step_back.new.trail =
    ap reverse step.trail ∙ reverse-append c.step_back.new.trail (step.entry ∷ []) in
    record {
      returning = returning_more c.args.cells.now.items (reverse c.args.trail.now) c.loop-cells.cells.items (reverse c.step_back.new.trail) step.entry
          c.step_back.new.cells.items
          (subst (IsReturning c.args.cells.now.items (reverse c.args.trail.now) c.loop-cells.cells.items) turned c.loop-cells.invariant.returning) step.cells;
      long = omega (arith, ap length step.trail, length-append c.step_back.new.trail (step.entry ∷ []));
    }

pub returns : goal.returns
returns c =
    let now = c.loop-cells.trail in
    let returning = c.loop-cells.invariant.returning in
    let long : length (reverse now) ≡ c.args.behind = length-reverse now ∙ omega (arith, c.loop-cells.invariant.long) in
    record {
      kept = returning.kept;
      goes = subst (λ n. GoesBack n (view_of c.args.cells.now.items (reverse c.args.trail.now)) (view_of c.loop-cells.cells.items (reverse now))) long
          (goes_back c.args.cells.now.items (reverse c.args.trail.now) c.loop-cells.cells.items (reverse now) returning);
    }
