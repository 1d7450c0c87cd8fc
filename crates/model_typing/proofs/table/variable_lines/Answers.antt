use Rattle.std.proofs.Common.{◌≡◌, ◌+◌, Some, sym, subst}
use Rattle.std.specs.Prelude.{slice_get}
use Rattle.model_typing.specs.declared.line.Line.{Line}
use Rattle.model_typing.specs.declared.line.Line.TheVariants.{Nothing}
use Rattle.model_typing.specs.Lines.{AreLinesOf, HasLine}
use Rattle.model_typing.proofs.Tabling.{AreKeptTo, kept_all, kept_more, kept_none, read_at}
use Rattle.model_typing.proofs.table.variable_lines.Goals as goal

pub loop-variable-init : goal.loop-variable-init
loop-variable-init c =
    subst (AreKeptTo (HasLine c.args.model.now) (λ (line : Line). line) Nothing c.args.variables.now 0) (sym c.new-lines.ensures.items)
    (kept_none (HasLine c.args.model.now) (λ (line : Line). line) Nothing c.args.variables.now)

pub loop-variable-preserved : goal.loop-variable-preserved
loop-variable-preserved c =
    let variables = c.args.variables.now in
    let loop = c.loop-variable in
    let item = c.variable-item.result in
    let at : slice_get variables loop.variable-index ≡ Some item = read_at variables loop.variable-index item c.loop-variable-test.true c.variable-item.is in
    subst (AreKeptTo (HasLine c.args.model.now) (λ (line : Line). line) Nothing variables (loop.variable-index + 1)) (sym c.in_ok-push.ensures.items)
    (kept_more (HasLine c.args.model.now) (λ (line : Line). line) Nothing variables loop.variable-index loop.lines.items item c.variable_line.result at c.variable_line.ensures loop.invariant)

pub returns : goal.returns
unfolding AreLinesOf
returns c =
    kept_all (HasLine c.args.model.now) (λ (line : Line). line) Nothing c.args.variables.now c.loop-variable.variable-index c.loop-variable.lines.items
    c.loop-variable-test.false c.loop-variable.invariant
