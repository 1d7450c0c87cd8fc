use Rattle.model_typing.specs.declared.line.Line.{Line}
use Rattle.model_typing.specs.declared.line.Line.TheVariants.{Nothing}
use Rattle.model_typing.specs.Lines.{HasLine}
use Rattle.model_typing.proofs.Tabling.{AreKeptTo}
use Rattle.model_typing.proofs.table.variable_lines.Given as goal

abbrev pub invariant-loop-variable : goal.invariant-loop-variable
invariant-loop-variable l = AreKeptTo (HasLine l.model) (λ (line : Line). line) Nothing l.variables l.variable-index l.lines.items
