use Rattle.std.proofs.Common.{map, take}
use Rattle.plan_text.specs.PlanTexts.{global_statements}
use Rattle.plan_text.specs.Writing.{AddsLines}
use Rattle.plan_text.proofs.Listing.{as_statement}
use Rattle.plan_text.proofs.writing.put_lines.Given as goal

abbrev pub invariant-loop-line : goal.invariant-loop-line
invariant-loop-line l = AddsLines l.initial.model (global_statements 0 l.initial.plan.globals) (map as_statement (take l.line-index l.initial.plan.lines)) l.initial.out.items l.out.items
