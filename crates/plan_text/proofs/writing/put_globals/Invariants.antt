use Rattle.std.proofs.Common.{[], take}
use Rattle.plan_text.specs.PlanTexts.{global_statements}
use Rattle.plan_text.specs.Writing.{AddsLines}
use Rattle.plan_text.proofs.writing.put_globals.Given as goal

abbrev pub invariant-loop-number : goal.invariant-loop-number
invariant-loop-number l = AddsLines l.initial.model [] (global_statements 0 (take l.number l.initial.plan.globals)) l.initial.out.items l.out.items
