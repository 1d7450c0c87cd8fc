use Rattle.plan_values.specs.Meanings.{context_of}
use Rattle.plan_values.specs.Openings.{Allows}
use Rattle.plan_inventory.specs.Marking.{AddsMarks}
use Rattle.plan_inventory.proofs.Marking.{StandsWithFirst}
use Rattle.plan_inventory.proofs.standing.+marking.Given as goal

abbrev pub invariant-mark_among-loop-entry : goal.invariant-mark_among-loop-entry
invariant-mark_among-loop-entry l = AddsMarks (StandsWithFirst (Allows l.model l.plan (context_of l.at)) l.entries l.entry-index) l.initial.marks l.marks
