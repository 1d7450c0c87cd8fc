use Rattle.plan_text.proofs.Listing.{PartsWritten}
use Rattle.plan_text.proofs.writing.put_parameters.Given as goal

abbrev pub invariant-loop-number : goal.invariant-loop-number
invariant-loop-number l = PartsWritten l.initial.model l.initial.params l.initial.values l.number l.initial.out.items l.out.items
