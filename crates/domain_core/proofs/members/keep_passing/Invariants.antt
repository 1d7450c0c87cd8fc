use Rattle.std.proofs.Common.{true, false}
use Rattle.domain_core.proofs.Fronts.{Sifted}
use Rattle.domain_core.proofs.members.keep_passing.Given as goal

abbrev pub invariant-loop-read : goal.invariant-loop-read
invariant-loop-read g l = Sifted (λ value. goal.F-post g l.passes value true) (λ value. goal.F-post g l.passes value false) l.initial.members.items l.members.items l.kept l.read
