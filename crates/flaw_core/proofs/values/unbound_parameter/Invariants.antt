-- None so far.
use Rattle.flaw_core.specs.declared.flaw.VarPlace.TheVariants as at
use Rattle.eu_name.specs.declared.name.Part.TheVariants.{Param}
use Rattle.flaw_core.specs.Seeking.{IsValueAt}
use Rattle.flaw_core.proofs.Finding.{NoneBelow}
use Rattle.flaw_core.proofs.values.unbound_parameter.Given as goal

abbrev pub invariant-loop-number : goal.invariant-loop-number
invariant-loop-number g l = NoneBelow (g.V.View.model l.view) (g.V.View.decisions l.view) (g.V.View.state l.view) (λ number. IsValueAt (g.V.View.state l.view) (at.Part l.place (Param number))) l.number
