use Rattle.std.specs.Prelude.{take, All}
use Rattle.model_typing.specs.Terms.{IsNamed}
use Rattle.model_typing.proofs.terms.first_named.Given as goal

abbrev pub invariant-loop-term : goal.invariant-loop-term
invariant-loop-term l = All (λ term. IsNamed term → ⊥) (take l.term-index l.terms)
