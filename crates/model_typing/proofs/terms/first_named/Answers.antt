use Rattle.std.specs.Prelude.{All}
use Rattle.std.proofs.Common.{subst}
use Rattle.std.proofs.lemmas.List.{take_all}
use Rattle.std.proofs.lemmas.List.Elements.{All-more}
use Rattle.model_core.specs.declared.item.Term.{Term}
use Rattle.model_typing.specs.Terms.{IsNamed}
use Rattle.model_typing.proofs.Telling.{never}
use Rattle.model_typing.proofs.terms.first_named.Goals as goal

pub loop-term-preserved : goal.loop-term-preserved
loop-term-preserved c =
    All-more (λ (term : Term). IsNamed term → ⊥) c.args.terms.now c.loop-term.term-index _ c.loop-term-test.true c.loop-term.invariant (never _ c.if-is_named.ensures)

pub returns : goal.returns
returns c = subst (All (λ (term : Term). IsNamed term → ⊥)) (take_all c.loop-term.term-index c.args.terms.now c.loop-term-test.false) c.loop-term.invariant
