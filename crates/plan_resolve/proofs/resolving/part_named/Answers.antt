use Rattle.std.proofs.Common.{◌≡◌, ℕ, subst}
use Rattle.std.proofs.lemmas.Bool.{false≢true}
use Rattle.model_core.specs.declared.model.Model.{Model}
use Rattle.model_core.specs.declared.variable.VarDecl.{VarDecl}
use Rattle.model_core.specs.Variables.{HasParameter}
use Rattle.model_core.proofs.Lookups.{no_part}
use Rattle.plan_resolve.proofs.resolving.part_named.Goals as goal

pub returns-in-None : goal.returns-in-None
returns-in-None c =
    no_part c.args.model.now c.args.pred c.args.word.now
    (λ is. absurd (false≢true (c.if-is_word.ensures.1 is))) (λ is. absurd (false≢true (c.if-is_word-2.ensures.1 is))) (λ is. absurd (false≢true (c.if-is_word-3.ensures.1 is))) (λ is. absurd (false≢true (c.if-is_word-4.ensures.1 is)))
    (subst (λ (m : Model). (number : ℕ) (variable : VarDecl) → HasParameter m c.args.pred number variable → variable.name ≡ c.args.word.now → ⊥) c.model.ensures c.in-None.ensures)
