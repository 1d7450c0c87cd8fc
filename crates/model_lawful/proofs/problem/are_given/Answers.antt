use Rattle.std.proofs.Common.{refl}
use Rattle.model_core.specs.declared.variable.VarDecl.{VarDecl}
use Rattle.model_core.specs.Variables.{IsGiven}
use Rattle.model_typing.proofs.Telling.{never, told_not, told_so}
use Rattle.model_lawful.proofs.Counting.{all_more, all_not, all_whole}
use Rattle.model_lawful.proofs.problem.are_given.Goals as goal

pub returns-then-not-is_given : goal.returns-then-not-is_given
returns-then-not-is_given c = told_not _ (all_not (λ (v : VarDecl). IsGiven v.base) c.args.variables.now c.loop-variable.variable-index c.variable-item.result c.loop-variable-test.true c.variable-item.is (never _ c.if-not-is_given.ensures))

pub loop-variable-preserved : goal.loop-variable-preserved
loop-variable-preserved c = all_more (λ (v : VarDecl). IsGiven v.base) c.args.variables.now c.loop-variable.variable-index c.variable-item.result c.loop-variable-test.true c.variable-item.is (c.if-not-is_given.ensures.0 refl) c.loop-variable.invariant

pub returns : goal.returns
returns c = told_so _ (all_whole (λ (v : VarDecl). IsGiven v.base) c.args.variables.now c.loop-variable.variable-index c.loop-variable-test.false c.loop-variable.invariant)
