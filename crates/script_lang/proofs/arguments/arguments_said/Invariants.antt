use Rattle.script_lang.proofs.Arguing.{AnswersFront}
use Rattle.script_lang.proofs.arguments.arguments_said.Given as goal

abbrev pub invariant-loop-place : goal.invariant-loop-place
invariant-loop-place l = AnswersFront l.model l.kind l.among l.words l.place l.given
