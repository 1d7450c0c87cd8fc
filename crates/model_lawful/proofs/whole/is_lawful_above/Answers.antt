use Rattle.std.proofs.Common.{subst}
use Rattle.std.specs.Prelude.{MatchOption}
use Rattle.model_typing.specs.Ground.{AreClassParents}
use Rattle.model_typing.proofs.Telling.{ok_as, told_not}
use Rattle.model_lawful.specs.Classes.{AreInLine}
use Rattle.model_lawful.specs.Wholes.{HasLawfulProblem, IsLawfulAbove}
use Rattle.model_lawful.proofs.whole.is_lawful_above.Goals as goal

pub has_lawful_rest-requires-clause-parents : goal.has_lawful_rest-requires-clause-parents
has_lawful_rest-requires-clause-parents c =
    let model = c.args.model.now in
    let line = subst (λ found. MatchOption found (AreInLine model → ⊥) (λ parents. AreInLine model × AreClassParents model parents)) c.in-Some.is c.in_ok-found.ensures in
    line.1

pub returns-in-Some : goal.returns-in-Some
returns-in-Some c =
    let model = c.args.model.now in
    let line = subst (λ found. MatchOption found (AreInLine model → ⊥) (λ parents. AreInLine model × AreClassParents model parents)) c.in-Some.is c.in_ok-found.ensures in
    ok_as c.has_lawful_rest.result (HasLawfulProblem model) (IsLawfulAbove model) (λ problem. record { line = line.0; problem = problem }) (λ above. above.problem) c.has_lawful_rest.ensures

pub returns-in-None : goal.returns-in-None
returns-in-None c =
    let model = c.args.model.now in
    told_not _ (λ above. subst (λ found. MatchOption found (AreInLine model → ⊥) (λ parents. AreInLine model × AreClassParents model parents)) c.in-None.is c.in_ok-found.ensures above.line)
