use Rattle.std.proofs.Common.{◌≡◌, subst}
use Rattle.std.specs.Prelude.{IfOk}
use Rattle.nddl_instance.specs.Posed.{Posing, posed_problem}
use Rattle.nddl_problem.proofs.making.make_problem.Goals as goal

pub returns : goal.returns
returns c =
    let P : Posing → Type 0 = λ posing. IfOk c.problem_of.result (λ problem. problem ≡ posed_problem posing) in
    subst P c.make_posing.ensures c.problem_of.ensures
