use Rattle.std.proofs.Common.{map, rules}
use Rattle.run_words.specs.Requests.{told}
use Rattle.run_words.specs.Words.{HasPlanWords}
use Rattle.run_words.proofs.Asking.{plan_answers}
use Rattle.run_words.proofs.request.plan.Goals as goal

pub returns-in-Some : goal.returns-in-Some
returns-in-Some c =
    let words = map (λ word. word.now) c.args.words.now in
    let divided : HasPlanWords words c.in-Some.words.file.now (told c.in-Some.words.steps) (told c.in-Some.words.tokens) = search rules in
    plan_answers words c.in-Some.words c.plan_request.result divided c.plan_request.ensures
