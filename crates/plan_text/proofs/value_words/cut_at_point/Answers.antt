use Rattle.plan_text.proofs.Points.{cut_there, not_cut}
use Rattle.plan_text.proofs.value_words.cut_at_point.Goals as goal

pub returns-in-Some : goal.returns-in-Some
returns-in-Some c =
    cut_there c.args.word.now c.split_at.result.0.now c.split_at.result.1.now c.in-Some.after.now c.point_place.result _ c.point_place.ensures.len c.split_at.ensures.front c.split_at.ensures.back c.in-Some.ensures.cases.0

pub returns-in-None : goal.returns-in-None
returns-in-None c =
    not_cut c.args.word.now c.split_at.result.0.now c.split_at.result.1.now c.point_place.result c.point_place.ensures.len c.split_at.ensures.front c.split_at.ensures.back c.in-None.ensures.cases
