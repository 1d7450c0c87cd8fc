use Rattle.std.proofs.Common.{◌≡◌, ◌++◌, codes}
use Rattle.plan_resolve.proofs.Naming.{pair_is, no_pair}
use Rattle.plan_text.proofs.Points.{false_never}
use Rattle.plan_resolve.proofs.subjects.is_pair.Goals as goal

pub returns-in-Some-behind : goal.returns-in-Some-behind
returns-in-Some-behind c =
    pair_is c.args.first.now c.args.second.now c.args.word.now c.in-Some.after.now c.in-Some-behind.name.now c.is_word.result c.in-Some.ensures c.in-Some-behind.ensures c.is_word.ensures

pub returns-in-None-behind : goal.returns-in-None-behind
returns-in-None-behind c =
    false_never (c.args.word.now ≡ c.args.first.now ++ (codes "." ++ c.args.second.now))
    (no_pair c.args.first.now c.args.second.now c.args.word.now c.in-Some.after.now c.in-Some.ensures c.in-None-behind.ensures)
