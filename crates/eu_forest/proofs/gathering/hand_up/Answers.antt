use Rattle.std.proofs.Common.{sym, ◌∙◌}
use Rattle.std.proofs.lemmas.Result.{on_ok_weaker}
use Rattle.eu_forest.proofs.Handing.{handed, stands}
use Rattle.eu_forest.proofs.gathering.hand_up.Goals as goal

pub returns-in-Some : goal.returns-in-Some
returns-in-Some c =
    on_ok_weaker c.join.result
    (λ joins owners count so_far. handed c.args.parents.now owners count c.args.thing c.in-Some.parent c.args.members.now c.join.new.self
    (stands c.args.parents.now c.args.thing c.in-Some.parent (sym c.parent_in.ensures ∙ c.in-Some.is)) joins so_far)
    c.join.ensures
