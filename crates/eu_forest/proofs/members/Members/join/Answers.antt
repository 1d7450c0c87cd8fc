use Rattle.std.proofs.Common.{◌∙◌, ap}
use Rattle.std.specs.Prelude.{slice_set}
use Rattle.std.proofs.lemmas.Result.{on_ok_weaker}
use Rattle.eu_forest.specs.Members.{are_marked}
use Rattle.eu_forest.proofs.Sharing.{joins_both}
use Rattle.eu_forest.proofs.members.Members.join.Goals as goal

pub returns-in_ok-marks : goal.returns-in_ok-marks
returns-in_ok-marks c =
    on_ok_weaker c.put.result
    (λ is. joins_both c.args.self.now c.put.new.self c.args.thing c.args.other
    (is ∙ ap (slice_set c.args.self.now c.args.thing)
    (c.in_ok-marks.ensures ∙ (λ i. are_marked (c.marks.ensures i) (c.marks-else-is_without.ensures i)))))
    c.put.ensures
