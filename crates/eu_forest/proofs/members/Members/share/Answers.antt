use Rattle.std.proofs.Common.{◌∙◌, ap, sym}
use Rattle.std.specs.Prelude.{slice_get}
use Rattle.eu_forest.proofs.Sharing.{share_is}
use Rattle.eu_forest.proofs.members.Members.share.Goals as goal

pub returns-then-thing-len : goal.returns-then-thing-len
returns-then-thing-len c =
    share_is c.self.inside.marks.items c.self.inside.places.items c.args.self.now c.args.thing c.args.other c.in-Some.place (sym c.self.view_is)
    (ap (λ places. slice_get places c.args.other) (sym c.as_slice.ensures.value) ∙ (sym c.place_in.ensures ∙ c.in-Some.is))
