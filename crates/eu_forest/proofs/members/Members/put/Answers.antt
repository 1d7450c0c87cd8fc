use Rattle.std.proofs.Common.{rules, ◌≡◌, length, sym}
use Rattle.eu_forest.proofs.Sharing.{put_is, put_past_is}
use Rattle.eu_forest.proofs.members.Members.put.Goals as goal

pub returns-then-thing-len : goal.returns-then-thing-len
returns-then-thing-len c =
    let place : c.len-place.result ≡ length c.self.inside.marks.items = search in
    put_is c.self.inside.marks.items c.push.new.self.items c.self.inside.places.items c.args.self.now c.args.thing c.len-place.result c.args.marks
    c.self.invariant c.in_ok-push.ensures.items place (sym c.self.view_is)

pub returns-else-thing-len : goal.returns-else-thing-len
returns-else-thing-len c =
    put_past_is c.self.inside.marks.items c.push.new.self.items c.self.inside.places.items c.args.self.now c.args.thing c.args.marks
    c.self.invariant c.in_ok-push.ensures.items (sym c.self.view_is) (search rules)
