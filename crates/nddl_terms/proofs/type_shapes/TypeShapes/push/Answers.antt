use Rattle.std.proofs.Common.{◌≡◌, length, sym}
use Rattle.nddl_terms.proofs.Sharing.{new_more}
use Rattle.nddl_terms.proofs.type_shapes.TypeShapes.push.Goals as goal

pub returns : goal.returns
returns c =
    let place : c.len-place.result ≡ length c.self.inside.shapes.items = search in
    new_more c.self.inside.shapes.items c.push.new.self.items c.self.inside.places.items c.push-2.new.self.items c.len-place.result c.args.self.now
    c.args.shape c.self.invariant (sym c.self.view_is) c.in_ok-push.ensures.items place c.in_ok-push-2.ensures.items
