use Rattle.std.proofs.Common.{◌∙◌, ap, sym}
use Rattle.nddl_terms.specs.TypeShapes.{place_in, placed_shape, type_named}
use Rattle.nddl_terms.proofs.Sharing.{named_at, one_more}
use Rattle.nddl_terms.proofs.type_shapes.TypeShapes.push_shared.Goals as goal

pub returns : goal.returns
returns c =
    let shapes = c.self.inside.shapes.items in
    let places = c.self.inside.places.items in
    let number = c.args.number in
    one_more shapes places c.push.new.self.items c.place_in-place.result c.args.self.now (type_named c.args.self.now number) (sym c.self.view_is)
    c.in_ok-push.ensures.items
    (ap (placed_shape shapes) (c.place_in-place.ensures ∙ ap (λ some. place_in some number) c.as_slice.ensures.value)
    ∙ (sym (named_at shapes places number) ∙ ap (λ types. type_named types number) c.self.view_is))
