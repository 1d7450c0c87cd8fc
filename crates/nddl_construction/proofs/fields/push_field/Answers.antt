use Rattle.std.proofs.Common.{◌∙◌}
use Rattle.nddl_construction.proofs.Placing.{pushed_places, pushed_repeated}
use Rattle.nddl_construction.proofs.fields.push_field.Goals as goal

pub returns-in-Ok-clause-places : goal.returns-in-Ok-clause-places
returns-in-Ok-clause-places c =
    pushed_places c.args.values.now.items c.push.new.self.items c.args.field c.in_ok-name.name c.len-place.result c.args.places.now
    c.args.repeated.now c.note_set.new.places c.note_set.new.repeated c.requires.places c.in_ok-push.ensures.items
    c.in_ok-name.ensures (c.len-place.ensures ∙ c.args.values.now.ok.0) c.in-Ok.ensures.ok

pub returns-in-Ok-clause-repeated : goal.returns-in-Ok-clause-repeated
returns-in-Ok-clause-repeated c =
    pushed_repeated c.args.values.now.items c.push.new.self.items c.args.field c.in_ok-name.name c.len-place.result
    c.args.places.now c.args.repeated.now c.note_set.new.places c.note_set.new.repeated c.requires.places c.requires.repeated
    c.in_ok-push.ensures.items c.in_ok-name.ensures c.in-Ok.ensures.ok
