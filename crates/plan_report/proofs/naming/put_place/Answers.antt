use Rattle.std.proofs.Common.{w32, to_z, of_z, subst}
use Rattle.plan_defs.specs.declared.plan.Place.TheVariants as places
use Rattle.plan_report.specs.Naming.{HasNames}
use Rattle.plan_report.proofs.Placing.{placed, instant_kept, instant_placed}
use Rattle.plan_report.proofs.naming.put_place.Goals as goal

pub put_instant-requires : goal.put_instant-requires
put_instant-requires c = (subst (HasNames c.args.model.now c.args.plan.now) c.in-Instant.is c.requires.there).0

pub returns-in-Instant : goal.returns-in-Instant
returns-in-Instant c =
    let at = c.in-Instant.at in
    placed c.args.model.now c.args.plan.now c.args.place (places.Instant c.in-Instant.object at) c.args.out.now.items c.put_instant.new.out.items c.put_instant.result c.in-Instant.is
    (instant_placed c.args.model.now c.in-Instant.object at (to_z w32 (of_z w32 at)) c.args.out.now.items c.put_instant.new.out.items c.put_instant.result
    (instant_kept c.args.model.now at c.requires.lawful (subst (HasNames c.args.model.now c.args.plan.now) c.in-Instant.is c.requires.there).1) c.put_instant.ensures)
