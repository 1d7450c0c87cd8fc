use Rattle.std.proofs.Common.{sym}
use Rattle.plan_resolve.proofs.Valuing.{member_there}
use Rattle.plan_resolve.proofs.values.member_place.Goals as goal

pub returns-in-Some : goal.returns-in-Some
returns-in-Some c =
    member_there c.args.model.now.enums c.args.number c.args.word.now c.in-Some.found.now c.as_slice.result.now c.place_of.result (sym c.in-Some.ensures) c.as_slice.ensures c.place_of.ensures
