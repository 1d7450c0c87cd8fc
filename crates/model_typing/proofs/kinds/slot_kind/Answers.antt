use Rattle.std.proofs.Common.{◌≡◌, Some}
use Rattle.std.specs.Prelude.{slice_get}
use Rattle.eu_name.proofs.Members.{get_same}
use Rattle.model_core.specs.declared.rule.Slot.{Slot}
use Rattle.model_core.specs.Kinds.{IsPartOfKind}
use Rattle.model_typing.proofs.Telling.{just_found}
use Rattle.model_typing.proofs.kinds.slot_kind.Goals as goal

pub returns-in-Some : goal.returns-in-Some
returns-in-Some c =
    just_found c.part_kind.result (λ (s : Slot). slice_get c.args.rule.now.slots c.args.number ≡ Some s) (λ kind (a : Slot). IsPartOfKind c.args.model.now a.pred kind c.args.part) c.in-Some.slot.now
    c.in-Some.ensures (λ other at. get_same c.args.rule.now.slots c.args.number other c.in-Some.slot.now at c.in-Some.ensures) c.part_kind.ensures
