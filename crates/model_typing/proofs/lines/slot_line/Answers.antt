use Rattle.std.proofs.Common.{◌≡◌, Some, subst}
use Rattle.std.specs.Prelude.{slice_get}
use Rattle.eu_name.proofs.Members.{get_same}
use Rattle.model_core.specs.declared.rule.Slot.{Slot}
use Rattle.model_core.specs.declared.variable.ValueKind.TheVariants.{Object}
use Rattle.model_core.specs.Kinds.{IsPartOfClass, IsPartOfKind}
use Rattle.model_typing.proofs.Lined.{line_found}
use Rattle.model_typing.proofs.lines.slot_line.Goals as goal

pub returns-in-Some : goal.returns-in-Some
returns-in-Some c =
    let model = c.args.model.now in
    let slots = c.args.rule.now.slots in
    let slot = c.in-Some.slot.now in
    let only = λ (other : Slot) (at : slice_get slots c.args.number ≡ Some other). get_same slots c.args.number other slot at c.in-Some.ensures in
    λ kind. line_found model c.part_line.result (λ (s : Slot). slice_get slots c.args.number ≡ Some s) (λ class (a : Slot). IsPartOfClass model a.pred class c.args.part) slot c.in-Some.ensures only
    (c.part_line.ensures (subst (λ (s : Slot). IsPartOfKind model s.pred Object c.args.part) (only kind.0 kind.1) kind.2))

pub returns-in-None : goal.returns-in-None
returns-in-None c = λ kind. absurd (c.in-None.ensures kind.0 kind.1)
