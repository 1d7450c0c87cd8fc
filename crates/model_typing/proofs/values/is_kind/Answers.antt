use Rattle.std.proofs.Common.{◌↔◌, IsTrue, sym, subst}
use Rattle.std.proofs.Common.{nat_lt}
use Rattle.model_core.specs.declared.variable.ValueKind.{ValueKind}
use Rattle.model_core.specs.Kinds.{IsKind}
use Rattle.model_typing.proofs.Telling.{below_told}
use Rattle.model_typing.proofs.values.is_kind.Goals as goal

pub returns-in-Enum : goal.returns-in-Enum
returns-in-Enum c =
    subst (λ (k : ValueKind). IsTrue (nat_lt c.in-Enum.number c.len.result) ↔ IsKind c.args.model.now k) (sym c.in-Enum.is)
    (below_told c.args.model.now.enums c.in-Enum.number c.len.result c.len.ensures)
