use Rattle.std.proofs.Common.{◌↔◌, IsTrue, sym, subst}
use Rattle.std.proofs.Common.{nat_lt}
use Rattle.model_typing.specs.declared.scope.TermScope.{TermScope}
use Rattle.model_typing.specs.Terms.{HasSlot, scope_of}
use Rattle.model_typing.proofs.Telling.{below_told}
use Rattle.model_typing.proofs.items.has_slot.Goals as goal

pub returns-in-InRule : goal.returns-in-InRule
returns-in-InRule c =
    subst (λ (p : TermScope). IsTrue (nat_lt c.args.number c.len.result) ↔ HasSlot (scope_of p) c.args.number) (sym c.in-InRule.is)
    (below_told c.in-InRule.rule.now.slots c.args.number c.len.result c.len.ensures)
