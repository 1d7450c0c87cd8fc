use Rattle.std.proofs.Common.{◌≡◌, ℕ, ◌+◌, ◌<◌, sym, subst, arith}
use Rattle.std.specs.Prelude.{◌↔◌}
use Rattle.model_core.specs.declared.variable.VarDecl.{VarDecl}
use Rattle.model_core.specs.Variables.{HasParameter}
use Rattle.db_opening.proofs.Parting.{ArePartsBelow, parts_first, parts_push, parts_are}
use Rattle.db_opening.proofs.parts.parts_of.Goals as goal

pub loop-number-init : goal.loop-number-init
loop-number-init c = subst (ArePartsBelow 0) (sym c.in_ok-parts.ensures.items) parts_first

pub loop-number-preserved : goal.loop-number-preserved
loop-number-preserved c =
    let number = c.loop-number.number in
    subst (ArePartsBelow (number + 1)) (sym c.in_ok-push.ensures.items) (parts_push number c.loop-number.parts.items c.loop-number.invariant)

pub returns : goal.returns
returns c = λ slot of.
    let count = c.parameter_count-number-end.result in
    let parts = c.loop-number.parts.items in
    let last = c.loop-number-test.false in
    let within = c.loop-number.auto.number-end in
    let same : c.loop-number.number ≡ count = omega (arith, last, within) in
    parts_are c.args.model.now slot count
    (subst (λ (pred : ℕ). (number : ℕ) → number < count ↔ ((variable : VarDecl) × HasParameter c.args.model.now pred number variable)) (sym of) c.parameter_count-number-end.ensures)
    parts (subst (λ (n : ℕ). ArePartsBelow n parts) same c.loop-number.invariant)
