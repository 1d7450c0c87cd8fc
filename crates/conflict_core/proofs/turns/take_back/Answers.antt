use Rattle.std.proofs.Common.{◌≡◌, ℕ, suc, ◌-◌, ◌+◌, subst, arith}
use Rattle.model_core.specs.History.{History}
use Rattle.db_history.specs.Kept.{KeepsHistory}
use Rattle.conflict_core.specs.Turns.{GrownBy}
use Rattle.conflict_core.proofs.Turning.{taken_back}
use Rattle.conflict_core.proofs.turns.take_back.Goals as goal

pub withdraw-requires : goal.withdraw-requires
withdraw-requires c = (c.requires.0, (c.loop-step.invariant c.requires.0 c.requires.1 c.requires.2 c.requires.3).1)

pub loop-step-preserved : goal.loop-step-preserved
loop-step-preserved c = λ model former grown keeps.
    let left : ℕ = c.args.number - (c.loop-step._step + 1) in
    let now = c.loop-step.invariant model former grown keeps in
    let one_more : c.args.number - c.loop-step._step ≡ suc left = omega arith in
    taken_back model left former c.loop-step.log c.withdraw.new.log c.loop-step.kept c.withdraw.new.kept c.withdraw.result
    (subst (λ (number : ℕ). GrownBy number former c.loop-step.log) one_more now.0) (c.withdraw.ensures model now.1)

pub returns : goal.returns
returns c = λ model former grown keeps.
    let all = c.loop-step.invariant model former grown keeps in
    let none : c.args.number - c.loop-step._step ≡ 0 = omega arith in
    let same : c.loop-step.log ≡ former = subst (λ (number : ℕ). GrownBy number former c.loop-step.log) none all.0 in
    (same, subst (λ (history : History). KeepsHistory model history c.loop-step.kept) same all.1)
