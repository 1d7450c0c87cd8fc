use Rattle.std.proofs.Common.{◌≡◌, true, false, subst, arith}
use Rattle.std.specs.Prelude.{MatchBool}
use Rattle.eu_name.proofs.Members.{get_below}
use Rattle.db_resources.specs.Completeness.{AreCertainAt}
use Rattle.eu_name.proofs.Places.{up_to}
use Rattle.db_resources.proofs.complete.are_all_certain.Goals as goal

pub returns-then-not-branch : goal.returns-then-not-branch
returns-then-not-branch c = λ all.
    let such = AreCertainAt c.args.model.now c.args.store.now c.loop-number.number in
    let uncertain : c.in_ok-is_certain_block.field-0 ≡ false = let is = c.if-not-branch.true in cc in
    (subst (λ answer. MatchBool answer such (such → ⊥)) uncertain c.in_ok-is_certain_block.ensures) (all c.loop-number.number)

pub loop-number-preserved : goal.loop-number-preserved
loop-number-preserved c =
    let such = AreCertainAt c.args.model.now c.args.store.now in
    let number = c.loop-number.number in
    let certain : c.in_ok-is_certain_block.field-0 ≡ true = let is = c.if-not-branch.false in cc in
    up_to such number c.loop-number.invariant
    (subst (λ answer. MatchBool answer (such number) (such number → ⊥)) certain c.in_ok-is_certain_block.ensures)

pub returns : goal.returns
returns c = λ number block entries at has.
    let below = get_below _ number block at in
    c.loop-number.invariant number (omega (arith, below, c.block_count-count.ensures, c.loop-number-test.false)) block entries at has
