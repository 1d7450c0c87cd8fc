use Rattle.std.proofs.Common.{◌≡◌, ℕ, ◌-◌, sym, subst, arith}
use Rattle.model_core.specs.History.{History, standing}
use Rattle.db_history.specs.Kept.{KeepsHistory}
use Rattle.conflict_core.specs.Turns.{GrownBy}
use Rattle.conflict_core.proofs.Turning.{grown_length, leaves_behind}
use Rattle.conflict_core.proofs.turns.leave_something.Goals as goal

pub overflow_sub-len : goal.overflow_sub-len
overflow_sub-len c =
    let on = c.in_ok-take_admissible.ensures.on in
    let longer = grown_length on.number c.args.log.now c.take_admissible.new.log on.grown in
    omega (arith, c.len.ensures, c.len-before.ensures, longer)

pub take_back-requires : goal.take_back-requires
take_back-requires c =
    let on = c.in_ok-take_admissible.ensures.on in
    let longer = grown_length on.number c.args.log.now c.take_admissible.new.log on.grown in
    let count : c.len.result - c.len-before.result ≡ on.number = omega (arith, c.len.ensures, c.len-before.ensures, longer) in (
      c.args.model.now,
      c.args.log.now,
      subst (λ (number : ℕ). GrownBy number c.args.log.now c.take_admissible.new.log) (sym count) on.grown,
      c.in_ok-take_admissible.ensures.kept,
    )

pub returns : goal.returns
returns c =
    let on = c.in_ok-take_admissible.ensures.on in
    let kept = c.in_ok-take_admissible.ensures.kept in
    let longer = grown_length on.number c.args.log.now c.take_admissible.new.log on.grown in
    let count : c.len.result - c.len-before.result ≡ on.number = omega (arith, c.len.ensures, c.len-before.ensures, longer) in
    let grown = subst (λ (number : ℕ). GrownBy number c.args.log.now c.take_admissible.new.log) (sym count) on.grown in
    let back = c.take_back.ensures c.args.model.now c.args.log.now grown kept in
    record {
      leaves = leaves_behind c.args.model.now (standing c.args.log.now) c.args.decisions.now (standing c.take_admissible.new.log) c.fits-fit.result on.settles
          (c.fits-fit.ensures c.args.model.now (standing c.take_admissible.new.log) kept.list);
      same = back.0;
      kept = subst (λ (history : History). KeepsHistory c.args.model.now history c.take_back.new.kept) (sym back.0) back.1;
    }
