-- One entry more has been looked at.
use Rattle.std.proofs.Common.{◌+◌, Err, sym, subst, arith}
use Rattle.std.proofs.lemmas.Result.{err_from_is_err_and}
use Rattle.model_core.specs.Block.{plain_entries}
use Rattle.db_store.specs.Stores.{Stored}
use Rattle.db_posting.proofs.Storing.{marks_both}
use Rattle.db_fixpoint.proofs.FollowedBranches.{LookedAt, looked_other, looked_branch, reads_later, branch_read, stays_through}
use Rattle.db_fixpoint.proofs.branches.follow_all.Goals as goal
use Rattle.db_fixpoint.proofs.branches.follow_all.Goals.{in-Branch+in_ok-follow, in_default}

pub follow-requires-clause-stands : goal.follow-requires-clause-stands
follow-requires-clause-stands c =
    let entries = c.args.entries.now in
    let loop = c.loop-place in (
      plain_entries entries,
      reads_later c.args.model.now c.args.block.now (plain_entries entries) loop.place c.args.store.now loop.store c.is_sound.ensures loop.invariant c.requires.readable,
      (
        c.in-Branch.then,
        c.in-Branch.otherwise,
        branch_read entries loop.place c.index-entries-place.result c.in-Branch.guard c.in-Branch.then c.in-Branch.otherwise (omega arith)
            c.index-entries-place.is c.in-Branch.is,
      ),
    )

pub returns-in_err-follow-clause-underway : goal.returns-in_err-follow-clause-underway
returns-in_err-follow-clause-underway c =
    let p = err_from_is_err_and c.from_residual.result c.from_residual.ensures.1 in
    rw (p.1, p.2)
    (stays_through c.args.model.now c.args.store.now c.loop-place.store c.follow.new.store c.loop-place.invariant.underway (Err c.in_err-follow.field-0.0) c.in_err-follow.ensures.underway)

pub loop-place-preserved : goal.loop-place-preserved
loop-place-preserved c =
    let model = c.args.model.now in
    let block = c.args.block.now in
    let entries = c.args.entries.now in
    let loop = c.loop-place in
    elim c.match-entry.branch [
      | in-Branch+in_ok-follow w ↦
          subst (λ (stored : Stored). LookedAt model block (plain_entries entries) (loop.place + 1) c.args.store.now stored) (sym w.store-is)
          (looked_branch model block entries c.args.store.now loop.store w.follow.new.store c.is_sound.ensures loop.place c.index-entries-place.result (omega arith) c.index-entries-place.is loop.invariant
          w.in-Branch.guard w.in-Branch.then w.in-Branch.otherwise w.in-Branch.is w.is_sound-in-Branch.ensures
          w.in_ok-follow.ensures.underway w.in_ok-follow.ensures.followed w.in_ok-follow.ensures.tokens w.in_ok-follow.ensures.adds w.in_ok-follow.ensures.marks)
      | in_default w ↦
          subst (λ (stored : Stored). LookedAt model block (plain_entries entries) (loop.place + 1) c.args.store.now stored) (sym w.store-is)
          (looked_other model block entries c.args.store.now loop.store loop.store c.is_sound.ensures loop.place c.index-entries-place.result (omega arith) c.index-entries-place.is loop.invariant
          w.in_default.not-Branch)
    ]

pub returns-clause-underway : goal.returns-clause-underway
returns-clause-underway c = λ followed decisions unfolded due under none. c.loop-place.invariant.underway followed decisions unfolded due under

pub returns-clause-followed : goal.returns-clause-followed
returns-clause-followed c = λ place guard then otherwise below stands. c.loop-place.invariant.followed place guard then otherwise (omega (arith, below)) stands

pub returns-in_err-follow-clause-marks : goal.returns-in_err-follow-clause-marks
returns-in_err-follow-clause-marks c =
    marks_both c.args.store.now c.loop-place.store c.follow.new.store c.loop-place.invariant.marks c.in_err-follow.ensures.marks
