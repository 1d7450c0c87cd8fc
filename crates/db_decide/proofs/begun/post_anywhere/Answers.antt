use Rattle.std.proofs.Common.{◌≡◌, length, ap, arith}
use Rattle.std.proofs.lemmas.Result.{on_ok_weaker}
use Rattle.db_store.specs.Stores.{Stored}
use Rattle.db_decide.proofs.Saying.{said_anywhere, can_kept}
use Rattle.db_decide.proofs.begun.post_anywhere.Goals as goal

pub post_in_blocks-requires-clause-within : goal.post_in_blocks-requires-clause-within
post_in_blocks-requires-clause-within c =
    let same : length c.post_in_problem.new.store.blocks ≡ length c.args.store.now.blocks = ap (λ (s : Stored). length s.blocks) c.in_ok-post_in_problem.ensures.only in
    omega (arith, same, c.requires.within)

pub post_in_blocks-requires-clause-can : goal.post_in_blocks-requires-clause-can
post_in_blocks-requires-clause-can c =
    can_kept c.args.model.now c.args.unfolded c.args.store.now c.post_in_problem.new.store c.in_ok-post_in_problem.ensures.only c.requires.can

pub returns-clause-posted : goal.returns-clause-posted
returns-clause-posted c =
    on_ok_weaker c.post_in_blocks.result
    (said_anywhere c.args.model.now c.args.root c.args.unfolded c.args.store.now c.post_in_problem.new.store c.post_in_blocks.new.store c.in_ok-post_in_problem.ensures.only
    c.in_ok-post_in_problem.ensures.posted) c.post_in_blocks.ensures.posted
