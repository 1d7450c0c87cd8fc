use Rattle.std.proofs.Common.{◌∙◌}
use Rattle.db_resources.proofs.Fitting.{none_reservoir}
use Rattle.db_store.specs.Stores.{snapshot_of}
use Rattle.db_refusals.specs.Seeing.{seen_state}
use Rattle.db_resources.proofs.FittingStore.{levels_hold}
use Rattle.db_resources.proofs.Levels.{all_first, levels_still}
use Rattle.db_resources.proofs.store_fit.levels_fit_since.Goals as goal

pub are_levels_as_before-requires : goal.are_levels_as_before-requires
are_levels_as_before-requires c = (snapshot_of c.requires.fitted.former, c.requires.fitted.marked)

pub returns-then-not-has_reservoir : goal.returns-then-not-has_reservoir
returns-then-not-has_reservoir c =
    levels_hold c.args.model.now c.args.decisions.now c.args.store.now c.is_sound.ensures
    (c.settled_lists_decide_once.ensures c.args.model.now c.args.decisions.now c.requires.settled) c.requires.rest
    (none_reservoir c.args.model.now c.args.decisions.now (seen_state c.args.store.now) c.if-not-has_reservoir.ensures)

pub returns-then-branch : goal.returns-then-branch
returns-then-branch c =
    let fitted = c.requires.fitted in
    let same = c.in_ok-are_levels_as_before.ensures c.if-branch.true in
    let blocks = all_first c.args.mark.blocks c.args.store.now.blocks fitted.former.blocks fitted.marked.blocks (same.blocks ∙ fitted.blocks) in
    levels_still c.args.model.now c.args.decisions.now fitted.earlier c.args.last.now fitted.former c.args.store.now fitted.longer fitted.marked.is c.is_sound.ensures
    (c.settled_lists_decide_once.ensures c.args.model.now c.args.decisions.now c.requires.settled) fitted.rest c.requires.rest fitted.goes_on same.undecided blocks
    (same.actors (snapshot_of fitted.former) fitted.marked) fitted.least.closed.reservoirs
