use Rattle.std.proofs.Common.{◌≡◌, Some, slice_get, length, refl, sym}
use Rattle.std.proofs.lemmas.Option.{slice_get_read}
use Rattle.cell_store.proofs.Views.{one_found, saves}
use Rattle.cell_store.proofs.trail.meet_and_save.Goals as goal

pub returns : goal.returns
returns c =
    let cells = c.args.cells.now.items in
    let was = c.index_mut.result.now in
    let stood : slice_get cells c.args.cell ≡ Some was = slice_get_read cells (length cells) c.args.cell was refl c.requires c.index_mut.ensures.value in
    saves cells c.args.trail.now c.narrow.new.self c.take_back.new.trail c.args.cell c.args.to.now was c.meet_behind-change.new.self c.index-found.result.now c.meet_behind-change.result
    stood (sym (one_found cells c.args.cell was c.index-found.result.now c.requires stood c.index-found.ensures)) (rw c.len.ensures at c.meet_behind-change.ensures) c.in_ok-narrow.ensures.ok c.take_back.ensures
