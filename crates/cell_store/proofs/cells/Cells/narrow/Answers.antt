use Rattle.std.proofs.Common.{◌<◌, Ok, reverse, length, sym, ap, subst, arith}
use Rattle.cell_store.specs.Cells.{NarrowsCell}
use Rattle.cell_store.specs.Kept.{IsKept, view_of}
use Rattle.cell_store.proofs.Views.{within_cells, narrows_again, narrows_saving, one_found}
use Rattle.cell_store.proofs.cells.Cells.narrow.Goals as goal

pub index-requires : goal.index-requires
index-requires c = omega (arith, within_cells _ _ _ _ c.self.view_is c.requires.exists, c.self.inside.cells.ok.0)

pub meet_at-requires : goal.meet_at-requires
meet_at-requires c = within_cells _ _ _ _ c.self.view_is c.requires.exists

pub invariant_of-self : goal.invariant_of-self
invariant_of-self c =
    let cells = c.self.inside.cells.items in
    let trail = reverse c.self.inside.trail in
    let below = within_cells cells trail _ _ c.self.view_is c.requires.exists in
    let met = c.meet_at.ensures in
    let found = one_found cells c.args.cell met.was c.index.result.now below met.stood c.index.ensures in
    subst (λ list. IsKept list trail) (sym met.others)
    (narrows_again cells trail c.args.cell c.since.inside.place c.args.to.now met.was met.left c.meet_at.result c.self.invariant met.stood met.meets
    (omega (arith, c.if-index-since.true, ap (λ found. found.saved) found))).0

pub returns-then-index-since : goal.returns-then-index-since
returns-then-index-since c =
    let cells = c.self.inside.cells.items in
    let trail = reverse c.self.inside.trail in
    let below = within_cells cells trail _ _ c.self.view_is c.requires.exists in
    let met = c.meet_at.ensures in
    let found = one_found cells c.args.cell met.was c.index.result.now below met.stood c.index.ensures in
    subst (λ n. NarrowsCell c.args.cell c.args.to.now n c.args.self.now (Ok c.meet_at.result) (view_of c.meet_at.new.cells.items trail)) c.since.view_is
    (subst (λ old. NarrowsCell c.args.cell c.args.to.now c.since.inside.place old (Ok c.meet_at.result) (view_of c.meet_at.new.cells.items trail)) c.self.view_is
    (subst (λ list. NarrowsCell c.args.cell c.args.to.now c.since.inside.place (view_of cells trail) (Ok c.meet_at.result) (view_of list trail)) (sym met.others)
    (narrows_again cells trail c.args.cell c.since.inside.place c.args.to.now met.was met.left c.meet_at.result c.self.invariant met.stood met.meets
    (omega (arith, c.if-index-since.true, ap (λ found. found.saved) found))).1))

pub meet_and_save-requires : goal.meet_and_save-requires
meet_and_save-requires c = within_cells _ _ _ _ c.self.view_is c.requires.exists

pub invariant_of-self-2 : goal.invariant_of-self-2
invariant_of-self-2 c =
    (narrows_saving c.self.inside.cells.items c.self.inside.trail c.args.cell c.since.inside.place c.args.to.now c.meet_and_save.result
    (c.meet_and_save.new.cells.items, c.meet_and_save.new.trail) c.self.invariant
    (subst (λ n. n < length (view_of c.self.inside.cells.items (reverse c.self.inside.trail)).past) (sym c.since.view_is)
    (subst (λ view. c.args.since < length view.past) (sym c.self.view_is) c.requires.since)) c.meet_and_save.ensures).0

pub returns : goal.returns
returns c =
    subst (λ n. NarrowsCell c.args.cell c.args.to.now n c.args.self.now c.meet_and_save.result
    (view_of c.meet_and_save.new.cells.items (reverse c.meet_and_save.new.trail))) c.since.view_is
    (subst (λ old. NarrowsCell c.args.cell c.args.to.now c.since.inside.place old c.meet_and_save.result
    (view_of c.meet_and_save.new.cells.items (reverse c.meet_and_save.new.trail))) c.self.view_is
    (narrows_saving c.self.inside.cells.items c.self.inside.trail c.args.cell c.since.inside.place c.args.to.now c.meet_and_save.result
    (c.meet_and_save.new.cells.items, c.meet_and_save.new.trail) c.self.invariant
    (subst (λ n. n < length (view_of c.self.inside.cells.items (reverse c.self.inside.trail)).past) (sym c.since.view_is)
    (subst (λ view. c.args.since < length view.past) (sym c.self.view_is) c.requires.since)) c.meet_and_save.ensures).1)
