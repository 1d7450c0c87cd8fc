-- Behind its slots, all that the block names is there.
use Rattle.std.proofs.Common.{sym, subst}
use Rattle.std.proofs.lemmas.Result.{err_from_is_err_and}
use Rattle.model_core.specs.Block.{plain_entries}
use Rattle.model_core.specs.Entries.{Entries}
use Rattle.db_posting.specs.Tables.{HaveTables}
use Rattle.db_fixpoint.specs.Reading.{AreOpenEntries}
use Rattle.db_fixpoint.proofs.Naming.{has_entries, open_entries}
use Rattle.db_fixpoint.proofs.Whole.{reads_behind, stands_behind, unfolds_through, slots_fail, adds_behind, preds_behind}
use Rattle.db_posting.proofs.Storing.{marks_both}
use Rattle.db_fixpoint.proofs.unfolding.unfold_block.Goals as goal

pub entries_of-entries-requires-clause-there : goal.entries_of-entries-requires-clause-there
entries_of-entries-requires-clause-there c =
    let u = c.requires.underway in
    let found = has_entries c.args.model.now u.0 u.0 c.args.store.now c.args.number c.args.number u.1.0 u.1.1 c.args.block.now c.requires.block in
    (found.0, open_entries c.args.model.now u.0 u.0 c.args.store.now c.args.number c.args.number u.1.0 u.1.1 c.args.block.now c.requires.block found.0 found.1)

pub bring_slots-requires-clause-there : goal.bring_slots-requires-clause-there
bring_slots-requires-clause-there c =
    let u = c.requires.underway in
    let found = has_entries c.args.model.now u.0 u.0 c.args.store.now c.args.number c.args.number u.1.0 u.1.1 c.args.block.now c.requires.block in
    (found.0, open_entries c.args.model.now u.0 u.0 c.args.store.now c.args.number c.args.number u.1.0 u.1.1 c.args.block.now c.requires.block found.0 found.1)

pub read_entries-requires-clause-tables : goal.read_entries-requires-clause-tables
read_entries-requires-clause-tables c = subst (HaveTables c.args.model.now) (sym c.in_ok-bring_slots.ensures.adds.tables) c.requires.tables

pub read_entries-requires-clause-content : goal.read_entries-requires-clause-content
read_entries-requires-clause-content c =
    let u = c.requires.underway in
    (c.in_ok-bring_slots.ensures.underway u.0 u.0 c.args.number u.1.0 u.1.1 u.1.1.complete.known).justified.is_content

pub read_entries-requires-clause-block : goal.read_entries-requires-clause-block
read_entries-requires-clause-block c =
    let u = c.requires.underway in
    let found = has_entries c.args.model.now u.0 u.0 c.args.store.now c.args.number c.args.number u.1.0 u.1.1 c.args.block.now c.requires.block in
    let stand = open_entries c.args.model.now u.0 u.0 c.args.store.now c.args.number c.args.number u.1.0 u.1.1 c.args.block.now c.requires.block found.0 found.1 in
    stands_behind c.args.model.now c.args.number c.args.block.now found.0 c.args.store.now c.bring_slots.new.store c.is_sound.ensures c.requires.block stand
    c.in_ok-bring_slots.ensures.adds (c.in_ok-bring_slots.ensures.there found.0 stand)

pub read_entries-requires-clause-readable : goal.read_entries-requires-clause-readable
read_entries-requires-clause-readable c =
    let model = c.args.model.now in
    let block = c.args.block.now in
    let old = c.args.store.now in
    let u = c.requires.underway in
    let found = has_entries model u.0 u.0 old c.args.number c.args.number u.1.0 u.1.1 block c.requires.block in
    let first = open_entries model u.0 u.0 old c.args.number c.args.number u.1.0 u.1.1 block c.requires.block found.0 found.1 in
    let stand = subst (λ (e : Entries). AreOpenEntries model old block e) (sym (c.entries_of-entries.ensures.are found.0 first)) first in
    reads_behind model c.args.number block (plain_entries c.entries_of-entries.result.now) old c.bring_slots.new.store c.is_sound.ensures c.requires.block stand
    c.in_ok-bring_slots.ensures.adds (c.in_ok-bring_slots.ensures.there (plain_entries c.entries_of-entries.result.now) stand) c.requires.lawful u.0 u.1.0
    (c.in_ok-bring_slots.ensures.underway u.0 u.0 c.args.number u.1.0 u.1.1 u.1.1.complete.known)

pub read_entries-requires-clause-states : goal.read_entries-requires-clause-states
read_entries-requires-clause-states c =
    let u = c.requires.underway in
    (u.0, (c.in_ok-bring_slots.ensures.underway u.0 u.0 c.args.number u.1.0 u.1.1 u.1.1.complete.known).states)

pub returns-clause-unfolds : goal.returns-clause-unfolds
returns-clause-unfolds c =
    unfolds_through c.args.model.now c.args.number c.args.store.now c.bring_slots.new.store c.read_entries.new.store
    (λ decisions due under. c.in_ok-bring_slots.ensures.underway decisions decisions c.args.number due under under.complete.known) c.read_entries.result c.read_entries.ensures.unfolds

pub returns-clause-adds : goal.returns-clause-adds
returns-clause-adds c =
    adds_behind c.args.store.now c.bring_slots.new.store c.read_entries.new.store c.in_ok-bring_slots.ensures.adds c.read_entries.result c.read_entries.ensures.adds

pub returns-clause-preds : goal.returns-clause-preds
returns-clause-preds c =
    preds_behind c.args.model.now c.bring_slots.new.store c.read_entries.new.store c.in_ok-bring_slots.ensures.preds c.read_entries.result c.read_entries.ensures.tokens

pub returns-in_err-bring_slots-clause-unfolds : goal.returns-in_err-bring_slots-clause-unfolds
returns-in_err-bring_slots-clause-unfolds c =
    let p = err_from_is_err_and c.from_residual.result c.from_residual.ensures.1 in
    rw (p.1, p.2) (slots_fail c.args.model.now c.args.number c.args.store.now c.bring_slots.new.store c.in_err-bring_slots.field-0.0 c.in_err-bring_slots.ensures.underway)

pub returns-clause-marks : goal.returns-clause-marks
returns-clause-marks c = marks_both _ _ _ c.in_ok-bring_slots.ensures.marks c.read_entries.ensures.marks
