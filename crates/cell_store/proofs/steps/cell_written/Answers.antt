use Rattle.std.proofs.Common.{◌≤◌, length, inl, inr}
use Rattle.std.proofs.lemmas.Bool.{cases_lt}
use Rattle.cell_store.proofs.Entries.{none_behind, found_there}
use Rattle.cell_store.proofs.steps.cell_written.Goals as goal

pub returns-in-None : goal.returns-in-None
returns-in-None c =
    let formers = c.args.formers.now in
    let past : length formers ≤ c.first_from.result = elim (cases_lt c.first_from.result (length formers)) [
      | inl below ↦ let bad = c.in-None.ensures.lookup.2 below in absurd (cc bad)
      | inr above ↦ above
    ] in
    none_behind c.args.step c.first_from.result formers c.first_from.ensures past

pub returns-in-Some : goal.returns-in-Some
returns-in-Some c =
    let lookup = c.in-Some.ensures.lookup in
    found_there c.requires.0 c.args.step c.first_from.result c.args.formers.now c.in-Some.former.now c.cell_at.result c.requires.1 c.first_from.ensures lookup.3.0 lookup.1 c.cell_at.ensures
