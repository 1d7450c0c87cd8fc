-- The entry at the place is the branch.
use Rattle.std.proofs.Common.{◌∙◌}
use Rattle.std.proofs.lemmas.Option.{slice_get_within, get_or_from_slice_get}
use Rattle.model_core.specs.declared.rule.Entry.TheVariants.{Branch}
use Rattle.rule_engine.proofs.Turning.{read_entry}
use Rattle.rule_engine.proofs.block.sides_at.Goals as goal

pub bounds-entries-place : goal.bounds-entries-place
bounds-entries-place c =
    let r = c.requires in
    slice_get_within c.args.entries.now c.args.place (Branch r.0 r.1.0 r.1.1) r.1.2

pub unreachable-requires : goal.unreachable-requires
unreachable-requires c =
    let r = c.requires in
    c.in_default.not-Branch r.0 r.1.0 r.1.1
    (c.index-entries-place.is ∙ get_or_from_slice_get c.args.entries.now c.args.place (Branch r.0 r.1.0 r.1.1) c.index-entries-place.result r.1.2)

pub returns : goal.returns
returns c =
    let r = c.requires in
    let within = slice_get_within c.args.entries.now c.args.place (Branch r.0 r.1.0 r.1.1) r.1.2 in (
      c.in-Branch.guard,
      read_entry c.args.entries.now c.args.place c.index-entries-place.result c.in-Branch.guard c.in-Branch.then c.in-Branch.otherwise within
          c.index-entries-place.is c.in-Branch.is,
    )
