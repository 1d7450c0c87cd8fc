use Rattle.std.proofs.Common.{◌<◌, length, slice_get, sym, ap, ◌∙◌, arith}
use Rattle.cell_store.specs.Trails.{entry_at, IsWritten}
use Rattle.cell_store.proofs.Entries.{length-entries, entry_get}
use Rattle.cell_store.proofs.steps.Trail.written.Goals as goal

pub returns : goal.returns
returns c =
    let trail = c.self.inside in
    let formers = trail.formers.items in
    let below : c.args.step < trail.count = omega (arith, c.requires, length-entries trail.count formers, ap length c.self.view_is) in
    let told : IsWritten (entry_at formers c.args.step) c.cell_written.result = rw (← c.deref.ensures.value) c.cell_written.ensures in (
      entry_at formers c.args.step,
      (ap (λ list. slice_get list c.args.step) (sym c.self.view_is) ∙ entry_get trail.count formers c.args.step below, told),
    )
