use Rattle.std.proofs.Common.{length, reverse, ap, arith}
use Rattle.std.proofs.lemmas.List.{length-reverse}
use Rattle.cell_store.specs.Cells.{Celled}
use Rattle.cell_store.specs.Kept.{cell_domains}
use Rattle.cell_store.proofs.Rewriting.{length-past_of}
use Rattle.cell_store.proofs.Views.{place-view}
use Rattle.cell_store.proofs.cells.Cells.mark.Goals as goal

pub returns-clause-place : goal.returns-clause-place
returns-clause-place c = rw (← c.self.view_is) (place-view c.self.inside.cells.items (reverse c.self.inside.trail) _ (omega (arith, c.len.ensures, length-reverse c.self.inside.trail)))

pub returns-clause-newest : goal.returns-clause-newest
returns-clause-newest c =
    omega (
      arith,
      ap (λ (cells : Celled). length cells.past) c.self.view_is,
      length-past_of (cell_domains c.self.inside.cells.items) (reverse c.self.inside.trail),
      c.len.ensures,
      length-reverse c.self.inside.trail,
    )
