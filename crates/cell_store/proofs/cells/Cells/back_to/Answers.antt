use Rattle.std.proofs.Common.{reverse, length, ap, arith}
use Rattle.std.proofs.lemmas.List.{length-reverse}
use Rattle.cell_store.specs.Kept.{cell_domains}
use Rattle.cell_store.proofs.Rewriting.{length-past_of}
use Rattle.cell_store.proofs.cells.Cells.back_to.Goals as goal

pub go_back-requires-clause-long : goal.go_back-requires-clause-long
go_back-requires-clause-long c =
    let trail = c.self.inside.trail in
    omega (
      arith,
      c.requires,
      ap (λ view. length view.past) c.self.view_is,
      length-past_of (cell_domains c.self.inside.cells.items) (reverse trail),
      length-reverse trail,
      c.mark.view_is,
    )
