use Rattle.std.proofs.Common.{length, ap, arith}
use Rattle.std.proofs.lemmas.List.{length-map}
use Rattle.cell_store.proofs.Views.{shown-domains}
use Rattle.cell_store.proofs.cells.Cells.len.Goals as goal

pub returns : goal.returns
returns c =
    let cells = c.self.inside.cells.items in
    omega (arith, c.len.ensures, ap length (shown-domains cells _ c.args.self.now c.self.view_is), length-map cells (λ cell. cell.domain), c.self.inside.cells.ok.0)
