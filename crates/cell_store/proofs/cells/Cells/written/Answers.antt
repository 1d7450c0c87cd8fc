use Rattle.std.proofs.Common.{length, reverse, sym, ap, subst, arith}
use Rattle.std.proofs.lemmas.List.{length-reverse}
use Rattle.cell_store.specs.Cells.{Celled, IsStep}
use Rattle.cell_store.specs.Kept.{cell_domains}
use Rattle.cell_store.proofs.Rewriting.{length-past_of}
use Rattle.cell_store.proofs.Stepping.{step_is}
use Rattle.cell_store.proofs.cells.Cells.written.Goals as goal

pub written-requires : goal.written-requires
written-requires c =
    omega (
      arith,
      c.requires,
      ap (λ (cells : Celled). length cells.past) c.self.view_is,
      length-past_of (cell_domains c.self.inside.cells.items) (reverse c.self.inside.trail),
      length-reverse c.self.inside.trail,
    )

pub returns : goal.returns
returns c =
    let written = c.written.ensures in
    subst (IsStep c.args.step c.args.self.now) (sym written.1.1)
    (step_is c.self.inside.cells.items c.self.inside.trail c.args.self.now c.args.step written.0 c.self.invariant c.self.view_is written.1.0)
