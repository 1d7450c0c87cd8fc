use Rattle.std.proofs.Common.{◌≡◌, ◌<◌, slice_index_or, length, refl, ap, ◌∙◌, arith}
use Rattle.cell_store.proofs.Views.{shown-domains, get-read, get-missed}
use Rattle.cell_store.proofs.cells.Cells.get.Goals as goal

pub returns-in-Some : goal.returns-in-Some
returns-in-Some c =
    let cells = c.self.inside.cells.items in
    let found = c.in-Some.found.now in
    let lookup = c.in-Some.ensures.lookup in
    let below : c.args.cell < length cells = omega (arith, lookup.3.0, ap length c.deref.ensures.value) in
    let read : found ≡ slice_index_or cells c.args.cell found = lookup.1 ∙ ap (λ list. slice_index_or list c.args.cell found) c.deref.ensures.value in
    get-read cells c.args.self.now c.args.cell found found.domain (shown-domains cells _ c.args.self.now c.self.view_is) below read refl

pub returns-in-None : goal.returns-in-None
returns-in-None c =
    let cells = c.self.inside.cells.items in
    get-missed cells c.args.self.now c.args.cell (shown-domains cells _ c.args.self.now c.self.view_is)
    (λ below. let bad = c.in-None.ensures.lookup.2 (omega (arith, below, ap length c.deref.ensures.value)) in cc)
