use Rattle.std.proofs.Common.{◌≡◌, ◌+◌, ◌++◌, ◌∷◌, [], Ok, reverse, length, length-append, refl, sym, ap, ◌∙◌, subst, arith}
use Rattle.std.proofs.lemmas.List.{reverse-append, length-reverse}
use Rattle.cell_store.specs.declared.trail.Cell.{Cell}
use Rattle.cell_store.specs.declared.trail.Entry.TheVariants.{Added}
use Rattle.cell_store.specs.Cells.{AddsCell}
use Rattle.cell_store.specs.Kept.{IsKept, view_of}
use Rattle.cell_store.proofs.Views.{added_one}
use Rattle.cell_store.proofs.cells.Cells.new_cell.Goals as goal

pub invariant_of-self-2 : goal.invariant_of-self-2
invariant_of-self-2 c =
    let cells = c.self.inside.cells.items in
    let trail = c.self.inside.trail in
    let new : Cell = record { domain = c.args.domain; stamp = 0; saved = c.len.result } in
    let turned : reverse c.add.new.self ≡ Added ∷ reverse trail = ap reverse c.in_ok-add.ensures.ok ∙ reverse-append trail (Added ∷ []) in
    let whole : c.push_reserved.new.self.items ≡ cells ++ new ∷ [] = c.push_reserved.ensures.items ∙ ap (λ list. list ++ new ∷ []) c.in_ok-reserve.ensures.items in
    let long : c.len.result ≡ length (reverse trail) + 1 = omega (arith, c.len.ensures, ap length c.in_ok-add.ensures.ok, length-append trail (Added ∷ []), length-reverse trail) in
    subst (λ list. IsKept list (reverse c.add.new.self)) (sym whole) (subst (IsKept (cells ++ new ∷ [])) (sym turned) (added_one cells (reverse trail) new c.self.invariant long refl).0)

pub returns : goal.returns
returns c =
    let cells = c.self.inside.cells.items in
    let trail = c.self.inside.trail in
    let new : Cell = record { domain = c.args.domain; stamp = 0; saved = c.len.result } in
    let turned : reverse c.add.new.self ≡ Added ∷ reverse trail = ap reverse c.in_ok-add.ensures.ok ∙ reverse-append trail (Added ∷ []) in
    let whole : c.push_reserved.new.self.items ≡ cells ++ new ∷ [] = c.push_reserved.ensures.items ∙ ap (λ list. list ++ new ∷ []) c.in_ok-reserve.ensures.items in
    let long : c.len.result ≡ length (reverse trail) + 1 = omega (arith, c.len.ensures, ap length c.in_ok-add.ensures.ok, length-append trail (Added ∷ []), length-reverse trail) in
    let adds = (added_one cells (reverse trail) new c.self.invariant long refl).1 in
    let count : c.len-number.result ≡ length cells = c.len-number.ensures ∙ omega (arith, c.in_ok-reserve.ensures.len, c.self.inside.cells.ok.0) in
    subst (λ old. AddsCell c.args.domain old (Ok c.len-number.result) (view_of c.push_reserved.new.self.items (reverse c.add.new.self))) c.self.view_is
    (subst (λ n. AddsCell c.args.domain (view_of cells (reverse trail)) (Ok n) (view_of c.push_reserved.new.self.items (reverse c.add.new.self))) (sym count)
    (subst (λ list. AddsCell c.args.domain (view_of cells (reverse trail)) (Ok (length cells)) (view_of list (reverse c.add.new.self))) (sym whole)
    (subst (λ list. AddsCell c.args.domain (view_of cells (reverse trail)) (Ok (length cells)) (view_of (cells ++ new ∷ []) list)) (sym turned) adds)))
