use Rattle.std.proofs.Common.{◌∷◌, ◌++◌, [], refl, ap, ◌∙◌}
use Rattle.cell_store.specs.declared.steps.Former.{Former}
use Rattle.cell_store.specs.declared.trail.Entry.TheVariants.{Narrowed}
use Rattle.cell_store.proofs.Entries.{pushed_narrowed}
use Rattle.cell_store.proofs.steps.Trail.narrow.Goals as goal

pub invariant_of-self-2 : goal.invariant_of-self-2
invariant_of-self-2 c =
    let trail = c.self.inside in
    let former : Former = record { domain = c.in_ok-domain.domain; saved = c.args.saved; cell = c.in_ok-number.number; step = trail.count } in
    (pushed_narrowed trail.count c.in_ok-count.count trail.formers.items c.push_reserved.new.self.items former c.args.self.now c.self.invariant c.self.view_is c.in_ok-count.ensures
    (c.push_reserved.ensures.items ∙ ap (λ list. list ++ former ∷ []) c.in_ok-reserve.ensures.items) refl).0

pub returns-clause-ok : goal.returns-clause-ok
returns-clause-ok c =
    let trail = c.self.inside in
    let former : Former = record { domain = c.in_ok-domain.domain; saved = c.args.saved; cell = c.in_ok-number.number; step = trail.count } in
    (pushed_narrowed trail.count c.in_ok-count.count trail.formers.items c.push_reserved.new.self.items former c.args.self.now c.self.invariant c.self.view_is c.in_ok-count.ensures
    (c.push_reserved.ensures.items ∙ ap (λ list. list ++ former ∷ []) c.in_ok-reserve.ensures.items) refl).1
    ∙ (λ i. c.args.self.now ++ Narrowed (c.in_ok-number.ensures.kept i) (c.in_ok-domain.ensures i) c.args.saved ∷ [])
