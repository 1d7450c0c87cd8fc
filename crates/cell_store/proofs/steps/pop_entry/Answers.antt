use Rattle.std.proofs.Common.{sym, subst}
use Rattle.cell_store.specs.Trails.{TakesEntry, EndsWith, EndsOtherwise}
use Rattle.cell_store.proofs.Entries.{takes_added, takes_narrowed}
use Rattle.cell_store.proofs.steps.pop_entry.Goals as goal

pub returns-then-not-ends_with : goal.returns-then-not-ends_with
returns-then-not-ends_with c =
    takes_added c.args.step c.args.formers.now.items c.requires (subst (EndsOtherwise c.args.step) c.deref.ensures.value c.if-not-ends_with.ensures)

pub returns-in-Some : goal.returns-in-Some
returns-in-Some c =
    subst (λ entry. TakesEntry c.args.step c.args.formers.now.items entry c.pop.new.self.items) (sym c.entry_of.ensures)
    (takes_narrowed c.args.step c.args.formers.now.items c.pop.new.self.items c.in-Some.former c.requires
    (subst (EndsWith c.args.step) c.deref.ensures.value c.if-not-ends_with.ensures) c.in-Some.ensures.items)
