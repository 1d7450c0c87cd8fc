use Rattle.std.proofs.Common.{Ok, refl, ap, subst}
use Rattle.std.specs.Prelude.{Contains}
use Rattle.constraint_net.specs.Networks.{Network}
use Rattle.db_store.specs.Stores.{Stored}
use Rattle.db_store.proofs.Following.{net_added}
use Rattle.db_store.proofs.Going.{key_marks}
use Rattle.db_store.proofs.Lists.{found_there, found_nowhere}
use Rattle.db_store.proofs.Steps.{variable_kept}
use Rattle.db_store.proofs.store.Store.add_variable.Goals as goal

pub returns-then-is_some-clause-put : goal.returns-then-is_some-clause-put
returns-then-is_some-clause-put c = (
  subst (λ (stored : Stored). Contains stored.keys c.args.key) c.self.view_is
      (found_there c.self.inside.variables c.args.key c.find.result c.find.ensures c.if-is_some.ensures),
  refl,
)

pub invariant_of-self-2 : goal.invariant_of-self-2
invariant_of-self-2 c =
    let added = c.in_ok-number in
    variable_kept _ c.args.self.now c.args.key c.args.domain added.number c.add_key.new.variables c.add_key.new.net c.self.view_is c.requires
    (found_nowhere c.self.inside.variables c.args.key c.find.result c.find.ensures c.if-is_some.ensures)
    added.ensures.domain added.ensures.added added.ensures.net c.self.invariant

pub returns-clause-marks : goal.returns-clause-marks
returns-clause-marks c =
    let added = c.in_ok-number in
    key_marks _ c.args.self.now c.args.key c.add_key.new.variables c.add_key.new.net c.self.view_is
    (c.marks_stay.ensures.added _ _ c.args.domain (Ok added.number) added.ensures.net)
    (net_added c.args.domain added.number _ c.add_key.new.net added.ensures.net) (ap (λ (net : Network). net.tables) added.ensures.net.1) added.ensures.added
