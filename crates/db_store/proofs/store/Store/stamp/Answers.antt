use Rattle.std.proofs.Common.{Some, sym, subst, rules, ◌<◌, ◌^◌}
use Rattle.std.specs.Prelude.{Contains, IfSome, MatchOption}
use Rattle.domain_core.specs.Domain.{Domain}
use Rattle.db_store.specs.Holding.{stored_of}
use Rattle.db_store.specs.Puts.{FindsItem}
use Rattle.db_store.specs.Stamps.{HasStamp}
use Rattle.db_store.specs.Stores.{Stored, snapshot_of, variable_names}
use Rattle.db_store.proofs.Following.{stamp_told}
use Rattle.db_store.proofs.store.Store.stamp.Goals as goal

pub returns : goal.returns
returns c =
    let inside = c.self.inside in
    let view = stored_of inside.tokens inside.variables inside.blocks.keys inside.watchers inside.net in
    let small : IfSome c.stamp.result (λ stamp. stamp < 2 ^ 64) = search rules in
    subst (λ (stored : Stored). MatchOption c.stamp.result (Contains (variable_names (snapshot_of stored)) c.args.name.now → ⊥) (λ stamp. (domain : Domain) × HasStamp stored c.args.name.now domain stamp)) c.self.view_is
    (stamp_told view c.args.name.now c.in_ok-number.number c.stamp.result c.self.invariant
    (subst (λ (stored : Stored). FindsItem (variable_names (snapshot_of stored)) c.args.name.now (Some c.in_ok-number.number)) (sym c.self.view_is) c.in_ok-number.ensures)
    small c.stamp.ensures)
