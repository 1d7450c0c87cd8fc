use Rattle.std.proofs.Common.{None, sym, subst}
use Rattle.db_store.specs.Puts.{FindsItem}
use Rattle.db_store.specs.Stores.{Stored, snapshot_of, variable_names}
use Rattle.token_store.specs.Tokens.{tokens_now}
use Rattle.db_store.proofs.Naming.{named_nowhere, named_by_key}
use Rattle.db_store.proofs.store.Store.find_named.Goals as goal

pub returns-in_err-key : goal.returns-in_err-key
returns-in_err-key c =
    let store = c.self.inside in
    let nowhere = named_nowhere (tokens_now store.tokens) store.variables c.self.invariant.placed c.args.name.now c.in_err-key.ensures in
    subst (FindsItem (variable_names (snapshot_of c.args.self.now)) c.args.name.now) (sym c.from_residual.ensures)
    (subst (λ (stored : Stored). FindsItem (variable_names (snapshot_of stored)) c.args.name.now None) c.self.view_is nowhere)

pub returns : goal.returns
returns c =
    let store = c.self.inside in
    let found = subst (λ (stored : Stored). FindsItem stored.keys c.in_ok-key.key c.find_variable.result) (sym c.self.view_is) c.find_variable.ensures in
    subst (λ (stored : Stored). FindsItem (variable_names (snapshot_of stored)) c.args.name.now c.find_variable.result) c.self.view_is
    (named_by_key (tokens_now store.tokens) store.variables c.self.invariant.placed c.args.name.now c.in_ok-key.key c.in_ok-key.ensures c.find_variable.result found)
