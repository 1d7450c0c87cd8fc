use Rattle.std.proofs.Common.{sym, subst}
use Rattle.token_store.specs.Tokens.{token_names}
use Rattle.token_store.specs.Orders.{AreChildren}
use Rattle.token_store.proofs.Past.{shown}
use Rattle.token_store.proofs.tokens.Tokens.children.Goals as goal

pub returns : goal.returns
returns c =
    let tokens = c.self.inside.tokens.entries in
    subst (λ list. AreChildren (token_names list) c.args.place c.of.result.now) (sym (shown tokens _ c.args.self.now c.self.view_is))
    (subst (AreChildren (token_names tokens) c.args.place) (sym c.of.ensures) (c.self.invariant.listed c.args.place))
