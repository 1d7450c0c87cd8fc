use Rattle.std.proofs.Common.{Some, None}
use Rattle.token_store.proofs.Past.{shown, read}
use Rattle.token_store.proofs.tokens.Tokens.state.Goals as goal

pub returns-in-Some : goal.returns-in-Some
returns-in-Some c =
    let tokens = c.self.inside.tokens.entries in
    read (λ token. token.1.state) tokens c.args.self.now c.args.place (Some (c.in-Some._name.now, c.in-Some.token.now)) (shown tokens _ c.args.self.now c.self.view_is) c.in-Some.ensures.entry

pub returns-in-None : goal.returns-in-None
returns-in-None c =
    let tokens = c.self.inside.tokens.entries in
    read (λ token. token.1.state) tokens c.args.self.now c.args.place None (shown tokens _ c.args.self.now c.self.view_is) c.in-None.ensures.entry
