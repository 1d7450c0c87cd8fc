use Rattle.token_store.proofs.Past.{names_stay}
use Rattle.token_store.proofs.tokens.Tokens.names_stay.Goals as goal

pub returns : goal.returns
returns c = names_stay c.self.inside.tokens.entries _ c.args.self.now c.self.view_is
