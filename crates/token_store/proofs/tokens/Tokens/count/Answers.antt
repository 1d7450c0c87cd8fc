use Rattle.std.proofs.Common.{length, sym, ap, ◌∙◌}
use Rattle.token_store.proofs.Past.{shown}
use Rattle.token_store.proofs.tokens.Tokens.count.Goals as goal

pub returns : goal.returns
returns c = c.len.ensures.len ∙ ap length (sym (shown c.self.inside.tokens.entries _ c.args.self.now c.self.view_is))
