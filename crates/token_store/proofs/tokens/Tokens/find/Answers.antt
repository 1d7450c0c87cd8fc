use Rattle.std.proofs.Common.{Some, None, sym, subst}
use Rattle.token_store.specs.Tokens.{FindsToken}
use Rattle.token_store.proofs.Past.{shown}
use Rattle.token_store.proofs.tokens.Tokens.find.Goals as goal

pub returns-in-Some : goal.returns-in-Some
returns-in-Some c = subst (λ tokens. FindsToken tokens c.args.name.now (Some c.in-Some.place)) (sym (shown c.self.inside.tokens.entries _ c.args.self.now c.self.view_is)) c.in-Some.ensures

pub returns-in-None : goal.returns-in-None
returns-in-None c = subst (λ tokens. FindsToken tokens c.args.name.now None) (sym (shown c.self.inside.tokens.entries _ c.args.self.now c.self.view_is)) c.in-None.ensures
