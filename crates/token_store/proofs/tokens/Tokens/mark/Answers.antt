use Rattle.std.proofs.Common.{reverse, length, ap, arith}
use Rattle.std.proofs.lemmas.List.{length-reverse}
use Rattle.token_store.proofs.Past.{length-past}
use Rattle.token_store.proofs.tokens.Tokens.mark.Goals as goal

pub returns : goal.returns
returns c =
    let trail = c.self.inside.trail.items in
    omega (arith, c.len.ensures, length-past c.self.inside.tokens.entries (reverse trail), ap length c.self.view_is, length-reverse trail, c.self.inside.trail.ok.0)
