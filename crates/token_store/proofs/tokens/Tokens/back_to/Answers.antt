use Rattle.std.proofs.Common.{length, reverse, ap, arith}
use Rattle.std.proofs.lemmas.List.{length-reverse}
use Rattle.token_store.proofs.Past.{length-past}
use Rattle.token_store.proofs.tokens.Tokens.back_to.Goals as goal

pub go_back-requires-clause-long : goal.go_back-requires-clause-long
go_back-requires-clause-long c =
    let trail = c.self.inside.trail.items in
    omega (
      arith,
      c.requires,
      ap length c.self.view_is,
      length-past c.self.inside.tokens.entries (reverse trail),
      length-reverse trail,
      c.self.inside.trail.ok.0,
      c.mark.view_is,
    )
