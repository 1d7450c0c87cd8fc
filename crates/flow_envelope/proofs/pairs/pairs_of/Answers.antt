use Rattle.std.proofs.Common.{◌≡◌, ◌<◌, w32, to_z, of_z, subst, arith}
use Rattle.std.specs.Prelude.{⊤}
use Rattle.std.proofs.lemmas.Int.{ints}
use Rattle.flow_envelope.specs.Pairs.{ArePairs}
use Rattle.flow_envelope.proofs.Matching.{pairs_weaker}
use Rattle.flow_envelope.proofs.pairs.pairs_of.Goals as goal

pub returns : goal.returns
returns c =
    let edges = c.args.edges.now.edges in
    let changes = c.args.changes.now in
    let certain = c.args.certain.now in
    let at : to_z w32 (of_z w32 c.args.at) ≡ c.args.at = omega (arith, ints) in
    subst (λ z. ArePairs edges changes z certain (λ one other. ⊤) c.loop-adder.pairs.items) at
    (pairs_weaker edges changes (to_z w32 (of_z w32 c.args.at)) certain (λ one other. one < c.loop-adder.adder) (λ one other. ⊤) c.loop-adder.pairs.items
    (λ adder taker is new. omega (arith, is.adder_there, c.loop-adder-test.false)) c.loop-adder.invariant)
