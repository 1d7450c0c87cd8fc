use Rattle.std.proofs.Common.{◌≡◌, w32, to_z, of_z, sym, subst, arith}
use Rattle.std.specs.Prelude.{⊤}
use Rattle.std.proofs.lemmas.Int.{ints}
use Rattle.flow_envelope.specs.Pairs.{ArePairs}
use Rattle.flow_envelope.proofs.peak.begun.Goals as goal

pub returns : goal.returns
returns c =
    let edges = c.args.edges.now.edges in
    let changes = c.args.changes.now in
    let certain = c.args.certain.now in
    let at : to_z w32 (of_z w32 c.args.at) ≡ c.args.at = omega (arith, ints) in
    record {
      are_pairs = subst (λ z. ArePairs edges changes z certain (λ one other. ⊤) c.in_ok-flow.flow.pairs.items) at
          (subst (ArePairs edges changes (to_z w32 (of_z w32 c.args.at)) certain (λ one other. ⊤)) (sym c.in_ok-flow.ensures.pairs) c.in_ok-pairs.ensures);
      more = c.in_ok-flow.ensures.more;
      room = c.in_ok-flow.ensures.room;
    }
