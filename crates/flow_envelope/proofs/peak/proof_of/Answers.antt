use Rattle.std.proofs.Common.{◌≡◌, List, w32, to_z, of_z, sym, ◌∙◌, subst, arith}
use Rattle.std.specs.Prelude.{All, IfOk}
use Rattle.std.proofs.lemmas.Int.{ints}
use Rattle.flow_envelope.specs.declared.certain.Certainty.{Certainty}
use Rattle.flow_envelope.specs.Peak.{IsChange, IsPeak}
use Rattle.flow_envelope.specs.Certain.{AreCertain}
use Rattle.flow_envelope.proofs.peak.proof_of.Goals as goal

pub certainties-requires-clause-count : goal.certainties-requires-clause-count
certainties-requires-clause-count c = c.requires.ends.least.count ∙ sym c.requires.ends.greatest.count

pub certainties-requires-clause-changes : goal.certainties-requires-clause-changes
certainties-requires-clause-changes c = subst (λ n. All (IsChange n) c.args.changes.now) (sym c.requires.ends.least.count) c.requires.changes

pub proof_with-requires-clause-certain : goal.proof_with-requires-clause-certain
proof_with-requires-clause-certain c =
    subst (λ (list : List Certainty). AreCertain c.args.edges.now.edges c.args.changes.now (to_z w32 (of_z w32 c.args.at)) list) (sym c.as_slice.ensures.value) (c.in_ok-certain.ensures c.args.edges.now c.requires.ends)

pub returns : goal.returns
returns c =
    let at : to_z w32 (of_z w32 c.args.at) ≡ c.args.at = omega (arith, ints) in
    subst (λ z. IfOk c.proof_with.result (IsPeak c.args.edges.now c.args.changes.now z)) at c.proof_with.ensures
