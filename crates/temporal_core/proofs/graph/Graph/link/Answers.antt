use Rattle.std.proofs.Common.{◌≡◌, ℕ, ◌∷◌, ◌++◌, [], length, Option, Some, None, get_or, set, ap, ◌∙◌, subst, arith}
use Rattle.std.proofs.lemmas.List.{get_or_read}
use Rattle.temporal_core.specs.Network.{IsEdge}
use Rattle.temporal_core.proofs.Links.{linked}
use Rattle.temporal_core.proofs.graph.Graph.link.Goals as goal

pub returns : goal.returns
returns c = λ points edges graph.
    let old = c.args.self.now in
    let edge = c.args.edge in
    let joins = subst (λ n. IsEdge n edge) graph.points_count c.requires in
    let place : c.len-place.result ≡ length edges = omega (arith, old.edges.ok.0, ap length graph.list) in
    let read : c.index.result.now ≡ get_or old.latest.items edge.from None = get_or_read old.latest.items edge.from c.index.result.now (omega (arith, c.requires.from)) c.index.ensures None in
    linked points edges edge old (_) joins graph c.in_ok-push-2.ensures.items (c.in_ok-push.ensures.items ∙ ap (λ (link : Option ℕ). old.earlier.items ++ link ∷ []) read)
    (ap (λ n. set old.latest.items edge.from (Some n)) place)
