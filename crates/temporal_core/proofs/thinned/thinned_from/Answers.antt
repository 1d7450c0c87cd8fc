use Rattle.std.proofs.Common.{MatchOption, sym, subst}
use Rattle.std.specs.Prelude.{All}
use Rattle.temporal_core.specs.Network.{IsEdge}
use Rattle.temporal_core.specs.Satisfied.{IsSatisfiedGraph, HasPositiveCycle}
use Rattle.temporal_core.proofs.Thinning.{thin_joins, thinned_at_first, thin_fits}
use Rattle.temporal_core.proofs.thinned.thinned_from.Goals as goal

pub satisfy-requires-clause-edges : goal.satisfy-requires-clause-edges
satisfy-requires-clause-edges c =
    let thin = c.in_ok-thin.ensures in
    subst (All (IsEdge c.args.points)) (sym c.deref.ensures.value)
    (thin_joins c.args.points c.args.edges.now c.args.first c.in_ok-thin.thin.items thin.count thin.idle thin.behind c.requires.edges)

pub unreachable-requires : goal.unreachable-requires
unreachable-requires c =
    let thin = c.in_ok-thin.ensures in
    let answer = subst (λ list. MatchOption c.in_ok-thinned.field-0 (HasPositiveCycle list) (IsSatisfiedGraph c.args.points list)) c.deref.ensures.value c.in_ok-thinned.ensures in
    let found = subst (λ found. MatchOption found (HasPositiveCycle c.in_ok-thin.thin.items) (IsSatisfiedGraph c.args.points c.in_ok-thin.thin.items)) c.in_default.is answer in
    thin_fits c.args.points c.args.edges.now c.args.first c.in_ok-thin.thin.items thin.count thin.idle thin.behind c.requires.first found

pub returns : goal.returns
returns c =
    let thin = c.in_ok-thin.ensures in
    let answer = subst (λ list. MatchOption c.in_ok-thinned.field-0 (HasPositiveCycle list) (IsSatisfiedGraph c.args.points list)) c.deref.ensures.value c.in_ok-thinned.ensures in
    let satisfied = subst (λ found. MatchOption found (HasPositiveCycle c.in_ok-thin.thin.items) (IsSatisfiedGraph c.args.points c.in_ok-thin.thin.items)) c.in-Some.is answer in
    thinned_at_first c.args.points c.args.edges.now c.args.first c.in_ok-thin.thin.items thin.count thin.idle thin.behind c.requires.edges c.in-Some.thinned satisfied
