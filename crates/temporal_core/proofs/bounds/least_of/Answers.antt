use Rattle.std.proofs.Common.{◌<◌, MatchOption, IfOk, sym, subst}
use Rattle.temporal_core.specs.Schedule.{AreLeastValues}
use Rattle.temporal_core.specs.Satisfied.{IsSatisfiedGraph, HasPositiveCycle}
use Rattle.temporal_core.proofs.bounds.least_of.Goals as goal

pub unreachable-requires : goal.unreachable-requires
unreachable-requires c =
    c.requires.schedule (subst (λ answer. MatchOption answer (HasPositiveCycle c.args.edges.now) (IsSatisfiedGraph c.args.points c.args.edges.now)) c.in_default.is c.in_ok-satisfied.ensures)

pub least_values-requires-clause-some : goal.least_values-requires-clause-some
least_values-requires-clause-some c =
    let is = subst (λ answer. MatchOption answer (HasPositiveCycle c.args.edges.now) (IsSatisfiedGraph c.args.points c.args.edges.now)) c.in-Some.is c.in_ok-satisfied.ensures in
    subst (λ n. 0 < n) (sym is.values.count) c.requires.some

pub least_values-requires-clause-satisfied : goal.least_values-requires-clause-satisfied
least_values-requires-clause-satisfied c =
    let satisfied = c.in-Some.satisfied in
    let is = subst (λ answer. MatchOption answer (HasPositiveCycle c.args.edges.now) (IsSatisfiedGraph c.args.points c.args.edges.now)) c.in-Some.is c.in_ok-satisfied.ensures in
    subst (λ n. IsSatisfiedGraph n satisfied.graph.edges.items satisfied) (sym is.values.count) (subst (λ list. IsSatisfiedGraph c.args.points list satisfied) (sym is.graph.list) is)

pub returns-clause-values : goal.returns-clause-values
returns-clause-values c =
    let satisfied = c.in-Some.satisfied in
    let is = subst (λ answer. MatchOption answer (HasPositiveCycle c.args.edges.now) (IsSatisfiedGraph c.args.points c.args.edges.now)) c.in-Some.is c.in_ok-satisfied.ensures in
    subst (λ list. IfOk c.least_values.result (λ least. AreLeastValues c.args.points list least.items)) is.graph.list
    (subst (λ n. IfOk c.least_values.result (λ least. AreLeastValues n satisfied.graph.edges.items least.items)) is.values.count c.least_values.ensures.values)
