-- One sort comes before the others.
use Rattle.std.proofs.Common.{inl, inr}
use Rattle.flaw_core.specs.Seeking.{IsPairFlaw, IsTimeFlaw, IsLateFlaw}
use Rattle.flaw_core.proofs.Finding.{found_left, finds_right}
use Rattle.flaw_core.proofs.Sorting.{pairs_first}
use Rattle.flaw_core.proofs.first.late_flaw.Goals as goal

pub returns-in-Some : goal.returns-in-Some
returns-in-Some g c = found_left (g.V.View.model c.args.view.now) (g.V.View.decisions c.args.view.now) (g.V.View.state c.args.view.now) IsPairFlaw IsTimeFlaw IsLateFlaw (λ flaw sought has. sought) c.in-Some.flaw (λ flaw sought. inl sought) pairs_first c.in-Some.ensures

pub returns : goal.returns
returns g c = finds_right (g.V.View.model c.args.view.now) (g.V.View.decisions c.args.view.now) (g.V.View.state c.args.view.now) IsPairFlaw IsTimeFlaw IsLateFlaw (λ flaw sought has. sought) _ (λ flaw sought. inr sought) c.in_default.ensures c.unbound_time.ensures
