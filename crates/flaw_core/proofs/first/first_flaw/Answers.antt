-- One sort comes before the others.
use Rattle.flaw_core.specs.Seeking.{IsTokenFlaw, IsLaterFlaw, IsAnyFlaw}
use Rattle.flaw_core.proofs.Finding.{found_left, finds_right}
use Rattle.flaw_core.proofs.Sorting.{tokens_first, any_sort}
use Rattle.flaw_core.proofs.first.first_flaw.Goals as goal

pub returns-in-Some : goal.returns-in-Some
returns-in-Some g c = found_left (g.V.View.model c.args.view.now) (g.V.View.decisions c.args.view.now) (g.V.View.state c.args.view.now) IsTokenFlaw IsLaterFlaw IsAnyFlaw (λ flaw sought has. any_sort flaw) c.in-Some.flaw (λ flaw sought. tt) tokens_first c.in-Some.ensures

pub returns : goal.returns
returns g c = finds_right (g.V.View.model c.args.view.now) (g.V.View.decisions c.args.view.now) (g.V.View.state c.args.view.now) IsTokenFlaw IsLaterFlaw IsAnyFlaw (λ flaw sought has. any_sort flaw) _ (λ flaw sought. tt) c.in_default.ensures c.later_flaw.ensures
