-- Globals come before the variables of tokens.
use Rattle.flaw_core.specs.Seeking.{IsGlobalFlaw, IsTokenValueFlaw, IsValueFlaw}
use Rattle.flaw_core.proofs.Finding.{found_left, finds_right}
use Rattle.flaw_core.proofs.Sorting.{values_are, global_is_value, of_token_is_value, global_first}
use Rattle.flaw_core.proofs.values.unbound_value.Goals as goal

pub returns-in-Some : goal.returns-in-Some
returns-in-Some g c =
    found_left (g.V.View.model c.args.view.now) (g.V.View.decisions c.args.view.now) (g.V.View.state c.args.view.now) (IsGlobalFlaw (g.V.View.state c.args.view.now)) (IsTokenValueFlaw (g.V.View.state c.args.view.now)) IsValueFlaw (values_are (g.V.View.model c.args.view.now) (g.V.View.decisions c.args.view.now) (g.V.View.state c.args.view.now) c.requires.least.least.closed.consistent.is_state) c.in-Some.flaw (global_is_value (g.V.View.model c.args.view.now) (g.V.View.decisions c.args.view.now) (g.V.View.state c.args.view.now) c.requires.least.least.closed.consistent.is_state) (global_first (g.V.View.state c.args.view.now)) c.in-Some.ensures

pub returns : goal.returns
returns g c =
    finds_right (g.V.View.model c.args.view.now) (g.V.View.decisions c.args.view.now) (g.V.View.state c.args.view.now) (IsGlobalFlaw (g.V.View.state c.args.view.now)) (IsTokenValueFlaw (g.V.View.state c.args.view.now)) IsValueFlaw (values_are (g.V.View.model c.args.view.now) (g.V.View.decisions c.args.view.now) (g.V.View.state c.args.view.now) c.requires.least.least.closed.consistent.is_state) _ (of_token_is_value (g.V.View.model c.args.view.now) (g.V.View.decisions c.args.view.now) (g.V.View.state c.args.view.now) c.requires.least.least.closed.consistent.is_state) c.in_default.ensures c.unbound_of_tokens.ensures
