use Rattle.std.proofs.Common.{subst, arith}
use Rattle.model_core.specs.declared.model.Model.{Model}
use Rattle.model_core.specs.TokenStates.{HasTokenState}
use Rattle.eu_name.proofs.Members.{get_within}
use Rattle.session_replies.specs.Lines.{IsTokenLine}
use Rattle.session_replies.proofs.Lining.{no_line, all_lines}
use Rattle.session_replies.proofs.Tokening.{token_listed, token_more}
use Rattle.session_replies.proofs.tokens.put_tokens.Goals as goal

pub loop-place-init : goal.loop-place-init
loop-place-init g c = no_line (IsTokenLine c.args.model.now (g.V.View.state c.args.view.now) (g.V.View.decisions c.args.view.now)) (g.V.View.state c.args.view.now).tokens c.args.out.now.items

pub token_of-requires : goal.token_of-requires
token_of-requires g c = get_within (g.V.View.state c.args.view.now).tokens c.loop-place.place (omega (arith, c.loop-place.auto.place-end, c.loop-place-test.true, c.count-place-end.ensures))

pub state_of-requires : goal.state_of-requires
state_of-requires g c = get_within (g.V.View.state c.args.view.now).tokens c.loop-place.place (omega (arith, c.loop-place.auto.place-end, c.loop-place-test.true, c.count-place-end.ensures))

pub put_token_line-requires-clause-there : goal.put_token_line-requires-clause-there
put_token_line-requires-clause-there g c = token_listed c.args.model.now (g.V.View.state c.args.view.now).tokens c.loop-place.place c.token_of.result.now c.requires.tokens c.token_of.ensures

pub put_token_line-requires-clause-state : goal.put_token_line-requires-clause-state
put_token_line-requires-clause-state g c =
    subst (λ (m : Model). HasTokenState m (g.V.View.state c.args.view.now) (g.V.View.decisions c.args.view.now) c.token_of.result.now c.state_of.result) c.requires.model (c.state_of.ensures c.token_of.result.now c.token_of.ensures)

pub loop-place-preserved : goal.loop-place-preserved
loop-place-preserved g c =
    token_more c.args.model.now (g.V.View.state c.args.view.now) (g.V.View.decisions c.args.view.now) c.loop-place.place c.token_of.result.now c.args.out.now.items c.loop-place.out.items c.put_token_line.new.out.items
    c.token_of.ensures c.in_ok-put_token_line.ensures c.loop-place.invariant

pub returns : goal.returns
returns g c =
    all_lines (IsTokenLine c.args.model.now (g.V.View.state c.args.view.now) (g.V.View.decisions c.args.view.now)) (g.V.View.state c.args.view.now).tokens c.loop-place.place c.args.out.now.items c.loop-place.out.items
    (omega (arith, c.loop-place.auto.place-end, c.count-place-end.ensures)) c.loop-place.invariant
