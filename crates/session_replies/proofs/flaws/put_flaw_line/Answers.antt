use Rattle.std.proofs.Common.{subst}
use Rattle.model_core.specs.declared.model.Model.{Model}
use Rattle.model_core.specs.Lawful.{IsLawful}
use Rattle.plan_defs.specs.Closure.{IsLeast}
use Rattle.session_replies.proofs.Flawing.{first_writable, flaw_line_put}
use Rattle.session_replies.proofs.flaws.put_flaw_line.Goals as goal

pub put_subject-requires-clause-lawful : goal.put_subject-requires-clause-lawful
put_subject-requires-clause-lawful g c = subst IsLawful c.requires.model c.requires.least.lawful

pub put_subject-requires-clause-there : goal.put_subject-requires-clause-there
put_subject-requires-clause-there g c =
    first_writable c.args.model.now (g.V.View.state c.args.view.now) (g.V.View.decisions c.args.view.now) c.args.flaw
    (subst (λ (m : Model). IsLeast m (g.V.View.decisions c.args.view.now) (g.V.View.state c.args.view.now)) c.requires.model c.requires.least.least) c.requires.first

pub returns : goal.returns
returns g c =
    flaw_line_put c.args.model.now (g.V.View.state c.args.view.now) c.args.flaw c.args.count c.args.out.now.items c.put_text.new.out.items c.put_subject.new.out.items c.put_count.new.out.items c.put_line_feed.new.out.items c.put_line_feed.result
    c.in_ok-put_text.ensures c.in_ok-put_subject.ensures c.in_ok-put_count.ensures c.put_line_feed.ensures
