use Rattle.std.proofs.Common.{refl, codes}
use Rattle.model_core.specs.declared.view.TokenState.TheVariants as standing
use Rattle.session_replies.proofs.Tokening.{token_listed, plain_state, merged_state}
use Rattle.session_replies.proofs.tokens.put_state.Goals as goal

pub token_of-requires : goal.token_of-requires
token_of-requires g c = c.requires.there c.in-Merged.place c.in-Merged.is

pub put_on_token-requires-clause-there : goal.put_on_token-requires-clause-there
put_on_token-requires-clause-there g c = token_listed c.args.model.now (g.V.View.state c.args.view.now).tokens c.in-Merged.place c.token_of.result.now c.requires.tokens c.token_of.ensures

pub returns-in-Inactive : goal.returns-in-Inactive
returns-in-Inactive g c =
    plain_state c.args.model.now (g.V.View.state c.args.view.now) c.args.state standing.Inactive (codes "inactive") c.args.out.now.items c.put_text.new.out.items c.put_text.result c.in-Inactive.is refl c.put_text.ensures

pub returns-in-Active : goal.returns-in-Active
returns-in-Active g c =
    plain_state c.args.model.now (g.V.View.state c.args.view.now) c.args.state standing.Active (codes "active") c.args.out.now.items c.put_text-in-Active.new.out.items c.put_text-in-Active.result c.in-Active.is refl c.put_text-in-Active.ensures

pub returns-in-Fact : goal.returns-in-Fact
returns-in-Fact g c =
    plain_state c.args.model.now (g.V.View.state c.args.view.now) c.args.state standing.Fact (codes "fact") c.args.out.now.items c.put_text-in-Fact.new.out.items c.put_text-in-Fact.result c.in-Fact.is refl c.put_text-in-Fact.ensures

pub returns-in-Merged : goal.returns-in-Merged
returns-in-Merged g c =
    merged_state c.args.model.now (g.V.View.state c.args.view.now) c.args.state c.in-Merged.place c.token_of.result.now c.args.out.now.items c.put_on_token.new.out.items c.put_on_token.result c.in-Merged.is c.token_of.ensures c.put_on_token.ensures

pub returns-in-Rejected : goal.returns-in-Rejected
returns-in-Rejected g c =
    plain_state c.args.model.now (g.V.View.state c.args.view.now) c.args.state standing.Rejected (codes "rejected") c.args.out.now.items c.put_text-in-Rejected.new.out.items c.put_text-in-Rejected.result c.in-Rejected.is refl c.put_text-in-Rejected.ensures
