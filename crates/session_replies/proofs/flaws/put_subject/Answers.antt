use Rattle.session_replies.proofs.Flawing.{token_at, value_at, time_at, pair_at, here, token_subject, pair_subject, value_subject, time_subject}
use Rattle.session_replies.proofs.flaws.put_subject.Goals as goal

pub token_of-requires : goal.token_of-requires
token_of-requires g c = let known = token_at c.args.model.now (g.V.View.state c.args.view.now) c.args.flaw c.in-Token.place c.in-Token.is c.requires.there in (known.0, known.1.0)

pub put_on_token-requires-clause-there : goal.put_on_token-requires-clause-there
put_on_token-requires-clause-there g c =
    here c.args.model.now (g.V.View.state c.args.view.now) c.in-Token.place c.token_of.result.now (token_at c.args.model.now (g.V.View.state c.args.view.now) c.args.flaw c.in-Token.place c.in-Token.is c.requires.there) c.token_of.ensures

pub put_unbound-requires-clause-there : goal.put_unbound-requires-clause-there
put_unbound-requires-clause-there g c = value_at c.args.model.now (g.V.View.state c.args.view.now) c.args.flaw c.in-Value.at c.in-Value.is c.requires.there

pub token_of-first-requires : goal.token_of-first-requires
token_of-first-requires g c = let known = (pair_at c.args.model.now (g.V.View.state c.args.view.now) c.args.flaw c.in-Pair.one c.in-Pair.other c.in-Pair.is c.requires.there).0 in (known.0, known.1.0)

pub token_of-second-requires : goal.token_of-second-requires
token_of-second-requires g c = let known = (pair_at c.args.model.now (g.V.View.state c.args.view.now) c.args.flaw c.in-Pair.one c.in-Pair.other c.in-Pair.is c.requires.there).1 in (known.0, known.1.0)

pub put_on_tokens-requires-clause-one : goal.put_on_tokens-requires-clause-one
put_on_tokens-requires-clause-one g c =
    here c.args.model.now (g.V.View.state c.args.view.now) c.in-Pair.one c.token_of-first.result.now (pair_at c.args.model.now (g.V.View.state c.args.view.now) c.args.flaw c.in-Pair.one c.in-Pair.other c.in-Pair.is c.requires.there).0 c.token_of-first.ensures

pub put_on_tokens-requires-clause-other : goal.put_on_tokens-requires-clause-other
put_on_tokens-requires-clause-other g c =
    here c.args.model.now (g.V.View.state c.args.view.now) c.in-Pair.other c.token_of-second.result.now (pair_at c.args.model.now (g.V.View.state c.args.view.now) c.args.flaw c.in-Pair.one c.in-Pair.other c.in-Pair.is c.requires.there).1 c.token_of-second.ensures

pub put_unbound-requires-in-Time-clause-there : goal.put_unbound-requires-in-Time-clause-there
put_unbound-requires-in-Time-clause-there g c = time_at c.args.model.now (g.V.View.state c.args.view.now) c.args.flaw c.in-Time.at c.in-Time.is c.requires.there

pub returns-in-Token : goal.returns-in-Token
returns-in-Token g c =
    token_subject c.args.model.now (g.V.View.state c.args.view.now) c.args.flaw c.in-Token.place c.token_of.result.now c.args.out.now.items c.put_on_token.new.out.items c.put_on_token.result c.in-Token.is c.token_of.ensures c.put_on_token.ensures

pub returns-in-Value : goal.returns-in-Value
returns-in-Value g c = value_subject c.args.model.now (g.V.View.state c.args.view.now) c.args.flaw c.in-Value.at c.args.out.now.items c.put_unbound.new.out.items c.put_unbound.result c.in-Value.is c.put_unbound.ensures

pub returns-in-Pair : goal.returns-in-Pair
returns-in-Pair g c =
    pair_subject c.args.model.now (g.V.View.state c.args.view.now) c.args.flaw c.in-Pair.one c.in-Pair.other c.token_of-first.result.now c.token_of-second.result.now c.args.out.now.items c.put_on_tokens.new.out.items c.put_on_tokens.result
    c.in-Pair.is c.token_of-first.ensures c.token_of-second.ensures c.put_on_tokens.ensures

pub returns-in-Time : goal.returns-in-Time
returns-in-Time g c = time_subject c.args.model.now (g.V.View.state c.args.view.now) c.args.flaw c.in-Time.at c.args.out.now.items c.put_unbound-in-Time.new.out.items c.put_unbound-in-Time.result c.in-Time.is c.put_unbound-in-Time.ensures
