use Rattle.std.proofs.Common.{inr}
use Rattle.plan_resolve.proofs.Naming.{fresh_start, token_there, fresh_token, unknown_token}
use Rattle.plan_resolve.proofs.subjects.judge_token.Goals as goal

pub pred_of-pred-requires : goal.pred_of-pred-requires
pred_of-pred-requires c =
    let start = fresh_start c.args.model.now c.args.known.now.keys c.args.word.now c.in_ok-found.found c.in-Some.name c.in_ok-found.ensures c.in-Some.ensures in
    token_there c.args.model.now c.in-Some.name c.args.word.now start.0

pub returns-in-Some : goal.returns-in-Some
returns-in-Some c =
    let start = fresh_start c.args.model.now c.args.known.now.keys c.args.word.now c.in_ok-found.found c.in-Some.name c.in_ok-found.ensures c.in-Some.ensures in
    fresh_token c.args.model.now c.args.known.now.keys c.args.word.now c.in-Some.name c.pred_of-pred.result start c.pred_of-pred.ensures

pub returns-in-None : goal.returns-in-None
returns-in-None c = inr (
    unknown_token c.args.model.now c.args.known.now.keys c.args.word.now c.in_ok-found.found c.requires c.texts_name_one.ensures.tokens c.texts_name_one.ensures.variables c.names_are_read_back.ensures.one
    c.in_ok-found.ensures c.in-None.ensures
    )
