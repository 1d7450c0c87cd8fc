use Rattle.std.proofs.Common.{inr}
use Rattle.plan_resolve.proofs.Naming.{global_there, fresh_global, unknown_global}
use Rattle.plan_resolve.proofs.subjects.judge_global.Goals as goal

pub global_kind-requires : goal.global_kind-requires
global_kind-requires c = global_there c.args.model.now c.args.known.now.keys c.args.word.now c.in_ok-found.found c.in-Some.number c.in_ok-found.ensures c.in-Some.ensures

pub returns-in-Some : goal.returns-in-Some
returns-in-Some c =
    fresh_global c.args.model.now c.args.known.now.keys c.args.word.now c.in_ok-found.found c.in-Some.number c.global_kind.result c.in_ok-found.ensures c.in-Some.ensures c.global_kind.ensures

pub returns-in-None : goal.returns-in-None
returns-in-None c = inr (
    unknown_global c.args.model.now c.args.known.now.keys c.args.word.now c.in_ok-found.found c.requires c.texts_name_one.ensures.tokens c.texts_name_one.ensures.variables c.names_are_read_back.ensures.one
    c.in_ok-found.ensures c.in-None.ensures
    )
