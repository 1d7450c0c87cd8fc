use Rattle.std.proofs.Common.{inr}
use Rattle.plan_resolve.proofs.Naming.{local_is_there, fresh_local, unknown_local}
use Rattle.plan_resolve.proofs.subjects.judge_local.Goals as goal

pub kind_of_local-kind-requires : goal.kind_of_local-kind-requires
kind_of_local-kind-requires c = local_is_there c.args.model.now c.args.known.now.keys c.args.word.now c.in_ok-found.found c.in-Some.name c.in_ok-found.ensures c.in-Some.ensures

pub returns-in-Some : goal.returns-in-Some
returns-in-Some c =
    fresh_local c.args.model.now c.args.known.now.keys c.args.word.now c.in_ok-found.found c.in-Some.name c.kind_of_local-kind.result c.in_ok-found.ensures c.in-Some.ensures c.kind_of_local-kind.ensures

pub returns-in-None : goal.returns-in-None
returns-in-None c = inr (
    unknown_local c.args.model.now c.args.known.now.keys c.args.word.now c.in_ok-found.found c.requires c.texts_name_one.ensures.tokens c.texts_name_one.ensures.variables c.names_are_read_back.ensures.one
    c.in_ok-found.ensures c.in-None.ensures
    )
