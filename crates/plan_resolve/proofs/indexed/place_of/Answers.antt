use Rattle.std.proofs.Common.{sym, ◌∙◌, arith}
use Rattle.plan_resolve.proofs.Indexing.{few_places, some_place, none_placed}
use Rattle.plan_resolve.proofs.indexed.place_of.Goals as goal

pub overflow_cast-result : goal.overflow_cast-result
overflow_cast-result c = omega (arith, few_places c.args.index.now c.args.name.now c.in-Some.place (sym c.in-Some.is ∙ c.find.ensures) c.requires)

pub returns-in-Some : goal.returns-in-Some
returns-in-Some c = some_place c.args.index.now c.args.name.now c.in-Some.place (sym c.in-Some.is ∙ c.find.ensures)

pub returns-in-None : goal.returns-in-None
returns-in-None c = none_placed c.args.index.now c.args.name.now (sym c.in-None.is ∙ c.find.ensures)
