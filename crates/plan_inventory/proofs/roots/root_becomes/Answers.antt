use Rattle.model_core.specs.Tokens.{root_token}
use Rattle.plan_values.specs.Keys.{key_token}
use Rattle.plan_inventory.proofs.Suiting.{becomes_answer, no_becoming}
use Rattle.plan_inventory.proofs.roots.root_becomes.Goals as goal

pub returns-in-Some : goal.returns-in-Some
returns-in-Some c =
    becomes_answer c.args.plan.now c.requires (key_token c.of_root.result) c.in-Some.line.now c.in-Some.ensures c.args.kind (root_token c.args.number) c.suits_kind.result c.of_root.ensures c.suits_kind.ensures

pub returns-in-None : goal.returns-in-None
returns-in-None c = no_becoming c.args.plan.now c.args.kind (key_token c.of_root.result) (root_token c.args.number) c.of_root.ensures c.in-None.ensures
