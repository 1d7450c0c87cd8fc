use Rattle.std.proofs.Common.{refl}
use Rattle.model_core.specs.Names.{NamesVariable}
use Rattle.script_lang.proofs.Arguing.{no_variable_said}
use Rattle.script_lang.proofs.Asked.{none_is, NamesNoVariable}
use Rattle.script_lang.proofs.arguments.variable_said.Goals as goal

pub returns : goal.returns
returns c = (
  no_variable_said c.args.model.now c.args.word.now c.as_bytes.result.now c.in-Ok.text c.as_bytes.ensures c.in-Ok.ensures
      (none_is (NamesNoVariable c.args.model.now c.in-Ok.text) (NamesVariable c.args.model.now c.in-Ok.text) c.in_ok-found.found c.in-None.is c.in_ok-found.ensures),
  refl,
)
