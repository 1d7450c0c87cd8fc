use Rattle.nddl_lowering_laws.proofs.Faultless.{rules_seen}
use Rattle.nddl_lowering_laws.proofs.faultless_laws.rules_name_what_is_seen.Goals as goal

pub returns : goal.returns
returns c = rules_seen
