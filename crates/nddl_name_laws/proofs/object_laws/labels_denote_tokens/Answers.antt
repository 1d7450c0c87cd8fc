use Rattle.nddl_name_laws.proofs.Labels.{labels_denote}
use Rattle.nddl_name_laws.proofs.object_laws.labels_denote_tokens.Goals as goal

pub returns : goal.returns
returns c = labels_denote
