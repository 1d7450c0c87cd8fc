use Rattle.nddl_laws.proofs.TypeAnswers.{one_answer}
use Rattle.nddl_laws.proofs.type_laws.files_have_one_answer.Goals as goal

pub returns : goal.returns
returns c = one_answer
