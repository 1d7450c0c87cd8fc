use Rattle.nddl_parser.proofs.OneReading.{one_reading}
use Rattle.nddl_parser.proofs.language_laws.each_text_is_read_in_one_way.Goals as goal

pub returns : goal.returns
returns c = one_reading
