use Rattle.run_words.proofs.Asking.{asks_once}
use Rattle.run_words.proofs.laws.words_ask_once.Goals as goal

pub returns : goal.returns
returns c = asks_once
