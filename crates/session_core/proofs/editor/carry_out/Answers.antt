use Rattle.session_core.proofs.LineAnswers.{few_tokens}
use Rattle.session_core.proofs.editor.carry_out.Goals as goal

pub search_reply-requires : goal.search_reply-requires
search_reply-requires c = few_tokens c.requires.words.0 c.in-Search.steps c.in-Search.tokens (rw c.in-Search.is at c.requires.words.1)
