use Rattle.std.proofs.Common.{map, rules}
use Rattle.run_words.proofs.Asking.{no_verb_of}
use Rattle.run_words.proofs.request.request_of.Goals as goal

pub returns-in-None : goal.returns-in-None
returns-in-None c = no_verb_of (map (λ word. word.now) c.args.words.now) _ (map (λ word. word.now) c.in-Some.rest.now) c.in-None.ensures (search rules)
