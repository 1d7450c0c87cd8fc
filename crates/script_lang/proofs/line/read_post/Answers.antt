use Rattle.std.proofs.Common.{rules, refl}
use Rattle.script_lang.specs.Words.{words_of}
use Rattle.script_lang.specs.declared.verb.Verb.TheVariants as verbs
use Rattle.script_lang.proofs.Commands.{keeps_for}
use Rattle.script_lang.proofs.line.read_post.Goals as goal

pub returns : goal.returns
returns c =
    keeps_for verbs.Post verbs.Post (words_of c.args.rest.now) c.constraint_said.result c.map.result _ refl (λ asked. tt) (λ asked command made. search rules)
    c.constraint_said.ensures c.map.ensures.cases
