use Rattle.std.proofs.Common.{rules}
use Rattle.script_lang.specs.Words.{words_of}
use Rattle.script_lang.proofs.Commands.{reset_one, reset_two}
use Rattle.script_lang.proofs.line.read_reset.Goals as goal

pub returns-in-Some : goal.returns-in-Some
returns-in-Some c =
    reset_one (words_of c.args.rest.now) c.in-Some._word.now c.one_name.result c.map.result _ c.in-Some.ensures.some (λ name command made. search rules) c.one_name.ensures c.map.ensures.cases

pub returns-in-None : goal.returns-in-None
returns-in-None c =
    reset_two (words_of c.args.rest.now) c.two_names.result c.map-in-None.result _ c.in-None.ensures.none (λ names command made. search rules) c.two_names.ensures c.map-in-None.ensures.cases
