use Rattle.std.proofs.Common.{rules}
use Rattle.script_lang.specs.Words.{words_of}
use Rattle.script_lang.specs.declared.verb.Verb.TheVariants as verbs
use Rattle.script_lang.proofs.Commands.{keeps_for, told_for}
use Rattle.script_lang.proofs.line.read_command.Goals as goal

pub returns-in-Specify : goal.returns-in-Specify
returns-in-Specify c = keeps_for c.args.verb verbs.Specify (words_of c.args.rest.now) c.name_and_value.result c.map.result _ c.in-Specify.is (λ asked. tt) (λ asked command made. search rules) c.name_and_value.ensures c.map.ensures.cases

pub returns-in-Activate : goal.returns-in-Activate
returns-in-Activate c = keeps_for c.args.verb verbs.Activate (words_of c.args.rest.now) c.one_name.result c.map-in-Activate.result _ c.in-Activate.is (λ asked. tt) (λ asked command made. search rules) c.one_name.ensures c.map-in-Activate.ensures.cases

pub returns-in-Merge : goal.returns-in-Merge
returns-in-Merge c = keeps_for c.args.verb verbs.Merge (words_of c.args.rest.now) c.two_names.result c.map-in-Merge.result _ c.in-Merge.is (λ asked. tt) (λ asked command made. search rules) c.two_names.ensures c.map-in-Merge.ensures.cases

pub returns-in-Reject : goal.returns-in-Reject
returns-in-Reject c = keeps_for c.args.verb verbs.Reject (words_of c.args.rest.now) c.one_name-in-Reject.result c.map-in-Reject.result _ c.in-Reject.is (λ asked. tt) (λ asked command made. search rules) c.one_name-in-Reject.ensures c.map-in-Reject.ensures.cases

pub returns-in-Order : goal.returns-in-Order
returns-in-Order c = keeps_for c.args.verb verbs.Order (words_of c.args.rest.now) c.two_names-in-Order.result c.map-in-Order.result _ c.in-Order.is (λ asked. tt) (λ asked command made. search rules) c.two_names-in-Order.ensures c.map-in-Order.ensures.cases

pub returns-in-Undo : goal.returns-in-Undo
returns-in-Undo c = told_for c.args.verb verbs.Undo (words_of c.args.rest.now) c.no_word.result c.map-in-Undo.result _ c.in-Undo.is (λ asked command made. search rules) c.no_word.ensures c.map-in-Undo.ensures.cases

pub returns-in-Domain : goal.returns-in-Domain
returns-in-Domain c = keeps_for c.args.verb verbs.Domain (words_of c.args.rest.now) c.one_name-in-Domain.result c.map-in-Domain.result _ c.in-Domain.is (λ asked. tt) (λ asked command made. search rules) c.one_name-in-Domain.ensures c.map-in-Domain.ensures.cases

pub returns-in-Tokens : goal.returns-in-Tokens
returns-in-Tokens c = told_for c.args.verb verbs.Tokens (words_of c.args.rest.now) c.no_word-in-Tokens.result c.map-in-Tokens.result _ c.in-Tokens.is (λ asked command made. search rules) c.no_word-in-Tokens.ensures c.map-in-Tokens.ensures.cases

pub returns-in-Decisions : goal.returns-in-Decisions
returns-in-Decisions c = told_for c.args.verb verbs.Decisions (words_of c.args.rest.now) c.no_word-in-Decisions.result c.map-in-Decisions.result _ c.in-Decisions.is (λ asked command made. search rules) c.no_word-in-Decisions.ensures c.map-in-Decisions.ensures.cases

pub returns-in-Flaws : goal.returns-in-Flaws
returns-in-Flaws c = told_for c.args.verb verbs.Flaws (words_of c.args.rest.now) c.no_word-in-Flaws.result c.map-in-Flaws.result _ c.in-Flaws.is (λ asked command made. search rules) c.no_word-in-Flaws.ensures c.map-in-Flaws.ensures.cases

pub returns-in-Why : goal.returns-in-Why
returns-in-Why c = told_for c.args.verb verbs.Why (words_of c.args.rest.now) c.no_word-in-Why.result c.map-in-Why.result _ c.in-Why.is (λ asked command made. search rules) c.no_word-in-Why.ensures c.map-in-Why.ensures.cases

pub returns-in-Cycle : goal.returns-in-Cycle
returns-in-Cycle c = told_for c.args.verb verbs.Cycle (words_of c.args.rest.now) c.no_word-in-Cycle.result c.map-in-Cycle.result _ c.in-Cycle.is (λ asked command made. search rules) c.no_word-in-Cycle.ensures c.map-in-Cycle.ensures.cases

pub returns-in-Quit : goal.returns-in-Quit
returns-in-Quit c = told_for c.args.verb verbs.Quit (words_of c.args.rest.now) c.no_word-in-Quit.result c.map-in-Quit.result _ c.in-Quit.is (λ asked command made. search rules) c.no_word-in-Quit.ensures c.map-in-Quit.ensures.cases
