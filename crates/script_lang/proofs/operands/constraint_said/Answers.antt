use Rattle.std.proofs.Common.{rules, sym, ◌∙◌}
use Rattle.script_lang.specs.Words.{words_of}
use Rattle.script_lang.proofs.Listed.{other_constraint, posting_said}
use Rattle.script_lang.proofs.operands.constraint_said.Goals as goal

pub returns-in-Some-constraint_named : goal.returns-in-Some-constraint_named
returns-in-Some-constraint_named c =
    posting_said (words_of c.args.rest.now) (words_of c.in-Some.behind.now) c.in-Some.word.now c.in-Some-constraint_named.kind _ (λ found pair made. search rules)
    c.in-Some.ensures.some (sym c.constraint_named.ensures ∙ c.in-Some-constraint_named.is) c.arguments_said.result c.map.result c.arguments_said.ensures c.map.ensures.cases

pub returns-in-None : goal.returns-in-None
returns-in-None c = λ found is.
    other_constraint (words_of c.args.rest.now) (words_of c.in-Some.behind.now) c.in-Some.word.now found c.in-Some.ensures.some (sym c.constraint_named.ensures ∙ c.in-None.is) is
