use Rattle.std.proofs.Common.{rules, sym, ◌∙◌}
use Rattle.script_lang.specs.Words.{words_of}
use Rattle.script_lang.proofs.Listed.{other_relation, relating_said}
use Rattle.script_lang.proofs.operands.relation_said.Goals as goal

pub returns-in-Some-relation_named : goal.returns-in-Some-relation_named
returns-in-Some-relation_named c =
    relating_said (words_of c.args.rest.now) (words_of c.in-Some.behind.now) c.in-Some.word.now c.in-Some-relation_named.relation _ (λ names pair made. search rules)
    c.in-Some.ensures.some (sym c.relation_named.ensures ∙ c.in-Some-relation_named.is) c.two_names.result c.map.result c.two_names.ensures c.map.ensures.cases

pub returns-in-None : goal.returns-in-None
returns-in-None c = λ found is.
    other_relation (words_of c.args.rest.now) (words_of c.in-Some.behind.now) c.in-Some.word.now found c.in-Some.ensures.some (sym c.relation_named.ensures ∙ c.in-None.is) is
