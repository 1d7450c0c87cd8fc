-- The variable has a name, and from now on the block watches it.
use Rattle.std.proofs.Common.{subst, arith}
use Rattle.std.proofs.lemmas.List.{length-map}
use Rattle.constraint_net.specs.declared.constraint.NetArg.{NetArg}
use Rattle.db_store.specs.Keys.{named_variable}
use Rattle.db_posting.specs.Origins.{content_now, origin_context}
use Rattle.db_posting.specs.Terms.{IsTermArgument}
use Rattle.db_fixpoint.proofs.Posting.{variable_below, term_watched}
use Rattle.db_fixpoint.proofs.watching.watch_term.Goals as goal

pub watch-requires-clause-variable : goal.watch-requires-clause-variable
watch-requires-clause-variable c =
    let content = content_now c.args.store.now in
    let context = origin_context content.tokens c.args.origin in
    let is = subst (λ (arg : NetArg). IsTermArgument content context c.args.term arg) c.in-Var.is c.in_ok-variable.ensures in
    let below = variable_below content context c.args.term c.in-Var.variable is c.requires.stands in
    omega (arith, below, length-map c.args.store.now.keys (named_variable content.tokens))

pub returns-in-Var-clause-watched : goal.returns-in-Var-clause-watched
returns-in-Var-clause-watched c =
    let content = content_now c.args.store.now in
    let context = origin_context content.tokens c.args.origin in
    let is = subst (λ (arg : NetArg). IsTermArgument content context c.args.term arg) c.in-Var.is c.in_ok-variable.ensures in
    term_watched c.args.store.now c.watch.new.self c.args.number c.in-Var.variable context c.args.term is c.watch.result c.watch.ensures.ok
