use Rattle.std.proofs.Common.{List, sym, ◌∙◌, subst}
use Rattle.std.proofs.lemmas.Iterator.Adapters.{YieldsList-from_vec}
use Rattle.std.proofs.lemmas.Iterator.Consumers.{YieldsList-end}
use Rattle.std.proofs.lemmas.List.{map-id}
use Rattle.std.specs.Prelude.{IfOk, IsErr, MatchResult}
use Rattle.plan_text.specs.declared.statement.Statement.{Statement}
use Rattle.plan_core.specs.declared.gathering.Named.{Named}
use Rattle.plan_core.specs.Gathering.{said_of, Takes}
use Rattle.plan_core.proofs.Making.{IsTaken, none_taken_at, takes_if, all_values, all_lines}
use Rattle.plan_core.proofs.gathering.take_all.Goals as goal

pub loop-named-init : goal.loop-named-init
loop-named-init c = none_taken_at c.args.globals.now.items c.args.lines.now.items c.requires.no_globals c.requires.no_lines

pub loop-named-preserved : goal.loop-named-preserved
loop-named-preserved c =
    takes_if c.loop-named.yielded c.in-Some.named c.loop-named.going_on c.take_next-going_on.result c.loop-named.globals.items c.take_next-going_on.new.globals.items c.loop-named.lines.items c.take_next-going_on.new.lines.items
    (subst (λ (said : Statement). MatchResult c.loop-named.going_on (λ going_on. IfOk c.take_next-going_on.result (λ goes_on.
    Takes said going_on goes_on c.loop-named.globals.items c.take_next-going_on.new.globals.items c.loop-named.lines.items c.take_next-going_on.new.lines.items)) (λ none. IsErr c.take_next-going_on.result))
    c.statement_of.ensures c.take_next-going_on.ensures) c.loop-named.invariant

pub returns-in-Ok-clause-globals : goal.returns-in-Ok-clause-globals
returns-in-Ok-clause-globals c =
    let gives = c.into_iter-named-iterator.ensures.into_iter_gives in
    let whole = YieldsList-end (YieldsList-from_vec {s = c.into_iter-named-iterator.result} c.args.said.items gives.0 (gives.1 ∙ c.args.said.ok.0)) c.loop-named.yielded c.loop-named.named-iterator c.loop-named.yielded_by c.next.result c.next.new.self c.in-None.is c.next.ensures.steps in
    all_values (said_of c.args.said.items) c.in-Ok._goes_on c.loop-named.globals.items c.loop-named.lines.items
    (subst (λ (said : List Named). IsTaken (said_of said) c.in-Ok._goes_on c.loop-named.globals.items c.loop-named.lines.items) (sym (map-id c.loop-named.yielded) ∙ whole.0) (rw c.in-Ok.is at c.loop-named.invariant))

pub returns-in-Ok-clause-lines : goal.returns-in-Ok-clause-lines
returns-in-Ok-clause-lines c =
    let gives = c.into_iter-named-iterator.ensures.into_iter_gives in
    let whole = YieldsList-end (YieldsList-from_vec {s = c.into_iter-named-iterator.result} c.args.said.items gives.0 (gives.1 ∙ c.args.said.ok.0)) c.loop-named.yielded c.loop-named.named-iterator c.loop-named.yielded_by c.next.result c.next.new.self c.in-None.is c.next.ensures.steps in
    all_lines (said_of c.args.said.items) c.in-Ok._goes_on c.loop-named.globals.items c.loop-named.lines.items
    (subst (λ (said : List Named). IsTaken (said_of said) c.in-Ok._goes_on c.loop-named.globals.items c.loop-named.lines.items) (sym (map-id c.loop-named.yielded) ∙ whole.0) (rw c.in-Ok.is at c.loop-named.invariant))
