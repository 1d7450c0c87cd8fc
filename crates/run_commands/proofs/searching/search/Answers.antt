use Rattle.std.proofs.Common.{sym, ap, subst}
use Rattle.plan_db.specs.Answers.{Held}
use Rattle.flaw_core.specs.declared.ending.SearchEnd.{SearchEnd}
use Rattle.run_commands.specs.Searching.{SearchesTo}
use Rattle.run_commands.proofs.Searched.{collapsed_searches}
use Rattle.run_commands.proofs.searching.search.Goals as goal

pub returns-in-Err-InInconsistent-clause-searches : goal.returns-in-Err-InInconsistent-clause-searches
returns-in-Err-InInconsistent-clause-searches c =
    let old = c.args.db.now.database in
    let new = c.solve.new.db.database in
    let solves = rw c.in-Err-InInconsistent.field-0-is at c.in-Err-InInconsistent.ensures.solves in
    subst (λ (end : SearchEnd). SearchesTo c.args.tokens c.args.budget old end new) (sym c.collapsed.ensures)
    (collapsed_searches c.args.tokens c.args.budget old new c.requires.some solves.1 (ap (λ (held : Held). held.database) solves.0.same))
