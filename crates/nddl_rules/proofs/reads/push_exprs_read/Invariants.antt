use Rattle.std.proofs.Common.{◌≡◌, ◌++◌, drop}
use Rattle.nddl_rules.specs.Reads.{exprs_read, sources_of}
use Rattle.nddl_rules.proofs.reads.push_exprs_read.Given as goal

-- the names so far and those of the arguments that are left are all
abbrev pub invariant-loop-expr : goal.invariant-loop-expr
invariant-loop-expr l =
    l.names ++ exprs_read (sources_of l.sources) l.sight (drop l.expr-index l.exprs)
    ≡ l.initial.names ++ exprs_read (sources_of l.sources) l.sight l.exprs
