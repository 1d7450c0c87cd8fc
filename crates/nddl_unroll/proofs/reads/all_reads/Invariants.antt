use Rattle.std.proofs.Common.{◌≡◌, drop}
use Rattle.nddl_unroll.specs.Reads.{all_reads}
use Rattle.nddl_unroll.proofs.reads.all_reads.Given as goal

-- with those that are left they are all
abbrev pub invariant-loop-expr : goal.invariant-loop-expr
invariant-loop-expr l =
    all_reads l.lexicon l.names.names.now (drop l.expr-index l.exprs) l.sum ≡ all_reads l.lexicon l.names.names.now l.exprs l.fn.total
