use Rattle.std.proofs.Common.{◌≡◌, ◌++◌, drop}
use Rattle.nddl_rules.specs.Collected.{part_statements}
use Rattle.nddl_rules.proofs.stmts.part_stmts.Given as goal

-- the statements so far and those of the parts that are left are all
abbrev pub invariant-loop-part : goal.invariant-loop-part
invariant-loop-part l = l.stmts.items ++ part_statements (drop l.part-index l.parts) ≡ part_statements l.parts
