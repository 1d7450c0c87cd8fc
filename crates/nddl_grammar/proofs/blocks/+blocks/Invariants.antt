-- The depth that is left falls, or a smaller part of one block is read.
use Rattle.std.proofs.Common.{◌*◌, ◌+◌, ◌-◌}
use Rattle.nddl_grammar.specs.Productions.{begins_stmt, stmt, statements}
use Rattle.nddl_grammar.proofs.Walking.{Onward}
use Rattle.nddl_grammar.proofs.blocks.+blocks.Given as goal

abbrev pub decreases-braces : goal.decreases-braces
decreases-braces l = 8 * l.left + 7

abbrev pub decreases-lone_if : goal.decreases-lone_if
decreases-lone_if l = 8 * l.left + 5

abbrev pub decreases-block : goal.decreases-block
decreases-block l = 8 * l.left

abbrev pub decreases-else_block : goal.decreases-else_block
decreases-else_block l = 8 * l.left + 1

abbrev pub decreases-otherwise : goal.decreases-otherwise
decreases-otherwise l = 8 * l.left + 2

abbrev pub decreases-branches : goal.decreases-branches
decreases-branches l = 8 * l.left + 3

abbrev pub decreases-if_stmt : goal.decreases-if_stmt
decreases-if_stmt l = 8 * l.left + 4

abbrev pub decreases-class_body : goal.decreases-class_body
decreases-class_body l = 8 * l.left + 1

abbrev pub decreases-foreach : goal.decreases-foreach
decreases-foreach l = 8 * l.left + 2

abbrev pub decreases-stmt : goal.decreases-stmt
decreases-stmt l = 8 * l.left + 5

abbrev pub decreases-statements : goal.decreases-statements
decreases-statements l = 8 * l.left + 6

abbrev pub invariant-statements-loop-turn : goal.invariant-statements-loop-turn
invariant-statements-loop-turn l = Onward l.stmts begins_stmt (stmt l.left) (l.turn-end - l.turn) l.cursor (statements l.fn.left l.fn.cursor)
