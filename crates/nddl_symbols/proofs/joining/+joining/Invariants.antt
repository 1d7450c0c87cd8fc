-- The levels that are left fall; and what is joined from here on is what is joined in all.
use Rattle.std.proofs.Common.{◌*◌, ◌+◌, ◌-◌}
use Rattle.nddl_symbols.specs.Joined.{file_stretch}
use Rattle.nddl_symbols.proofs.Steps.{GoesOn}
use Rattle.nddl_symbols.proofs.joining.+joining.Given as goal

abbrev pub decreases-join_file : goal.decreases-join_file
decreases-join_file l = 2 * l.levels

abbrev pub decreases-join_decl : goal.decreases-join_decl
decreases-join_decl l = 2 * l.levels + 1

abbrev pub invariant-join_file-loop-i : goal.invariant-join_file-loop-i
invariant-join_file-loop-i l = GoesOn (file_stretch (l.levels - 1) l.files) l.files l.number l.decls l.fn.sites l.i l.next l.sites
