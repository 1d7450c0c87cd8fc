use Rattle.std.proofs.Common.{◌≡◌, drop, map}
use Rattle.std.specs.Map.{lookup}
use Rattle.std.specs.Str.{bytes_eq}
use Rattle.nddl_rule_check.proofs.words.in_row_of.Given as goal

-- what is found in the rows that are left is found in all
abbrev pub invariant-loop-row : goal.invariant-loop-row
invariant-loop-row g l =
    lookup (λ written. bytes_eq l.word written) (map (λ row. (row.0.now, row.1)) (drop l.row-index l.rows))
    ≡ lookup (λ written. bytes_eq l.word written) (map (λ row. (row.0.now, row.1)) l.rows)
