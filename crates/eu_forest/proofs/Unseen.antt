-- How many things are unseen.
use Rattle.std.proofs.Common.{ℕ}
use Rattle.eu_forest.specs.declared.walk.Mark.{Mark}
use Rattle.eu_forest.specs.declared.walk.Mark.TheVariants as marks

-- what an unseen thing counts
abbrev pub unseen_weight : Mark → ℕ
unseen_weight marks.Unseen = 1
unseen_weight mark = 0
