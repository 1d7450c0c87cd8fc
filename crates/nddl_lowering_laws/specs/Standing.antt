-- Where the slots and locals of rules that are unrolled stand.
use Rattle.std.specs.Prelude.{ℕ, ◌<◌, List, length}
use Rattle.model_core.specs.declared.class.Object.{Object}
use Rattle.model_core.specs.Blocks.{OfSlot, OfLocal}
use Rattle.model_core.specs.Standing.{StandsOnce}
use Rattle.nddl_terms.specs.PlainTree.{PlainTree}
use Rattle.nddl_terms.specs.declared.lexicon.Lexicon.{Lexicon}
use Rattle.nddl_unroll.specs.Rules.{tree_rule}

-- each slot of a rule that is unrolled stands in it once, whatever the text
abbrev pub SlotsStandOnce : Type 0
SlotsStandOnce =
    (lexicon : Lexicon) (objects : List Object) (tree : PlainTree) (number : ℕ)
    → number < length (tree_rule lexicon objects tree).slots
    → StandsOnce (tree_rule lexicon objects tree).top (OfSlot number)

-- and so does each local
abbrev pub LocalsStandOnce : Type 0
LocalsStandOnce =
    (lexicon : Lexicon) (objects : List Object) (tree : PlainTree) (number : ℕ)
    → number < length (tree_rule lexicon objects tree).locals
    → StandsOnce (tree_rule lexicon objects tree).top (OfLocal number)
