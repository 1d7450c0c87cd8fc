-- Locals of rules that are unrolled.
use Rattle.std.specs.Prelude.{◌≡◌, List, [], All}
use Rattle.model_core.specs.declared.class.Object.{Object}
use Rattle.nddl_terms.specs.PlainTree.{PlainTree}
use Rattle.nddl_terms.specs.declared.lexicon.Lexicon.{Lexicon}
use Rattle.nddl_unroll.specs.Rules.{tree_rule}

-- no local of a rule that is unrolled has a name
abbrev pub LocalsAreUnnamed : Type 0
LocalsAreUnnamed =
    (lexicon : Lexicon) (objects : List Object) (tree : PlainTree)
    → All (λ variable. variable.name ≡ []) (tree_rule lexicon objects tree).locals
