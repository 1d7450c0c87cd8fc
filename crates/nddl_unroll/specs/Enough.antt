-- What is counted from the text of a rule is enough.
use Rattle.std.specs.Prelude.{ℕ, ◌-◌, ◌^◌, ◌≤◌, min, List, length}
use Rattle.model_core.specs.declared.class.Object.{Object}
use Rattle.model_core.specs.declared.rule.Rule.{Rule}
use Rattle.model_core.specs.Lawful.{guard_count, item_count}
use Rattle.nddl_terms.specs.PlainTree.{PlainTree}
use Rattle.nddl_terms.specs.declared.lexicon.Lexicon.{Lexicon}
use Rattle.nddl_unroll.specs.declared.amounts.Amounts.{Amounts}
use Rattle.nddl_unroll.specs.Counting.{tree_amounts}
use Rattle.nddl_unroll.specs.Rules.{tree_rule}

-- there are no more than this amount, which stays at the greatest number of 64 bits
abbrev pub IsEnough : ℕ → ℕ → Type 0
IsEnough number amount = min number (2 ^ 64 - 1) ≤ amount

-- the rule has no more than these amounts
pub record HasEnough (rule : Rule) (amounts : Amounts) : Type 0 where
  pub slots : IsEnough (length rule.slots) amounts.slots
  pub locals : IsEnough (length rule.locals) amounts.locals
  pub items : IsEnough (item_count rule.top) amounts.items
  pub guards : IsEnough (guard_count rule.top) amounts.guards

-- a rule that is unrolled has no more than is counted from its text, whatever the text
abbrev pub CountsEnough : Type 0
CountsEnough =
    (lexicon : Lexicon) (objects : List Object) (tree : PlainTree)
    → HasEnough (tree_rule lexicon objects tree) (tree_amounts lexicon tree)
