-- A way leads to one block, and a block has its entries once.
use Rattle.std.proofs.Common.{◌≡◌, ℕ, List, [], ◌∷◌, Some, refl, sym, ◌∙◌, subst}
use Rattle.eu_name.specs.declared.name.TokenName.{TokenName}
use Rattle.model_core.specs.declared.model.Model.{Model}
use Rattle.model_core.specs.declared.rule.Guard.{Guard}
use Rattle.model_core.specs.declared.rule.Rule.{Rule}
use Rattle.model_core.specs.declared.rule.Side.{Side}
use Rattle.model_core.specs.declared.rule.Side.TheVariants.{Then, Otherwise}
use Rattle.model_core.specs.declared.rule.Slot.{Slot}
use Rattle.model_core.specs.declared.rule.Turn.{Turn}
use Rattle.model_core.specs.Blocks.{TokenBlock, Follows, HasBlock, IsBlock, OfBranch, chosen, direct}
use Rattle.model_core.specs.Entries.{Entries}
use Rattle.model_core.specs.Tokens.{HasToken, HasRule}
use Rattle.model_core.proofs.Leading.{token_once}
use Rattle.model_core.proofs.Rules.{has_rule_once}
use Rattle.std.specs.Prelude.{slice_get}
use Rattle.model_core.specs.Numbers.{turned}

chosen_same : (side : Side) (then otherwise then' otherwise' : Entries) → then ≡ then' → otherwise ≡ otherwise' → chosen side then otherwise ≡ chosen side then' otherwise'
chosen_same Then then otherwise then' otherwise' p q = p
chosen_same Otherwise then otherwise then' otherwise' p q = q

then_same : (guard guard' : Guard) (then otherwise then' otherwise' : Entries) → Some (OfBranch guard then otherwise) ≡ Some (OfBranch guard' then' otherwise') → then ≡ then'
then_same guard guard' then otherwise then' otherwise' e = cc

otherwise_same : (guard guard' : Guard) (then otherwise then' otherwise' : Entries) → Some (OfBranch guard then otherwise) ≡ Some (OfBranch guard' then' otherwise') → otherwise ≡ otherwise'
otherwise_same guard guard' then otherwise then' otherwise' e = cc

follows_once : (One Other : Guard → Side → Type 0) (top : Entries) (path : List Turn) (block block' : Entries)
    → Follows One top path block → Follows Other top path block' → block ≡ block'
follows_once One Other top [] block block' p q = p ∙ sym q
follows_once One Other top (turn ∷ path) block block' p q =
    let e : Some (OfBranch p.0 p.1.0 p.1.1) ≡ Some (OfBranch q.0 q.1.0 q.1.1) = sym p.1.2.0 ∙ q.1.2.0 in
    let same = chosen_same turn.side p.1.0 p.1.1 q.1.0 q.1.1 (then_same p.0 q.0 p.1.0 p.1.1 q.1.0 q.1.1 e) (otherwise_same p.0 q.0 p.1.0 p.1.1 q.1.0 q.1.1 e) in
    follows_once One Other (chosen turn.side p.1.0 p.1.1) path block block' p.1.2.1.1
    (subst (λ (t : Entries). Follows Other t path block') (sym same) q.1.2.1.1)

module _ (model : Model) (One Other : Guard → Side → Type 0) where
  -- all that is said of the blocks of one rule of a token speaks of that rule
  pub rule_once : (block block' : TokenBlock) (entries entries' : Entries) → block.token ≡ block'.token → block.rule ≡ block'.rule
      → (p : HasBlock model One block entries) → (q : HasBlock model Other block' entries') → p.rule ≡ q.rule
  rule_once block block' entries entries' tokens rules p q =
      let has_token = subst (λ (t : TokenName). HasToken model t q.slot) (sym tokens) q.has_token in
      let has_rule = subst (λ (n : ℕ). HasRule model q.slot.pred n q.rule) (sym rules) q.has_rule in
      let slots = token_once model block.token p.slot q.slot p.has_token has_token in
      has_rule_once model p.slot.pred block.rule p.rule q.rule p.has_rule (subst (λ (s : Slot). HasRule model s.pred block.rule q.rule) (sym slots) has_rule)

  pub block_once : (block : TokenBlock) (entries entries' : Entries) → HasBlock model One block entries → HasBlock model Other block entries' → entries ≡ entries'
  block_once block entries entries' p q =
      follows_once One Other p.rule.top block.path entries entries' p.way
      (subst (λ (r : Rule). Follows Other r.top block.path entries') (sym (rule_once block block entries entries' refl refl p q)) q.way)

-- what holds of the block with its entries holds of the same block with its entries
pub at_block : (model : Model) (P : TokenBlock → Entries → Type 0) (block other : TokenBlock) (entries entries' : Entries)
    → block ≡ other → IsBlock model block entries → IsBlock model other entries' → P block entries → P other entries'
at_block model P block other entries entries' same is is' holds =
    subst (λ (b : TokenBlock). (e : Entries) → IsBlock model b e → P b e) same
    (λ e is_e. subst (P block) (block_once model _ _ block entries e is is_e) holds) entries' is'

-- a way that goes on by one turn
pub Follows-push : (Allows : Guard → Side → Type 0) (top : Entries) (path : List Turn) (place : ℕ) (side : Side) (block : Entries)
    (guard : Guard) (then otherwise : Entries) → Follows Allows top path block
    → slice_get (direct block) place ≡ Some (OfBranch guard then otherwise) → Allows guard side
    → Follows Allows top (turned path place side) (chosen side then otherwise)
Follows-push Allows top [] place side block guard then otherwise way at allows =
    (guard, (then, otherwise, (subst (λ b. slice_get (direct b) place ≡ Some (OfBranch guard then otherwise)) way at, (allows, refl))))
Follows-push Allows top (turn ∷ path) place side block guard then otherwise way at allows = (
  way.0,
  (
    way.1.0,
    way.1.1,
    (
      way.1.2.0,
      (
        way.1.2.1.0,
        Follows-push Allows (chosen turn.side way.1.0 way.1.1) path place side block guard then otherwise way.1.2.1.1 at allows,
      ),
    ),
  ),
)
