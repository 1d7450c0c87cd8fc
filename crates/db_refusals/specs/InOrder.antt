-- What is kept in the order in which it came, as a state.
use Rattle.std.specs.Prelude.{◌≡◌, ◌⊎◌, List, [], ◌∷◌}
use Rattle.std.proofs.Common.{inl, inr}
use Rattle.eu_name.specs.declared.name.TokenName.{TokenName}
use Rattle.eu_name.specs.NameOrder.{IsTokenBefore, IsVarBefore}
use Rattle.eu_name.proofs.Orders.{token_order, var_order}
use Rattle.model_core.specs.Blocks.{TokenBlock, IsBlockBefore}
use Rattle.model_core.specs.State.{State, VarDomain}
use Rattle.model_core.specs.Content.{Content, paired}
use Rattle.db_refine.proofs.BlockOrder.{block_order}

module _ {X : Type 0} (Before Ties : X → X → Type 0) (compare : (x y : X) → Before x y ⊎ (Ties x y ⊎ Before y x)) where
  -- the item in front of the list's first, or of what becomes of the rest, or not at all, as the two compare
  unfoldable pub placed : (x first : X) → List X → List X → Before x first ⊎ (Ties x first ⊎ Before first x) → List X
  placed x first xs rest (inl earlier) = x ∷ first ∷ xs
  placed x first xs rest (inr (inl tied)) = first ∷ xs
  placed x first xs rest (inr (inr later)) = first ∷ rest

  -- the list in order with the item in its place
  unfoldable pub put_in : X → List X → List X
  put_in x [] = x ∷ []
  put_in x (first ∷ xs) = placed x first xs (put_in x xs) (compare x first)

  -- the items in order, each once
  unfoldable pub in_order : List X → List X
  in_order [] = []
  in_order (x ∷ xs) = put_in x (in_order xs)

-- the tokens in their order
unfoldable pub tokens_in_order : List TokenName → List TokenName
tokens_in_order tokens = in_order IsTokenBefore (λ one other. one ≡ other) token_order.total tokens

-- the blocks in theirs
unfoldable pub blocks_in_order : List TokenBlock → List TokenBlock
blocks_in_order blocks = in_order IsBlockBefore (λ one other. one ≡ other) block_order.total blocks

-- the variables, with their domains, in that of their names
unfoldable pub entries_in_order : List VarDomain → List VarDomain
entries_in_order entries = in_order (λ one other. IsVarBefore one.name other.name) (λ one other. one.name ≡ other.name)
    (λ one other. var_order.total one.name other.name) entries

-- the state that has what the content has
abbrev pub state_of : Content → State
state_of content =
    record {
      tokens = tokens_in_order content.tokens;
      blocks = blocks_in_order content.blocks;
      entries = entries_in_order (paired content.names content.domains);
    }
