-- That open blocks are in an order.
use Rattle.std.proofs.Common.{◌≡◌, List, [], ◌∷◌, inl, inr, sym, subst, ◌∙◌}
use Rattle.eu_name.proofs.Orders.{number_irreflexive, number_transitive, token_irreflexive, token_transitive}
use Rattle.model_core.specs.Blocks.{TokenBlock, IsTurnBefore, IsPathBefore, IsBlockBefore}
use Rattle.model_core.specs.declared.rule.Side.{Side}
use Rattle.model_core.specs.declared.rule.Side.TheVariants.{Then, Otherwise}
use Rattle.model_core.specs.declared.rule.Turn.{Turn}

one_side : (side : Side) → side ≡ Then → side ≡ Otherwise → ⊥
one_side side p q = let e : Then ≡ Otherwise = sym p ∙ q in absurd (cc)

turn_irreflexive : (turn : Turn) → IsTurnBefore turn turn → ⊥
turn_irreflexive turn = number_irreflexive turn.entry _ (λ sides. one_side turn.side sides.0 sides.1)

turn_transitive : (a b c : Turn) → IsTurnBefore a b → IsTurnBefore b c → IsTurnBefore a c
turn_transitive a b c = number_transitive a.entry b.entry c.entry _ _ _ (λ p q. (p.0, q.1))

path_irreflexive : (path : List Turn) → IsPathBefore path path → ⊥
path_irreflexive [] less = less
path_irreflexive (turn ∷ path) (inl first) = turn_irreflexive turn first
path_irreflexive (turn ∷ path) (inr rest) = path_irreflexive path rest.1

path_transitive : (one two three : List Turn) → IsPathBefore one two → IsPathBefore two three → IsPathBefore one three
path_transitive one two [] p q = absurd q
path_transitive one [] (c ∷ three) p q = absurd p
path_transitive [] (b ∷ two) (c ∷ three) p q = tt
path_transitive (a ∷ one) (b ∷ two) (c ∷ three) (inl p) (inl q) = inl (turn_transitive a b c p q)
path_transitive (a ∷ one) (b ∷ two) (c ∷ three) (inl p) (inr q) = inl (subst (λ (t : Turn). IsTurnBefore a t) q.0 p)
path_transitive (a ∷ one) (b ∷ two) (c ∷ three) (inr p) (inl q) = inl (subst (λ (t : Turn). IsTurnBefore t c) (sym p.0) q)
path_transitive (a ∷ one) (b ∷ two) (c ∷ three) (inr p) (inr q) = inr (p.0 ∙ q.0, path_transitive one two three p.1 q.1)

pub block_irreflexive : (block : TokenBlock) → IsBlockBefore block block → ⊥
block_irreflexive block = token_irreflexive block.token _ (number_irreflexive block.rule _ (path_irreflexive block.path))

pub block_transitive : (a b c : TokenBlock) → IsBlockBefore a b → IsBlockBefore b c → IsBlockBefore a c
block_transitive a b c = token_transitive a.token b.token c.token _ _ _ (number_transitive a.rule b.rule c.rule _ _ _ (path_transitive a.path b.path c.path))
