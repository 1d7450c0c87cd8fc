-- Open blocks are in a total order.
use Rattle.std.proofs.Common.{◌≡◌, ℕ, List, [], ◌∷◌, ◌⊎◌, inl, inr, refl, sym, arith}
use Rattle.std.proofs.lemmas.Bool.{cases_lt}
use Rattle.eu_name.specs.NameOrder.{ByNumber, ByToken, IsStrictTotalOrder}
use Rattle.eu_name.specs.declared.name.TokenName.{TokenName}
use Rattle.eu_name.proofs.Orders.{token_order}
use Rattle.model_core.specs.Blocks.{IsTurnBefore, IsPathBefore, IsBlockBefore}
use Rattle.model_core.specs.declared.rule.Side.{Side}
use Rattle.model_core.specs.declared.rule.Side.TheVariants.{Then, Otherwise}
use Rattle.model_core.specs.declared.rule.Turn.{Turn}
use Rattle.plan_defs.proofs.BlockOrder.{block_irreflexive, block_transitive}

-- one of two things comes first, or they are equal
abbrev Totally : Type 0 → Type 0 → Type 0 → Type 0
Totally P E Q = P ⊎ (E ⊎ Q)

number_total : (m n : ℕ) (P E Q : Type 0) → (m ≡ n → Totally P E Q) → Totally (ByNumber m n P) E (ByNumber n m Q)
number_total m n P E Q tied = elim (cases_lt m n) [
  | inl below ↦ inl (inl below)
  | inr above ↦ elim (cases_lt n m) [
    | inl less ↦ inr (inr (inl less))
    | inr other ↦ (let e : m ≡ n = omega arith in elim (tied e) [
      | inl p ↦ inl (inr (e, p))
      | inr (inl even) ↦ inr (inl even)
      | inr (inr q) ↦ inr (inr (inr (sym e, q)))
    ])
  ]
]

token_total : (a b : TokenName) (P E Q : Type 0) → (a ≡ b → Totally P E Q) → Totally (ByToken a b P) E (ByToken b a Q)
token_total a b P E Q tied = elim (token_order.total a b) [
  | inl first ↦ inl (inl first)
  | inr (inl e) ↦ elim (tied e) [
    | inl p ↦ inl (inr (e, p))
    | inr (inl even) ↦ inr (inl even)
    | inr (inr q) ↦ inr (inr (inr (sym e, q)))
  ]
  | inr (inr second) ↦ inr (inr (inl second))
]

sides_total : (entry : ℕ) (one other : Turn) → one.entry ≡ other.entry → (s t : Side) → s ≡ one.side → t ≡ other.side
    → Totally ((one.side ≡ Then) × (other.side ≡ Otherwise)) (one ≡ other) ((other.side ≡ Then) × (one.side ≡ Otherwise))
sides_total entry one other e Then Then p q = inr (inl (let sides : one.side ≡ other.side = cc in λ i. record { entry = e i; side = sides i }))
sides_total entry one other e Then Otherwise p q = inl (sym p, sym q)
sides_total entry one other e Otherwise Then p q = inr (inr (sym q, sym p))
sides_total entry one other e Otherwise Otherwise p q = inr (inl (let sides : one.side ≡ other.side = cc in λ i. record { entry = e i; side = sides i }))

turn_total : (one other : Turn) → Totally (IsTurnBefore one other) (one ≡ other) (IsTurnBefore other one)
turn_total one other = number_total one.entry other.entry _ (one ≡ other) _ (λ e. sides_total one.entry one other e one.side other.side refl refl)

paths_total : (turn other : Turn) (one two : List Turn) → Totally (IsTurnBefore turn other) (turn ≡ other) (IsTurnBefore other turn)
    → Totally (IsPathBefore one two) (one ≡ two) (IsPathBefore two one)
    → Totally (IsPathBefore (turn ∷ one) (other ∷ two)) ((turn ∷ one) ≡ (other ∷ two)) (IsPathBefore (other ∷ two) (turn ∷ one))
paths_total turn other one two (inl first) rest = inl (inl first)
paths_total turn other one two (inr (inr second)) rest = inr (inr (inl second))
paths_total turn other one two (inr (inl e)) (inl p) = inl (inr (e, p))
paths_total turn other one two (inr (inl e)) (inr (inl same)) = inr (inl (λ i. e i ∷ same i))
paths_total turn other one two (inr (inl e)) (inr (inr q)) = inr (inr (inr (sym e, q)))

path_total : (one two : List Turn) → Totally (IsPathBefore one two) (one ≡ two) (IsPathBefore two one)
path_total [] [] = inr (inl refl)
path_total [] (turn ∷ two) = inl tt
path_total (turn ∷ one) [] = inr (inr tt)
path_total (turn ∷ one) (other ∷ two) = paths_total turn other one two (turn_total turn other) (path_total one two)

pub block_order : IsStrictTotalOrder IsBlockBefore
block_order = record {
  irreflexive = block_irreflexive;
  transitive = block_transitive;
  total = λ a b. token_total a.token b.token _ (a ≡ b) _ (λ tokens. number_total a.rule b.rule _ (a ≡ b) _ (λ rules. elim (path_total a.path b.path) [
    | inl p ↦ inl p
    | inr (inl same) ↦ inr (inl (λ i. record { token = tokens i; rule = rules i; path = same i }))
    | inr (inr q) ↦ inr (inr q)
  ]));
}
