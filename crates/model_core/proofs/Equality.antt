-- That `==` of decisions tells whether they are equal.
use Rattle.std.proofs.Common.{◌≡◌, ℤ, Bool, ◌&&◌, List}
use Rattle.std.specs.Bool.{Decides}
use Rattle.std.proofs.lemmas.Bool.Decides.{Decides-and, Decides-like}
use Rattle.domain_core.specs.declared.kind.Kind.{Kind}
use Rattle.eu_name.specs.declared.name.TokenName.{TokenName}
use Rattle.eu_name.specs.declared.name.VarName.{VarName}
use Rattle.eu_name.specs.Laws.{DecidesEquality}
use Rattle.model_core.specs.declared.decision.ConArg.{ConArg}
use Rattle.model_core.specs.declared.decision.Decision.TheVariants.{Specify, Merge, Order, Constrain, Relate}
use Rattle.model_core.specs.declared.item.Rel.{Rel}

module _ (token : TokenName → TokenName → Bool) (tokens : DecidesEquality token) where
  pub pairs_told_apart : (a b c d : TokenName) → Decides (token a b && token c d) ((a ≡ b) × (c ≡ d))
  pairs_told_apart a b c d = Decides-and (token a b) (token c d) (tokens a b) (tokens c d)

  pub merges_told_apart : (a b c d : TokenName) → Decides (token a b && token c d) (Merge a c ≡ Merge b d)
  merges_told_apart a b c d = Decides-like (token a b && token c d) (λ same. λ i. Merge (same.0 i) (same.1 i)) (λ same. (cc, cc)) (pairs_told_apart a b c d)

  pub orders_told_apart : (a b c d : TokenName) → Decides (token a b && token c d) (Order a c ≡ Order b d)
  orders_told_apart a b c d = Decides-like (token a b && token c d) (λ same. λ i. Order (same.0 i) (same.1 i)) (λ same. (cc, cc)) (pairs_told_apart a b c d)

  pub relations_told_apart : (rel : Rel → Rel → Bool) → DecidesEquality rel → (r s : Rel) (a b c d : TokenName)
      → Decides (rel r s && (token a b && token c d)) (Relate r a c ≡ Relate s b d)
  relations_told_apart rel rels r s a b c d = Decides-like (rel r s && (token a b && token c d))
      (λ same. λ i. Relate (same.0 i) (same.1.0 i) (same.1.1 i)) (λ same. (cc, (cc, cc)))
      (Decides-and (rel r s) (token a b && token c d) (rels r s) (pairs_told_apart a b c d))

pub specified_told_apart : (name : VarName → VarName → Bool) (value : ℤ → ℤ → Bool) → DecidesEquality name → DecidesEquality value → (a b : VarName) (v w : ℤ)
    → Decides (name a b && value v w) (Specify a v ≡ Specify b w)
specified_told_apart name value names values a b v w = Decides-like (name a b && value v w)
    (λ same. λ i. Specify (same.0 i) (same.1 i)) (λ same. (cc, cc)) (Decides-and (name a b) (value v w) (names a b) (values v w))

pub constraints_told_apart : (kind : Kind → Kind → Bool) (list : List ConArg → List ConArg → Bool) → DecidesEquality kind → DecidesEquality list → (k l : Kind) (xs ys : List ConArg)
    → Decides (kind k l && list xs ys) (Constrain k xs ≡ Constrain l ys)
constraints_told_apart kind list kinds lists k l xs ys = Decides-like (kind k l && list xs ys)
    (λ same. λ i. Constrain (same.0 i) (same.1 i)) (λ same. (cc, cc)) (Decides-and (kind k l) (list xs ys) (kinds k l) (lists xs ys))
