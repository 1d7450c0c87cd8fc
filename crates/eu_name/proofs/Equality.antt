-- That `==` of names tells whether they are equal.
use Rattle.std.proofs.Common.{◌≡◌, ℕ, Bool, ◌&&◌, ◌==◌, refl, ap}
use Rattle.std.specs.Bool.{Decides}
use Rattle.std.specs.Cmp.Lexicographic.{pointwise}
use Rattle.std.proofs.lemmas.Bool.Decides.{Decides-eqb, Decides-and, Decides-like}
use Rattle.std.proofs.lemmas.Slice.Eq.{slice_eq-Decides}
use Rattle.eu_name.specs.declared.name.Step.{Step}
use Rattle.eu_name.specs.declared.name.TokenName.{TokenName}
use Rattle.eu_name.specs.declared.name.Part.{Part}
use Rattle.eu_name.specs.declared.name.VarName.TheVariants.{Token, Local, Global}
use Rattle.eu_name.specs.Laws.{DecidesEquality}

pub lists_told_apart : {A : Type 0} (test : A → A → Bool) → DecidesEquality test → DecidesEquality (pointwise test)
lists_told_apart test tells xs ys = slice_eq-Decides tells xs ys (pointwise test xs ys) refl

-- tokens are compared by root and steps
pub tokens_told_apart : (step : Step → Step → Bool) → DecidesEquality step → DecidesEquality (λ (one other : TokenName). (one.root == other.root) && pointwise step one.steps other.steps)
tokens_told_apart step tells one other =
    Decides-like ((one.root == other.root) && pointwise step one.steps other.steps)
    (λ same. λ i. record { root = same.0 i; steps = same.1 i })
    (λ same. (ap (λ name. name.root) same, ap (λ name. name.steps) same))
    (Decides-and (one.root == other.root) (pointwise step one.steps other.steps) (Decides-eqb one.root other.root) (lists_told_apart step tells one.steps other.steps))

-- parts of tokens are compared by token and part
pub parts_told_apart : (token : TokenName → TokenName → Bool) (part : Part → Part → Bool) → DecidesEquality token → DecidesEquality part → (a b : TokenName) (p q : Part) → Decides (token a b && part p q) (Token a p ≡ Token b q)
parts_told_apart token part tells_token tells_part a b p q =
    Decides-like (token a b && part p q)
    (λ same. λ i. Token (same.0 i) (same.1 i))
    (λ same. (cc, cc))
    (Decides-and (token a b) (part p q) (tells_token a b) (tells_part p q))

-- and locals by token, rule and number
pub locals_told_apart : (token : TokenName → TokenName → Bool) → DecidesEquality token → (a b : TokenName) (r s m n : ℕ) → Decides (token a b && ((r == s) && (m == n))) (Local a r m ≡ Local b s n)
locals_told_apart token tells a b r s m n =
    Decides-like (token a b && ((r == s) && (m == n)))
    (λ same. λ i. Local (same.0 i) (same.1.0 i) (same.1.1 i))
    (λ same. (cc, ((cc), (cc))))
    (Decides-and (token a b) ((r == s) && (m == n)) (tells a b) (Decides-and (r == s) (m == n) (Decides-eqb r s) (Decides-eqb m n)))

pub globals_told_apart : (m n : ℕ) → Decides (m == n) (Global m ≡ Global n)
globals_told_apart m n = Decides-like (m == n) (ap Global) (λ same. cc) (Decides-eqb m n)
