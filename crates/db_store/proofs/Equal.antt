-- That `==` of keys and of blocks tells whether they are equal.
use Rattle.std.proofs.Common.{◌≡◌, ℕ, List, Bool, ◌&&◌, ◌==◌, ap}
use Rattle.std.specs.Bool.{Decides}
use Rattle.std.proofs.lemmas.Bool.Decides.{Decides-eqb, Decides-and, Decides-like}
use Rattle.eu_name.specs.declared.name.Part.{Part as TokenPart}
use Rattle.eu_name.specs.Laws.{DecidesEquality}
use Rattle.model_core.specs.declared.rule.Turn.{Turn}
use Rattle.db_store.specs.declared.key.OpenBlock.{OpenBlock}
use Rattle.db_store.specs.declared.key.VarKey.TheVariants.{Global, Part, Local}

pub globals_apart : (m n : ℕ) → Decides (m == n) (Global m ≡ Global n)
globals_apart m n = Decides-like (m == n) (ap Global) (λ same. cc) (Decides-eqb m n)

pub parts_apart : (part : TokenPart → TokenPart → Bool) → DecidesEquality part → (p q : ℕ) (a b : TokenPart) → Decides ((p == q) && part a b) (Part p a ≡ Part q b)
parts_apart part tells p q a b =
    Decides-like ((p == q) && part a b)
    (λ same. λ i. Part (same.0 i) (same.1 i))
    (λ same. (cc, cc))
    (Decides-and (p == q) (part a b) (Decides-eqb p q) (tells a b))

pub locals_apart : (p q r s m n : ℕ) → Decides ((p == q) && ((r == s) && (m == n))) (Local p r m ≡ Local q s n)
locals_apart p q r s m n =
    Decides-like ((p == q) && ((r == s) && (m == n)))
    (λ same. λ i. Local (same.0 i) (same.1.0 i) (same.1.1 i))
    (λ same. (cc, ((cc), (cc))))
    (Decides-and (p == q) ((r == s) && (m == n)) (Decides-eqb p q) (Decides-and (r == s) (m == n) (Decides-eqb r s) (Decides-eqb m n)))

-- blocks are compared by token, rule and path
pub blocks_apart : (path : List Turn → List Turn → Bool) → DecidesEquality path
    → DecidesEquality (λ (one other : OpenBlock). (one.token == other.token) && ((one.rule == other.rule) && path one.path other.path))
blocks_apart path tells one other =
    Decides-like ((one.token == other.token) && ((one.rule == other.rule) && path one.path other.path))
    (λ same. λ i. record { token = same.0 i; rule = same.1.0 i; path = same.1.1 i })
    (λ same. (ap (λ (block : OpenBlock). block.token) same, (ap (λ (block : OpenBlock). block.rule) same, ap (λ (block : OpenBlock). block.path) same)))
    (Decides-and (one.token == other.token) ((one.rule == other.rule) && path one.path other.path) (Decides-eqb one.token other.token)
    (Decides-and (one.rule == other.rule) (path one.path other.path) (Decides-eqb one.rule other.rule) (tells one.path other.path)))
