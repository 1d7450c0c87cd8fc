-- Which of two flaws comes first.
use Rattle.std.proofs.Common.{◌≡◌, ℕ, inl, inr, sym, subst, arith}
use Rattle.eu_name.specs.declared.name.TokenName.{TokenName}
use Rattle.eu_name.specs.declared.name.VarName.{VarName}
use Rattle.eu_name.specs.declared.name.VarName.TheVariants as names
use Rattle.eu_name.specs.NameOrder.{IsTokenBefore, IsVarBefore, ByToken}
use Rattle.eu_name.proofs.Orders.{token_order, var_order}
use Rattle.plan_defs.specs.Terms.{BelongsTo}
use Rattle.plan_defs.specs.Flaws.{Flaw, Undecided, Undetermined, Unordered, Untimed}
use Rattle.law_search.specs.Choices.{IsFlawBefore}

tokens_apart : (a b : TokenName) → IsTokenBefore a b → IsTokenBefore b a → ⊥
tokens_apart a b p q = token_order.irreflexive a (token_order.transitive a b a p q)

names_apart : (a b : VarName) → IsVarBefore a b → IsVarBefore b a → ⊥
names_apart a b p q = var_order.irreflexive a (var_order.transitive a b a p q)

pairs_apart : (a b c d : TokenName) → ByToken a b (IsTokenBefore c d) → ByToken b a (IsTokenBefore d c) → ⊥
pairs_apart a b c d (inl p) (inl q) = tokens_apart a b p q
pairs_apart a b c d (inl p) (inr q) = token_order.irreflexive a (subst (λ (t : TokenName). IsTokenBefore a t) q.0 p)
pairs_apart a b c d (inr p) (inl q) = token_order.irreflexive b (subst (λ (t : TokenName). IsTokenBefore b t) p.0 q)
pairs_apart a b c d (inr p) (inr q) = tokens_apart c d p.1 q.1

-- no two flaws come before each other
pub flaws_apart : (one other : Flaw) → IsFlawBefore one other → IsFlawBefore other one → ⊥
flaws_apart (Undecided one) (Undecided other) p q = tokens_apart one other p q
flaws_apart (Undetermined one) (Undetermined other) p q = names_apart one other p q
flaws_apart (Unordered one behind) (Unordered other after) p q = pairs_apart one other behind after p q
flaws_apart (Untimed one) (Untimed other) p q = names_apart one other p q
flaws_apart (Undecided one) (Undetermined other) p q = omega (arith, p, q)
flaws_apart (Undecided one) (Unordered other after) p q = omega (arith, p, q)
flaws_apart (Undecided one) (Untimed other) p q = omega (arith, p, q)
flaws_apart (Undetermined one) (Undecided other) p q = omega (arith, p, q)
flaws_apart (Undetermined one) (Unordered other after) p q = omega (arith, p, q)
flaws_apart (Undetermined one) (Untimed other) p q = omega (arith, p, q)
flaws_apart (Unordered one behind) (Undecided other) p q = omega (arith, p, q)
flaws_apart (Unordered one behind) (Undetermined other) p q = omega (arith, p, q)
flaws_apart (Unordered one behind) (Untimed other) p q = omega (arith, p, q)
flaws_apart (Untimed one) (Undecided other) p q = omega (arith, p, q)
flaws_apart (Untimed one) (Undetermined other) p q = omega (arith, p, q)
flaws_apart (Untimed one) (Unordered other after) p q = omega (arith, p, q)

-- flaws by the names that they are about
pub values_before : (x y : Flaw) (a b : VarName) → x ≡ Undetermined a → y ≡ Undetermined b → IsVarBefore a b → IsFlawBefore x y
values_before x y a b p q before =
    subst (λ (f : Flaw). IsFlawBefore f y) (sym p) (subst (λ (f : Flaw). IsFlawBefore (Undetermined a) f) (sym q) before)

pub times_before : (x y : Flaw) (a b : VarName) → x ≡ Untimed a → y ≡ Untimed b → IsVarBefore a b → IsFlawBefore x y
times_before x y a b p q before =
    subst (λ (f : Flaw). IsFlawBefore f y) (sym p) (subst (λ (f : Flaw). IsFlawBefore (Untimed a) f) (sym q) before)

pub undecided_before : (x y : Flaw) (a b : TokenName) → x ≡ Undecided a → y ≡ Undecided b → IsTokenBefore a b → IsFlawBefore x y
undecided_before x y a b p q before =
    subst (λ (f : Flaw). IsFlawBefore f y) (sym p) (subst (λ (f : Flaw). IsFlawBefore (Undecided a) f) (sym q) before)

-- names by what they are
pub by_names : (a b one other : VarName) → a ≡ one → b ≡ other → IsVarBefore one other → IsVarBefore a b
by_names a b one other p q before = subst (λ (n : VarName). IsVarBefore n b) (sym p) (subst (λ (n : VarName). IsVarBefore one n) (sym q) before)

-- variables of tokens go by tokens
pub owners_before : (x y : VarName) (a b : TokenName) → BelongsTo x a → BelongsTo y b → IsTokenBefore a b → IsVarBefore x y
owners_before (names.Global m) y a b p q before = absurd p
owners_before (names.Token t part) (names.Global n) a b p q before = absurd q
owners_before (names.Local t rule m) (names.Global n) a b p q before = absurd q
owners_before (names.Token t part) (names.Token u other) a b p q before = inl (subst (λ x. IsTokenBefore x u) (sym p) (subst (λ y. IsTokenBefore a y) (sym q) before))
owners_before (names.Token t part) (names.Local u rule n) a b p q before = inl (subst (λ x. IsTokenBefore x u) (sym p) (subst (λ y. IsTokenBefore a y) (sym q) before))
owners_before (names.Local t rule m) (names.Token u other) a b p q before = inl (subst (λ x. IsTokenBefore x u) (sym p) (subst (λ y. IsTokenBefore a y) (sym q) before))
owners_before (names.Local t rule m) (names.Local u rule' n) a b p q before = inl (subst (λ x. IsTokenBefore x u) (sym p) (subst (λ y. IsTokenBefore a y) (sym q) before))

-- a global comes before what belongs to a token
pub global_before : (number : ℕ) (y : VarName) (b : TokenName) → BelongsTo y b → IsVarBefore (names.Global number) y
global_before number (names.Global n) b q = absurd q
global_before number (names.Token t part) b q = tt
global_before number (names.Local t rule n) b q = tt

pub nothing_before_itself : (flaw : Flaw) → IsFlawBefore flaw flaw → ⊥
nothing_before_itself flaw p = flaws_apart flaw flaw p p
