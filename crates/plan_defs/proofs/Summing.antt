-- Numbers for tokens that bound what is listed of each have a sum that bounds the sum of what is listed.
use Rattle.std.proofs.Common.{◌≡◌, ℤ, pos, ◌+ℤ◌, List, [], ◌∷◌, ◌⊎◌, inl, inr, refl, sym, ap, subst, arith}
use Rattle.std.specs.Prelude.{Contains, AllPairs, ◌≢◌}
use Rattle.std.specs.List.{AllZip}
use Rattle.std.proofs.lemmas.Int.{ints}
use Rattle.eu_name.specs.declared.name.TokenName.{TokenName}
use Rattle.eu_name.specs.NameOrder.{IsTokenBefore}
use Rattle.eu_name.proofs.Orders.{token_order}
use Rattle.plan_defs.specs.Sums.{Amount, sum_of, sum_of_amounts}
use Rattle.eu_name.proofs.Ordered.{contains_head, contains_later, contains_cases, contains_none, ordered_head, ordered_tail}

-- what the first of the listed has differs from those behind it
abbrev pub Apart : Amount → Amount → Type 0
Apart one other = one.token ≢ other.token

-- the amount is listed of the token
abbrev pub IsListed : List Amount → TokenName → ℤ → Type 0
IsListed listed token amount = Contains listed (record { token = token; amount = amount })

-- one amount is listed of a token at most
pub one_amount : (listed : List Amount) (token : TokenName) (one other : ℤ) → AllPairs Apart listed
    → IsListed listed token one → IsListed listed token other → one ≡ other
one_amount [] token one other once p q = absurd (contains_none _ p)
one_amount (each ∷ more) token one other once p q = elim (contains_cases each (record { token = token; amount = one }) more p) [
  | inl first ↦ elim (contains_cases each (record { token = token; amount = other }) more q) [
    | inl second ↦ (let a : each.amount ≡ one = ap (λ (a : Amount). a.amount) first in let b : each.amount ≡ other = ap (λ (a : Amount). a.amount) second in subst (λ n. n ≡ other) a b)
    | inr later ↦ absurd (ordered_head Apart each more once (record { token = token; amount = other }) later (ap (λ (a : Amount). a.token) first))
  ]
  | inr later ↦ elim (contains_cases each (record { token = token; amount = other }) more q) [
    | inl second ↦ absurd (ordered_head Apart each more once (record { token = token; amount = one }) later (ap (λ (a : Amount). a.token) second))
    | inr behind ↦ one_amount more token one other (ordered_tail Apart each more once) later behind
  ]
]

-- ---- a number for each token that is just what is listed of it

-- the number is what is listed of the token: nothing, or its amount
abbrev Exactly : List Amount → TokenName → ℤ → Type 0
Exactly listed token number =
    ((number ≡ pos 0) × ((amount : ℤ) → IsListed listed token amount → ⊥)) ⊎ IsListed listed token number

-- just what is listed of each of these tokens, and the sum
record ExactFor (listed : List Amount) (tokens : List TokenName) (sum : ℤ) : Type 0 where
  numbers : List ℤ
  are : AllZip (Exactly listed) tokens numbers
  is_sum : sum_of numbers ≡ sum

nothing_listed : (tokens : List TokenName) → ExactFor [] tokens (pos 0)
nothing_listed [] = record { numbers = []; are = tt; is_sum = refl }
nothing_listed (token ∷ tokens) =
    let rest = nothing_listed tokens in
    let is_sum = rest.is_sum in
    record {
      numbers = pos 0 ∷ rest.numbers;
      are = (inl (refl, λ amount c. contains_none _ c), rest.are);
      is_sum = omega (arith, ints, is_sum);
    }

before_apart : (one other : TokenName) → IsTokenBefore one other → one ≢ other
before_apart one other before same = token_order.irreflexive one (subst (IsTokenBefore one) (sym same) before)

module _ (each : Amount) (more : List Amount) (once : AllPairs Apart (each ∷ more)) where
  -- for another token nothing changes
  exactly_other : (token : TokenName) (number : ℤ) → each.token ≢ token → Exactly more token number → Exactly (each ∷ more) token number
  exactly_other token number apart (inl none) = inl (
    none.0,
    λ amount c. elim (contains_cases each (record { token = token; amount = amount }) more c) [
      | inl same ↦ apart (ap (λ (a : Amount). a.token) same)
      | inr later ↦ none.1 amount later
    ],
  )
  exactly_other token number apart (inr c) = inr (contains_later each _ more c)

  exactly_others : (tokens : List TokenName) (numbers : List ℤ) → ((token : TokenName) → Contains tokens token → each.token ≢ token)
      → AllZip (Exactly more) tokens numbers → AllZip (Exactly (each ∷ more)) tokens numbers
  exactly_others [] [] apart zip = tt
  exactly_others [] (number ∷ numbers) apart zip = absurd zip
  exactly_others (token ∷ tokens) [] apart zip = absurd zip
  exactly_others (token ∷ tokens) (number ∷ numbers) apart zip = (
    exactly_other token number (apart token (contains_head token tokens)) zip.0,
    exactly_others tokens numbers (λ other c. apart other (contains_later token other tokens c)) zip.1,
  )

  exactly_here : (token : TokenName) → token ≡ each.token → Exactly (each ∷ more) token each.amount
  exactly_here token same = inr (subst (λ t. IsListed (each ∷ more) t each.amount) (sym same) (contains_head each more))

  -- of the first of the listed nothing is listed behind it
  nothing_behind : (token : TokenName) (number : ℤ) → token ≡ each.token → Exactly more token number → number ≡ pos 0
  nothing_behind token number same (inl none) = none.0
  nothing_behind token number same (inr c) = absurd (ordered_head Apart each more once (record { token = token; amount = number }) c (sym same))

  -- the number of the one token is its amount
  add : (tokens : List TokenName) (sum : ℤ) (numbers : List ℤ) → AllPairs IsTokenBefore tokens → AllZip (Exactly more) tokens numbers → sum_of numbers ≡ sum → Contains tokens each.token
      → ExactFor (each ∷ more) tokens (each.amount +ℤ sum)
  add [] sum numbers ordered zip is there = absurd (contains_none each.token there)
  add (token ∷ tokens) sum [] ordered zip is there = absurd zip
  add (token ∷ tokens) sum (number ∷ numbers) ordered zip is there = elim (contains_cases token each.token tokens there) [
    | inl same ↦ (
        let none = nothing_behind token number same zip.0 in record {
          numbers = each.amount ∷ numbers;
          are = (exactly_here token same, exactly_others tokens numbers (λ other c. subst (λ t. t ≢ other) same (before_apart token other (ordered_head IsTokenBefore token tokens ordered other c))) zip.1);
          is_sum = omega (arith, ints, none, is);
        })
    | inr later ↦ (
        let rest = add tokens (sum_of numbers) numbers (ordered_tail IsTokenBefore token tokens ordered) zip.1 refl later in
        let more_is = rest.is_sum in
        let apart = before_apart token each.token (ordered_head IsTokenBefore token tokens ordered each.token later) in record {
          numbers = number ∷ rest.numbers;
          are = (exactly_other token number (λ same. apart (sym same)) zip.0, rest.are);
          is_sum = omega (arith, ints, is, more_is);
        })
  ]

exact_for : (tokens : List TokenName) → AllPairs IsTokenBefore tokens → (listed : List Amount) → AllPairs Apart listed
    → ((each : Amount) → Contains listed each → Contains tokens each.token) → ExactFor listed tokens (sum_of_amounts listed)
exact_for tokens ordered [] once there = nothing_listed tokens
exact_for tokens ordered (each ∷ more) once there =
    let rest = exact_for tokens ordered more (ordered_tail Apart each more once) (λ other c. there other (contains_later each other more c)) in
    add each more once tokens (sum_of_amounts more) rest.numbers ordered rest.are rest.is_sum (there each (contains_head each more))

-- ---- numbers that bound what is listed

-- what holds of all pairs of a token and its number
pub zip_mapped : {P Q : TokenName → ℤ → Type 0} → ((token : TokenName) (number : ℤ) → P token number → Q token number)
    → (tokens : List TokenName) (numbers : List ℤ) → AllZip P tokens numbers → AllZip Q tokens numbers
zip_mapped into [] [] zip = tt
zip_mapped into [] (number ∷ numbers) zip = absurd zip
zip_mapped into (token ∷ tokens) [] zip = absurd zip
zip_mapped into (token ∷ tokens) (number ∷ numbers) zip = (into token number zip.0, zip_mapped into tokens numbers zip.1)

-- a way to compare numbers that goes on to their sums
pub record IsSummed (Bounded : ℤ → ℤ → Type 0) : Type 0 where
  pub same : (number : ℤ) → Bounded number number
  pub sums : (a b c d : ℤ) → Bounded a b → Bounded c d → Bounded (a +ℤ c) (b +ℤ d)

-- a number that is bounded by what is listed of the token, where nothing counts as 0
pub record Bounds (Bounded : ℤ → ℤ → Type 0) (listed : List Amount) (token : TokenName) (number : ℤ) : Type 0 where
  pub some : Bounded (pos 0) number ⊎ ((amount : ℤ) × IsListed listed token amount × Bounded amount number)
  pub each : (amount : ℤ) → IsListed listed token amount → Bounded amount number

-- numbers for the tokens, each bounded, whose sum is that of the amounts
pub record Reaches (Bounded : ℤ → ℤ → Type 0) (listed : List Amount) (tokens : List TokenName) : Type 0 where
  pub numbers : List ℤ
  pub are : AllZip (Bounds Bounded listed) tokens numbers
  pub is_sum : sum_of numbers ≡ sum_of_amounts listed

module _ (Bounded : ℤ → ℤ → Type 0) (is_summed : IsSummed Bounded) (listed : List Amount) (once : AllPairs Apart listed) where
  exactly_least : (token : TokenName) (exact number : ℤ) → Exactly listed token exact → Bounds Bounded listed token number → Bounded exact number
  exactly_least token exact number (inl none) bounds = elim bounds.some [
    | inl bounded ↦ subst (λ n. Bounded n number) (sym none.0) bounded
    | inr some ↦ absurd (none.1 some.0 some.1)
  ]
  exactly_least token exact number (inr c) bounds = bounds.each exact c

  exactly_bounds : (token : TokenName) (exact : ℤ) → Exactly listed token exact → Bounds Bounded listed token exact
  exactly_bounds token exact (inl none) = record {
    some = inl (subst (Bounded (pos 0)) (sym none.0) (is_summed.same (pos 0)));
    each = λ amount c. absurd (none.1 amount c);
  }
  exactly_bounds token exact (inr c) = record {
    some = inr (exact, c, is_summed.same exact);
    each = λ amount other. subst (λ n. Bounded n exact) (one_amount listed token exact amount once c other) (is_summed.same exact);
  }

  sums_bounded : (tokens : List TokenName) (exacts numbers : List ℤ) → AllZip (Exactly listed) tokens exacts → AllZip (Bounds Bounded listed) tokens numbers → Bounded (sum_of exacts) (sum_of numbers)
  sums_bounded [] [] [] exact bounds = is_summed.same (pos 0)
  sums_bounded [] [] (number ∷ numbers) exact bounds = absurd bounds
  sums_bounded [] (first ∷ exacts) numbers exact bounds = absurd exact
  sums_bounded (token ∷ tokens) [] numbers exact bounds = absurd exact
  sums_bounded (token ∷ tokens) (first ∷ exacts) [] exact bounds = absurd bounds
  sums_bounded (token ∷ tokens) (first ∷ exacts) (number ∷ numbers) exact bounds =
      is_summed.sums first number (sum_of exacts) (sum_of numbers)
      (exactly_least token first number exact.0 bounds.0)
      (sums_bounded tokens exacts numbers exact.1 bounds.1)

  module _ (tokens : List TokenName) (ordered : AllPairs IsTokenBefore tokens) (there : (each : Amount) → Contains listed each → Contains tokens each.token) where
    -- the sum of what is listed bounds the sum of the numbers
    pub listed_bounds : (numbers : List ℤ) → AllZip (Bounds Bounded listed) tokens numbers → Bounded (sum_of_amounts listed) (sum_of numbers)
    listed_bounds numbers bounds =
        let exact = exact_for tokens ordered listed once there in
        subst (λ n. Bounded n (sum_of numbers)) exact.is_sum (sums_bounded tokens exact.numbers numbers exact.are bounds)

    -- and is the sum of some
    pub listed_reached : Reaches Bounded listed tokens
    listed_reached = let exact = exact_for tokens ordered listed once there in record {
      numbers = exact.numbers;
      are = zip_mapped exactly_bounds tokens exact.numbers exact.are;
      is_sum = exact.is_sum;
    }
