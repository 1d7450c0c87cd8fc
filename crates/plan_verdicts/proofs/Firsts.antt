-- The first of numbers of which something isn't so.
use Rattle.std.proofs.Common.{◌≡◌, ℕ, zero, suc, ◌<◌, ◌≤◌, ◌⊎◌, inl, inr, sym, subst, arith}
use Rattle.std.proofs.lemmas.Bool.{cases_lt}
use Rattle.eu_name.specs.NameOrder.{ByNumber}
use Rattle.law_states.specs.Undeniable.{Undeniable}
use Rattle.law_states.proofs.Denying.{is_or_not}

-- ---- one number

-- the one is so of a number, and the other of all before it
abbrev pub FirstOf : (ℕ → Type 0) → (ℕ → Type 0) → Type 0
FirstOf Holds Fails = (number : ℕ) × (Fails number × ((before : ℕ) → before < number → Holds before))

module _ (Holds Fails : ℕ → Type 0) where
  up_to : (count number : ℕ) → ((before : ℕ) → before < count → Holds before) → Holds count → number < suc count → Holds number
  up_to count number all here less = elim (cases_lt number count) [
    | inl before ↦ all number before
    | inr past ↦ (let same : count ≡ number = omega (arith, less, past) in subst Holds same here)
  ]

  -- it holds of so many numbers, or fails first of one
  pub first_below : (count : ℕ) → ((number : ℕ) → number < count → Undeniable (Holds number ⊎ Fails number))
      → Undeniable (((number : ℕ) → number < count → Holds number) ⊎ FirstOf Holds Fails)
  first_below zero has none = none (inl (λ number less. absurd (omega (arith, less))))
  first_below (suc count) has none = first_below count (λ number less. has number (omega (arith, less))) (λ so_far. elim so_far [
    | inl all ↦ has count (omega arith) (λ here. elim here [
      | inl holds ↦ none (inl (λ number less. up_to count number all holds less))
      | inr fails ↦ none (inr (count, (fails, all)))
    ])
    | inr first ↦ none (inr first)
  ])

  -- where it holds of all later ones
  pub first_of : (bound : ℕ) → ((number : ℕ) → number < bound → Undeniable (Holds number ⊎ Fails number)) → ((number : ℕ) → bound ≤ number → Holds number)
      → Undeniable (((number : ℕ) → Holds number) ⊎ FirstOf Holds Fails)
  first_of bound has later none = first_below bound has (λ which. elim which [
    | inl all ↦ none (inl (λ number. elim (cases_lt number bound) [
      | inl less ↦ all number less
      | inr past ↦ later number past
    ]))
    | inr first ↦ none (inr first)
  ])

-- the first of which it isn't so
pub first_not : (Holds : ℕ → Type 0) (bound : ℕ) → ((number : ℕ) → bound ≤ number → Holds number)
    → Undeniable (((number : ℕ) → Holds number) ⊎ FirstOf Holds (λ number. Holds number → ⊥))
first_not Holds bound later none = first_of Holds (λ number. Holds number → ⊥) bound (λ number less. is_or_not (Holds number)) later none

-- ---- two numbers

-- it isn't so of a pair of numbers, but of all lesser pairs
pub record FirstPair (Holds : ℕ → ℕ → Type 0) : Type 0 where
  pub one : ℕ
  pub other : ℕ
  pub fails : Holds one other → ⊥
  pub before : (less second : ℕ) → ByNumber less one (second < other) → Holds less second

-- it is so of all pairs but those within some bounds
pub record IsBounded (Holds : ℕ → ℕ → Type 0) : Type 0 where
  pub bound : ℕ
  pub later : (one other : ℕ) → bound ≤ one → Holds one other
  pub each : (one : ℕ) → Undeniable ((most : ℕ) × ((other : ℕ) → most ≤ other → Holds one other))

module _ (Holds : ℕ → ℕ → Type 0) where
  paired : FirstOf (λ one. (other : ℕ) → Holds one other) (λ one. FirstOf (Holds one) (λ other. Holds one other → ⊥)) → FirstPair Holds
  paired (one, ((other, (fails, inner)), outer)) = record {
    one = one;
    other = other;
    fails = fails;
    before = λ less second lesser. elim lesser [
      | inl earlier ↦ outer less earlier second
      | inr same ↦ (let P : ℕ → Type 0 = λ n. Holds n second in subst P (sym same.0) (inner second same.1))
    ];
  }

  pub first_pair : IsBounded Holds → Undeniable (((one other : ℕ) → Holds one other) ⊎ FirstPair Holds)
  first_pair bounded none =
      first_of (λ one. (other : ℕ) → Holds one other) (λ one. FirstOf (Holds one) (λ other. Holds one other → ⊥)) bounded.bound
      (λ one less missing. bounded.each one (λ most. first_not (Holds one) most.0 most.1 missing))
      (λ one past other. bounded.later one other past)
      (λ which. elim which [
        | inl all ↦ none (inl all)
        | inr first ↦ none (inr (paired first))
      ])
