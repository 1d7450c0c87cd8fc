-- How many constraints stand before the first that waits.
use Rattle.std.proofs.Common.{◌≡◌, ◌⊎◌, inl, inr, ℕ, zero, suc, ◌+◌, ◌≤◌, List, [], ◌∷◌, Option, Some, None, sym, subst, arith}
use Rattle.std.specs.Prelude.{Contains, MatchOption, min}
use Rattle.eu_name.proofs.Ordered.{contains_head, contains_later}
use Rattle.constraint_net.specs.Agendas.{quiet_of}
use Rattle.constraint_net.specs.Queues.{AreFrom, Queued, IsForemost}

-- ---- no more than there are, and none that waits is among them

quiet_within : (waiting : List ℕ) (count : ℕ) → quiet_of waiting count ≤ count
quiet_within [] count = omega arith
quiet_within (number ∷ waiting) count =
    let rest = quiet_within waiting count in
    let least : min number (quiet_of waiting count) ≤ count = omega (arith, rest) in
    least

quiet_before : (waiting : List ℕ) (count number : ℕ) → Contains waiting number → quiet_of waiting count ≤ number
quiet_before [] count number (k, below, at) = absurd (omega (arith, below))
quiet_before (first ∷ waiting) count number (zero, below, at) =
    let here : first ≡ number = at in
    let least : min first (quiet_of waiting count) ≤ number = omega (arith, here) in
    least
quiet_before (first ∷ waiting) count number (suc k, below, at) =
    let rest = quiet_before waiting count number (k, omega (arith, below), at) in
    let least : min first (quiet_of waiting count) ≤ number = omega (arith, rest) in
    least

-- and as many as that allows
quiet_most : (waiting : List ℕ) (count low : ℕ) → low ≤ count → AreFrom low waiting → low ≤ quiet_of waiting count
quiet_most [] count low within each = within
quiet_most (first ∷ waiting) count low within each =
    let head = each first (contains_head first waiting) in
    let rest = quiet_most waiting count low within (λ number there. each number (contains_later first number waiting there)) in
    let least : low ≤ min first (quiet_of waiting count) = omega (arith, head, rest) in
    least

-- ---- one constraint more, which waits

module _ (old new : List ℕ) (count : ℕ) (kept : (number : ℕ) → Contains old number → Contains new number)
    (only : (number : ℕ) → Contains new number → Contains old number ⊎ (number ≡ count)) where
  low_in_new : AreFrom (quiet_of old count) new
  low_in_new number there = elim (only number there) [
    | inl was ↦ quiet_before old count number was
    | inr last ↦ omega (arith, last, quiet_within old count)
  ]

  -- it isn't counted yet
  pub same_quiet : quiet_of new count ≡ quiet_of old count
  same_quiet =
      let down = quiet_most old count (quiet_of new count) (quiet_within new count) (λ number there. quiet_before new count number (kept number there)) in
      let up = quiet_most new count (quiet_of old count) (quiet_within old count) low_in_new in
      omega (arith, down, up)

  -- it is
  pub more_quiet : Contains new count → quiet_of new (count + 1) ≡ quiet_of old count
  more_quiet there =
      let down = quiet_most old count (quiet_of new (count + 1)) (quiet_before new (count + 1) count there) (λ number was. quiet_before new (count + 1) number (kept number was)) in
      let up = quiet_most new (count + 1) (quiet_of old count) (omega (arith, quiet_within old count)) low_in_new in
      omega (arith, down, up)

-- ---- where none waits

pub quiet_all : (waiting : List ℕ) (count : ℕ) → quiet_of waiting count ≡ count → AreFrom count waiting
quiet_all waiting count is = λ number there. let low = quiet_before waiting count number there in omega (arith, is, low)

-- the first of some numbers is among them
pub foremost_there : (number : ℕ) (queue : Queued) → IsForemost number queue → Contains queue.items number
foremost_there number queue first = subst (λ list. Contains list number) (sym first.1) (contains_head number first.0)

-- what is left where the first was taken off
pub left_from : (count : ℕ) (old new : Queued) (result : Option ℕ) → MatchOption result ((old.items ≡ []) × (new ≡ old)) (λ number. old.items ≡ number ∷ new.items)
    → AreFrom count old.items → AreFrom count new.items
left_from count old new None took from = subst (λ (queue : Queued). AreFrom count queue.items) (sym took.1) from
left_from count old new (Some first) took from = λ number there.
    from number (subst (λ list. Contains list number) (sym took) (contains_later first number new.items there))
