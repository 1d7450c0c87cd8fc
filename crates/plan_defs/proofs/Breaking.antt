-- There is one clause that a plan breaks first, and one place where it does.
use Rattle.std.proofs.Common.{◌≡◌, ℕ, ◌<◌, ◌⊎◌, ℤ, ◌<ℤ◌, ⊎_elim, inl, inr, refl, sym, ap, subst, arith}
use Rattle.std.proofs.lemmas.Bool.{cases_lt}
use Rattle.std.proofs.lemmas.Int.{ints, by_lt_z}
use Rattle.eu_name.specs.NameOrder.{ByNumber}
use Rattle.model_core.specs.declared.model.Model.{Model}
use Rattle.plan_defs.specs.declared.plan.Clause.{Clause}
use Rattle.plan_defs.specs.declared.plan.Clause.TheVariants.{V1, V2, V3, V4, V5, V6, V7, V8, V9, V10}
use Rattle.plan_defs.specs.declared.plan.Place.{Place}
use Rattle.plan_defs.specs.declared.plan.Place.TheVariants.{Global, Root, Line, Slot, Local, Problem, Item, Pair, Instant}
use Rattle.plan_defs.specs.declared.plan.Plan.{Plan}
use Rattle.plan_defs.specs.Broken.{clauses_before, AreLesserNames, IsBroken, IsLeastBroken, IsFirstBroken}

-- one of two things comes first, or they are equal
abbrev Totally : Type 0 → Type 0 → Type 0 → Type 0
Totally P E Q = P ⊎ (E ⊎ Q)

numbers : (m n : ℕ) (E : Type 0) → (m ≡ n → E) → Totally (m < n) E (n < m)
numbers m n E same = ⊎_elim
    (λ (below : m < n). inl below)
    (λ not_below. ⊎_elim
    (λ (above : n < m). inr (inr above))
    (λ not_above. inr (inl (same (omega arith))))
    (cases_lt n m))
    (cases_lt m n)

instants : (v w : ℤ) (E : Type 0) → (v ≡ w → E) → Totally (v <ℤ w) E (w <ℤ v)
instants v w E same = by_lt_z v w
    (λ below. inl below)
    (λ not_below. by_lt_z w v (λ above. inr (inr above)) (λ not_above. inr (inl (same (omega (arith, ints))))))

by_number : (m n : ℕ) (P E Q : Type 0) → (m ≡ n → Totally P E Q) → Totally (ByNumber m n P) E (ByNumber n m Q)
by_number m n P E Q tied = ⊎_elim
    (λ (below : m < n). inl (inl below))
    (λ not_below. ⊎_elim
    (λ (above : n < m). inr (inr (inl above)))
    (λ not_above.
    let e : m ≡ n = omega arith in
    ⊎_elim (λ p. inl (inr (e, p))) (⊎_elim (λ same. inr (inl same)) (λ q. inr (inr (inr (sym e, q))))) (tied e))
    (cases_lt n m))
    (cases_lt m n)

-- places of one sort
slots : (a b c x y z : ℕ) → a ≡ x → b ≡ y → c ≡ z → Slot a b c ≡ Slot x y z
slots a b c x y z p q r = λ i. Slot (p i) (q i) (r i)

locals : (a b c x y z : ℕ) → a ≡ x → b ≡ y → c ≡ z → Local a b c ≡ Local x y z
locals a b c x y z p q r = λ i. Local (p i) (q i) (r i)

items : (a b c x y z : ℕ) → a ≡ x → b ≡ y → c ≡ z → Item a b c ≡ Item x y z
items a b c x y z p q r = λ i. Item (p i) (q i) (r i)

pairs : (a b x y : ℕ) → a ≡ x → b ≡ y → Pair a b ≡ Pair x y
pairs a b x y p q = λ i. Pair (p i) (q i)

moments : (a x : ℕ) (v w : ℤ) → a ≡ x → v ≡ w → Instant a v ≡ Instant x w
moments a x v w p q = λ i. Instant (p i) (q i)

-- the names at two places compare
abbrev Compare : Place → Place → Type 0
Compare one other = Totally (AreLesserNames one other) (one ≡ other) (AreLesserNames other one)

-- a slot and a local of lines in either order
slot_local : (line rule slot line' rule' number : ℕ) → Compare (Slot line rule slot) (Local line' rule' number)
slot_local line rule slot line' rule' number = ⊎_elim
    (λ (above : line' < line). inr (inr above))
    (λ not_above. inl (omega arith))
    (cases_lt line' line)

local_slot : (line rule number line' rule' slot : ℕ) → Compare (Local line rule number) (Slot line' rule' slot)
local_slot line rule number line' rule' slot = ⊎_elim
    (λ (below : line < line'). inl below)
    (λ not_below. inr (inr (omega arith)))
    (cases_lt line line')

module _ (model : Model) (plan : Plan) where
  globals : (one other : Place) → IsBroken model plan V1 one → IsBroken model plan V1 other → Compare one other
  globals (Global m) (Global n) p q = numbers m n _ (λ e. ap Global e)
  globals (Global m) other p q = absurd (q tt)
  globals one other p q = absurd (p tt)

  roots : (one other : Place) → IsBroken model plan V2 one → IsBroken model plan V2 other → Compare one other
  roots (Root m) (Root n) p q = numbers m n _ (λ e. ap Root e)
  roots (Root m) (Line n) p q = inl tt
  roots (Line m) (Root n) p q = inr (inr tt)
  roots (Line m) (Line n) p q = numbers m n _ (λ e. ap Line e)
  roots (Root m) other p q = absurd (q tt)
  roots (Line m) other p q = absurd (q tt)
  roots one other p q = absurd (p tt)

  tokens : (one other : Place) → IsBroken model plan V3 one → IsBroken model plan V3 other → Compare one other
  tokens (Line m) (Line n) p q = numbers m n _ (λ e. ap Line e)
  tokens (Line m) other p q = absurd (q tt)
  tokens one other p q = absurd (p tt)

  merges : (one other : Place) → IsBroken model plan V4 one → IsBroken model plan V4 other → Compare one other
  merges (Line m) (Line n) p q = numbers m n _ (λ e. ap Line e)
  merges (Line m) other p q = absurd (q tt)
  merges one other p q = absurd (p tt)

  open_blocks : (one other : Place) → IsBroken model plan V5 one → IsBroken model plan V5 other → Compare one other
  open_blocks (Slot a b c) (Slot x y z) p q =
      by_number a x _ _ _ (λ e. by_number b y _ _ _ (λ f. numbers c z _ (λ g. slots a b c x y z e f g)))
  open_blocks (Slot a b c) (Local x y z) p q = slot_local a b c x y z
  open_blocks (Local a b c) (Slot x y z) p q = local_slot a b c x y z
  open_blocks (Local a b c) (Local x y z) p q =
      by_number a x _ _ _ (λ e. by_number b y _ _ _ (λ f. numbers c z _ (λ g. locals a b c x y z e f g)))
  open_blocks (Slot a b c) other p q = absurd (q tt)
  open_blocks (Local a b c) other p q = absurd (q tt)
  open_blocks one other p q = absurd (p tt)

  asked : (one other : Place) → IsBroken model plan V6 one → IsBroken model plan V6 other → Compare one other
  asked (Line m) (Line n) p q = numbers m n _ (λ e. ap Line e)
  asked (Line m) other p q = absurd (q tt)
  asked one other p q = absurd (p tt)

  truths : (one other : Place) → IsBroken model plan V7 one → IsBroken model plan V7 other → Compare one other
  truths (Problem m) (Problem n) p q = numbers m n _ (λ e. ap Problem e)
  truths (Problem m) (Item x y z) p q = inl tt
  truths (Item a b c) (Problem n) p q = inr (inr tt)
  truths (Item a b c) (Item x y z) p q =
      by_number a x _ _ _ (λ e. by_number b y _ _ _ (λ f. numbers c z _ (λ g. items a b c x y z e f g)))
  truths (Problem m) other p q = absurd (q tt)
  truths (Item a b c) other p q = absurd (q tt)
  truths one other p q = absurd (p tt)

  timelines : (one other : Place) → IsBroken model plan V8 one → IsBroken model plan V8 other → Compare one other
  timelines (Pair a b) (Pair x y) p q = by_number a x _ _ _ (λ e. numbers b y _ (λ f. pairs a b x y e f))
  timelines (Pair a b) other p q = absurd (q tt)
  timelines one other p q = absurd (p tt)

  reusables : (one other : Place) → IsBroken model plan V9 one → IsBroken model plan V9 other → Compare one other
  reusables (Instant a v) (Instant x w) p q = by_number a x _ _ _ (λ e. instants v w _ (λ f. moments a x v w e f))
  reusables (Instant a v) other p q = absurd (q tt)
  reusables one other p q = absurd (p tt)

  reservoirs : (one other : Place) → IsBroken model plan V10 one → IsBroken model plan V10 other → Compare one other
  reservoirs (Instant a v) (Instant x w) p q = by_number a x _ _ _ (λ e. instants v w _ (λ f. moments a x v w e f))
  reservoirs (Instant a v) other p q = absurd (q tt)
  reservoirs one other p q = absurd (p tt)

  -- where a clause is broken at two places, these compare
  compare : (clause : Clause) (one other : Place) → IsBroken model plan clause one → IsBroken model plan clause other → Compare one other
  compare V1 = globals
  compare V2 = roots
  compare V3 = tokens
  compare V4 = merges
  compare V5 = open_blocks
  compare V6 = asked
  compare V7 = truths
  compare V8 = timelines
  compare V9 = reusables
  compare V10 = reservoirs

  pub least_is_one : (clause : Clause) (one other : Place) → IsLeastBroken model plan clause one → IsLeastBroken model plan clause other → one ≡ other
  least_is_one clause one other p q = ⊎_elim
      (λ before. absurd (p.broken (q.least one before)))
      (⊎_elim (λ same. same) (λ after. absurd (q.broken (p.least other after))))
      (compare clause one other p.broken q.broken)

clause_same : (one other : Clause) → clauses_before one ≡ clauses_before other → one ≡ other
clause_same V1 V1 e = refl
clause_same V2 V2 e = refl
clause_same V3 V3 e = refl
clause_same V4 V4 e = refl
clause_same V5 V5 e = refl
clause_same V6 V6 e = refl
clause_same V7 V7 e = refl
clause_same V8 V8 e = refl
clause_same V9 V9 e = refl
clause_same V10 V10 e = refl
clause_same one other e = absurd (omega (arith, e))

pub first_clause : (model : Model) (plan : Plan) (clause other : Clause) (place elsewhere : Place)
    → IsFirstBroken model plan clause place → IsFirstBroken model plan other elsewhere → clause ≡ other
first_clause model plan clause other place elsewhere p q = ⊎_elim
    (λ (before : clauses_before clause < clauses_before other). absurd (p.here.broken (q.first clause place before)))
    (λ not_before. ⊎_elim
    (λ (after : clauses_before other < clauses_before clause). absurd (q.here.broken (p.first other elsewhere after)))
    (λ not_after. clause_same clause other (omega arith))
    (cases_lt (clauses_before other) (clauses_before clause)))
    (cases_lt (clauses_before clause) (clauses_before other))

-- a plan breaks one clause first, at one place
pub first_is_one : (model : Model) (plan : Plan) (clause other : Clause) (place elsewhere : Place)
    → IsFirstBroken model plan clause place → IsFirstBroken model plan other elsewhere → (clause ≡ other) × (place ≡ elsewhere)
first_is_one model plan clause other place elsewhere p q =
    let e = first_clause model plan clause other place elsewhere p q in
    (e, least_is_one model plan other place elsewhere (subst (λ (c : Clause). IsLeastBroken model plan c place) e p.here) q.here)
