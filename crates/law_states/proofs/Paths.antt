-- The ways to the blocks of a rule, and their order.
use Rattle.std.proofs.Common.{◌≡◌, ℕ, zero, suc, ◌+◌, ◌⊎◌, inl, inr, ⊎_elim, List, [], ◌∷◌, ◌++◌, Some, refl, sym, ◌∙◌, subst, arith}
use Rattle.std.specs.Prelude.{Contains, slice_get}
use Rattle.std.proofs.lemmas.Bool.{cases_lt}
use Rattle.std.proofs.lemmas.List.Elements.{Contains-append_left, Contains-append_right}
use Rattle.eu_name.specs.NameOrder.{ByNumber, IsStrictTotalOrder}
use Rattle.eu_name.proofs.Orders.{token_order}
use Rattle.model_core.specs.declared.rule.Guard.{Guard}
use Rattle.model_core.specs.declared.rule.Side.{Side}
use Rattle.model_core.specs.declared.rule.Side.TheVariants.{Then, Otherwise}
use Rattle.model_core.specs.declared.rule.Turn.{Turn}
use Rattle.model_core.specs.Blocks.{TokenBlock, Follows, OfBranch, chosen, direct, IsTurnBefore, IsPathBefore, IsBlockBefore}
use Rattle.model_core.specs.Entries.{Entries, NoEntry, WithSlot, WithLocal, WithItem, WithBranch}
use Rattle.plan_defs.proofs.BlockOrder.{block_irreflexive, block_transitive}
use Rattle.eu_name.proofs.Ordered.{contains_head, contains_later, contains_cases, contains_none}

-- ---- all ways

abbrev pub through : Turn → List (List Turn) → List (List Turn)
through turn [] = []
through turn (path ∷ paths) = (turn ∷ path) ∷ through turn paths

through_there : (turn : Turn) (paths : List (List Turn)) (path : List Turn) → Contains paths path → Contains (through turn paths) (turn ∷ path)
through_there turn [] path there = absurd (contains_none path there)
through_there turn (first ∷ paths) path there = elim (contains_cases first path paths there) [
  | inl same ↦ subst (λ (p : List Turn). Contains ((turn ∷ first) ∷ through turn paths) (turn ∷ p)) same (contains_head (turn ∷ first) (through turn paths))
  | inr later ↦ contains_later (turn ∷ first) (turn ∷ path) (through turn paths) (through_there turn paths path later)
]

-- the ways on from these entries, of which the first has this number
abbrev pub ways_from : ℕ → Entries → List (List Turn)
ways_from number NoEntry = []
ways_from number (WithSlot slot more) = ways_from (suc number) more
ways_from number (WithLocal local more) = ways_from (suc number) more
ways_from number (WithItem item more) = ways_from (suc number) more
ways_from number (WithBranch guard then otherwise more) =
    through (record { entry = number; side = Then }) ([] ∷ ways_from 0 then)
    ++ (through (record { entry = number; side = Otherwise }) ([] ∷ ways_from 0 otherwise) ++ ways_from (suc number) more)

-- all ways into a block, none included
abbrev pub all_ways : Entries → List (List Turn)
all_ways top = [] ∷ ways_from 0 top

turn_is : (number : ℕ) (turn : Turn) (side : Side) → turn.side ≡ side → number ≡ turn.entry → record { entry = number; side = side } ≡ turn
turn_is number turn side same at = λ i. record { entry = at i; side = sym same i }

branch_same : (g h : Guard) (a b x y : Entries) → Some (OfBranch g a b) ≡ Some (OfBranch h x y) → (a ≡ x) × (b ≡ y)
branch_same g h a b x y e = (first g h a b x y e, second g h a b x y e)
  where
    first : (g h : Guard) (a b x y : Entries) → Some (OfBranch g a b) ≡ Some (OfBranch h x y) → a ≡ x
    first g h a b x y e = cc

    second : (g h : Guard) (a b x y : Entries) → Some (OfBranch g a b) ≡ Some (OfBranch h x y) → b ≡ y
    second g h a b x y e = cc

-- each way into a block of the entries is one of them: the turn goes into a branch at a place behind the number
by_side : (Allows : Guard → Side → Type 0) (number : ℕ) (one other more : Entries) (turn : Turn) (path : List Turn) (block : Entries)
    → ((sub : Entries) → Follows Allows sub path block → Contains (all_ways sub) path) → number ≡ turn.entry
    → (side : Side) → turn.side ≡ side → Follows Allows (chosen turn.side one other) path block
    → Contains (through (record { entry = number; side = Then }) ([] ∷ ways_from 0 one)
    ++ (through (record { entry = number; side = Otherwise }) ([] ∷ ways_from 0 other) ++ ways_from (suc number) more)) (turn ∷ path)
by_side Allows number one other more turn path block inner here Then same way =
    Contains-append_left (through (record { entry = number; side = Then }) ([] ∷ ways_from 0 one))
    (through (record { entry = number; side = Otherwise }) ([] ∷ ways_from 0 other) ++ ways_from (suc number) more) (turn ∷ path)
    (subst (λ (t : Turn). Contains (through (record { entry = number; side = Then }) ([] ∷ ways_from 0 one)) (t ∷ path)) (turn_is number turn Then same here)
    (through_there (record { entry = number; side = Then }) ([] ∷ ways_from 0 one) path
    (inner one (subst (λ (s : Side). Follows Allows (chosen s one other) path block) same way))))
by_side Allows number one other more turn path block inner here Otherwise same way =
    Contains-append_right (through (record { entry = number; side = Then }) ([] ∷ ways_from 0 one)) _ (turn ∷ path)
    (Contains-append_left (through (record { entry = number; side = Otherwise }) ([] ∷ ways_from 0 other)) (ways_from (suc number) more) (turn ∷ path)
    (subst (λ (t : Turn). Contains (through (record { entry = number; side = Otherwise }) ([] ∷ ways_from 0 other)) (t ∷ path)) (turn_is number turn Otherwise same here)
    (through_there (record { entry = number; side = Otherwise }) ([] ∷ ways_from 0 other) path
    (inner other (subst (λ (s : Side). Follows Allows (chosen s one other) path block) same way)))))

turn_there : (Allows : Guard → Side → Type 0) (number place : ℕ) (top : Entries) (turn : Turn) (path : List Turn) (block : Entries)
    → ((sub : Entries) → Follows Allows sub path block → Contains (all_ways sub) path) → number + place ≡ turn.entry
    → (guard : Guard) (then otherwise : Entries) → slice_get (direct top) place ≡ Some (OfBranch guard then otherwise)
    → Follows Allows (chosen turn.side then otherwise) path block → Contains (ways_from number top) (turn ∷ path)
turn_there Allows number place NoEntry turn path block inner at guard then otherwise is way = absurd (cc)
turn_there Allows number zero (WithSlot slot more) turn path block inner at guard then otherwise is way = absurd (cc)
turn_there Allows number (suc place) (WithSlot slot more) turn path block inner at guard then otherwise is way =
    turn_there Allows (suc number) place more turn path block inner (let e : suc number + place ≡ number + suc place = omega arith in e ∙ at) guard then otherwise is way
turn_there Allows number zero (WithLocal local more) turn path block inner at guard then otherwise is way = absurd (cc)
turn_there Allows number (suc place) (WithLocal local more) turn path block inner at guard then otherwise is way =
    turn_there Allows (suc number) place more turn path block inner (let e : suc number + place ≡ number + suc place = omega arith in e ∙ at) guard then otherwise is way
turn_there Allows number zero (WithItem item more) turn path block inner at guard then otherwise is way = absurd (cc)
turn_there Allows number (suc place) (WithItem item more) turn path block inner at guard then otherwise is way =
    turn_there Allows (suc number) place more turn path block inner (let e : suc number + place ≡ number + suc place = omega arith in e ∙ at) guard then otherwise is way
turn_there Allows number (suc place) (WithBranch own one other more) turn path block inner at guard then otherwise is way =
    Contains-append_right (through (record { entry = number; side = Then }) ([] ∷ ways_from 0 one)) _ (turn ∷ path)
    (Contains-append_right (through (record { entry = number; side = Otherwise }) ([] ∷ ways_from 0 other)) _ (turn ∷ path)
    (turn_there Allows (suc number) place more turn path block inner (let e : suc number + place ≡ number + suc place = omega arith in e ∙ at) guard then otherwise is way))
turn_there Allows number zero (WithBranch own one other more) turn path block inner at guard then otherwise is way =
    let same = branch_same own guard one other then otherwise is in
    let here : number ≡ turn.entry = (let e : number ≡ number + 0 = omega arith in e ∙ at) in
    by_side Allows number one other more turn path block inner here turn.side refl
    (subst (λ (t : Entries). Follows Allows (chosen turn.side t other) path block) (sym same.0)
    (subst (λ (o : Entries). Follows Allows (chosen turn.side then o) path block) (sym same.1) way))

pub way_there : (Allows : Guard → Side → Type 0) (top : Entries) (path : List Turn) (block : Entries) → Follows Allows top path block → Contains (all_ways top) path
way_there Allows top [] block way = contains_head [] (ways_from 0 top)
way_there Allows top (turn ∷ path) block way =
    contains_later [] (turn ∷ path) (ways_from 0 top) (turn_there Allows 0 turn.entry top turn path block (λ sub further. way_there Allows sub path block further) (omega arith) way.0 way.1.0 way.1.1 way.1.2.0 way.1.2.1.1)

-- ---- order

turn_total : (a b : Turn) → IsTurnBefore a b ⊎ ((a ≡ b) ⊎ IsTurnBefore b a)
turn_total a b = elim (cases_lt a.entry b.entry) [
  | inl less ↦ inl (inl less)
  | inr not_less ↦ elim (cases_lt b.entry a.entry) [
    | inl more ↦ inr (inr (inl more))
    | inr not_more ↦
        let same : a.entry ≡ b.entry = omega (arith, not_less, not_more) in
        by_sides same a.side b.side refl refl
  ]
]
  where
    by_sides : a.entry ≡ b.entry → (one other : Side) → a.side ≡ one → b.side ≡ other → IsTurnBefore a b ⊎ ((a ≡ b) ⊎ IsTurnBefore b a)
    by_sides same Then Then p q = inr (inl (λ i. record { entry = same i; side = (p ∙ sym q) i }))
    by_sides same Then Otherwise p q = inl (inr (same, (p, q)))
    by_sides same Otherwise Then p q = inr (inr (inr (sym same, (q, p))))
    by_sides same Otherwise Otherwise p q = inr (inl (λ i. record { entry = same i; side = (p ∙ sym q) i }))

path_total : (one other : List Turn) → IsPathBefore one other ⊎ ((one ≡ other) ⊎ IsPathBefore other one)
path_total [] [] = inr (inl refl)
path_total [] (turn ∷ other) = inl tt
path_total (turn ∷ one) [] = inr (inr tt)
path_total (a ∷ one) (b ∷ other) = elim (turn_total a b) [
  | inl less ↦ inl (inl less)
  | inr (inr more) ↦ inr (inr (inl more))
  | inr (inl same) ↦ elim (path_total one other) [
    | inl less ↦ inl (inr (same, less))
    | inr (inr more) ↦ inr (inr (inr (sym same, more)))
    | inr (inl rest) ↦ inr (inl (λ i. same i ∷ rest i))
  ]
]

number_total : (m n : ℕ) (P Q R : Type 0) → (m ≡ n → P ⊎ (Q ⊎ R)) → ByNumber m n P ⊎ (((m ≡ n) × Q) ⊎ ByNumber n m R)
number_total m n P Q R rest = elim (cases_lt m n) [
  | inl less ↦ inl (inl less)
  | inr not_less ↦ elim (cases_lt n m) [
    | inl more ↦ inr (inr (inl more))
    | inr not_more ↦
        let same : m ≡ n = omega (arith, not_less, not_more) in
        ⊎_elim (λ p. inl (inr (same, p))) (λ more. ⊎_elim (λ q. inr (inl (same, q))) (λ r. inr (inr (inr (sym same, r)))) more) (rest same)
  ]
]

block_total : (a b : TokenBlock) → IsBlockBefore a b ⊎ ((a ≡ b) ⊎ IsBlockBefore b a)
block_total a b = elim (token_order.total a.token b.token) [
  | inl less ↦ inl (inl less)
  | inr (inr more) ↦ inr (inr (inl more))
  | inr (inl same) ↦ elim (number_total a.rule b.rule (IsPathBefore a.path b.path) (a.path ≡ b.path) (IsPathBefore b.path a.path) (λ rules. path_total a.path b.path)) [
    | inl less ↦ inl (inr (same, less))
    | inr (inr more) ↦ inr (inr (inr (sym same, more)))
    | inr (inl both) ↦ inr (inl (λ i. record { token = same i; rule = both.0 i; path = both.1 i }))
  ]
]

pub block_order : IsStrictTotalOrder IsBlockBefore
block_order = record { irreflexive = block_irreflexive; transitive = block_transitive; total = block_total }
