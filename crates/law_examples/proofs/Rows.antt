-- The rows of the relations, decided by their starts and ends.
use Rattle.std.proofs.Common.{◌≡◌, ℕ, suc, zero, ◌≤◌, Bool, true, false, List, [], ◌∷◌, inl, inr, get_or, refl, sym, ap, subst, arith, map}
use Rattle.std.specs.Prelude.{Contains, ◌⊎◌}
use Rattle.std.specs.List.{AllZip}
use Rattle.eu_name.specs.declared.name.Part.TheVariants.{Start, End}
use Rattle.eu_name.specs.declared.name.VarName.{VarName}
use Rattle.eu_name.specs.declared.name.VarName.TheVariants.{Token}
use Rattle.eu_name.specs.NameOrder.{IsTokenBefore, IsVarBefore}
use Rattle.eu_name.proofs.Orders.{token_order, var_order}
use Rattle.model_core.specs.declared.item.Rel.{Rel}
use Rattle.model_core.specs.declared.item.Rel.TheVariants as rel
use Rattle.model_core.specs.Blocks.{IsBlockBefore}
use Rattle.model_core.specs.State.{VarDomain, Gives, AreInOrder}
use Rattle.plan_defs.specs.Claims.{Claim, at_most, equal, relates}
use Rattle.plan_defs.specs.Consistency.{IsClaimConsistent}
use Rattle.plan_defs.specs.Terms.{Variable}
use Rattle.eu_name.proofs.Ordered.{contains_head, contains_later, contains_cases, contains_none, ordered_none, ordered_one, ordered_link}
use Rattle.law_examples.specs.Globals.{problem_of}
use Rattle.law_examples.specs.Relations.{Times, token_a, token_b, beside_a, IsRowMark}
use Rattle.law_examples.specs.Scenes.{exactly}
use Rattle.law_examples.proofs.Pairs.{at_most_holds, at_most_says, equal_holds, equal_says}

-- ---- the starts and ends, and what the relations say of them

pub data Point : Type 0 where
  AStart : Point
  AEnd : Point
  BStart : Point
  BEnd : Point

pub data Edge : Type 0 where
  Most : Point → Point → Edge
  Same : Point → Point → Edge

abbrev pub value_at : Times → Point → ℕ
value_at times AStart = 3
value_at times AEnd = 6
value_at times BStart = times.start
value_at times BEnd = times.end

abbrev pub name_at : Point → VarName
name_at AStart = Token token_a Start
name_at AEnd = Token token_a End
name_at BStart = Token token_b Start
name_at BEnd = Token token_b End

abbrev claim_of : Edge → Claim
claim_of (Most p q) = at_most (Variable (name_at p)) (Variable (name_at q))
claim_of (Same p q) = equal (Variable (name_at p)) (Variable (name_at q))

abbrev pub edges : Rel → List Edge
edges rel.Any = []
edges rel.Before = Most AEnd BStart ∷ []
edges rel.After = Most BEnd AStart ∷ []
edges rel.Meets = Same AEnd BStart ∷ []
edges rel.MetBy = Same BEnd AStart ∷ []
edges rel.Equals = Same AStart BStart ∷ Same AEnd BEnd ∷ []
edges rel.Contains = Most AStart BStart ∷ Most BEnd AEnd ∷ []
edges rel.ContainedBy = Most BStart AStart ∷ Most AEnd BEnd ∷ []
edges rel.Starts = Same AStart BStart ∷ []
edges rel.Ends = Same AEnd BEnd ∷ []
edges rel.Parallels = Most AStart BStart ∷ Most AEnd BEnd ∷ []
edges rel.ParalleledBy = Most BStart AStart ∷ Most BEnd AEnd ∷ []
edges rel.StartsDuring = Most BStart AStart ∷ Most AStart BEnd ∷ []
edges rel.ContainsStart = Most AStart BStart ∷ Most BStart AEnd ∷ []
edges rel.EndsDuring = Most BStart AEnd ∷ Most AEnd BEnd ∷ []
edges rel.ContainsEnd = Most AStart BEnd ∷ Most BEnd AEnd ∷ []

claims_are : (r : Rel) → relates r token_a token_b ≡ map claim_of (edges r)
claims_are rel.Any = refl
claims_are rel.Before = refl
claims_are rel.After = refl
claims_are rel.Meets = refl
claims_are rel.MetBy = refl
claims_are rel.Equals = refl
claims_are rel.Contains = refl
claims_are rel.ContainedBy = refl
claims_are rel.Starts = refl
claims_are rel.Ends = refl
claims_are rel.Parallels = refl
claims_are rel.ParalleledBy = refl
claims_are rel.StartsDuring = refl
claims_are rel.ContainsStart = refl
claims_are rel.EndsDuring = refl
claims_are rel.ContainsEnd = refl

abbrev IsTrue : Times → Edge → Type 0
IsTrue times (Most p q) = value_at times p ≤ value_at times q
IsTrue times (Same p q) = value_at times p ≡ value_at times q

-- ---- the state

abbrev by_name : VarDomain → VarDomain → Type 0
by_name one later = IsVarBefore one.name later.name

entry_transitive : (x y z : VarDomain) → by_name x y → by_name y z → by_name x z
entry_transitive x y z = var_order.transitive x.name y.name z.name

module _ (times : Times) where
  abbrev entry : Point → VarDomain
  entry p = record { name = name_at p; domain = exactly (value_at times p) }

  in_order : AreInOrder (beside_a times)
  in_order = record {
    tokens = ordered_link IsTokenBefore token_order.transitive token_a token_b [] (inl (omega arith)) (ordered_one IsTokenBefore token_b);
    blocks = ordered_none IsBlockBefore;
    entries =
        ordered_link by_name entry_transitive (entry AStart) (entry AEnd) (entry BStart ∷ entry BEnd ∷ []) (inr (refl, omega arith))
        (ordered_link by_name entry_transitive (entry AEnd) (entry BStart) (entry BEnd ∷ []) (inl (inl (omega arith)))
        (ordered_link by_name entry_transitive (entry BStart) (entry BEnd) [] (inr (refl, omega arith)) (ordered_one by_name (entry BEnd))));
  }

  gives : (p : Point) → Gives (beside_a times) (name_at p) (exactly (value_at times p))
  gives AStart = (0, omega arith, refl)
  gives AEnd = (1, omega arith, refl)
  gives BStart = (2, omega arith, refl)
  gives BEnd = (3, omega arith, refl)

  true_consistent : (edge : Edge) → IsTrue times edge → IsClaimConsistent (problem_of [] []) (beside_a times) (claim_of edge)
  true_consistent (Most p q) t = at_most_holds (problem_of [] []) (beside_a times) in_order (Variable (name_at p)) (Variable (name_at q)) (value_at times p) (value_at times q) (gives p) (gives q) t
  true_consistent (Same p q) t = equal_holds (problem_of [] []) (beside_a times) in_order (Variable (name_at p)) (Variable (name_at q)) (value_at times p) (value_at times q) (gives p) (gives q) t

  consistent_true : (edge : Edge) → IsClaimConsistent (problem_of [] []) (beside_a times) (claim_of edge) → IsTrue times edge
  consistent_true (Most p q) c = at_most_says (problem_of [] []) (beside_a times) in_order (Variable (name_at p)) (Variable (name_at q)) (value_at times p) (value_at times q) (gives p) (gives q) c
  consistent_true (Same p q) c = equal_says (problem_of [] []) (beside_a times) in_order (Variable (name_at p)) (Variable (name_at q)) (value_at times p) (value_at times q) (gives p) (gives q) c

-- ---- decided

abbrev pub le : ℕ → ℕ → Bool
le zero n = true
le (suc m) zero = false
le (suc m) (suc n) = le m n

le_yes : (m n : ℕ) → le m n ≡ true → m ≤ n
le_yes zero n e = omega arith
le_yes (suc m) zero e = absurd (cc)
le_yes (suc m) (suc n) e = let less = le_yes m n e in omega (arith, less)

le_no : (m n : ℕ) → le m n ≡ false → m ≤ n → ⊥
le_no zero n e less = absurd (cc)
le_no (suc m) zero e less = omega (arith, less)
le_no (suc m) (suc n) e less = le_no m n e (omega (arith, less))

abbrev pub both : Bool → Bool → Bool
both true c = c
both false c = false

abbrev pub decide : Times → Edge → Bool
decide times (Most p q) = le (value_at times p) (value_at times q)
decide times (Same p q) = both (le (value_at times p) (value_at times q)) (le (value_at times q) (value_at times p))

both_yes : (b c : Bool) → both b c ≡ true → (b ≡ true) × (c ≡ true)
both_yes true c e = (refl, e)
both_yes false c e = absurd (cc)

both_no : (b c : Bool) → both b c ≡ false → (b ≡ false) ⊎ (c ≡ false)
both_no true c e = inr e
both_no false c e = inl refl

decide_yes : (times : Times) (edge : Edge) → decide times edge ≡ true → IsTrue times edge
decide_yes times (Most p q) e = le_yes (value_at times p) (value_at times q) e
decide_yes times (Same p q) e =
    let parts = both_yes (le (value_at times p) (value_at times q)) (le (value_at times q) (value_at times p)) e in
    let one = le_yes (value_at times p) (value_at times q) parts.0 in
    let other = le_yes (value_at times q) (value_at times p) parts.1 in
    omega (arith, one, other)

decide_no : (times : Times) (edge : Edge) → decide times edge ≡ false → IsTrue times edge → ⊥
decide_no times (Most p q) e t = le_no (value_at times p) (value_at times q) e t
decide_no times (Same p q) e t = elim (both_no (le (value_at times p) (value_at times q)) (le (value_at times q) (value_at times p)) e) [
  | inl one ↦ le_no (value_at times p) (value_at times q) one (omega (arith, t))
  | inr other ↦ le_no (value_at times q) (value_at times p) other (omega (arith, t))
]

abbrev pub all_true : Times → List Edge → Bool
all_true times [] = true
all_true times (edge ∷ more) = both (decide times edge) (all_true times more)

-- what follows from the claims of these edges
abbrev FitsEdges : Times → List Edge → Type 0
FitsEdges times listed = (claim : Claim) → Contains (map claim_of listed) claim → IsClaimConsistent (problem_of [] []) (beside_a times) claim

all_yes : (times : Times) (listed : List Edge) → all_true times listed ≡ true → FitsEdges times listed
all_yes times [] e claim c = absurd (contains_none claim c)
all_yes times (edge ∷ more) e claim c =
    let parts = both_yes (decide times edge) (all_true times more) e in
    elim (contains_cases (claim_of edge) claim (map claim_of more) c) [
      | inl same ↦ subst (IsClaimConsistent (problem_of [] []) (beside_a times)) same (true_consistent times edge (decide_yes times edge parts.0))
      | inr later ↦ all_yes times more parts.1 claim later
    ]

all_no : (times : Times) (listed : List Edge) → all_true times listed ≡ false → FitsEdges times listed → ⊥
all_no times [] e fit = absurd (cc)
all_no times (edge ∷ more) e fit = elim (both_no (decide times edge) (all_true times more) e) [
  | inl one ↦ decide_no times edge one (consistent_true times edge (fit (claim_of edge) (contains_head (claim_of edge) (map claim_of more))))
  | inr rest ↦ all_no times more rest (λ claim c. fit claim (contains_later (claim_of edge) claim (map claim_of more) c))
]

-- ---- the rows

abbrev pub mark_of : Bool → ℕ
mark_of true = 121
mark_of false = 110

mark_is : (r : Rel) (times : Times) (answer : Bool) → all_true times (edges r) ≡ answer → IsRowMark r times (mark_of answer)
mark_is r times true e = (λ same. subst (λ list. (claim : Claim) → Contains list claim → IsClaimConsistent (problem_of [] []) (beside_a times) claim) (sym (claims_are r)) (all_yes times (edges r) e), λ fit. refl)
mark_is r times false e = (
  λ same. let e : 110 ≡ 121 = ap (λ (list : List ℕ). get_or list 0 0) same in absurd (omega (arith, e)),
  λ fit. absurd (all_no times (edges r) e (subst (λ list. (claim : Claim) → Contains list claim → IsClaimConsistent (problem_of [] []) (beside_a times) claim) (claims_are r) fit)),
)

pub row : (r : Rel) (listed : List Times) → AllZip (IsRowMark r) listed (map (λ times. mark_of (all_true times (edges r))) listed)
row r [] = tt
row r (times ∷ listed) = (mark_is r times (all_true times (edges r)) refl, row r listed)
