-- Chains of things that stand under one another.
use Rattle.std.proofs.Common.{◌≡◌, ℕ, zero, suc, List, [], ◌∷◌, ◌++◌, take, drop, slice_get, Option, Some, ◌⊎◌, inl, inr, refl, sym, ap, subst}
use Rattle.eu_forest.specs.Lines.{StandsUnder, LeadsUp, IsOnCircle}
use Rattle.eu_forest.specs.Walks.{first_or, IsChain}
use Rattle.eu_forest.proofs.Lists.{some_is}

-- what a thing stands under is one thing
pub one_parent : (parents : List (Option ℕ)) (number one other : ℕ) → StandsUnder parents number one → StandsUnder parents number other → one ≡ other
one_parent parents number one other is are = cc

pub joined : (parents : List (Option ℕ)) (number : ℕ) (path : List ℕ) (middle : ℕ) (more : List ℕ) (other : ℕ)
    → LeadsUp parents number path middle → LeadsUp parents middle more other → LeadsUp parents number (path ++ more) other
joined parents number [] middle more other up goes = let P : ℕ → Type 0 = λ n. LeadsUp parents n more other in subst P up goes
joined parents number (parent ∷ path) middle more other up goes = (up.0, joined parents parent path middle more other up.1 goes)

-- things on a circle lead only to things on it, which lead back
pub circle_goes_on : (parents : List (Option ℕ)) (number parent : ℕ) → IsOnCircle parents number → StandsUnder parents number parent
    → IsOnCircle parents parent × ((path : List ℕ) × LeadsUp parents parent path number)
circle_goes_on parents number parent circle under =
    let same = one_parent parents number circle.parent parent circle.under under in
    let P : ℕ → Type 0 = λ n. LeadsUp parents n circle.path number in
    let back = subst P same circle.back in
    (by circle.path back, (circle.path, back))
  where
    by : (path : List ℕ) → LeadsUp parents parent path number → IsOnCircle parents parent
    by [] back = let Q : ℕ → Type 0 = λ n. IsOnCircle parents n in subst Q back circle
    by (next ∷ path) back =
        record { parent = next; path = path ++ parent ∷ []; under = back.0; back = joined parents next path number (parent ∷ []) parent back.1 (under, refl) }

pub circle_returns : (parents : List (Option ℕ)) (number : ℕ) (path : List ℕ) (top : ℕ) → IsOnCircle parents number → LeadsUp parents number path top
    → (back : List ℕ) × LeadsUp parents top back number
circle_returns parents number [] top circle up = ([], sym up)
circle_returns parents number (parent ∷ path) top circle up =
    let on = circle_goes_on parents number parent circle up.0 in
    let rest = circle_returns parents parent path top on.0 up.1 in
    (rest.0 ++ on.1.0, joined parents top rest.0 parent on.1.0 number rest.1 on.1.1)

pub first_or-snoc : (path : List ℕ) (next top : ℕ) → first_or (path ++ next ∷ []) top ≡ first_or path next
first_or-snoc [] next top = refl
first_or-snoc (x ∷ path) next top = refl

pub chain-snoc : (parents : List (Option ℕ)) (path : List ℕ) (next parent : ℕ) → IsChain parents path next → StandsUnder parents next parent
    → IsChain parents (path ++ next ∷ []) parent
chain-snoc parents [] next parent chain under = (under, tt)
chain-snoc parents (x ∷ path) next parent chain under =
    (let P : ℕ → Type 0 = λ n. StandsUnder parents x n in subst P (sym (first_or-snoc path next parent)) chain.0, chain-snoc parents path next parent chain.1 under)

-- each thing of a chain stands under something that leads up to the top
pub record LeadsOver (parents : List (Option ℕ)) (number top : ℕ) : Type 0 where
  pub parent : ℕ
  pub path : List ℕ
  pub under : StandsUnder parents number parent
  pub leads : LeadsUp parents parent path top

pub first_leads : (parents : List (Option ℕ)) (path : List ℕ) (top : ℕ) → IsChain parents path top → (up : List ℕ) × LeadsUp parents (first_or path top) up top
first_leads parents [] top chain = ([], refl)
first_leads parents (x ∷ path) top chain =
    let rest = first_leads parents path top chain.1 in (first_or path top ∷ rest.0, (chain.0, rest.1))

pub each_leads : (parents : List (Option ℕ)) (path : List ℕ) (top place number : ℕ) → IsChain parents path top → slice_get path place ≡ Some number
    → LeadsOver parents number top
each_leads parents [] top place number chain is = cc
each_leads parents (x ∷ path) top zero number chain is =
    let P : ℕ → Type 0 = λ n. LeadsOver parents n top in
    let rest = first_leads parents path top chain.1 in
    subst P (some_is x number is) (record { parent = first_or path top; path = rest.0; under = chain.0; leads = rest.1 })
each_leads parents (x ∷ path) top (suc place) number chain is = each_leads parents path top place number chain.1 is

-- the first of a chain leads to each thing of it
pub leads_each : (parents : List (Option ℕ)) (path : List ℕ) (top place number : ℕ) → IsChain parents path top → slice_get path place ≡ Some number
    → (up : List ℕ) × LeadsUp parents (first_or path top) up number
leads_each parents [] top place number chain is = cc
leads_each parents (x ∷ path) top zero number chain is = ([], sym (some_is x number is))
leads_each parents (x ∷ path) top (suc place) number chain is =
    let rest = leads_each parents path top place number chain.1 is in (first_or path top ∷ rest.0, (chain.0, rest.1))

-- what a thing of a chain stands under is a thing of the chain or the top
pub chain_next : (parents : List (Option ℕ)) (path : List ℕ) (top place number parent : ℕ) → IsChain parents path top → slice_get path place ≡ Some number
    → StandsUnder parents number parent → (slice_get path (suc place) ≡ Some parent) ⊎ (parent ≡ top)
chain_next parents [] top place number parent chain is under = cc
chain_next parents (x ∷ []) top zero number parent chain is under =
    inr (let P : ℕ → Type 0 = λ n. StandsUnder parents n parent in one_parent parents x parent top (subst P (sym (some_is x number is)) under) chain.0)
chain_next parents (x ∷ []) top (suc place) number parent chain is under = cc
chain_next parents (x ∷ y ∷ path) top zero number parent chain is under =
    inl (let P : ℕ → Type 0 = λ n. StandsUnder parents n parent in ap Some (one_parent parents x y parent chain.0 (subst P (sym (some_is x number is)) under)))
chain_next parents (x ∷ y ∷ path) top (suc place) number parent chain is under = chain_next parents (y ∷ path) top place number parent chain.1 is under

-- the chain from a place on
pub chain-drop : (parents : List (Option ℕ)) (n : ℕ) (path : List ℕ) (top : ℕ) → IsChain parents path top → IsChain parents (drop n path) top
chain-drop parents zero path top chain = chain
chain-drop parents (suc n) [] top chain = chain
chain-drop parents (suc n) (x ∷ path) top chain = chain-drop parents n path top chain.1

pub first_or-drop : (n : ℕ) (path : List ℕ) (top number : ℕ) → slice_get path n ≡ Some number → first_or (drop n path) top ≡ number
first_or-drop n [] top number is = cc
first_or-drop zero (x ∷ path) top number is = some_is x number is
first_or-drop (suc n) (x ∷ path) top number is = first_or-drop n path top number is

-- and up to it
pub first_or-take : (n : ℕ) (path : List ℕ) (top number : ℕ) → slice_get path n ≡ Some number → first_or (take n path) number ≡ first_or path top
first_or-take n [] top number is = cc
first_or-take zero (x ∷ path) top number is = sym (some_is x number is)
first_or-take (suc n) (x ∷ path) top number is = refl

pub chain-take : (parents : List (Option ℕ)) (n : ℕ) (path : List ℕ) (top number : ℕ) → slice_get path n ≡ Some number → IsChain parents path top
    → IsChain parents (take n path) number
chain-take parents n [] top number is chain = cc
chain-take parents zero (x ∷ path) top number is chain = tt
chain-take parents (suc n) (x ∷ path) top number is chain =
    (let P : ℕ → Type 0 = λ m. StandsUnder parents x m in subst P (sym (first_or-take n path top number is)) chain.0, chain-take parents n path top number is chain.1)

-- things of a chain whose top is its own first thing stand on a circle
pub chain_circle : (parents : List (Option ℕ)) (path : List ℕ) (top place number : ℕ) → IsChain parents path top → first_or path top ≡ top
    → slice_get path place ≡ Some number → IsOnCircle parents number
chain_circle parents path top place number chain closes is =
    let up = each_leads parents path top place number chain is in
    let down = leads_each parents path top place number chain is in
    let P : ℕ → Type 0 = λ n. LeadsUp parents n down.0 number in
    record { parent = up.parent; path = up.path ++ down.0; under = up.under; back = joined parents up.parent up.path top down.0 number up.leads (subst P closes down.1) }
