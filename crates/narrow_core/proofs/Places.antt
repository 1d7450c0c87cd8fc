-- One argument after the other: the pass as the loop makes it.
use Rattle.std.proofs.Common.{◌≡◌, ℕ, ◌+◌, ℤ, List, [], ◌∷◌, ◌++◌, length, get_or, set, refl, sym, ap, ◌∙◌, subst, arith}
use Rattle.std.specs.Prelude.{All}
use Rattle.std.proofs.lemmas.List.{append_assoc, length-append}
use Rattle.std.proofs.lemmas.List.Elements.{All-append, All-cons, All-head, All-tail}
use Rattle.domain_core.specs.Domain.{Domain, IsDomain}
use Rattle.domain_core.specs.Narrowing.{Keeps, joined}
use Rattle.domain_core.specs.declared.Change.{Change}
use Rattle.domain_core.specs.declared.Change.TheVariants.{Same, Empty}
use Rattle.domain_core.specs.Consistency.{Reach, IsSupported}
use Rattle.narrow_core.specs.Sweeps.{Sweeps, NarrowsAt}
use Rattle.narrow_core.proofs.Sweeping.{joined_empty, joined_same, joined_assoc, joined_some}

-- ---- one place

pub none_of : {X : Type 0} (xs : List X) → length xs ≡ 0 → xs ≡ []
none_of [] long = refl
none_of (x ∷ xs) long = absurd (omega arith)

pub one_of : {X : Type 0} (xs : List X) (x : X) → length xs ≡ 1 → x ≡ get_or xs 0 x → xs ≡ x ∷ []
one_of [] x long at = absurd (omega arith)
one_of (y ∷ ys) x long at = let rest = none_of ys (omega arith) in (λ i. sym at i ∷ rest i)

pub two_of : {X : Type 0} (xs : List X) (x y : X) → length xs ≡ 2 → x ≡ get_or xs 0 x → y ≡ get_or xs 1 y → xs ≡ x ∷ y ∷ []
two_of [] x y long at then = absurd (omega arith)
two_of (z ∷ zs) x y long at then = let rest = one_of zs y (omega arith) then in (λ i. sym at i ∷ rest i)

pub all_before : (before : List Domain) (domain : Domain) (after : List Domain) → All IsDomain (before ++ domain ∷ after) → All IsDomain before × IsDomain domain × All IsDomain after
all_before [] domain after all = (λ k d within. absurd (omega arith), All-head IsDomain domain after all, All-tail IsDomain domain after all)
all_before (b ∷ before) domain after all =
    let rest = all_before before domain after (All-tail IsDomain b (before ++ domain ∷ after) all) in
    (All-cons IsDomain b before (All-head IsDomain b (before ++ domain ∷ after) all) rest.0, rest.1, rest.2)

module _ (args before rest own after : List Domain) (was is : Domain) (args_are : args ≡ before ++ rest) (rest_is : rest ≡ own ++ after) (long : length own ≡ 1) (at : was ≡ get_or own 0 was) where
  old_is : args ≡ before ++ was ∷ after
  old_is = args_are ∙ ap (λ list. before ++ list) (rest_is ∙ ap (λ list. list ++ after) (one_of own was long at))

  new_is : before ++ (set own 0 is ++ after) ≡ before ++ is ∷ after
  new_is = ap (λ list. before ++ (set list 0 is ++ after)) (one_of own was long at)

  pub narrows_at : (reach : Reach) (holds : List ℤ → Type 0) (place : ℕ) (change : Change) → length before ≡ place
      → Keeps (λ value. IsSupported reach holds before value after) (get_or own 0 was) change is → NarrowsAt reach holds place args change (before ++ (set own 0 is ++ after))
  narrows_at reach holds place change front kept = record {
    before = before;
    was = was;
    is = is;
    after = after;
    at = front;
    old_is = old_is;
    new_is = new_is;
    kept = subst (λ d. Keeps (λ value. IsSupported reach holds before value after) d change is) (sym at) kept;
  }

  pub domains_at : (IsDomain (get_or own 0 was) → IsDomain is) → All IsDomain args → All IsDomain (before ++ (set own 0 is ++ after))
  domains_at stays all =
      let parts = all_before before was after (subst (All IsDomain) old_is all) in
      subst (All IsDomain) (sym new_is) (All-append IsDomain before (is ∷ after) parts.0 (All-cons IsDomain is after (stays (subst IsDomain at parts.1)) parts.2))

-- ---- the loop

-- the arguments before the place are as they are left, and whatever comes of the rest comes of the whole
pub record Swept (reach : Reach) (holds : List ℤ → Type 0) (initial args : List Domain) (place : ℕ) (change : Change) : Type 0 where
  pub left : List Domain
  pub later : List Domain
  pub args_are : args ≡ left ++ later
  pub at : length left ≡ place
  pub some : change ≡ Empty → ⊥
  pub goes_on : (next : Change) (rest : List Domain) → Sweeps reach holds left later next rest → Sweeps reach holds [] initial (joined change next) (left ++ rest)

pub swept_start : (reach : Reach) (holds : List ℤ → Type 0) (initial : List Domain) → Swept reach holds initial initial 0 Same
swept_start reach holds initial = record { left = []; later = initial; args_are = refl; at = refl; some = λ e. cc; goes_on = λ next rest sweep. sweep }

-- two ways to split a list at one place are one
pub same_split : (left before : List Domain) (later rest : List Domain) → length left ≡ length before → left ++ later ≡ before ++ rest → (left ≡ before) × (later ≡ rest)
same_split [] [] later rest long same = (refl, same)
same_split [] (b ∷ before) later rest long same = absurd (omega arith)
same_split (l ∷ left) [] later rest long same = absurd (omega arith)
same_split (l ∷ left) (b ∷ before) later rest long same =
    let head : l ≡ b = cc in
    let tail : left ++ later ≡ before ++ rest = cc in
    let both = same_split left before later rest (omega arith) tail in
    ((λ i. head i ∷ both.0 i), both.1)

module _ (reach : Reach) (holds : List ℤ → Type 0) (initial args new : List Domain) (place : ℕ) (change step : Change)
    (swept : Swept reach holds initial args place change) (narrowed : NarrowsAt reach holds place args step new) where
  split : (swept.left ≡ narrowed.before) × (swept.later ≡ narrowed.was ∷ narrowed.after)
  split = same_split swept.left narrowed.before swept.later (narrowed.was ∷ narrowed.after) (swept.at ∙ sym narrowed.at) (sym swept.args_are ∙ narrowed.old_is)

  goes_on : (next : Change) (rest : List Domain) → Sweeps reach holds narrowed.before (narrowed.was ∷ narrowed.after) next rest
      → Sweeps reach holds [] initial (joined change next) (narrowed.before ++ rest)
  goes_on next rest sweep =
      subst (λ list. Sweeps reach holds [] initial (joined change next) (list ++ rest)) split.0
      (swept.goes_on next rest (subst (λ list. Sweeps reach holds list swept.later next rest) (sym split.0) (subst (λ list. Sweeps reach holds narrowed.before list next rest) (sym split.1) sweep)))

  pub swept_stop : step ≡ Empty → Sweeps reach holds [] initial Empty new
  swept_stop empty =
      let end = goes_on Empty (narrowed.is ∷ narrowed.after) (step, narrowed.kept, (λ e. (refl, refl)), (λ some. absurd (some empty))) in
      subst (λ list. Sweeps reach holds [] initial Empty list) (sym narrowed.new_is) (subst (λ c. Sweeps reach holds [] initial c (narrowed.before ++ narrowed.is ∷ narrowed.after)) (joined_empty change) end)

  pub swept_step : (step ≡ Empty → ⊥) → Swept reach holds initial new (place + 1) (joined change step)
  swept_step some = record {
    left = narrowed.before ++ narrowed.is ∷ [];
    later = narrowed.after;
    args_are = narrowed.new_is ∙ sym (append_assoc narrowed.before (narrowed.is ∷ []) narrowed.after);
    at = omega (arith, length-append narrowed.before (narrowed.is ∷ []), narrowed.at);
    some = joined_some change step swept.some some;
    goes_on = λ next rest sweep.
        let whole = goes_on (joined step next) (narrowed.is ∷ rest) (step, narrowed.kept, (λ empty. absurd (some empty)), (λ some. (next, refl, sweep))) in
        subst (λ c. Sweeps reach holds [] initial c ((narrowed.before ++ narrowed.is ∷ []) ++ rest)) (sym (joined_assoc change step next))
        (subst (λ list. Sweeps reach holds [] initial (joined change (joined step next)) list) (sym (append_assoc narrowed.before (narrowed.is ∷ []) rest)) whole);
  }

pub swept_all : (reach : Reach) (holds : List ℤ → Type 0) (initial args : List Domain) (place : ℕ) (change : Change) → Swept reach holds initial args place change
    → length args ≡ place → Sweeps reach holds [] initial change args
swept_all reach holds initial args place change swept through =
    let none : length swept.later ≡ 0 = omega (arith, ap length swept.args_are, length-append swept.left swept.later, swept.at, through) in
    let later_is = none_of swept.later none in
    let end = swept.goes_on Same [] (subst (λ list. Sweeps reach holds swept.left list Same []) (sym later_is) (refl, refl)) in
    let args_are : swept.left ++ [] ≡ args = ap (λ list. swept.left ++ list) (sym later_is) ∙ sym swept.args_are in
    subst (λ c. Sweeps reach holds [] initial c args) (joined_same change) (subst (λ list. Sweeps reach holds [] initial (joined change Same) list) args_are end)
