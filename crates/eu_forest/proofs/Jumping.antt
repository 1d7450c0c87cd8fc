-- Climbs along shortcuts.
use Rattle.std.proofs.Common.{◌≡◌, ℕ, zero, suc, ◌+◌, ◌<◌, ◌≤◌, ◌==◌, ◌||◌, ◌↔◌, Bool, true, false, List, [], ◌∷◌, ◌++◌, length, length-set, inl, inr, ◌⊎◌, refl, sym, ◌∙◌, ap, subst, arith, eqb-true, eq-eqb}
use Rattle.std.specs.Prelude.{Option, Some, None, is_none, replicate, slice_get, slice_set, if◌then◌else◌, IfSome}
use Rattle.std.specs.List.{list_any}
use Rattle.std.specs.Option.{option_and_then, option_map_or}
use Rattle.std.proofs.lemmas.Option.{same_Some, slice_get_past}
use Rattle.eu_forest.specs.Lines.{LeadsUp, StandsUnder}
use Rattle.eu_forest.proofs.Chains.{joined}
use Rattle.eu_forest.proofs.Lists.{get-set_other, get-set_same}
use Rattle.eu_forest.proofs.Marking.{equal_or_not}
use Rattle.eu_forest.specs.declared.shortcuts.Shortcut.{Shortcut}
use Rattle.eu_forest.specs.Ancestors.{parent_in}
use Rattle.eu_forest.specs.Shortcuts.{AreShortcuts, EndsAt, GoesOn, GoesOver, HasShortcut, IsShortcut, JumpsUp, Reaches, StepsUp, TellsLine, depth_in, is_on_line, jump_in, shortcut_in, with_shortcut}
use Rattle.eu_forest.proofs.Ways.{ancestry_is, short_way}

one_parent : (parents : List (Option ℕ)) (number one other : ℕ) → StandsUnder parents number one → StandsUnder parents number other → one ≡ other
one_parent parents number one other up down =
    let e : ◌≡◌ {A = Option ℕ} (Some one) (Some other) = same_Some (Some one) (Some other) (sym up ∙ down) in same_Some one other e

pub reaches_on : (parents : List (Option ℕ)) (number middle other : ℕ) → Reaches parents number middle → Reaches parents middle other → Reaches parents number other
reaches_on parents number middle other up more = (up.0 ++ more.0, joined parents number up.0 middle more.0 other up.1 more.1)

lower_or_not : (one other : ℕ) → (one < other) ⊎ (other ≤ one)
lower_or_not zero zero = inr (omega arith)
lower_or_not zero (suc other) = inl (omega arith)
lower_or_not (suc one) zero = inr (omega arith)
lower_or_not (suc one) (suc other) = elim (lower_or_not one other) [ inl h ↦ inl (omega arith) | inr h ↦ inr (omega arith) ]

pub same_bool : (one other : Bool) → (one ≡ true → other ≡ true) → (other ≡ true → one ≡ true) → one ≡ other
same_bool true true there back = refl
same_bool true false there back = sym (there refl)
same_bool false true there back = back refl
same_bool false false there back = refl

-- ---- what stands on a line that ends

module _ (parents : List (Option ℕ)) (other : ℕ) where
  on_way : (number : ℕ) (path : List ℕ) (root : ℕ) → LeadsUp parents number path root
      → list_any (λ here. other == here) (number ∷ path) ≡ true → Reaches parents number other
  on_way number [] root leads is = at (other == number) refl is
    where
      at : (b : Bool) → (other == number) ≡ b → (b || false) ≡ true → Reaches parents number other
      at true same is = ([], eqb-true other number same)
      at false differ is = absurd (let e : false ≡ true = is in cc)
  on_way number (parent ∷ path) root leads is =
      at (other == number) refl is (λ found. let rest = on_way parent path root leads.1 found in (parent ∷ rest.0, (leads.0, rest.1)))
    where
      at : (b : Bool) → (other == number) ≡ b → (b || list_any (λ here. other == here) (parent ∷ path)) ≡ true
          → (list_any (λ here. other == here) (parent ∷ path) ≡ true → Reaches parents number other) → Reaches parents number other
      at true same is later = ([], eqb-true other number same)
      at false differ is later = later is

  way_on : (number : ℕ) (up path : List ℕ) (root : ℕ) → LeadsUp parents number up other → LeadsUp parents number path root
      → slice_get parents root ≡ Some None → list_any (λ here. other == here) (number ∷ path) ≡ true
  way_on number [] path root up leads ends = ap (λ b. b || list_any (λ here. other == here) path) (eq-eqb other number up)
  way_on number (parent ∷ up) [] root goes leads ends =
      absurd (let P : ℕ → Type 0 = λ n. slice_get parents n ≡ Some None in
      let none : slice_get parents number ≡ Some None = subst P leads ends in
      let e : ◌≡◌ {A = Option ℕ} None (Some parent) = same_Some None (Some parent) (sym none ∙ goes.0) in cc)
  way_on number (parent ∷ up) (next ∷ path) root goes leads ends =
      let same = one_parent parents number parent next goes.0 leads.0 in
      let P : ℕ → Type 0 = λ n. LeadsUp parents n up other in
      let rest = way_on next up path root (subst P same goes.1) leads.1 ends in
      later (other == number) rest
    where
      later : (b : Bool) → list_any (λ here. other == here) (next ∷ path) ≡ true → (b || list_any (λ here. other == here) (next ∷ path)) ≡ true
      later true rest = refl
      later false rest = rest

  -- a thing stands on a line that ends just where it is reached
  pub line_tells : (number root : ℕ) → EndsAt parents number root
      → (is_on_line parents number other ≡ true → Reaches parents number other) × (Reaches parents number other → is_on_line parents number other ≡ true)
  line_tells number root ends =
      let path = ends.0.0 in
      let P : List ℕ → Type 0 = λ line. (list_any (λ here. other == here) line ≡ true → Reaches parents number other) × (Reaches parents number other → list_any (λ here. other == here) line ≡ true) in
      subst P (sym (ancestry_is parents number path root ends.0.1 ends.1))
      ((λ is. on_way number path root ends.0.1 is), (λ up. way_on number up.0 path root up.1 ends.0.1 ends.1))

-- ---- depths

-- a thing with this shortcut reaches the other by a step and more
abbrev GoesFar : List (Option ℕ) → ℕ → ℕ → Option Shortcut → Type 0
GoesFar parents number other found = (shortcut : Shortcut) × (found ≡ Some shortcut) × ((parent : ℕ) × StandsUnder parents number parent
    × ((path : List ℕ) × LeadsUp parents number (parent ∷ path) other))

-- a way of this length leads from a thing to where its shortcut says that it ends
abbrev Ends : List (Option ℕ) → ℕ → ℕ → Shortcut → Type 0
Ends parents depth number shortcut = (path : List ℕ) × LeadsUp parents number path shortcut.root
    × (slice_get parents shortcut.root ≡ Some None) × (length path ≡ depth)

-- the climb has come here, and what is reached from the start is reached from here
pub record Climbs (parents : List (Option ℕ)) (shortcuts : List (Option Shortcut)) (number other here : ℕ) : Type 0 where
  pub known : HasShortcut shortcuts here
  pub same : Reaches parents here other ↔ Reaches parents number other

-- ---- a list with one more shortcut

other_in : (shortcuts : List (Option Shortcut)) (number : ℕ) (found : Option Shortcut) (other : ℕ) → (other ≡ number → ⊥)
    → shortcut_in (slice_set shortcuts number found) other ≡ shortcut_in shortcuts other
other_in shortcuts number found other differ =
    ap (option_and_then (λ (f : Option Shortcut). f)) (get-set_other shortcuts number other found differ)

there_in : (shortcuts : List (Option Shortcut)) (number : ℕ) (found : Option Shortcut) (shortcut : Shortcut)
    → shortcut_in (slice_set shortcuts number found) number ≡ Some shortcut → found ≡ Some shortcut
there_in shortcuts number found shortcut is = elim (lower_or_not number (length shortcuts)) [
  | inl below ↦ (let e = ap (option_and_then (λ (f : Option Shortcut). f)) (get-set_same shortcuts number found below) in sym e ∙ is)
  | inr past ↦ absurd (let long = length-set shortcuts number found in
      let none : slice_get (slice_set shortcuts number found) number ≡ None = slice_get_past (slice_set shortcuts number found) number (omega (arith, long, past)) in
      let e : ◌≡◌ {A = Option Shortcut} None (Some shortcut) = sym (ap (option_and_then (λ (f : Option Shortcut). f)) none) ∙ is in cc)
]

goes_still : (parents : List (Option ℕ)) (shortcuts : List (Option Shortcut)) (number : ℕ) (found : Option Shortcut) → shortcut_in shortcuts number ≡ None
    → (thing : ℕ) (shortcut : Shortcut) (o : Option (Option ℕ))
    → GoesOn parents shortcuts thing shortcut o → GoesOn parents (slice_set shortcuts number found) thing shortcut o
goes_still parents shortcuts number found none thing shortcut None goes = goes
goes_still parents shortcuts number found none thing shortcut (Some None) goes = goes
goes_still parents shortcuts number found none thing shortcut (Some (Some parent)) goes =
    let differ : parent ≡ number → ⊥ = λ same.
    (let P : ℕ → Type 0 = λ n. shortcut_in shortcuts n ≡ Some goes.above in
    let e : ◌≡◌ {A = Option Shortcut} None (Some goes.above) = sym none ∙ subst P same goes.known in cc) in
    record {
      above = goes.above;
      known = other_in shortcuts number found parent differ ∙ goes.known;
      deeper = goes.deeper;
      higher = goes.higher;
      same = goes.same;
    }

module _ (parents : List (Option ℕ)) (shortcuts : List (Option Shortcut)) (are : AreShortcuts parents shortcuts) where
  goes_over : (number parent : ℕ) (shortcut : Shortcut) → shortcut_in shortcuts number ≡ Some shortcut → StandsUnder parents number parent
      → GoesOver parents shortcuts parent shortcut
  goes_over number parent shortcut is under =
      let P : Option (Option ℕ) → Type 0 = λ o. GoesOn parents shortcuts number shortcut o in subst P under (are number shortcut is)

  depth_is : (number : ℕ) (shortcut : Shortcut) → shortcut_in shortcuts number ≡ Some shortcut → depth_in shortcuts number ≡ shortcut.depth
  depth_is number shortcut is = ap (λ o. option_map_or (λ (s : Shortcut). s.depth) o 0) is

  depth_up : (number : ℕ) (shortcut : Shortcut) (path : List ℕ) (other : ℕ) → shortcut_in shortcuts number ≡ Some shortcut
      → LeadsUp parents number path other
      → (higher : Shortcut) × (shortcut_in shortcuts other ≡ Some higher) × (shortcut.depth ≡ higher.depth + length path)
  depth_up number shortcut [] other is up = let P : ℕ → Type 0 = λ n. shortcut_in shortcuts n ≡ Some shortcut in (shortcut, subst P (sym up) is, omega arith)
  depth_up number shortcut (parent ∷ path) other is up =
      let over = goes_over number parent shortcut is up.0 in
      let rest = depth_up parent over.above path other over.known up.1 in
      (rest.0, rest.1, omega (arith, over.deeper, rest.2))

  -- a way with a step leads to what stands less deep
  less_deep : (number : ℕ) (shortcut : Shortcut) (parent : ℕ) (path : List ℕ) (other : ℕ) → shortcut_in shortcuts number ≡ Some shortcut
      → LeadsUp parents number (parent ∷ path) other → depth_in shortcuts other < depth_in shortcuts number
  less_deep number shortcut parent path other is up =
      let found = depth_up number shortcut (parent ∷ path) other is up in
      omega (arith, depth_is number shortcut is, depth_is other found.0 found.1, found.2)

  -- of two things that are reached, the deeper one reaches the other
  deeper_reaches : (number : ℕ) (shortcut : Shortcut) (one other : ℕ) (way path : List ℕ) → shortcut_in shortcuts number ≡ Some shortcut
      → LeadsUp parents number way one → LeadsUp parents number path other → depth_in shortcuts other ≤ depth_in shortcuts one → Reaches parents one other
  deeper_reaches number shortcut one other [] path is near up le = let P : ℕ → Type 0 = λ n. Reaches parents n other in subst P (sym near) (path, up)
  deeper_reaches number shortcut one other (parent ∷ way) [] is near up le =
      absurd (let less = less_deep number shortcut parent way one is near in let e = ap (depth_in shortcuts) up in omega arith)
  deeper_reaches number shortcut one other (parent ∷ way) (next ∷ path) is near up le =
      let over = goes_over number parent shortcut is near.0 in
      let same = one_parent parents number next parent up.0 near.0 in
      let P : ℕ → Type 0 = λ n. LeadsUp parents n path other in
      deeper_reaches parent over.above one other way path over.known near.1 (subst P same up.1) le

  -- what leads up to nothing past the other one goes on
  pub steps : (here other next : ℕ) (shortcut : Shortcut) (parent : ℕ) (path : List ℕ) → shortcut_in shortcuts here ≡ Some shortcut
      → LeadsUp parents here (parent ∷ path) next → depth_in shortcuts other ≤ depth_in shortcuts next → StepsUp parents shortcuts here other next
  steps here other next shortcut parent path is up le =
      let found = depth_up here shortcut (parent ∷ path) next is up in
      record {
        known = (found.0, found.1);
        nearer = less_deep here shortcut parent path next is up;
        same = (
          (λ goes. deeper_reaches here shortcut next other (parent ∷ path) goes.0 is up goes.1 le),
          (λ goes. reaches_on parents here next other (parent ∷ path, up) goes),
        );
      }

  -- a thing that stands no deeper is reached only where it is the same
  pub stays_here : (here other : ℕ) (shortcut : Shortcut) → shortcut_in shortcuts here ≡ Some shortcut
      → depth_in shortcuts here ≤ depth_in shortcuts other → Reaches parents here other → here ≡ other
  stays_here here other shortcut is over up = by up.0 up.1
    where
      by : (path : List ℕ) → LeadsUp parents here path other → here ≡ other
      by [] same = sym same
      by (parent ∷ path) goes = absurd (let less = less_deep here shortcut parent path other is goes in omega (arith, less, over))

  -- a jump is reached
  pub jump_reached : (number : ℕ) → Reaches parents number (jump_in shortcuts number)
  jump_reached number = by (shortcut_in shortcuts number) refl
    where
      at : (shortcut : Shortcut) (o : Option (Option ℕ)) → slice_get parents number ≡ o → GoesOn parents shortcuts number shortcut o → Reaches parents number shortcut.jump
      at shortcut None there goes = absurd goes
      at shortcut (Some None) there goes = ([], goes.1)
      at shortcut (Some (Some parent)) there goes = (parent ∷ goes.higher.0, (there, goes.higher.1))

      by : (o : Option Shortcut) → shortcut_in shortcuts number ≡ o → Reaches parents number (option_map_or (λ (s : Shortcut). s.jump) o number)
      by None is = ([], refl)
      by (Some shortcut) is = at shortcut (slice_get parents number) refl (are number shortcut is)

  -- where a thing stands under something, its jump is reached by a step and more
  pub jump_over : (number : ℕ) → 0 < depth_in shortcuts number → GoesFar parents number (jump_in shortcuts number) (shortcut_in shortcuts number)
  jump_over number deep = by (shortcut_in shortcuts number) refl deep
    where
      at : (shortcut : Shortcut) (o : Option (Option ℕ)) → slice_get parents number ≡ o → GoesOn parents shortcuts number shortcut o → 0 < shortcut.depth
          → GoesFar parents number shortcut.jump (Some shortcut)
      at shortcut None there goes deep = absurd goes
      at shortcut (Some None) there goes deep = absurd (let none = goes.0 in omega arith)
      at shortcut (Some (Some parent)) there goes deep = (shortcut, refl, (parent, there, (goes.higher.0, (there, goes.higher.1))))

      by : (o : Option Shortcut) → shortcut_in shortcuts number ≡ o → 0 < option_map_or (λ (s : Shortcut). s.depth) o 0
          → GoesFar parents number (option_map_or (λ (s : Shortcut). s.jump) o number) o
      by None is deep = absurd (omega arith)
      by (Some shortcut) is deep = at shortcut (slice_get parents number) refl (are number shortcut is) deep

  -- what has a shortcut ends where this says, over as many things as it is deep
  ends_by : (depth number : ℕ) (shortcut : Shortcut) (o : Option (Option ℕ)) → slice_get parents number ≡ o → GoesOn parents shortcuts number shortcut o
      → shortcut.depth ≡ depth
      → ((lower parent : ℕ) (above : Shortcut) → depth ≡ suc lower → shortcut_in shortcuts parent ≡ Some above → above.depth ≡ lower → Ends parents lower parent above)
      → Ends parents depth number shortcut
  ends_by depth number shortcut None there goes deep each = absurd goes
  ends_by depth number shortcut (Some None) there goes deep each =
      let P : ℕ → Type 0 = λ n. slice_get parents n ≡ Some None in ([], goes.2, subst P (sym goes.2) there, omega (arith, goes.0, deep))
  ends_by depth number shortcut (Some (Some parent)) there goes deep each =
      let rest = each goes.above.depth parent goes.above (omega (arith, goes.deeper, deep)) goes.known refl in
      let P : ℕ → Type 0 = λ n. LeadsUp parents parent rest.0 n in
      let Q : ℕ → Type 0 = λ n. slice_get parents n ≡ Some None in (
        parent ∷ rest.0,
        (there, subst P (sym goes.same) rest.1),
        subst Q (sym goes.same) rest.2,
        omega (arith, rest.3, goes.deeper, deep),
      )

  ends_so : (depth number : ℕ) (shortcut : Shortcut) → shortcut_in shortcuts number ≡ Some shortcut → shortcut.depth ≡ depth → Ends parents depth number shortcut
  ends_so zero number shortcut is deep =
      ends_by zero number shortcut (slice_get parents number) refl (are number shortcut is) deep
      (λ lower parent above less known same. absurd (omega (arith, less)))
  ends_so (suc depth) number shortcut is deep =
      ends_by (suc depth) number shortcut (slice_get parents number) refl (are number shortcut is) deep
      (λ lower parent above less known same.
      let e : lower ≡ depth = omega (arith, less) in
      let P : ℕ → Type 0 = λ n. Ends parents n parent above in subst P (sym e) (ends_so depth parent above known (same ∙ e)))

  pub ends_there : (number : ℕ) (shortcut : Shortcut) → shortcut_in shortcuts number ≡ Some shortcut → EndsAt parents number shortcut.root
  ends_there number shortcut is = let found = ends_so shortcut.depth number shortcut is refl in ((found.0, found.1), found.2)

  -- nothing stands deeper than there are things
  pub few_deep : (number : ℕ) (shortcut : Shortcut) → shortcut_in shortcuts number ≡ Some shortcut → shortcut.depth < length parents
  few_deep number shortcut is =
      let found = ends_so shortcut.depth number shortcut is refl in
      let few = short_way parents number found.0 shortcut.root found.1 found.2 in omega (arith, few, found.3)

  -- ---- a climb

  pub ends_climb : (number other here : ℕ) → Climbs parents shortcuts number other here → depth_in shortcuts here ≤ depth_in shortcuts other
      → (here ≡ other) ↔ Reaches parents number other
  ends_climb number other here climbs over = (
    (λ same. climbs.same.0 ([], sym same)),
    (λ up. stays_here here other climbs.known.0 climbs.known.1 over (climbs.same.1 up)),
  )

  pub tells : (number other top : ℕ) → HasShortcut shortcuts number → ((top ≡ other) ↔ Reaches parents number other)
      → TellsLine parents number other (top == other)
  tells number other top known same =
      let ends = ends_there number known.0 known.1 in
      let line = line_tells parents other number known.0.root ends in (
        (known.0.root, ends),
        same_bool (top == other) (is_on_line parents number other)
            (λ is. line.1 (same.0 (eqb-true top other is))) (λ is. eq-eqb top other (same.1 (line.0 is))),
      )

  -- ---- steps

  pub jump_steps : (here other jump : ℕ) → depth_in shortcuts other < depth_in shortcuts here → jump ≡ jump_in shortcuts here
      → depth_in shortcuts other ≤ depth_in shortcuts jump → StepsUp parents shortcuts here other jump
  jump_steps here other jump deep is over =
      let goes = jump_over here (omega (arith, deep)) in
      let P : ℕ → Type 0 = λ n. LeadsUp parents here (goes.2.0 ∷ goes.2.2.0) n in
      steps here other jump goes.0 goes.2.0 goes.2.2.0 goes.1 (subst P (sym is) goes.2.2.1) over

  under_is : (here parent : ℕ) → StandsUnder parents here parent → parent_in parents here ≡ Some parent
  under_is here parent under = ap (option_and_then (λ (p : Option ℕ). p)) under

  pub parent_steps : (here other parent : ℕ) → depth_in shortcuts other < depth_in shortcuts here → Some parent ≡ parent_in parents here
      → StepsUp parents shortcuts here other parent
  parent_steps here other parent deep is =
      let goes = jump_over here (omega (arith, deep)) in
      let same : parent ≡ goes.2.0 = same_Some parent goes.2.0 (is ∙ under_is here goes.2.0 goes.2.1) in
      let P : ℕ → Type 0 = λ n. StepsUp parents shortcuts here other n in
      let found = depth_up here goes.0 (goes.2.0 ∷ []) goes.2.0 goes.1 (goes.2.1, refl) in
      subst P (sym same) (steps here other goes.2.0 goes.0 goes.2.0 [] goes.1 (goes.2.1, refl)
      (omega (arith, deep, depth_is here goes.0 goes.1, depth_is goes.2.0 found.0 found.1, found.2)))

  pub no_parent : (here other : ℕ) → depth_in shortcuts other < depth_in shortcuts here → None ≡ parent_in parents here → ⊥
  no_parent here other deep is =
      let goes = jump_over here (omega (arith, deep)) in
      let e : ◌≡◌ {A = Option ℕ} None (Some goes.2.0) = is ∙ under_is here goes.2.0 goes.2.1 in cc

  -- ---- new shortcuts

  -- what is found of a thing that stands under this
  pub goes_under : (parent jump : ℕ) → JumpsUp shortcuts parent jump → Reaches parents parent jump
  goes_under parent jump jumps =
      let first = jump_in shortcuts parent in
      let P : ℕ → Type 0 = λ n. Reaches parents parent n in elim jumps [
        | inl same ↦ ([], same)
        | inr is ↦ subst P (sym is) (reaches_on parents parent first (jump_in shortcuts first) (jump_reached parent) (jump_reached first))
      ]

  pub noted_right : (number : ℕ) (found : Option Shortcut) → IfSome found (IsShortcut parents shortcuts number)
      → AreShortcuts parents (with_shortcut shortcuts number found)
  noted_right number found right = by (shortcut_in shortcuts number) refl
    where
      right_at : (shortcut : Shortcut) → found ≡ Some shortcut → IsShortcut parents shortcuts number shortcut
      right_at shortcut is = let P : Option Shortcut → Type 0 = λ o. IfSome o (IsShortcut parents shortcuts number) in subst P is right

      noted_at : shortcut_in shortcuts number ≡ None → (thing : ℕ) (shortcut : Shortcut)
          → shortcut_in (slice_set shortcuts number found) thing ≡ Some shortcut → IsShortcut parents (slice_set shortcuts number found) thing shortcut
      noted_at none thing shortcut there = elim (equal_or_not thing number) [
        | inl same ↦ (let P : ℕ → Type 0 = λ n. shortcut_in (slice_set shortcuts number found) n ≡ Some shortcut in
            let Q : ℕ → Type 0 = λ n. IsShortcut parents (slice_set shortcuts number found) n shortcut in
            let is = there_in shortcuts number found shortcut (subst P same there) in
            subst Q (sym same) (goes_still parents shortcuts number found none number shortcut (slice_get parents number) (right_at shortcut is)))
        | inr differ ↦ goes_still parents shortcuts number found none thing shortcut (slice_get parents thing)
            (are thing shortcut (sym (other_in shortcuts number found thing differ) ∙ there))
      ]

      by : (o : Option Shortcut) → shortcut_in shortcuts number ≡ o → AreShortcuts parents (if is_none o then slice_set shortcuts number found else shortcuts)
      by (Some shortcut) is = are
      by None none = noted_at none

pub begins : (parents : List (Option ℕ)) (shortcuts : List (Option Shortcut)) (number other : ℕ) → HasShortcut shortcuts number
    → Climbs parents shortcuts number other number
begins parents shortcuts number other known = record { known = known; same = ((λ up. up), (λ up. up)) }

pub goes_on : (parents : List (Option ℕ)) (shortcuts : List (Option Shortcut)) (number other here next : ℕ) → Climbs parents shortcuts number other here
    → StepsUp parents shortcuts here other next → Climbs parents shortcuts number other next
goes_on parents shortcuts number other here next climbs steps = record {
  known = steps.known;
  same = ((λ up. climbs.same.0 (steps.same.1 up)), (λ up. steps.same.0 (climbs.same.1 up)));
}

abbrev bare : ℕ → List (Option Shortcut)
bare count = replicate count None

nothing_in : (count number : ℕ) → (slice_get (bare count) number ≡ Some None) ⊎ (slice_get (bare count) number ≡ None)
nothing_in zero number = inr refl
nothing_in (suc count) zero = inl refl
nothing_in (suc count) (suc number) = nothing_in count number

-- where nothing has a shortcut, all are right
pub none_right : (parents : List (Option ℕ)) (count : ℕ) → AreShortcuts parents (bare count)
none_right parents count = λ number shortcut is.
    let id : Option (Option Shortcut) → Option Shortcut = λ o. option_and_then (λ (f : Option Shortcut). f) o in
    absurd (elim (nothing_in count number) [
      | inl none ↦ (let e : ◌≡◌ {A = Option Shortcut} None (Some shortcut) = sym (ap id none) ∙ is in cc)
      | inr none ↦ (let e : ◌≡◌ {A = Option Shortcut} None (Some shortcut) = sym (ap id none) ∙ is in cc)
    ])
