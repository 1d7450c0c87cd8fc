-- Each thing has one rootedness, so the marks of a lineage are one list.
use Rattle.std.proofs.Common.{◌≡◌, ℕ, suc, ◌<◌, List, [], ◌∷◌, length, refl, sym, ◌∙◌, ap, subst, arith}
use Rattle.std.specs.Prelude.{Option, Some, None, slice_get}
use Rattle.std.specs.Option.{option_and_then}
use Rattle.std.proofs.lemmas.Option.{same_Some}
use Rattle.eu_forest.specs.declared.lineage.Rootedness.{Rootedness}
use Rattle.eu_forest.specs.declared.lineage.Rootedness.TheVariants.{Rooted, OnCircle, Leading}
use Rattle.eu_forest.specs.declared.walk.Mark.{Mark}
use Rattle.eu_forest.specs.declared.walk.Mark.TheVariants as marks
use Rattle.eu_forest.specs.Lines.{LeadsUp, IsOnCircle, StandsSo, IsLineageOf, rootedness_of_mark}
use Rattle.eu_forest.proofs.Chains.{one_parent}
use Rattle.eu_forest.proofs.Ways.{rooted_off}

-- lists with the same at each place are the same
pub same_places : {X : Type 0} (xs ys : List X) → length xs ≡ length ys → ((place : ℕ) → place < length xs → slice_get xs place ≡ slice_get ys place)
    → xs ≡ ys
same_places [] [] long same = refl
same_places [] (y ∷ ys) long same = absurd (omega arith)
same_places (x ∷ xs) [] long same = absurd (omega arith)
same_places (x ∷ xs) (y ∷ ys) long same =
    let first : x ≡ y = same_Some x y (same 0 (omega arith)) in
    let rest : xs ≡ ys = same_places xs ys (omega arith) (λ place within. same (suc place) (omega arith)) in
    λ i. first i ∷ rest i

-- and leads to none
rooted_not_leading : (parents : List (Option ℕ)) (number : ℕ) (path : List ℕ) (root other : ℕ) (more : List ℕ) → LeadsUp parents number path root
    → slice_get parents root ≡ Some None → LeadsUp parents number more other → IsOnCircle parents other → ⊥
rooted_not_leading parents number path root other [] leads ends up circle =
    let P : ℕ → Type 0 = λ n. IsOnCircle parents n in rooted_off parents number path root leads ends (subst P up circle)
rooted_not_leading parents number [] root other (next ∷ more) leads ends up circle =
    let P : ℕ → Type 0 = λ n. slice_get parents n ≡ Some None in
    let none : slice_get parents number ≡ Some None = subst P leads ends in
    let e : ◌≡◌ {A = Option ℕ} None (Some next) = same_Some None (Some next) (sym none ∙ up.0) in cc
rooted_not_leading parents number (parent ∷ path) root other (next ∷ more) leads ends up circle =
    let same : next ≡ parent = one_parent parents number next parent up.0 leads.0 in
    let P : ℕ → Type 0 = λ n. LeadsUp parents n more other in
    rooted_not_leading parents parent path root other more leads.1 ends (subst P same up.1) circle

pub one_rootedness : (parents : List (Option ℕ)) (number : ℕ) (one other : Rootedness) → StandsSo parents number one → StandsSo parents number other
    → one ≡ other
one_rootedness parents number Rooted Rooted is are = refl
one_rootedness parents number OnCircle OnCircle is are = refl
one_rootedness parents number Leading Leading is are = refl
one_rootedness parents number Rooted OnCircle is are = absurd (rooted_off parents number is.path is.root is.leads is.ends are)
one_rootedness parents number OnCircle Rooted is are = absurd (rooted_off parents number are.path are.root are.leads are.ends is)
one_rootedness parents number Rooted Leading is are =
    absurd (rooted_not_leading parents number is.path is.root are.other are.path is.leads is.ends are.leads are.circle)
one_rootedness parents number Leading Rooted is are =
    absurd (rooted_not_leading parents number are.path are.root is.other is.path are.leads are.ends is.leads is.circle)
one_rootedness parents number OnCircle Leading is are = absurd (are.off is)
one_rootedness parents number Leading OnCircle is are = absurd (is.off are)

known_so : (found : Option Mark) (rootedness : Rootedness) → option_and_then rootedness_of_mark found ≡ Some rootedness → found ≡ Some (marks.Known rootedness)
known_so None rootedness is = cc
known_so (Some marks.Unseen) rootedness is = cc
known_so (Some (marks.Walked place)) rootedness is = cc
known_so (Some (marks.Known other)) rootedness is = ap (λ s. Some (marks.Known s)) (same_Some other rootedness is)

pub one_marking : (parents : List (Option ℕ)) (marked others : List Mark) (order orders : List ℕ) → IsLineageOf parents marked order
    → IsLineageOf parents others orders → marked ≡ others
one_marking parents marked others order orders one other =
    same_places marked others (one.count ∙ sym other.count) (λ place within.
    let inside : place < length parents = omega (arith, one.count) in
    let here = one.rootedness place inside in
    let there = other.rootedness place inside in
    known_so (slice_get marked place) here.0 here.1
    ∙ (ap (λ s. Some (marks.Known s)) (one_rootedness parents place here.0 there.0 here.2 there.2)
    ∙ sym (known_so (slice_get others place) there.0 there.1)))
