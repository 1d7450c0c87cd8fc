-- A walk that goes up.
use Rattle.std.proofs.Common.{◌≡◌, ℕ, ◌<◌, List, [], ◌∷◌, ◌++◌, length, sum_by, slice_set, slice_get, Option, Some, None, inl, inr, refl, sym, ap, ◌∙◌, subst, arith, length-set}
use Rattle.std.proofs.lemmas.List.Sums.{sum_by-set}
use Rattle.std.proofs.lemmas.Option.{slice_get_within, get_or_from_slice_get}
use Rattle.eu_forest.specs.declared.lineage.Rootedness.TheVariants.{Rooted}
use Rattle.eu_forest.specs.declared.walk.Mark.{Mark}
use Rattle.eu_forest.specs.declared.walk.Mark.TheVariants as marks
use Rattle.eu_forest.specs.Lines.{AreParents, StandsUnder}
use Rattle.eu_forest.specs.Walks.{IsKnownAs, IsMarked, AreWalked, KnowsTheSame, HasClimbed}
use Rattle.eu_forest.proofs.Chains.{chain-snoc, first_or-snoc}
use Rattle.eu_forest.proofs.Lists.{get-set_same, get-set_other, get-append_left, get-append_last, get-append_cases}
use Rattle.eu_forest.proofs.Marking.{equal_or_not}
use Rattle.eu_forest.proofs.Unseen.{unseen_weight}

pub not_climbed : (parents : List (Option ℕ)) (number : ℕ) (marked : List Mark) → IsMarked parents marked [] → number < length parents
    → HasClimbed parents number marked marked [] number
not_climbed parents number marked is there =
    record { marks_are = is; same = λ n s. (λ k. k, λ k. k); chain = tt; begins = refl; there = there }

mark_is : (one other : Mark) → Some one ≡ Some other → one ≡ other
mark_is one other same = cc

walked_more : (mid : List Mark) (path : List ℕ) (next : ℕ) → slice_get mid next ≡ Some marks.Unseen → AreWalked mid path
    → AreWalked (slice_set mid next (marks.Walked (length path))) (path ++ next ∷ [])
walked_more mid path next unseen walked n place = (
  (λ is. elim (equal_or_not n next) [
    | inl same ↦ (let P : ℕ → Type 0 = λ m. slice_get (slice_set mid next (marks.Walked (length path))) m ≡ Some (marks.Walked place) in
        let here = sym (get-set_same mid next (marks.Walked (length path)) (slice_get_within mid next marks.Unseen unseen)) ∙ subst P same is in
        let at : length path ≡ place = place_is (length path) place here in
        let Q : ℕ → Type 0 = λ p. slice_get (path ++ next ∷ []) p ≡ Some n in
        subst Q at (get-append_last path next ∙ ap Some (sym same)))
    | inr differ ↦ get-append_left path (next ∷ []) place n ((walked n place).0 (sym (get-set_other mid next n (marks.Walked (length path)) differ) ∙ is))
  ]),
  (λ is. elim (get-append_cases path next place n is) [
    | inl old ↦ (let w = (walked n place).1 old in
        get-set_other mid next n (marks.Walked (length path)) (λ same. let P : ℕ → Type 0 = λ m. slice_get mid m ≡ Some (marks.Walked place) in
        let here = subst P same w in cc) ∙ w)
    | inr new ↦ (let P : ℕ → Type 0 = λ m. slice_get (slice_set mid next (marks.Walked (length path))) m ≡ Some (marks.Walked place) in
        subst P (sym new.1) (get-set_same mid next (marks.Walked (length path)) (slice_get_within mid next marks.Unseen unseen) ∙ ap (λ p. Some (marks.Walked p)) (sym new.0)))
  ]),
)
  where
    place_is : (one other : ℕ) → Some (marks.Walked one) ≡ Some (marks.Walked other) → one ≡ other
    place_is one other same = cc

-- other things than the one that is walked are known as before
known_other : (mid : List Mark) (next place : ℕ) → slice_get mid next ≡ Some marks.Unseen → KnowsTheSame mid (slice_set mid next (marks.Walked place))
known_other mid next place unseen n rootedness = (
  (λ known. get-set_other mid next n (marks.Walked place) (λ same. let P : ℕ → Type 0 = λ m. IsKnownAs mid m rootedness in let here = subst P same known in cc) ∙ known),
  (λ known. elim (equal_or_not n next) [
    | inl same ↦ (let P : ℕ → Type 0 = λ m. IsKnownAs (slice_set mid next (marks.Walked place)) m rootedness in
        let here = subst P same known in
        let mark = get-set_same mid next (marks.Walked place) (slice_get_within mid next marks.Unseen unseen) in cc)
    | inr differ ↦ sym (get-set_other mid next n (marks.Walked place) differ) ∙ known
  ]),
)

pub climbed_more : (parents : List (Option ℕ)) (number : ℕ) (old mid : List Mark) (path : List ℕ) (next parent k : ℕ)
    → AreParents parents → slice_get mid next ≡ Some marks.Unseen → StandsUnder parents next parent → k ≡ length path
    → HasClimbed parents number old mid path next
    → HasClimbed parents number old (slice_set mid next (marks.Walked k)) (path ++ next ∷ []) parent
climbed_more parents number old mid path next parent k are unseen under at climbed =
    let P : ℕ → Type 0 = λ p. HasClimbed parents number old (slice_set mid next (marks.Walked p)) (path ++ next ∷ []) parent in
    let others = known_other mid next (length path) unseen in
    subst P (sym at) (record {
      marks_are = record {
        count = length-set mid next (marks.Walked (length path)) ∙ climbed.marks_are.count;
        walked = walked_more mid path next unseen climbed.marks_are.walked;
        roots = λ n root. (others n Rooted).0 (climbed.marks_are.roots n root);
      };
      same = λ n s. ((λ known. (others n s).0 ((climbed.same n s).0 known)), (λ known. (climbed.same n s).1 ((others n s).1 known)));
      chain = chain-snoc parents path next parent climbed.chain under;
      begins = first_or-snoc path next parent ∙ climbed.begins;
      there = are next parent under;
    })

-- an unseen thing that is walked counts no more
pub fewer_unseen : (mid : List Mark) (next place : ℕ) → slice_get mid next ≡ Some marks.Unseen
    → sum_by unseen_weight (slice_set mid next (marks.Walked place)) < sum_by unseen_weight mid
fewer_unseen mid next place unseen =
    let there = slice_get_within mid next marks.Unseen unseen in
    let was = ap unseen_weight (get_or_from_slice_get mid next marks.Unseen marks.Unseen unseen) in
    let total = sum_by-set unseen_weight mid next (marks.Walked place) marks.Unseen there in
    omega arith

-- a thing without a parent is known, and so isn't unseen
pub not_a_root : (parents : List (Option ℕ)) (mid : List Mark) (path : List ℕ) (next : ℕ) → IsMarked parents mid path
    → slice_get mid next ≡ Some marks.Unseen → slice_get parents next ≡ Some None → ⊥
not_a_root parents mid path next is unseen root = let known = is.roots next root in cc
