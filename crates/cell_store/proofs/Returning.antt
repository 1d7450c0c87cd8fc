-- Going back along the trail.
use Rattle.std.proofs.Common.{◌≡◌, ℕ, zero, suc, ◌+◌, ◌-◌, ◌^◌, ◌<◌, ◌≤◌, List, [], ◌∷◌, ◌++◌, length, map, take, slice_set, slice_get, slice_index_or, Some, ◌⊎◌, inl, inr, refl, sym, ap, ◌∙◌, subst, pos, if◌then◌else◌, append_assoc, length-append, arith}
use Rattle.std.proofs.lemmas.List.{map-append, length-map, length-set, get_or-set_same, get_or-set_other}
use Rattle.std.proofs.Math.Seq.{take-append_seam}
use Rattle.std.proofs.lemmas.Bool.{cases_lt}
use Rattle.std.proofs.lemmas.Option.{slice_get_within}
use Rattle.domain_core.specs.Domain.{Domain, Range, slack}
use Rattle.cell_store.specs.declared.trail.Cell.{Cell}
use Rattle.cell_store.specs.declared.trail.Entry.{Entry}
use Rattle.cell_store.specs.declared.trail.Entry.TheVariants.{Added, Narrowed}
use Rattle.cell_store.specs.Cells.{domain_at, present, stamped, FollowsDomain, GoesBack}
use Rattle.cell_store.specs.Kept.{past_of, saved_at, IsTrail, cell_domains, view_of, IsKept}
use Rattle.cell_store.specs.Writing.{UndoesEntry}
use Rattle.cell_store.proofs.Rewriting.{equal_cases, length-past_of}
use Rattle.cell_store.proofs.Views.{present-view, stamp-stood, get-set_other, get-set_same, get-append_left, domains-set, stamps-set}

-- a cell of which nothing was given back has its domain and its stamp, and any other has more values, and a greater stamp or the greatest
abbrev pub Rises : Domain → ℕ → Domain → ℕ → Type 0
Rises old stamp new next = ((new ≡ old) × (next ≡ stamp)) ⊎ ((slack old < slack new) × ((stamp < next) ⊎ (next ≡ 2 ^ 64 - 1)))

-- one more write of a stamp that is no less than another is greater than that, or the greatest
stamped_above : (stamp next : ℕ) → stamp ≤ next → (stamp < stamped next) ⊎ (stamped next ≡ 2 ^ 64 - 1)
stamped_above stamp next le = elim (cases_lt next (2 ^ 64 - 1)) [
  | inl low ↦ inl (omega arith)
  | inr high ↦ inr (omega arith)
]

pub rises_on : (old mid new : Domain) (stamp next : ℕ) → Rises old stamp mid next → slack mid < slack new → Rises old stamp new (stamped next)
rises_on old mid new stamp next (inl same) more = inr (omega (arith, ap slack same.0), stamped_above stamp next (omega (arith, same.1)))
rises_on old mid new stamp next (inr (above, inl less)) more = inr (omega arith, stamped_above stamp next (omega arith))
rises_on old mid new stamp next (inr (above, inr greatest)) more = inr (omega arith, inr (ap stamped greatest))

pub rises_follow : (old new : Domain) (stamp next : ℕ) → Rises old stamp new next → FollowsDomain old stamp new next
rises_follow old new stamp next (inl same) = inl same
rises_follow old new stamp next (inr more) = inr ((λ same. absurd (omega (arith, ap slack same, more.0))), more.1)

-- the cells after some entries were taken back
pub record IsReturning (cells : List Cell) (trail : List Entry) (now : List Cell) (left : List Entry) : Type 0 where
  pub kept : IsKept now left
  pub newer : List (List Domain)
  pub past : past_of (cell_domains cells) trail ≡ newer ++ past_of (cell_domains now) left
  pub fewer : length now ≤ length cells
  pub rises : (cell : ℕ) → cell < length now
      → Rises (domain_at (cell_domains cells) cell) (slice_index_or (map (λ c. c.stamp) cells) cell 0) (domain_at (cell_domains now) cell) (slice_index_or (map (λ c. c.stamp) now) cell 0)

pub returning_none : (cells : List Cell) (trail : List Entry) → IsKept cells trail → IsReturning cells trail cells trail
returning_none cells trail is = record {
  kept = is;
  newer = [];
  past = refl;
  fewer = omega arith;
  rises = λ cell below. inl (refl, refl);
}

-- the tests of a trail that has one entry more, of another cell
saved_before : (now new : List Cell) (left : List Entry) (number : ℕ) → length now ≡ length new + 1 → number < length new
    → saved_at (length now) (Added ∷ left) number ≡ saved_at (length new) left number
saved_before now new left number long below =
    let one : length now - 1 ≡ length new = omega arith in
    elim (equal_cases (number + 1) (length now)) [
      | inl same ↦ absurd (omega (arith, same.1))
      | inr differ ↦ ap (λ b. if b then length left + 1 else saved_at (length now - 1) left number) differ.0 ∙ ap (λ n. saved_at n left number) one
    ]

index-append_left : {X : Type 0} (list more : List X) (place : ℕ) (other : X) → place < length list → slice_index_or (list ++ more) place other ≡ slice_index_or list place other
index-append_left [] more place other below = absurd (omega arith)
index-append_left (x ∷ list) more zero other below = refl
index-append_left (x ∷ list) more (suc place) other below = index-append_left list more place other (omega arith)

-- an added cell is taken away again
returning_added : (cells : List Cell) (trail : List Entry) (now : List Cell) (left : List Entry) (new : List Cell) (last : Cell)
    → IsReturning cells trail now (Added ∷ left) → now ≡ new ++ last ∷ [] → IsReturning cells trail new left
returning_added cells trail now left new last is split =
    let whole : cell_domains now ≡ cell_domains new ++ last.domain ∷ [] = ap cell_domains split ∙ map-append (λ c. c.domain) new (last ∷ []) in
    let stamped_whole : map (λ c. c.stamp) now ≡ map (λ c. c.stamp) new ++ last.stamp ∷ [] = ap (map (λ c. c.stamp)) split ∙ map-append (λ c. c.stamp) new (last ∷ []) in
    let count = length-map new (λ c. c.domain) in
    let count_stamps = length-map new (λ c. c.stamp) in
    let front : take (length (cell_domains now) - 1) (cell_domains now) ≡ cell_domains new =
    (λ i. take (length (whole i) - 1) (whole i)) ∙ ap (λ n. take n (cell_domains new ++ last.domain ∷ [])) (omega (arith, length-append (cell_domains new) (last.domain ∷ [])))
    ∙ take-append_seam (cell_domains new) (last.domain ∷ []) in
    let long : length now ≡ length new + 1 = ap length split ∙ length-append new (last ∷ []) in
    record {
      kept = record {
        led = subst (λ list. IsTrail list left) front is.kept.led.1;
        saved = λ number found stands.
            let below = slice_get_within new number found stands in
            is.kept.saved number found (ap (λ list. slice_get list number) split ∙ get-append_left new (last ∷ []) number below ∙ stands)
            ∙ saved_before now new left number long below;
      };
      newer = is.newer ++ cell_domains now ∷ [];
      past = is.past ∙ ap (λ list. is.newer ++ cell_domains now ∷ past_of list left) front ∙ sym (append_assoc is.newer (cell_domains now ∷ []) (past_of (cell_domains new) left));
      fewer = omega (arith, is.fewer, long);
      rises = λ cell below.
          subst (λ d. Rises (domain_at (cell_domains cells) cell) (slice_index_or (map (λ c. c.stamp) cells) cell 0) d (slice_index_or (map (λ c. c.stamp) new) cell 0))
          (ap (λ list. domain_at list cell) whole ∙ index-append_left (cell_domains new) (last.domain ∷ []) cell (Range (pos 0) (pos 0)) (omega (arith, count)))
          (subst (λ s. Rises (domain_at (cell_domains cells) cell) (slice_index_or (map (λ c. c.stamp) cells) cell 0) (domain_at (cell_domains now) cell) s)
          (ap (λ list. slice_index_or list cell 0) stamped_whole ∙ index-append_left (map (λ c. c.stamp) new) (last.stamp ∷ []) cell 0 (omega (arith, count_stamps)))
          (is.rises cell (omega (arith, long))));
    }

-- a narrowed cell has its former domain again
returning_narrowed : (cells : List Cell) (trail : List Entry) (now : List Cell) (left : List Entry) (cell : ℕ) (former : Domain) (saved : ℕ) (was new : Cell)
    → IsReturning cells trail now (Narrowed cell former saved ∷ left) → slice_get now cell ≡ Some was
    → new.domain ≡ former → new.stamp ≡ stamped was.stamp → new.saved ≡ saved
    → IsReturning cells trail (slice_set now cell new) left
returning_narrowed cells trail now left cell former saved was new is stood domain stamp known =
    let below = slice_get_within now cell was stood in
    let count = length-map now (λ c. c.domain) in
    let count_stamps = length-map now (λ c. c.stamp) in
    let cells_new = slice_set now cell new in
    let long = length-set now cell new in
    let written : cell_domains cells_new ≡ slice_set (cell_domains now) cell former = domains-set now cell new ∙ ap (slice_set (cell_domains now) cell) domain in
    let stamps : map (λ c. c.stamp) cells_new ≡ slice_set (map (λ c. c.stamp) now) cell (stamped was.stamp) =
    stamps-set now cell new ∙ ap (slice_set (map (λ c. c.stamp) now) cell) stamp in
    record {
      kept = record {
        led = subst (λ list. IsTrail list left) (sym written) is.kept.led.1;
        saved = λ number found stands. elim (equal_cases number cell) [
          | inl same ↦
              let one : found ≡ new = get-set_same now cell new found (subst (λ n. slice_get cells_new n ≡ Some found) same.1 stands) in
              ap (λ c. c.saved) one ∙ known ∙ is.kept.led.0.1.1
              ∙ (λ i. saved_at ((count ∙ sym long) i) left (sym same.1 i))
          | inr differ ↦
              is.kept.saved number found (sym (get-set_other now cell number new differ.1) ∙ stands)
              ∙ ap (λ b. if b then length left + 1 else saved_at (length now) left number) differ.0
              ∙ ap (λ n. saved_at n left number) (sym long)
        ];
      };
      newer = is.newer ++ cell_domains now ∷ [];
      past = is.past ∙ ap (λ list. is.newer ++ cell_domains now ∷ past_of list left) (sym written) ∙ sym (append_assoc is.newer (cell_domains now ∷ []) (past_of (cell_domains cells_new) left));
      fewer = omega (arith, is.fewer, long);
      rises = λ number lower. elim (equal_cases number cell) [
        | inl same ↦
            let here : domain_at (cell_domains cells_new) number ≡ former =
            (λ i. domain_at (written i) (same.1 i)) ∙ get_or-set_same (cell_domains now) cell former (Range (pos 0) (pos 0)) (omega (arith, count)) in
            let next : slice_index_or (map (λ c. c.stamp) cells_new) number 0 ≡ stamped was.stamp =
            (λ i. slice_index_or (stamps i) (same.1 i) 0) ∙ get_or-set_same (map (λ c. c.stamp) now) cell (stamped was.stamp) 0 (omega (arith, count_stamps)) in
            let last : slice_index_or (map (λ c. c.stamp) now) number 0 ≡ was.stamp =
            ap (λ n. slice_index_or (map (λ c. c.stamp) now) n 0) same.1 ∙ stamp-stood now cell was stood in
            let before_it = subst (λ s. Rises (domain_at (cell_domains cells) number) (slice_index_or (map (λ c. c.stamp) cells) number 0) (domain_at (cell_domains now) number) s) last
            (is.rises number (omega (arith, long))) in
            let more : slack (domain_at (cell_domains now) number) < slack former = omega (arith, is.kept.led.0.1.0, ap (λ n. slack (domain_at (cell_domains now) n)) same.1) in
            subst (λ d. Rises (domain_at (cell_domains cells) number) (slice_index_or (map (λ c. c.stamp) cells) number 0) d (slice_index_or (map (λ c. c.stamp) cells_new) number 0)) (sym here)
            (subst (λ s. Rises (domain_at (cell_domains cells) number) (slice_index_or (map (λ c. c.stamp) cells) number 0) former s) (sym next)
            (rises_on _ (domain_at (cell_domains now) number) former _ was.stamp before_it more))
        | inr differ ↦
            subst (λ d. Rises (domain_at (cell_domains cells) number) (slice_index_or (map (λ c. c.stamp) cells) number 0) d (slice_index_or (map (λ c. c.stamp) cells_new) number 0))
            (sym (ap (λ list. domain_at list number) written ∙ get_or-set_other (cell_domains now) cell number former (Range (pos 0) (pos 0)) differ.1))
            (subst (λ s. Rises (domain_at (cell_domains cells) number) (slice_index_or (map (λ c. c.stamp) cells) number 0) (domain_at (cell_domains now) number) s)
            (sym (ap (λ list. slice_index_or list number 0) stamps ∙ get_or-set_other (map (λ c. c.stamp) now) cell number (stamped was.stamp) 0 differ.1))
            (is.rises number (omega (arith, long))))
      ];
    }

-- one entry more is taken back
pub returning_more : (cells : List Cell) (trail : List Entry) (now : List Cell) (left : List Entry) (entry : Entry) (new : List Cell)
    → IsReturning cells trail now (entry ∷ left) → UndoesEntry entry now new → IsReturning cells trail new left
returning_more cells trail now left Added new is back = returning_added cells trail now left new back.0 is back.1
returning_more cells trail now left (Narrowed cell former saved) new is back =
    subst (λ list. IsReturning cells trail list left) (sym back.1.1)
    (returning_narrowed cells trail now left cell former saved back.0 _ is back.1.0 refl refl refl)

-- when the trail has the length of the mark, the cells have gone back to it
pub goes_back : (cells : List Cell) (trail : List Entry) (now : List Cell) (left : List Entry) → IsReturning cells trail now left
    → GoesBack (length left) (view_of cells trail) (view_of now left)
goes_back cells trail now left is =
    let here = present-view now left in
    let there = present-view cells trail in
    let count = length-map now (λ c. c.domain) in
    record {
      newer = is.newer;
      past = is.past;
      count = length-past_of (cell_domains now) left;
      fewer = omega (arith, is.fewer, ap length here, ap length there, count, length-map cells (λ c. c.domain));
      stamps = length-map now (λ c. c.stamp) ∙ sym (ap length here ∙ count);
      follow = λ cell below.
          subst (λ list. FollowsDomain (domain_at list cell) (slice_index_or (map (λ c. c.stamp) cells) cell 0) (domain_at (present (view_of now left)) cell) (slice_index_or (map (λ c. c.stamp) now) cell 0)) (sym there)
          (subst (λ list. FollowsDomain (domain_at (cell_domains cells) cell) (slice_index_or (map (λ c. c.stamp) cells) cell 0) (domain_at list cell) (slice_index_or (map (λ c. c.stamp) now) cell 0)) (sym here)
          (rises_follow _ _ _ _ (is.rises cell (omega (arith, ap length here, count)))));
    }
