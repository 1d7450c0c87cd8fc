-- What the cells show after one of them was written, or added.
use Rattle.std.proofs.Common.{◌≡◌, ◌≢◌, ℕ, zero, suc, ◌+◌, ◌-◌, ◌<◌, List, [], ◌∷◌, ◌++◌, length, map, take, drop, slice_set, slice_get, slice_index_or, Some, None, Result, Ok, Err, inl, inr, refl, sym, ap, ◌∙◌, subst, pos, if◌then◌else◌, append_assoc, length-append, reverse, arith}
use Rattle.std.proofs.lemmas.List.{map-set, map-append, length-map, length-set, get_or-map, get_or-set_same, set-get_or, take-append-drop, length-drop, reverse-append, length-reverse}
use Rattle.std.proofs.Math.Seq.{take-append_seam}
use Rattle.std.proofs.lemmas.Option.{slice_get_within, slice_get-get_or, slice_get_past}
use Rattle.std.proofs.lemmas.Bool.{cases_lt}
use Rattle.std.specs.declared.alloc.AllocError.{AllocError}
use Rattle.domain_core.specs.Domain.{Domain, Range, Has, slack}
use Rattle.domain_core.specs.Narrowing.{Keeps}
use Rattle.domain_core.specs.declared.Change.{Change}
use Rattle.domain_core.specs.declared.Change.TheVariants.{Same, Smaller, Empty}
use Rattle.cell_store.specs.declared.trail.Cell.{Cell}
use Rattle.cell_store.specs.declared.trail.Entry.{Entry}
use Rattle.cell_store.specs.declared.trail.Entry.TheVariants.{Added, Narrowed}
use Rattle.cell_store.specs.Cells.{Celled, domain_at, present, stamped, IsPlace, KeepsPast, WritesCell, NarrowsCell, AddsCell}
use Rattle.cell_store.specs.Kept.{domains_before, past_of, saved_at, IsTrail, cell_domains, view_of, IsKept}
use Rattle.cell_store.specs.Writing.{MeetsCell, MeetsBehind, SavesAt, StaysAt, TakesBack}
use Rattle.cell_store.proofs.Lists.{set-set}
use Rattle.cell_store.proofs.Rewriting.{rewritten, equal_cases, length-past_of}

pub present-view : (cells : List Cell) (trail : List Entry) → present (view_of cells trail) ≡ cell_domains cells
present-view cells [] = refl
present-view cells (entry ∷ older) = refl

-- a cell that stands there has a number below the count, and its domain is the one at that number
pub domain-stood : (cells : List Cell) (cell : ℕ) (was : Cell) → slice_get cells cell ≡ Some was → domain_at (cell_domains cells) cell ≡ was.domain
domain-stood [] cell was stood = cc
domain-stood (first ∷ cells) zero was stood = ap (λ c. c.domain) (some_of first was stood)
  where
    some_of : (one other : Cell) → Some one ≡ Some other → one ≡ other
    some_of one other e = cc
domain-stood (first ∷ cells) (suc cell) was stood = domain-stood cells cell was stood

pub stamp-stood : (cells : List Cell) (cell : ℕ) (was : Cell) → slice_get cells cell ≡ Some was → slice_index_or (map (λ c. c.stamp) cells) cell 0 ≡ was.stamp
stamp-stood [] cell was stood = cc
stamp-stood (first ∷ cells) zero was stood = ap (λ c. c.stamp) (some_of first was stood)
  where
    some_of : (one other : Cell) → Some one ≡ Some other → one ≡ other
    some_of one other e = cc
stamp-stood (first ∷ cells) (suc cell) was stood = stamp-stood cells cell was stood

-- a list written with what stands there is the same
pub set-stood : {X : Type 0} (list : List X) (place : ℕ) (was : X) → slice_get list place ≡ Some was → slice_set list place was ≡ list
set-stood [] place was stood = refl
set-stood (first ∷ list) zero was stood = ap (λ x. x ∷ list) (some_of first was stood)
  where
    some_of : {X : Type 0} (one other : X) → Some one ≡ Some other → other ≡ one
    some_of one other e = cc
set-stood (first ∷ list) (suc place) was stood = ap (λ xs. first ∷ xs) (set-stood list place was stood)

pub get-set_other : {X : Type 0} (list : List X) (place other : ℕ) (x : X) → other ≢ place → slice_get (slice_set list place x) other ≡ slice_get list other
get-set_other [] place other x differ = refl
get-set_other (first ∷ list) zero zero x differ = absurd (differ refl)
get-set_other (first ∷ list) zero (suc other) x differ = refl
get-set_other (first ∷ list) (suc place) zero x differ = refl
get-set_other (first ∷ list) (suc place) (suc other) x differ = get-set_other list place other x (λ same. differ (ap suc same))

pub get-set_same : {X : Type 0} (list : List X) (place : ℕ) (x found : X) → slice_get (slice_set list place x) place ≡ Some found → found ≡ x
get-set_same [] place x found is = cc
get-set_same (first ∷ list) zero x found is = cc
get-set_same (first ∷ list) (suc place) x found is = get-set_same list place x found is

pub get-append_left : {X : Type 0} (list more : List X) (place : ℕ) → place < length list → slice_get (list ++ more) place ≡ slice_get list place
get-append_left [] more place below = absurd (omega arith)
get-append_left (x ∷ list) more zero below = refl
get-append_left (x ∷ list) more (suc place) below = get-append_left list more place (omega arith)

pub last_found : {X : Type 0} (list : List X) (last : X) (place : ℕ) (found : X) → place ≡ length list → slice_get (list ++ last ∷ []) place ≡ Some found → found ≡ last
last_found [] last zero found at is = cc
last_found [] last (suc place) found at is = absurd (omega arith)
last_found (x ∷ list) last zero found at is = absurd (omega arith)
last_found (x ∷ list) last (suc place) found at is = last_found list last place found (omega arith) is

-- lists of lists that end alike with at least so many do so with so many
pub keeps_past : (place count : ℕ) (old new newer newest kept : List (List Domain)) → old ≡ newer ++ kept → new ≡ newest ++ kept → length kept ≡ count → place < count
    → KeepsPast place old new
keeps_past place count old new newer newest kept was is long below =
    let cut = length kept - (place + 1) in
    let split = take-append-drop cut kept in (
      newer ++ take cut kept,
      newest ++ take cut kept,
      drop cut kept,
      (
        was ∙ ap (λ list. newer ++ list) (sym split) ∙ sym (append_assoc newer (take cut kept) (drop cut kept)),
        (
          is ∙ ap (λ list. newest ++ list) (sym split) ∙ sym (append_assoc newest (take cut kept) (drop cut kept)),
          length-drop cut kept ∙ omega arith,
        ),
      ),
    )

-- two views with the same lists and stamps are one
pub same_view : (old new : Celled) → new.past ≡ old.past → new.stamps ≡ old.stamps → new ≡ old
same_view old new past stamps = λ i. record { past = past i; stamps = stamps i }

-- what a written cell makes of the domains and of the stamps
pub domains-set : (cells : List Cell) (place : ℕ) (x : Cell) → cell_domains (slice_set cells place x) ≡ slice_set (cell_domains cells) place x.domain
domains-set cells place x = map-set (λ c. c.domain) cells place x

pub stamps-set : (cells : List Cell) (place : ℕ) (x : Cell) → map (λ c. c.stamp) (slice_set cells place x) ≡ slice_set (map (λ c. c.stamp) cells) place x.stamp
stamps-set cells place x = map-set (λ c. c.stamp) cells place x

-- where the trail knows the cell since the mark, the cell is written and nothing is saved
pub record IsWrittenAgain (cells : List Cell) (trail : List Entry) (cell : ℕ) (to : Domain) (since : ℕ) (left : Cell) : Type 0 where
  pub kept : IsKept (slice_set cells cell left) trail
  pub writes : WritesCell cell to since (view_of cells trail) (view_of (slice_set cells cell left) trail)

pub written_again : (cells : List Cell) (trail : List Entry) (cell since : ℕ) (to : Domain) (was left : Cell)
    → IsKept cells trail → slice_get cells cell ≡ Some was → MeetsCell to was Smaller left → since < was.saved
    → IsWrittenAgain cells trail cell to since left
written_again cells trail cell since to was left is stood meets after =
    let below = slice_get_within cells cell was stood in
    let at = domain-stood cells cell was stood in
    let count = length-map cells (λ c. c.domain) in
    let again = rewritten (cell_domains cells) trail cell left.domain is.led (omega (arith, count))
    (omega (arith, meets.kept.1, ap slack at)) in
    let known : was.saved ≡ saved_at (length (cell_domains cells)) trail cell = is.saved cell was stood ∙ ap (λ n. saved_at n trail cell) (sym count) in
    let written = domains-set cells cell left in
    record {
      kept = record {
        led = subst (λ list. IsTrail list trail) (sym written) again.led;
        saved = λ number found stands. elim (equal_cases number cell) [
          | inl same ↦
              let one : found ≡ left = get-set_same cells cell left found (subst (λ n. slice_get (slice_set cells cell left) n ≡ Some found) same.1 stands) in
              ap (λ c. c.saved) one ∙ meets.saved ∙ is.saved cell was stood
              ∙ (λ i. saved_at (sym (length-set cells cell left) i) trail (sym same.1 i))
          | inr differ ↦
              is.saved number found (sym (get-set_other cells cell number left differ.1) ∙ stands)
              ∙ ap (λ n. saved_at n trail number) (sym (length-set cells cell left))
        ];
      };
      writes = record {
        left = left.domain;
        kept = subst (λ d. Keeps (Has to) d Smaller left.domain) (sym (ap (λ list. domain_at list cell) (present-view cells trail) ∙ at)) meets.kept;
        domains = present-view (slice_set cells cell left) trail ∙ written ∙ ap (λ list. slice_set list cell left.domain) (sym (present-view cells trail));
        stamps = stamps-set cells cell left ∙ ap (slice_set (map (λ c. c.stamp) cells) cell) (meets.stamp ∙ ap stamped (sym (stamp-stood cells cell was stood)));
        past = keeps_past since _ _ _ again.newer again.newest again.kept again.old
            (ap (λ list. past_of list trail) written ∙ again.new) again.count_is (omega (arith, known, after));
      };
    }

-- the answer of a cell that was met without saving
pub narrows_again : (cells : List Cell) (trail : List Entry) (cell since : ℕ) (to : Domain) (was left : Cell) (change : Change)
    → IsKept cells trail → slice_get cells cell ≡ Some was → MeetsCell to was change left → since < was.saved
    → IsKept (slice_set cells cell left) trail × NarrowsCell cell to since (view_of cells trail) (Ok change) (view_of (slice_set cells cell left) trail)
narrows_again cells trail cell since to was left Same is stood meets after =
    let one : slice_set cells cell left ≡ cells = ap (slice_set cells cell) (λ i. record { domain = meets.kept.0 i; stamp = meets.stamp i; saved = meets.saved i }) ∙ set-stood cells cell was stood in
    let at : domain_at (present (view_of cells trail)) cell ≡ was.domain = ap (λ list. domain_at list cell) (present-view cells trail) ∙ domain-stood cells cell was stood in (
      subst (λ list. IsKept list trail) (sym one) is,
      (ap (λ list. view_of list trail) one, subst (λ d. Keeps (Has to) d Same d) (sym at) (refl, meets.kept.1)),
    )
narrows_again cells trail cell since to was left Smaller is stood meets after =
    let again = written_again cells trail cell since to was left is stood meets after in
    (again.kept, again.writes)
narrows_again cells trail cell since to was left Empty is stood meets after =
    let one : slice_set cells cell left ≡ cells = ap (slice_set cells cell) (λ i. record { domain = meets.kept.0 i; stamp = meets.stamp i; saved = meets.saved i }) ∙ set-stood cells cell was stood in
    let at : domain_at (present (view_of cells trail)) cell ≡ was.domain = ap (λ list. domain_at list cell) (present-view cells trail) ∙ domain-stood cells cell was stood in (
      subst (λ list. IsKept list trail) (sym one) is,
      (ap (λ list. view_of list trail) one, subst (λ d. Keeps (Has to) d Empty d) (sym at) (refl, meets.kept.1)),
    )

-- a cell that was written with an entry in the trail
pub saved_once : (cells : List Cell) (trail : List Entry) (cell since : ℕ) (to : Domain) (was : Cell) (left : Domain) (new : Cell)
    → IsKept cells trail → slice_get cells cell ≡ Some was → Keeps (Has to) was.domain Smaller left → since < length trail + 1
    → new.domain ≡ left → new.stamp ≡ stamped was.stamp → new.saved ≡ length trail + 1
    → IsKept (slice_set cells cell new) (Narrowed cell was.domain was.saved ∷ trail)
    × WritesCell cell to since (view_of cells trail) (view_of (slice_set cells cell new) (Narrowed cell was.domain was.saved ∷ trail))
saved_once cells trail cell since to was left new is stood keeps after domain stamp saved =
    let below = slice_get_within cells cell was stood in
    let at = domain-stood cells cell was stood in
    let count = length-map cells (λ c. c.domain) in
    let domains = cell_domains cells in
    let entry = Narrowed cell was.domain was.saved in
    let cells_new = slice_set cells cell new in
    let written : cell_domains cells_new ≡ slice_set domains cell left = domains-set cells cell new ∙ ap (slice_set domains cell) domain in
    let long : length (cell_domains cells_new) ≡ length domains = ap length written ∙ length-set domains cell left in
    let back : slice_set (cell_domains cells_new) cell was.domain ≡ domains =
    ap (λ list. slice_set list cell was.domain) written ∙ set-set domains cell left was.domain
    ∙ ap (slice_set domains cell) (sym at) ∙ set-get_or domains cell (Range (pos 0) (pos 0)) in
    let here : domain_at (cell_domains cells_new) cell ≡ left = ap (λ list. domain_at list cell) written ∙ get_or-set_same domains cell left (Range (pos 0) (pos 0)) (omega (arith, count)) in
    let past_new : past_of (cell_domains cells_new) (entry ∷ trail) ≡ cell_domains cells_new ∷ past_of domains trail =
    ap (λ list. cell_domains cells_new ∷ past_of list trail) back in (
      record {
        led = (
          (
            omega (arith, long, count),
            (
              omega (arith, ap slack here, keeps.1),
              is.saved cell was stood ∙ ap (λ n. saved_at n trail cell) (sym (long ∙ count)),
            ),
          ),
          subst (λ list. IsTrail list trail) (sym back) is.led,
        );
        saved = λ number found stands. elim (equal_cases number cell) [
          | inl same ↦
              let one : found ≡ new = get-set_same cells cell new found (subst (λ n. slice_get cells_new n ≡ Some found) same.1 stands) in
              ap (λ c. c.saved) one ∙ saved ∙ ap (λ b. if b then length trail + 1 else saved_at (length cells_new) trail number) (sym same.0)
          | inr differ ↦
              is.saved number found (sym (get-set_other cells cell number new differ.1) ∙ stands)
              ∙ ap (λ n. saved_at n trail number) (sym (length-set cells cell new))
              ∙ ap (λ b. if b then length trail + 1 else saved_at (length cells_new) trail number) (sym differ.0)
        ];
      },
      record {
        left = left;
        kept = subst (λ d. Keeps (Has to) d Smaller left) (sym (ap (λ list. domain_at list cell) (present-view cells trail) ∙ at)) keeps;
        domains = written ∙ ap (λ list. slice_set list cell left) (sym (present-view cells trail));
        stamps = stamps-set cells cell new ∙ ap (slice_set (map (λ c. c.stamp) cells) cell) (stamp ∙ ap stamped (sym (stamp-stood cells cell was stood)));
        past = keeps_past since (length trail + 1) _ _ [] (cell_domains cells_new ∷ []) (past_of domains trail) refl past_new (length-past_of domains trail) after;
      },
    )

-- a cell behind the others, with its entry in the trail
pub added_one : (cells : List Cell) (trail : List Entry) (new : Cell) → IsKept cells trail → new.saved ≡ length trail + 1 → new.stamp ≡ 0
    → IsKept (cells ++ new ∷ []) (Added ∷ trail)
    × AddsCell new.domain (view_of cells trail) (Ok (length cells)) (view_of (cells ++ new ∷ []) (Added ∷ trail))
added_one cells trail new is saved stamp =
    let domains = cell_domains cells in
    let whole : cell_domains (cells ++ new ∷ []) ≡ domains ++ new.domain ∷ [] = map-append (λ c. c.domain) cells (new ∷ []) in
    let count = length-map cells (λ c. c.domain) in
    let long = length-append domains (new.domain ∷ []) in
    let front : take (length (cell_domains (cells ++ new ∷ [])) - 1) (cell_domains (cells ++ new ∷ [])) ≡ domains =
    (λ i. take (length (whole i) - 1) (whole i)) ∙ ap (λ n. take n (domains ++ new.domain ∷ [])) (omega arith) ∙ take-append_seam domains (new.domain ∷ []) in (
      record {
        led = (omega (arith, ap length whole, long), subst (λ list. IsTrail list trail) (sym front) is.led);
        saved = λ number found stands. elim (equal_cases (number + 1) (length (cells ++ new ∷ []))) [
          | inl same ↦
              let one : found ≡ new = last_found cells new number found (omega (arith, same.1, length-append cells (new ∷ []))) stands in
              ap (λ c. c.saved) one ∙ saved ∙ ap (λ b. if b then length trail + 1 else saved_at (length (cells ++ new ∷ []) - 1) trail number) (sym same.0)
          | inr differ ↦
              let within = slice_get_within (cells ++ new ∷ []) number found stands in
              let lower : number < length cells = not_last number (length cells) (length (cells ++ new ∷ [])) (length-append cells (new ∷ [])) within differ.1 in
              let one : length (cells ++ new ∷ []) - 1 ≡ length cells = omega (arith, length-append cells (new ∷ [])) in
              is.saved number found (sym (get-append_left cells (new ∷ []) number lower) ∙ stands)
              ∙ ap (λ n. saved_at n trail number) (sym one)
              ∙ ap (λ b. if b then length trail + 1 else saved_at (length (cells ++ new ∷ []) - 1) trail number) (sym differ.0)
        ];
      },
      (
        sym (ap length (present-view cells trail) ∙ count),
        (
          (λ i. (whole ∙ ap (λ list. list ++ new.domain ∷ []) (sym (present-view cells trail))) i ∷ past_of (front i) trail),
          map-append (λ c. c.stamp) cells (new ∷ []) ∙ ap (λ n. map (λ c. c.stamp) cells ++ n ∷ []) stamp,
        ),
      ),
    )
  where
    not_last : (number count whole : ℕ) → whole ≡ count + 1 → number < whole → number + 1 ≢ whole → number < count
    not_last number count whole is within differ = omega arith

-- what the cells show now stands at the end of the trail
pub place-view : (cells : List Cell) (trail : List Entry) (count : ℕ) → count ≡ length trail → IsPlace (view_of cells trail) count (present (view_of cells trail))
place-view cells [] count is = ([], [], (refl, sym is))
place-view cells (entry ∷ older) count is = ([], past_of (domains_before entry (cell_domains cells)) older, (refl, omega (arith, length-past_of (domains_before entry (cell_domains cells)) older)))

-- what a cell that stays answers
stays : (cells : List Cell) (trail : List Entry) (cell since : ℕ) (to : Domain) (new : List Cell × List Entry) (change : Change)
    → IsKept cells (reverse trail) → StaysAt cell to change (cells, trail) new
    → IsKept new.0 (reverse new.1) × ((view_of new.0 (reverse new.1) ≡ view_of cells (reverse trail))
    × Keeps (Has to) (domain_at (present (view_of cells (reverse trail))) cell) change (domain_at (present (view_of cells (reverse trail))) cell))
stays cells trail cell since to new change is at =
    let here : domain_at (present (view_of cells (reverse trail))) cell ≡ at.was.domain =
    ap (λ list. domain_at list cell) (present-view cells (reverse trail)) ∙ domain-stood cells cell at.was at.stood in (
      subst (λ list. IsKept list (reverse new.1)) (sym at.cells) (subst (λ list. IsKept cells (reverse list)) (sym at.trail) is),
      ((λ i. view_of (at.cells i) (reverse (at.trail i))), subst (λ d. Keeps (Has to) d change d) (sym here) at.kept),
    )

-- the answer of a cell that was met with an entry in the trail
pub narrows_saving : (cells : List Cell) (trail : List Entry) (cell since : ℕ) (to : Domain) (result : Result Change AllocError) (new : List Cell × List Entry)
    → IsKept cells (reverse trail) → since < length (view_of cells (reverse trail)).past → SavesAt cell to (cells, trail) result new
    → IsKept new.0 (reverse new.1) × NarrowsCell cell to since (view_of cells (reverse trail)) result (view_of new.0 (reverse new.1))
narrows_saving cells trail cell since to (Ok Same) new is after at = stays cells trail cell since to new Same is at
narrows_saving cells trail cell since to (Ok Empty) new is after at = stays cells trail cell since to new Empty is at
narrows_saving cells trail cell since to (Err none) new is after at = (
  subst (λ list. IsKept list (reverse new.1)) (sym at.0) (subst (λ list. IsKept cells (reverse list)) (sym at.1) is),
  (λ i. view_of (at.0 i) (reverse (at.1 i))),
)
narrows_saving cells trail cell since to (Ok Smaller) new is after saves =
    let behind : Cell = record { domain = saves.left; stamp = stamped saves.was.stamp; saved = length trail + 1 } in
    let long = length-reverse trail in
    let both = saved_once cells (reverse trail) cell since to saves.was saves.left behind is saves.stood saves.kept
    (omega (arith, length-past_of (cell_domains cells) (reverse trail))) refl refl (omega (arith, long)) in
    let turned : reverse new.1 ≡ Narrowed cell saves.was.domain saves.was.saved ∷ reverse trail =
    ap reverse saves.trail ∙ reverse-append trail (Narrowed cell saves.was.domain saves.was.saved ∷ []) in
    let P : List Cell → List Entry → Type 0 = λ list entries. IsKept list entries × WritesCell cell to since (view_of cells (reverse trail)) (view_of list entries) in
    subst (λ list. P list (reverse new.1)) (sym saves.cells) (subst (P (slice_set cells cell behind)) (sym turned) both)

-- a number below the count of the cells that are shown is below that of the cells
pub within_cells : (cells : List Cell) (trail : List Entry) (cell : ℕ) (shown : Celled) → view_of cells trail ≡ shown → cell < length (present shown) → cell < length cells
within_cells cells trail cell shown is below =
    omega (arith, below, ap (λ view. length (present view)) is, ap length (present-view cells trail), length-map cells (λ c. c.domain))

-- the cell that was read is the one that stood there
pub one_found : (cells : List Cell) (cell : ℕ) (was found : Cell) → cell < length cells → slice_get cells cell ≡ Some was → found ≡ slice_index_or cells cell found → was ≡ found
one_found cells cell was found below stood read =
    let e : Some was ≡ Some (slice_index_or cells cell found) = sym stood ∙ slice_get-get_or cells cell found below in
    cc

-- the domains that are shown are those of the cells
pub shown-domains : (cells : List Cell) (trail : List Entry) (shown : Celled) → view_of cells trail ≡ shown → present shown ≡ cell_domains cells
shown-domains cells trail shown is = sym (ap present is) ∙ present-view cells trail

-- what was read of a cell is its domain
pub get-read : (cells : List Cell) (shown : Celled) (cell : ℕ) (found : Cell) (domain : Domain) → present shown ≡ cell_domains cells → cell < length cells
    → found ≡ slice_index_or cells cell found → domain ≡ found.domain → Some domain ≡ slice_get (present shown) cell
get-read cells shown cell found domain is below read one =
    let e : slice_get (cell_domains cells) cell ≡ Some (slice_index_or (cell_domains cells) cell domain) =
    slice_get-get_or (cell_domains cells) cell domain (omega (arith, length-map cells (λ c. c.domain))) in
    let same : slice_index_or (cell_domains cells) cell domain ≡ found.domain =
    get_or-map (λ c. c.domain) cells cell found domain below ∙ ap (λ c. c.domain) (sym read) in
    ap Some (one ∙ sym same) ∙ sym e ∙ ap (λ list. slice_get list cell) (sym is)

pub get-missed : (cells : List Cell) (shown : Celled) (cell : ℕ) → present shown ≡ cell_domains cells → (cell < length cells → ⊥) → None ≡ slice_get (present shown) cell
get-missed cells shown cell is past = elim (cases_lt cell (length cells)) [
  | inl below ↦ absurd (past below)
  | inr above ↦ sym (slice_get_past (present shown) cell (omega (arith, above, ap length is, length-map cells (λ c. c.domain))))
]

-- the cell was written, or stays with the trail as it was
pub saves : (cells : List Cell) (trail longer back : List Entry) (cell : ℕ) (to : Domain) (was left found : Cell) (change : Change) → slice_get cells cell ≡ Some was → found ≡ was
    → MeetsBehind (length longer) to was change left → longer ≡ trail ++ Narrowed cell found.domain found.saved ∷ [] → TakesBack change longer back
    → SavesAt cell to (cells, trail) (Ok change) (slice_set cells cell left, back)
saves cells trail longer back cell to was left found Same stood is meets more taken = record {
  was = was;
  stood = stood;
  kept = (refl, meets.kept.1);
  cells = ap (slice_set cells cell) (λ i. record { domain = meets.kept.0 i; stamp = meets.stamp i; saved = meets.saved i }) ∙ set-stood cells cell was stood;
  trail = taken trail (Narrowed cell found.domain found.saved) more;
}
saves cells trail longer back cell to was left found Empty stood is meets more taken = record {
  was = was;
  stood = stood;
  kept = (refl, meets.kept.1);
  cells = ap (slice_set cells cell) (λ i. record { domain = meets.kept.0 i; stamp = meets.stamp i; saved = meets.saved i }) ∙ set-stood cells cell was stood;
  trail = taken trail (Narrowed cell found.domain found.saved) more;
}
saves cells trail longer back cell to was left found Smaller stood is meets more taken =
    let count : length longer ≡ length trail + 1 = omega (arith, ap length more, length-append trail (Narrowed cell found.domain found.saved ∷ [])) in
    let saved = meets.saved ∙ count in
    record {
      was = was;
      left = left.domain;
      stood = stood;
      kept = meets.kept;
      cells = ap (slice_set cells cell) (λ i. record { domain = left.domain; stamp = meets.stamp i; saved = saved i });
      trail = taken ∙ (more ∙ ap (λ (c : Cell). trail ++ Narrowed cell c.domain c.saved ∷ []) is);
    }
