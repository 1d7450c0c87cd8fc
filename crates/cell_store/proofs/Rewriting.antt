-- What can be gone back to, where a cell is written that the trail knows already.
use Rattle.std.proofs.Common.{◌≡◌, ◌≢◌, ℕ, ◌+◌, ◌-◌, ◌<◌, ◌≤◌, true, false, ◌==◌, List, [], ◌∷◌, ◌++◌, length, take, slice_set, ◌⊎◌, inl, inr, refl, sym, ap, ◌∙◌, subst, if◌then◌else◌, arith}
use Rattle.std.proofs.lemmas.List.{length-set, length-take, take-set-le, get_or-set_same, get_or-set_other, get_or-take}
use Rattle.std.proofs.lemmas.Bool.Decides.{eqb_tells}
use Rattle.std.proofs.Math.Seq.{take-set-lt}
use Rattle.domain_core.specs.Domain.{Domain, slack}
use Rattle.cell_store.specs.declared.trail.Entry.{Entry}
use Rattle.cell_store.specs.declared.trail.Entry.TheVariants.{Added, Narrowed}
use Rattle.cell_store.specs.Cells.{domain_at}
use Rattle.cell_store.specs.Kept.{domains_before, past_of, saved_at, CanBeEntry, IsTrail}
use Rattle.cell_store.proofs.Lists.{set-set, set-swap}

-- both lists of lists end alike, with so many
pub SharesPast : ℕ → List (List Domain) → List (List Domain) → Type 0
SharesPast count old new = (newer newest kept : List (List Domain)) × ((old ≡ newer ++ kept) × ((new ≡ newest ++ kept) × (length kept ≡ count)))

-- a trail that leads to the cells with one of them written, and what both can go back to
pub record IsRewritten (domains written : List Domain) (trail : List Entry) (count : ℕ) : Type 0 where
  pub led : IsTrail written trail
  pub newer : List (List Domain)
  pub newest : List (List Domain)
  pub kept : List (List Domain)
  pub old : past_of domains trail ≡ newer ++ kept
  pub new : past_of written trail ≡ newest ++ kept
  pub count_is : length kept ≡ count

-- a test of two numbers says whether they are equal
pub equal_cases : (one other : ℕ) → (((one == other) ≡ true) × (one ≡ other)) ⊎ (((one == other) ≡ false) × (one ≢ other))
equal_cases one other = eqb_tells one other

pub length-past_of : (domains : List Domain) (trail : List Entry) → length (past_of domains trail) ≡ length trail + 1
length-past_of domains [] = refl
length-past_of domains (entry ∷ older) = omega (arith, length-past_of (domains_before entry domains) older)

-- the first entry is about another cell: what is rewritten before it is rewritten
one_more : (domains before_it : List Domain) (entry : Entry) (older : List Entry) (cell : ℕ) (left : Domain) (count : ℕ)
    → domains_before entry domains ≡ before_it → domains_before entry (slice_set domains cell left) ≡ slice_set before_it cell left
    → CanBeEntry entry (slice_set domains cell left) older → IsRewritten before_it (slice_set before_it cell left) older count
    → IsRewritten domains (slice_set domains cell left) (entry ∷ older) count
one_more domains before_it entry older cell left count is written can rest = record {
  led = (can, subst (λ list. IsTrail list older) (sym written) rest.led);
  newer = domains ∷ rest.newer;
  newest = slice_set domains cell left ∷ rest.newest;
  kept = rest.kept;
  old = ap (λ list. domains ∷ past_of list older) is ∙ ap (λ lists. domains ∷ lists) rest.old;
  new = ap (λ list. slice_set domains cell left ∷ past_of list older) written ∙ ap (λ lists. slice_set domains cell left ∷ lists) rest.new;
  count_is = rest.count_is;
}

-- the first entry is about this cell: before it the cells are the same
right_here : (domains : List Domain) (entry : Entry) (older : List Entry) (cell : ℕ) (left : Domain)
    → domains_before entry (slice_set domains cell left) ≡ domains_before entry domains → CanBeEntry entry (slice_set domains cell left) older
    → IsTrail (domains_before entry domains) older → IsRewritten domains (slice_set domains cell left) (entry ∷ older) (length older + 1)
right_here domains entry older cell left same can led = record {
  led = (can, subst (λ list. IsTrail list older) (sym same) led);
  newer = domains ∷ [];
  newest = slice_set domains cell left ∷ [];
  kept = past_of (domains_before entry domains) older;
  old = refl;
  new = ap (λ list. slice_set domains cell left ∷ past_of list older) same;
  count_is = length-past_of (domains_before entry domains) older;
}

pub rewritten : (domains : List Domain) (trail : List Entry) (cell : ℕ) (left : Domain) → IsTrail domains trail → cell < length domains
    → slack left ≤ slack (domain_at domains cell) → IsRewritten domains (slice_set domains cell left) trail (saved_at (length domains) trail cell)
rewritten domains [] cell left led below less = absurd (omega (arith, ap length led))
rewritten domains (Added ∷ older) cell left led below less =
    let long = length-set domains cell left in
    let can : 0 < length (slice_set domains cell left) = omega (arith, long) in
    let last = length domains - 1 in
    elim (equal_cases (cell + 1) (length domains)) [
      | inl same ↦
          subst (IsRewritten domains (slice_set domains cell left) (Added ∷ older))
          (sym (ap (λ b. if b then length older + 1 else saved_at last older cell) same.0))
          (right_here domains Added older cell left
          (ap (λ n. take (n - 1) (slice_set domains cell left)) long ∙ take-set-le last domains cell left (omega (arith, same.1))) can led.1)
      | inr other ↦
          let shorter : length (take last domains) ≡ last = length-take last domains ∙ omega arith in
          let at : domain_at (take last domains) cell ≡ domain_at domains cell = get_or-take last domains cell _ (less_than cell (length domains) below other.1) in
          subst (IsRewritten domains (slice_set domains cell left) (Added ∷ older))
          (sym (ap (λ b. if b then length older + 1 else saved_at last older cell) other.0))
          (one_more domains (take last domains) Added older cell left (saved_at last older cell) refl
          (ap (λ n. take (n - 1) (slice_set domains cell left)) long ∙ take-set-lt last domains cell left (less_than cell (length domains) below other.1)) can
          (subst (λ n. IsRewritten (take last domains) (slice_set (take last domains) cell left) older (saved_at n older cell)) shorter
          (rewritten (take last domains) older cell left led.1 (omega (arith, shorter, less_than cell (length domains) below other.1))
          (subst (λ d. slack left ≤ slack d) (sym at) less))))
    ]
  where
    less_than : (cell count : ℕ) → cell < count → cell + 1 ≢ count → cell < count - 1
    less_than cell count below differ = omega arith
rewritten domains (Narrowed other former saved ∷ older) cell left led below less =
    let long = length-set domains cell left in
    let written = slice_set domains cell left in
    let keeps : saved ≡ saved_at (length written) older other = led.0.1.1 ∙ ap (λ n. saved_at n older other) (sym long) in
    elim (equal_cases cell other) [
      | inl same ↦
          let here : domain_at written other ≡ left = ap (domain_at written) (sym same.1) ∙ get_or-set_same domains cell left _ below in
          subst (IsRewritten domains written (Narrowed other former saved ∷ older))
          (sym (ap (λ b. if b then length older + 1 else saved_at (length domains) older cell) same.0))
          (right_here domains (Narrowed other former saved) older cell left
          (ap (λ n. slice_set written n former) (sym same.1) ∙ set-set domains cell left former ∙ ap (λ n. slice_set domains n former) same.1)
          (omega (arith, long, led.0.0), (omega (arith, ap slack here, less, led.0.1.0, ap (λ n. slack (domain_at domains n)) same.1), keeps))
          led.1)
      | inr differ ↦
          let there : domain_at written other ≡ domain_at domains other = get_or-set_other domains cell other left _ (λ e. differ.1 (sym e)) in
          let at : domain_at (slice_set domains other former) cell ≡ domain_at domains cell = get_or-set_other domains other cell former _ differ.1 in
          let count = length-set domains other former in
          subst (IsRewritten domains written (Narrowed other former saved ∷ older))
          (sym (ap (λ b. if b then length older + 1 else saved_at (length domains) older cell) differ.0))
          (one_more domains (slice_set domains other former) (Narrowed other former saved) older cell left (saved_at (length domains) older cell) refl
          (set-swap domains cell other left former differ.1)
          (omega (arith, long, led.0.0), (omega (arith, ap slack there, led.0.1.0), keeps))
          (subst (λ n. IsRewritten (slice_set domains other former) (slice_set (slice_set domains other former) cell left) older (saved_at n older cell)) count
          (rewritten (slice_set domains other former) older cell left led.1 (omega (arith, count)) (subst (λ d. slack left ≤ slack d) (sym at) less))))
    ]
