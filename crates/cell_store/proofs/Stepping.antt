-- What one step of the trail did.
use Rattle.std.proofs.Common.{◌≡◌, ℕ, ◌+◌, ◌-◌, ◌<◌, ◌≤◌, List, [], ◌∷◌, ◌++◌, length, drop, reverse, slice_get, slice_index_or, Some, None, pos, inl, inr, length-append, sym, ap, ◌∙◌, subst, arith}
use Rattle.std.specs.Prelude.{Option, IfSome}
use Rattle.std.proofs.lemmas.Bool.{cases_eq}
use Rattle.std.proofs.lemmas.List.{length-set, length-take, length-reverse, reverse-append, reverse-reverse, set-get_or, take_more, take_all}
use Rattle.std.proofs.lemmas.Option.{slice_get_within}
use Rattle.std.proofs.Math.Seq.{drop-append_seam}
use Rattle.domain_core.specs.Domain.{Domain, Range}
use Rattle.cell_store.specs.declared.trail.Cell.{Cell}
use Rattle.cell_store.specs.declared.trail.Entry.{Entry}
use Rattle.cell_store.specs.declared.trail.Entry.TheVariants.{Added, Narrowed}
use Rattle.cell_store.specs.Cells.{Celled, domain_at, StepsFrom, IsStep}
use Rattle.cell_store.specs.Kept.{domains_before, past_of, IsTrail, CanBeEntry, cell_domains, view_of, IsKept}
use Rattle.cell_store.specs.Trails.{written_by}
use Rattle.cell_store.proofs.Lists.{set-set}
use Rattle.cell_store.proofs.Rewriting.{length-past_of}
use Rattle.cell_store.proofs.Views.{present-view, last_found, get-append_left}

-- of all lists these stand at the place
abbrev At : List (List Domain) → ℕ → List Domain → Type 0
At past place domains = (newer older : List (List Domain)) × ((past ≡ newer ++ domains ∷ older) × (length older ≡ place))

ends_alike : {X : Type 0} (one other kept left : List X) → one ++ kept ≡ other ++ left → length kept ≡ length left → kept ≡ left
ends_alike one other kept left same long =
    let front : length one ≡ length other = omega (arith, length-append one kept, length-append other left, ap length same) in
    sym (drop-append_seam one kept) ∙ (λ i. drop (front i) (same i)) ∙ drop-append_seam other left

head_of : {X : Type 0} (x y : X) (xs ys : List X) → x ∷ xs ≡ y ∷ ys → x ≡ y
head_of x y xs ys same = ap (λ list. slice_index_or list 0 x) same

-- the newest ones
at_top : (domains now : List Domain) (entries : List Entry) (place : ℕ) → At (past_of domains entries) place now → place ≡ length entries → now ≡ domains
at_top domains now [] place at is =
    let same = ends_alike at.0 [] (now ∷ at.1) (domains ∷ []) (sym at.2.0) (omega (arith, at.2.1, is)) in
    head_of now domains at.1 [] same
at_top domains now (entry ∷ older) place at is =
    let rest = past_of (domains_before entry domains) older in
    let same = ends_alike at.0 [] (now ∷ at.1) (domains ∷ rest) (sym at.2.0) (omega (arith, at.2.1, is, length-past_of (domains_before entry domains) older)) in
    head_of now domains at.1 rest same

-- older ones
at_older : (domains now : List Domain) (entry : Entry) (older : List Entry) (place : ℕ) → At (past_of domains (entry ∷ older)) place now → place ≤ length older → At (past_of (domains_before entry domains) older) place now
at_older domains now entry older place ([], older_lists, (is, long)) low =
    absurd (omega (arith, ap length is, long, low, length-past_of (domains_before entry domains) older))
at_older domains now entry older place (first ∷ newer, older_lists, (is, long)) low = (newer, older_lists, (ap (drop 1) is, long))

-- what an entry tells of the domains before it
entry_steps : (domains : List Domain) (entry : Entry) (older : List Entry) → CanBeEntry entry domains older → StepsFrom (domains_before entry domains) (written_by entry) domains
entry_steps domains Added older can =
    let last = slice_index_or domains (length domains - 1) (Range (pos 0) (pos 0)) in (
      last,
      sym (take_all (length domains - 1 + 1) domains (omega arith)) ∙ take_more domains (length domains - 1) (Range (pos 0) (pos 0)) (omega (arith, can)),
    )
entry_steps domains (Narrowed cell former saved) older can = (
  domain_at domains cell,
  (
    omega (arith, can.0, length-set domains cell former),
    sym (set-set domains cell former (domain_at domains cell) ∙ set-get_or domains cell (Range (pos 0) (pos 0))),
  ),
)

entry_there : (domains : List Domain) (entry : Entry) (older : List Entry) → CanBeEntry entry domains older → IfSome (written_by entry) (λ cell. cell < length domains)
entry_there domains Added older can = tt
entry_there domains (Narrowed cell former saved) older can = can.0

fewer_before : (domains : List Domain) (entry : Entry) → length (domains_before entry domains) ≤ length domains
fewer_before domains Added = omega (arith, length-take (length domains - 1) domains)
fewer_before domains (Narrowed cell former saved) = omega (arith, length-set domains cell former)

below_more : (written : Option ℕ) (count more : ℕ) → count ≤ more → IfSome written (λ cell. cell < count) → IfSome written (λ cell. cell < more)
below_more None count more le below = tt
below_more (Some cell) count more le below = omega (arith, le, below)

-- a step by its entry
record IsLed (domains : List Domain) (entries : List Entry) (step : ℕ) (entry : Entry) : Type 0 where
  pub there : IfSome (written_by entry) (λ cell. cell < length domains)
  pub led : (before after : List Domain) → At (past_of domains entries) step before → At (past_of domains entries) (step + 1) after → StepsFrom before (written_by entry) after

turned : (entry : Entry) (older : List Entry) → reverse (entry ∷ older) ≡ reverse older ++ entry ∷ []
turned entry older = reverse-append (entry ∷ []) older

led_by : (domains : List Domain) (entries : List Entry) (step : ℕ) (entry : Entry) → IsTrail domains entries → slice_get (reverse entries) step ≡ Some entry → IsLed domains entries step entry
led_by domains [] step entry trail found = absurd (cc found)
led_by domains (first ∷ older) step entry trail found =
    let here : slice_get (reverse older ++ first ∷ []) step ≡ Some entry = ap (λ list. slice_get list step) (sym (turned first older)) ∙ found in
    let below = slice_get_within (reverse older ++ first ∷ []) step entry here in
    elim (cases_eq step (length older)) [
      | inl same ↦
          let one : entry ≡ first = last_found (reverse older) first step entry (same ∙ sym (length-reverse older)) here in
          subst (IsLed domains (first ∷ older) step) (sym one) (record {
            there = entry_there domains first older trail.0;
            led = λ before after at_before at_after.
                let old = at_top (domains_before first domains) before older step (at_older domains before first older step at_before (omega (arith, same))) same in
                let new = at_top domains after (first ∷ older) (step + 1) at_after (omega (arith, same)) in
                subst (λ list. StepsFrom list (written_by first) after) (sym old)
                (subst (λ list. StepsFrom (domains_before first domains) (written_by first) list) (sym new) (entry_steps domains first older trail.0));
          })
      | inr apart ↦
          let low : step < length older = omega (arith, below, apart, length-append (reverse older) (first ∷ []), length-reverse older) in
          let rest = led_by (domains_before first domains) older step entry trail.1 (sym (get-append_left (reverse older) (first ∷ []) step (omega (arith, low, length-reverse older))) ∙ here) in
          record {
            there = below_more (written_by entry) (length (domains_before first domains)) (length domains) (fewer_before domains first) rest.there;
            led = λ before after at_before at_after.
                rest.led before after (at_older domains before first older step at_before (omega (arith, low))) (at_older domains after first older (step + 1) at_after (omega (arith, low)));
          }
    ]

-- the step of the entry at a place of the trail
pub step_is : (cells : List Cell) (trail : List Entry) (shown : Celled) (step : ℕ) (entry : Entry) → IsKept cells (reverse trail) → view_of cells (reverse trail) ≡ shown → slice_get trail step ≡ Some entry → IsStep step shown (written_by entry)
step_is cells trail shown step entry kept is found =
    let led = led_by (cell_domains cells) (reverse trail) step entry kept.led (ap (λ list. slice_get list step) (reverse-reverse trail) ∙ found) in
    subst (λ view. IsStep step view (written_by entry)) is (record {
      there = subst (λ list. IfSome (written_by entry) (λ cell. cell < length list)) (sym (present-view cells (reverse trail))) led.there;
      led = led.led;
    })
