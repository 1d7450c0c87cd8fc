-- What stands in the open blocks among some entries.
use Rattle.std.proofs.Common.{◌≡◌, ℕ, zero, suc, List, [], ◌∷◌, Some, refl, sym, ap, subst}
use Rattle.std.specs.Prelude.{Contains, slice_get}
use Rattle.eu_name.proofs.Members.{get_from_contains, contains_from_get}
use Rattle.model_core.specs.declared.rule.Entry.{Entry}
use Rattle.model_core.specs.declared.rule.Entry.TheVariants.{Slot, Local, Item, Branch}
use Rattle.model_core.specs.declared.rule.Guard.{Guard}
use Rattle.model_core.specs.declared.rule.Side.{Side}
use Rattle.model_core.specs.Block.{plain_entries}
use Rattle.model_core.specs.Blocks.{Direct, OfSlot, OfLocal, OfItem, OfBranch, chosen, direct}
use Rattle.model_core.specs.Entries.{Entries}
use Rattle.plan_values.specs.Openings.{entry_direct, StandsInside, StandsWith}

-- what stands directly among entries
abbrev pub standing : List Entry → List Direct
standing entries = direct (plain_entries entries)

first_of : (entry : Entry) (more : List Entry) → standing (entry ∷ more) ≡ entry_direct entry ∷ standing more
first_of (Slot number) more = refl
first_of (Local number) more = refl
first_of (Item item) more = refl
first_of (Branch guard then otherwise) more = refl

pub direct_at : (entries : List Entry) (k : ℕ) (entry : Entry) → slice_get entries k ≡ Some entry → slice_get (standing entries) k ≡ Some (entry_direct entry)
direct_at [] k entry at = absurd (cc)
direct_at (first ∷ more) zero entry at =
    let same : first ≡ entry = cc in
    subst (λ (xs : List Direct). slice_get xs 0 ≡ Some (entry_direct entry)) (sym (first_of first more)) (ap (λ (e : Entry). Some (entry_direct e)) same)
direct_at (first ∷ more) (suc k) entry at =
    subst (λ (xs : List Direct). slice_get xs (suc k) ≡ Some (entry_direct entry)) (sym (first_of first more)) (direct_at more k entry at)

pub direct_entry : (entries : List Entry) (k : ℕ) (what : Direct) → slice_get (standing entries) k ≡ Some what
    → (entry : Entry) × (slice_get entries k ≡ Some entry) × (entry_direct entry ≡ what)
direct_entry [] k what at = absurd (cc)
direct_entry (first ∷ more) zero what at =
    let here : Some (entry_direct first) ≡ Some what = subst (λ (xs : List Direct). slice_get xs 0 ≡ Some what) (first_of first more) at in
    (first, refl, cc)
direct_entry (first ∷ more) (suc k) what at =
    direct_entry more k what (subst (λ (xs : List Direct). slice_get xs (suc k) ≡ Some what) (first_of first more) at)

module _ (Allowed : Guard → Side → Type 0) where
  -- what the entry is stands with it, unless it is a branch
  of_entry : (entry : Entry) (what : Direct) → ((guard : Guard) (then otherwise : Entries) → OfBranch guard then otherwise ≡ what → ⊥) → entry_direct entry ≡ what → StandsWith Allowed entry what
  of_entry (Slot number) what other is = sym is
  of_entry (Local number) what other is = sym is
  of_entry (Item item) what other is = sym is
  of_entry (Branch guard then otherwise) what other is = absurd (other guard then otherwise is)

  of_branch : (entry : Entry) (guard : Guard) (then otherwise : Entries) (side : Side) (what : Direct) → entry_direct entry ≡ OfBranch guard then otherwise → Allowed guard side
      → StandsInside Allowed (chosen side then otherwise) what → StandsWith Allowed entry what
  of_branch (Slot number) guard then otherwise side what is allowed inside = absurd (cc)
  of_branch (Local number) guard then otherwise side what is allowed inside = absurd (cc)
  of_branch (Item item) guard then otherwise side what is allowed inside = absurd (cc)
  of_branch (Branch guard' then' otherwise') guard then otherwise side what is allowed inside =
      let g : guard' ≡ guard = cc in
      let t : then' ≡ then = cc in
      let o : otherwise' ≡ otherwise = cc in (
        side,
        subst (λ (x : Guard). Allowed x side) (sym g) allowed,
        subst (λ (x : Entries). StandsInside Allowed (chosen side x otherwise') what) (sym t)
            (subst (λ (y : Entries). StandsInside Allowed (chosen side then y) what) (sym o) inside),
      )

  -- what stands inside does so with an entry
  pub inside_entry : (entries : List Entry) (what : Direct) → ((guard : Guard) (then otherwise : Entries) → OfBranch guard then otherwise ≡ what → ⊥)
      → StandsInside Allowed (plain_entries entries) what → (k : ℕ) × ((entry : Entry) × (slice_get entries k ≡ Some entry) × StandsWith Allowed entry what)
  inside_entry entries what other ([], (block, same, there)) =
      let at = get_from_contains (standing entries) what (subst (λ (b : Entries). Contains (direct b) what) same there) in
      let found = direct_entry entries at.0 what at.1 in
      (at.0, (found.0, found.1, of_entry found.0 what other found.2))
  inside_entry entries what other (turn ∷ path, (block, (guard, (then, otherwise, (at, (allowed, way)))), there)) =
      let found = direct_entry entries turn.entry (OfBranch guard then otherwise) at in
      (turn.entry, (found.0, found.1, of_branch found.0 guard then otherwise turn.side what found.2 allowed (path, (block, way, there))))

  pub entry_inside : (entries : List Entry) (k : ℕ) (entry : Entry) (what : Direct) → slice_get entries k ≡ Some entry → StandsWith Allowed entry what
      → StandsInside Allowed (plain_entries entries) what
  entry_inside entries k (Slot number) what at is =
      ([], (plain_entries entries, refl, subst (Contains (standing entries)) (sym is) (contains_from_get (standing entries) k (OfSlot number) (direct_at entries k (Slot number) at))))
  entry_inside entries k (Local number) what at is =
      ([], (plain_entries entries, refl, subst (Contains (standing entries)) (sym is) (contains_from_get (standing entries) k (OfLocal number) (direct_at entries k (Local number) at))))
  entry_inside entries k (Item item) what at is =
      ([], (plain_entries entries, refl, subst (Contains (standing entries)) (sym is) (contains_from_get (standing entries) k (OfItem item) (direct_at entries k (Item item) at))))
  entry_inside entries k (Branch guard then otherwise) what at (side, allowed, (path, (block, way, there))) = (
    record { entry = k; side = side } ∷ path,
    (block, (guard, (then, otherwise, (direct_at entries k (Branch guard then otherwise) at, (allowed, way)))), there),
  )
