-- Sums change only at the instants of the list, so what becomes so becomes so at one of them.
use Rattle.std.proofs.Common.{◌≡◌, suc, ℤ, pos, ◌≤ℤ◌, ◌<ℤ◌, ◌↔◌, ◌⊎◌, inl, inr, true, false, cond, ◌&&◌, List, [], ◌∷◌, Option, Some, None, refl, subst, arith}
use Rattle.std.specs.Prelude.{All, Contains, IfSome, IfNone, int_le, int_lt}
use Rattle.std.proofs.lemmas.Int.{ints, by_lt_z}
use Rattle.std.proofs.lemmas.List.Elements.{All-nil, All-cons, All-head, All-tail, All-weaker, All-contains}
use Rattle.resource_profile.specs.Instant.{IsFirst, IsEarlier}
use Rattle.resource_profile.specs.Usage.{quantity_at, taken_at, IsOverUsed}
use Rattle.resource_profile.specs.Level.{added_at, level_at, IsPast, IsPastAt, IsPastFrom, IsOutFrom}
use Rattle.resource_profile.specs.declared.usage.Use.{Use}
use Rattle.resource_profile.specs.declared.level.LevelChange.{LevelChange}
use Rattle.resource_profile.specs.declared.level.Limit.{Limit}
use Rattle.resource_profile.specs.declared.level.Limit.TheVariants.{Low, High}
use Rattle.resource_profile.proofs.Firsts.{IsFirstAmong, first_of_both, first_along}

-- whether one number is at most another, or below it, with what the test says
at_most : (a b : ℤ) → ((int_le a b ≡ true) × (a ≤ℤ b)) ⊎ ((int_le a b ≡ false) × (b <ℤ a))
at_most a b = by_lt_z b a (λ above. inr (grind (arith, ints), above)) (λ below. inl (grind (arith, ints), below))

below : (a b : ℤ) → ((int_lt a b ≡ true) × (a <ℤ b)) ⊎ ((int_lt a b ≡ false) × (b ≤ℤ a))
below a b = by_lt_z a b (λ under. inl (grind (arith, ints), under)) (λ above. inr (grind (arith, ints), above))

-- the last member of a list whose instant isn't after this one
record Latest {X : Type 0} (key : X → ℤ) (xs : List X) (instant : ℤ) : Type 0 where
  member : X
  contained : Contains xs member
  reached : key member ≤ℤ instant
  last : All (λ x. key x ≤ℤ instant → key x ≤ℤ key member) xs

Contains-tail : {X : Type 0} (y : X) (ys : List X) (x : X) → Contains ys x → Contains (y ∷ ys) x
Contains-tail y ys x c = (suc c.0, omega (arith, c.1), c.2)

module _ {X : Type 0} (key : X → ℤ) (instant : ℤ) where
  joins_latest : (x : X) (xs : List X) → ((key x ≤ℤ instant) ⊎ (instant <ℤ key x)) → (All (λ y. instant <ℤ key y) xs ⊎ Latest key xs instant)
      → (All (λ y. instant <ℤ key y) (x ∷ xs) ⊎ Latest key (x ∷ xs) instant)
  joins_latest x xs (inr later) (inl all) = inl (All-cons (λ y. instant <ℤ key y) x xs later all)
  joins_latest x xs (inr later) (inr found) = inr (record {
    member = found.member;
    contained = Contains-tail x xs found.member found.contained;
    reached = found.reached;
    last = All-cons (λ y. key y ≤ℤ instant → key y ≤ℤ key found.member) x xs (λ reached. absurd (omega (arith, ints))) found.last;
  })
  joins_latest x xs (inl reached) (inl all) = inr (record {
    member = x;
    contained = (0, omega arith, refl);
    reached = reached;
    last = All-cons (λ y. key y ≤ℤ instant → key y ≤ℤ key x) x xs (λ _. omega (arith, ints))
        (All-weaker (λ y. instant <ℤ key y) (λ y. key y ≤ℤ instant → key y ≤ℤ key x) (λ y later reached. absurd (omega (arith, ints))) xs all);
  })
  joins_latest x xs (inl reached) (inr found) =
      by_lt_z (key found.member) (key x)
      (λ before. inr (record {
        member = x;
        contained = (0, omega arith, refl);
        reached = reached;
        last = All-cons (λ y. key y ≤ℤ instant → key y ≤ℤ key x) x xs (λ _. omega (arith, ints))
            (All-weaker (λ y. key y ≤ℤ instant → key y ≤ℤ key found.member) (λ y. key y ≤ℤ instant → key y ≤ℤ key x) (λ y last reached. let so = last reached in omega (arith, ints)) xs found.last);
      }))
      (λ after. inr (record {
        member = found.member;
        contained = Contains-tail x xs found.member found.contained;
        reached = found.reached;
        last = All-cons (λ y. key y ≤ℤ instant → key y ≤ℤ key found.member) x xs (λ _. after) found.last;
      }))

  -- all instants of the list come after this one, or one of them is the last that doesn't
  latest : (xs : List X) → All (λ x. instant <ℤ key x) xs ⊎ Latest key xs instant
  latest [] = inl (All-nil (λ x. instant <ℤ key x))
  latest (x ∷ xs) = joins_latest x xs (by_lt_z instant (key x) (λ later. inr later) (λ reached. inl reached)) (latest xs)

-- a use takes nothing or its quantity
not_negative : (usage : Use) (instant : ℤ) → pos 0 ≤ℤ usage.quantity → pos 0 ≤ℤ quantity_at usage instant
not_negative usage instant quantity =
    elim (int_le usage.from instant && int_lt instant usage.until) as (λ b. pos 0 ≤ℤ cond b usage.quantity (pos 0)) [ true ↦ quantity | false ↦ omega (arith, ints) ]

-- before it begins it takes nothing
not_begun : (usage : Use) (instant : ℤ) → instant <ℤ usage.from → quantity_at usage instant ≡ pos 0
not_begun usage instant later =
    elim (at_most usage.from instant) [
      | inl begun ↦ absurd (omega (arith, ints, begun.1))
      | inr not ↦ rw not.0
    ]

-- what has begun by the later instant and by the earlier one as well takes no less at the earlier one
quantity_at-le : (usage : Use) (instant later : ℤ) → instant ≤ℤ later → pos 0 ≤ℤ usage.quantity → (usage.from ≤ℤ later → usage.from ≤ℤ instant) → quantity_at usage later ≤ℤ quantity_at usage instant
quantity_at-le usage instant later order quantity begun =
    elim (at_most usage.from later) [
      | inr not ↦ let least = not_negative usage instant quantity in rw not.0 least
      | inl done ↦ elim (below later usage.until) [
        | inr ended ↦ let least = not_negative usage instant quantity in rw (done.0, ended.0) least
        | inl on ↦ elim (at_most usage.from instant) [
          | inr not ↦ absurd (let from = begun done.1 in omega (arith, ints, not.1))
          | inl too ↦ elim (below instant usage.until) [
            | inr ended ↦ absurd (omega (arith, ints, ended.1, on.1))
            | inl on_too ↦ rw (done.0, on.0, too.0, on_too.0) (omega (arith, ints))
          ]
        ]
      ]
    ]

taken_at-le : (uses : List Use) (instant later : ℤ) → instant ≤ℤ later → All (λ usage. pos 0 ≤ℤ usage.quantity) uses
    → All (λ usage. usage.from ≤ℤ later → usage.from ≤ℤ instant) uses → taken_at uses later ≤ℤ taken_at uses instant
taken_at-le [] instant later order quantities begun = omega (arith, ints)
taken_at-le (usage ∷ uses) instant later order quantities begun =
    let first = quantity_at-le usage instant later order (All-head (λ usage. pos 0 ≤ℤ usage.quantity) usage uses quantities) (All-head (λ usage. usage.from ≤ℤ later → usage.from ≤ℤ instant) usage uses begun) in
    let rest = taken_at-le uses instant later order (All-tail (λ usage. pos 0 ≤ℤ usage.quantity) usage uses quantities) (All-tail (λ usage. usage.from ≤ℤ later → usage.from ≤ℤ instant) usage uses begun) in
    omega (arith, ints)

taken_before : (uses : List Use) (instant : ℤ) → All (λ usage. instant <ℤ usage.from) uses → taken_at uses instant ≡ pos 0
taken_before [] instant later = refl
taken_before (usage ∷ uses) instant later =
    let first = not_begun usage instant (All-head (λ usage. instant <ℤ usage.from) usage uses later) in
    let rest = taken_before uses instant (All-tail (λ usage. instant <ℤ usage.from) usage uses later) in
    omega (arith, ints)

-- the use with whose begin it got so, no later than the instant at which it is so
record BeginsBy (uses : List Use) (capacity instant : ℤ) : Type 0 where
  usage : Use
  contained : Contains uses usage
  reached : usage.from ≤ℤ instant
  over : IsOverUsed uses capacity usage.from

begins_by : (uses : List Use) (capacity instant : ℤ) → pos 0 ≤ℤ capacity → All (λ usage. pos 0 ≤ℤ usage.quantity) uses → IsOverUsed uses capacity instant → BeginsBy uses capacity instant
begins_by uses capacity instant room quantities over =
    elim (latest (λ (usage : Use). usage.from) instant uses) [
      | inl later ↦ absurd (let nothing = taken_before uses instant later in omega (arith, ints))
      | inr found ↦ record {
        usage = found.member;
        contained = found.contained;
        reached = found.reached;
        over = let less = taken_at-le uses found.member.from instant found.reached quantities found.last in omega (arith, ints);
      }
    ]

pub first_over_use : (uses : List Use) (capacity : ℤ) (found : Option ℤ) → pos 0 ≤ℤ capacity → All (λ usage. pos 0 ≤ℤ usage.quantity) uses
    → IsFirstAmong (λ usage. usage.from) (IsOverUsed uses capacity) uses found → IfSome found (IsFirst (IsOverUsed uses capacity))
first_over_use uses capacity None room quantities among = tt
first_over_use uses capacity (Some found) room quantities among = (
  among.0,
  λ earlier before over.
      let begun = begins_by uses capacity earlier room quantities over in
      let after = All-contains (λ (usage : Use). IsOverUsed uses capacity usage.from → found ≤ℤ usage.from) uses begun.usage among.1 begun.contained begun.over in
      omega (arith, ints),
)

pub no_over_use : (uses : List Use) (capacity : ℤ) (found : Option ℤ) → pos 0 ≤ℤ capacity → All (λ usage. pos 0 ≤ℤ usage.quantity) uses
    → IsFirstAmong (λ usage. usage.from) (IsOverUsed uses capacity) uses found → IfNone found ((instant : ℤ) → IsOverUsed uses capacity instant → ⊥)
no_over_use uses capacity None room quantities among = λ instant over.
    let begun = begins_by uses capacity instant room quantities over in
    All-contains (λ (usage : Use). IsOverUsed uses capacity usage.from → ⊥) uses begun.usage among begun.contained begun.over
no_over_use uses capacity (Some found) room quantities among = tt

-- what has happened by both instants or by neither adds the same
added_at-same : (change : LevelChange) (one other : ℤ) → (change.at ≤ℤ one ↔ change.at ≤ℤ other) → added_at change one ≡ added_at change other
added_at-same change one other same =
    elim (at_most change.at one) [
      | inl done ↦ elim (at_most change.at other) [
        | inl too ↦ rw (done.0, too.0)
        | inr not ↦ absurd (let by = same.0 done.1 in omega (arith, ints, not.1))
      ]
      | inr not ↦ elim (at_most change.at other) [
        | inl done ↦ absurd (let by = same.1 done.1 in omega (arith, ints, not.1))
        | inr nor ↦ rw (not.0, nor.0)
      ]
    ]

level_at-same : (changes : List LevelChange) (initial one other : ℤ) → All (λ change. change.at ≤ℤ one ↔ change.at ≤ℤ other) changes → level_at changes initial one ≡ level_at changes initial other
level_at-same [] initial one other same = refl
level_at-same (change ∷ changes) initial one other same =
    let first = added_at-same change one other (All-head (λ change. change.at ≤ℤ one ↔ change.at ≤ℤ other) change changes same) in
    let rest = level_at-same changes initial one other (All-tail (λ change. change.at ≤ℤ one ↔ change.at ≤ℤ other) change changes same) in
    omega (arith, ints)

-- the change after `from` with which it got so, no later than the instant at which it is so
record ChangesBy (changes : List LevelChange) (is_so : ℤ → Type 0) (from instant : ℤ) : Type 0 where
  change : LevelChange
  contained : Contains changes change
  after : from <ℤ change.at
  reached : change.at ≤ℤ instant
  so : is_so change.at

module _ (changes : List LevelChange) (initial : ℤ) (limit : Limit) (from : ℤ) where
  past_same : (one other : ℤ) → level_at changes initial one ≡ level_at changes initial other → IsPastAt changes initial limit one → IsPastAt changes initial limit other
  past_same one other same out = subst (IsPast limit) same out

  -- a level that is past the limit was so from the start or got so with a change
  changes_by : (instant : ℤ) → from ≤ℤ instant → IsPastAt changes initial limit instant → (IsPastAt changes initial limit from) ⊎ ChangesBy changes (IsPastAt changes initial limit) from instant
  changes_by instant order out =
      elim (latest (λ (change : LevelChange). change.at) instant changes) [
        | inl later ↦ inl (past_same instant from (level_at-same changes initial instant from
            (All-weaker (λ change. instant <ℤ change.at) (λ change. change.at ≤ℤ instant ↔ change.at ≤ℤ from) (λ change after. (λ by. absurd (omega (arith, ints)), λ by. absurd (omega (arith, ints)))) changes later)) out)
        | inr found ↦
            let at = found.member.at in
            by_lt_z from at
            (λ after. inr (record {
              change = found.member;
              contained = found.contained;
              after = after;
              reached = found.reached;
              so = past_same instant at (level_at-same changes initial instant at
                  (All-weaker (λ change. change.at ≤ℤ instant → change.at ≤ℤ at) (λ change. change.at ≤ℤ instant ↔ change.at ≤ℤ at) (λ change last. (last, λ by. let reached = found.reached in omega (arith, ints))) changes found.last)) out;
            }))
            (λ before. inl (past_same instant from (level_at-same changes initial instant from
            (All-weaker (λ change. change.at ≤ℤ instant → change.at ≤ℤ at) (λ change. change.at ≤ℤ instant ↔ change.at ≤ℤ from) (λ change last. (λ by. let so = last by in omega (arith, ints), λ by. omega (arith, ints))) changes found.last)) out))
      ]

  pub first_level_past : (found : Option ℤ) → (IsPastAt changes initial limit from → ⊥)
      → IsFirstAmong (λ change. change.at) (λ at. (from <ℤ at) × IsPastAt changes initial limit at) changes found → IfSome found (IsFirst (IsPastFrom changes initial limit from))
  first_level_past None not_at_once among = tt
  first_level_past (Some found) not_at_once among = (
    (omega (arith, ints, among.0.0), among.0.1),
    λ earlier before out.
        elim (changes_by earlier out.0 out.1) [
          | inl at_once ↦ not_at_once at_once
          | inr changed ↦
              let after = All-contains (λ (change : LevelChange). (from <ℤ change.at) × IsPastAt changes initial limit change.at → found ≤ℤ change.at) changes changed.change among.1 changed.contained (changed.after, changed.so) in
              let reached = changed.reached in
              omega (arith, ints)
        ],
  )

  pub no_level_past : (found : Option ℤ) → (IsPastAt changes initial limit from → ⊥)
      → IsFirstAmong (λ change. change.at) (λ at. (from <ℤ at) × IsPastAt changes initial limit at) changes found → IfNone found ((instant : ℤ) → IsPastFrom changes initial limit from instant → ⊥)
  no_level_past None not_at_once among = λ instant out.
      elim (changes_by instant out.0 out.1) [
        | inl at_once ↦ not_at_once at_once
        | inr changed ↦ All-contains (λ (change : LevelChange). (from <ℤ change.at) × IsPastAt changes initial limit change.at → ⊥) changes changed.change among changed.contained (changed.after, changed.so)
      ]
  no_level_past (Some found) not_at_once among = tt

-- a level is outside of both limits where it is past the one or past the other
pub first_level_out : (changes : List LevelChange) (initial low high from : ℤ) (below above found : Option ℤ) → IsEarlier below above found
    → IfSome below (IsFirst (IsPastFrom changes initial (Low low) from)) → IfNone below ((instant : ℤ) → IsPastFrom changes initial (Low low) from instant → ⊥)
    → IfSome above (IsFirst (IsPastFrom changes initial (High high) from)) → IfNone above ((instant : ℤ) → IsPastFrom changes initial (High high) from instant → ⊥)
    → IfSome found (IsFirst (IsOutFrom changes initial low high from))
first_level_out changes initial low high from below above found is first none first' none' =
    first_along (λ instant. IsPastFrom changes initial (Low low) from instant ⊎ IsPastFrom changes initial (High high) from instant) (IsOutFrom changes initial low high from) found
    (λ instant. elim [ inl past ↦ (past.0, inl past.1) | inr past ↦ (past.0, inr past.1) ])
    (λ instant out. elim out.1 [ inl past ↦ inl (out.0, past) | inr past ↦ inr (out.0, past) ])
    (first_of_both (IsPastFrom changes initial (Low low) from) (IsPastFrom changes initial (High high) from) below above found is first none first' none')
