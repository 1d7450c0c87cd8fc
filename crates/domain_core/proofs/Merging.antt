-- Two ascending lists that are gone through side by side.
use Rattle.std.proofs.Common.{◌≡◌, ℕ, ◌+◌, ◌<◌, ◌≤◌, List, length, get_or, set, ℤ, pos, ◌≤ℤ◌, ◌<ℤ◌, ⊎_elim, sym, ◌∙◌, subst, arith}
use Rattle.std.specs.Prelude.{Contains}
use Rattle.std.specs.List.{AllWithin}
use Rattle.std.proofs.lemmas.Bool.{cases_lt}
use Rattle.std.proofs.lemmas.Int.{ints}
use Rattle.std.proofs.lemmas.List.{get_or_default}
use Rattle.domain_core.specs.Domain.{AreAscending}
use Rattle.domain_core.specs.Lists.{KeepsFront}
use Rattle.domain_core.proofs.Ascending.{ascending_le, stands_at}
use Rattle.domain_core.proofs.Fronts.{Sifted, was_there, sifted_take, sifted_leave, sifted_all}

-- the number is none of the others
abbrev pub IsApart : List ℤ → ℤ → Type 0
IsApart others number = Contains others number → ⊥

-- the first `next` of the others are below all numbers of the list from `read` on
abbrev pub IsBehind : List ℤ → List ℤ → ℕ → ℕ → Type 0
IsBehind others old read next = (k j : ℕ) (d : ℤ) → k < next → read ≤ j → j < length old → get_or others k d <ℤ get_or old j d

module _ (others old : List ℤ) (read next then_next : ℕ) (x : ℤ)
    (ascending : AreAscending old) (others_ascending : AreAscending others)
    (passed : IsBehind others old read next) (within : read < length old) (read_is : (d : ℤ) → get_or old read d ≡ x)
    (below : AllWithin (λ number. number <ℤ x) others next then_next) (following : x ≤ℤ get_or others then_next x) where
  -- all that has been passed over is below what is read
  all_below : (k : ℕ) (d : ℤ) → k < then_next → get_or others k d <ℤ x
  all_below k d before =
      ⊎_elim
      (λ earlier. let less = passed k read d earlier (omega arith) within in omega (arith, ints, less, read_is d))
      (λ later. below k d later before)
      (cases_lt k next)

  pub passed_on : IsBehind others old (read + 1) then_next
  passed_on k j d before after there =
      let less = all_below k d before in
      let more = ascending read j d (omega arith) there in
      omega (arith, ints, less, more, read_is d)

  -- what is read is one of the others exactly where the next of them is the same
  pub not_among : (get_or others then_next x ≡ x → then_next < length others → ⊥) → Contains others x → ⊥
  not_among apart has =
      ⊎_elim
      (λ before. let less = all_below has.0 x before in omega (arith, ints, less, has.2))
      (λ after.
      let there : then_next < length others = omega (arith, has.1) in
      let up = ascending_le others others_ascending then_next has.0 x after has.1 in
      apart (omega (arith, ints, following, up, has.2)) there)
      (cases_lt has.0 then_next)

-- ---- what both have comes to the front of the first

pub record Merged (others old new : List ℤ) (kept read next : ℕ) : Type 0 where
  pub sifted : Sifted (Contains others) (IsApart others) old new kept read
  pub bound : next ≤ length others
  pub passed : IsBehind others old read next

module _ (others old new : List ℤ) (kept read next then_next : ℕ) (x : ℤ)
    (ascending : AreAscending old) (others_ascending : AreAscending others)
    (merged : Merged others old new kept read next) (within : read < length new) (read_is : x ≡ get_or new read x)
    (bound : then_next ≤ length others)
    (below : AllWithin (λ number. number <ℤ x) others next then_next) (following : x ≤ℤ get_or others then_next x) where
  old_within : read < length old
  old_within = omega (arith, merged.sifted.long, within)

  at_read : (d : ℤ) → get_or old read d ≡ x
  at_read d = get_or_default old read d x old_within ∙ was_there (Contains others) (IsApart others) old new kept read x ascending merged.sifted within read_is

  behind : IsBehind others old (read + 1) then_next
  behind = passed_on others old read next then_next x ascending others_ascending merged.passed old_within at_read below following

  pub merged_take : then_next < length others → get_or others then_next x ≡ x → Merged others old (set new kept x) (kept + 1) (read + 1) then_next
  merged_take there same = record {
    sifted = sifted_take (Contains others) (IsApart others) old new kept read x ascending merged.sifted within read_is (then_next, there, same);
    bound = bound;
    passed = behind;
  }

  pub merged_leave : (get_or others then_next x ≡ x → then_next < length others → ⊥) → Merged others old new kept (read + 1) then_next
  merged_leave apart = record {
    sifted = sifted_leave (Contains others) (IsApart others) old new kept read x ascending merged.sifted within read_is
        (not_among others old read next then_next x ascending others_ascending merged.passed old_within at_read below following apart);
    bound = bound;
    passed = behind;
  }

pub merged_all : (others old new : List ℤ) (kept read next : ℕ) → Merged others old new kept read next → length old ≤ read → KeepsFront (Contains others) (IsApart others) old kept new
merged_all others old new kept read next merged through = sifted_all (Contains others) (IsApart others) old new kept read merged.sifted through

-- ---- whether there is a number that both have

-- none of the first `read` numbers is one of the others
pub record AreApart (others old : List ℤ) (read next : ℕ) : Type 0 where
  pub bound : next ≤ length others
  pub passed : IsBehind others old read next
  pub none : (k : ℕ) → k < read → k < length old → Contains others (get_or old k (pos 0)) → ⊥

pub apart_step : (others old : List ℤ) (read next then_next : ℕ) (x : ℤ)
    → AreAscending old → AreAscending others → AreApart others old read next → read < length old → ((d : ℤ) → get_or old read d ≡ x)
    → then_next ≤ length others → AllWithin (λ number. number <ℤ x) others next then_next → x ≤ℤ get_or others then_next x
    → (get_or others then_next x ≡ x → then_next < length others → ⊥) → AreApart others old (read + 1) then_next
apart_step others old read next then_next x ascending others_ascending apart within read_is bound below following differ = record {
  bound = bound;
  passed = passed_on others old read next then_next x ascending others_ascending apart.passed within read_is below following;
  none = λ k before there has.
      ⊎_elim
      (λ earlier. apart.none k earlier there has)
      (λ here.
      let same : k ≡ read = omega arith in
      not_among others old read next then_next x ascending others_ascending apart.passed within read_is below following differ
      (subst (Contains others) (read_is (pos 0)) (subst (λ j. Contains others (get_or old j (pos 0))) same has)))
      (cases_lt k read);
}

pub apart_all : (others old : List ℤ) (read next : ℕ) → AreApart others old read next → length old ≤ read → (value : ℤ) → Contains old value → Contains others value → ⊥
apart_all others old read next apart through value has also =
    apart.none has.0 (omega (arith, has.1)) has.1 (subst (Contains others) (sym (stands_at old value has (pos 0))) also)

-- ---- whether all numbers are among the others

-- each of the first `read` numbers is one of the others
pub record AreAmong (others old : List ℤ) (read next : ℕ) : Type 0 where
  pub bound : next ≤ length others
  pub passed : IsBehind others old read next
  pub each : (k : ℕ) → k < read → k < length old → Contains others (get_or old k (pos 0))

pub among_step : (others old : List ℤ) (read next then_next : ℕ) (x : ℤ)
    → AreAscending old → AreAscending others → AreAmong others old read next → read < length old → ((d : ℤ) → get_or old read d ≡ x)
    → then_next ≤ length others → AllWithin (λ number. number <ℤ x) others next then_next → x ≤ℤ get_or others then_next x
    → then_next < length others → get_or others then_next x ≡ x → AreAmong others old (read + 1) then_next
among_step others old read next then_next x ascending others_ascending among within read_is bound below following there same = record {
  bound = bound;
  passed = passed_on others old read next then_next x ascending others_ascending among.passed within read_is below following;
  each = λ k before inside.
      ⊎_elim
      (λ earlier. among.each k earlier inside)
      (λ here.
      let is : k ≡ read = omega arith in
      subst (λ j. Contains others (get_or old j (pos 0))) (sym is) (subst (Contains others) (sym (read_is (pos 0))) (then_next, there, same)))
      (cases_lt k read);
}

pub among_all : (others old : List ℤ) (read next : ℕ) → AreAmong others old read next → length old ≤ read → (value : ℤ) → Contains old value → Contains others value
among_all others old read next among through value has =
    subst (Contains others) (stands_at old value has (pos 0)) (among.each has.0 (omega (arith, has.1)) has.1)

-- where a number is none of the others, not all are
pub not_all_among : (others old : List ℤ) (read next then_next : ℕ) (x : ℤ)
    → AreAscending old → AreAscending others → AreAmong others old read next → read < length old → ((d : ℤ) → get_or old read d ≡ x)
    → AllWithin (λ number. number <ℤ x) others next then_next → x ≤ℤ get_or others then_next x
    → (get_or others then_next x ≡ x → then_next < length others → ⊥)
    → ((value : ℤ) → Contains old value → Contains others value) → ⊥
not_all_among others old read next then_next x ascending others_ascending among within read_is below following differ all =
    not_among others old read next then_next x ascending others_ascending among.passed within read_is below following differ
    (all x (read, within, read_is x))
