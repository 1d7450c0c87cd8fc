-- Which classes a program has, by number.
use Rattle.std.proofs.Common.{◌≡◌, ℕ, zero, suc, ◌+◌, Bool, true, false, List, [], ◌∷◌, ◌++◌, refl, sym, ◌∙◌, ap, subst, arith}
use Rattle.std.specs.Prelude.{Some, slice_get, if◌then◌else◌}
use Rattle.std.proofs.lemmas.Option.{same_Some}
use Rattle.nddl_symbols.specs.declared.declared.Declared.{Declared}
use Rattle.nddl_types.specs.Classes.{class_entries, class_numbers, is_first_class}

-- the class of this place among the entries has the number that is so far behind the first
pub record IsNumbered (names : List Declared) (next number : ℕ) (some : List Declared) (place entry : ℕ) : Type 0 where
  pub offset : ℕ
  pub is_entry : entry ≡ number + offset
  pub has_number : slice_get (class_numbers names next number some) offset ≡ Some (next + place)

later : (names : List Declared) (next number place entry : ℕ) (declared : Declared) (more : List Declared) (after : ℕ)
    → (if is_first_class names number declared then next + 1 else next) ≡ after
    → (found : IsNumbered names after (number + 1) more place entry) (total : ℕ) → after + place ≡ total
    → (offset : ℕ) × (entry ≡ number + offset) × (slice_get (class_numbers names next number (declared ∷ more)) offset ≡ Some total)
later names next number place entry declared more after is found total sum = (
  suc found.offset,
  (let e : entry ≡ number + 1 + found.offset = found.is_entry in omega arith),
  ap (λ n. slice_get (class_numbers names n (number + 1) more) found.offset) is ∙ (found.has_number ∙ ap (λ n. Some n) sum),
)

pub numbered : (names : List Declared) (next number : ℕ) (some : List Declared) (place entry : ℕ)
    → slice_get (class_entries names number some) place ≡ Some entry → IsNumbered names next number some place entry
numbered names next number [] place entry is = absurd (cc)
numbered names next number (declared ∷ more) place entry is =
    by (is_first_class names number declared) refl place is
    (λ at there. numbered names (next + 1) (number + 1) more at entry there) (λ at there. numbered names next (number + 1) more at entry there)
  where
    by : (first : Bool) → is_first_class names number declared ≡ first → (place : ℕ)
        → slice_get ((if first then number ∷ [] else []) ++ class_entries names (number + 1) more) place ≡ Some entry
        → ((at : ℕ) → slice_get (class_entries names (number + 1) more) at ≡ Some entry → IsNumbered names (next + 1) (number + 1) more at entry)
        → ((at : ℕ) → slice_get (class_entries names (number + 1) more) at ≡ Some entry → IsNumbered names next (number + 1) more at entry)
        → IsNumbered names next number (declared ∷ more) place entry
    by true first zero here counts passes = record {
      offset = 0;
      is_entry = (let e : number ≡ entry = same_Some number entry here in omega arith);
      has_number = (let e : next ≡ next + 0 = omega arith in ap (λ n. Some n) e);
    }
    by true first (suc at) there counts passes =
        let more_is = later names next number at entry declared more (next + 1) (ap (λ b. if b then next + 1 else next) first) (counts at there) (next + suc at) (omega arith) in
        record { offset = more_is.0; is_entry = more_is.1; has_number = more_is.2 }
    by false first at there counts passes =
        let more_is = later names next number at entry declared more next (ap (λ b. if b then next + 1 else next) first) (passes at there) (next + at) refl in
        record { offset = more_is.0; is_entry = more_is.1; has_number = more_is.2 }

-- a class that is declared first stands among the entries
pub record IsListed (names : List Declared) (number : ℕ) (some : List Declared) (entry : ℕ) : Type 0 where
  pub place : ℕ
  pub there : slice_get (class_entries names number some) place ≡ Some entry

pub listed : (names : List Declared) (number : ℕ) (some : List Declared) (offset : ℕ) (declared : Declared)
    → slice_get some offset ≡ Some declared → is_first_class names (number + offset) declared ≡ true → IsListed names number some (number + offset)
listed names number [] offset declared is first = absurd (cc)
listed names number (here ∷ more) zero declared is first =
    let e : number + 0 ≡ number = omega arith in
    let same : here ≡ declared = same_Some here declared is in
    let P : ℕ → Type 0 = λ n. IsListed names number (here ∷ more) n in
    let so : is_first_class names number here ≡ true = (λ i. is_first_class names (sym e i) (same i)) ∙ first in
    subst P (sym e) (record { place = 0; there = ap (λ b. slice_get ((if b then number ∷ [] else []) ++ class_entries names (number + 1) more) 0) so })
listed names number (here ∷ more) (suc offset) declared is first =
    let e : number + 1 + offset ≡ number + suc offset = omega arith in
    let rest = listed names (number + 1) more offset declared is (ap (λ n. is_first_class names n declared) e ∙ first) in
    let P : ℕ → Type 0 = λ n. IsListed names number (here ∷ more) n in
    subst P e (by (is_first_class names number here) refl rest)
  where
    by : (b : Bool) → is_first_class names number here ≡ b → IsListed names (number + 1) more (number + 1 + offset) → IsListed names number (here ∷ more) (number + 1 + offset)
    by true is rest =
        record { place = suc rest.place; there = ap (λ b. slice_get ((if b then number ∷ [] else []) ++ class_entries names (number + 1) more) (suc rest.place)) is ∙ rest.there }
    by false is rest =
        record { place = rest.place; there = ap (λ b. slice_get ((if b then number ∷ [] else []) ++ class_entries names (number + 1) more) rest.place) is ∙ rest.there }

-- what stands among the entries is a class that is declared first
pub record IsEntry (names : List Declared) (number : ℕ) (some : List Declared) (entry : ℕ) : Type 0 where
  pub offset : ℕ
  pub is_entry : entry ≡ number + offset
  pub declared : Declared
  pub there : slice_get some offset ≡ Some declared
  pub first : is_first_class names entry declared ≡ true

pub entry_is : (names : List Declared) (number : ℕ) (some : List Declared) (place entry : ℕ)
    → slice_get (class_entries names number some) place ≡ Some entry → IsEntry names number some entry
entry_is names number [] place entry is = absurd (cc)
entry_is names number (declared ∷ more) place entry is =
    by (is_first_class names number declared) refl place is (λ at there. entry_is names (number + 1) more at entry there)
  where
    deeper : IsEntry names (number + 1) more entry → IsEntry names number (declared ∷ more) entry
    deeper found = record {
      offset = suc found.offset;
      is_entry = (let e : entry ≡ number + 1 + found.offset = found.is_entry in omega arith);
      declared = found.declared;
      there = found.there;
      first = found.first;
    }

    by : (first : Bool) → is_first_class names number declared ≡ first → (place : ℕ)
        → slice_get ((if first then number ∷ [] else []) ++ class_entries names (number + 1) more) place ≡ Some entry
        → ((at : ℕ) → slice_get (class_entries names (number + 1) more) at ≡ Some entry → IsEntry names (number + 1) more entry)
        → IsEntry names number (declared ∷ more) entry
    by true first zero here rest =
        let e : number ≡ entry = same_Some number entry here in
        record {
          offset = 0;
          is_entry = omega arith;
          declared = declared;
          there = refl;
          first = ap (λ n. is_first_class names n declared) (sym e) ∙ first;
        }
    by true first (suc at) there rest = deeper (rest at there)
    by false first at there rest = deeper (rest at there)
