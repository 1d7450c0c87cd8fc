-- Tokens that are noted under their objects, as more are noted and as the store goes on.
use Rattle.std.proofs.Common.{◌≡◌, inl, inr, ℕ, zero, suc, ◌+◌, ◌<◌, ◌≤◌, List, [], ◌∷◌, ◌++◌, length, take, slice_get, slice_index_or, Option, None, Some, pos, Ok, Err, refl, sym, ap, ◌∙◌, subst, arith}
use Rattle.std.specs.Prelude.{ℤ, Contains, MatchOption, Result, OnOk, OnErr}
use Rattle.std.specs.declared.alloc.AllocError.{AllocError}
use Rattle.std.proofs.lemmas.Bool.{cases_lt}
use Rattle.std.proofs.lemmas.List.{append_assoc, append-nil}
use Rattle.std.proofs.lemmas.List.Elements.{Contains-append_left, Contains-push}
use Rattle.std.proofs.lemmas.Option.{slice_get-get_or, slice_get_within, get_or_from_slice_get}
use Rattle.cell_store.specs.Cells.{domain_at}
use Rattle.domain_core.specs.Domain.{Domain, Range, IsSingle}
use Rattle.eu_name.specs.declared.name.Part.TheVariants.{Object}
use Rattle.db_store.specs.declared.key.VarKey.{VarKey}
use Rattle.db_store.specs.declared.key.VarKey.TheVariants.{Part}
use Rattle.db_store.specs.declared.store.Mark.{Mark}
use Rattle.db_store.specs.declared.watchers.Watch.{Watch}
use Rattle.db_store.specs.Stores.{Stored}
use Rattle.db_store.specs.StoreMarks.{CanGoBack, KeepStoreMarks}
use Rattle.db_store.proofs.Lists.{at_contains}
use Rattle.db_fixpoint.specs.declared.seating.Seating.{Seating}
use Rattle.db_fixpoint.specs.Seating.{IsSeated, SeatsNumber, SeatsAll, SeatsSince, AreSeatsUpTo, IsSeatingOf, KeepsSeating}

abbrev pub IsMore : List Watch → List Watch → Type 0
IsMore old new = (more : List Watch) × (new ≡ old ++ more)

pub more_none : (seats : List Watch) → IsMore seats seats
more_none seats = ([], sym (append-nil seats))

pub more_both : (one two three : List Watch) → IsMore one two → IsMore two three → IsMore one three
more_both one two three first second =
    (first.0 ++ second.0, second.1 ∙ ap (λ list. list ++ second.0) first.1 ∙ append_assoc one first.0 second.0)

-- ---- more seats

module _ (keys : List VarKey) (domains : List Domain) (old new : List Watch) (more : IsMore old new) where
  pub number_more : (number : ℕ) → SeatsNumber keys domains old number → SeatsNumber keys domains new number
  number_more number seats = λ place object domain at given single.
      subst (λ list. IsSeated list object place) (sym more.1)
      (Contains-append_left old more.0 (record { variable = object; block = place }) (seats place object domain at given single))

pub up_to_more : (stored : Stored) (mark : Option Mark) (old new : List Watch) → IsMore old new → AreSeatsUpTo stored mark old → AreSeatsUpTo stored mark new
up_to_more stored None old new more is = tt
up_to_more stored (Some mark) old new more is =
    (is.0, is.1, λ number. number_more is.0.keys is.0.domains old new more number (is.2 number))

-- ---- a store that goes on

pub up_to_on : (old new : Stored) → KeepStoreMarks old new → (mark : Option Mark) (seats : List Watch) → AreSeatsUpTo old mark seats → AreSeatsUpTo new mark seats
up_to_on old new keep None seats is = tt
up_to_on old new keep (Some mark) seats is = (is.0, keep.marks mark is.0 is.1, is.2)

pub seating_on : (old new : Stored) (seating : Seating) → KeepStoreMarks old new → IsSeatingOf old seating → IsSeatingOf new seating
seating_on old new seating keep is = up_to_on old new keep seating.mark seating.seats is

pub kept_on : (old new : Stored) (seating : Seating) → KeepStoreMarks old new → IsSeatingOf old seating → KeepsSeating seating new seating
kept_on old new seating keep is = record { grown = more_none seating.seats; steps = refl; is = seating_on old new seating keep is }

pub kept_same : (stored : Stored) (seating : Seating) → IsSeatingOf stored seating → KeepsSeating seating stored seating
kept_same stored seating is = record { grown = more_none seating.seats; steps = refl; is = is }

pub kept_both : (one two three : Seating) (mid new : Stored) → KeepsSeating one mid two → KeepsSeating two new three → KeepsSeating one new three
kept_both one two three mid new first second = record {
  grown = more_both one.seats two.seats three.seats first.grown second.grown;
  steps = second.steps ∙ first.steps;
  is = second.is;
}

pub kept_later : (old later : Seating) (mid new : Stored) → KeepStoreMarks mid new → KeepsSeating old mid later → KeepsSeating old new later
kept_later old later mid new keep kept = record { grown = kept.grown; steps = kept.steps; is = seating_on mid new later keep kept.is }

pub can_go : (stored : Stored) (mark : Option Mark) (seats : List Watch) → AreSeatsUpTo stored mark seats → MatchOption mark (Unit {0}) (CanGoBack stored)
can_go stored None seats is = tt
can_go stored (Some mark) seats is = (is.0, is.1)

-- ---- one seat

some_of : {X : Type 0} (one other : X) → Some one ≡ Some other → one ≡ other
some_of one other same = cc

same_place : (one other : ℕ) → Some (Part one Object) ≡ Some (Part other Object) → one ≡ other
same_place one other same = cc

same_number : (one other : ℕ) → pos one ≡ pos other → one ≡ other
same_number one other same = cc

module _ (keys : List VarKey) (domains : List Domain) (number place : ℕ) (at : slice_get keys number ≡ Some (Part place Object)) where
  pub seat_taken : (object : ℕ) → (domain : Domain) × (slice_get domains number ≡ Some domain) × IsSingle domain (pos object) → (old new : List Watch)
      → new ≡ old ++ record { variable = object; block = place } ∷ [] → SeatsNumber keys domains new number
  seat_taken object found old new is = λ place' object' domain' at' given' single'.
      let here : place ≡ place' = same_place place place' (sym at ∙ at') in
      let alike : domain' ≡ found.0 = some_of domain' found.0 (sym given' ∙ found.1) in
      let one : object ≡ object' = same_number object object' (sym (found.2.only (pos object') (subst (λ d. IsSingle d (pos object')) alike single').has)) in
      let seat : Watch = record { variable = object; block = place } in
      let seat' : Watch = record { variable = object'; block = place' } in
      let same : seat ≡ seat' = λ i. record { variable = one i; block = here i } in
      subst (λ list. Contains list seat') (sym is) (subst (Contains (old ++ seat ∷ [])) same (Contains-push old seat))

pub pushed_seat : (result : Result (Unit {0}) AllocError) (old new : List Watch) (seat : Watch) → OnOk result (new ≡ old ++ seat ∷ []) → OnErr result (new ≡ old) → IsMore old new
pushed_seat (Ok done) old new seat ok err = (seat ∷ [], ok)
pushed_seat (Err none) old new seat ok err = ([], err ∙ sym (append-nil old))

-- what a key is tells what stands at its number
pub owner_told : (keys : List VarKey) (number : ℕ) (key : VarKey) (found : Option ℕ) → Some key ≡ slice_get keys number
    → MatchOption found ((place : ℕ) → key ≡ Part place Object → ⊥) (λ place. key ≡ Part place Object)
    → MatchOption found ((place : ℕ) → slice_get keys number ≡ Some (Part place Object) → ⊥) (λ place. slice_get keys number ≡ Some (Part place Object))
owner_told keys number key (Some place) at told = sym at ∙ ap Some told
owner_told keys number key None at told = λ place there. told place (some_of key (Part place Object) (at ∙ there))

pub owner_none : (keys : List VarKey) (number : ℕ) → None ≡ slice_get keys number → (place : ℕ) → slice_get keys number ≡ Some (Part place Object) → ⊥
owner_none keys number none place there = let p : None ≡ Some (Part place Object) = none ∙ there in cc

-- what is given tells which object it is
pub object_told : (domains : List Domain) (number : ℕ) (domain : Domain) (value : ℤ) (found : Option ℕ) → slice_get domains number ≡ Some domain → IsSingle domain value
    → MatchOption found ((object : ℕ) → value ≡ pos object → ⊥) (λ object. value ≡ pos object)
    → MatchOption found ((other : Domain) (object : ℕ) → slice_get domains number ≡ Some other → IsSingle other (pos object) → ⊥)
    (λ object. (other : Domain) × (slice_get domains number ≡ Some other) × IsSingle other (pos object))
object_told domains number domain value (Some object) given single told = (domain, given, subst (IsSingle domain) told single)
object_told domains number domain value None given single told = λ other object there one.
    let same : other ≡ domain = some_of other domain (sym there ∙ given) in
    told object (sym (single.only (pos object) (subst (λ d. IsSingle d (pos object)) same one).has))

pub object_none : (domains : List Domain) (number : ℕ) → length domains ≤ number → (other : Domain) (object : ℕ) → slice_get domains number ≡ Some other
    → IsSingle other (pos object) → ⊥
object_none domains number past other object there one = let within = slice_get_within domains number other there in absurd (omega (arith, past, within))

pub object_loose : (domains : List Domain) (number : ℕ) (domain : Domain) → slice_get domains number ≡ Some domain → ((value : ℤ) → IsSingle domain value → ⊥)
    → (other : Domain) (object : ℕ) → slice_get domains number ≡ Some other → IsSingle other (pos object) → ⊥
object_loose domains number domain given loose other object there one =
    let same : other ≡ domain = some_of other domain (sym there ∙ given) in
    loose (pos object) (subst (λ d. IsSingle d (pos object)) same one)

-- ---- one number after another

module _ (keys : List VarKey) (domains : List Domain) where
  -- the first so many of the numbers are dealt with
  abbrev pub SeatsFirst : List ℕ → ℕ → List Watch → Type 0
  SeatsFirst numbers count seats = (k number : ℕ) → k < count → slice_get numbers k ≡ Some number → SeatsNumber keys domains seats number

  pub first_more : (numbers : List ℕ) (count : ℕ) (old new : List Watch) → IsMore old new → SeatsFirst numbers count old
      → SeatsNumber keys domains new (slice_index_or numbers count 0) → SeatsFirst numbers (count + 1) new
  first_more numbers count old new more before next = λ k number below at. elim (cases_lt k count) [
    | inl less ↦ number_more keys domains old new more number (before k number less at)
    | inr over ↦
        let last : k ≡ count = omega (arith, below, over) in
        let same : slice_index_or numbers count 0 ≡ number = get_or_from_slice_get numbers count number 0 (subst (λ n. slice_get numbers n ≡ Some number) last at) in
        subst (SeatsNumber keys domains new) same next
  ]

  pub first_all : (numbers : List ℕ) (count : ℕ) (seats : List Watch) → length numbers ≤ count → SeatsFirst numbers count seats
      → (number : ℕ) → Contains numbers number → SeatsNumber keys domains seats number
  first_all numbers count seats all before number there =
      let at = at_contains numbers number there in
      before at.0 number (let within = slice_get_within numbers at.0 number at.1 in omega (arith, within, all)) at.1

  -- so are all numbers below this one
  abbrev pub SeatsBelow : ℕ → List Watch → Type 0
  SeatsBelow count seats = (number : ℕ) → number < count → SeatsNumber keys domains seats number

  pub below_more : (count : ℕ) (old new : List Watch) → IsMore old new → SeatsBelow count old → SeatsNumber keys domains new count → SeatsBelow (count + 1) new
  below_more count old new more before next = λ number below. elim (cases_lt number count) [
    | inl less ↦ number_more keys domains old new more number (before number less)
    | inr over ↦ let last : count ≡ number = omega (arith, below, over) in subst (SeatsNumber keys domains new) last next
  ]

  pub below_all : (count : ℕ) (seats : List Watch) → length keys ≤ count → SeatsBelow count seats → SeatsAll keys domains seats
  below_all count seats all before = λ number place object domain at given single.
      let within = slice_get_within keys number (Part place Object) at in
      before number (omega (arith, within, all)) place object domain at given single

pub none_past : {X : Type 0} (xs : List X) (number : ℕ) → None ≡ slice_get xs number → length xs ≤ number
none_past [] number is = omega arith
none_past (x ∷ xs) zero is = cc
none_past (x ∷ xs) (suc number) is = let later = none_past xs number is in omega (arith, later)

-- ---- all that there is

front_get : {X : Type 0} (xs : List X) (n k : ℕ) → k < length (take n xs) → slice_get (take n xs) k ≡ slice_get xs k
front_get [] zero k below = absurd (omega (arith, below))
front_get [] (suc n) k below = absurd (omega (arith, below))
front_get (x ∷ xs) zero k below = absurd (omega (arith, below))
front_get (x ∷ xs) (suc n) zero below = refl
front_get (x ∷ xs) (suc n) (suc k) below = front_get xs n k (omega (arith, below))

pub seats_all : (stored : Stored) → (mark : Option Mark) (old new : List Watch) → IsMore old new → AreSeatsUpTo stored mark old → SeatsSince stored mark new
    → SeatsAll stored.keys stored.net.domains new
seats_all stored None old new more is since = since
seats_all stored (Some mark) old new more is since = λ number place object domain at given single.
    elim (since.1 is.0 is.1 number (slice_get_within stored.keys number (Part place Object) at)) [
      | inl still ↦ number_more is.0.keys is.0.domains old new more number (is.2 number) place object domain (key_there number place still.0 at)
          (domain_there number domain still.0 still.1 given) single
      | inr among ↦ since.2 number among place object domain at given single
    ]
  where
    key_there : (number place : ℕ) → number < length is.0.keys → slice_get stored.keys number ≡ Some (Part place Object) → slice_get is.0.keys number ≡ Some (Part place Object)
    key_there number place below at =
        let front : is.0.keys ≡ take mark.variables stored.keys = is.1.keys.1 in
        ap (λ list. slice_get list number) front ∙ front_get stored.keys mark.variables number (subst (λ (list : List VarKey). number < length list) front below) ∙ at

    domain_there : (number : ℕ) (domain : Domain) → number < length is.0.keys → domain_at stored.net.domains number ≡ domain_at is.0.domains number
        → slice_get stored.net.domains number ≡ Some domain → slice_get is.0.domains number ≡ Some domain
    domain_there number domain below same given =
        let here : domain_at stored.net.domains number ≡ domain = get_or_from_slice_get stored.net.domains number domain (Range (pos 0) (pos 0)) given in
        let long = is.1.is.count in
        slice_get-get_or is.0.domains number (Range (pos 0) (pos 0)) (omega (arith, below, long)) ∙ ap Some (sym same ∙ here)
