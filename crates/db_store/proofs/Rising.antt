-- No stamp is less where a store has gone back to where it was.
use Rattle.std.proofs.Common.{◌≡◌, inl, inr, ℕ, ◌^◌, ◌<◌, ◌≤◌, length, slice_get, Some, refl, sym, ap, ◌∙◌, subst, arith}
use Rattle.std.proofs.lemmas.Option.{get_or_from_slice_get, slice_get_within}
use Rattle.std.specs.Prelude.{slice_index_or}
use Rattle.domain_core.specs.Domain.{Domain}
use Rattle.eu_name.specs.declared.name.VarName.{VarName}
use Rattle.cell_store.specs.Cells.{domain_at, FollowsDomain}
use Rattle.db_store.specs.declared.store.Mark.{Mark}
use Rattle.db_store.specs.Stamps.{HasStamp, StampsRise, FollowsLess}
use Rattle.db_store.specs.Stores.{Stored, Snapshot, snapshot_of, IsSnapshot, named_content, variable_names}
use Rattle.db_store.specs.StoreMarks.{IsStoreMark, KeepStoreMarks, GoesBackTo}
use Rattle.db_store.proofs.Following.{goes_on_same}
use Rattle.db_store.proofs.Naming.{names_are_once, names_have_one_number}

-- what falls and comes back has at least the stamp that it had
risen_back : (old middle new : Domain) (stamp between next : ℕ) → stamp < 2 ^ 64 → new ≡ old → FollowsLess old stamp middle between → FollowsDomain middle between new next → stamp ≤ next
risen_back old middle new stamp between next small back (inl on) (inl same) = omega (arith, on.1, same.1)
risen_back old middle new stamp between next small back (inl on) (inr other) = absurd (other.0 (back ∙ sym on.0))
risen_back old middle new stamp between next small back (inr (less, inl more)) (inl same) = omega (arith, more, same.1)
risen_back old middle new stamp between next small back (inr (less, inr most)) (inl same) = omega (arith, most, same.1, small)
risen_back old middle new stamp between next small back (inr (less, inl more)) (inr (apart, inl later)) = omega (arith, more, later)
risen_back old middle new stamp between next small back (inr (less, inr most)) (inr (apart, inl later)) = omega (arith, most, later, small)
risen_back old middle new stamp between next small back (inr (less, was)) (inr (apart, inr most)) = omega (arith, most, small)

some_same : {X : Type 0} (one other : X) → Some one ≡ Some other → one ≡ other
some_same one other same = cc same

module _ (old new : Stored) (again : snapshot_of new ≡ snapshot_of old) (is : IsSnapshot (snapshot_of old)) (name : VarName) (was now : Domain) (stamp next : ℕ)
    (before : HasStamp old name was stamp) (after : HasStamp new name now next) where
  -- the variable has the number that it had
  same_number : after.number ≡ before.number
  same_number =
      names_have_one_number (named_content (snapshot_of old)) name after.number before.number (names_are_once (snapshot_of old) is)
      (subst (λ (there : Snapshot). slice_get (variable_names there) after.number ≡ Some name) again after.named) before.named

  given_now : slice_get old.net.domains before.number ≡ Some now
  given_now = subst (λ number. slice_get old.net.domains number ≡ Some now) same_number
      (subst (λ (there : Snapshot). slice_get there.domains after.number ≡ Some now) again after.given)

  pub domain_same : now ≡ was
  domain_same = some_same now was (sym given_now ∙ before.given)

  pub written_now : slice_get new.net.stamps before.number ≡ Some next
  written_now = subst (λ number. slice_get new.net.stamps number ≡ Some next) same_number after.written

pub rise_back : (mark : Mark) (old middle new : Stored) → IsStoreMark old mark (snapshot_of old) → KeepStoreMarks old middle → GoesBackTo mark middle new → StampsRise old new
rise_back mark old middle new marked keep back name was now stamp next before after =
    let again : snapshot_of new ≡ snapshot_of old = back.again (snapshot_of old) (keep.marks mark (snapshot_of old) marked) in
    let number = before.number in
    let domains : new.net.domains ≡ old.net.domains = ap (λ (there : Snapshot). there.domains) again in
    let below = slice_get_within old.net.domains number was before.given in
    let on = (keep.stamps old (goes_on_same old)).each number below in
    let follow = back.net.cells.follow number (omega (arith, below, ap length domains)) in
    let written = written_now old new again marked.is name was now stamp next before after in
    let stood : slice_index_or old.net.stamps number 0 ≡ stamp = get_or_from_slice_get old.net.stamps number stamp 0 before.written in
    let stands : slice_index_or new.net.stamps number 0 ≡ next = get_or_from_slice_get new.net.stamps number next 0 written in
    let rises = risen_back (domain_at old.net.domains number) (domain_at middle.net.domains number) (domain_at new.net.domains number)
    (slice_index_or old.net.stamps number 0) (slice_index_or middle.net.stamps number 0) (slice_index_or new.net.stamps number 0)
    (let small = before.small in omega (arith, small, stood)) (ap (λ list. domain_at list number) domains) on follow in
    (domain_same old new again marked.is name was now stamp next before after, omega (arith, stood, stands, rises))

pub rise_same : (stored : Stored) → IsSnapshot (snapshot_of stored) → StampsRise stored stored
rise_same stored is name was now stamp next before after =
    let written = written_now stored stored refl is name was now stamp next before after in
    let same : next ≡ stamp = some_same next stamp (sym written ∙ before.written) in
    (domain_same stored stored refl is name was now stamp next before after, omega (arith, same))
