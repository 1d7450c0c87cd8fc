-- A store that stands for a list, as marks are set and gone back to.
use Rattle.std.proofs.Common.{◌≡◌, ℕ, zero, suc, ◌+◌, ◌-◌, ◌<◌, ◌≤◌, Bool, true, false, List, [], ◌∷◌, ◌++◌, ◌⊎◌, inl, inr, length, take, Some, refl, sym, ◌∙◌, ap, subst, arith}
use Rattle.std.specs.Prelude.{slice_get, Result, Ok, Err, OnErr}
use Rattle.std.specs.declared.alloc.AllocError.{AllocError}
use Rattle.std.proofs.lemmas.List.{length-take-le, length_push}
use Rattle.model_core.specs.declared.decision.Decision.{Decision}
use Rattle.model_core.specs.declared.model.Model.{Model}
use Rattle.eu_name.proofs.Members.{get_below}
use Rattle.eu_name.proofs.Places.{get_cases}
use Rattle.constraint_net.specs.Marks.{LeavesToDo, Returns}
use Rattle.constraint_net.specs.Networks.{Network, IsIdle}
use Rattle.db_fixpoint.specs.Turns.{OnlyMarks}
use Rattle.db_fixpoint.proofs.Sharing.{only_marked}
use Rattle.db_store.specs.declared.store.Mark.{Mark}
use Rattle.db_store.specs.Stamps.{HasStamp, FollowStamps, StampsRise}
use Rattle.db_store.specs.Stores.{Stored, snapshot_of}
use Rattle.db_store.specs.StoreMarks.{IsStoreMark, IsMarkBefore, IsIdleMark, CanGoBack, KeepStoreMarks, GoesBackTo, with_mark}
use Rattle.db_history.specs.declared.footing.Footing.{Footing}
use Rattle.db_history.specs.declared.footing.Footing.TheVariants.{Rest, Fallen, Void}
use Rattle.db_history.specs.Advancing.{IsLeastOf, but_last}
use Rattle.db_history.specs.Standing.{IsMarkOf, StandsForList, KeepsListOn}

-- ---- fronts of lists

pub get_front : {X : Type 0} (xs : List X) (n k : ℕ) (x : X) → slice_get (take n xs) k ≡ Some x → (k < n) × (slice_get xs k ≡ Some x)
get_front [] zero k x at = absurd (cc)
get_front [] (suc n) k x at = absurd (cc)
get_front (y ∷ xs) zero k x at = absurd (cc)
get_front (y ∷ xs) (suc n) zero x at = (omega arith, at)
get_front (y ∷ xs) (suc n) (suc k) x at = let rest = get_front xs n k x at in (omega (arith, rest.0), rest.1)

pub take_front : {X : Type 0} (xs : List X) (n k : ℕ) → k ≤ n → take k (take n xs) ≡ take k xs
take_front [] zero zero less = refl
take_front [] (suc n) zero less = refl
take_front [] zero (suc k) less = absurd (omega arith)
take_front [] (suc n) (suc k) less = refl
take_front (x ∷ xs) zero zero less = refl
take_front (x ∷ xs) (suc n) zero less = refl
take_front (x ∷ xs) zero (suc k) less = absurd (omega arith)
take_front (x ∷ xs) (suc n) (suc k) less = let rest = take_front xs n k (omega arith) in ap (λ list. x ∷ list) rest

pub take_whole : {X : Type 0} (xs : List X) (n : ℕ) → length xs ≤ n → take n xs ≡ xs
take_whole [] zero long = refl
take_whole [] (suc n) long = refl
take_whole (x ∷ xs) zero long = absurd (omega arith)
take_whole (x ∷ xs) (suc n) long = let rest = take_whole xs n (omega arith) in ap (λ list. x ∷ list) rest

pub on_err : {X : Type 0} (result : Result X AllocError) (P : Type 0) → P → OnErr result P
on_err (Ok value) P p = tt
on_err (Err none) P p = p

-- ---- a store that is marked

pub marked_here : (mark : Mark) (old new : Stored) → new ≡ with_mark old → IsStoreMark new mark (snapshot_of old) → IsStoreMark new mark (snapshot_of new)
marked_here mark old new is marked = subst (IsStoreMark new mark) (sym (ap snapshot_of is)) marked

-- ---- where nothing waits

pub idle_marked : (old new : Stored) → OnlyMarks old new → IsIdle old.net → IsIdle new.net
idle_marked old new only idle = subst (λ (stored : Stored). IsIdle stored.net) (sym only) (record { quiet = idle.quiet; heeded = idle.heeded })

to_do_marked : (idle : Bool) (old mid : Network) (marked : ℕ) → LeavesToDo idle old mid → LeavesToDo idle old (record mid { marked = marked })
to_do_marked true old mid marked is = record { quiet = is.quiet; heeded = is.heeded }
to_do_marked false old mid marked notes = notes

-- nothing waits after going back to where nothing waited
pub idle_back : (mark : Mark) (old new : Stored) → GoesBackTo mark old new → IsIdleMark mark → IsIdle new.net
idle_back mark old new back calm = subst (λ idle. LeavesToDo idle old.net new.net) calm back.net.to_do

-- a mark that is set where the store went back to leaves it there
pub marked_there : (mark : Mark) (old mid new : Stored) → GoesBackTo mark old mid → KeepStoreMarks mid new → new ≡ with_mark mid → GoesBackTo mark old new
marked_there mark old mid new back keep is = record {
  again = λ there was. ap snapshot_of is ∙ back.again there was;
  marks = λ earlier there before was. keep.marks earlier there (back.marks earlier there before was);
  stamps = subst (FollowStamps old) (sym is) (λ name was now stamp next before after.
      back.stamps name was now stamp next before (record { number = after.number; named = after.named; given = after.given; written = after.written; small = after.small }));
  net = subst (λ (stored : Stored). Returns mark.net old.net stored.net) (sym is) (record {
    cells = back.net.cells;
    constraints = back.net.constraints;
    tables = back.net.tables;
    work = back.net.work;
    marked = let count = back.net.cells.count in omega (arith, count);
    to_do = to_do_marked mark.net.idle old.net mid.net (length mid.net.older) back.net.to_do;
  });
}

module _ (model : Model) (decisions : List Decision) (marks : List Mark) where
  pub stands_marked : (old new : Stored) → OnlyMarks old new → KeepStoreMarks old new → StandsForList model decisions old marks → StandsForList model decisions new marks
  stands_marked old new only keep stands = record {
    here = subst (IsLeastOf model decisions) (sym (ap snapshot_of only)) stands.here;
    idle = idle_marked old new only stands.idle;
    count = stands.count;
    marked = λ k mark at. let was = stands.marked k mark at in (was.0, keep.marks mark was.0 was.1, was.2, was.3);
    order = stands.order;
  }

  -- as when its tokens were noted, and it was marked
  pub stands_caught : (old caught new : Stored) → OnlyMarks old caught → KeepStoreMarks old caught → new ≡ with_mark caught → KeepStoreMarks caught new
      → StandsForList model decisions old marks → StandsForList model decisions new marks
  stands_caught old caught new only keep is on stands = stands_marked caught new (only_marked caught new is) on (stands_marked old caught only keep stands)

  -- ---- going back

  pub gone_back : (old new : Stored) (number : ℕ) (mark : Mark) → StandsForList model decisions old marks → slice_get marks number ≡ Some mark → GoesBackTo mark old new
      → StandsForList model (take number decisions) new (take number marks)
  gone_back old new number mark stands at back =
      let there = stands.marked number mark at in
      let below = get_below marks number mark at in
      let long = length-take-le number marks (omega (arith, below)) in
      let other = length-take-le number decisions (omega (arith, below, stands.count)) in
      record {
        here = subst (IsLeastOf model (take number decisions)) (sym (back.again there.0 there.1)) there.2;
        idle = idle_back mark old new back there.3;
        count = long ∙ sym other;
        marked = λ k earlier at_k.
            let front = get_front marks number k earlier at_k in
            let was = stands.marked k earlier front.1 in (
              was.0,
              back.marks earlier was.0 (stands.order k number earlier mark front.0 front.1 at) was.1,
              subst (λ list. IsLeastOf model list was.0) (sym (take_front decisions number k (omega (arith, front.0)))) was.2,
              was.3,
            );
        order = λ one other mark later less at_one at_other.
            stands.order one other mark later less (get_front marks number one mark at_one).1 (get_front marks number other later at_other).1;
      }

  -- ---- one decision more

  module _ (old mid : Stored) (mark : Mark) (stands : StandsForList model decisions old marks) (keep : KeepStoreMarks old mid) (is : IsStoreMark old mark (snapshot_of old))
      (latest : (earlier : Mark) → CanGoBack old earlier → IsMarkBefore earlier mark) (calm : IsIdleMark mark) where
    -- to which the store comes
    pub pushed : (longer : List Decision) → length longer ≡ length decisions + 1 → take (length decisions) longer ≡ decisions → IsLeastOf model longer (snapshot_of mid)
        → IsIdle mid.net → StandsForList model longer mid (marks ++ mark ∷ [])
    pushed longer long front least idle = record {
      here = least;
      idle = idle;
      count = length_push marks mark ∙ (let count = stands.count in omega arith);
      marked = λ k earlier at. marked_more k earlier (get_cases marks (mark ∷ []) k earlier at);
      order = λ one other earlier later less at_one at_other. ordered one other earlier later less (get_cases marks (mark ∷ []) one earlier at_one) (get_cases marks (mark ∷ []) other later at_other);
    }
      where
        front_of : (k : ℕ) → k ≤ length decisions → take k decisions ≡ take k longer
        front_of k below = ap (take k) (sym front) ∙ take_front longer (length decisions) k below

        Behind : ℕ → Mark → Type 0
        Behind k found = (slice_get marks k ≡ Some found) ⊎ ((n : ℕ) × (k ≡ length marks + n) × (slice_get (mark ∷ []) n ≡ Some found))

        one_only : (n : ℕ) (found : Mark) → slice_get (mark ∷ []) n ≡ Some found → (n ≡ 0) × (mark ≡ found)
        one_only zero found at = (refl, cc)
        one_only (suc n) found at = absurd (cc)

        marked_more : (k : ℕ) (earlier : Mark) → Behind k earlier → IsMarkOf model (take k longer) mid earlier
        marked_more k earlier (inl at) =
            let was = stands.marked k earlier at in
            let below = get_below marks k earlier at in
            (was.0, keep.marks earlier was.0 was.1, subst (λ list. IsLeastOf model list was.0) (front_of k (omega (arith, below, stands.count))) was.2, was.3)
        marked_more k earlier (inr (n, far, at)) =
            let only = one_only n earlier at in
            let place : length decisions ≡ k = omega (arith, far, only.0, stands.count) in
            subst (IsMarkOf model (take k longer) mid) only.1
            (subst (λ list. IsMarkOf model list mid mark) (sym front ∙ ap (λ number. take number longer) place) (snapshot_of old, keep.marks mark (snapshot_of old) is, stands.here, calm))

        ordered : (one other : ℕ) (earlier later : Mark) → one < other → Behind one earlier → Behind other later → IsMarkBefore earlier later
        ordered one other earlier later less (inl a) (inl b) = stands.order one other earlier later less a b
        ordered one other earlier later less (inl a) (inr (n, far, at)) =
            let was = stands.marked one earlier a in
            subst (IsMarkBefore earlier) (one_only n later at).1 (latest earlier (was.0, was.1))
        ordered one other earlier later less (inr (n, far, at)) (inl b) =
            let below = get_below marks other later b in absurd (omega (arith, less, far, below))
        ordered one other earlier later less (inr (n, far, at)) (inr (m, farther, here)) =
            let first = one_only n earlier at in let second = one_only m later here in absurd (omega (arith, less, far, farther, first.0, second.0))

    -- or from which it goes back
    pub kept_back : (new : Stored) → GoesBackTo mark mid new → StandsForList model decisions new marks
    kept_back new back = record {
      here = subst (IsLeastOf model decisions) (sym (back.again (snapshot_of old) (keep.marks mark (snapshot_of old) is))) stands.here;
      idle = idle_back mark mid new back calm;
      count = stands.count;
      marked = λ k earlier at.
          let was = stands.marked k earlier at in
          (was.0, back.marks earlier was.0 (latest earlier (was.0, was.1)) (keep.marks earlier was.0 was.1), was.2, was.3);
      order = stands.order;
    }

-- whatever a list stands for, a shorter front of it is gone back to
pub front_kept : (model : Model) (decisions : List Decision) (stored : Stored) (marks : List Mark) (footing : Footing) (number : ℕ) (new : Stored) (left : List Mark)
    → ((longer : List Decision) → StandsForList model longer stored marks → number ≤ length longer → StandsForList model (take number longer) new left)
    → KeepsListOn model decisions stored marks footing → number < length decisions → StandsForList model (take number decisions) new left
front_kept model decisions stored marks Rest number new left back kept less = back decisions kept (omega (arith, less))
front_kept model decisions stored marks Fallen number new left back kept less =
    let front = length-take-le (length decisions - 1) decisions (omega arith) in
    subst (λ list. StandsForList model list new left) (take_front decisions (length decisions - 1) number (omega (arith, less)))
    (back (but_last decisions) kept.0 (omega (arith, less, front)))
front_kept model decisions stored marks Void number new left back kept less = absurd (omega (arith, less, ap length kept.0))

-- ---- stamps where the store is back

-- marks make no difference to stamps
pub rise_marked : (old caught new : Stored) → OnlyMarks old caught → StampsRise caught new → StampsRise old new
rise_marked old caught new only rises name was now stamp next before after =
    rises name was now stamp next
    (subst (λ (stored : Stored). HasStamp stored name was stamp) (sym only)
    (record { number = before.number; named = before.named; given = before.given; written = before.written; small = before.small })) after

pub marked_rise : (old caught : Stored) → OnlyMarks old caught → StampsRise old old → StampsRise old caught
marked_rise old caught only rises = subst (StampsRise old) (sym only) (λ name was now stamp next before after.
    rises name was now stamp next before
    (record { number = after.number; named = after.named; given = after.given; written = after.written; small = after.small }))
