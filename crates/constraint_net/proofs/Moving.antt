-- Cells that move while domains get smaller.
use Rattle.std.proofs.Common.{◌≡◌, ℕ, zero, suc, ◌+◌, ◌-◌, ◌^◌, ◌<◌, min, List, [], ◌∷◌, ◌++◌, length, take, drop, get_or, set, ◌⊎◌, inl, inr, pos, Some, slice_get, length-append, refl, sym, ap, ◌∙◌, subst, arith}
use Rattle.std.specs.Prelude.{All, Contains, Result, Ok, Err, IfSome}
use Rattle.std.specs.declared.alloc.AllocError.{AllocError}
use Rattle.std.proofs.lemmas.List.{length-set, length-drop, take-append-drop, set-get_or, get_or-set_same, get_or-set_other}
use Rattle.std.proofs.Math.Seq.{drop-append_seam}
use Rattle.std.proofs.lemmas.Bool.{cases_eq, cases_lt}
use Rattle.std.proofs.lemmas.Option.{slice_get-get_or}
use Rattle.domain_core.specs.Domain.{Domain, Range, IsDomain, IsSameKind, slack}
use Rattle.domain_core.specs.declared.Change.{Change}
use Rattle.domain_core.specs.declared.Change.TheVariants.{Same, Smaller, Empty}
use Rattle.cell_store.specs.Cells.{Celled, present, domain_at, KeepsPast, WritesCell, FollowsDomain}
use Rattle.narrow_core.specs.Laws.{LieWithin}
use Rattle.constraint_net.specs.Limits.{LimitsAt, LimitsCell}
use Rattle.constraint_net.specs.Moves.{IsSound, FollowsDown, Sinks, SinksAt}
use Rattle.constraint_net.specs.Steps.{Advances, AdvancesTo, StepsTo, LiesIn}
use Rattle.constraint_net.specs.declared.constraint.NetArg.{NetArg}
use Rattle.constraint_net.specs.declared.constraint.NetArg.TheVariants.{Var}
use Rattle.constraint_net.proofs.Within.{within_length}
use Rattle.constraint_net.proofs.Advancing.{advances_refl}
use Rattle.constraint_net.proofs.Keeping.{keeps_common}

-- ---- what can be gone back to

-- two ends of one list that are as long are the same
pub same_end : {X : Type 0} (one other kept left : List X) → one ++ kept ≡ other ++ left → length kept ≡ length left → kept ≡ left
same_end one other kept left same long =
    let front : length one ≡ length other = omega (arith, length-append one kept, length-append other left, ap length same) in
    sym (drop-append_seam one kept) ∙ (λ i. drop (front i) (same i)) ∙ drop-append_seam other left

pub past_refl : (place : ℕ) (past : List (List Domain)) → place < length past → KeepsPast place past past
past_refl place past below =
    let count = length past - 1 - place in
    (take count past, take count past, drop count past, (sym (take-append-drop count past), (sym (take-append-drop count past), omega (arith, length-drop count past))))

pub past_trans : (place : ℕ) (old middle new : List (List Domain)) → KeepsPast place old middle → KeepsPast place middle new → KeepsPast place old new
past_trans place old middle new p q =
    let one = p.3 in
    let other = q.3 in
    let same = same_end p.1 q.0 p.2 q.2 (sym one.1.0 ∙ other.0) (one.1.1 ∙ sym other.1.1) in
    (p.0, q.1, p.2, (one.0, (other.1.0 ∙ ap (λ list. q.1 ++ list) (sym same), one.1.1)))

past_below : (place : ℕ) (old new : List (List Domain)) → KeepsPast place old new → place < length new
past_below place old new p = omega (arith, ap length p.3.1.0, length-append p.1 p.2, p.3.1.1)

-- ---- stamps

pub follow_trans : (old middle new : Domain) (stamp mid next : ℕ) → FollowsDown old stamp middle mid → FollowsDown middle mid new next → FollowsDown old stamp new next
follow_trans old middle new stamp mid next (inl p) (inl q) = inl (q.0 ∙ p.0, q.1 ∙ p.1)
follow_trans old middle new stamp mid next (inl p) (inr q) = inr (omega (arith, q.0, ap slack p.0), (q.1.0, omega (arith, q.1.1, p.1)))
follow_trans old middle new stamp mid next (inr p) (inl q) = inr (omega (arith, p.0, ap slack q.0), (p.1.0, omega (arith, p.1.1, q.1)))
follow_trans old middle new stamp mid next (inr p) (inr q) = inr (omega (arith, p.0, q.0), (p.1.0 + 1 + q.1.0, omega (arith, p.1.1, q.1.1)))

-- a stamp that follows on the way down follows
pub follows : (old new : Domain) (stamp next : ℕ) → FollowsDown old stamp new next → FollowsDomain old stamp new next
follows old new stamp next (inl p) = inl p
follows old new stamp next (inr p) = inr ((λ same. absurd (omega (arith, p.0, ap slack same))), risen stamp next p.1.0 p.1.1)
  where
    risen : (stamp next writes : ℕ) → next ≡ min (stamp + 1 + writes) (2 ^ 64 - 1) → (stamp < next) ⊎ (next ≡ 2 ^ 64 - 1)
    risen stamp next writes is = elim (cases_lt (stamp + 1 + writes) (2 ^ 64 - 1)) [
      | inl low ↦ inl (omega (arith, is, low))
      | inr high ↦ inr (omega (arith, is, high))
    ]

-- ---- steps

pub sinks_refl : (since : ℕ) (cells : Celled) → since < length cells.past → Sinks since cells cells
sinks_refl since cells below = record { past = past_refl since cells.past below; stamps = refl; follow = λ cell. inl (refl, refl) }

pub sinks_trans : (since : ℕ) (old middle new : Celled) → Sinks since old middle → Sinks since middle new → Sinks since old new
sinks_trans since old middle new p q = record {
  past = past_trans since old.past middle.past new.past p.past q.past;
  stamps = q.stamps ∙ p.stamps;
  follow = λ cell. follow_trans (domain_at (present old) cell) (domain_at (present middle) cell) (domain_at (present new) cell)
      (get_or old.stamps cell 0) (get_or middle.stamps cell 0) (get_or new.stamps cell 0) (p.follow cell) (q.follow cell);
}

pub at_refl : (args : List NetArg) (since : ℕ) (cells : Celled) → since < length cells.past → SinksAt args since cells cells
at_refl args since cells below = record { sinks = sinks_refl since cells below; others = λ cell apart. refl }

pub at_trans : (args : List NetArg) (since : ℕ) (old middle new : Celled) → SinksAt args since old middle → SinksAt args since middle new → SinksAt args since old new
at_trans args since old middle new p q = record { sinks = sinks_trans since old middle new p.sinks q.sinks; others = λ cell apart. q.others cell apart ∙ p.others cell apart }

-- what one argument names is named by all
pub at_more : (args : List NetArg) (arg : NetArg) (since : ℕ) (old new : Celled) → Contains args arg → SinksAt (arg ∷ []) since old new → SinksAt args since old new
at_more args arg since old new member p = record {
  sinks = p.sinks;
  others = λ cell apart. p.others cell (λ named. apart (one_of cell named));
}
  where
    one_of : (cell : ℕ) → Contains (arg ∷ []) (Var cell) → Contains args (Var cell)
    one_of cell (zero, below, is) = subst (Contains args) is member
    one_of cell (suc k, below, is) = absurd (omega (arith, below))

-- what some arguments name others name
pub at_weaker : (one other : List NetArg) (since : ℕ) (old new : Celled) → ((cell : ℕ) → Contains one (Var cell) → Contains other (Var cell)) → SinksAt one since old new → SinksAt other since old new
at_weaker one other since old new named p = record { sinks = p.sinks; others = λ cell apart. p.others cell (λ member. apart (named cell member)) }

-- of three arguments the first and the last
pub at_outer : (x factor z : NetArg) (since : ℕ) (old new : Celled) → SinksAt (x ∷ z ∷ []) since old new → SinksAt (x ∷ factor ∷ z ∷ []) since old new
at_outer x factor z since old new = at_weaker (x ∷ z ∷ []) (x ∷ factor ∷ z ∷ []) since old new outer
  where
    outer : (cell : ℕ) → Contains (x ∷ z ∷ []) (Var cell) → Contains (x ∷ factor ∷ z ∷ []) (Var cell)
    outer cell (zero, below, is) = (0, omega arith, is)
    outer cell (suc zero, below, is) = (2, omega arith, is)
    outer cell (suc (suc k), below, is) = absurd (omega (arith, below))

pub sound_along : (since : ℕ) (old new : Celled) → IsSound since old → Sinks since old new → LieWithin (present new) (present old) → All IsDomain (present new) → IsSound since new
sound_along since old new sound sinks within are = record {
  place = past_below since old.past new.past sinks.past;
  are = are;
  stamps = omega (arith, sinks.stamps, sound.stamps, within_length (present new) (present old) within);
}

-- ---- one cell

module _ (variable : ℕ) (to : Domain) (since : ℕ) (old new : Celled) where
  written : WritesCell variable to since old new → variable < length (present old) → variable < length old.stamps → SinksAt (Var variable ∷ []) since old new
  written w exists stamped_too = record {
    sinks = record {
      past = w.past;
      stamps = ap length w.stamps ∙ length-set old.stamps variable _;
      follow = λ cell. elim (cases_eq cell variable) [
        | inl same ↦ subst (λ n. FollowsDown (domain_at (present old) n) (get_or old.stamps n 0) (domain_at (present new) n) (get_or new.stamps n 0)) (sym same)
            (subst (λ d. FollowsDown (domain_at (present old) variable) (get_or old.stamps variable 0) d (get_or new.stamps variable 0))
            (sym (ap (λ list. domain_at list variable) w.domains ∙ get_or-set_same (present old) variable w.left (Range (pos 0) (pos 0)) exists))
            (inr (w.kept.1, (0, ap (λ list. get_or list variable 0) w.stamps ∙ get_or-set_same old.stamps variable _ 0 stamped_too ∙ omega arith))))
        | inr apart ↦ inl (
          ap (λ list. domain_at list cell) w.domains ∙ get_or-set_other (present old) variable cell w.left (Range (pos 0) (pos 0)) apart,
          ap (λ list. get_or list cell 0) w.stamps ∙ get_or-set_other old.stamps variable cell _ 0 apart,
        )
      ];
    };
    others = λ cell apart.
        ap (λ list. domain_at list cell) w.domains
        ∙ get_or-set_other (present old) variable cell w.left (Range (pos 0) (pos 0)) (λ same. apart (0, omega arith, ap Var (sym same)));
  }

  pub sinks_cell : (result : Result Change AllocError) → IsSound since old → variable < length (present old) → LimitsCell variable to since old result new → SinksAt (Var variable ∷ []) since old new
  sinks_cell (Ok Same) sound exists limits = subst (SinksAt (Var variable ∷ []) since old) (sym limits.narrows.0) (at_refl (Var variable ∷ []) since old sound.place)
  sinks_cell (Ok Smaller) sound exists limits = written limits.narrows exists (omega (arith, exists, sound.stamps))
  sinks_cell (Ok Empty) sound exists limits = subst (SinksAt (Var variable ∷ []) since old) (sym limits.narrows.0) (at_refl (Var variable ∷ []) since old sound.place)
  sinks_cell (Err none) sound exists limits = subst (SinksAt (Var variable ∷ []) since old) (sym limits.narrows) (at_refl (Var variable ∷ []) since old sound.place)

  abbrev was : Domain
  was = domain_at (present old) variable

  same_list : new ≡ old → present new ≡ set (present old) variable was
  same_list same = ap present same ∙ sym (set-get_or (present old) variable (Range (pos 0) (pos 0)))

  is_left : (left : Domain) → variable < length (present old) → present new ≡ set (present old) variable left → IfSome (slice_get (present new) variable) IsDomain → IsDomain left
  is_left left exists others is =
      let long = length-set (present old) variable left in
      let found : slice_get (present new) variable ≡ Some left =
      ap (λ list. slice_get list variable) others ∙ slice_get-get_or (set (present old) variable left) variable (Range (pos 0) (pos 0)) (omega (arith, exists, long))
      ∙ ap Some (get_or-set_same (present old) variable left (Range (pos 0) (pos 0)) exists) in
      subst (λ some. IfSome some IsDomain) found is

  pub limit_at : (change : Change) → All IsDomain (present old) → variable < length (present old) → LimitsCell variable to since old (Ok change) new → LimitsAt (present old) variable to change (present new)
  limit_at Same are exists limits = record { left = was; is = are variable (Range (pos 0) (pos 0)) exists; kept = limits.narrows.1; others = same_list limits.narrows.0 }
  limit_at Smaller are exists limits =
      let w = limits.narrows in
      record { left = w.left; is = is_left w.left exists w.domains limits.is; kept = w.kept; others = w.domains }
  limit_at Empty are exists limits = record { left = was; is = are variable (Range (pos 0) (pos 0)) exists; kept = limits.narrows.1; others = same_list limits.narrows.0 }

  pub steps_cell : (result : Result Change AllocError) → All IsDomain (present old) → variable < length (present old) → IsSameKind to was → LimitsCell variable to since old result new
      → StepsTo (LiesIn (Var variable) to) (present old) result (present new)
  steps_cell (Ok change) are exists kind limits =
      let one = limit_at change are exists limits in
      subst (AdvancesTo (LiesIn (Var variable) to) (present old) change) (sym one.others)
      (keeps_common (present old) variable to one.left are exists change one.is kind one.kept)
  steps_cell (Err none) are exists kind limits = subst (Advances (LiesIn (Var variable) to) (present old)) (sym (ap present limits.narrows)) (advances_refl (LiesIn (Var variable) to) (present old) are)
