-- Decisions that are taken and taken back, and the turns by which a list is reduced to its conflict.
use Rattle.std.proofs.Common.{◌≡◌, ℕ, zero, suc, ◌+◌, ◌<◌, Bool, true, false, List, [], ◌∷◌, ◌++◌, length, take, get_or, Vec, Result, Ok, Err, inl, inr, refl, sym, ap, ◌∙◌, subst, arith}
use Rattle.std.specs.Prelude.{OnOk, IfOk, IsErr, MatchResult}
use Rattle.std.specs.Global.{Global}
use Rattle.std.specs.declared.alloc.AllocError.{AllocError}
use Rattle.std.proofs.lemmas.List.{take_more}
use Rattle.std.proofs.lemmas.Result.{IfOk-from_err}
use Rattle.model_core.specs.declared.decision.Decision.{Decision}
use Rattle.model_core.specs.declared.model.Model.{Model}
use Rattle.model_core.specs.History.{History, standing, accepted}
use Rattle.plan_defs.specs.Refusals.{IsAdmissible}
use Rattle.plan_defs.specs.Settling.{SettlesAfter, Settles, SettlesToCollapse, SettlesToLeast, ReducesTo, IsConflict}
use Rattle.db_history.specs.Standing.{Stood, KeepsList}
use Rattle.db_history.specs.Kept.{KeepsHistory, LeaveState, WithdrawsLast}
use Rattle.db_history.proofs.Fronts.{settles_both}
use Rattle.conflict_core.specs.Turns.{GrownBy, GoesOnBy, LeavesBehind, ReducesTurn}

-- ---- going on

-- decisions that were taken since, and more since then
grown_both : (number more : ℕ) (first middle last : History) → GrownBy number first middle → GrownBy more middle last
    → (all : ℕ) × GrownBy all first last
grown_both number zero first middle last grown same = (number, subst (GrownBy number first) (sym same) grown)
grown_both number (suc more) first middle last grown later =
    let rest = grown_both number more first middle later.0 grown later.3 in
    (suc rest.0, (later.0, later.1, later.2, rest.1))

-- each made the history longer by one list
pub grown_length : (number : ℕ) (old new : History) → GrownBy number old new → length new ≡ number + length old
grown_length zero old new same = omega (arith, ap length same)
grown_length (suc number) old new grown =
    omega (arith, ap length grown.2, grown_length number old grown.0 grown.3)

module _ (model : Model) where
  pub goes_both : (old middle new : History) (one other : List Decision)
      → GoesOnBy model old one middle → GoesOnBy model middle other new → GoesOnBy model old (one ++ other) new
  goes_both old middle new one other first second =
      let grown = grown_both first.number second.number old middle new first.grown second.grown in
      record {
        settles = settles_both model (standing old) one other (standing middle) (standing new) first.settles second.settles;
        number = grown.0;
        grown = grown.1;
      }

  -- so it is with one more of the list
  pub goes_pushed : (decisions : List Decision) (place : ℕ) (item : Decision) (old middle new : History)
      → place < length decisions → item ≡ get_or decisions place item
      → GoesOnBy model old (take place decisions) middle → GoesOnBy model middle (item ∷ []) new
      → GoesOnBy model old (take (place + 1) decisions) new
  goes_pushed decisions place item old middle new within is first second =
      let next : take (place + 1) decisions ≡ take place decisions ++ item ∷ [] =
      take_more decisions place item within ∙ ap (λ (d : Decision). take place decisions ++ d ∷ []) (sym is) in
      subst (λ (list : List Decision). GoesOnBy model old list new) (sym next)
      (goes_both old middle new (take place decisions) (item ∷ []) first second)

  -- a decision that is taken stands at the end, and one that isn't changes nothing
  pub goes_taken : (old new : History) (decision : Decision) → IsAdmissible model (standing old) decision → new ≡ accepted old decision
      → GoesOnBy model old (decision ∷ []) new
  goes_taken old new decision admissible is = record {
    settles = inl (admissible, ap (λ (history : History). standing history) is);
    number = 1;
    grown = (old, decision, is, refl);
  }

  pub goes_left : (history : History) (decision : Decision) → (IsAdmissible model (standing history) decision → ⊥)
      → GoesOnBy model history (decision ∷ []) history
  goes_left history decision hindered = record { settles = inr (hindered, refl); number = 0; grown = refl }

-- ---- going back

module _ (model : Model) (number : ℕ) (former old new : History) (old_stood stood : Stood) where
  -- one decision fewer was taken since
  pub taken_back : (answer : Bool) → GrownBy (suc number) former old → WithdrawsLast model old old_stood answer new stood
      → GrownBy number former new × KeepsHistory model new stood
  taken_back true grown goes =
      let same : (standing grown.0 ++ grown.1 ∷ []) ∷ grown.0 ≡ (standing new ++ goes.0 ∷ []) ∷ new = sym grown.2 ∙ goes.1 in
      let rest : grown.0 ≡ new = cc in
      (subst (GrownBy number former) rest grown.3, goes.2)
  taken_back false grown goes = absurd (goes.2 grown.0 grown.1 grown.2)

-- ---- turns

-- what can be kept of a list whose front leaves these, by what can be kept behind them
collapses : (model : Model) (front kept behind : List Decision) → Settles model front kept → LeavesBehind model kept behind false
    → SettlesToCollapse model (front ++ behind)
collapses model front kept behind settles leaves =
    (leaves.0, settles_both model [] front behind kept leaves.0 settles leaves.1, leaves.2)

leaves_least : (model : Model) (front kept behind : List Decision) → Settles model front kept → LeavesBehind model kept behind true
    → SettlesToLeast model (front ++ behind)
leaves_least model front kept behind settles leaves =
    (leaves.0, settles_both model [] front behind kept leaves.0 settles leaves.1, leaves.2)

-- a list of no length has nothing in it
pub none_left : (list : List Decision) → length list ≡ 0 → list ≡ []
none_left [] none = refl
none_left (decision ∷ list) none = absurd (omega (arith, none))

-- some front leaves what is kept, and whatever it is reduced to with the rest, the whole list is reduced to
pub record ReducesBy (model : Model) (decisions kept rest : List Decision) : Type 0 where
  pub front : List Decision
  pub settles : Settles model front kept
  pub reduces : (conflict : List Decision) → ReducesTo model front rest conflict → ReducesTo model [] decisions conflict

module _ (model : Model) (decisions : List Decision) where
  pub reduces_none : ReducesBy model decisions [] decisions
  reduces_none = record { front = []; settles = refl; reduces = λ conflict reduced. reduced }

  pub reduces_on : (kept new rest behind : List Decision) (decision : Decision) → rest ≡ decision ∷ behind
      → ReducesBy model decisions kept rest → ReducesTurn model kept decision behind new → ReducesBy model decisions new behind
  reduces_on kept new rest behind decision is by (inl left) = record {
    front = by.front;
    settles = subst (Settles model by.front) (sym left.1) by.settles;
    reduces = λ conflict reduced. by.reduces conflict (subst (λ (list : List Decision). ReducesTo model by.front list conflict) (sym is)
        (inl (collapses model by.front kept behind by.settles left.0, reduced)));
  }
  reduces_on kept new rest behind decision is by (inr stays) = record {
    front = by.front ++ decision ∷ [];
    settles = settles_both model [] by.front (decision ∷ []) kept new by.settles stays.1;
    reduces = λ conflict reduced. by.reduces conflict (subst (λ (list : List Decision). ReducesTo model by.front list conflict) (sym is)
        (inr (leaves_least model by.front kept behind by.settles stays.0, reduced)));
  }

  pub reduces_all : (kept rest : List Decision) → rest ≡ [] → ReducesBy model decisions kept rest → ReducesTo model [] decisions kept
  reduces_all kept rest none by =
      by.reduces kept (subst (λ (list : List Decision). ReducesTo model by.front list kept) (sym none) by.settles)

-- whether what was taken leaves something
pub leaves_behind : (model : Model) (kept decisions settled : List Decision) (fit : Bool) → SettlesAfter model kept decisions settled → LeaveState model settled fit
    → LeavesBehind model kept decisions fit
leaves_behind model kept decisions settled true settles least = (settled, settles, least)
leaves_behind model kept decisions settled false settles collapsed = (settled, settles, collapsed)

-- a turn in which the decision is left out, and one in which it is taken if it may be
module _ (model : Model) (old middle new : History) (decision : Decision) (behind : List Decision) (fit : Bool)
    (leaves : LeavesBehind model (standing old) behind fit) (same : middle ≡ old) where
  pub turn_left : fit ≡ false → ReducesTurn model (standing old) decision behind (standing middle)
  turn_left none =
      inl (subst (LeavesBehind model (standing old) behind) none leaves, ap (λ (history : History). standing history) same)

  pub turn_taken : fit ≡ true → GoesOnBy model middle (decision ∷ []) new → ReducesTurn model (standing old) decision behind (standing new)
  turn_taken some on =
      inr (
        subst (LeavesBehind model (standing old) behind) some leaves,
        subst (λ (history : History). SettlesAfter model (standing history) (decision ∷ []) (standing new)) same on.settles,
      )

-- nothing was taken yet
pub begins : (model : Model) (history : History) (stood : Stood) → history ≡ [] ∷ [] → KeepsList model [] stood → KeepsHistory model history stood
begins model history stood is keeps = subst (λ (h : History). KeepsHistory model h stood) (sym is) (record { is_history = refl; list = keeps })

-- what was taken is handed on
pub taken_all : (model : Model) (decisions list : List Decision) (done : Result (Unit {0}) AllocError) (result : Result (Vec Decision Global) AllocError)
    → OnOk done (IsConflict model decisions list)
    → MatchResult done (λ _. IfOk result (λ taken. taken.items ≡ list)) (λ _. IsErr result)
    → IfOk result (λ conflict. IsConflict model decisions conflict.items)
taken_all model decisions list (Ok done) (Ok taken) is same = subst (IsConflict model decisions) (sym same) is
taken_all model decisions list (Ok done) (Err none) is same = tt
taken_all model decisions list (Err none) result is failed = IfOk-from_err result (λ conflict. IsConflict model decisions conflict.items) failed
