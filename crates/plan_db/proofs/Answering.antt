-- What the calls answer, by what is kept.
use Rattle.std.proofs.Common.{◌≡◌, ℕ, ◌<◌, zero, suc, Bool, true, false, List, [], ◌∷◌, ◌++◌, length, ◌⊎◌, inl, inr, Result, Some, None, Ok, Err, refl, sym, ap, ◌∙◌, subst, arith}
use Rattle.std.specs.Prelude.{slice_get, Contains, Option, MatchBool, MatchOption, MatchResult}
use Rattle.eu_name.specs.declared.name.VarName.{VarName}
use Rattle.domain_core.specs.Domain.{Domain}
use Rattle.model_core.specs.declared.decision.Decision.{Decision}
use Rattle.model_core.specs.declared.model.Model.{Model}
use Rattle.model_core.specs.History.{History, standing, accepted}
use Rattle.model_core.specs.State.{State, Gives}
use Rattle.plan_defs.specs.Closure.{IsLeast, IsCollapsed}
use Rattle.plan_defs.specs.History.{IsHistory}
use Rattle.eu_name.proofs.Members.{contains_from_get, get_below, get_same}
use Rattle.model_core.specs.declared.refusal.Refusal.TheVariants as reasons
use Rattle.db_posting.specs.Counting.{AreTokenStates}
use Rattle.db_store.specs.Stores.{Stored, snapshot_of}
use Rattle.db_refusals.specs.Seeing.{Seen, seen_state}
use Rattle.db_history.specs.declared.footing.Footing.TheVariants.{Rest}
use Rattle.db_history.specs.Standing.{Stood, KeepsList}
use Rattle.db_history.proofs.Keeping.{least_kept}
use Rattle.db_history.specs.declared.objection.Objection.{Objection}
use Rattle.db_history.specs.declared.objection.Objection.TheVariants.{Collapsed, Refused}
use Rattle.db_history.specs.declared.subject.Subject.{Subject}
use Rattle.db_history.specs.Kept.{KeepsHistory, KeepsUnless, LeaveState, IsJudged, WithdrawsLast}
use Rattle.db_history.specs.Subjects.{IsOfSubject, TakesOutAt}
use Rattle.plan_db.specs.declared.fault.DbFault.{DbFault}
use Rattle.plan_db.specs.declared.fault.DbFault.TheVariants as fault
use Rattle.plan_db.specs.declared.fault.Outcome.{Outcome}
use Rattle.plan_db.specs.declared.fault.Outcome.TheVariants.{Consistent}
use Rattle.plan_db.specs.declared.fault.QueryFault.{QueryFault}
use Rattle.plan_db.specs.declared.fault.QueryFault.TheVariants as query
use Rattle.plan_db.specs.Faults.{fault_of}
use Rattle.plan_db.specs.Database.{Database, taken_in, OutcomeIs, outcome_for, Applies, TakesBack, Backtracks, Resets, HasFormer, HasDecisionOn, TakesOutOn, IsTold, IsUntold}
use Rattle.plan_db.specs.Answers.{Held, KeepsDatabase, ready_with, StaysReady, StaysSame, AnswersApply, AnswersReset, AnswersUndo, AnswersBacktrack, AnswersDomain, AnswersNothing, AnswersStamp, AnswersNoStamp, IsSeen, IsUnseen}
use Rattle.plan_db.specs.Stamps.{Stamped, stamps_of, IsStampedAs, KeepsIfRefused}
use Rattle.plan_db.specs.declared.edges.EdgeFault.{EdgeFault}
use Rattle.plan_db.specs.declared.edges.EdgeFault.TheVariants as edge
use Rattle.plan_db.specs.Edges.{HasEdges, HasNoEdges, AnswersEdges, AnswersNoEdges}
use Rattle.db_edges.specs.declared.edge.NamedEdge.{NamedEdge}

-- an objection is why the decision is refused
pub refused_as : (model : Model) (history : History) (decision : Decision) (objection : Objection) → IsJudged model (standing history) decision (Err objection)
    → Applies (taken_in model history) decision (Err (fault_of objection)) (taken_in model history)
refused_as model history decision Collapsed collapsed = (refl, collapsed)
refused_as model history decision (Refused reasons.Unknown) refused = (refl, refused)
refused_as model history decision (Refused reasons.WrongType) refused = (refl, refused)
refused_as model history decision (Refused reasons.Decided) refused = (refl, refused)
refused_as model history decision (Refused reasons.NotInDomain) refused = (refl, refused)
refused_as model history decision (Refused reasons.NotActive) refused = (refl, refused)
refused_as model history decision (Refused reasons.NotSamePredicate) refused = (refl, refused)
refused_as model history decision (Refused reasons.NotRejectable) refused = (refl, refused)
refused_as model history decision (Refused reasons.SameToken) refused = (refl, refused)
refused_as model history decision (Refused reasons.ActiveFull) refused = (refl, refused)

-- and none is want of memory
pub never_memory : (objection : Objection) → fault_of objection ≡ fault.Memory → ⊥
never_memory Collapsed same = let here : fault.InInconsistent ≡ fault.Memory = same in cc
never_memory (Refused reasons.Unknown) same = let here : fault.Unknown ≡ fault.Memory = same in cc
never_memory (Refused reasons.WrongType) same = let here : fault.WrongType ≡ fault.Memory = same in cc
never_memory (Refused reasons.Decided) same = let here : fault.Decided ≡ fault.Memory = same in cc
never_memory (Refused reasons.NotInDomain) same = let here : fault.NotInDomain ≡ fault.Memory = same in cc
never_memory (Refused reasons.NotActive) same = let here : fault.NotActive ≡ fault.Memory = same in cc
never_memory (Refused reasons.NotSamePredicate) same = let here : fault.NotSamePredicate ≡ fault.Memory = same in cc
never_memory (Refused reasons.NotRejectable) same = let here : fault.NotRejectable ≡ fault.Memory = same in cc
never_memory (Refused reasons.SameToken) same = let here : fault.Same ≡ fault.Memory = same in cc
never_memory (Refused reasons.ActiveFull) same = let here : fault.ActiveFull ≡ fault.Memory = same in cc

pub same_fault : {X : Type 0} (result : Result X DbFault) (one other : DbFault) → result ≡ Err one → result ≡ Err other → one ≡ other
same_fault result one other is also = cc

-- the outcome that is answered is that of the decisions
pub outcome_fits : (database : Database) (fits : Bool) → LeaveState database.model (standing database.history) fits → OutcomeIs database (outcome_for fits)
outcome_fits database true least = least
outcome_fits database false collapsed = collapsed

-- ---- the last step

pub first_history : (model : Model) (history : History) → IsHistory model history → length history ≡ 1 → history ≡ [] ∷ []
first_history model [] is one = absurd is
first_history model (decisions ∷ []) is one = ap (λ list. list ∷ []) is
first_history model (decisions ∷ below ∷ former) is one = absurd (omega arith)

pub has_former : (history : History) → 1 < length history → HasFormer history
has_former [] long = absurd (omega (arith, long))
has_former (decisions ∷ []) long = absurd (omega (arith, long))
has_former (decisions ∷ below ∷ former) long = (below, (former, refl))

taken_off : (old new : History) (decision : Decision) → old ≡ accepted new decision → old ≡ standing old ∷ new
taken_off old new decision is = is ∙ ap (λ (list : List Decision). list ∷ new) (sym (ap (λ (h : History). standing h) is))

module _ (model : Model) (old new : History) (stood back : Stood) where
  pub withdrawn : WithdrawsLast model old stood true new back → TakesBack (taken_in model old) (Ok Consistent) (taken_in model new)
  withdrawn last = (refl, taken_off old new last.0 last.1, last.3)

  pub withdrawn_keeps : WithdrawsLast model old stood true new back → KeepsHistory model new back
  withdrawn_keeps last = last.2

  pub backtracked : WithdrawsLast model old stood true new back → Backtracks (taken_in model old) (Ok tt) (taken_in model new)
  backtracked last = (refl, (last.0, last.1), last.3)

  -- where the last step put no decision at the end all is as it was
  pub none_withdrawn : WithdrawsLast model old stood false new back → Backtracks (taken_in model old) (Err fault.Nothing) (taken_in model new)
  none_withdrawn none = (ap (taken_in model) none.0, λ ends. none.2 ends.0 ends.1.0 ends.1.1)

  pub still_keeps : WithdrawsLast model old stood false new back → KeepsHistory model old stood → KeepsHistory model new back
  still_keeps none keeps =
      subst (λ (h : History). KeepsHistory model h back) (sym none.0) (subst (KeepsHistory model old) (sym none.1) keeps)

  -- and then the list before the standing one is brought back
  pub brought_back : (last : History) (fits : Bool) → WithdrawsLast model old stood false new back → new ≡ standing new ∷ last → LeaveState model (standing last) fits
      → TakesBack (taken_in model old) (Ok (outcome_for fits)) (taken_in model last)
  brought_back last fits none off leaves =
      (refl, subst (λ (h : History). h ≡ standing h ∷ last) none.0 off, outcome_fits (taken_in model last) fits leaves)

  pub not_brought : (last : History) → WithdrawsLast model old stood false new back → last ≡ new → 1 < length old
      → TakesBack (taken_in model old) (Err fault.Memory) (taken_in model last)
  not_brought last none same long = (ap (taken_in model) (same ∙ none.0), has_former old long, λ ends. none.2 ends.0 ends.1.0 ends.1.1)

-- ---- taking a decision out

at_middle : {X : Type 0} (front back : List X) (x : X) (n : ℕ) → length front ≡ n → slice_get (front ++ x ∷ back) n ≡ Some x
at_middle [] back x zero same = refl
at_middle [] back x (suc n) same = absurd (omega (arith, same))
at_middle (y ∷ front) back x zero same = absurd (omega (arith, same))
at_middle (y ∷ front) back x (suc n) same = at_middle front back x n (omega (arith, same))

module _ (model : Model) (old new : History) (subject : Subject) (decisions : List Decision) (place : ℕ) (decision : Decision)
    (are : decisions ≡ standing old) (at : slice_get decisions place ≡ Some decision) (on : IsOfSubject subject decision) where
  at_old : slice_get (standing old) place ≡ Some decision
  at_old = subst (λ (list : List Decision). slice_get list place ≡ Some decision) are at

  pub place_within : place < length (standing old)
  place_within = get_below (standing old) place decision at_old

  pub has_on : HasDecisionOn (taken_in model old) subject
  has_on = (decision, contains_from_get (standing old) place decision at_old, on)

  takes_on : TakesOutAt model place (standing old) (standing new) → TakesOutOn model subject (standing old) (standing new)
  takes_on out =
      let there : slice_get (standing old) place ≡ Some out.decision =
      subst (λ (list : List Decision). slice_get list place ≡ Some out.decision) (sym out.parts) (at_middle out.front out.back out.decision place out.place_is) in
      record {
        front = out.front;
        decision = out.decision;
        back = out.back;
        parts = out.parts;
        on = subst (IsOfSubject subject) (get_same (standing old) place decision out.decision at_old there) on;
        settles = out.settles;
      }

  pub was_reset : (fits : Bool) → (new ≡ standing new ∷ old) × TakesOutAt model place (standing old) (standing new) → LeaveState model (standing new) fits
      → Resets (taken_in model old) subject (Ok (outcome_for fits)) (taken_in model new)
  was_reset fits told leaves = (refl, told.0, takes_on told.1, outcome_fits (taken_in model new) fits leaves)

  pub not_reset : new ≡ old → Resets (taken_in model old) subject (Err fault.Memory) (taken_in model new)
  not_reset same = (ap (taken_in model) same, has_on)

pub none_on : (model : Model) (old : History) (subject : Subject) (decisions : List Decision) → decisions ≡ standing old
    → ((decision : Decision) → Contains decisions decision → IsOfSubject subject decision → ⊥) → HasDecisionOn (taken_in model old) subject → ⊥
none_on model old subject decisions are none has = none has.0 (subst (λ (list : List Decision). Contains list has.0) (sym are) has.1) has.2

-- ---- what a database keeps

module _ (model : Model) (history : History) (behind : Bool) (stood : Stood) (keeps : KeepsDatabase model history behind stood) where
  pub ready_keeps : behind ≡ false → KeepsHistory model history stood
  ready_keeps ready = record { is_history = keeps.kept.is_history; list = keeps.kept.list ready }

pub keeps_ready : (model : Model) (history : History) (behind : Bool) (stood : Stood) → KeepsHistory model history stood → KeepsUnless behind model history stood
keeps_ready model history behind stood keeps = record { is_history = keeps.is_history; list = λ ready. keeps.list }

-- what is kept is let go only where it is behind
module _ (behind : Bool) (mid back : Stood) (same : behind ≡ false → back ≡ mid) where
  pub unless_let_go : (model : Model) (history : History) → KeepsUnless behind model history mid → KeepsUnless behind model history back
  unless_let_go model history keeps = record {
    is_history = keeps.is_history;
    list = λ ready. subst (KeepsList model (standing history)) (sym (same ready)) (keeps.list ready);
  }

  pub refused_kept : {X : Type 0} (result : Result X DbFault) (stood : Stood) → (result ≡ Err fault.Memory) ⊎ (behind ≡ false) → KeepsIfRefused result stood mid → KeepsIfRefused result stood back
  refused_kept result stood (inl wanting) keeps = subst (λ answer. KeepsIfRefused answer stood back) (sym wanting) tt
  refused_kept result stood (inr ready) keeps = subst (KeepsIfRefused result stood) (sym (same ready)) keeps

-- ---- what is told

module _ (model : Model) (history : History) (stood : Stood) (keeps : KeepsHistory model history stood) (rest : stood.footing ≡ Rest)
    (stored : Stored) (same : stored ≡ stood.stored) where
  least : IsLeast model (standing history) (seen_state stored)
  least = subst (λ (s : Stored). IsLeast model (standing history) (seen_state s)) (sym same) (least_kept model (standing history) stood keeps.list rest).least

  pub told_by_store : {D : Type 0} (name : VarName) (now : D → Domain) (result : Result D QueryFault)
      → MatchResult result (λ domain. Gives (seen_state stored) name (now domain))
      (λ f. (f ≡ query.Unknown) × ((domain : Domain) → Gives (seen_state stored) name domain → ⊥))
      → MatchResult result (λ domain. IsTold (taken_in model history) name (now domain)) (λ f. IsUntold (taken_in model history) name f)
  told_by_store name now (Ok domain) gives = (seen_state stored, least, gives)
  told_by_store name now (Err f) none = subst (IsUntold (taken_in model history) name) (sym none.0) (seen_state stored, least, none.1)

  pub can_be_seen : (decisions : List Decision) → decisions ≡ standing history → AreTokenStates model decisions (snapshot_of stored)
  can_be_seen decisions are =
      subst (λ (list : List Decision). AreTokenStates model list (snapshot_of stored)) (sym are)
      (subst (λ (s : Stored). AreTokenStates model (standing history) (snapshot_of s)) (sym same)
      (least_kept model (standing history) stood keeps.list rest).rest.underway.states)

  pub seen_by_store : (stamps : List Stamped) (decisions : List Decision) → decisions ≡ standing history → (view : Seen)
      → view ≡ record { model = model; stored = stored; decisions = decisions } → IsSeen (ready_with model history stamps) view
  seen_by_store stamps decisions are view is =
      subst (IsSeen (ready_with model history stamps)) (sym is) (record { ready = refl; model = refl; decisions = are; least = least })

-- where nothing of what is kept has changed, that is so of each answer
pub all_kept : {X : Type 0} (result : Result X DbFault) (stood : Stood) → KeepsIfRefused result stood stood
all_kept (Ok answer) stood = tt
all_kept (Err fault.Memory) stood = tt
all_kept (Err fault.Behind) stood = refl
all_kept (Err fault.NoSuchDecision) stood = refl
all_kept (Err fault.Nothing) stood = refl
all_kept (Err fault.InInconsistent) stood = refl
all_kept (Err fault.Unknown) stood = refl
all_kept (Err fault.WrongType) stood = refl
all_kept (Err fault.Decided) stood = refl
all_kept (Err fault.NotInDomain) stood = refl
all_kept (Err fault.NotActive) stood = refl
all_kept (Err fault.NotSamePredicate) stood = refl
all_kept (Err fault.NotRejectable) stood = refl
all_kept (Err fault.Same) stood = refl
all_kept (Err fault.ActiveFull) stood = refl

-- ---- the answers of a database, by whether it is behind

module _ (model : Model) (old new : History) (before after : Bool) (ready : before ≡ false) (stood back : Stood) where
  abbrev held_before : Held
  held_before = record { database = taken_in model old; behind = before; stamps = stamps_of stood }

  abbrev held_after : Held
  held_after = record { database = taken_in model new; behind = after; stamps = stamps_of back }

  stays_same : taken_in model new ≡ taken_in model old → after ≡ false → back ≡ stood → StaysSame held_before held_after
  stays_same same kept stays = record {
    before = ready;
    same = λ i. record { database = same i; behind = (kept ∙ sym ready) i; stamps = stamps_of (stays i) };
  }

  stays_ready : after ≡ false → StaysReady held_before held_after
  stays_ready kept = record { before = ready; after = kept }

  pub answers_apply : (decision : Decision) (result : Result Outcome DbFault) → after ≡ false → KeepsIfRefused result stood back
      → Applies (taken_in model old) decision result (taken_in model new) → AnswersApply held_before decision result held_after
  answers_apply decision (Ok outcome) kept same applies = (stays_ready kept, applies)
  answers_apply decision (Err fault.Behind) kept same applies = absurd applies
  answers_apply decision (Err fault.Memory) kept same applies = (stays_ready kept, applies)
  answers_apply decision (Err fault.NoSuchDecision) kept same applies = absurd applies
  answers_apply decision (Err fault.Nothing) kept same applies = absurd applies
  answers_apply decision (Err fault.InInconsistent) kept same applies = (stays_same applies.0 kept same, applies)
  answers_apply decision (Err fault.Unknown) kept same applies = (stays_same applies.0 kept same, applies)
  answers_apply decision (Err fault.WrongType) kept same applies = (stays_same applies.0 kept same, applies)
  answers_apply decision (Err fault.Decided) kept same applies = (stays_same applies.0 kept same, applies)
  answers_apply decision (Err fault.NotInDomain) kept same applies = (stays_same applies.0 kept same, applies)
  answers_apply decision (Err fault.NotActive) kept same applies = (stays_same applies.0 kept same, applies)
  answers_apply decision (Err fault.NotSamePredicate) kept same applies = (stays_same applies.0 kept same, applies)
  answers_apply decision (Err fault.NotRejectable) kept same applies = (stays_same applies.0 kept same, applies)
  answers_apply decision (Err fault.Same) kept same applies = (stays_same applies.0 kept same, applies)
  answers_apply decision (Err fault.ActiveFull) kept same applies = (stays_same applies.0 kept same, applies)

  after_by : (result : Result Outcome DbFault) → (result ≡ Err fault.Memory → ⊥) → (result ≡ Err fault.Memory) ⊎ (after ≡ false) → after ≡ false
  after_by result other (inl same) = absurd (other same)
  after_by result other (inr kept) = kept

  pub answers_undo : (result : Result Outcome DbFault) → (result ≡ Err fault.Memory) ⊎ (after ≡ false) → KeepsIfRefused result stood back
      → TakesBack (taken_in model old) result (taken_in model new) → AnswersUndo held_before result held_after
  answers_undo (Ok outcome) kept stays takes = (stays_ready (after_by (Ok outcome) (λ same. cc) kept), takes)
  answers_undo (Err fault.Nothing) kept stays takes = (stays_same takes.0 (after_by (Err fault.Nothing) (λ same. cc) kept) stays, takes)
  answers_undo (Err fault.Memory) kept stays takes = (ready, takes)
  answers_undo (Err other) kept stays takes = absurd takes

  pub answers_reset : (subject : Subject) (result : Result Outcome DbFault) → (result ≡ Err fault.Memory) ⊎ (after ≡ false) → KeepsIfRefused result stood back
      → Resets (taken_in model old) subject result (taken_in model new) → AnswersReset held_before subject result held_after
  answers_reset subject (Ok outcome) kept stays resets = (stays_ready (after_by (Ok outcome) (λ same. cc) kept), resets)
  answers_reset subject (Err fault.NoSuchDecision) kept stays resets = (stays_same resets.0 (after_by (Err fault.NoSuchDecision) (λ same. cc) kept) stays, resets)
  answers_reset subject (Err fault.Memory) kept stays resets = (ready, resets)
  answers_reset subject (Err other) kept stays resets = absurd resets

  pub answers_backtrack : (result : Result (Unit {0}) DbFault) → after ≡ false → KeepsIfRefused result stood back
      → Backtracks (taken_in model old) result (taken_in model new) → AnswersBacktrack held_before result held_after
  answers_backtrack (Ok done) kept stays takes = (stays_ready kept, takes)
  answers_backtrack (Err fault.Nothing) kept stays takes = (stays_same takes.0 kept stays, takes)
  answers_backtrack (Err other) kept stays takes = absurd takes

module _ (model : Model) (history : History) (behind : Bool) (ready : behind ≡ false) (stamps : List Stamped) where
  pub answers_domain : {D : Type 0} (name : VarName) (now : D → Domain) (result : Result D QueryFault)
      → MatchResult result (λ domain. IsTold (taken_in model history) name (now domain)) (λ f. IsUntold (taken_in model history) name f)
      → MatchResult result (λ domain. AnswersDomain (record { database = taken_in model history; behind = behind; stamps = stamps }) name (now domain))
      (λ f. AnswersNothing (record { database = taken_in model history; behind = behind; stamps = stamps }) name f)
  answers_domain name now (Ok domain) told = (ready, told)
  answers_domain name now (Err query.Behind) untold = absurd untold
  answers_domain name now (Err query.Inconsistent) untold = (ready, untold)
  answers_domain name now (Err query.Unknown) untold = (ready, untold)

  pub answers_view : {V : Type 0} (value : V → Seen) (result : Result V QueryFault)
      → MatchResult result (λ view. IsSeen (ready_with model history stamps) (value view)) (λ f. IsUnseen (ready_with model history stamps) f)
      → MatchResult result (λ view. IsSeen (record { database = taken_in model history; behind = behind; stamps = stamps }) (value view))
      (λ f. IsUnseen (record { database = taken_in model history; behind = behind; stamps = stamps }) f)
  answers_view value result seen =
      subst (λ (b : Bool). MatchResult result (λ view. IsSeen (record { database = taken_in model history; behind = b; stamps = stamps }) (value view))
      (λ f. IsUnseen (record { database = taken_in model history; behind = b; stamps = stamps }) f)) (sym ready) seen

  pub answers_stamp : (name : VarName) (found : Option ℕ)
      → MatchOption found ((fault : QueryFault) × IsUntold (taken_in model history) name fault)
      (λ stamp. (domain : Domain) × IsTold (taken_in model history) name domain × IsStampedAs stamps name domain stamp)
      → MatchOption found (AnswersNoStamp (record { database = taken_in model history; behind = behind; stamps = stamps }) name)
      (AnswersStamp (record { database = taken_in model history; behind = behind; stamps = stamps }) name)
  answers_stamp name (Some stamp) (domain, told, is) = (domain, (ready, told), is)
  answers_stamp name None (query.Behind, untold) = absurd untold
  answers_stamp name None (query.Inconsistent, untold) = (query.Inconsistent, (ready, untold))
  answers_stamp name None (query.Unknown, untold) = (query.Unknown, (ready, untold))

  pub answers_edges : {V : Type 0} (value : V → List NamedEdge) (result : Result V EdgeFault)
      → MatchResult result (λ edges. HasEdges (taken_in model history) (value edges)) (HasNoEdges (taken_in model history))
      → MatchResult result (λ edges. AnswersEdges (record { database = taken_in model history; behind = behind; stamps = stamps }) (value edges))
      (AnswersNoEdges (record { database = taken_in model history; behind = behind; stamps = stamps }))
  answers_edges value (Ok edges) has = (ready, has)
  answers_edges value (Err edge.Behind) none = absurd none
  answers_edges value (Err edge.Consistent) none = (ready, none)
  answers_edges value (Err edge.Memory) none = (ready, none)

-- whether the decisions leave something
pub leaves_or : (model : Model) (decisions : List Decision) (fits : Bool) → LeaveState model decisions fits
    → MatchBool fits ((state : State) × IsLeast model decisions state) (IsCollapsed model decisions)
leaves_or model decisions true least = least
leaves_or model decisions false collapsed = collapsed
