-- Decisions of a text that are taken one after another.
use Rattle.std.proofs.Common.{◌≡◌, ℕ, zero, suc, ◌+◌, ◌<◌, ◌≤◌, false, List, [], ◌∷◌, ◌++◌, length, take, get_or, slice_get, Option, Some, None, Result, Ok, Err, ◌⊎◌, inl, inr, refl, sym, ap, ◌∙◌, subst, arith}
use Rattle.std.specs.Prelude.{IfOk}
use Rattle.std.specs.declared.alloc.AllocError.{AllocError}
use Rattle.std.proofs.lemmas.List.{take_all, take_more}
use Rattle.std.proofs.lemmas.Option.{slice_get_cases, slice_get_within, get_or_from_slice_get}
use Rattle.model_core.specs.declared.decision.Decision.{Decision}
use Rattle.model_core.specs.declared.model.Model.{Model}
use Rattle.model_core.specs.declared.model.Placed.{Placed}
use Rattle.nddl_ast.specs.declared.kind.TextKind.{TextKind}
use Rattle.nddl_ast.specs.declared.kind.TextKind.TheVariants as kinds
use Rattle.model_core.specs.declared.refusal.Refusal.TheVariants.{Unknown, WrongType, Decided, NotInDomain, NotActive, NotSamePredicate, NotRejectable, SameToken, ActiveFull}
use Rattle.plan_db.specs.declared.fault.DbFault.{DbFault}
use Rattle.plan_db.specs.declared.fault.DbFault.TheVariants as fault
use Rattle.plan_db.specs.declared.fault.Outcome.{Outcome}
use Rattle.plan_db.specs.Answers.{Held, AnswersApply}
use Rattle.plan_db.specs.Database.{Database}
use Rattle.run_load.specs.declared.fault.PoseFault.{PoseFault}
use Rattle.run_load.specs.declared.fault.PoseFault.TheVariants as pose
use Rattle.run_load.specs.Posing.{with_step, TakesText, MayNotTake}
use Rattle.run_load.specs.Pieces.{IsSpokenBy, IsFaultOr, TakesUnless, TakesPlaced, TakesAll}

-- ---- one decision

-- what speaks against a decision that isn't taken
against_is : (against : Option TextKind) (kind : TextKind) (old new : Database) (decision : Decision) → against ≡ Some kind
    → MayNotTake old decision kind → new ≡ old → TakesUnless against old decision new
against_is against kind old new decision is wrong same = subst (λ a. TakesUnless a old decision new) (sym is) (wrong, same)

spoken : (old new : Held) (decision : Decision) (why : DbFault) (against : Option TextKind) → AnswersApply old decision (Err why) new
    → IsSpokenBy why against → TakesUnless against old.database decision new.database
spoken old new decision fault.InInconsistent against answers is =
    against_is against kinds.AfterConflict old.database new.database decision is answers.1.1 answers.1.0
spoken old new decision fault.Unknown against answers is =
    against_is against kinds.NotAdmissible old.database new.database decision is (Unknown, answers.1.1) answers.1.0
spoken old new decision fault.WrongType against answers is =
    against_is against kinds.NotAdmissible old.database new.database decision is (WrongType, answers.1.1) answers.1.0
spoken old new decision fault.Decided against answers is =
    against_is against kinds.NotAdmissible old.database new.database decision is (Decided, answers.1.1) answers.1.0
spoken old new decision fault.NotInDomain against answers is =
    against_is against kinds.NotAdmissible old.database new.database decision is (NotInDomain, answers.1.1) answers.1.0
spoken old new decision fault.NotActive against answers is =
    against_is against kinds.NotAdmissible old.database new.database decision is (NotActive, answers.1.1) answers.1.0
spoken old new decision fault.NotSamePredicate against answers is =
    against_is against kinds.NotAdmissible old.database new.database decision is (NotSamePredicate, answers.1.1) answers.1.0
spoken old new decision fault.NotRejectable against answers is =
    against_is against kinds.NotAdmissible old.database new.database decision is (NotRejectable, answers.1.1) answers.1.0
spoken old new decision fault.Same against answers is =
    against_is against kinds.NotAdmissible old.database new.database decision is (SameToken, answers.1.1) answers.1.0
spoken old new decision fault.ActiveFull against answers is =
    against_is against kinds.NotAdmissible old.database new.database decision is (ActiveFull, answers.1.1) answers.1.0
spoken old new decision why against answers is = absurd is

pub spoken_ok : (old new : Held) (decision : Decision) (why : DbFault) (answer : Result (Option TextKind) AllocError)
    → AnswersApply old decision (Err why) new → IfOk answer (IsSpokenBy why)
    → IfOk answer (λ against. TakesUnless against old.database decision new.database)
spoken_ok old new decision why (Ok against) answers is = spoken old new decision why against answers is
spoken_ok old new decision why (Err none) answers is = tt

-- a decision that isn't taken changes nothing but what is kept
refused_same : (old new : Held) (decision : Decision) (why : DbFault) → AnswersApply old decision (Err why) new
    → new.database ≡ old.database
refused_same old new decision fault.Behind answers = ap (λ (h : Held). h.database) answers.same
refused_same old new decision fault.Memory answers = answers.1.0
refused_same old new decision why answers = ap (λ (h : Held). h.database) answers.0.same

refused_ready : (old new : Held) (decision : Decision) (why : DbFault) → AnswersApply old decision (Err why) new
    → old.behind ≡ false → new.behind ≡ false
refused_ready old new decision fault.Behind answers ready = ap (λ (h : Held). h.behind) answers.same ∙ ready
refused_ready old new decision fault.Memory answers ready = answers.0.after
refused_ready old new decision why answers ready = ap (λ (h : Held). h.behind) answers.0.same ∙ ready

-- the model stays, and so does that the database is ready
pub applied_model : (old new : Held) (decision : Decision) (result : Result Outcome DbFault) → AnswersApply old decision result new
    → new.database.model ≡ old.database.model
applied_model old new decision (Ok outcome) answers = ap (λ (d : Database). d.model) answers.1.1
applied_model old new decision (Err why) answers = ap (λ (d : Database). d.model) (refused_same old new decision why answers)

pub applied_ready : (old new : Held) (decision : Decision) (result : Result Outcome DbFault) → AnswersApply old decision result new
    → old.behind ≡ false → new.behind ≡ false
applied_ready old new decision (Ok outcome) answers ready = answers.0.after
applied_ready old new decision (Err why) answers ready = refused_ready old new decision why answers ready

-- ---- the decision at a place

-- what is at a place is one
one_there : {X : Type 0} (list : List X) (place : ℕ) (one other : X) → slice_get list place ≡ Some one → slice_get list place ≡ Some other
    → one ≡ other
one_there list place one other is are = let e : one ≡ other = cc in e

module _ (decisions : List Placed) (place : ℕ) (there placed : Placed) (is : slice_get decisions place ≡ Some there)
    (are : slice_get decisions place ≡ Some placed) where
  pub taken_as : (decision : Decision) (answer : Result (Option TextKind) AllocError) (old new : Database) → decision ≡ there.decision
      → IfOk answer (λ against. TakesUnless against old decision new) → IfOk answer (λ against. TakesUnless against old placed.decision new)
  taken_as decision answer old new copied takes =
      let same : decision ≡ placed.decision = copied ∙ ap (λ (p : Placed). p.decision) (one_there decisions place there placed is are) in
      subst (λ (d : Decision). IfOk answer (λ against. TakesUnless against old d new)) same takes

  -- the fault has the file and the place of the decision
  pub faulty_as : (kind : TextKind) (file : List ℕ) → file ≡ there.file → IsFaultOr kind placed (pose.Text kind file there.at)
  faulty_as kind file copied =
      let same = one_there decisions place there placed is are in
      (refl, copied ∙ ap (λ (p : Placed). p.file) same, ap (λ (p : Placed). p.at) same)

-- a decision that may not be taken has the fault that is answered
pub placed_fault : (against : Option TextKind) (kind : TextKind) (placed : Placed) (fault : PoseFault) (old new end : Database)
    → against ≡ Some kind → TakesUnless against old placed.decision new → IsFaultOr kind placed fault
    → TakesPlaced (Err fault) old placed end
placed_fault against kind placed fault old new end none takes is =
    by fault (subst (λ a. TakesUnless a old placed.decision new) none takes) is
  where
    by : (fault : PoseFault) → TakesUnless (Some kind) old placed.decision new → IsFaultOr kind placed fault
        → TakesPlaced (Err fault) old placed end
    by (pose.Text other file at) takes is = (subst (MayNotTake old placed.decision) (sym is.0) takes.0, is.1, is.2)
    by pose.Read takes is = absurd is
    by pose.Memory takes is = tt

-- and one against which nothing speaks is taken
pub placed_taken : (against : Option TextKind) (placed : Placed) (old new : Database) → against ≡ None
    → TakesUnless against old placed.decision new → TakesUnless None old placed.decision new
placed_taken against placed old new none takes = subst (λ a. TakesUnless a old placed.decision new) none takes

-- ---- all of them

-- there is a decision at each place
found_there : {X : Type 0} (list : List X) (place : ℕ) → place < length list
    → ((x : X) × (place < length list) × (slice_get list place ≡ Some x) × (get_or list place x ≡ x))
    ⊎ ((length list ≤ place) × (slice_get list place ≡ None))
    → (item : X) × (slice_get list place ≡ Some item)
found_there list place within (inl found) = (found.0, found.2)
found_there list place within (inr past) = absurd (omega (arith, within, past.0))

pub some_there : {X : Type 0} (list : List X) (place : ℕ) → place < length list → (item : X) × (slice_get list place ≡ Some item)
some_there list place within = found_there list place within (slice_get_cases list place).1

-- a list around what is at a place
parted : {X : Type 0} (list : List X) (place : ℕ) (item : X) → slice_get list place ≡ Some item
    → (behind : List X) × (list ≡ take place list ++ item ∷ behind)
parted [] place item is = absurd (let no : ⊥ = cc in no)
parted (first ∷ list) zero item is = let same : first ≡ item = cc in (list, ap (λ x. x ∷ list) same)
parted (first ∷ list) (suc place) item is = let rest = parted list place item is in (rest.0, ap (λ l. first ∷ l) rest.1)

-- the front up to the next place
pub longer : {X : Type 0} (list : List X) (place : ℕ) (item : X) → slice_get list place ≡ Some item
    → take place list ++ item ∷ [] ≡ take (place + 1) list
longer list place item is =
    sym (take_more list place item (slice_get_within list place item is)
    ∙ ap (λ x. take place list ++ x ∷ []) (get_or_from_slice_get list place item item is))

-- the model stays as decisions are taken
pub same_model : (start end : Database) (decisions : List Placed) → TakesText start decisions end → end.model ≡ start.model
same_model start end [] takes = ap (λ (d : Database). d.model) takes
same_model start end (placed ∷ more) takes = same_model (with_step start placed.decision) end more takes.1

-- one more is taken
pub takes_more : (start there end : Database) (done : List Placed) (placed : Placed) → TakesText start done there
    → TakesUnless None there placed.decision end → TakesText start (done ++ placed ∷ []) end
takes_more start there end [] placed same takes =
    subst (λ (d : Database). TakesText d (placed ∷ []) end) same takes
takes_more start there end (first ∷ done) placed so_far takes =
    (so_far.0, takes_more (with_step start first.decision) there end done placed so_far.1 takes)

module _ (start there end : Database) (decisions : List Placed) (place : ℕ) (so_far : TakesText start (take place decisions) there)
    (placed : Placed) (is : slice_get decisions place ≡ Some placed) where
  pub takes_next : TakesUnless None there placed.decision end → TakesText start (take (place + 1) decisions) end
  takes_next takes =
      subst (λ (list : List Placed). TakesText start list end) (longer decisions place placed is)
      (takes_more start there end (take place decisions) placed so_far takes)

  -- the first that may not be taken has this fault
  pub first_fault : (fault : PoseFault) → TakesPlaced (Err fault) there placed end → TakesAll (Err fault) start decisions end
  first_fault (pose.Text kind file at) wrong =
      let parts = parted decisions place placed is in (
        placed,
        record {
          before = take place decisions;
          behind = parts.0;
          parts = parts.1;
          there = there;
          takes = so_far;
          may_not = wrong.0;
        },
        wrong.1,
        wrong.2,
      )
  first_fault pose.Read wrong = absurd wrong
  first_fault pose.Memory wrong = tt

-- what stands at the next place is taken, and the front gets longer
pub goes_on : (start there end : Database) (place count : ℕ) → count ≡ length start.model.problem.decisions → place < count
    → there.model ≡ start.model → TakesText start (take place start.model.problem.decisions) there
    → ((placed : Placed) → slice_get there.model.problem.decisions place ≡ Some placed → TakesPlaced (Ok tt) there placed end)
    → TakesText start (take (place + 1) start.model.problem.decisions) end
goes_on start there end place count all within same so_far takes =
    let found = some_there start.model.problem.decisions place (omega (arith, within, all)) in
    let here : slice_get there.model.problem.decisions place ≡ Some found.0 =
    subst (λ (m : Model). slice_get m.problem.decisions place ≡ Some found.0) (sym same) found.1 in
    takes_next start there end start.model.problem.decisions place so_far found.0 found.1 (takes found.0 here)

-- or has the first fault
pub stops_at : (start there end : Database) (place count : ℕ) (fault : PoseFault) (result : Result (Unit {0}) PoseFault)
    → count ≡ length start.model.problem.decisions → place < count → there.model ≡ start.model
    → TakesText start (take place start.model.problem.decisions) there → result ≡ Err fault
    → ((placed : Placed) → slice_get there.model.problem.decisions place ≡ Some placed → TakesPlaced (Err fault) there placed end)
    → TakesAll result start start.model.problem.decisions end
stops_at start there end place count fault result all within same so_far is stops =
    let found = some_there start.model.problem.decisions place (omega (arith, within, all)) in
    let here : slice_get there.model.problem.decisions place ≡ Some found.0 =
    subst (λ (m : Model). slice_get m.problem.decisions place ≡ Some found.0) (sym same) found.1 in
    let all_of = first_fault start there end start.model.problem.decisions place so_far found.0 found.1 fault (stops found.0 here) in
    subst (λ (r : Result (Unit {0}) PoseFault). TakesAll r start start.model.problem.decisions end) (sym is) all_of

-- all were taken where none is left
pub takes_whole : (start end : Database) (decisions : List Placed) (place : ℕ) → length decisions ≤ place
    → TakesText start (take place decisions) end → TakesText start decisions end
takes_whole start end decisions place all takes =
    subst (λ (list : List Placed). TakesText start list end) (take_all place decisions all) takes
