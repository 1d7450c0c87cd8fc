-- What each step of a log was.
use Rattle.std.proofs.Common.{◌≡◌, ℕ, zero, suc, Vec, Global, ◌+◌, ◌-◌, ◌<◌, ◌≤◌, Bool, true, false, Some, take, drop, List, [], ◌∷◌, ◌++◌, length, insert, replicate, reverse, slice_index_or, refl, sym, ap, ◌∙◌, subst, append_assoc, length-append, arith}
use Rattle.std.proofs.lemmas.List.{reverse-append, take-append-drop, length-take, length-reverse, length-replicate}
use Rattle.std.proofs.lemmas.List.Edits.{insert-append_right, length-insert}
use Rattle.model_core.specs.declared.decision.Decision.{Decision}
use Rattle.model_core.specs.History.{History}
use Rattle.decision_log.specs.declared.steps.Step.{Step}
use Rattle.decision_log.specs.declared.steps.Step.TheVariants.{Push, Take}
use Rattle.decision_log.specs.declared.steps.TakenOut.{TakenOut}
use Rattle.decision_log.specs.Kept.{put_back, AreBelow, HavePlaces, list_before, lists_of, CanLeadTo, AreLogSteps}
use Rattle.decision_log.specs.Taking.{kept_of, LedByStep, TakesFirst, TellsStep}
use Rattle.decision_log.specs.declared.log.LogStep.TheVariants as seen
use Rattle.decision_log.proofs.Places.{IsCut, AreFrom, places_left, put_back-last}
use Rattle.decision_log.proofs.Lists.{lists_on, length-lists_of}

-- a step of the log with the lists that it leads between
pub record IsStepBetween (history : History) (number : ℕ) (step : Step) : Type 0 where
  pub after : List Decision
  pub can : CanLeadTo step after
  pub leads : LedByStep history number (list_before step after) after

pub leads_between : (room : ℕ) (decisions : List Decision) (newer : List Step) (step : Step) (older : List Step)
    → AreLogSteps room decisions (newer ++ step ∷ older) → IsStepBetween (lists_of decisions (newer ++ step ∷ older)) (length older) step
leads_between room decisions [] step older are =
    let on = lists_on (list_before step decisions) older in
    record {
      after = decisions;
      can = are.0;
      leads = ([], on.0, (ap (λ lists. decisions ∷ lists) on.1, omega (arith, ap length on.1, length-lists_of (list_before step decisions) older)));
    }
leads_between room decisions (first ∷ newer) step older are =
    let rest = leads_between room (list_before first decisions) newer step older are.2 in
    record {
      after = rest.after;
      can = rest.can;
      leads = (decisions ∷ rest.leads.0, rest.leads.1, (ap (λ lists. decisions ∷ lists) rest.leads.2.0, rest.leads.2.1));
    }

-- the step at a place, counted from the oldest
pub step_between : (room : ℕ) (decisions : List Decision) (steps : List Step) (number : ℕ) → (cut : IsCut steps number) → number < length steps
    → AreLogSteps room decisions (reverse steps) → IsStepBetween (lists_of decisions (reverse steps)) number cut.here
step_between room decisions steps number cut below are =
    let older = take number steps in
    let newer = drop (number + 1) steps in
    let split : steps ≡ older ++ cut.here ∷ newer = sym (take-append-drop number steps) ∙ ap (λ back. older ++ back) cut.back in
    let turned : reverse steps ≡ reverse newer ++ cut.here ∷ reverse older =
    ap reverse split ∙ reverse-append older (cut.here ∷ newer) ∙ ap (λ back. back ++ reverse older) (reverse-append (cut.here ∷ []) newer)
    ∙ append_assoc (reverse newer) (cut.here ∷ []) (reverse older) in
    let long : length (reverse older) ≡ number = length-reverse older ∙ length-take number steps ∙ omega arith in
    subst (λ n. IsStepBetween (lists_of decisions (reverse steps)) n cut.here) long
    (subst (λ list. IsStepBetween (lists_of decisions list) (length (reverse older)) cut.here) (sym turned)
    (leads_between room decisions (reverse newer) cut.here (reverse older) (subst (AreLogSteps room decisions) turned are)))

-- with each flag set all are kept
pub kept-all : (decisions : List Decision) → kept_of (replicate (length decisions) true) decisions ≡ decisions
kept-all [] = refl
kept-all (decision ∷ decisions) = ap (λ list. decision ∷ list) (kept-all decisions)

-- a flag that isn't set leaves its decision out, wherever it stands
pub kept-inserted : (flags : List Bool) (decisions : List Decision) (place : ℕ) (decision : Decision)
    → length flags ≡ length decisions → place ≤ length decisions
    → kept_of (insert flags place false) (insert decisions place decision) ≡ kept_of flags decisions
kept-inserted flags decisions zero decision same low = refl
kept-inserted [] decisions (suc place) decision same low = absurd (omega arith)
kept-inserted (flag ∷ flags) [] (suc place) decision same low = absurd (omega arith)
kept-inserted (true ∷ flags) (first ∷ decisions) (suc place) decision same low =
    ap (λ list. first ∷ list) (kept-inserted flags decisions place decision (omega arith) (omega arith))
kept-inserted (false ∷ flags) (first ∷ decisions) (suc place) decision same low =
    kept-inserted flags decisions place decision (omega arith) (omega arith)

-- decisions that are put back behind one that was taken out leave what stands before it, and are left out again by some flags
pub record IsBehind (front back : List Decision) (decision : Decision) (whole : List Decision) : Type 0 where
  pub rest : List Decision
  pub flags : List Bool
  pub same : length flags ≡ length rest
  pub whole_is : whole ≡ front ++ decision ∷ rest
  pub kept : kept_of flags rest ≡ back

pub put_behind : (more : List TakenOut) (front back : List Decision) (decision : Decision)
    → HavePlaces more (front ++ decision ∷ back) → AreFrom (length front + 1) more
    → IsBehind front back decision (put_back more (front ++ decision ∷ back))
put_behind [] front back decision places from = record {
  rest = back;
  flags = replicate (length back) true;
  same = length-replicate (length back) true;
  whole_is = refl;
  kept = kept-all back;
}
put_behind (taken ∷ more) front back decision places from =
    let behind = put_behind more front back decision places.1.1 from.1 in
    let place = taken.place - length (front ++ decision ∷ []) in
    let long : length (front ++ decision ∷ []) ≡ length front + 1 = length-append front (decision ∷ []) in
    let low : place ≤ length behind.rest = omega (arith, places.0, ap length behind.whole_is, length-append front (decision ∷ behind.rest), long) in
    let split : front ++ decision ∷ behind.rest ≡ (front ++ decision ∷ []) ++ behind.rest = sym (append_assoc front (decision ∷ []) behind.rest) in
    record {
      rest = insert behind.rest place taken.decision;
      flags = insert behind.flags place false;
      same = length-insert behind.flags place false (omega (arith, behind.same)) ∙ omega (arith, behind.same, length-insert behind.rest place taken.decision low);
      whole_is = ap (λ list. insert list taken.place taken.decision) (behind.whole_is ∙ split)
          ∙ insert-append_right (front ++ decision ∷ []) behind.rest _ taken.place taken.decision refl (omega (arith, from.0, long))
          ∙ append_assoc front (decision ∷ []) (insert behind.rest place taken.decision);
      kept = kept-inserted behind.flags behind.rest place taken.decision behind.same low ∙ behind.kept;
    }

-- those before the lowest have greater places
above_last : (more : List TakenOut) (last : TakenOut) (decisions : List Decision) → HavePlaces (more ++ last ∷ []) decisions → AreFrom (last.place + 1) more
above_last [] last decisions places = tt
above_last (taken ∷ more) last decisions places = (omega (arith, below_last taken.place more last places.1.0), above_last more last decisions places.1.1)
  where
    below_last : (place : ℕ) (more : List TakenOut) (last : TakenOut) → AreBelow place (more ++ last ∷ []) → last.place < place
    below_last place [] last all = all.0
    below_last place (first ∷ more) last all = below_last place more last all.1

-- of what was taken out the lowest stood first
pub takes_first : (more : List TakenOut) (last : TakenOut) (after : List Decision) → HavePlaces (more ++ last ∷ []) after
    → TakesFirst (put_back (more ++ last ∷ []) after) last.decision after
takes_first more last after places =
    let front = take last.place after in
    let back = drop last.place after in
    let left = places_left more last after places in
    let long : length front ≡ last.place = length-take last.place after ∙ omega (arith, left.0) in
    let behind = put_behind more front back last.decision left.1 (subst (λ n. AreFrom (n + 1) more) (sym long) (above_last more last after places)) in (
      front,
      behind.rest,
      (
        behind.flags,
        (
          put_back-last more last after ∙ behind.whole_is,
          sym (take-append-drop last.place after) ∙ ap (λ list. front ++ list) (sym behind.kept),
        ),
      ),
    )

-- a list that isn't empty ends with its last item
pub ends_at : {X : Type 0} (list : List X) (other : X) → 0 < length list → list ≡ take (length list - 1) list ++ slice_index_or list (length list - 1) other ∷ []
ends_at [] other some = absurd (omega arith)
ends_at (only ∷ []) other some = refl
ends_at (first ∷ second ∷ more) other some =
    let one : length (first ∷ second ∷ more) - 1 ≡ suc (length (second ∷ more) - 1) = omega arith in
    ap (λ xs. first ∷ xs) (ends_at (second ∷ more) other (omega arith))
    ∙ ap (λ n. take n (first ∷ second ∷ more) ++ slice_index_or (first ∷ second ∷ more) n other ∷ []) (sym one)

pub some_last : {X : Type 0} (list : List X) → 0 < length list → X
some_last [] some = absurd (omega arith)
some_last (x ∷ list) some = x

-- what a step that put a decision in is told as
pub tells_push : (history : History) (number : ℕ) → IsStepBetween history number Push → TellsStep history number (Some seen.Push)
tells_push history number between =
    let after = between.after in
    let last = slice_index_or after (length after - 1) (some_last after between.can) in
    let whole = ends_at after (some_last after between.can) between.can in
    (take (length after - 1) after, (last, subst (LedByStep history number (take (length after - 1) after)) whole between.leads))

-- and one that took decisions out, by the last of them that it keeps
pub tells_take : (history : History) (number : ℕ) (taken : Vec TakenOut Global) (last : TakenOut)
    → IsStepBetween history number (Take taken) → last ≡ slice_index_or taken.items (length taken.items - 1) last
    → (one after : List Decision) × (LedByStep history number one after × TakesFirst one last.decision after)
tells_take history number taken last between is =
    let more = take (length taken.items - 1) taken.items in
    let whole : taken.items ≡ more ++ last ∷ [] = ends_at taken.items last between.can.0 ∙ ap (λ t. more ++ t ∷ []) (sym is) in
    let after = between.after in
    let takes = takes_first more last after (subst (λ list. HavePlaces list after) whole between.can.1) in (
      list_before (Take taken) after,
      after,
      (
        between.leads,
        subst (λ list. TakesFirst (put_back list after) last.decision after) (sym whole) takes,
      ),
    )
