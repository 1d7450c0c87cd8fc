-- How a search advances, time after time.
use Rattle.std.proofs.Common.{◌≡◌, ℕ, zero, suc, ◌+◌, ◌<◌, ◌≤◌, Bool, true, false, ◌||◌, List, [], ◌∷◌, ◌++◌, length, drop, reverse, Option, Some, None, Result, Ok, Err, IfOk, MatchBool, MatchOption, MatchResult, refl, sym, ap, ◌∙◌, subst, arith}
use Rattle.std.specs.Prelude.{slice_get, Contains}
use Rattle.std.specs.declared.alloc.AllocError.{AllocError}
use Rattle.std.proofs.lemmas.List.{reverse-append, length-append}
use Rattle.std.proofs.lemmas.Option.{slice_get_within, get_or_from_slice_get}
use Rattle.model_core.specs.declared.decision.Decision.{Decision}
use Rattle.model_core.specs.declared.model.Model.{Model}
use Rattle.model_core.specs.History.{History, standing, accepted}
use Rattle.model_core.specs.Lawful.{IsLawful}
use Rattle.model_core.specs.State.{State}
use Rattle.plan_defs.specs.Closure.{IsLeast, IsCollapsed}
use Rattle.plan_defs.specs.Refusals.{IsAdmissible}
use Rattle.plan_defs.specs.Settling.{IsSettled}
use Rattle.plan_defs.proofs.Histories.{standing_settled}
use Rattle.law_search.specs.Search.{SearchOutcome, Finds, Fails, Stops}
use Rattle.flaw_core.specs.declared.flaw.Flaw.{Flaw}
use Rattle.flaw_core.specs.Rules.{IsLeastFor, LeavesOut}
use Rattle.flaw_core.specs.ByRule.{IsVisitBy}
use Rattle.flaw_core.specs.Rest.{LeftOver, SearchesOn, VisitsFirst}
use Rattle.flaw_core.proofs.Resting.{takes_choice, leaves_flaw, begins, visits_collapsed, visits_flaw, visits_found, visits_none}
use Rattle.plan_db.specs.Database.{Database, IsSound, taken_in}
use Rattle.plan_db.specs.Answers.{Held}
use Rattle.plan_db.specs.Rewinding.{TakesMore, IsTakenSince}
use Rattle.solver_core.specs.declared.course.Branch.{Branch}
use Rattle.solver_core.specs.declared.course.Course.{Course}
use Rattle.solver_core.specs.declared.visiting.Visited.{Visited}
use Rattle.solver_core.specs.declared.visiting.Visited.TheVariants.{Collapsed, Clear, Flawed}
use Rattle.solver_core.specs.Visiting.{HasFirst, FindsFlaw, IsVisited, TakesFound}
use Rattle.solver_core.specs.Underway.{Task, IsAbove, IsOpenAt, LeadsTo, IsWholeSearch, IsSearching, IsToVisit, HasFailed, IsLooking, HasEnded, TakesNext}

-- ---- lists of choices

none_some : {X : Type 0} (x : X) → None ≡ Some x → ⊥
none_some x same = cc

pub drop_at : {X : Type 0} (xs : List X) (k : ℕ) (x : X) → Some x ≡ slice_get xs k → drop k xs ≡ x ∷ drop (suc k) xs
drop_at [] k x same = absurd (none_some x (sym same))
drop_at (y ∷ xs) zero x same = cc
drop_at (y ∷ xs) (suc k) x same = drop_at xs k x same

pub drop_past : {X : Type 0} (xs : List X) (k : ℕ) → None ≡ slice_get xs k → drop k xs ≡ []
drop_past [] zero same = refl
drop_past [] (suc k) same = refl
drop_past (y ∷ xs) zero same = absurd (none_some y same)
drop_past (y ∷ xs) (suc k) same = drop_past xs k same

accepted_same : (one other : History) (first second : Decision) → accepted one first ≡ accepted other second → one ≡ other
accepted_same one other first second same = cc

module _ (First : Model → List Decision → State → Option Flaw → Type 0)
    (Choices : Model → List Decision → State → ℕ → Flaw → List Decision → Type 0) (task : Task) where
  -- a visit by the rule
  abbrev Visit : ℕ → ℕ → List Decision → SearchOutcome → Type 0
  Visit = IsVisitBy First Choices task.database.model task.bound

  -- ---- the way

  leads_further : (most more : ℕ) (branches : List Branch) (history : History) (lefts : List LeftOver) → most ≤ more
      → LeadsTo First Choices task most branches history lefts → LeadsTo First Choices task more branches history lefts
  leads_further most more [] history lefts less leads = leads
  leads_further most more (branch ∷ branches) history [] less leads = absurd leads
  leads_further most more (branch ∷ branches) history (left ∷ lefts) less (former, (choice, (same, fewer, is, rest))) =
      (former, (choice, (same, omega (arith, fewer), is, leads_further most more branches former lefts less rest)))

  leads_above : (most : ℕ) (branches : List Branch) (history : History) (lefts : List LeftOver)
      → LeadsTo First Choices task most branches history lefts → (count : ℕ) × TakesMore count task.database.history history
  leads_above most [] history lefts leads = (0, leads.0)
  leads_above most (branch ∷ branches) history [] leads = absurd leads
  leads_above most (branch ∷ branches) history (left ∷ lefts) (former, (choice, (same, fewer, is, rest))) =
      let more = leads_above most branches former lefts rest in (suc more.0, (former, (choice, (more.1, same))))

  pub above : (Rest : ℕ → List LeftOver → ℕ → SearchOutcome → Type 0) (branches : List Branch) (most visits : ℕ) (held : Held)
      → IsSearching First Choices task Rest branches most visits held → IsAbove task held
  above Rest branches most visits held is =
      let more = leads_above most branches held.database.history is.lefts is.leads in record {
        ready = is.on.ready;
        since = record { model = is.on.model; count = more.0; more = more.1 };
      }

  -- the same of a database with the same decisions
  above_with : (held new : Held) → IsAbove task held → new.database ≡ held.database → new.behind ≡ false → IsAbove task new
  above_with held new above same ready = record { ready = ready; since = subst (IsTakenSince task.database) (sym same) above.since }

  -- ---- a list is visited

  module _ (branches : List Branch) (visits : ℕ) (out : Bool) (held : Held) (within : visits < task.budget) (is : IsToVisit First Choices task branches visits out held) where
    -- what comes of the rest of the visit comes of the whole
    abbrev Says : ℕ → ℕ → Type 0
    Says depth units =
        (outcome : SearchOutcome) → VisitsFirst Visit depth (standing held.database.history) is.lefts units out outcome → IsWholeSearch First Choices task outcome

    pub visit_fails : IsCollapsed task.database.model (standing held.database.history) → HasFailed First Choices task branches (visits + 1) out held
    visit_fails collapsed = at is.units is.depth is.spent is.enough is.says
      where
        at : (units depth : ℕ) → visits + units ≡ task.budget → units ≤ depth → Says depth units → HasFailed First Choices task branches (visits + 1) out held
        at zero depth spent enough says = absurd (omega arith)
        at (suc units) zero spent enough says = absurd (omega arith)
        at (suc units) (suc depth) spent enough says = record {
          on = is.on;
          lefts = is.lefts;
          leads = is.leads;
          units = units;
          spent = omega arith;
          depth = suc depth;
          enough = omega arith;
          says = λ outcome goes. says outcome
              (visits_collapsed First Choices task.database.model task.bound depth (standing held.database.history) is.lefts units out outcome collapsed goes);
        }

    pub visit_opens : (flaw : Flaw) (own : Bool) → FindsFlaw First Choices task.database.model task.bound (standing held.database.history) flaw
        → MatchBool own (LeavesOut task.database.model (standing held.database.history) task.bound flaw) (LeavesOut task.database.model (standing held.database.history) task.bound flaw → ⊥)
        → IsLooking First Choices task (record { flaw = flaw; next = 0 }) branches (visits + 1) (out || own) held
    visit_opens flaw own finds tells = at is.units is.depth is.spent is.enough is.says
      where
        at : (units depth : ℕ) → visits + units ≡ task.budget → units ≤ depth → Says depth units
            → IsLooking First Choices task (record { flaw = flaw; next = 0 }) branches (visits + 1) (out || own) held
        at zero depth spent enough says = absurd (omega arith)
        at (suc units) zero spent enough says = absurd (omega arith)
        at (suc units) (suc depth) spent enough says = record {
          left = record { decisions = standing held.database.history; choices = finds.choices };
          fewer = omega arith;
          is_open = record { state = finds.state; least = finds.least; is_first = finds.is_first; choices = finds.choices; are = finds.are; left_are = refl };
          rest = record {
            on = is.on;
            lefts = is.lefts;
            leads = is.leads;
            units = units;
            spent = omega arith;
            depth = depth;
            enough = omega arith;
            says = λ outcome goes. says outcome
                (visits_flaw First Choices task.database.model task.bound depth (standing held.database.history) is.lefts units out outcome finds.state flaw finds.choices own finds.least finds.is_first finds.are tells goes);
          };
        }

    pub visit_finds : (state : State) → IsLeast task.database.model (standing held.database.history) state → First task.database.model (standing held.database.history) state None
        → HasEnded First Choices task (Finds (standing held.database.history)) (visits + 1) out held
    visit_finds state least none = at is.units is.depth is.spent is.enough is.says
      where
        at : (units depth : ℕ) → visits + units ≡ task.budget → units ≤ depth → Says depth units
            → HasEnded First Choices task (Finds (standing held.database.history)) (visits + 1) out held
        at zero depth spent enough says = absurd (omega arith)
        at (suc units) zero spent enough says = absurd (omega arith)
        at (suc units) (suc depth) spent enough says = record {
          above = above _ branches (visits + 1) visits held is;
          units = units;
          spent = omega arith;
          whole = says (record { ending = Finds (standing held.database.history); left = units; left_out = out })
              (visits_found First Choices task.database.model task.bound depth (standing held.database.history) is.lefts units out state least none);
        }

  -- ---- what a visit sees of it

  module _ (bound : ℕ) (same : task.bound ≡ bound) (branches : List Branch) (visits : ℕ) (out : Bool) (held : Held) (within : visits < task.budget)
      (is : IsToVisit First Choices task branches visits out held) where
    seen : (visited : Visited) → IsVisited First Choices held.database.model bound (standing held.database.history) visited
        → IsVisited First Choices task.database.model task.bound (standing held.database.history) visited
    seen visited sees =
        subst (λ (b : ℕ). IsVisited First Choices task.database.model b (standing held.database.history) visited) (sym same)
        (subst (λ (m : Model). IsVisited First Choices m bound (standing held.database.history) visited) is.on.model sees)

    pub seen_collapsed : IsVisited First Choices held.database.model bound (standing held.database.history) Collapsed → HasFailed First Choices task branches (visits + 1) out held
    seen_collapsed sees = visit_fails branches visits out held within is (seen Collapsed sees)

    pub seen_clear : IsVisited First Choices held.database.model bound (standing held.database.history) Clear
        → HasEnded First Choices task (Finds (standing held.database.history)) (visits + 1) out held
    seen_clear sees = let clear = seen Clear sees in visit_finds branches visits out held within is clear.0 clear.1 clear.2

    pub seen_flawed : (flaw : Flaw) (own now : Bool) → now ≡ (out || own) → IsVisited First Choices held.database.model bound (standing held.database.history) (Flawed flaw own)
        → IsLooking First Choices task (record { flaw = flaw; next = 0 }) branches (visits + 1) now held
    seen_flawed flaw own now is_now sees =
        let flawed = seen (Flawed flaw own) sees in
        subst (λ (b : Bool). IsLooking First Choices task (record { flaw = flaw; next = 0 }) branches (visits + 1) b held) (sym is_now)
        (visit_opens branches visits out held within is flaw own flawed.0 flawed.1)

  -- ---- a choice is taken, or there is none

  module _ (branch : Branch) (branches : List Branch) (visits : ℕ) (out : Bool) (held : Held) (is : IsLooking First Choices task branch branches visits out held) where
    pub goes_on_with : (choice : Decision) (new : Held) → Some choice ≡ slice_get is.is_open.choices branch.next
        → new.behind ≡ false → new.database ≡ taken_in held.database.model (accepted held.database.history choice)
        → IsToVisit First Choices task (record { flaw = branch.flaw; next = branch.next + 1 } ∷ branches) visits out new
    goes_on_with choice new picked ready taken = record {
      on = record { ready = ready; model = ap (λ (d : Database). d.model) taken ∙ is.rest.on.model };
      lefts = record { decisions = standing held.database.history; choices = drop (branch.next + 1) is.is_open.choices } ∷ is.rest.lefts;
      leads = (
        held.database.history,
        (
          choice,
          (
            ap (λ (d : Database). d.history) taken,
            omega (arith, is.fewer),
            record { state = is.is_open.state; least = is.is_open.least; is_first = is.is_open.is_first; choices = is.is_open.choices; are = is.is_open.are; left_are = refl },
            leads_further visits (visits + 1) branches held.database.history is.rest.lefts (omega arith) is.rest.leads,
          ),
        ),
      );
      units = is.rest.units;
      spent = is.rest.spent;
      depth = is.rest.depth;
      enough = is.rest.enough;
      says = λ outcome first. is.rest.says outcome
          (subst (λ (l : LeftOver). SearchesOn Visit is.rest.depth (l ∷ is.rest.lefts) is.rest.units out outcome) (sym left_is)
          (takes_choice Visit is.rest.depth (standing held.database.history) (drop (branch.next + 1) is.is_open.choices) choice is.rest.lefts is.rest.units out outcome
          (subst (λ (l : List Decision). VisitsFirst Visit is.rest.depth l
          (record { decisions = standing held.database.history; choices = drop (branch.next + 1) is.is_open.choices } ∷ is.rest.lefts) is.rest.units out outcome)
          (ap (λ (d : Database). standing d.history) taken) first)));
    }
      where
        next_is : suc branch.next ≡ branch.next + 1
        next_is = omega arith

        left_is : is.left ≡ record { decisions = standing held.database.history; choices = choice ∷ drop (branch.next + 1) is.is_open.choices }
        left_is =
            is.is_open.left_are
            ∙ ap (λ (l : List Decision). record { decisions = standing held.database.history; choices = l })
            (drop_at is.is_open.choices branch.next choice picked ∙ ap (λ k. choice ∷ drop k is.is_open.choices) next_is)

    pub first_of : HasFirst First Choices held.database.model (standing held.database.history) branch.flaw
    first_of =
        subst (λ (m : Model). HasFirst First Choices m (standing held.database.history) branch.flaw) (sym is.rest.on.model)
        (is.is_open.state, is.is_open.least, is.is_open.is_first)

    pub picked_of : (bound : ℕ) → task.bound ≡ bound → (found : Option Decision)
        → ((state : State) (choices : List Decision) → IsLeast held.database.model (standing held.database.history) state
        → Choices held.database.model (standing held.database.history) state bound branch.flaw choices → found ≡ slice_get choices branch.next)
        → found ≡ slice_get is.is_open.choices branch.next
    picked_of bound same found picks = picks is.is_open.state is.is_open.choices
        (subst (λ (m : Model). IsLeast m (standing held.database.history) is.is_open.state) (sym is.rest.on.model) is.is_open.least)
        (subst (λ (b : ℕ). Choices held.database.model (standing held.database.history) is.is_open.state b branch.flaw is.is_open.choices) same
        (subst (λ (m : Model). Choices m (standing held.database.history) is.is_open.state task.bound branch.flaw is.is_open.choices) (sym is.rest.on.model) is.is_open.are))

    pub may_take : (bound : ℕ) → task.bound ≡ bound → bound ≤ 512 → IsSound held.database
        → ((model : Model) (decisions : List Decision) (state : State) (bound : ℕ) (flaw : Flaw) (choices : List Decision) (choice : Decision) → bound ≤ 512 → IsLeastFor model decisions state
        → First model decisions state (Some flaw) → Choices model decisions state bound flaw choices → Contains choices choice → IsAdmissible model decisions choice)
        → (found : Option Decision) → found ≡ slice_get is.is_open.choices branch.next
        → MatchOption found (Unit {0}) (IsAdmissible held.database.model (standing held.database.history))
    may_take bound same few sound admits None picked = tt
    may_take bound same few sound admits (Some choice) picked =
        let settled = standing_settled held.database.model held.database.history sound.history in
        subst (λ (m : Model). IsAdmissible m (standing held.database.history) choice) (sym is.rest.on.model)
        (admits task.database.model (standing held.database.history) is.is_open.state task.bound branch.flaw is.is_open.choices choice
        (subst (λ (b : ℕ). b ≤ 512) (sym same) few)
        (record {
          lawful = subst IsLawful is.rest.on.model sound.lawful;
          settled = subst (λ (m : Model). IsSettled m (standing held.database.history)) is.rest.on.model settled;
          least = is.is_open.least;
        })
        is.is_open.is_first is.is_open.are (
          branch.next,
          slice_get_within is.is_open.choices branch.next choice (sym picked),
          get_or_from_slice_get is.is_open.choices branch.next choice choice (sym picked),
        ))

    pub looking_above : IsAbove task held
    looking_above = above _ branches visits visits held is.rest

    pub has_none_left : None ≡ slice_get is.is_open.choices branch.next → HasFailed First Choices task branches visits out held
    has_none_left none = record {
      on = is.rest.on;
      lefts = is.rest.lefts;
      leads = is.rest.leads;
      units = is.rest.units;
      spent = is.rest.spent;
      depth = suc is.rest.depth;
      enough = omega (arith, is.rest.enough);
      says = λ outcome goes. is.rest.says outcome
          (subst (λ (l : LeftOver). SearchesOn Visit is.rest.depth (l ∷ is.rest.lefts) is.rest.units out outcome) (sym left_is)
          (leaves_flaw Visit is.rest.depth (standing held.database.history) is.rest.lefts is.rest.units out outcome goes));
    }
      where
        left_is : is.left ≡ record { decisions = standing held.database.history; choices = [] }
        left_is = is.is_open.left_are ∙ ap (λ (l : List Decision). record { decisions = standing held.database.history; choices = l }) (drop_past is.is_open.choices branch.next none)

  pub takes_next : (branch : Branch) (old course : Course) (held new : Held) (found : Option Decision) (result : Result Bool AllocError)
      → (is : IsLooking First Choices task branch (reverse old.branches.items) old.visits old.left_out held) → found ≡ slice_get is.is_open.choices branch.next
      → TakesFound found (record { flaw = branch.flaw; next = branch.next + 1 }) held old.branches.items result new course.branches.items
      → new.behind ≡ false → course.visits ≡ old.visits → course.left_out ≡ old.left_out
      → MatchResult result (λ taken. TakesNext First Choices task taken course new) (λ _. IsAbove task new)
  takes_next branch old course held new found (Err fault) is picked takes ready visits out =
      above_with held new (above _ (reverse old.branches.items) old.visits old.visits held is.rest) takes ready
  takes_next branch old course held new None (Ok taken) is picked (false_is, items, same) ready visits out =
      subst (λ (t : Bool). TakesNext First Choices task t course new) (sym false_is)
      (subst (λ (h : Held). HasFailed First Choices task (reverse course.branches.items) course.visits course.left_out h) (sym same)
      (subst (λ (b : List Branch). HasFailed First Choices task (reverse b) course.visits course.left_out held) (sym items)
      (subst (λ (n : ℕ). HasFailed First Choices task (reverse old.branches.items) n course.left_out held) (sym visits)
      (subst (λ (b : Bool). HasFailed First Choices task (reverse old.branches.items) old.visits b held) (sym out)
      (has_none_left branch (reverse old.branches.items) old.visits old.left_out held is picked)))))
  takes_next branch old course held new (Some choice) (Ok taken) is picked (true_is, items, database) ready visits out =
      let behind : reverse course.branches.items ≡ record { flaw = branch.flaw; next = branch.next + 1 } ∷ reverse old.branches.items
      = ap reverse items ∙ reverse-append old.branches.items (record { flaw = branch.flaw; next = branch.next + 1 } ∷ []) in
      subst (λ (t : Bool). TakesNext First Choices task t course new) (sym true_is)
      (subst (λ (b : List Branch). IsToVisit First Choices task b course.visits course.left_out new) (sym behind)
      (subst (λ (n : ℕ). IsToVisit First Choices task (record { flaw = branch.flaw; next = branch.next + 1 } ∷ reverse old.branches.items) n course.left_out new) (sym visits)
      (subst (λ (b : Bool). IsToVisit First Choices task (record { flaw = branch.flaw; next = branch.next + 1 } ∷ reverse old.branches.items) old.visits b new) (sym out)
      (goes_on_with branch (reverse old.branches.items) old.visits old.left_out held is choice new picked ready database))))

  -- ---- the search goes back

  -- the last flaw on the way is the first of them, the latest first
  pub failed_last : (branch : Branch) (all items : List Branch) (visits : ℕ) (out : Bool) (held : Held) → all ≡ items ++ branch ∷ []
      → HasFailed First Choices task (reverse all) visits out held → HasFailed First Choices task (branch ∷ reverse items) visits out held
  failed_last branch all items visits out held same failed =
      subst (λ (b : List Branch). HasFailed First Choices task b visits out held) (ap reverse same ∙ reverse-append items (branch ∷ [])) failed

  pub ends_accepted : (branch : Branch) (branches : List Branch) (visits : ℕ) (out : Bool) (held : Held) → HasFailed First Choices task (branch ∷ branches) visits out held
      → (before : History) × ((decision : Decision) × (held.database.history ≡ accepted before decision))
  ends_accepted branch branches visits out held is = at is.lefts is.leads
    where
      at : (lefts : List LeftOver) → LeadsTo First Choices task visits (branch ∷ branches) held.database.history lefts
          → (before : History) × ((decision : Decision) × (held.database.history ≡ accepted before decision))
      at [] leads = absurd leads
      at (left ∷ lefts) (former, (choice, (same, fewer, opened, rest))) = (former, (choice, same))

  pub goes_back_to : (branch : Branch) (branches : List Branch) (visits : ℕ) (out : Bool) (held new : Held) (decision : Decision)
      → HasFailed First Choices task (branch ∷ branches) visits out held → held.database.history ≡ accepted new.database.history decision
      → new.database.model ≡ held.database.model → new.behind ≡ false → IsLooking First Choices task branch branches visits out new
  goes_back_to branch branches visits out held new decision is back model ready = at is.lefts is.leads is.says
    where
      at : (lefts : List LeftOver) → LeadsTo First Choices task visits (branch ∷ branches) held.database.history lefts
          → ((outcome : SearchOutcome) → SearchesOn Visit is.depth lefts is.units out outcome → IsWholeSearch First Choices task outcome)
          → IsLooking First Choices task branch branches visits out new
      at [] leads says = absurd leads
      at (left ∷ lefts) (former, (choice, (same, fewer, opened, rest))) says =
          let here : former ≡ new.database.history = accepted_same former new.database.history choice decision (sym same ∙ back) in
          record {
            left = left;
            fewer = fewer;
            is_open = subst (λ (h : History). IsOpenAt First Choices task (standing h) branch left) here opened;
            rest = record {
              on = record { ready = ready; model = model ∙ is.on.model };
              lefts = lefts;
              leads = subst (λ (h : History). LeadsTo First Choices task visits branches h lefts) here rest;
              units = is.units;
              spent = is.spent;
              depth = is.depth;
              enough = is.enough;
              says = says;
            };
          }

  -- ---- the search begins and ends

  pub is_begun : (held : Held) → task.database ≡ held.database → held.behind ≡ false → IsToVisit First Choices task [] 0 false held
  is_begun held same ready = record {
    on = record { ready = ready; model = ap (λ (d : Database). d.model) (sym same) };
    lefts = [];
    leads = (ap (λ (d : Database). d.history) (sym same), refl);
    units = task.budget;
    spent = omega arith;
    depth = task.budget;
    enough = omega arith;
    says = λ outcome first. subst (λ (d : Database). Visit task.budget task.budget (standing d.history) outcome) (sym same)
        (begins Visit task.budget (standing held.database.history) task.budget outcome first);
  }

  pub is_exhausted : (visits : ℕ) (out : Bool) (held : Held) → HasFailed First Choices task [] visits out held → HasEnded First Choices task Fails visits out held
  is_exhausted visits out held is = record {
    above = above _ [] visits visits held is;
    units = is.units;
    spent = is.spent;
    whole = is.says (record { ending = Fails; left = is.units; left_out = out })
        (subst (λ (l : List LeftOver). SearchesOn Visit is.depth l is.units out (record { ending = Fails; left = is.units; left_out = out })) (sym is.leads.1) refl);
  }

  pub is_stopped : (branches : List Branch) (visits : ℕ) (out : Bool) (held : Held) → task.budget ≤ visits → IsToVisit First Choices task branches visits out held
      → HasEnded First Choices task Stops visits out held × (visits ≡ task.budget)
  is_stopped branches visits out held spent is = at is.units is.spent is.says
    where
      at : (units : ℕ) → visits + units ≡ task.budget
          → ((outcome : SearchOutcome) → VisitsFirst Visit is.depth (standing held.database.history) is.lefts units out outcome → IsWholeSearch First Choices task outcome)
          → HasEnded First Choices task Stops visits out held × (visits ≡ task.budget)
      at (suc units) all says = absurd (omega arith)
      at zero all says = (
        record {
          above = above _ branches (visits + 1) visits held is;
          units = 0;
          spent = all;
          whole = says (record { ending = Stops; left = 0; left_out = out })
              (visits_none First Choices task.database.model task.bound is.depth (standing held.database.history) is.lefts 0 out);
        },
        omega arith,
      )

-- ---- how many flaws are on the way

pub takes_kept : (found : Option Decision) (branch : Branch) (old new : Held) (branches others : List Branch) (result : Result Bool AllocError)
    → TakesFound found branch old branches result new others → IfOk result (λ taken. taken ≡ false → length others ≡ length branches)
takes_kept found branch old new branches others (Err fault) takes = tt
takes_kept None branch old new branches others (Ok taken) takes = λ no. ap length takes.1
takes_kept (Some choice) branch old new branches others (Ok taken) takes = λ no. absurd (true_false (sym takes.0 ∙ no))
  where
    true_false : true ≡ false → ⊥
    true_false same = cc

pub popped_shorter : (all items later : List Branch) (branch : Branch) → all ≡ items ++ branch ∷ [] → length later ≡ length items → length later < length all
popped_shorter all items later branch same kept =
    let whole : length all ≡ length (items ++ branch ∷ []) = ap length same in
    omega (arith, whole, kept, length-append items (branch ∷ []))
