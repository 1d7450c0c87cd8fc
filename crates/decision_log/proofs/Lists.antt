-- The lists that stood, by the last step.
use Rattle.std.proofs.Common.{◌≡◌, ℕ, suc, slice_get, Result, Err, IfOk, MatchResult, Vec, Global, Option, Some, None, option_to_list, Ok, reverse, ◌+◌, ◌-◌, ◌<◌, ◌≤◌, take, List, [], ◌∷◌, ◌++◌, length, refl, sym, ap, ◌∙◌, subst, length-append, arith}
use Rattle.std.proofs.lemmas.List.{reverse-append}
use Rattle.std.proofs.Math.Seq.{take-append_seam}
use Rattle.model_core.specs.declared.decision.Decision.{Decision}
use Rattle.model_core.specs.History.{History, standing, accepted}
use Rattle.decision_log.specs.declared.steps.Step.{Step}
use Rattle.decision_log.specs.declared.steps.Step.TheVariants.{Push}
use Rattle.decision_log.specs.Kept.{list_before, lists_of, CanLeadTo, AreLogSteps}
use Rattle.decision_log.specs.Undoing.{Undoes, Pops, IsFormer, CopiesFormer}
use Rattle.decision_log.specs.declared.LogFault.{LogFault}
use Rattle.decision_log.specs.declared.LogFault.TheVariants.{Memory}
use Rattle.std.specs.declared.alloc.AllocError.{AllocError}

pub standing-lists_of : (decisions : List Decision) (steps : List Step) → standing (lists_of decisions steps) ≡ decisions
standing-lists_of decisions [] = refl
standing-lists_of decisions (step ∷ older) = refl

pub length-lists_of : (decisions : List Decision) (steps : List Step) → length (lists_of decisions steps) ≡ length steps + 1
length-lists_of decisions [] = refl
length-lists_of decisions (step ∷ older) = omega (arith, length-lists_of (list_before step decisions) older)

-- a list of lists begins with its standing one
pub lists_on : (decisions : List Decision) (steps : List Step) → (rest : History) × (lists_of decisions steps ≡ decisions ∷ rest)
lists_on decisions [] = ([], refl)
lists_on decisions (step ∷ older) = (lists_of (list_before step decisions) older, refl)

-- what was put at the end is taken off
pub before-push : (decisions : List Decision) (decision : Decision) → take (length (decisions ++ decision ∷ []) - 1) (decisions ++ decision ∷ []) ≡ decisions
before-push decisions decision =
    let one : length (decisions ++ decision ∷ []) - 1 ≡ length decisions = omega (arith, length-append decisions (decision ∷ [])) in
    ap (λ n. take n (decisions ++ decision ∷ [])) one ∙ take-append_seam decisions (decision ∷ [])

-- there is room for the list itself
pub room_for : (room : ℕ) (decisions : List Decision) (steps : List Step) → AreLogSteps room decisions steps → length decisions ≤ room
room_for room decisions [] are = omega (arith, ap length are)
room_for room decisions (step ∷ older) are = are.1

-- more room is enough too
pub more_room : (room more : ℕ) (decisions : List Decision) (steps : List Step) → room ≤ more → AreLogSteps room decisions steps → AreLogSteps more decisions steps
more_room room more decisions [] le are = are
more_room room more decisions (step ∷ older) le are = (are.0, omega arith, more_room room more (list_before step decisions) older le are.2)

-- the last step is the first of those that are gone back
pub reverse-last : (steps : List Step) (step : Step) → reverse (steps ++ step ∷ []) ≡ step ∷ reverse steps
reverse-last steps step = reverse-append steps (step ∷ [])

-- a list that one decision more led to
pub pushed_lists : (decisions : List Decision) (steps : List Step) (decision : Decision)
    → lists_of (decisions ++ decision ∷ []) (reverse (steps ++ Push ∷ [])) ≡ accepted (lists_of decisions (reverse steps)) decision
pushed_lists decisions steps decision =
    ap (lists_of (decisions ++ decision ∷ [])) (reverse-last steps Push)
    ∙ ap (λ list. (decisions ++ decision ∷ []) ∷ lists_of list (reverse steps)) (before-push decisions decision)
    ∙ ap (λ list. (list ++ decision ∷ []) ∷ lists_of decisions (reverse steps)) (sym (standing-lists_of decisions (reverse steps)))

pub pushed_steps : (room more : ℕ) (decisions : List Decision) (steps : List Step) (decision : Decision)
    → AreLogSteps room decisions (reverse steps) → room ≤ more → length (decisions ++ decision ∷ []) ≤ more
    → AreLogSteps more (decisions ++ decision ∷ []) (reverse (steps ++ Push ∷ []))
pushed_steps room more decisions steps decision are le fits =
    subst (AreLogSteps more (decisions ++ decision ∷ [])) (sym (reverse-last steps Push))
    (omega (arith, length-append decisions (decision ∷ [])), fits, subst (λ list. AreLogSteps more list (reverse steps)) (sym (before-push decisions decision)) (more_room room more decisions (reverse steps) le are))

-- a list that taking decisions out led to
pub taken_lists : (old decisions : List Decision) (steps : List Step) (step : Step) → list_before step decisions ≡ old
    → lists_of decisions (reverse (steps ++ step ∷ [])) ≡ decisions ∷ lists_of old (reverse steps)
taken_lists old decisions steps step back =
    ap (lists_of decisions) (reverse-last steps step) ∙ ap (λ list. decisions ∷ lists_of list (reverse steps)) back

pub taken_steps : (room : ℕ) (old decisions : List Decision) (steps : List Step) (step : Step) → list_before step decisions ≡ old
    → CanLeadTo step decisions → length decisions ≤ room → AreLogSteps room old (reverse steps)
    → AreLogSteps room decisions (reverse (steps ++ step ∷ []))
taken_steps room old decisions steps step back can fits are =
    subst (AreLogSteps room decisions) (sym (reverse-last steps step)) (can, fits, subst (λ list. AreLogSteps room list (reverse steps)) (sym back) are)

-- what a list was led to by, and from where
pub record IsLed (room : ℕ) (decisions : List Decision) (steps left : List Step) (step : Step) : Type 0 where
  pub lists : lists_of decisions (reverse steps) ≡ decisions ∷ lists_of (list_before step decisions) (reverse left)
  pub can : CanLeadTo step decisions
  pub are : AreLogSteps room (list_before step decisions) (reverse left)
  pub fits : length (list_before step decisions) ≤ room

pub led_by : (room : ℕ) (decisions : List Decision) (steps left : List Step) (step : Step) → steps ≡ left ++ step ∷ []
    → AreLogSteps room decisions (reverse steps) → IsLed room decisions steps left step
led_by room decisions steps left step split are =
    let turned : reverse steps ≡ step ∷ reverse left = ap reverse split ∙ reverse-last left step in
    let led = subst (AreLogSteps room decisions) turned are in
    record {
      lists = ap (lists_of decisions) turned;
      can = led.0;
      are = led.2;
      fits = room_for room (list_before step decisions) (reverse left) led.2;
    }

-- so undoing the step brings the list before it back
pub undoes_to : (room : ℕ) (decisions : List Decision) (steps left : List Step) (step : Step) (new : List Decision)
    → IsLed room decisions steps left step → new ≡ list_before step decisions
    → Undoes (lists_of decisions (reverse steps)) (Ok tt) (lists_of new (reverse left))
undoes_to room decisions steps left step new led is =
    let on = lists_on new (reverse left) in
    let whole : lists_of decisions (reverse steps) ≡ decisions ∷ lists_of new (reverse left) =
    led.lists ∙ ap (λ list. decisions ∷ lists_of list (reverse left)) (sym is) in
    (new, on.0, on.1, whole ∙ ap (λ list. list ∷ lists_of new (reverse left)) (sym (standing-lists_of decisions (reverse steps))))

-- what popping leaves is the front
pub popped : (decisions new : List Decision) (last : Option Decision) → decisions ≡ new ++ option_to_list last → (last ≡ None → length decisions ≡ 0)
    → 0 < length decisions → new ≡ list_before Push decisions
popped decisions new (Some decision) split none some = sym (ap (list_before Push) split ∙ before-push new decision)
popped decisions new None split none some = absurd (omega (arith, none refl))

-- and what comes off is the decision that was accepted
pub pops_to : (decisions new : List Decision) (steps left : List Step) (last : Option Decision)
    → decisions ≡ new ++ option_to_list last → (last ≡ None → length decisions ≡ 0) → 0 < length decisions
    → lists_of decisions (reverse steps) ≡ decisions ∷ lists_of new (reverse left)
    → Pops (lists_of decisions (reverse steps)) last (lists_of new (reverse left))
pops_to decisions new steps left (Some decision) split none some led =
    led ∙ ap (λ list. list ∷ lists_of new (reverse left)) (split ∙ ap (λ list. list ++ decision ∷ []) (sym (standing-lists_of new (reverse left))))
pops_to decisions new steps left None split none some led = absurd (omega (arith, none refl))

-- a list from which decisions were taken out isn't one that a decision was put to
pub not_pushed : (decisions former : List Decision) (history rest : History) → history ≡ decisions ∷ former ∷ rest → length decisions < length former
    → (below : History) (decision : Decision) → history ≡ accepted below decision → ⊥
not_pushed decisions former history rest led shorter below decision pushed =
    let joined : decisions ∷ former ∷ rest ≡ (standing below ++ decision ∷ []) ∷ below = sym led ∙ pushed in
    let under : former ∷ rest ≡ below = ap (λ list. rest_of list) joined in
    let top : decisions ≡ standing below ++ decision ∷ [] = ap standing joined in
    let front : standing below ≡ former = ap standing (sym under) in
    absurd (omega (arith, ap length top, ap length front, length-append (standing below) (decision ∷ [])))
  where
    rest_of : History → History
    rest_of [] = []
    rest_of (list ∷ lists) = lists

-- nor is the first of all
pub not_first : (history below : History) (decision : Decision) → history ≡ [] ∷ [] → history ≡ accepted below decision → ⊥
not_first history below decision first pushed =
    let top : [] ≡ standing below ++ decision ∷ [] = ap standing (sym first ∙ pushed) in
    absurd (omega (arith, ap length top, length-append (standing below) (decision ∷ [])))

-- a list that has a last item is what stands before it, and that item
pub ends_with : {X : Type 0} (list : List X) (last : X) → slice_get list (length list - 1) ≡ Some last → (front : List X) × (list ≡ front ++ last ∷ [])
ends_with [] last is = cc
ends_with (only ∷ []) last is = ([], ap (λ x. x ∷ []) (some_of is))
  where
    some_of : Some only ≡ Some last → only ≡ last
    some_of e = cc
ends_with (first ∷ second ∷ more) last is =
    let one : length (first ∷ second ∷ more) - 1 ≡ suc (length (second ∷ more) - 1) = omega arith in
    let rest = ends_with (second ∷ more) last (ap (λ n. slice_get (first ∷ second ∷ more) n) (sym one) ∙ is) in
    (first ∷ rest.0, ap (λ xs. first ∷ xs) rest.1)

-- the list before the last step is the one before the standing one
pub former_by : (room : ℕ) (decisions : List Decision) (steps left : List Step) (step : Step) → IsLed room decisions steps left step
    → IsFormer (lists_of decisions (reverse steps)) (list_before step decisions)
former_by room decisions steps left step led =
    let on = lists_on (list_before step decisions) (reverse left) in (
      on.0,
      led.lists ∙ ap (λ lists. decisions ∷ lists) on.1
          ∙ ap (λ list. list ∷ list_before step decisions ∷ on.0) (sym (standing-lists_of decisions (reverse steps))),
    )

-- what a list of copies is, by an equal list
pub ok_along : (copies : Result (Vec Decision Global) AllocError) (one other : List Decision) → one ≡ other
    → IfOk copies (λ copied. copied.items ≡ one) → IfOk copies (λ copied. copied.items ≡ other)
ok_along (Ok copied) one other same is = is ∙ same
ok_along (Err none) one other same is = tt

-- copies of that list are what is asked for, and memory is wanting only for it
pub copies_former : (history : History) (former : List Decision) (copies : Result (Vec Decision Global) AllocError) (result : Result (List Decision) LogFault)
    → IsFormer history former → IfOk copies (λ copied. copied.items ≡ former)
    → MatchResult copies (λ copied. result ≡ Ok copied.items) (λ _. result ≡ Err Memory)
    → CopiesFormer history result
copies_former history former (Ok copied) result is same given = subst (CopiesFormer history) (sym given) (subst (IsFormer history) (sym same) is)
copies_former history former (Err none) result is same given = subst (CopiesFormer history) (sym given) (former, is)
