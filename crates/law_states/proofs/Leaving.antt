-- Decisions left out of a settled list: what is admissible after fewer of them is admissible after more, and so what is left of fewer
-- leaves something where what is left of more does.
use Rattle.std.proofs.Common.{◌≡◌, ◌⊎◌, List, [], ◌∷◌, ◌++◌, inl, inr, ⊎_elim, refl, sym, subst, arith}
use Rattle.std.specs.Prelude.{map, Contains}
use Rattle.std.proofs.lemmas.List.{append_assoc, length-append}
use Rattle.std.proofs.lemmas.List.Elements.{All-weaker, Contains-append_left, Contains-append_right, Contains-append_cases}
use Rattle.eu_name.specs.declared.name.TokenName.{TokenName}
use Rattle.model_core.specs.declared.decision.Decision.{Decision}
use Rattle.model_core.specs.declared.decision.Decision.TheVariants.{Specify, Activate, Merge, Reject, Order, Constrain, Relate}
use Rattle.model_core.specs.declared.model.Model.{Model}
use Rattle.model_core.specs.Decided.{IsTaken, IsActive, IsDecided}
use Rattle.model_core.specs.State.{State, IsBelow}
use Rattle.plan_defs.specs.Claims.{argument_of}
use Rattle.plan_defs.specs.Closure.{IsPropagatedState, IsClosed, IsLeast}
use Rattle.plan_defs.specs.Refusals.{IsKnown, IsAlreadyDecided, NeedsActive, AreActive, Hinders, IsAdmissible}
use Rattle.model_core.specs.declared.refusal.Refusal.TheVariants.{Unknown, WrongType, Decided, NotInDomain, NotActive, NotSamePredicate, NotRejectable, SameToken, ActiveFull}
use Rattle.model_core.specs.declared.refusal.Refusal.{Refusal}
use Rattle.plan_defs.specs.Settling.{SettlesAfter, IsSettled}
use Rattle.plan_defs.specs.Situations.{situation_of}
use Rattle.plan_defs.specs.Support.{IsSupportedToken}
use Rattle.plan_defs.specs.Terms.{Variable, TokenCounts, ArgumentCounts}
use Rattle.plan_defs.proofs.Knowing.{known_or_not}
use Rattle.plan_defs.proofs.Lower.{counts_further, supported_further, further_below}
use Rattle.eu_name.proofs.Ordered.{contains_head, contains_cases, contains_none}
use Rattle.plan_defs.proofs.Settling.{settled_few, IsSettled-push}
use Rattle.law_states.proofs.Known.{known_below}
use Rattle.law_states.proofs.Thinning.{IsPartOf, KeepsTokens, taken_more, active_more, decided_more, further_kept, fewer_propagated, closed_same, closed_undecided}

-- ---- members

-- a member of a list with one more at its end is the last or one of the others
pub pushed_cases : (list : List Decision) (last decision : Decision) → Contains (list ++ last ∷ []) decision → Contains list decision ⊎ (last ≡ decision)
pushed_cases list last decision there = elim (Contains-append_cases list (last ∷ []) decision there) [
  | inl before ↦ inl before
  | inr now ↦ ⊎_elim (λ same. inr same) (λ later. absurd (contains_none decision later)) (contains_cases last decision [] now)
]

pushed_last : (list : List Decision) (last : Decision) → Contains (list ++ last ∷ []) last
pushed_last list last = Contains-append_right list (last ∷ []) last (contains_head last [])

-- what is a part stays one as the longer list, or both, get longer
part_longer : (fewer more : List Decision) (decision : Decision) → IsPartOf fewer more → IsPartOf fewer (more ++ decision ∷ [])
part_longer fewer more decision part = λ each there. Contains-append_left more (decision ∷ []) each (part each there)

part_both : (fewer more : List Decision) (decision : Decision) → IsPartOf fewer more → IsPartOf (fewer ++ decision ∷ []) (more ++ decision ∷ [])
part_both fewer more decision part = λ each there. elim (pushed_cases fewer decision each there) [
  | inl before ↦ part_longer fewer more decision part each before
  | inr same ↦ subst (Contains (more ++ decision ∷ [])) same (pushed_last more decision)
]

-- they go on to say the same of tokens as both get longer
keeps_both : (fewer more : List Decision) (decision : Decision) → KeepsTokens fewer more → KeepsTokens (fewer ++ decision ∷ []) (more ++ decision ∷ [])
keeps_both fewer more decision keeps = record {
  activated = λ token there. on (Activate token) (keeps.activated token) there;
  merged = λ token target there. on (Merge token target) (keeps.merged token target) there;
  rejected = λ token there. on (Reject token) (keeps.rejected token) there;
}
  where
    on : (each : Decision) → (Contains more each → Contains fewer each) → Contains (more ++ decision ∷ []) each → Contains (fewer ++ decision ∷ []) each
    on each keep there = elim (pushed_cases more decision each there) [
      | inl before ↦ Contains-append_left fewer (decision ∷ []) each (keep before)
      | inr same ↦ subst (Contains (fewer ++ decision ∷ [])) same (pushed_last fewer decision)
    ]

-- and as the shorter one does
keeps_longer : (fewer early : List Decision) (decision : Decision) → KeepsTokens fewer early → KeepsTokens (fewer ++ decision ∷ []) early
keeps_longer fewer early decision keeps = record {
  activated = λ token there. Contains-append_left fewer (decision ∷ []) _ (keeps.activated token there);
  merged = λ token target there. Contains-append_left fewer (decision ∷ []) _ (keeps.merged token target there);
  rejected = λ token there. Contains-append_left fewer (decision ∷ []) _ (keeps.rejected token there);
}

-- ---- settled lists

-- the next decision of a settled list is admissible, and the rest settles behind it
pub next_stays : (model : Model) (before : List Decision) (decision : Decision) (rest : List Decision)
    → SettlesAfter model before (decision ∷ rest) (before ++ decision ∷ rest)
    → IsAdmissible model before decision × SettlesAfter model (before ++ decision ∷ []) rest ((before ++ decision ∷ []) ++ rest)
next_stays model before decision rest (inl stays) =
    (stays.0, subst (SettlesAfter model (before ++ decision ∷ []) rest) (sym (append_assoc before (decision ∷ []) rest)) stays.1)
next_stays model before decision rest (inr goes) =
    absurd (omega (arith, settled_few model before rest (before ++ decision ∷ rest) goes.1, length-append before (decision ∷ rest)))

-- where all that is left leaves a least state, what is kept so far does
pub kept_least : (model : Model) (kept decisions settled : List Decision) (state : State) → SettlesAfter model kept decisions settled → IsLeast model settled state
    → (first : State) × IsLeast model kept first
kept_least model kept [] settled state same least = (state, subst (λ (list : List Decision). IsLeast model list state) same least)
kept_least model kept (decision ∷ decisions) settled state (inl stays) least = (stays.0.state, stays.0.least)
kept_least model kept (decision ∷ decisions) settled state (inr goes) least = kept_least model kept decisions settled state goes.1 least

-- ---- two lists of which the one has less

-- each propagated state lies below the least one
abbrev pub LeastAreAbove : Model → Type 0
LeastAreAbove model =
    (decisions : List Decision) (state other : State)
    → IsSettled model decisions → IsLeast model decisions state → IsPropagatedState model decisions other → IsBelow state other

-- and the least one has no token that isn't supported
abbrev pub LeastAreFounded : Model → Type 0
LeastAreFounded model =
    (decisions : List Decision) (state : State) (token : TokenName)
    → IsSettled model decisions → IsLeast model decisions state → Contains state.tokens token
    → IsSupportedToken model (situation_of decisions state) token

-- a token is there by what the two lists have in common, and only the longer one says what becomes of it
record Misses (model : Model) (fewer more : List Decision) : Type 0 where
  token : TokenName
  early : List Decision
  state : State
  settled : IsSettled model early
  least : IsLeast model early state
  known : Contains state.tokens token
  keeps : KeepsTokens fewer early
  part : IsPartOf early more
  decided : IsDecided model more token
  undecided : IsDecided model fewer token → ⊥

-- two settled lists are parts of the decisions so far, the one with less than the other
record IsThinned (model : Model) (before more fewer : List Decision) : Type 0 where
  part : IsPartOf fewer more
  whole : IsPartOf more before
  tokens : KeepsTokens fewer more ⊎ Misses model fewer more
  settled_more : IsSettled model more
  settled_fewer : IsSettled model fewer

thinned_none : (model : Model) → IsThinned model [] [] []
thinned_none model = record {
  part = λ decision there. there;
  whole = λ decision there. there;
  tokens = inl (record { activated = λ token there. there; merged = λ token target there. there; rejected = λ token there. there });
  settled_more = refl;
  settled_fewer = refl;
}

module _ (model : Model) (above : LeastAreAbove model) (founded : LeastAreFounded model) where
  -- what is closed for the longer list is closed for the shorter one
  closed_thinned : (before more fewer : List Decision) (state : State) → IsThinned model before more fewer → IsClosed model more state → IsClosed model fewer state
  closed_thinned before more fewer state thinned closed = elim thinned.tokens [
    | inl keeps ↦ closed_same fewer more thinned.part state model keeps closed
    | inr misses ↦
        let below = above misses.early misses.state state misses.settled misses.least (fewer_propagated misses.early more misses.part state model closed.consistent) in
        let first = founded misses.early misses.state misses.token misses.settled misses.least misses.known in
        let later = supported_further model (situation_of misses.early misses.state) (situation_of misses.early state)
        (further_below model misses.early misses.state state below) misses.token first in
        let here = supported_further model (situation_of misses.early state) (situation_of fewer state) (further_kept fewer misses.early misses.keeps state) misses.token later in
        closed_undecided fewer more thinned.part state model misses.token here misses.undecided closed
  ]

  module _ (before more fewer : List Decision) (decision : Decision) (thinned : IsThinned model before more fewer) (admissible : IsAdmissible model before decision) where
    already : (each : Decision) → IsAlreadyDecided model more each → IsAlreadyDecided model before each
    already (Specify name value) p = (p.0, thinned.whole _ p.1)
    already (Activate token) p = decided_more more before thinned.whole model token p
    already (Merge token target) p = decided_more more before thinned.whole model token p
    already (Reject token) p = decided_more more before thinned.whole model token p
    already (Order one other) p = thinned.whole _ p
    already (Constrain kind arguments) p = thinned.whole _ p
    already (Relate relation one other) p = thinned.whole _ p

    undecided : IsAlreadyDecided model more decision → ⊥
    undecided p = admissible.free Decided (already decision p)

    -- ---- what is admissible after the shorter list is admissible after the longer one

    module _ (state : State) (least : IsLeast model more state) (admits : IsAdmissible model fewer decision) where
      lower : IsBelow admits.state state
      lower = above fewer admits.state state thinned.settled_fewer admits.least (fewer_propagated fewer more thinned.part state model least.closed.consistent)

      needs : (each : Decision) → NeedsActive model more each → NeedsActive model fewer each
      needs (Specify name value) p = λ counts. p (counts_further model (IsTaken fewer) (IsTaken more) (taken_more fewer more thinned.part) (Variable name) counts)
      needs (Activate token) p = p
      needs (Merge token target) p = λ active. p (active_more fewer more thinned.part model target active)
      needs (Reject token) p = p
      needs (Order one other) (inl p) = inl (λ active. p (active_more fewer more thinned.part model one active))
      needs (Order one other) (inr p) = inr (λ active. p (active_more fewer more thinned.part model other active))
      needs (Constrain kind arguments) p = λ counting.
          p (All-weaker (ArgumentCounts model (IsTaken fewer)) (ArgumentCounts model (IsTaken more))
          (counts_further model (IsTaken fewer) (IsTaken more) (taken_more fewer more thinned.part)) (map argument_of arguments) counting)
      needs (Relate relation one other) p = λ counting. p (token_needs one counting.0, token_needs other counting.1)
        where
          token_needs : (token : TokenName) → TokenCounts model (IsTaken fewer) token → TokenCounts model (IsTaken more) token
          token_needs token counts = λ rejectable. taken_more fewer more thinned.part token (counts rejectable)

      full : AreActive model more 512 → AreActive model before 512
      full p = record {
        tokens = p.tokens;
        distinct = p.distinct;
        active = All-weaker (IsActive model more) (IsActive model before) (active_more more before thinned.whole model) p.tokens p.active;
        enough = p.enough;
      }

      hinders : (reason : Refusal) (each : Decision) → each ≡ decision → Hinders model more state reason each → ⊥
      hinders Unknown each is p = admits.free Unknown (λ there. p (subst (IsKnown state) (sym is) (known_below admits.state state lower decision there)))
      hinders WrongType (Specify name value) is p = p
      hinders WrongType (Activate token) is p = p
      hinders WrongType (Merge token target) is p = p
      hinders WrongType (Reject token) is p = p
      hinders WrongType (Order one other) is p = p
      hinders WrongType (Constrain kind arguments) is p = admits.free WrongType (subst (Hinders model fewer admits.state WrongType) is p)
      hinders WrongType (Relate relation one other) is p = p
      hinders Decided each is p = undecided (subst (IsAlreadyDecided model more) is p)
      hinders NotInDomain (Specify name value) is p = admits.free NotInDomain (subst (Hinders model fewer admits.state NotInDomain) is p)
      hinders NotInDomain (Activate token) is p = p
      hinders NotInDomain (Merge token target) is p = p
      hinders NotInDomain (Reject token) is p = p
      hinders NotInDomain (Order one other) is p = p
      hinders NotInDomain (Constrain kind arguments) is p = admits.free NotInDomain (subst (Hinders model fewer admits.state NotInDomain) is p)
      hinders NotInDomain (Relate relation one other) is p = p
      hinders NotActive each is p = admits.free NotActive (subst (NeedsActive model fewer) is (needs each p))
      hinders NotSamePredicate (Specify name value) is p = p
      hinders NotSamePredicate (Activate token) is p = p
      hinders NotSamePredicate (Merge token target) is p = admits.free NotSamePredicate (subst (Hinders model fewer admits.state NotSamePredicate) is p)
      hinders NotSamePredicate (Reject token) is p = p
      hinders NotSamePredicate (Order one other) is p = p
      hinders NotSamePredicate (Constrain kind arguments) is p = p
      hinders NotSamePredicate (Relate relation one other) is p = p
      hinders NotRejectable (Specify name value) is p = p
      hinders NotRejectable (Activate token) is p = p
      hinders NotRejectable (Merge token target) is p = p
      hinders NotRejectable (Reject token) is p = admits.free NotRejectable (subst (Hinders model fewer admits.state NotRejectable) is p)
      hinders NotRejectable (Order one other) is p = p
      hinders NotRejectable (Constrain kind arguments) is p = p
      hinders NotRejectable (Relate relation one other) is p = p
      hinders SameToken (Specify name value) is p = p
      hinders SameToken (Activate token) is p = p
      hinders SameToken (Merge token target) is p = p
      hinders SameToken (Reject token) is p = p
      hinders SameToken (Order one other) is p = admits.free SameToken (subst (Hinders model fewer admits.state SameToken) is p)
      hinders SameToken (Constrain kind arguments) is p = p
      hinders SameToken (Relate relation one other) is p = admits.free SameToken (subst (Hinders model fewer admits.state SameToken) is p)
      hinders ActiveFull (Specify name value) is p = p
      hinders ActiveFull (Activate token) is p = admissible.free ActiveFull (subst (Hinders model before admissible.state ActiveFull) is (full p))
      hinders ActiveFull (Merge token target) is p = p
      hinders ActiveFull (Reject token) is p = p
      hinders ActiveFull (Order one other) is p = p
      hinders ActiveFull (Constrain kind arguments) is p = p
      hinders ActiveFull (Relate relation one other) is p = p

      admits_more : IsAdmissible model more decision
      admits_more = record { state = state; least = least; free = λ reason p. hinders reason decision refl p }

    -- ---- both get longer, or the longer one alone, or neither

    module _ (admits : IsAdmissible model more decision) where
      misses_both : Misses model fewer more → Misses model (fewer ++ decision ∷ []) (more ++ decision ∷ [])
      misses_both p = record {
        token = p.token;
        early = p.early;
        state = p.state;
        settled = p.settled;
        least = p.least;
        known = p.known;
        keeps = keeps_longer fewer p.early decision p.keeps;
        part = part_longer p.early more decision p.part;
        decided = decided_more more (more ++ decision ∷ []) (part_longer more more decision (λ each there. there)) model p.token p.decided;
        undecided = still;
      }
        where
          was : IsDecided model before p.token
          was = decided_more more before thinned.whole model p.token p.decided

          no_more : (each : Decision) → IsAlreadyDecided model before each → decision ≡ each → ⊥
          no_more each decided same = admissible.free Decided (subst (IsAlreadyDecided model before) (sym same) decided)

          still : IsDecided model (fewer ++ decision ∷ []) p.token → ⊥
          still (inl fact) = p.undecided (inl fact)
          still (inr (inl (inl there))) =
              ⊎_elim (λ old. p.undecided (inr (inl (inl old)))) (no_more (Activate p.token) was) (pushed_cases fewer decision (Activate p.token) there)
          still (inr (inl (inr there))) =
              ⊎_elim (λ old. p.undecided (inr (inl (inr (there.0, old))))) (no_more (Merge p.token there.0) was) (pushed_cases fewer decision (Merge p.token there.0) there.1)
          still (inr (inr there)) =
              ⊎_elim (λ old. p.undecided (inr (inr old))) (no_more (Reject p.token) was) (pushed_cases fewer decision (Reject p.token) there)

      misses_more : Misses model fewer more → Misses model fewer (more ++ decision ∷ [])
      misses_more p = record {
        token = p.token;
        early = p.early;
        state = p.state;
        settled = p.settled;
        least = p.least;
        known = p.known;
        keeps = p.keeps;
        part = part_longer p.early more decision p.part;
        decided = decided_more more (more ++ decision ∷ []) (part_longer more more decision (λ each there. there)) model p.token p.decided;
        undecided = p.undecided;
      }

      -- the decision says what becomes of a token that was there
      misses_now : (token : TokenName) → Contains admits.state.tokens token → IsDecided model (more ++ decision ∷ []) token
          → (IsDecided model more token → IsAlreadyDecided model more decision) → KeepsTokens fewer more → Misses model fewer (more ++ decision ∷ [])
      misses_now token there decided old keeps = record {
        token = token;
        early = more;
        state = admits.state;
        settled = thinned.settled_more;
        least = admits.least;
        known = there;
        keeps = keeps;
        part = part_longer more more decision (λ each known. known);
        decided = decided;
        undecided = λ fewer_decided. undecided (old (decided_more fewer more thinned.part model token fewer_decided));
      }

      is_known : IsKnown admits.state decision
      is_known = ⊎_elim (λ there. there) (λ none. absurd (admits.free Unknown none)) (known_or_not admits.state decision)

      keeps_more : KeepsTokens fewer more → ((token : TokenName) → decision ≡ Activate token → ⊥)
          → ((token target : TokenName) → decision ≡ Merge token target → ⊥) → ((token : TokenName) → decision ≡ Reject token → ⊥)
          → KeepsTokens fewer (more ++ decision ∷ [])
      keeps_more keeps no_activation no_merge no_rejection = record {
        activated = λ token there. ⊎_elim (keeps.activated token) (λ same. absurd (no_activation token same)) (pushed_cases more decision (Activate token) there);
        merged = λ token target there. ⊎_elim (keeps.merged token target) (λ same. absurd (no_merge token target same)) (pushed_cases more decision (Merge token target) there);
        rejected = λ token there. ⊎_elim (keeps.rejected token) (λ same. absurd (no_rejection token same)) (pushed_cases more decision (Reject token) there);
      }

      last_there : (each : Decision) → decision ≡ each → Contains (more ++ decision ∷ []) each
      last_there each same = subst (Contains (more ++ decision ∷ [])) same (pushed_last more decision)

      tokens_more : (each : Decision) → decision ≡ each → KeepsTokens fewer more → KeepsTokens fewer (more ++ decision ∷ []) ⊎ Misses model fewer (more ++ decision ∷ [])
      tokens_more (Specify name value) is keeps =
          inl (keeps_more keeps
          (λ token same. let apart : ⊥ = cc in apart)
          (λ token target same. let apart : ⊥ = cc in apart)
          (λ token same. let apart : ⊥ = cc in apart))
      tokens_more (Order one other) is keeps =
          inl (keeps_more keeps
          (λ token same. let apart : ⊥ = cc in apart)
          (λ token target same. let apart : ⊥ = cc in apart)
          (λ token same. let apart : ⊥ = cc in apart))
      tokens_more (Constrain kind arguments) is keeps =
          inl (keeps_more keeps
          (λ token same. let apart : ⊥ = cc in apart)
          (λ token target same. let apart : ⊥ = cc in apart)
          (λ token same. let apart : ⊥ = cc in apart))
      tokens_more (Relate relation one other) is keeps =
          inl (keeps_more keeps
          (λ token same. let apart : ⊥ = cc in apart)
          (λ token target same. let apart : ⊥ = cc in apart)
          (λ token same. let apart : ⊥ = cc in apart))
      tokens_more (Activate token) is keeps =
          inr (misses_now token (subst (IsKnown admits.state) is is_known) (inr (inl (inl (last_there (Activate token) is))))
          (λ decided. subst (IsAlreadyDecided model more) (sym is) decided) keeps)
      tokens_more (Merge token target) is keeps =
          inr (misses_now token (subst (IsKnown admits.state) is is_known).0 (inr (inl (inr (target, last_there (Merge token target) is))))
          (λ decided. subst (IsAlreadyDecided model more) (sym is) decided) keeps)
      tokens_more (Reject token) is keeps =
          inr (misses_now token (subst (IsKnown admits.state) is is_known) (inr (inr (last_there (Reject token) is)))
          (λ decided. subst (IsAlreadyDecided model more) (sym is) decided) keeps)

      thinned_both : IsAdmissible model fewer decision → IsThinned model (before ++ decision ∷ []) (more ++ decision ∷ []) (fewer ++ decision ∷ [])
      thinned_both fewer_admits = record {
        part = part_both fewer more decision thinned.part;
        whole = part_both more before decision thinned.whole;
        tokens = ⊎_elim (λ keeps. inl (keeps_both fewer more decision keeps)) (λ misses. inr (misses_both misses)) thinned.tokens;
        settled_more = IsSettled-push model more decision thinned.settled_more admits;
        settled_fewer = IsSettled-push model fewer decision thinned.settled_fewer fewer_admits;
      }

      thinned_more : IsThinned model (before ++ decision ∷ []) (more ++ decision ∷ []) fewer
      thinned_more = record {
        part = part_longer fewer more decision thinned.part;
        whole = part_both more before decision thinned.whole;
        tokens = ⊎_elim (tokens_more decision refl) (λ misses. inr (misses_more misses)) thinned.tokens;
        settled_more = IsSettled-push model more decision thinned.settled_more admits;
        settled_fewer = thinned.settled_fewer;
      }

    thinned_neither : IsThinned model (before ++ decision ∷ []) more fewer
    thinned_neither = record {
      part = thinned.part;
      whole = part_longer more before decision thinned.whole;
      tokens = thinned.tokens;
      settled_more = thinned.settled_more;
      settled_fewer = thinned.settled_fewer;
    }

-- ---- parts of a list

-- both lists are parts of the whole in its order, and the small one is one of the big one
abbrev pub ArePartsOf : List Decision → List Decision → List Decision → Type 0
ArePartsOf [] big small = (big ≡ []) × (small ≡ [])
ArePartsOf (decision ∷ whole) big small =
    ((more : List Decision) × (fewer : List Decision) × (big ≡ decision ∷ more) × (small ≡ decision ∷ fewer) × ArePartsOf whole more fewer)
    ⊎ (((more : List Decision) × (big ≡ decision ∷ more) × ArePartsOf whole more small)
    ⊎ ArePartsOf whole big small)

module _ (model : Model) (above : LeastAreAbove model) (founded : LeastAreFounded model) where
  leaves_closed : (before rest more fewer big small left_big left_small : List Decision) (state : State)
      → IsThinned model before more fewer → SettlesAfter model before rest (before ++ rest) → ArePartsOf rest big small
      → SettlesAfter model more big left_big → SettlesAfter model fewer small left_small → IsLeast model left_big state → IsClosed model left_small state
  leaves_closed before [] more fewer big small left_big left_small state thinned settles parts on_big on_small least =
      let same_big : left_big ≡ more = subst (λ (list : List Decision). SettlesAfter model more list left_big) parts.0 on_big in
      let same_small : left_small ≡ fewer = subst (λ (list : List Decision). SettlesAfter model fewer list left_small) parts.1 on_small in
      subst (λ (list : List Decision). IsClosed model list state) (sym same_small)
      (closed_thinned model above founded before more fewer state thinned (subst (λ (list : List Decision). IsClosed model list state) same_big least.closed))
  leaves_closed before (decision ∷ rest) more fewer big small left_big left_small state thinned settles (inl parts) on_big on_small least =
      let next = next_stays model before decision rest settles in
      let big_next : SettlesAfter model more (decision ∷ parts.0) left_big = subst (λ (list : List Decision). SettlesAfter model more list left_big) parts.2 on_big in
      let small_next : SettlesAfter model fewer (decision ∷ parts.1) left_small = subst (λ (list : List Decision). SettlesAfter model fewer list left_small) parts.3 on_small in
      elim big_next [
        | inl stays ↦ elim small_next [
          | inl also ↦ leaves_closed (before ++ decision ∷ []) rest (more ++ decision ∷ []) (fewer ++ decision ∷ []) parts.0 parts.1 left_big left_small state
              (thinned_both model above founded before more fewer decision thinned next.0 stays.0 also.0) next.1 parts.4 stays.1 also.1 least
          | inr gone ↦ leaves_closed (before ++ decision ∷ []) rest (more ++ decision ∷ []) fewer parts.0 parts.1 left_big left_small state
              (thinned_more model above founded before more fewer decision thinned next.0 stays.0) next.1 parts.4 stays.1 gone.1 least
        ]
        | inr goes ↦ elim small_next [
          | inl also ↦
              let first = kept_least model more parts.0 left_big state goes.1 least in
              absurd (goes.0 (admits_more model above founded before more fewer decision thinned next.0 first.0 first.1 also.0))
          | inr gone ↦ leaves_closed (before ++ decision ∷ []) rest more fewer parts.0 parts.1 left_big left_small state
              (thinned_neither model above founded before more fewer decision thinned next.0) next.1 parts.4 goes.1 gone.1 least
        ]
      ]
  leaves_closed before (decision ∷ rest) more fewer big small left_big left_small state thinned settles (inr (inl parts)) on_big on_small least =
      let next = next_stays model before decision rest settles in
      let big_next : SettlesAfter model more (decision ∷ parts.0) left_big = subst (λ (list : List Decision). SettlesAfter model more list left_big) parts.1 on_big in
      elim big_next [
        | inl stays ↦ leaves_closed (before ++ decision ∷ []) rest (more ++ decision ∷ []) fewer parts.0 small left_big left_small state
            (thinned_more model above founded before more fewer decision thinned next.0 stays.0) next.1 parts.2 stays.1 on_small least
        | inr goes ↦ leaves_closed (before ++ decision ∷ []) rest more fewer parts.0 small left_big left_small state
            (thinned_neither model above founded before more fewer decision thinned next.0) next.1 parts.2 goes.1 on_small least
      ]
  leaves_closed before (decision ∷ rest) more fewer big small left_big left_small state thinned settles (inr (inr parts)) on_big on_small least =
      let next = next_stays model before decision rest settles in
      leaves_closed (before ++ decision ∷ []) rest more fewer big small left_big left_small state
      (thinned_neither model above founded before more fewer decision thinned next.0) next.1 parts on_big on_small least

  -- what is left of the small part leaves something where what is left of the big one does
  pub small_leaves : (whole big small left_big left_small : List Decision) (state : State) → IsSettled model whole → ArePartsOf whole big small
      → SettlesAfter model [] big left_big → SettlesAfter model [] small left_small → IsLeast model left_big state → IsClosed model left_small state
  small_leaves whole big small left_big left_small state settled parts on_big on_small least =
      leaves_closed [] whole [] [] big small left_big left_small state (thinned_none model) settled parts on_big on_small least
