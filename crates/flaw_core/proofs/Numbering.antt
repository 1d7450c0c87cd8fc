-- The choices of a flaw by number.
use Rattle.std.proofs.Common.{◌≡◌, ℕ, zero, suc, ◌+◌, ◌<◌, length, inl, inr, List, [], ◌∷◌, ◌++◌, Option, Some, None, Bool, true, false, refl, sym, ap, ◌∙◌, subst, option_map, arith}
use Rattle.std.specs.Prelude.{slice_get, map, ◌↔◌, IsTrue, MatchBool}
use Rattle.std.proofs.lemmas.List.{length-map}
use Rattle.std.proofs.lemmas.Option.{slice_get_past, slice_get-map}
use Rattle.eu_name.specs.declared.name.TokenName.{TokenName}
use Rattle.eu_name.specs.declared.name.VarName.{VarName}
use Rattle.model_core.specs.declared.decision.Decision.{Decision}
use Rattle.model_core.specs.declared.decision.Decision.TheVariants as decision
use Rattle.model_core.specs.declared.model.Model.{Model}
use Rattle.model_core.specs.declared.rule.Slot.{Slot}
use Rattle.model_core.specs.Decided.{IsActive}
use Rattle.model_core.specs.State.{State}
use Rattle.model_core.specs.Tokens.{HasToken, IsRejectable}
use Rattle.model_core.specs.Views.{IsTokenAt}
use Rattle.model_core.proofs.Leading.{token_once}
use Rattle.plan_defs.specs.Refusals.{HaveSamePredicate, AreActive}
use Rattle.plan_defs.specs.Flaws.{Undecided, Undetermined, Unordered, Untimed}
use Rattle.plan_defs.proofs.Telling.{one_at}
use Rattle.eu_name.proofs.Places.{get_front}
use Rattle.law_search.specs.Choices.{AreTargets, AreTokenChoices, AreValueChoices, IsActivationLeft, IsRejectionLeft}
use Rattle.flaw_core.specs.declared.choosing.Choice.{Choice}
use Rattle.flaw_core.specs.declared.choosing.Choice.TheVariants.{Specify, Activate, Merge, Reject, Order}
use Rattle.flaw_core.specs.Gathering.{AreAllThat, IsTarget}
use Rattle.flaw_core.specs.declared.flaw.Flaw as by_places
use Rattle.flaw_core.specs.declared.flaw.Flaw.TheVariants as flaws
use Rattle.flaw_core.specs.declared.flaw.VarPlace.{VarPlace}
use Rattle.flaw_core.specs.Places.{IsVarAt}
use Rattle.flaw_core.specs.Rules.{IsFirstAt, AreChoicesAt}
use Rattle.flaw_core.specs.Picking.{IsNamedBy, PicksChoice}
use Rattle.flaw_core.proofs.Sorting.{var_once}

-- ---- items by number

pub get_right : {X : Type 0} (xs ys : List X) (k : ℕ) → slice_get (xs ++ ys) (length xs + k) ≡ slice_get ys k
get_right [] ys k = let none : 0 + k ≡ k = omega arith in ap (λ (n : ℕ). slice_get ys n) none
get_right (x ∷ xs) ys k =
    let one : length (x ∷ xs) + k ≡ suc (length xs + k) = omega arith in
    subst (λ n. slice_get (x ∷ (xs ++ ys)) n ≡ slice_get ys k) (sym one) (get_right xs ys k)

pub get_map : {X Y : Type 0} (f : X → Y) (xs : List X) (k : ℕ) (x : X) → slice_get xs k ≡ Some x → slice_get (map f xs) k ≡ Some (f x)
get_map f xs k x at = slice_get-map f xs k ∙ ap (option_map f) at

module _ (state : State) where
  -- what stands at a number of the same list
  pub picks_same : (xs ys : List Decision) (number : ℕ) (found : Option Choice) → xs ≡ ys → PicksChoice state xs number found → PicksChoice state ys number found
  picks_same xs ys number found same picks = subst (λ (l : List Decision). PicksChoice state l number found) same picks

  -- and of what is behind others
  pub picks_behind : (xs ys : List Decision) (number left : ℕ) (found : Option Choice) → number ≡ length xs + left → PicksChoice state ys left found → PicksChoice state (xs ++ ys) number found
  picks_behind xs ys number left None count picks = subst (λ n. slice_get (xs ++ ys) n ≡ None) (sym count) (get_right xs ys left ∙ picks)
  picks_behind xs ys number left (Some choice) count (named, is, at) = (named, is, subst (λ n. slice_get (xs ++ ys) n ≡ Some named) (sym count) (get_right xs ys left ∙ at))

  pub picks_front : (xs ys : List Decision) (number : ℕ) (choice : Choice) (named : Decision) → IsNamedBy state choice named → slice_get xs number ≡ Some named → PicksChoice state (xs ++ ys) number (Some choice)
  picks_front xs ys number choice named is at = (named, is, get_front xs ys number named at)

-- ---- the rejection and the activation

module _ (model : Model) (decisions : List Decision) (state : State) (bound place : ℕ) (token : TokenName) (here : IsTokenAt state place token) where
  open_none : (number : ℕ) → slice_get {X = Decision} [] number ≡ None
  open_none number = slice_get_past [] number (omega arith)

  pub rejection_past : (choices : List Decision) (number : ℕ) → 0 < number → IsRejectionLeft model token choices → PicksChoice state choices number None
  rejection_past choices number some (inl (may, are)) = subst (λ (l : List Decision). slice_get l number ≡ None) (sym are) (slice_get_past (decision.Reject token ∷ []) number (omega (arith, some)))
  rejection_past choices number some (inr (not, are)) = subst (λ (l : List Decision). slice_get l number ≡ None) (sym are) (open_none number)

  pub rejection_first : (choices : List Decision) (number : ℕ) → number ≡ 0 → IsRejectable model token → IsRejectionLeft model token choices → PicksChoice state choices number (Some (Reject place))
  rejection_first choices number zeroth may (inl (held, are)) = (
    decision.Reject token,
    (token, here, refl),
    subst (λ (l : List Decision). slice_get l number ≡ Some (decision.Reject token)) (sym are)
        (subst (λ n. slice_get (decision.Reject token ∷ []) n ≡ Some (decision.Reject token)) (sym zeroth) refl),
  )
  rejection_first choices number zeroth may (inr (not, are)) = absurd (not may)

  pub rejection_none : (choices : List Decision) (number : ℕ) → (IsRejectable model token → ⊥) → IsRejectionLeft model token choices → PicksChoice state choices number None
  rejection_none choices number not (inl (may, are)) = absurd (not may)
  rejection_none choices number not (inr (held, are)) = subst (λ (l : List Decision). slice_get l number ≡ None) (sym are) (open_none number)

  -- where so many are active there is no activation
  pub own_full : (activation rejection : List Decision) (number : ℕ) (found : Option Choice) → AreActive model decisions bound → IsActivationLeft model decisions bound token activation
      → PicksChoice state rejection number found → PicksChoice state (activation ++ rejection) number found
  own_full activation rejection number found full (inl (room, are)) picks = absurd (room full)
  own_full activation rejection number found full (inr (held, are)) picks = picks_same state rejection (activation ++ rejection) number found (ap (λ (l : List Decision). l ++ rejection) (sym are)) picks

  pub own_first : (activation rejection : List Decision) (number : ℕ) → number ≡ 0 → (AreActive model decisions bound → ⊥) → IsActivationLeft model decisions bound token activation
      → PicksChoice state (activation ++ rejection) number (Some (Activate place))
  own_first activation rejection number zeroth room (inl (held, are)) = (
    decision.Activate token,
    (token, here, refl),
    subst (λ (l : List Decision). slice_get (l ++ rejection) number ≡ Some (decision.Activate token)) (sym are)
        (subst (λ n. slice_get (decision.Activate token ∷ rejection) n ≡ Some (decision.Activate token)) (sym zeroth) refl),
  )
  own_first activation rejection number zeroth room (inr (full, are)) = absurd (room full)

  pub own_later : (activation rejection : List Decision) (number left : ℕ) (found : Option Choice) → number ≡ left + 1 → (AreActive model decisions bound → ⊥) → IsActivationLeft model decisions bound token activation
      → PicksChoice state rejection left found → PicksChoice state (activation ++ rejection) number found
  own_later activation rejection number left found count room (inl (held, are)) picks =
      picks_same state ((decision.Activate token ∷ []) ++ rejection) (activation ++ rejection) number found (ap (λ (l : List Decision). l ++ rejection) (sym are))
      (picks_behind state (decision.Activate token ∷ []) rejection number left found (omega (arith, count)) picks)
  own_later activation rejection number left found count room (inr (full, are)) picks = absurd (room full)

  -- ---- targets

  -- the targets are the active tokens of the token's predicate
  pub targets_all : (pred : ℕ) (targets : List TokenName) → ((slot : Slot) × HasToken model token slot × (slot.pred ≡ pred)) → AreTargets model decisions state token targets
      → AreAllThat (IsTarget model decisions pred) state targets
  targets_all pred targets has are = record {
    order = are.order;
    are = λ target. (
      λ there. let is = (are.are target).0 there in (is.0, (is.1.0, into is.1.1)),
      λ is. (are.are target).1 (is.0, (is.1.0, from is.1.1)),
    );
  }
    where
      into : {target : TokenName} → HaveSamePredicate model token target → (slot : Slot) × HasToken model target slot × (slot.pred ≡ pred)
      into same =
          let slots = token_once model token same.slot has.0 same.has_one has.1 in
          (same.other_slot, same.has_other, sym same.same ∙ (ap (λ (s : Slot). s.pred) slots ∙ has.2))

      from : {target : TokenName} → ((slot : Slot) × HasToken model target slot × (slot.pred ≡ pred)) → HaveSamePredicate model token target
      from is = record { slot = has.0; other_slot = is.0; has_one = has.1; has_other = is.1; same = has.2 ∙ sym is.2 }

  pub token_at_target : (pred number target : ℕ) (choices : List Decision) → ((slot : Slot) × HasToken model token slot × (slot.pred ≡ pred)) → ((targets : List TokenName) → AreAllThat (IsTarget model decisions pred) state targets → (t : TokenName) × IsTokenAt state target t × (slice_get targets number ≡ Some t))
      → AreTokenChoices model decisions state bound token choices → PicksChoice state choices number (Some (Merge place target))
  token_at_target pred number target choices has picks are =
      let at = picks are.targets (targets_all pred are.targets has are.are_targets) in
      picks_same state (map (λ t. decision.Merge token t) are.targets ++ (are.activation ++ are.rejection)) choices number (Some (Merge place target)) (sym are.are)
      (picks_front state (map (λ t. decision.Merge token t) are.targets) (are.activation ++ are.rejection) number (Merge place target) (decision.Merge token at.0) (token, at.0, (here, at.1, refl))
      (get_map (λ t. decision.Merge token t) are.targets number at.0 at.2))

  pub token_past_targets : (pred number left : ℕ) (found : Option Choice) (choices : List Decision) → ((slot : Slot) × HasToken model token slot × (slot.pred ≡ pred)) → ((targets : List TokenName) → AreAllThat (IsTarget model decisions pred) state targets → number ≡ length targets + left)
      → ((activation rejection : List Decision) → IsActivationLeft model decisions bound token activation → IsRejectionLeft model token rejection → PicksChoice state (activation ++ rejection) left found)
      → AreTokenChoices model decisions state bound token choices → PicksChoice state choices number found
  token_past_targets pred number left found choices has count own are =
      let past = count are.targets (targets_all pred are.targets has are.are_targets) in
      picks_same state (map (λ t. decision.Merge token t) are.targets ++ (are.activation ++ are.rejection)) choices number found (sym are.are)
      (picks_behind state (map (λ t. decision.Merge token t) are.targets) (are.activation ++ are.rejection) number left found
      (omega (arith, past, length-map are.targets (λ t. decision.Merge token t))) (own are.activation are.rejection are.activated are.rejected))

-- ---- targets told

module _ (known model : Model) (same : known ≡ model) (decisions : List Decision) (state : State) (place pred : ℕ) where
  pub target_inactive : ((token : TokenName) → IsTokenAt state place token → IsActive known decisions token → ⊥) → (token : TokenName) → IsTokenAt state place token
      → IsTarget model decisions pred token → ⊥
  target_inactive not token here is = not token here (subst (λ (m : Model). IsActive m decisions token) (sym same) is.0)

  pub target_without : ((token : TokenName) (slot : Slot) → IsTokenAt state place token → HasToken model token slot → ⊥) → (token : TokenName) → IsTokenAt state place token
      → IsTarget model decisions pred token → ⊥
  target_without none token here is = none token is.1.0 here is.1.1

  pub target_told : (found : ℕ) (told : Bool) → ((token : TokenName) × IsTokenAt state place token × IsActive known decisions token)
      → ((token : TokenName) × IsTokenAt state place token × ((slot : Slot) × HasToken model token slot × (slot.pred ≡ found)))
      → IsTrue told ↔ (found ≡ pred)
      → MatchBool told ((token : TokenName) × IsTokenAt state place token × IsTarget model decisions pred token)
      ((token : TokenName) → IsTokenAt state place token → IsTarget model decisions pred token → ⊥)
  target_told found true (token, here, active) (other, there, (slot, has, is)) says = (
    token,
    here,
    (
      subst (λ (m : Model). IsActive m decisions token) same active,
      (slot, subst (λ (t : TokenName). HasToken model t slot) (one_at state place other token there here) has, is ∙ says.0 refl),
    ),
  )
  target_told found false active (other, there, (slot, has, is)) says = λ token here target.
      let own = subst (λ (t : TokenName). HasToken model t slot) (one_at state place other token there here) has in
      let slots = token_once model token slot target.1.0 own target.1.1 in
      let e : found ≡ pred = sym is ∙ (ap (λ (s : Slot). s.pred) slots ∙ target.1.2) in
      let p : false ≡ true = says.1 e in
      cc

pub pred_here : (model : Model) (state : State) (place : ℕ) (token : TokenName) (pred : ℕ) → IsTokenAt state place token
    → ((other : TokenName) × IsTokenAt state place other × ((slot : Slot) × HasToken model other slot × (slot.pred ≡ pred)))
    → (slot : Slot) × HasToken model token slot × (slot.pred ≡ pred)
pred_here model state place token pred here (other, there, (slot, has, is)) =
    (slot, subst (λ (t : TokenName). HasToken model t slot) (one_at state place other token there here) has, is)

pub rejection_told : (P : TokenName → Type 0) (state : State) (place : ℕ) (found token : TokenName) → Some found ≡ slice_get state.tokens place → IsTokenAt state place token → P found → P token
rejection_told P state place found token at here is = subst P (one_at state place found token (sym at) here) is

-- a place without a token has none
pub absent : (state : State) (place : ℕ) (token : TokenName) → None ≡ slice_get state.tokens place → IsTokenAt state place token → ⊥
absent state place token none here = no_token token (none ∙ here)
  where
    no_token : (t : TokenName) → None ≡ Some t → ⊥
    no_token t same = cc

-- ---- each sort of flaw

module _ (model : Model) (decisions : List Decision) (state : State) (bound : ℕ) where
  -- what is picked of the flaw that it is
  pub same_flaw : (flaw own : by_places.Flaw) (number : ℕ) (found : Option Choice) → flaw ≡ own → IsFirstAt model decisions state (Some flaw)
      → (IsFirstAt model decisions state (Some own) → (choices : List Decision) → AreChoicesAt model decisions state bound own choices → PicksChoice state choices number found)
      → (choices : List Decision) → AreChoicesAt model decisions state bound flaw choices → PicksChoice state choices number found
  same_flaw flaw own number found same first picks choices are =
      picks (subst (λ (f : by_places.Flaw). IsFirstAt model decisions state (Some f)) same first) choices
      (subst (λ (f : by_places.Flaw). AreChoicesAt model decisions state bound f choices) same are)

  pub found_token : (place number : ℕ) (found : Option Choice) → IsFirstAt model decisions state (Some (flaws.Token place))
      → ((token : TokenName) (choices : List Decision) → IsTokenAt state place token → AreTokenChoices model decisions state bound token choices → PicksChoice state choices number found)
      → (choices : List Decision) → AreChoicesAt model decisions state bound (flaws.Token place) choices → PicksChoice state choices number found
  found_token place number found (Undecided token, here, first) picks choices are = picks token choices here (are (Undecided token) here)
  found_token place number found (Undetermined name, here, first) picks choices are = absurd here
  found_token place number found (Unordered one other, here, first) picks choices are = absurd here
  found_token place number found (Untimed name, here, first) picks choices are = absurd here

  pub found_value : (at : VarPlace) (number : ℕ) (found : Option Choice) → IsFirstAt model decisions state (Some (flaws.Value at))
      → ((name : VarName) (choices : List Decision) → IsVarAt state at name → AreValueChoices state name choices → PicksChoice state choices number found)
      → (choices : List Decision) → AreChoicesAt model decisions state bound (flaws.Value at) choices → PicksChoice state choices number found
  found_value at number found (Undetermined name, here, first) picks choices are = picks name choices here (are (Undetermined name) here)
  found_value at number found (Undecided token, here, first) picks choices are = absurd here
  found_value at number found (Unordered one other, here, first) picks choices are = absurd here
  found_value at number found (Untimed name, here, first) picks choices are = absurd here

  pub found_time : (at : VarPlace) (number : ℕ) (found : Option Choice) → IsFirstAt model decisions state (Some (flaws.Time at))
      → ((name : VarName) (choices : List Decision) → IsVarAt state at name → AreValueChoices state name choices → PicksChoice state choices number found)
      → (choices : List Decision) → AreChoicesAt model decisions state bound (flaws.Time at) choices → PicksChoice state choices number found
  found_time at number found (Untimed name, here, first) picks choices are = picks name choices here (are (Untimed name) here)
  found_time at number found (Undecided token, here, first) picks choices are = absurd here
  found_time at number found (Unordered one other, here, first) picks choices are = absurd here
  found_time at number found (Undetermined name, here, first) picks choices are = absurd here

  pair_picked : (m n : ℕ) (one other : TokenName) (number : ℕ) (found : Option Choice) → IsTokenAt state m one → IsTokenAt state n other
      → found ≡ slice_get (Order m n ∷ Order n m ∷ []) number → PicksChoice state (decision.Order one other ∷ decision.Order other one ∷ []) number found
  pair_picked m n one other zero found here there is =
      subst (PicksChoice state (decision.Order one other ∷ decision.Order other one ∷ []) 0) (sym is) (decision.Order one other, (one, other, (here, there, refl)), refl)
  pair_picked m n one other (suc zero) found here there is =
      subst (PicksChoice state (decision.Order one other ∷ decision.Order other one ∷ []) 1) (sym is) (decision.Order other one, (other, one, (there, here, refl)), refl)
  pair_picked m n one other (suc (suc k)) found here there is =
      subst (PicksChoice state (decision.Order one other ∷ decision.Order other one ∷ []) (suc (suc k))) (sym is) refl

  pub found_pair : (m n number : ℕ) (found : Option Choice) → IsFirstAt model decisions state (Some (flaws.Pair m n)) → found ≡ slice_get (Order m n ∷ Order n m ∷ []) number
      → (choices : List Decision) → AreChoicesAt model decisions state bound (flaws.Pair m n) choices → PicksChoice state choices number found
  found_pair m n number found (Unordered one other, here, first) is choices are =
      picks_same state (decision.Order one other ∷ decision.Order other one ∷ []) choices number found (sym (are (Unordered one other) here)) (pair_picked m n one other number found here.0 here.1 is)
  found_pair m n number found (Undecided token, here, first) is choices are = absurd here
  found_pair m n number found (Undetermined name, here, first) is choices are = absurd here
  found_pair m n number found (Untimed name, here, first) is choices are = absurd here

-- ---- names of choices

module _ (state : State) where
  named_once : (choice : Choice) (one other : Decision) → IsNamedBy state choice one → IsNamedBy state choice other → one ≡ other
  named_once (Specify at value) one other (a, p, x) (b, q, y) = x ∙ (ap (λ (n : VarName). decision.Specify n value) (var_once state at a b p q) ∙ sym y)
  named_once (Activate place) one other (a, p, x) (b, q, y) = x ∙ (ap decision.Activate (one_at state place a b p q) ∙ sym y)
  named_once (Reject place) one other (a, p, x) (b, q, y) = x ∙ (ap decision.Reject (one_at state place a b p q) ∙ sym y)
  named_once (Merge place target) one other (a, b, (p, q, x)) (c, d, (r, s, y)) =
      x ∙ ((λ i. decision.Merge (one_at state place a c p r i) (one_at state target b d q s i)) ∙ sym y)
  named_once (Order place behind) one other (a, b, (p, q, x)) (c, d, (r, s, y)) =
      x ∙ ((λ i. decision.Order (one_at state place a c p r i) (one_at state behind b d q s i)) ∙ sym y)

  pub choice_named : (choices : List Decision) (number : ℕ) (choice : Choice) → PicksChoice state choices number (Some choice) → (named : Decision) × IsNamedBy state choice named
  choice_named choices number choice (named, is, at) = (named, is)

  pub chosen_some : (choices : List Decision) (number : ℕ) (choice : Choice) (made : Decision) → PicksChoice state choices number (Some choice) → IsNamedBy state choice made → Some made ≡ slice_get choices number
  chosen_some choices number choice made (named, is, at) own = ap Some (named_once choice made named own is) ∙ sym at
