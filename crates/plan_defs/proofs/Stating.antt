-- What is said of one token.
use Rattle.std.proofs.Common.{◌≡◌, ℕ, List, [], ◌∷◌, suc, Some, ℤ, Bool, true, false, inl, inr, refl, sym, ap, ◌∙◌, subst, arith}
use Rattle.std.specs.Prelude.{Contains, slice_get}
use Rattle.domain_core.specs.Domain.{Domain, IsSingle}
use Rattle.eu_name.specs.declared.name.Part.{Part}
use Rattle.eu_name.specs.declared.name.Part.TheVariants.{Start}
use Rattle.eu_name.specs.declared.name.TokenName.{TokenName}
use Rattle.eu_name.specs.declared.name.VarName.{VarName}
use Rattle.eu_name.specs.declared.name.VarName.TheVariants as variables
use Rattle.eu_name.proofs.Members.{get_within, get_all, contains_from_get}
use Rattle.model_core.specs.declared.class.Pred.{Pred}
use Rattle.model_core.specs.declared.decision.Decision.{Decision}
use Rattle.model_core.specs.declared.decision.Decision.TheVariants.{Activate, Merge, Reject}
use Rattle.model_core.specs.declared.model.Model.{Model}
use Rattle.model_core.specs.declared.rule.Slot.{Slot}
use Rattle.model_core.specs.Decided.{IsRejected, IsDecided}
use Rattle.model_core.specs.State.{State, Gives}
use Rattle.model_core.specs.Tokens.{HasToken}
use Rattle.model_core.specs.TokenStates.{IsMergedAt}
use Rattle.model_core.specs.Variables.{HasPartBase}
use Rattle.model_core.specs.Views.{IsTokenAt}
use Rattle.model_core.proofs.Leading.{token_once}
use Rattle.plan_defs.specs.declared.plan.Line.{Line}
use Rattle.plan_defs.specs.declared.plan.Line.TheVariants as lines
use Rattle.plan_defs.specs.Plans.{place_in_values}
use Rattle.plan_defs.proofs.States.{gives_same}
use Rattle.plan_defs.specs.Flaws.{Flaw, Undecided, Undetermined, Unordered, Untimed, IsFlaw, HasFlaw, IsOfRejectedToken, IsUnbound}
use Rattle.plan_defs.specs.StatePlans.{GivesOnly, ArePartValues, TakesPlaceAs, IsTokenLine, IsLineIn, IsSettledState}
use Rattle.plan_defs.specs.Surveying.{AreFirstValues, IsPartUnbound, HasPartCount, IsOwnFlaw, IsOwnLine, IsStatedBy}
use Rattle.plan_defs.proofs.Deciding.{DecidesOnce, decides_once}
use Rattle.plan_defs.proofs.Determining.{value_once, part_flaw}
use Rattle.plan_defs.proofs.Parting.{part_there, has_part, part_below}
use Rattle.plan_defs.proofs.Kinding.{pred_of_slot}
use Rattle.plan_defs.proofs.Telling.{one_at}

-- ---- lists of values

pub same_lists : (xs ys : List ℤ) → ((k : ℕ) (v : ℤ) → slice_get xs k ≡ Some v → slice_get ys k ≡ Some v)
    → ((k : ℕ) (v : ℤ) → slice_get ys k ≡ Some v → slice_get xs k ≡ Some v) → xs ≡ ys
same_lists [] [] forth back = refl
same_lists [] (y ∷ ys) forth back = let e : slice_get {X = ℤ} [] 0 ≡ Some y = back 0 y refl in absurd (cc)
same_lists (x ∷ xs) [] forth back = let e : slice_get {X = ℤ} [] 0 ≡ Some x = forth 0 x refl in absurd (cc)
same_lists (x ∷ xs) (y ∷ ys) forth back =
    let e : Some y ≡ Some x = forth 0 x refl in
    let head : x ≡ y = cc in
    let tail : xs ≡ ys = same_lists xs ys (λ k. forth (suc k)) (λ k. back (suc k)) in
    cc

same_part_values : (state : State) (token : TokenName) (xs ys : List ℤ) → ArePartValues state token xs → ArePartValues state token ys → xs ≡ ys
same_part_values state token xs ys p q = same_lists xs ys (one xs ys p q) (one ys xs q p)
  where
    one : (these those : List ℤ) → ArePartValues state token these → ArePartValues state token those → (k : ℕ) (v : ℤ) → slice_get these k ≡ Some v → slice_get those k ≡ Some v
    one these those first second k v at =
        let part = part_there k in
        let here : slice_get these (place_in_values part.0) ≡ Some v = subst (λ n. slice_get these n ≡ Some v) (sym part.1) at in
        subst (λ n. slice_get those n ≡ Some v) part.1 ((second part.0 v).1 ((first part.0 v).0 here))

module _ (model : Model) (decisions : List Decision) (state : State) (settled : IsSettledState model decisions state) where
  once : DecidesOnce model decisions
  once = decides_once model decisions settled.settled

  -- ---- what is decided of a token

  pub takes_not_rejected : (fact : Bool) (token : TokenName) → TakesPlaceAs model decisions fact token → IsRejected decisions token → ⊥
  takes_not_rejected true token takes rejected = once.facts token (Reject token) takes rejected refl
  takes_not_rejected false token takes rejected =
      let e : Activate token ≡ Reject token = once.one token (Activate token) (Reject token) takes rejected refl refl in cc

  pub merged_not_rejected : (token target : TokenName) → Contains decisions (Merge token target) → IsRejected decisions token → ⊥
  merged_not_rejected token target merged rejected =
      let e : Merge token target ≡ Reject token = once.one token (Merge token target) (Reject token) merged rejected refl refl in cc

  takes_not_merged : (fact : Bool) (token target : TokenName) → TakesPlaceAs model decisions fact token → Contains decisions (Merge token target) → ⊥
  takes_not_merged true token target takes merged = once.facts token (Merge token target) takes merged refl
  takes_not_merged false token target takes merged =
      let e : Activate token ≡ Merge token target = once.one token (Activate token) (Merge token target) takes merged refl refl in cc

  takes_alike : (fact other : Bool) (token : TokenName) → TakesPlaceAs model decisions fact token → TakesPlaceAs model decisions other token → fact ≡ other
  takes_alike true true token p q = refl
  takes_alike false false token p q = refl
  takes_alike true false token p q = absurd (once.facts token (Activate token) p q refl)
  takes_alike false true token p q = absurd (once.facts token (Activate token) q p refl)

  takes_decided : (fact : Bool) (token : TokenName) → TakesPlaceAs model decisions fact token → IsDecided model decisions token
  takes_decided true token takes = inl takes
  takes_decided false token takes = inr (inl (inl takes))

  -- ---- one line for each token

  not_local : (token : TokenName) (name : VarName) (value : ℤ) → name ≡ variables.Token token Start → IsLineIn model decisions state (lines.Local name value) → ⊥
  not_local token (variables.Token other part) value e is = is
  not_local token (variables.Global number) value e is = is
  not_local token (variables.Local other rule number) value e is = cc

  name_of : (one other : TokenName) → variables.Token one Start ≡ variables.Token other Start → one ≡ other
  name_of one other e = cc

  same_token_line : (token n m : TokenName) (f g : Bool) (v w : List ℤ) → n ≡ token → m ≡ token → IsTokenLine model decisions state f n v → IsTokenLine model decisions state g m w
      → lines.Token n f v ≡ lines.Token m g w
  same_token_line token n m f g v w p q a b =
      let same : n ≡ m = p ∙ sym q in
      let b' = subst (λ t. IsTokenLine model decisions state g t w) (sym same) b in
      let facts : f ≡ g = takes_alike f g n a.takes_place b'.takes_place in
      let values : v ≡ w = same_part_values state n v w a.values_are b'.values_are in
      cc

  same_merged_line : (n m a b : TokenName) → n ≡ m → Contains decisions (Merge n a) → Contains decisions (Merge m b) → lines.Merged n a ≡ lines.Merged m b
  same_merged_line n m a b same p q =
      let e : Merge n a ≡ Merge m b = once.one n (Merge n a) (Merge m b) p q refl (sym same) in cc

  token_or_merged : (n m a : TokenName) (f : Bool) (v : List ℤ) → n ≡ m → IsTokenLine model decisions state f n v → Contains decisions (Merge m a) → ⊥
  token_or_merged n m a f v same p q = takes_not_merged f n a p.takes_place (subst (λ t. Contains decisions (Merge t a)) (sym same) q)

  token_or_rejected : (n m : TokenName) (f : Bool) (v : List ℤ) → n ≡ m → IsTokenLine model decisions state f n v → IsRejected decisions m → ⊥
  token_or_rejected n m f v same p q = takes_not_rejected f n p.takes_place (subst (λ t. IsRejected decisions t) (sym same) q)

  merged_or_rejected : (n m a : TokenName) → n ≡ m → Contains decisions (Merge n a) → IsRejected decisions m → ⊥
  merged_or_rejected n m a same p q = merged_not_rejected n a p (subst (λ t. IsRejected decisions t) (sym same) q)

  pub own_once : (token : TokenName) (a b : Line) → IsOwnLine model decisions state token a → IsOwnLine model decisions state token b → a ≡ b
  own_once token (lines.Local name value) b p q = absurd (not_local token name value p.1 p.0)
  own_once token (lines.Token n f v) (lines.Local name value) p q = absurd (not_local token name value q.1 q.0)
  own_once token (lines.Merged n a) (lines.Local name value) p q = absurd (not_local token name value q.1 q.0)
  own_once token (lines.Rejected n) (lines.Local name value) p q = absurd (not_local token name value q.1 q.0)
  own_once token (lines.Token n f v) (lines.Token m g w) p q = same_token_line token n m f g v w (name_of n token p.1) (name_of m token q.1) p.0 q.0
  own_once token (lines.Token n f v) (lines.Merged m b) p q = absurd (token_or_merged n m b f v (name_of n token p.1 ∙ sym (name_of m token q.1)) p.0 q.0.1)
  own_once token (lines.Token n f v) (lines.Rejected m) p q = absurd (token_or_rejected n m f v (name_of n token p.1 ∙ sym (name_of m token q.1)) p.0 q.0.1)
  own_once token (lines.Merged n a) (lines.Token m g w) p q = absurd (token_or_merged m n a g w (name_of m token q.1 ∙ sym (name_of n token p.1)) q.0 p.0.1)
  own_once token (lines.Merged n a) (lines.Merged m b) p q = same_merged_line n m a b (name_of n token p.1 ∙ sym (name_of m token q.1)) p.0.1 q.0.1
  own_once token (lines.Merged n a) (lines.Rejected m) p q = absurd (merged_or_rejected n m a (name_of n token p.1 ∙ sym (name_of m token q.1)) p.0.1 q.0.1)
  own_once token (lines.Rejected n) (lines.Token m g w) p q = absurd (token_or_rejected m n g w (name_of m token q.1 ∙ sym (name_of n token p.1)) q.0 p.0.1)
  own_once token (lines.Rejected n) (lines.Merged m b) p q = absurd (merged_or_rejected m n b (name_of m token q.1 ∙ sym (name_of n token p.1)) q.0.1 p.0.1)
  own_once token (lines.Rejected n) (lines.Rejected m) p q = ap lines.Rejected (name_of n token p.1 ∙ sym (name_of m token q.1))

  -- ---- the token at a place

  -- a token of the state with its predicate
  record Found (token : TokenName) : Type 0 where
    slot : Slot
    has_token : HasToken model token slot
    pred : Pred
    is_pred : slice_get model.preds slot.pred ≡ Some pred

  module _ (place : ℕ) (token : TokenName) (at : IsTokenAt state place token) where
    pub there : Contains state.tokens token
    there = contains_from_get state.tokens place token at

    pub of_model : (slot : Slot) × HasToken model token slot
    of_model = get_all (λ t. (slot : Slot) × HasToken model t slot) state.tokens place token settled.consistent.is_state.tokens at

    found : Found token
    found =
        let has = of_model in
        let pred = pred_of_slot model token has.0 settled.lawful has.1 in
        record { slot = has.0; has_token = has.1; pred = pred.0; is_pred = pred.1 }

    -- a part without a value is a flaw, where the token isn't rejected
    pub unbound_part : (count : ℕ) → HasPartCount model state place count → (IsRejected decisions token → ⊥) → (part : Part) × IsPartUnbound state place count part → HasFlaw model decisions state
    unbound_part count counts kept (part, is) =
        let f = found in
        let few = counts token f.slot f.pred at f.has_token f.is_pred in
        let base = has_part model f.slot f.pred part f.is_pred (omega (arith, is.below, few)) in
        let flaw = part_flaw model decisions state settled.consistent token f.slot there f.has_token kept part base.0 base.1 (λ value has. is.none token value at has) in
        (flaw.0, flaw.1)

    module _ (count : ℕ) (values : List ℤ) (counts : HasPartCount model state place count) (first : AreFirstValues state place count values) where
      -- each part that the state gives has its value
      given_value : (part : Part) (domain : Domain) → Gives state (variables.Token token part) domain
          → (value : ℤ) × (slice_get values (place_in_values part) ≡ Some value) × GivesOnly state (variables.Token token part) value
      given_value part domain gives =
          let f = found in
          let about = (settled.consistent.is_state.variables (variables.Token token part)).1 (domain, gives) in
          let slots = token_once model token about.1.1.0 f.slot about.1.1.1 f.has_token in
          let below = part_below model f.slot f.pred part about.1.0 f.is_pred (subst (λ (s : Slot). HasPartBase model s part about.1.0) slots about.1.1.2) in
          let few = counts token f.slot f.pred at f.has_token f.is_pred in
          let got = get_within values (place_in_values part) (omega (arith, below, few, first.long)) in
          (got.0, got.1, first.are token part got.0 at got.1)

      pub are_values : ArePartValues state token values
      are_values part value = (λ e. first.are token part value at e, there_too)
        where
          there_too : GivesOnly state (variables.Token token part) value → slice_get values (place_in_values part) ≡ Some value
          there_too has =
              let got = given_value part has.0 has.1 in
              let same : got.0 ≡ value = value_once state settled.consistent.is_state.order (variables.Token token part) got.0 value got.2 has in
              subst (λ v. slice_get values (place_in_values part) ≡ Some v) same got.1

      none_unbound : (part : Part) → IsUnbound decisions state (variables.Token token part) → ⊥
      none_unbound part is =
          let got = given_value part is.domain is.gives in
          let same = gives_same state settled.consistent.is_state.order (variables.Token token part) got.2.0 is.domain got.2.1 is.gives in
          is.several got.0 (subst (λ d. IsSingle d got.0) same got.2.2)

      pub parts_clear : IsDecided model decisions token → (flaw : Flaw) → IsOwnFlaw token flaw → IsFlaw model decisions state flaw → ⊥
      parts_clear decided (Undecided other) own is = is.1 (subst (λ t. IsDecided model decisions t) (sym own) decided)
      parts_clear decided (Undetermined name) own is = none_unbound own.0 (subst (λ n. IsUnbound decisions state n) own.1 is.1)
      parts_clear decided (Unordered one other) own is = own
      parts_clear decided (Untimed name) own is = none_unbound own.0 (subst (λ n. IsUnbound decisions state n) own.1 is.1)

    rejected_clear : IsRejected decisions token → (flaw : Flaw) → IsOwnFlaw token flaw → IsFlaw model decisions state flaw → ⊥
    rejected_clear rejected (Undecided other) own is = is.1 (subst (λ t. IsDecided model decisions t) (sym own) (inr (inr rejected)))
    rejected_clear rejected (Undetermined name) own is =
        is.1.kept (subst (λ n. IsOfRejectedToken decisions n) (sym own.1) (token, refl, rejected))
    rejected_clear rejected (Unordered one other) own is = own
    rejected_clear rejected (Untimed name) own is =
        is.1.kept (subst (λ n. IsOfRejectedToken decisions n) (sym own.1) (token, refl, rejected))

  -- ---- what is stated

  moved : (place : ℕ) (token : TokenName) (line : Line) → IsTokenAt state place token → IsOwnLine model decisions state token line
      → ((flaw : Flaw) → IsOwnFlaw token flaw → IsFlaw model decisions state flaw → ⊥) → IsStatedBy model decisions state place line
  moved place token line at own clear = λ other at'.
      let P : TokenName → Type 0 = λ t. IsOwnLine model decisions state t line × ((flaw : Flaw) → IsOwnFlaw t flaw → IsFlaw model decisions state flaw → ⊥) in
      subst P (one_at state place token other at at') (own, clear)

  pub states_active : (place count : ℕ) (fact : Bool) (values : List ℤ) (name : TokenName) → HasPartCount model state place count → AreFirstValues state place count values
      → IsTokenAt state place name → ((token : TokenName) × IsTokenAt state place token × TakesPlaceAs model decisions fact token)
      → IsStatedBy model decisions state place (lines.Token name fact values)
  states_active place count fact values name counts first at takes =
      let own = subst (λ t. TakesPlaceAs model decisions fact t) (one_at state place takes.0 name takes.1 at) takes.2 in
      moved place name (lines.Token name fact values) at
      (record { there = there place name at; takes_place = own; values_are = are_values place name at count values counts first }, refl)
      (parts_clear place name at count values counts first (takes_decided fact name own))

  pub states_merged : (place count : ℕ) (target : ℕ) (values : List ℤ) (name into : TokenName) → HasPartCount model state place count → AreFirstValues state place count values
      → IsTokenAt state place name → IsTokenAt state target into → ((token : TokenName) × IsTokenAt state place token × IsMergedAt state decisions token target)
      → IsStatedBy model decisions state place (lines.Merged name into)
  states_merged place count target values name into counts first at at' merged =
      let same = one_at state target merged.2.0 into merged.2.1 at' in
      let there_is : Contains decisions (Merge name into) =
      subst (λ t. Contains decisions (Merge name t)) same (subst (λ t. Contains decisions (Merge t merged.2.0)) (one_at state place merged.0 name merged.1 at) merged.2.2) in
      moved place name (lines.Merged name into) at ((there place name at, there_is), refl)
      (parts_clear place name at count values counts first (inr (inl (inr (into, there_is)))))

  pub states_rejected : (place : ℕ) (name : TokenName) → IsTokenAt state place name → ((token : TokenName) × IsTokenAt state place token × IsRejected decisions token)
      → IsStatedBy model decisions state place (lines.Rejected name)
  states_rejected place name at rejected =
      let own = subst (λ t. IsRejected decisions t) (one_at state place rejected.0 name rejected.1 at) rejected.2 in
      moved place name (lines.Rejected name) at ((there place name at, own), refl) (rejected_clear place name at own)
