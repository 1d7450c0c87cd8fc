-- The numbers of the parts of a token, and what is due.
use Rattle.std.proofs.Common.{◌≡◌, ℕ, ℤ, zero, suc, ◌+◌, ◌<◌, List, [], ◌∷◌, ◌++◌, length, take, get_or, Some, None, Err, inl, inr, refl, sym, ◌∙◌, subst, arith}
use Rattle.std.specs.Prelude.{◌≢◌, All, AllPairs, Contains, Option, MatchOption, slice_get}
use Rattle.std.proofs.lemmas.Bool.{cases_lt}
use Rattle.std.proofs.lemmas.List.{take_more}
use Rattle.std.proofs.lemmas.List.Elements.{All-contains, All-weaker, Contains-append_left, Contains-append_right, Contains-push, Contains-push_cases}
use Rattle.eu_name.specs.declared.name.Part.{Part}
use Rattle.eu_name.specs.declared.name.Part.TheVariants.{Start, End}
use Rattle.eu_name.specs.declared.name.TokenName.{TokenName}
use Rattle.eu_name.specs.declared.name.VarName.{VarName}
use Rattle.eu_name.specs.declared.name.VarName.TheVariants as name
use Rattle.domain_core.specs.Domain.{Range}
use Rattle.domain_core.specs.declared.kind.Kind.{Kind}
use Rattle.model_core.specs.declared.decision.ConArg.{ConArg}
use Rattle.model_core.specs.declared.decision.ConArg.TheVariants as given
use Rattle.model_core.specs.declared.decision.Decision.{Decision}
use Rattle.model_core.specs.declared.decision.Decision.TheVariants.{Specify, Activate, Merge, Constrain}
use Rattle.model_core.specs.declared.model.Model.{Model}
use Rattle.model_core.specs.declared.rule.Slot.{Slot}
use Rattle.model_core.specs.declared.variable.Base.{Base}
use Rattle.model_core.specs.declared.variable.Base.TheVariants.{Given}
use Rattle.model_core.specs.Tokens.{HasToken}
use Rattle.token_store.specs.Orders.{name_at}
use Rattle.token_store.specs.Tokens.{tokens_now, token_names, token_preds, IsNamedAt}
use Rattle.plan_defs.specs.Refusals.{IsKnown, IsArgumentKnown}
use Rattle.eu_name.proofs.Members.{get_below, contains_from_get, get_all}
use Rattle.eu_name.proofs.Ordered.{contains_head, contains_later}
use Rattle.constraint_net.specs.declared.NetFault.{NetFault}
use Rattle.constraint_net.specs.declared.NetFault.TheVariants.{Collapsed, Memory}
use Rattle.model_core.specs.Content.{Content, shown, IsContent}
use Rattle.db_refine.specs.Growth.{LeaveNothing}
use Rattle.db_refine.proofs.Showing.{stands_from}
use Rattle.db_refine.specs.Coming.{TakesToken}
use Rattle.db_store.specs.declared.key.VarKey.{VarKey}
use Rattle.db_store.specs.declared.key.VarKey.TheVariants as key
use Rattle.db_store.specs.Keys.{named_variable, IsKeyBelow}
use Rattle.db_store.specs.Puts.{FindsItem}
use Rattle.db_store.specs.Stores.{Stored, snapshot_of, IsSnapshot}
use Rattle.db_store.proofs.Lists.{unmapped}
use Rattle.db_store.proofs.Naming.{same_place, length_names}
use Rattle.db_posting.specs.Origins.{content_now}
use Rattle.db_posting.specs.Postable.{IsArgumentThere}
use Rattle.db_posting.specs.Terms.{HasTimes}
use Rattle.db_opening.specs.Parts.{ArePartsOf}
use Rattle.db_posting.specs.Underway.{IsStoreUnderway}
use Rattle.db_posting.specs.Wanted.{ArePreds}
use Rattle.db_opening.proofs.Opening.{pred_is}
use Rattle.db_decide.specs.TakingUp.{MayFollow, IsDueAfter, TakesUp}
use Rattle.model_core.proofs.Distinct.{place_once}
use Rattle.db_decide.proofs.Placing.{place_below, name_is}

-- ---- numbers of keys

-- the numbers that were there, and the one that was found, are there
pub numbers_pushed : (old new : List ℕ) (found : Option ℕ) → MatchOption found (new ≡ old) (λ number. new ≡ old ++ number ∷ []) → (n : ℕ) → Contains old n → Contains new n
numbers_pushed old new (Some number) is n there = subst (λ (list : List ℕ). Contains list n) (sym is) (Contains-append_left old (number ∷ []) n there)
numbers_pushed old new None is n there = subst (λ (list : List ℕ). Contains list n) (sym is) there

pub found_pushed : (keys : List VarKey) → AllPairs (λ one other. one ≢ other) keys → (one : VarKey) (found : Option ℕ) → FindsItem keys one found → (old new : List ℕ)
    → MatchOption found (new ≡ old) (λ number. new ≡ old ++ number ∷ []) → (n : ℕ) → slice_get keys n ≡ Some one → Contains new n
found_pushed keys once one (Some number) at old new is n here =
    let same : number ≡ n = place_once keys once number n one at here in
    subst (λ (list : List ℕ). Contains list n) (sym is) (subst (Contains (old ++ number ∷ [])) same (Contains-push old number))
found_pushed keys once one None nowhere old new is n here = absurd (nowhere (contains_from_get keys n one here))

-- one part more
pub part_numbered : (parts : List Part) (k : ℕ) (d : Part) → k < length parts → (P : Part → Type 0) → ((part : Part) → Contains (take k parts) part → P part) → P (get_or parts k d)
    → (part : Part) → Contains (take (k + 1) parts) part → P part
part_numbered parts k d below P before here part there =
    elim (Contains-push_cases (take k parts) (get_or parts k d) part (subst (λ (list : List Part). Contains list part) (take_more parts k d below) there)) [
      | inl earlier ↦ before part earlier
      | inr same ↦ subst P same here
    ]

-- ---- the parts of a token by their names

module _ (model : Model) (stored : Stored) (sound : IsSnapshot (snapshot_of stored)) (is : IsContent model (content_now stored)) (preds : ArePreds model (tokens_now stored.past))
    (token : TokenName) (place pred : ℕ) (named : IsNamedAt (tokens_now stored.past) place token) (at : Some pred ≡ slice_get (token_preds (tokens_now stored.past)) place)
    (parts : List Part) (are : (slot : Slot) → slot.pred ≡ pred → ArePartsOf model slot parts) where
  abbrev names : List TokenName
  names = token_names (tokens_now stored.past)

  of_pred : (slot : Slot) → HasToken model token slot → slot.pred ≡ pred
  of_pred slot has =
      let named_so = name_is stored.past place token named in
      pred_is model (tokens_now stored.past) place pred preds at (place_below stored.past place token named) slot (subst (λ (t : TokenName). HasToken model t slot) named_so has)

  listed : (part : Part) → Contains (content_now stored).names (name.Token token part) → Contains parts part
  listed part there =
      let about = (is.variables (name.Token token part)).1 there in
      (are about.1.1.0 (of_pred about.1.1.0 about.1.1.1) part).1 (about.1.0, about.1.1.2)

  key_is : (one : VarKey) (part : Part) → IsKeyBelow (length (tokens_now stored.past)) one → named_variable names one ≡ name.Token token part → one ≡ key.Part place part
  key_is (key.Global number) part below same = absurd (cc)
  key_is (key.Local other rule number) part below same = absurd (cc)
  key_is (key.Part other kind) part below same =
      let tokens : name_at names other ≡ token = cc in
      let kinds : kind ≡ part = cc in
      let long = length_names (tokens_now stored.past) in
      let places : other ≡ place = same_place names sound.tokens_once other place (omega (arith, below, long)) (get_below names place token named)
      (tokens ∙ name_is stored.past place token named) in
      (λ i. key.Part (places i) (kinds i))

  pub numbered : (numbers : List ℕ) → ((part : Part) (number : ℕ) → Contains parts part → slice_get stored.keys number ≡ Some (key.Part place part) → Contains numbers number)
      → (part : Part) (number : ℕ) → slice_get (content_now stored).names number ≡ Some (name.Token token part) → Contains numbers number
  numbered numbers all part number here =
      let found = unmapped (named_variable names) stored.keys number (name.Token token part) here in
      let below = get_all (IsKeyBelow (length (tokens_now stored.past))) stored.keys number found.0 sound.placed found.1 in
      let same = key_is found.0 part below found.2 in
      all part number (listed part (contains_from_get (content_now stored).names number (name.Token token part) here))
      (subst (λ (k : VarKey). slice_get stored.keys number ≡ Some k) same found.1)

-- ---- what may be asked before and after

pub times_known : (model : Model) (content : Content) → IsContent model content → (token : TokenName) → Contains content.tokens token → HasTimes content token
times_known model content is token there =
    let slot = All-contains (λ (t : TokenName). (s : Slot) × HasToken model t s) content.tokens token is.tokens there in
    let range : Base = Given (Range model.problem.start model.problem.end) in (
      (is.variables (name.Token token Start)).0 (there, (range, (slot.0, slot.1, refl))),
      (is.variables (name.Token token End)).0 (there, (range, (slot.0, slot.1, refl))),
    )

pub variable_known : (content : Content) (one : VarName) (value : ℤ) → IsKnown (shown content) (Specify one value) → Contains content.names one
variable_known content one value known =
    let at = stands_from content.names content.domains one known.0 known.1 in
    contains_from_get content.names at.number one at.named

argument_known : (content : Content) (argument : ConArg) → IsArgumentKnown (shown content) argument → IsArgumentThere content argument
argument_known content (given.Var name) known =
    let at = stands_from content.names content.domains name known.0 known.1 in
    contains_from_get content.names at.number name at.named
argument_known content (given.Value value) known = tt

pub arguments_known : (content : Content) (kind : Kind) (arguments : List ConArg) → IsKnown (shown content) (Constrain kind arguments) → All (IsArgumentThere content) arguments
arguments_known content kind arguments known =
    All-weaker (IsArgumentKnown (shown content)) (IsArgumentThere content) (argument_known content) arguments known

all_below : (count : ℕ) → (due : List ℕ) × ((number : ℕ) → number < count → Contains due number)
all_below zero = ([], λ number below. absurd (omega (arith, below)))
all_below (suc count) =
    let rest = all_below count in (
      count ∷ rest.0,
      λ number below. elim (cases_lt number count) [
        | inl less ↦ contains_later count number rest.0 (rest.1 number less)
        | inr past ↦ (let same : count ≡ number = omega (arith, below, past) in subst (Contains (count ∷ rest.0)) same (contains_head count rest.0))
      ],
    )

-- where it is taken up all is as it has to be, whatever is due
module _ (model : Model) (decisions : List Decision) (decision : Decision) (old new : Stored) (may : MayFollow model decisions old decision)
    (takes : (due : List ℕ) → IsDueAfter decision new due → IsStoreUnderway model (decisions ++ decision ∷ []) (decisions ++ decision ∷ []) new (length old.blocks) due) where
  abbrev everything : List ℕ
  everything = (all_below (length (content_now new).names)).0 ++ new.net.changed

  all_due : IsDueAfter decision new everything
  all_due = record {
    parts = λ token part number takes at.
        let below = get_below (content_now new).names number (name.Token token part) at in
        Contains-append_left (all_below (length (content_now new).names)).0 new.net.changed number ((all_below (length (content_now new).names)).1 number below);
    changed = λ number there. Contains-append_right (all_below (length (content_now new).names)).0 new.net.changed number there;
  }

  under : IsStoreUnderway model (decisions ++ decision ∷ []) (decisions ++ decision ∷ []) new (length old.blocks) everything
  under = takes everything all_due

  pub taken_content : IsContent model (content_now new)
  taken_content = under.justified.is_content

  pub taken_preds : ArePreds model (tokens_now new.past)
  taken_preds = under.preds

  known : IsKnown (shown (content_now new)) decision
  known = under.complete.known decision (Contains-push decisions decision)

  pub taken_there : (token : TokenName) → TakesToken decision token → Contains (content_now new).tokens token
  taken_there token (inl is) = subst (IsKnown (shown (content_now new))) is known
  taken_there token (inr (target, is)) = (let both : IsKnown (shown (content_now new)) (Merge token target) = subst (IsKnown (shown (content_now new))) is known in both.0)

  -- what is due beside what is noted
  pub taken_due : (due : List ℕ) → ((token : TokenName) (part : Part) (number : ℕ) → TakesToken decision token
      → slice_get (content_now new).names number ≡ Some (name.Token token part) → Contains due number)
      → IsStoreUnderway model (decisions ++ decision ∷ []) (decisions ++ decision ∷ []) new (length old.blocks) (due ++ new.net.changed)
  taken_due due parts = takes (due ++ new.net.changed) (record {
    parts = λ token part number taken at. Contains-append_left due new.net.changed number (parts token part number taken at);
    changed = λ number there. Contains-append_right due new.net.changed number there;
  })

-- whom a decision takes
pub takes_activated : (decision : Decision) (token other : TokenName) → decision ≡ Activate token → TakesToken decision other → token ≡ other
takes_activated decision token other is (inl same) = (let both : Activate token ≡ Activate other = sym is ∙ same in cc)
takes_activated decision token other is (inr (target, same)) = (let both : Activate token ≡ Merge other target = sym is ∙ same in absurd (cc))

pub takes_merged : (decision : Decision) (token target other : TokenName) → decision ≡ Merge token target → TakesToken decision other → token ≡ other
takes_merged decision token target other is (inl same) = (let both : Merge token target ≡ Activate other = sym is ∙ same in absurd (cc))
takes_merged decision token target other is (inr (into, same)) = (let both : Merge token target ≡ Merge other into = sym is ∙ same in cc)

pub takes_other : (decision : Decision) (other : TokenName) → ((token : TokenName) → decision ≡ Activate token → ⊥) → ((token target : TokenName) → decision ≡ Merge token target → ⊥)
    → TakesToken decision other → ⊥
takes_other decision other no_activation no_merge (inl is) = no_activation other is
takes_other decision other no_activation no_merge (inr (target, is)) = no_merge other target is

-- where taking it up collapses, nothing is left
pub take_fails : (model : Model) (decision : Decision) (old new : Stored) (fault : NetFault) → fault ≡ Collapsed → TakesUp model decision old (Err fault) new
    → (decisions : List Decision) → MayFollow model decisions old decision → LeaveNothing model (decisions ++ decision ∷ [])
take_fails model decision old new Collapsed is fails = fails
take_fails model decision old new Memory is fails = absurd (cc)
