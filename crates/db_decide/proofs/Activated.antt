-- A token that is activated.
use Rattle.std.proofs.Common.{◌≡◌, ℕ, ◌≤◌, List, [], ◌∷◌, ◌++◌, length, Some, Ok, Err, inl, inr, refl, sym, ap, ◌∙◌, subst, arith}
use Rattle.std.specs.Prelude.{Contains, slice_get}
use Rattle.std.proofs.lemmas.List.Elements.{Contains-push}
use Rattle.eu_name.specs.declared.name.TokenName.{TokenName}
use Rattle.eu_name.specs.declared.name.VarName.TheVariants.{Token}
use Rattle.model_core.specs.declared.decision.Decision.{Decision}
use Rattle.model_core.specs.declared.decision.Decision.TheVariants.{Activate}
use Rattle.model_core.specs.declared.model.Model.{Model}
use Rattle.model_core.specs.declared.view.TokenState.TheVariants.{Active}
use Rattle.model_core.specs.Blocks.{TokenBlock, IsBlock, block_at}
use Rattle.model_core.specs.Decided.{IsActivated}
use Rattle.model_core.specs.Entries.{Entries}
use Rattle.model_core.specs.Lawful.{IsLawful}
use Rattle.token_store.specs.Orders.{name_at}
use Rattle.token_store.specs.Tokens.{TokenPast, tokens_now, token_names, with_state, IsNamedAt}
use Rattle.constraint_net.specs.declared.NetFault.{NetFault}
use Rattle.constraint_net.specs.declared.NetFault.TheVariants.{Collapsed, Memory}
use Rattle.eu_name.proofs.Members.{contains_from_get}
use Rattle.model_core.specs.Content.{Content}
use Rattle.db_refine.specs.Progress.{IsUnfolded}
use Rattle.db_store.specs.Stores.{Stored, snapshot_of, IsSnapshot}
use Rattle.db_posting.specs.Origins.{content_now}
use Rattle.db_posting.specs.Posted.{OnlyPosts}
use Rattle.db_posting.specs.Tables.{HaveTables}
use Rattle.db_posting.specs.Underway.{IsStoreUnderway, StaysUnderway, GoesOnAs}
use Rattle.db_decide.specs.RootItems.{SaysOfRejectable, PostsSaid, CanPostItems}
use Rattle.db_decide.specs.TakingUp.{MayFollow, IsDueAfter, TakesUp}
use Rattle.db_decide.proofs.Followed.{can_from, followed_up}
use Rattle.db_decide.proofs.Longer.{DecidesOf}
use Rattle.db_decide.proofs.Opened.{unfolded_before}
use Rattle.db_decide.proofs.Placing.{name_is, token_is_there}
use Rattle.db_decide.proofs.Stating.{content_stated, stated_underway}

decides_only : (token other : TokenName) → DecidesOf (Activate token) other → other ≡ token
decides_only token other (inl (inl is)) = cc
decides_only token other (inl (inr (into, is))) = absurd (cc)
decides_only token other (inr is) = absurd (cc)

module _ (model : Model) (decisions : List Decision) (token : TokenName) (old : Stored) (sound : IsSnapshot (snapshot_of old)) (place : ℕ)
    (named : IsNamedAt (tokens_now old.past) place token) (may : MayFollow model decisions old (Activate token)) (first : Stored)
    (is : first ≡ record old { past = with_state (tokens_now old.past) place Active ∷ old.past }) where
  abbrev longer : List Decision
  longer = decisions ++ Activate token ∷ []

  same : content_now first ≡ content_now old
  same = ap (λ (s : Stored). content_now s) is ∙ content_stated model old sound place Active

  pub activation_started : IsStoreUnderway model decisions longer first (length old.blocks) []
  activation_started =
      subst (λ (s : Stored). IsStoreUnderway model decisions longer s (length old.blocks) []) (sym is)
      (stated_underway model old sound place Active decisions (Activate token) token named may.undecided (decides_only token) (Contains-push decisions (Activate token))
      (length old.blocks) [] may.rest.underway)

  named_first : IsNamedAt (tokens_now first.past) place token
  named_first = subst (λ (c : Content). slice_get c.tokens place ≡ Some token) (sym same) named

  named_so : token ≡ name_at (content_now first).tokens place
  named_so = name_is first.past place token named_first

  pub is_activated : IsActivated longer (name_at (content_now first).tokens place)
  is_activated = subst (IsActivated longer) named_so (Contains-push decisions (Activate token))

  others : (block : TokenBlock) → IsUnfolded (content_now first) (length old.blocks) block → block.token ≡ token → ⊥
  others block is_open of_it =
      let before = subst (λ (c : Content). IsUnfolded c (length old.blocks) block) same is_open in
      let opened = may.rest.underway.justified.blocks block (contains_from_get (content_now old).blocks before.0 block before.1) in
      may.undecided (inr (inl (inl (subst (IsActivated decisions) of_it opened.1.is_open.activated))))

  -- the first blocks of its rules are open
  module _ (second : Stored) (stays : StaysUnderway model (λ ds. IsActivated ds (name_at (content_now first).tokens place)) first (Ok tt) second)
      (past : second.past ≡ first.past) (adds : GoesOnAs first.blocks second.blocks) where
    pub activation_opened : IsStoreUnderway model decisions longer second (length old.blocks) []
    activation_opened = stays decisions longer (length old.blocks) [] activation_started is_activated

    -- items can be posted behind them
    pub activation_can : IsLawful model → HaveTables model old.net.tables → second.net.tables ≡ first.net.tables → (unfolded : ℕ) → unfolded ≡ length old.blocks
        → CanPostItems model second.net.tables (content_now second) unfolded
    activation_can lawful tables kept unfolded count =
        let have = subst (HaveTables model) (sym kept) (subst (λ (s : Stored). HaveTables model s.net.tables) (sym is) tables) in
        subst (λ (n : ℕ). CanPostItems model second.net.tables (content_now second) n) (sym count)
        (can_from model decisions longer second (length old.blocks) [] lawful have activation_opened)

    pub activation_within : (unfolded : ℕ) → unfolded ≡ length old.blocks → unfolded ≤ length second.blocks
    activation_within unfolded count = omega (arith, activation_opened.within, count)

    module _ (has_opened : (rule : ℕ) (entries : Entries) → IsBlock model (block_at (name_at (content_now first).tokens place) rule []) entries
        → Contains (content_now second).blocks (block_at (name_at (content_now first).tokens place) rule [])) where
      rules : (one : TokenName) (rule : ℕ) (entries : Entries) → Activate token ≡ Activate one → IsBlock model (block_at one rule []) entries
          → Contains (content_now second).blocks (block_at one rule [])
      rules one rule entries is_it has =
          let same_token : token ≡ one = cc in
          let at : name_at (content_now first).tokens place ≡ one = sym named_so ∙ same_token in
          subst (λ (t : TokenName). IsBlock model (block_at t rule []) entries → Contains (content_now second).blocks (block_at t rule [])) at (has_opened rule entries) has

      pub activated_up : IsLawful model → (third : Stored) → OnlyPosts second third → PostsSaid model (SaysOfRejectable model token (content_now second) (length old.blocks)) second third
          → (due : List ℕ) → IsDueAfter (Activate token) third due → IsStoreUnderway model longer longer third (length old.blocks) due
      activated_up lawful third only says due after =
          let under = activation_opened in
          let within : length old.blocks ≤ length first.blocks = activation_started.within in
          let there = subst (λ (p : TokenPast). Contains (token_names (tokens_now p)) token) (sym past) (token_is_there first.past place token named_first) in
          subst (λ (s : Stored). IsStoreUnderway model longer longer s (length old.blocks) due) (sym only)
          (followed_up model lawful decisions (Activate token) token (λ other takes. decides_only token other (inl takes)) second (length old.blocks) under
          (λ block is_open of_it. others block (unfolded_before first second past adds (length old.blocks) within block is_open) of_it)
          third.net.constraints (says longer under.states) due
          (λ part number at. after.parts token part number (inl refl)
          (subst (λ (s : Stored). slice_get (content_now s).names number ≡ Some (Token token part)) (sym only) at))
          there tt rules (λ one target part is_it has. absurd (cc)) (λ one other is_it. cc) (λ claim posts. posts))

-- where opening its rules fails, so does taking the decision up
pub activation_fails : (model : Model) (token : TokenName) (old : Stored) → IsSnapshot (snapshot_of old) → (place : ℕ) → IsNamedAt (tokens_now old.past) place token
    → (first second third : Stored) → first ≡ record old { past = with_state (tokens_now old.past) place Active ∷ old.past } → (fault : NetFault)
    → StaysUnderway model (λ ds. IsActivated ds (name_at (content_now first).tokens place)) first (Err fault) second → TakesUp model (Activate token) old (Err fault) third
activation_fails model token old sound place named first second third is Collapsed fails = λ decisions may.
    fails decisions (decisions ++ Activate token ∷ []) (length old.blocks) []
    (activation_started model decisions token old sound place named may first is) (is_activated model decisions token old sound place named may first is)
activation_fails model token old sound place named first second third is Memory fails = tt
