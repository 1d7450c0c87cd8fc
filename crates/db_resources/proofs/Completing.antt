-- In a store at rest, no further token can come exactly where something is decided of each token, and each branch is certain.
use Rattle.std.proofs.Common.{◌≡◌, ℕ, zero, suc, ◌<◌, List, [], ◌∷◌, inl, inr, length, map, Some, sym, ◌∙◌, ap, subst, arith}
use Rattle.std.specs.Prelude.{slice_get, Contains, AllPairs, ◌≢◌, ⊤}
use Rattle.std.proofs.lemmas.List.{length-map}
use Rattle.std.proofs.lemmas.List.Elements.{All-contains}
use Rattle.eu_name.specs.declared.name.TokenName.{TokenName}
use Rattle.model_core.specs.declared.decision.Decision.{Decision}
use Rattle.model_core.specs.declared.item.Term.{Term}
use Rattle.model_core.specs.declared.item.Term.TheVariants as term
use Rattle.model_core.specs.declared.model.Model.{Model}
use Rattle.model_core.specs.declared.rule.Guard.{Guard}
use Rattle.model_core.specs.declared.rule.Side.{Side}
use Rattle.model_core.specs.declared.rule.Side.TheVariants.{Then, Otherwise}
use Rattle.model_core.specs.declared.view.TokenState.{TokenState}
use Rattle.model_core.specs.declared.view.TokenState.TheVariants.{Inactive, Active, Fact, Merged, Rejected}
use Rattle.model_core.specs.Blocks.{TokenBlock, IsBlock, HasBlock, direct, OfBranch, block_at}
use Rattle.model_core.specs.Decided.{IsRejected, IsDecided}
use Rattle.model_core.specs.Entries.{Entries}
use Rattle.model_core.specs.Numbers.{turned}
use Rattle.model_core.specs.State.{State}
use Rattle.model_core.specs.Tokens.{root_token}
use Rattle.plan_defs.specs.Resources.{IsOfRejected, OpensIn, IsCertain, IsTokenComplete}
use Rattle.plan_defs.specs.Situations.{situation_of}
use Rattle.plan_defs.specs.Support.{Opens, IsSupportedToken, IsSupportedBlock}
use Rattle.plan_defs.specs.Terms.{InRule}
use Rattle.plan_defs.proofs.Lower.{Further, HasBlock-map, further_below, opens_further, supported_further, block_further}
use Rattle.eu_name.proofs.Members.{get_from_contains, contains_from_get, get_below, get_within, get_same}
use Rattle.model_core.specs.Content.{Content, shown, AreAlike}
use Rattle.db_refine.specs.Growth.{IsWhole}
use Rattle.db_refine.specs.GrowthLaws.{HasAllSupported}
use Rattle.db_refine.proofs.Alike.{alike_below, alike_back}
use Rattle.db_refine.proofs.GrownSupport.{has_all}
use Rattle.db_posting.specs.Underway.{IsAtRest}
use Rattle.db_refine.specs.Progress.{MissesNothing}
use Rattle.model_core.proofs.Blocks.{block_once}
use Rattle.db_refine.proofs.Ending as ending
use Rattle.db_store.specs.declared.key.OpenBlock.{OpenBlock}
use Rattle.db_store.specs.Keys.{named_block}
use Rattle.db_store.specs.Stores.{Stored, snapshot_of, IsSnapshot, named_content}
use Rattle.db_store.proofs.Naming.{same_place, names_are_once}
use Rattle.token_store.specs.Tokens.{tokens_now, token_names, token_states}
use Rattle.token_store.specs.declared.trail.Token.{Token}
use Rattle.plan_defs.specs.Unordered.{AreDecidedOnce}
use Rattle.db_refusals.specs.Judging.{IsKeptAs, AreTold}
use Rattle.db_refusals.proofs.Told.{inactive_undecided, other_decided, kept_has}
use Rattle.db_refusals.proofs.Full.{kept_somehow}
use Rattle.db_refusals.proofs.Resting.{rest_told}
use Rattle.db_refusals.specs.InOrder.{state_of}
use Rattle.db_refusals.proofs.Seen.{put_in_order}
use Rattle.db_resources.specs.Completeness.{AreAllDecided, IsRootOut, block_behind, IsCertainBranch, AreAllCertain, AreBlocksOf}
use Rattle.db_resources.proofs.Branching.{last_turn}

-- ---- blocks by their names

mapped : {X Y : Type 0} (f : X → Y) (xs : List X) (k : ℕ) (x : X) → slice_get xs k ≡ Some x → slice_get (map f xs) k ≡ Some (f x)
mapped f [] k x p = absurd (cc)
mapped f (z ∷ xs) zero x p = let same : z ≡ x = cc in ap (λ w. Some (f w)) same
mapped f (z ∷ xs) (suc k) x p = mapped f xs k x p

unmapped : {X Y : Type 0} (f : X → Y) (xs : List X) (y : Y) → Contains (map f xs) y → (x : X) × (Contains xs x × (f x ≡ y))
unmapped {X} f xs y c =
    let at = get_from_contains (map f xs) y c in
    let long = length-map xs f in
    let below = get_below (map f xs) at.0 y at.1 in
    let here = get_within xs at.0 (omega (arith, below, long)) in
    (here.0, (contains_from_get xs at.0 here.0 here.1, get_same (map f xs) at.0 (f here.0) y (mapped f xs at.0 here.0 here.1) at.1))

same_open : (names : List TokenName) → AllPairs (λ one other. one ≢ other) names → (one other : OpenBlock) → one.token < length names → other.token < length names
    → named_block names one ≡ named_block names other → one ≡ other
same_open names once one other below within same =
    let place = same_place names once one.token other.token below within (ap (λ (block : TokenBlock). block.token) same) in
    let rule = ap (λ (block : TokenBlock). block.rule) same in
    let path = ap (λ (block : TokenBlock). block.path) same in
    λ i. record { token = place i; rule = rule i; path = path i }

module _ (model : Model) (decisions : List Decision) (stored : Stored) (is : IsSnapshot (snapshot_of stored)) (once : AreDecidedOnce model decisions)
    (rest : IsAtRest model decisions stored.net.tables (snapshot_of stored)) where
  abbrev names : List TokenName
  names = token_names (tokens_now stored.past)

  abbrev content : Content
  content = named_content (snapshot_of stored)

  abbrev seen : State
  seen = state_of content

  told : AreTold model decisions (snapshot_of stored)
  told = rest_told model decisions stored.net.tables (snapshot_of stored) once rest

  long_blocks : length stored.blocks ≡ length content.blocks
  long_blocks = sym (length-map stored.blocks (named_block names))

  pub misses : MissesNothing model decisions stored.net.constraints content (length content.blocks) []
  misses = subst (λ n. MissesNothing model decisions stored.net.constraints content n []) long_blocks rest.underway.complete

  whole : IsWhole model decisions stored.net.tables stored.net.constraints content
  whole = ending.whole model decisions stored.net.tables stored.net.constraints content rest.underway.justified misses rest.consistent

  supported_there : HasAllSupported model decisions content
  supported_there = has_all model decisions content whole.grown

  pub alike : AreAlike (shown content) seen
  alike = (put_in_order content (names_are_once (snapshot_of stored) is)).alike

  further_on : Further (situation_of decisions (shown content)) (situation_of decisions seen)
  further_on = further_below model decisions (shown content) seen (alike_below (shown content) seen alike)

  further_back : Further (situation_of decisions seen) (situation_of decisions (shown content))
  further_back = further_below model decisions seen (shown content) (alike_below seen (shown content) (alike_back (shown content) seen alike))

  -- ---- tokens

  -- what the state supports is there, and the other way round
  pub token_here : (token : TokenName) → IsSupportedToken model (situation_of decisions seen) token → Contains names token
  token_here token supported =
      supported_there.tokens token (supported_further model (situation_of decisions seen) (situation_of decisions (shown content)) further_back token supported)

  pub here_supported : (token : TokenName) → Contains names token → IsSupportedToken model (situation_of decisions seen) token
  here_supported token here =
      supported_further model (situation_of decisions (shown content)) (situation_of decisions seen) further_on token (rest.underway.justified.tokens token here)

  all_decided : AreAllDecided (tokens_now stored.past) → (token : TokenName) → IsSupportedToken model (situation_of decisions seen) token → IsDecided model decisions token
  all_decided all token supported =
      let kept = kept_somehow (tokens_now stored.past) token (token_here token supported) in
      other_decided model decisions (shown content) token kept.0 (λ inactive. all kept.1.place (kept.1.kept ∙ ap Some inactive))
      (kept_has model decisions (snapshot_of stored) told token kept.0 kept.1)

  decided_all : ((token : TokenName) → IsSupportedToken model (situation_of decisions seen) token → IsDecided model decisions token) → AreAllDecided (tokens_now stored.past)
  decided_all decided place at =
      let long = length-map (tokens_now stored.past) (λ (token : TokenName × Token). token.0) in
      let other = length-map (tokens_now stored.past) (λ (token : TokenName × Token). token.1.state) in
      let below = get_below (token_states (tokens_now stored.past)) place Inactive at in
      let name = get_within names place (omega (arith, long, other, below)) in
      inactive_undecided model decisions (shown content) name.0 (rest.underway.states.states place name.0 Inactive name.1 at)
      (decided name.0 (here_supported name.0 (contains_from_get names place name.0 name.1)))

  -- ---- roots that are out

  pub out_rejected : (named : Term) → IsRootOut model (tokens_now stored.past) named → IsOfRejected model decisions named
  out_rejected (term.Root number part) out = (out.0, kept_has model decisions (snapshot_of stored) told (root_token number) Rejected out.1)
  out_rejected (term.Lit value) out = absurd out
  out_rejected (term.Here part) out = absurd out
  out_rejected (term.Slot number part) out = absurd out
  out_rejected (term.Local number) out = absurd out
  out_rejected (term.Global number) out = absurd out

  rejected_state : (token : TokenName) → IsRejected decisions token → (kept : TokenState) → IsKeptAs (tokens_now stored.past) token kept → IsKeptAs (tokens_now stored.past) token Rejected
  rejected_state token rejected Inactive kept = absurd (kept_has model decisions (snapshot_of stored) told token Inactive kept (inr (inr rejected)))
  rejected_state token rejected Active kept = absurd (rest.underway.states.rejected token rejected (inl (kept_has model decisions (snapshot_of stored) told token Active kept)))
  rejected_state token rejected Fact kept = absurd ((once token (inl (kept_has model decisions (snapshot_of stored) told token Fact kept))).1 rejected)
  rejected_state token rejected (Merged place) kept =
      let has = kept_has model decisions (snapshot_of stored) told token (Merged place) kept in
      absurd (rest.underway.states.rejected token rejected (inr (has.0, has.2)))
  rejected_state token rejected Rejected kept = kept

  pub rejected_out : (named : Term) → IsOfRejected model decisions named → IsRootOut model (tokens_now stored.past) named
  rejected_out (term.Root number part) of =
      let root = of.0.1 in
      let there = misses.roots number root.0 root.1 in
      let kept = kept_somehow (tokens_now stored.past) (root_token number) there in
      (of.0, rejected_state (root_token number) of.1 kept.0 kept.1)
  rejected_out (term.Lit value) of = absurd of
  rejected_out (term.Here part) of = absurd of
  rejected_out (term.Slot number part) of = absurd of
  rejected_out (term.Local number) of = absurd of
  rejected_out (term.Global number) of = absurd of

  -- ---- guards

  pub token_below : (block : OpenBlock) → Contains stored.blocks block → block.token < length names
  token_below block there =
      let long = length-map (tokens_now stored.past) (λ (token : TokenName × Token). token.0) in
      let below = All-contains (λ (block : OpenBlock). block.token < length (tokens_now stored.past)) stored.blocks block is.of_tokens there in
      omega (arith, long, below)

  -- a block that is there lies behind a guard that opens it
  open_opens : (block : TokenBlock) (entries : Entries) (place : ℕ) (guard : Guard) (then otherwise : Entries) (side : Side) → IsBlock model block entries
      → slice_get (direct entries) place ≡ Some (OfBranch guard then otherwise)
      → Contains content.blocks (block_at block.token block.rule (turned block.path place side)) → OpensIn model decisions seen block guard side
  open_opens block entries place guard then otherwise side is_block at there =
      let up = rest.underway.justified.blocks (block_at block.token block.rule (turned block.path place side)) there in
      let has = up.1.is_open.has_block in
      let allows : (g : Guard) (s : Side) → Type 0 = λ g s. Opens model (situation_of decisions (shown content)) (InRule block.token block.rule) g s in
      let turn = last_turn allows has.rule.top block.path place side up.0 has.way in
      let middle : HasBlock model allows block turn.middle = record { slot = has.slot; has_token = has.has_token; rule = has.rule; has_rule = has.has_rule; way = turn.way } in
      let same : entries ≡ turn.middle = block_once model (λ g s. ⊤) allows block entries turn.middle is_block middle in
      let here : slice_get (direct turn.middle) place ≡ Some (OfBranch guard then otherwise) = subst (λ e. slice_get (direct e) place ≡ Some (OfBranch guard then otherwise)) same at in
      let guards : turn.guard ≡ guard = guard_same turn.guard guard turn.then turn.otherwise then otherwise (sym turn.at ∙ here) in
      opens_further model (situation_of decisions (shown content)) (situation_of decisions seen) further_on (InRule block.token block.rule) guard side
      (subst (λ g. allows g side) guards turn.allows)
    where
      guard_same : (one other : Guard) (a b c d : Entries) → Some (OfBranch one a b) ≡ Some (OfBranch other c d) → one ≡ other
      guard_same one other a b c d e = cc

  -- and where it opens one, that is there
  opens_open : (block : TokenBlock) (entries : Entries) (place : ℕ) (guard : Guard) (then otherwise : Entries) (side : Side) → Contains content.blocks block → IsBlock model block entries
      → slice_get (direct entries) place ≡ Some (OfBranch guard then otherwise) → OpensIn model decisions seen block guard side
      → Contains content.blocks (block_at block.token block.rule (turned block.path place side))
  opens_open block entries place guard then otherwise side there is_block at opens =
      whole.grown.branches block entries place guard then otherwise side there is_block at
      (opens_further model (situation_of decisions seen) (situation_of decisions (shown content)) further_back (InRule block.token block.rule) guard side opens)

  named_open : (one : OpenBlock) (place : ℕ) (side : Side) → Contains stored.blocks (block_behind one place side)
      → Contains content.blocks (block_at (named_block names one).token one.rule (turned one.path place side))
  named_open one place side there =
      let at = get_from_contains stored.blocks (block_behind one place side) there in
      contains_from_get content.blocks at.0 _ (mapped (named_block names) stored.blocks at.0 (block_behind one place side) at.1)

  open_named : (one : OpenBlock) (place : ℕ) (side : Side) → Contains stored.blocks one
      → Contains content.blocks (block_at (named_block names one).token one.rule (turned one.path place side)) → Contains stored.blocks (block_behind one place side)
  open_named one place side here there =
      let found = unmapped (named_block names) stored.blocks (block_at (named_block names one).token one.rule (turned one.path place side)) there in
      let same = same_open names is.tokens_once found.0 (block_behind one place side) (token_below found.0 found.1.0) (token_below one here) found.1.1 in
      subst (Contains stored.blocks) same found.1.0

  pub all_certain : AreAllCertain model stored → (block : TokenBlock) (entries : Entries) (guard : Guard) (then otherwise : Entries)
      → IsSupportedBlock model (situation_of decisions seen) block entries → Contains (direct entries) (OfBranch guard then otherwise) → IsCertain model decisions seen block guard
  all_certain branches block entries guard then otherwise supported stands =
      let up = block_further model (situation_of decisions seen) (situation_of decisions (shown content)) further_back block entries supported in
      let found = unmapped (named_block names) stored.blocks block (supported_there.blocks block entries up) in
      let at = get_from_contains stored.blocks found.0 found.1.0 in
      let is_block : IsBlock model block entries = HasBlock-map model _ (λ g s. ⊤) (λ g s allows. tt) block entries up.is_open.has_block in
      let place = get_from_contains (direct entries) (OfBranch guard then otherwise) stands in
      let branch = branches at.0 found.0 entries at.1 (subst (λ b. IsBlock model b entries) (sym found.1.1) is_block) place.0 guard then otherwise place.1 in
      certain_of found.0 block found.1.1 entries place.0 is_block place.1 branch
    where
      certain_of : (one : OpenBlock) (block : TokenBlock) → named_block names one ≡ block → (entries : Entries) (place : ℕ) → IsBlock model block entries
          → slice_get (direct entries) place ≡ Some (OfBranch guard then otherwise) → IsCertainBranch model stored one place guard → IsCertain model decisions seen block guard
      certain_of one block same entries place is_block at (inl (inl behind)) =
          inl (inl (open_opens block entries place guard then otherwise Then is_block at (subst (λ (b : TokenBlock). Contains content.blocks (block_at b.token b.rule (turned b.path place Then))) same (named_open one place Then behind))))
      certain_of one block same entries place is_block at (inl (inr behind)) =
          inl (inr (open_opens block entries place guard then otherwise Otherwise is_block at (subst (λ (b : TokenBlock). Contains content.blocks (block_at b.token b.rule (turned b.path place Otherwise))) same (named_open one place Otherwise behind))))
      certain_of one block same entries place is_block at (inr (inl out)) = inr (inl (out_rejected _ out))
      certain_of one block same entries place is_block at (inr (inr out)) = inr (inr (out_rejected _ out))

  certain_all : ((block : TokenBlock) (entries : Entries) (guard : Guard) (then otherwise : Entries)
      → IsSupportedBlock model (situation_of decisions seen) block entries → Contains (direct entries) (OfBranch guard then otherwise) → IsCertain model decisions seen block guard)
      → AreAllCertain model stored
  certain_all certain number one entries at is_block place guard then otherwise stands =
      let here = contains_from_get stored.blocks number one at in
      let block = named_block names one in
      let there = named_here number one at in
      let up = rest.underway.justified.blocks block there in
      let same : entries ≡ up.0 = block_once model (λ g s. ⊤) _ block entries up.0 is_block up.1.is_open.has_block in
      let supported = block_further model (situation_of decisions (shown content)) (situation_of decisions seen) further_on block entries
      (subst (IsSupportedBlock model (situation_of decisions (shown content)) block) (sym same) up.1) in
      branch_certain there here (certain block entries guard then otherwise supported (contains_from_get (direct entries) place (OfBranch guard then otherwise) stands))
    where
      named_here : (number : ℕ) (one : OpenBlock) → slice_get stored.blocks number ≡ Some one → Contains content.blocks (named_block names one)
      named_here number one at = contains_from_get content.blocks number (named_block names one) (mapped (named_block names) stored.blocks number one at)

      branch_certain : Contains content.blocks (named_block names one) → Contains stored.blocks one
          → IsCertain model decisions seen (named_block names one) guard → IsCertainBranch model stored one place guard
      branch_certain there here (inl (inl opens)) = inl (inl (open_named one place Then here (opens_open (named_block names one) entries place guard then otherwise Then there is_block stands opens)))
      branch_certain there here (inl (inr opens)) = inl (inr (open_named one place Otherwise here (opens_open (named_block names one) entries place guard then otherwise Otherwise there is_block stands opens)))
      branch_certain there here (inr (inl of)) = inr (inl (rejected_out _ of))
      branch_certain there here (inr (inr of)) = inr (inr (rejected_out _ of))

  pub complete_from : AreAllDecided (tokens_now stored.past) → AreAllCertain model stored → IsTokenComplete model decisions seen
  complete_from decided branches = record { tokens = all_decided decided; guards = all_certain branches }

  pub complete_decided : IsTokenComplete model decisions seen → AreAllDecided (tokens_now stored.past)
  complete_decided complete = decided_all complete.tokens

  pub complete_certain : IsTokenComplete model decisions seen → AreAllCertain model stored
  complete_certain complete = certain_all complete.guards

  pub blocks_there : AreBlocksOf model stored
  blocks_there number one at =
      let there = contains_from_get content.blocks number (named_block names one) (mapped (named_block names) stored.blocks number one at) in
      let up = rest.underway.justified.blocks (named_block names one) there in
      (up.0, HasBlock-map model _ (λ g s. ⊤) (λ g s allows. tt) (named_block names one) up.0 up.1.is_open.has_block)
