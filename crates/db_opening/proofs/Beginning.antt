-- A store that has begun: its roots, and what the problem's constraints say.
use borrow.Author.Count.{below_more}
use Rattle.std.proofs.Common.{◌≡◌, ℕ, ◌+◌, ◌<◌, ◌≤◌, List, [], ◌∷◌, ◌++◌, length, map, get_or, Ok, Err, inl, inr, refl, sym, ap, ◌∙◌, subst, arith}
use Rattle.std.specs.Prelude.{Contains, Result, OnOk, MatchResult}
use Rattle.std.proofs.lemmas.List.{map-append, length-map}
use Rattle.std.proofs.lemmas.List.Elements.{Contains-append_left, Contains-append_right, Contains-push_cases}
use Rattle.eu_name.specs.declared.name.Part.TheVariants.{Object}
use Rattle.eu_name.specs.declared.name.Step.{Step}
use Rattle.eu_name.specs.declared.name.TokenName.{TokenName}
use Rattle.eu_name.specs.declared.name.VarName.TheVariants.{Token}
use Rattle.model_core.specs.declared.item.Item.{Item}
use Rattle.model_core.specs.declared.model.Model.{Model}
use Rattle.model_core.specs.declared.rule.Slot.{Slot}
use Rattle.model_core.specs.Decided.{IsTaken}
use Rattle.model_core.specs.Kinds.{OfProblem}
use Rattle.model_core.specs.Lawful.{IsLawful}
use Rattle.model_core.specs.Tokens.{HasToken, root_token, slot_of}
use Rattle.narrow_core.specs.declared.field.Field.{Field}
use Rattle.constraint_net.specs.declared.NetFault.{NetFault}
use Rattle.constraint_net.specs.declared.NetFault.TheVariants.{Collapsed, Memory}
use Rattle.constraint_net.specs.declared.constraint.Constraint.{Constraint}
use Rattle.token_store.specs.Tokens.{TokenList, tokens_now, token_names}
use Rattle.token_store.specs.declared.trail.Token as kept
use Rattle.plan_defs.specs.Claims.{Claim, ItemSays, IsClaim}
use Rattle.plan_defs.specs.Laws.{HaveToTurn}
use Rattle.plan_defs.specs.Terms.{InProblem}
use Rattle.eu_name.proofs.Members.{get_below, get_within}
use Rattle.eu_name.proofs.Ordered.{contains_none}
use Rattle.db_refine.specs.Claims.{IsPostedIn}
use Rattle.model_core.specs.Content.{Content, shown}
use Rattle.db_refine.specs.Growth.{LeaveNothing}
use Rattle.db_refine.specs.Progress.{IsTurnFollowed}
use Rattle.db_refine.proofs.Keeping.{first_misses}
use Rattle.db_refine.proofs.Supporting.{root_supported}
use Rattle.db_store.specs.Keys.{named_variable, named_block}
use Rattle.db_store.specs.Stores.{Stored}
use Rattle.db_store.specs.declared.key.OpenBlock.{OpenBlock}
use Rattle.db_store.proofs.Naming.{gives_by_number}
use Rattle.db_posting.specs.Counting.{AreRootsThere}
use Rattle.db_posting.specs.Origins.{content_now}
use Rattle.db_posting.specs.Postable.{CanPostItem, IsItemNamed}
use Rattle.db_posting.specs.Posted.{PostsClaims, OnlyPosts}
use Rattle.db_posting.specs.Tables.{HaveTables}
use Rattle.db_posting.proofs.Allowing.{lawful_items_can_be_posted}
use Rattle.db_posting.proofs.Present.{items_of_problem_are_named}
use Rattle.db_posting.proofs.Storing.{with_constraints}
use Rattle.db_opening.specs.Begun.{IsBegun, StaysBegun}
use Rattle.db_posting.specs.Underway.{OnlyAdds}
use Rattle.db_opening.proofs.Standing.{claims_justified}
use Rattle.db_opening.specs.Beginning.{AreItemsSaid, IsBeginning, FillsStore, BeginsFrom}

-- ---- roots

module _ (model : Model) (number : ℕ) (below : number < length model.problem.roots) where
  -- a root with no steps, as the code makes it
  module _ (steps : List Step) (none : steps ≡ []) where
    as_root : record { root = number; steps = steps } ≡ root_token number
    as_root = λ i. record { root = number; steps = none i }

    pub root_there : (slot : Slot) × HasToken model (record { root = number; steps = steps }) slot
    root_there =
        let found = get_within model.problem.roots number below in
        subst (λ (token : TokenName). (slot : Slot) × HasToken model token slot) (sym as_root)
        (slot_of found.0, record { root = found.0; is_root = found.1; reached = refl })

    module _ (old new : Stored) (begun : IsBegun model old) where
      pub root_begun : (result : Result (Unit {0}) NetFault) → StaysBegun model (record { root = number; steps = steps }) old result new → OnOk result (IsBegun model new)
      root_begun (Ok done) stays =
          let found = get_within model.problem.roots number below in
          let as_named = subst (λ (token : TokenName). StaysBegun model token old (Ok done) new) as_root stays in
          as_named begun (root_supported model [] (shown (content_now old)) number found.0 found.1)
      root_begun (Err fault) stays = tt

      pub root_void : (result : Result (Unit {0}) NetFault) → StaysBegun model (record { root = number; steps = steps }) old result new → result ≡ Err Collapsed → LeaveNothing model []
      root_void result stays fails =
          let found = get_within model.problem.roots number below in
          let as_named = subst (λ (r : Result (Unit {0}) NetFault). StaysBegun model (root_token number) old r new) fails
          (subst (λ (token : TokenName). StaysBegun model token old result new) as_root stays) in
          as_named begun (root_supported model [] (shown (content_now old)) number found.0 found.1)

    pub root_named : (new : Stored) (result : Result (Unit {0}) NetFault) → OnOk result (Contains (token_names (tokens_now new.past)) (record { root = number; steps = steps }))
        → OnOk result (Contains (content_now new).tokens (root_token number))
    root_named new result there = subst (λ (token : TokenName). OnOk result (Contains (content_now new).tokens token)) as_root there

-- tokens that were there still are
pub tokens_stay : (old new : Stored) → OnlyAdds old new → (token : TokenName) → Contains (content_now old).tokens token → Contains (content_now new).tokens token
tokens_stay old new adds token there =
    subst (λ (list : List TokenName). Contains list token)
    (sym (ap (λ (list : TokenList). token_names list) adds.tokens.1 ∙ map-append (λ (each : TokenName × kept.Token). each.0) (tokens_now old.past) adds.tokens.0))
    (Contains-append_left (content_now old).tokens (token_names adds.tokens.0) token there)

-- the first so many roots are there
abbrev pub AreFirstRoots : ℕ → Stored → Type 0
AreFirstRoots count stored = (number : ℕ) → number < count → Contains (content_now stored).tokens (root_token number)

pub roots_more : (count : ℕ) (old new : Stored) → OnlyAdds old new → AreFirstRoots count old → Contains (content_now new).tokens (root_token count) → AreFirstRoots (count + 1) new
roots_more count old new adds before there number below = below_more (λ (n : ℕ). Contains (content_now new).tokens (root_token n)) count (λ n less. tokens_stay old new adds (root_token n) (before n less)) there number below

pub roots_there : (model : Model) (count : ℕ) (stored : Stored) → length model.problem.roots ≤ count → AreFirstRoots count stored → AreRootsThere model (content_now stored)
roots_there model count stored all first number root is_root = let below = get_below model.problem.roots number root is_root in first number (omega (arith, all, below))

-- ---- what the problem's constraints say

pub roots_stay : (model : Model) (old new : Stored) → OnlyPosts old new → AreRootsThere model (content_now old) → AreRootsThere model (content_now new)
roots_stay model old new only roots = subst (λ (stored : Stored). AreRootsThere model (content_now stored)) (sym only) roots

pub tables_stay : (model : Model) (old new : Stored) → OnlyPosts old new → HaveTables model old.net.tables → HaveTables model new.net.tables
tables_stay model old new only have = subst (λ (stored : Stored). HaveTables model stored.net.tables) (sym only) have

module _ (model : Model) (old : Stored) (Said : Claim → Type 0) (list : List Constraint) (posts : PostsClaims (content_now old).names Said old.net.constraints list) where
  -- what was posted still is
  posted_still : (claim : Claim) → IsPostedIn (content_now old).names old.net.constraints claim → IsPostedIn (content_now old).names list claim
  posted_still claim is =
      (is.0, subst (λ (l : List Constraint). Contains l is.0) (sym posts.behind) (Contains-append_left old.net.constraints posts.later is.0 is.1), is.2)

  -- and so is what is said now
  posted_now : (claim : Claim) → Said claim → IsPostedIn (content_now old).names list claim
  posted_now claim said =
      let is = posts.all claim said in
      (is.0, subst (λ (l : List Constraint). Contains l is.0) (sym posts.behind) (Contains-append_right old.net.constraints posts.later is.0 is.1), is.2)

  begun_with : ((claim : Claim) → Said claim → IsClaim model [] (shown (content_now old)) claim) → IsBegun model old → IsBegun model (with_constraints old list)
  begun_with claimed begun = record {
    justified = claims_justified model [] old.net.tables (content_now old) Said old.net.constraints list posts claimed begun.justified;
    states = record { states = begun.states.states; rejected = begun.states.rejected };
    preds = begun.preds;
    no_blocks = begun.no_blocks;
    of_tokens = λ claim of. posted_still claim (begun.of_tokens claim of);
  }

module _ (model : Model) (item : Item) (old new : Stored) (only : OnlyPosts old new)
    (posts : PostsClaims (content_now old).names (ItemSays model (IsTaken []) InProblem item) old.net.constraints new.net.constraints) where
  pub item_begun : Contains model.problem.items item → IsBegun model old → IsBegun model new
  item_begun stands begun = subst (IsBegun model) (sym only)
      (begun_with model old (ItemSays model (IsTaken []) InProblem item) new.net.constraints posts
      (λ claim says. inl (record { item = item; stands = stands; says = says })) begun)

  pub items_more : (before : List Item) → AreItemsSaid model before old → AreItemsSaid model (before ++ item ∷ []) new
  items_more before said one claim there says =
      subst (λ (stored : Stored). IsPostedIn (content_now stored).names new.net.constraints claim) (sym only)
      (elim (Contains-push_cases before item one there) [
        | inl earlier ↦ posted_still model old (ItemSays model (IsTaken []) InProblem item) new.net.constraints posts claim (said one claim earlier says)
        | inr same ↦ posted_now model old (ItemSays model (IsTaken []) InProblem item) new.net.constraints posts claim
            (subst (λ (it : Item). ItemSays model (IsTaken []) InProblem it claim) (sym same) says)
      ])

pub no_items : (model : Model) (stored : Stored) → AreItemsSaid model [] stored
no_items model stored item claim there says = absurd (contains_none item there)

-- each of them can be posted, and its variables are there
module _ (model : Model) (lawful : IsLawful model) (k : ℕ) (d : Item) (below : k < length model.problem.items) where
  abbrev item_at : Item
  item_at = get_or model.problem.items k d

  pub item_postable : (tables : List Field) → HaveTables model tables → CanPostItem tables InProblem item_at
  item_postable tables have = lawful_items_can_be_posted model tables InProblem OfProblem item_at lawful have tt (lawful.items k d below)

  pub item_named : (stored : Stored) → IsBegun model stored → AreRootsThere model (content_now stored) → IsItemNamed (content_now stored) InProblem item_at
  item_named stored begun roots = items_of_problem_are_named model (content_now stored) item_at begun.justified.is_content roots (lawful.items k d below)

-- ---- at the end

module _ (model : Model) (stored : Stored) (begun : IsBegun model stored) (roots : AreRootsThere model (content_now stored)) (said : AreItemsSaid model model.problem.items stored) where
  abbrev content : Content
  content = content_now stored

  no_blocks : content.blocks ≡ []
  no_blocks = ap (λ (list : List OpenBlock). map (named_block content.tokens) list) begun.no_blocks

  turns_due : (due : List ℕ) → ((number : ℕ) → number < length stored.keys → Contains due number) → (one other : TokenName) → HaveToTurn model [] (shown content) one other
      → IsTurnFollowed stored.net.constraints content due one other
  turns_due due all one other turn =
      let at = (gives_by_number content (Token one Object) turn.share.one_on.0).0 turn.share.one_on.1 in
      let within = get_below content.names at.0 (Token one Object) at.1 in
      let count = length-map stored.keys (named_variable content.tokens) in
      inr (inl (inl (at.0, at.1, all at.0 (omega (arith, within, count)))))

  pub beginning : HaveTables model stored.net.tables → IsBeginning model stored
  beginning have = record {
    underway = λ due all. record {
      justified = begun.justified;
      complete = first_misses model stored.net.constraints content due no_blocks roots (λ claim of. said of.item claim of.stands of.says) begun.of_tokens (turns_due due all);
      states = begun.states;
      preds = begun.preds;
      watched = λ number block entries guard then otherwise one below at is stands names. absurd (omega (arith, below));
      within = omega arith;
    };
    tables = have;
  }

pub roots_fail : (model : Model) (stored : Stored) (result : Result (Unit {0}) NetFault) → (result ≡ Err Collapsed → LeaveNothing model []) → (fault : NetFault)
    → result ≡ Err fault → FillsStore model (Err fault) stored
roots_fail model stored result void Collapsed is = void is
roots_fail model stored result void Memory is = tt

pub begins_from : (model : Model) (filled : Result (Unit {0}) NetFault) (stored : Stored) (result : Result Stored NetFault) → FillsStore model filled stored
    → MatchResult filled (λ done. result ≡ Ok stored) (λ fault. result ≡ Err fault) → BeginsFrom model result
begins_from model (Ok done) stored result begins is = subst (BeginsFrom model) (sym is) begins
begins_from model (Err Collapsed) stored result fails is = subst (BeginsFrom model) (sym is) fails
begins_from model (Err Memory) stored result fails is = subst (BeginsFrom model) (sym is) tt
