-- A block is unfolded, a variable is looked at and a decision is taken up, where what they ask for is there.
use Rattle.std.proofs.Common.{◌≡◌, ℕ, ◌+◌, ◌≤◌, List, [], ◌∷◌, ◌++◌, length, Some, ◌⊎◌, inl, inr, refl, sym, subst, arith}
use Rattle.std.specs.Prelude.{Contains, slice_get}
use Rattle.std.proofs.lemmas.Bool.{cases_lt}
use Rattle.std.proofs.lemmas.List.Elements.{Contains-push_cases}
use Rattle.eu_name.specs.declared.name.Part.TheVariants.{Start, End, Object}
use Rattle.eu_name.specs.declared.name.TokenName.{TokenName}
use Rattle.eu_name.specs.declared.name.VarName.{VarName}
use Rattle.eu_name.specs.declared.name.VarName.TheVariants.{Token}
use Rattle.model_core.specs.declared.decision.Decision.{Decision}
use Rattle.model_core.specs.declared.decision.Decision.TheVariants.{Activate, Merge, Order}
use Rattle.model_core.specs.declared.model.Model.{Model}
use Rattle.model_core.specs.declared.rule.Guard.{Guard}
use Rattle.model_core.specs.declared.rule.Side.{Side}
use Rattle.model_core.specs.Blocks.{TokenBlock, IsBlock, direct, OfSlot, OfBranch}
use Rattle.model_core.specs.Decided.{IsTaken}
use Rattle.model_core.specs.Entries.{Entries}
use Rattle.model_core.specs.Tokens.{slot_token}
use Rattle.constraint_net.specs.declared.constraint.Constraint.{Constraint}
use Rattle.plan_defs.specs.Claims.{Claim, Posts, IsOfProblem, IsOfBlock, IsOfMerge, IsOfOrder}
use Rattle.plan_defs.specs.Closure.{IsRespected}
use Rattle.plan_defs.specs.Laws.{HaveToTurn}
use Rattle.plan_defs.specs.Refusals.{IsKnown}
use Rattle.plan_defs.specs.Terms.{InProblem, InRule}
use Rattle.eu_name.proofs.Members.{get_below, get_same, contains_from_get}
use Rattle.eu_name.proofs.Ordered.{contains_cases}
use Rattle.db_refine.specs.Claims.{IsPostedIn}
use Rattle.model_core.specs.Content.{Content, shown}
use Rattle.db_refine.specs.Coming.{IsTakenUp}
use Rattle.db_refine.specs.ProgressLaws.{AreItemsPosted}
use Rattle.db_refine.specs.Progress.{MissesNothing, IsUnfolded, IsDue, GuardNames, IsFollowed, IsTurnFollowed, AreBranchesFollowed}
use Rattle.model_core.proofs.Blocks.{at_block}
use Rattle.db_refine.proofs.Counting.{says_cases, opens_cases, turn_cases}
use Rattle.db_refine.proofs.Mapping.{followed_kept, turn_followed_kept}

-- ---- a further block

module _ (model : Model) (decisions : List Decision) (posted : List Constraint) (content : Content) (block : TokenBlock) (entries : Entries) (unfolded : ℕ) (due : List ℕ)
    (misses : MissesNothing model decisions posted content unfolded due) (at : slice_get content.blocks unfolded ≡ Some block) (is_block : IsBlock model block entries) where
  unfolded_cases : (other : TokenBlock) → IsUnfolded content (unfolded + 1) other → IsUnfolded content unfolded other ⊎ (block ≡ other)
  unfolded_cases other (number, stands, less) = elim (cases_lt number unfolded) [
    | inl below ↦ inl (number, stands, below)
    | inr past ↦ (
        let last : number ≡ unfolded = omega (arith, less, past) in
        inr (get_same content.blocks unfolded block other at (subst (λ (n : ℕ). slice_get content.blocks n ≡ Some other) last stands)))
  ]

  pub unfolding_misses : ((slot : ℕ) → Contains (direct entries) (OfSlot slot) → Contains content.tokens (slot_token block.token block.rule slot))
      → AreItemsPosted model decisions posted content block entries → AreBranchesFollowed model decisions content due block entries
      → MissesNothing model decisions posted content (unfolded + 1) due
  unfolding_misses slots items branches = record {
    known = misses.known;
    granted = misses.granted;
    roots = misses.roots;
    rules = misses.rules;
    before = misses.before;
    slots = λ other stood slot is_open is stands. elim (unfolded_cases other is_open) [
      | inl earlier ↦ misses.slots other stood slot earlier is stands
      | inr same ↦ at_block model (λ b e. (slot : ℕ) → Contains (direct e) (OfSlot slot) → Contains content.tokens (slot_token b.token b.rule slot))
          block other entries stood same is_block is slots slot stands
    ];
    branches = λ other stood is_open is. elim (unfolded_cases other is_open) [
      | inl earlier ↦ misses.branches other stood earlier is
      | inr same ↦ at_block model (AreBranchesFollowed model decisions content due) block other entries stood same is_block is branches
    ];
    of_problem = misses.of_problem;
    of_blocks = λ claim p. elim (unfolded_cases p.block p.is_open) [
      | inl earlier ↦ misses.of_blocks claim
          (record { block = p.block; entries = p.entries; item = p.item; is_open = earlier; has_block = p.has_block; stands = p.stands; says = p.says })
      | inr same ↦ at_block model (AreItemsPosted model decisions posted content) block p.block entries p.entries same is_block p.has_block items p.item claim p.stands p.says
    ];
    of_tokens = misses.of_tokens;
    of_merges = misses.of_merges;
    of_orders = misses.of_orders;
    of_postings = misses.of_postings;
    in_turn = misses.in_turn;
  }

-- ---- a variable

module _ (model : Model) (decisions : List Decision) (posted : List Constraint) (content : Content) (unfolded variable : ℕ) (due : List ℕ)
    (misses : MissesNothing model decisions posted content unfolded (variable ∷ due)) where
  -- what is due still is, where it isn't the variable
  due_cases : (name : VarName) → IsDue content (variable ∷ due) name → IsDue content due name ⊎ (slice_get content.names variable ≡ Some name)
  due_cases name (number, at, there) = elim (contains_cases variable number due there) [
    | inl same ↦ inr (subst (λ (n : ℕ). slice_get content.names n ≡ Some name) (sym same) at)
    | inr later ↦ inl (number, at, later)
  ]

  with_due : ((block : TokenBlock) (entries : Entries) → IsUnfolded content unfolded block → IsBlock model block entries → AreBranchesFollowed model decisions content due block entries)
      → ((one other : TokenName) → HaveToTurn model decisions (shown content) one other → IsTurnFollowed posted content due one other)
      → MissesNothing model decisions posted content unfolded due
  with_due branches in_turn = record {
    known = misses.known;
    granted = misses.granted;
    roots = misses.roots;
    rules = misses.rules;
    before = misses.before;
    slots = misses.slots;
    branches = branches;
    of_problem = misses.of_problem;
    of_blocks = misses.of_blocks;
    of_tokens = misses.of_tokens;
    of_merges = misses.of_merges;
    of_orders = misses.of_orders;
    of_postings = misses.of_postings;
    in_turn = in_turn;
  }

  pub stale_misses : length content.names ≤ variable → MissesNothing model decisions posted content unfolded due
  stale_misses past =
      let still : (name : VarName) → IsDue content (variable ∷ due) name → IsDue content due name = λ name is. elim (due_cases name is) [
        | inl still ↦ still
        | inr at ↦ absurd (let below = get_below content.names variable name at in omega (arith, past, below))
      ] in
      with_due
      (λ block entries is_open is place guard then otherwise side stands opens.
      followed_kept content content (variable ∷ due) due still (λ b there. there) block place guard side
      (misses.branches block entries is_open is place guard then otherwise side stands opens))
      (λ one other turn. turn_followed_kept content content (variable ∷ due) due still posted posted (λ claim is. is) one other (misses.in_turn one other turn))

  module _ (name : VarName) (named : slice_get content.names variable ≡ Some name) where
    is_it : (other : VarName) → slice_get content.names variable ≡ Some other → name ≡ other
    is_it other at = get_same content.names variable name other named at

    followed_cases : (block : TokenBlock) (place : ℕ) (guard : Guard) (side : Side) → IsFollowed content (variable ∷ due) block place guard side
        → IsFollowed content due block place guard side ⊎ GuardNames (InRule block.token block.rule) guard name
    followed_cases block place guard side (inl there) = inl (inl there)
    followed_cases block place guard side (inr (other, names, is)) = elim (due_cases other is) [
      | inl still ↦ inl (inr (other, names, still))
      | inr at ↦ inr (subst (GuardNames (InRule block.token block.rule) guard) (sym (is_it other at)) names)
    ]

    module _ (looked : (token one other : TokenName) → (name ≡ Token token Object) ⊎ ((name ≡ Token token Start) ⊎ (name ≡ Token token End))
        → (one ≡ token) ⊎ (other ≡ token) → HaveToTurn model decisions (shown content) one other → IsTurnFollowed posted content due one other)
        (one other : TokenName) (turn : HaveToTurn model decisions (shown content) one other) where
      turn_looked : IsTurnFollowed posted content (variable ∷ due) one other → IsTurnFollowed posted content due one other
      turn_looked (inl there) = inl there
      turn_looked (inr (inl (inl is))) = elim (due_cases (Token one Object) is) [
        | inl still ↦ inr (inl (inl still))
        | inr at ↦ looked one one other (inl (is_it (Token one Object) at)) (inl refl) turn
      ]
      turn_looked (inr (inl (inr is))) = elim (due_cases (Token one End) is) [
        | inl still ↦ inr (inl (inr still))
        | inr at ↦ looked one one other (inr (inr (is_it (Token one End) at))) (inl refl) turn
      ]
      turn_looked (inr (inr (inl is))) = elim (due_cases (Token other Object) is) [
        | inl still ↦ inr (inr (inl still))
        | inr at ↦ looked other one other (inl (is_it (Token other Object) at)) (inr refl) turn
      ]
      turn_looked (inr (inr (inr is))) = elim (due_cases (Token other Start) is) [
        | inl still ↦ inr (inr (inr still))
        | inr at ↦ looked other one other (inr (inl (is_it (Token other Start) at))) (inr refl) turn
      ]

    pub looking_misses : ((block : TokenBlock) (entries : Entries) (guard : Guard) (then otherwise : Entries)
        → IsUnfolded content unfolded block → IsBlock model block entries
        → Contains (direct entries) (OfBranch guard then otherwise) → GuardNames (InRule block.token block.rule) guard name
        → AreBranchesFollowed model decisions content due block entries)
        → ((token one other : TokenName) → (name ≡ Token token Object) ⊎ ((name ≡ Token token Start) ⊎ (name ≡ Token token End))
        → (one ≡ token) ⊎ (other ≡ token) → HaveToTurn model decisions (shown content) one other → IsTurnFollowed posted content due one other)
        → MissesNothing model decisions posted content unfolded due
    looking_misses guarded looked = with_due
        (λ block entries is_open is place guard then otherwise side stands opens.
        elim (followed_cases block place guard side (misses.branches block entries is_open is place guard then otherwise side stands opens)) [
          | inl still ↦ still
          | inr names ↦ guarded block entries guard then otherwise is_open is
              (contains_from_get (direct entries) place (OfBranch guard then otherwise) stands) names place guard then otherwise side stands opens
        ])
        (λ one other turn. turn_looked looked one other turn (misses.in_turn one other turn))

-- ---- a decision

module _ (model : Model) (decisions : List Decision) (decision : Decision) (posted : List Constraint) (content : Content) (unfolded : ℕ) (due : List ℕ)
    (misses : MissesNothing model decisions posted content unfolded due) (taken : IsTakenUp model decisions decision posted content unfolded due) where
  merged_posted : (claim : Claim) → IsOfMerge model (decisions ++ decision ∷ []) claim → IsPostedIn content.names posted claim
  merged_posted claim p = elim (Contains-push_cases decisions decision (Merge p.token p.target) p.merged) [
    | inl before ↦ misses.of_merges claim (record { token = p.token; target = p.target; part = p.part; merged = before; has_part = p.has_part; says = p.says })
    | inr is ↦ subst (IsPostedIn content.names posted) (sym p.says) (taken.of_merge p.token p.target p.part is p.has_part)
  ]

  ordered_posted : (claim : Claim) → IsOfOrder (decisions ++ decision ∷ []) claim → IsPostedIn content.names posted claim
  ordered_posted claim p = elim (Contains-push_cases decisions decision (Order p.one p.other) p.ordered) [
    | inl before ↦ misses.of_orders claim (record { one = p.one; other = p.other; ordered = before; says = p.says })
    | inr is ↦ subst (IsPostedIn content.names posted) (sym p.says) (taken.of_order p.one p.other is)
  ]

  given_posted : (other : Decision) → Contains (decisions ++ decision ∷ []) other → (claim : Claim) → Posts other claim → IsPostedIn content.names posted claim
  given_posted other there claim posts = elim (Contains-push_cases decisions decision other there) [
    | inl before ↦ misses.of_postings other before claim posts
    | inr is ↦ taken.of_posting claim (subst (λ (d : Decision). Posts d claim) (sym is) posts)
  ]

  problem_posted : (claim : Claim) → IsOfProblem model (IsTaken (decisions ++ decision ∷ [])) claim → IsPostedIn content.names posted claim
  problem_posted claim p = elim (says_cases model decisions decision InProblem p.item claim p.says) [
    | inl before ↦ misses.of_problem claim (record { item = p.item; stands = p.stands; says = before })
    | inr begins ↦ taken.of_problem claim begins p
  ]

  block_posted : (claim : Claim) → IsOfBlock model (IsTaken (decisions ++ decision ∷ [])) (IsUnfolded content unfolded) claim → IsPostedIn content.names posted claim
  block_posted claim p = elim (says_cases model decisions decision (InRule p.block.token p.block.rule) p.item claim p.says) [
    | inl before ↦ misses.of_blocks claim
        (record { block = p.block; entries = p.entries; item = p.item; is_open = p.is_open; has_block = p.has_block; stands = p.stands; says = before })
    | inr begins ↦ taken.of_blocks claim begins p
  ]

  branches_followed : (block : TokenBlock) (entries : Entries) → IsUnfolded content unfolded block → IsBlock model block entries
      → AreBranchesFollowed model (decisions ++ decision ∷ []) content due block entries
  branches_followed block entries is_open is place guard then otherwise side stands opens =
      elim (opens_cases model decisions decision (shown content) block guard side opens) [
        | inl before ↦ misses.branches block entries is_open is place guard then otherwise side stands before
        | inr (name, names, begins) ↦ taken.branches block entries guard then otherwise name is_open is
            (contains_from_get (direct entries) place (OfBranch guard then otherwise) stands) names begins place guard then otherwise side stands opens
      ]

  turns_followed : (one other : TokenName) → HaveToTurn model (decisions ++ decision ∷ []) (shown content) one other → IsTurnFollowed posted content due one other
  turns_followed one other turn = elim (turn_cases model decisions decision (shown content) one other turn) [
    | inl before ↦ misses.in_turn one other before
    | inr (inl is) ↦ taken.in_turn one one other is (inl refl) turn
    | inr (inr is) ↦ taken.in_turn other one other is (inr refl) turn
  ]

  pub deciding_misses : MissesNothing model (decisions ++ decision ∷ []) posted content unfolded due
  deciding_misses = record {
    known = λ other there. elim (Contains-push_cases decisions decision other there) [
      | inl before ↦ misses.known other before
      | inr is ↦ subst (IsKnown (shown content)) is taken.known
    ];
    granted = λ other there. elim (Contains-push_cases decisions decision other there) [
      | inl before ↦ misses.granted other before
      | inr is ↦ subst (λ (d : Decision). IsRespected d (shown content)) is taken.granted
    ];
    roots = misses.roots;
    rules = λ token rule entries there activated is. elim (Contains-push_cases decisions decision (Activate token) activated) [
      | inl before ↦ misses.rules token rule entries there before is
      | inr same ↦ taken.rules token rule entries same is
    ];
    before = misses.before;
    slots = misses.slots;
    branches = branches_followed;
    of_problem = problem_posted;
    of_blocks = block_posted;
    of_tokens = misses.of_tokens;
    of_merges = merged_posted;
    of_orders = ordered_posted;
    of_postings = given_posted;
    in_turn = turns_followed;
  }
