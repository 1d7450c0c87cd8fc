-- A state without what stands under a token that isn't activated fits as the whole one does.
use Rattle.std.proofs.Common.{◌≡◌, ℕ, inl, inr, ℤ, pos, ◌+ℤ◌, ◌≤ℤ◌, Bool, true, false, List, [], ◌∷◌, refl, sym, ap, ◌∙◌, subst, cond, arith}
use Rattle.std.specs.Prelude.{All, Contains, map, filter}
use Rattle.std.specs.List.{AllZip}
use Rattle.std.proofs.lemmas.Int.{ints}
use Rattle.std.proofs.lemmas.List.{append-nil}
use Rattle.std.proofs.lemmas.List.Elements.{All-head, All-tail}
use Rattle.domain_core.specs.Domain.{Domain}
use Rattle.domain_core.proofs.Words.{IsWithin-refl}
use Rattle.eu_name.specs.declared.name.Part.TheVariants.{Start, End, Object}
use Rattle.eu_name.specs.declared.name.TokenName.{TokenName}
use Rattle.eu_name.specs.declared.name.VarName.{VarName}
use Rattle.eu_name.specs.declared.name.VarName.TheVariants as names
use Rattle.model_core.specs.declared.decision.ConArg.{ConArg}
use Rattle.model_core.specs.declared.decision.ConArg.TheVariants as given
use Rattle.model_core.specs.declared.decision.Decision.{Decision}
use Rattle.model_core.specs.declared.decision.Decision.TheVariants.{Specify, Activate, Merge, Reject, Order, Constrain, Relate}
use Rattle.model_core.specs.declared.item.Term.{Term}
use Rattle.model_core.specs.declared.model.Model.{Model}
use Rattle.model_core.specs.declared.rule.Guard.{Guard}
use Rattle.model_core.specs.declared.rule.Side.{Side}
use Rattle.model_core.specs.Blocks.{TokenBlock}
use Rattle.model_core.specs.Decided.{IsActivated, IsActive}
use Rattle.model_core.specs.Entries.{Entries}
use Rattle.model_core.specs.State.{State, Gives}
use Rattle.plan_defs.specs.Claims.{Claim, IsClaim, Posts, argument_of, at_most, part_of}
use Rattle.plan_defs.specs.Closure.{IsPropagatedState, IsRespected}
use Rattle.plan_defs.specs.Situations.{situation_of}
use Rattle.plan_defs.specs.Sums.{sum_of}
use Rattle.plan_defs.specs.Support.{MayBe, Opens, IsOpen, IsSupportedToken, front_token, one_side, other_side}
use Rattle.plan_defs.specs.Terms.{InProblem, InRule, Argument, Value, Variable, HasDomain}
use Rattle.plan_defs.specs.Timelines.{ShareTimeline, IsOn}
use Rattle.plan_defs.proofs.Lower.{Further, HasBlock-map, supported_further, block_further}
use Rattle.law_search.specs.SwapLaws.{StandsUnderActive, IsOfActive, IsArgumentOfActive, IsGrounded}
use Rattle.law_search.proofs.Tops.{IsUnderTop, IsInTop, IsClear, root_clear}
use Rattle.law_search.proofs.Pruning.{pruned, token_kept, token_stays, block_kept, block_stays, given_kept, given_stays, pruned_state, IsClearArgument, AllClear, IsClearClaim, relates_clear, item_clear, means_clear, consistent_stays}

-- ---- numbers for the tokens that stay

module _ {X : Type 0} (Has : X → ℤ → Type 0) (passes : X → Bool) where
  -- a number for each item, and for those that pass the test
  pub record Left (xs : List X) (total : ℤ) (Rel : ℤ → ℤ → Type 0) : Type 0 where
    pub numbers : List ℤ
    pub are : AllZip Has (filter passes xs) numbers
    pub sum : Rel total (sum_of numbers)

  module _ (none : (x : X) (number : ℤ) → passes x ≡ false → Has x number → number ≤ℤ pos 0) where
    pub left_no_less : (xs : List X) (numbers : List ℤ) → AllZip Has xs numbers → Left xs (sum_of numbers) (λ total sum. total ≤ℤ sum)
    left_no_less [] [] are = record { numbers = []; are = tt; sum = omega (arith, ints) }
    left_no_less [] (number ∷ numbers) are = absurd are
    left_no_less (x ∷ xs) [] are = absurd are
    left_no_less (x ∷ xs) (number ∷ numbers) are =
        let rest = left_no_less xs numbers are.1 in
        by_test (passes x) refl rest
      where
        by_test : (test : Bool) → passes x ≡ test → Left xs (sum_of numbers) (λ total sum. total ≤ℤ sum)
            → Left (x ∷ xs) (number +ℤ sum_of numbers) (λ total sum. total ≤ℤ sum)
        by_test true e rest = record {
          numbers = number ∷ rest.numbers;
          are = subst (λ t. AllZip Has (cond t (x ∷ filter passes xs) (filter passes xs)) (number ∷ rest.numbers)) (sym e) (are.0, rest.are);
          sum = let less = rest.sum in omega (arith, ints, less);
        }
        by_test false e rest = record {
          numbers = rest.numbers;
          are = subst (λ t. AllZip Has (cond t (x ∷ filter passes xs) (filter passes xs)) rest.numbers) (sym e) rest.are;
          sum = let less = rest.sum in let small = none x number e are.0 in omega (arith, ints, less, small);
        }

  module _ (none : (x : X) (number : ℤ) → passes x ≡ false → Has x number → pos 0 ≤ℤ number) where
    pub left_no_more : (xs : List X) (numbers : List ℤ) → AllZip Has xs numbers → Left xs (sum_of numbers) (λ total sum. sum ≤ℤ total)
    left_no_more [] [] are = record { numbers = []; are = tt; sum = omega (arith, ints) }
    left_no_more [] (number ∷ numbers) are = absurd are
    left_no_more (x ∷ xs) [] are = absurd are
    left_no_more (x ∷ xs) (number ∷ numbers) are =
        let rest = left_no_more xs numbers are.1 in
        by_test (passes x) refl rest
      where
        by_test : (test : Bool) → passes x ≡ test → Left xs (sum_of numbers) (λ total sum. sum ≤ℤ total)
            → Left (x ∷ xs) (number +ℤ sum_of numbers) (λ total sum. sum ≤ℤ total)
        by_test true e rest = record {
          numbers = number ∷ rest.numbers;
          are = subst (λ t. AllZip Has (cond t (x ∷ filter passes xs) (filter passes xs)) (number ∷ rest.numbers)) (sym e) (are.0, rest.are);
          sum = let less = rest.sum in omega (arith, ints, less);
        }
        by_test false e rest = record {
          numbers = rest.numbers;
          are = subst (λ t. AllZip Has (cond t (x ∷ filter passes xs) (filter passes xs)) rest.numbers) (sym e) rest.are;
          sum = let less = rest.sum in let small = none x number e are.0 in omega (arith, ints, less, small);
        }

module _ (model : Model) (decisions : List Decision) (state : State) (top : TokenName)
    (grounded : (decision : Decision) → Contains decisions decision → IsGrounded model decisions decision) (idle : IsActivated decisions top → ⊥) where
  abbrev pub low : State
  low = pruned top state

  -- what stands under activated tokens doesn't stand under the top
  pub active_clear : (token : TokenName) → StandsUnderActive decisions token → IsUnderTop top token → ⊥
  active_clear token under is =
      let same : front_token token top.steps ≡ top = λ i. record { root = ap (λ (t : TokenName). t.root) is.1.1 i; steps = top.steps } in
      idle (subst (IsActivated decisions) same (under top.steps is.0 is.1.0 (ap (λ (t : TokenName). t.steps) is.1.1)))

  -- an activated token isn't in the top
  pub activated_out : (token : TokenName) → IsActivated decisions token → IsInTop top token → ⊥
  activated_out token activated ([], is) = idle (subst (IsActivated decisions) (is ∙ (λ i. record { root = top.root; steps = append-nil top.steps i })) activated)
  activated_out token activated (step ∷ steps, is) = active_clear token (grounded (Activate token) activated) (step, (steps, is))

  pub taking_place_clear : (token : TokenName) → IsActive model decisions token → IsUnderTop top token → ⊥
  taking_place_clear token (inl fact) = root_clear top token fact.0
  taking_place_clear token (inr activated) = active_clear token (grounded (Activate token) activated)

  -- ---- what is asked for

  pub fewer : Further (situation_of decisions low) (situation_of decisions state)
  fewer = record {
    taken = λ token taken. taken;
    activated = λ token activated. activated;
    gives = λ name domain gives. (domain, (given_kept top state name domain gives).0, IsWithin-refl domain);
  }

  supported_clear : (token : TokenName) → IsSupportedToken model (situation_of decisions state) token → IsUnderTop top token → ⊥
  supported_clear token supported is =
      let same : front_token token top.steps ≡ top = λ i. record { root = ap (λ (t : TokenName). t.root) is.1.1 i; steps = top.steps } in
      idle (subst (IsActivated decisions) same (supported.asked top.steps is.0 is.1.0 (ap (λ (t : TokenName). t.steps) is.1.1)).is_open.activated)

  -- guards of activated tokens read the same
  opens_still : (token : TokenName) (rule : ℕ) → (IsInTop top token → ⊥) → (guard : Guard) (side : Side)
      → Opens model (situation_of decisions state) (InRule token rule) guard side → Opens model (situation_of decisions low) (InRule token rule) guard side
  opens_still token rule out guard side opens = record {
    one = opens.one;
    other = opens.other;
    is_one = may_be (one_side guard) opens.one opens.is_one;
    is_other = may_be (other_side guard) opens.other opens.is_other;
    always = opens.always;
  }
    where
      has_still : (argument : Argument) (domain : Domain) → IsClearArgument top argument → HasDomain (Gives state) argument domain → HasDomain (Gives (pruned top state)) argument domain
      has_still (Value value) domain clear has = has
      has_still (Variable name) domain clear has = given_stays top state name domain has clear

      may_be : (term : Term) (domain : Domain) → MayBe model (situation_of decisions state) (InRule token rule) term domain
          → MayBe model (situation_of decisions (pruned top state)) (InRule token rule) term domain
      may_be term domain may = record {
        argument = may.argument;
        means = may.means;
        counts = may.counts;
        has = has_still may.argument domain (means_clear top (InRule token rule) term may.argument out may.means) may.has;
      }

  pub open_still : (block : TokenBlock) (entries : Entries) → IsOpen model (situation_of decisions state) block entries → IsOpen model (situation_of decisions low) block entries
  open_still block entries opened = record {
    activated = opened.activated;
    has_block = HasBlock-map model _ _ (opens_still block.token block.rule (activated_out block.token opened.activated)) block entries opened.has_block;
  }

  pub supported_still : (token : TokenName) → IsSupportedToken model (situation_of decisions state) token → IsSupportedToken model (situation_of decisions low) token
  supported_still token supported = record {
    root = supported.root;
    is_root = supported.is_root;
    asked = λ front step back are.
        let asks = supported.asked front step back are in
        record { path = asks.path; entries = asks.entries; is_open = open_still _ asks.entries asks.is_open; stands = asks.stands };
  }

  -- ---- claims

  named_clear : (name : VarName) → IsOfActive decisions name → IsClear top name
  named_clear (names.Global number) of = tt
  named_clear (names.Token token part) of = active_clear token of
  named_clear (names.Local token rule number) of = activated_out token of.0

  arguments_clear : (arguments : List ConArg) → All (IsArgumentOfActive decisions) arguments → AllClear top (map argument_of arguments)
  arguments_clear [] of = tt
  arguments_clear (argument ∷ arguments) of = (
    one_clear argument (All-head (IsArgumentOfActive decisions) argument arguments of),
    arguments_clear arguments (All-tail (IsArgumentOfActive decisions) argument arguments of),
  )
    where
      one_clear : (argument : ConArg) → IsArgumentOfActive decisions argument → IsClearArgument top (argument_of argument)
      one_clear (given.Var name) of = named_clear name of
      one_clear (given.Value value) of = tt

  -- what is posted keeps clear of the top
  posting_clear : (decision : Decision) (claim : Claim) → IsGrounded model decisions decision → Posts decision claim → IsClearClaim top claim
  posting_clear (Specify name value) claim ground posts = absurd posts
  posting_clear (Activate token) claim ground posts = absurd posts
  posting_clear (Merge token target) claim ground posts = absurd posts
  posting_clear (Reject token) claim ground posts = absurd posts
  posting_clear (Order one other) claim ground posts = absurd posts
  posting_clear (Constrain kind arguments) claim ground posts = subst (IsClearClaim top) (sym posts) (arguments_clear arguments ground)
  posting_clear (Relate relation one other) claim ground posts =
      relates_clear top one other (λ part. active_clear one ground.0) (λ part. active_clear other ground.1) relation claim posts

  claim_clear : (claim : Claim) → IsClaim model decisions low claim → IsClearClaim top claim
  claim_clear claim (inl p) = item_clear top model _ InProblem p.item claim tt p.says
  claim_clear claim (inr (inl p)) = item_clear top model _ (InRule p.block.token p.block.rule) p.item claim (block_kept top state p.block p.is_open).1 p.says
  claim_clear claim (inr (inr (inl p))) =
      let clear = (token_kept top state p.token p.there).1 in
      subst (IsClearClaim top) (sym p.says) (clear, (clear, (clear, tt)))
  claim_clear claim (inr (inr (inr (inl p)))) =
      let ground = grounded (Merge p.token p.target) p.merged in
      subst (IsClearClaim top) (sym p.says) (active_clear p.token ground.0, (active_clear p.target ground.1.0, tt))
  claim_clear claim (inr (inr (inr (inr (inl p))))) =
      let ground = grounded (Order p.one p.other) p.ordered in
      subst (IsClearClaim top) (sym p.says) (active_clear p.one ground.0.0, (active_clear p.other ground.1.0, tt))
  claim_clear claim (inr (inr (inr (inr (inr p))))) = posting_clear p.decision claim (grounded p.decision p.stands) p.posts

  claim_more : (claim : Claim) → IsClaim model decisions low claim → IsClaim model decisions state claim
  claim_more claim (inl p) = inl p
  claim_more claim (inr (inl p)) = inr (inl (record {
    block = p.block;
    entries = p.entries;
    item = p.item;
    is_open = (block_kept top state p.block p.is_open).0;
    has_block = p.has_block;
    stands = p.stands;
    says = p.says;
  }))
  claim_more claim (inr (inr (inl p))) = inr (inr (inl (record { token = p.token; there = (token_kept top state p.token p.there).0; says = p.says })))
  claim_more claim (inr (inr (inr rest))) = inr (inr (inr rest))

  pub on_more : (token : TokenName) (object : ℤ) → IsOn low token object → IsOn state token object
  on_more token object on = (on.0, (given_kept top state (names.Token token Object) on.0 on.1).0, on.2)

  -- ---- it is propagated

  pub low_propagated : IsPropagatedState model decisions state → IsPropagatedState model decisions (pruned top state)
  low_propagated is = record {
    is_state = pruned_state model top state is.is_state;
    tokens = λ token supported.
        let more = supported_further model _ _ fewer token supported in
        token_stays top state token (is.tokens token more) (supported_clear token more);
    blocks = λ block entries supported.
        let more = block_further model _ _ fewer block entries supported in
        block_stays top state block (is.blocks block entries more) (activated_out block.token more.is_open.activated);
    in_base = λ name domain gives. is.in_base name domain (given_kept top state name domain gives).0;
    respected = λ decision there. respected_still decision (is.respected decision there);
    claims = λ claim says. consistent_stays top model state claim (claim_clear claim says) (is.claims claim (claim_more claim says));
    timelines = λ one other share late.
        let more : ShareTimeline model decisions state one other = record {
          apart = share.apart;
          one_active = share.one_active;
          other_active = share.other_active;
          timeline = share.timeline;
          is_timeline = share.is_timeline;
          one_on = on_more one share.timeline share.one_on;
          other_on = on_more other share.timeline share.other_on;
        } in
        consistent_stays top model state (at_most (part_of other End) (part_of one Start))
        (taking_place_clear other share.other_active, (taking_place_clear one share.one_active, tt))
        (is.timelines one other more (record {
          end = late.end;
          start = late.start;
          gives_end = (given_kept top state (names.Token one End) late.end late.gives_end).0;
          gives_start = (given_kept top state (names.Token other Start) late.start late.gives_start).0;
          late = late.late;
        }));
  }
    where
      respected_still : (decision : Decision) → IsRespected decision state → IsRespected decision (pruned top state)
      respected_still (Specify name value) respected = λ domain gives. respected domain (given_kept top state name domain gives).0
      respected_still (Activate token) respected = tt
      respected_still (Merge token target) respected = tt
      respected_still (Reject token) respected = tt
      respected_still (Order one other) respected = tt
      respected_still (Constrain kind arguments) respected = tt
      respected_still (Relate relation one other) respected = tt
