-- Lists with fewer decisions: what is closed for the longer list is closed for the shorter one, where what becomes of the tokens is
-- the same, or some token of the shorter list isn't decided.
use Rattle.std.proofs.Common.{ℤ, List, [], ◌∷◌, inl, inr}
use Rattle.std.specs.Prelude.{Contains}
use Rattle.std.specs.List.{AllZip}
use Rattle.std.proofs.lemmas.List.Elements.{All-weaker}
use Rattle.domain_core.proofs.Words.{IsWithin-refl}
use Rattle.eu_name.specs.declared.name.TokenName.{TokenName}
use Rattle.model_core.specs.declared.class.PredKind.{PredKind}
use Rattle.model_core.specs.declared.class.PredKind.TheVariants.{Uses, Produce, Consume}
use Rattle.model_core.specs.declared.decision.Decision.{Decision}
use Rattle.model_core.specs.declared.decision.Decision.TheVariants.{Activate, Merge, Reject}
use Rattle.model_core.specs.declared.item.Term.{Term}
use Rattle.model_core.specs.declared.item.Term.TheVariants as term
use Rattle.model_core.specs.declared.model.Model.{Model}
use Rattle.model_core.specs.Decided.{IsTaken, IsActive, IsDecided}
use Rattle.model_core.specs.State.{State}
use Rattle.plan_defs.specs.Claims.{Claim, IsClaim, IsOfProblem, IsOfBlock}
use Rattle.plan_defs.specs.Closure.{IsPropagatedState, IsClosed}
use Rattle.plan_defs.specs.Resources.{IsActor, IsShare, SurelyChanges, MayChange, IsHighChange, IsLowChange}
use Rattle.plan_defs.specs.Resources.{FitReusables, FitReservoirs, IsTokenComplete, IsCertain, IsOfRejected}
use Rattle.plan_defs.specs.Situations.{situation_of}
use Rattle.plan_defs.specs.Support.{IsSupportedToken, one_side, other_side}
use Rattle.plan_defs.specs.Terms.{InProblem, InRule, ArgumentCounts}
use Rattle.plan_defs.specs.Timelines.{ShareTimeline}
use Rattle.plan_defs.proofs.Lower.{Further, counts_further, says_further, supported_further, block_further, opens_further}

-- the one list has no decision that the other hasn't
abbrev pub IsPartOf : List Decision → List Decision → Type 0
IsPartOf fewer more = (decision : Decision) → Contains fewer decision → Contains more decision

-- it says of tokens what the other says
pub record KeepsTokens (fewer more : List Decision) : Type 0 where
  pub activated : (token : TokenName) → Contains more (Activate token) → Contains fewer (Activate token)
  pub merged : (token target : TokenName) → Contains more (Merge token target) → Contains fewer (Merge token target)
  pub rejected : (token : TokenName) → Contains more (Reject token) → Contains fewer (Reject token)

-- so nothing counts or opens less by it
pub further_kept : (fewer more : List Decision) → KeepsTokens fewer more → (state : State) → Further (situation_of more state) (situation_of fewer state)
further_kept fewer more keeps state = record {
  taken = taken;
  activated = keeps.activated;
  gives = λ name domain gives. (domain, gives, IsWithin-refl domain);
}
  where
    taken : (token : TokenName) → IsTaken more token → IsTaken fewer token
    taken token (inl p) = inl (keeps.activated token p)
    taken token (inr p) = inr (p.0, keeps.merged token p.0 p.1)

-- ---- what the shorter list says, the longer one does

module _ (fewer more : List Decision) (part : IsPartOf fewer more) where
  pub taken_more : (token : TokenName) → IsTaken fewer token → IsTaken more token
  taken_more token (inl p) = inl (part (Activate token) p)
  taken_more token (inr p) = inr (p.0, part (Merge token p.0) p.1)

  pub active_more : (model : Model) (token : TokenName) → IsActive model fewer token → IsActive model more token
  active_more model token (inl fact) = inl fact
  active_more model token (inr p) = inr (part (Activate token) p)

  pub decided_more : (model : Model) (token : TokenName) → IsDecided model fewer token → IsDecided model more token
  decided_more model token (inl fact) = inl fact
  decided_more model token (inr (inl taken)) = inr (inl (taken_more token taken))
  decided_more model token (inr (inr rejected)) = inr (inr (part (Reject token) rejected))

  module _ (state : State) where
    further_more : Further (situation_of fewer state) (situation_of more state)
    further_more = record {
      taken = taken_more;
      activated = λ token p. part (Activate token) p;
      gives = λ name domain gives. (domain, gives, IsWithin-refl domain);
    }

    module _ (model : Model) where
      of_problem_more : (claim : Claim) → IsOfProblem model (IsTaken fewer) claim → IsOfProblem model (IsTaken more) claim
      of_problem_more claim p = record {
        item = p.item;
        stands = p.stands;
        says = says_further model (IsTaken fewer) (IsTaken more) taken_more InProblem p.item claim p.says;
      }

      of_block_more : (claim : Claim) → IsOfBlock model (IsTaken fewer) (Contains state.blocks) claim → IsOfBlock model (IsTaken more) (Contains state.blocks) claim
      of_block_more claim p = record {
        block = p.block;
        entries = p.entries;
        item = p.item;
        is_open = p.is_open;
        has_block = p.has_block;
        stands = p.stands;
        says = says_further model (IsTaken fewer) (IsTaken more) taken_more (InRule p.block.token p.block.rule) p.item claim p.says;
      }

      claim_more : (claim : Claim) → IsClaim model fewer state claim → IsClaim model more state claim
      claim_more claim (inl p) = inl (of_problem_more claim p)
      claim_more claim (inr (inl p)) =
          inr (inl (of_block_more claim p))
      claim_more claim (inr (inr (inl p))) = inr (inr (inl p))
      claim_more claim (inr (inr (inr (inl p)))) = inr (inr (inr (inl (record {
        token = p.token;
        target = p.target;
        part = p.part;
        merged = part (Merge p.token p.target) p.merged;
        has_part = p.has_part;
        says = p.says;
      }))))
      claim_more claim (inr (inr (inr (inr (inl p))))) =
          inr (inr (inr (inr (inl (record { one = p.one; other = p.other; ordered = part _ p.ordered; says = p.says })))))
      claim_more claim (inr (inr (inr (inr (inr p))))) = inr (inr (inr (inr (inr (record {
        decision = p.decision;
        stands = part p.decision p.stands;
        posts = p.posts;
        counts = All-weaker (ArgumentCounts model (IsTaken fewer)) (ArgumentCounts model (IsTaken more))
            (counts_further model (IsTaken fewer) (IsTaken more) taken_more) claim.arguments p.counts;
      })))))

      shares_more : (one other : TokenName) → ShareTimeline model fewer state one other → ShareTimeline model more state one other
      shares_more one other p = record {
        apart = p.apart;
        one_active = active_more model one p.one_active;
        other_active = active_more model other p.other_active;
        timeline = p.timeline;
        is_timeline = p.is_timeline;
        one_on = p.one_on;
        other_on = p.other_on;
      }

      -- what is propagated for the longer list is propagated for the shorter one
      pub fewer_propagated : IsPropagatedState model more state → IsPropagatedState model fewer state
      fewer_propagated p = record {
        is_state = p.is_state;
        tokens = λ token q. p.tokens token (supported_further model (situation_of fewer state) (situation_of more state) further_more token q);
        blocks = λ block entries q. p.blocks block entries (block_further model (situation_of fewer state) (situation_of more state) further_more block entries q);
        in_base = p.in_base;
        respected = λ decision there. p.respected decision (part decision there);
        claims = λ claim q. p.claims claim (claim_more claim q);
        timelines = λ one other share late. p.timelines one other (shares_more one other share) late;
      }

      actor_more : (kind : PredKind) (token : TokenName) → IsActor model fewer kind token → IsActor model more kind token
      actor_more kind token p = record {
        active = active_more model token p.active;
        slot = p.slot;
        has_token = p.has_token;
        predicate = p.predicate;
        is_predicate = p.is_predicate;
        is_kind = p.is_kind;
      }

      module _ (object instant : ℤ) where
        share_fewer : (token : TokenName) (share : ℤ) → IsShare model more state object instant token share → IsShare model fewer state object instant token share
        share_fewer token share p = record {
          none = p.none;
          enough = λ quantity uses. p.enough quantity (record {
            actor = actor_more Uses token uses.actor;
            on = uses.on;
            started = uses.started;
            not_ended = uses.not_ended;
            least = uses.least;
          });
        }

        surely_more : (kind : PredKind) (token : TokenName) (quantity : ℤ)
            → SurelyChanges model fewer state object instant kind token quantity → SurelyChanges model more state object instant kind token quantity
        surely_more kind token quantity p = record { actor = actor_more kind token p.actor; on = p.on; started = p.started; least = p.least }

      -- what is surely used is no more
      pub fewer_reusables : FitReusables model more state → FitReusables model fewer state
      fewer_reusables fit value object capacity instant is kind within =
          let keeps = fit value object capacity instant is kind within in
          record {
            shares = keeps.shares;
            are_shares = weaker state.tokens keeps.shares keeps.are_shares;
            enough = keeps.enough;
          }
        where
          weaker : (tokens : List TokenName) (shares : List ℤ) → AllZip (IsShare model more state value instant) tokens shares
              → AllZip (IsShare model fewer state value instant) tokens shares
          weaker [] [] all = all
          weaker [] (share ∷ shares) all = all
          weaker (token ∷ tokens) [] all = all
          weaker (token ∷ tokens) (share ∷ shares) all = (share_fewer value instant token share all.0, weaker tokens shares all.1)

      -- ---- levels, where the two say the same of tokens

      module _ (keeps : KeepsTokens fewer more) where
        active_fewer : (token : TokenName) → IsActive model more token → IsActive model fewer token
        active_fewer token (inl fact) = inl fact
        active_fewer token (inr p) = inr (keeps.activated token p)

        of_rejected_more : (one : Term) → IsOfRejected model fewer one → IsOfRejected model more one
        of_rejected_more (term.Root number which) p = (p.0, part (Reject _) p.1)
        of_rejected_more other p = absurd p

        complete_more : IsTokenComplete model fewer state → IsTokenComplete model more state
        complete_more complete = record {
          tokens = λ token q. decided_more model token (complete.tokens token (supported_further model (situation_of more state) (situation_of fewer state) (further_kept fewer more keeps state) token q));
          guards = λ block entries guard then otherwise supported stands.
              certain block guard (complete.guards block entries guard then otherwise
              (block_further model (situation_of more state) (situation_of fewer state) (further_kept fewer more keeps state) block entries supported) stands);
        }
          where
            certain : (block : _) (guard : _) → IsCertain model fewer state block guard → IsCertain model more state block guard
            certain block guard (inl (inl p)) = inl (inl (opens_further model (situation_of fewer state) (situation_of more state) further_more _ guard _ p))
            certain block guard (inl (inr p)) = inl (inr (opens_further model (situation_of fewer state) (situation_of more state) further_more _ guard _ p))
            certain block guard (inr (inl p)) = inr (inl (of_rejected_more (one_side guard) p))
            certain block guard (inr (inr p)) = inr (inr (of_rejected_more (other_side guard) p))

        actor_fewer : (kind : PredKind) (token : TokenName) → IsActor model more kind token → IsActor model fewer kind token
        actor_fewer kind token p = record {
          active = active_fewer token p.active;
          slot = p.slot;
          has_token = p.has_token;
          predicate = p.predicate;
          is_predicate = p.is_predicate;
          is_kind = p.is_kind;
        }

        module _ (object instant : ℤ) where
          may_fewer : (kind : PredKind) (token : TokenName) (quantity : ℤ)
              → MayChange model more state object instant kind token quantity → MayChange model fewer state object instant kind token quantity
          may_fewer kind token quantity p = record { actor = actor_fewer kind token p.actor; on = p.on; started = p.started; greatest = p.greatest }

          high_fewer : (token : TokenName) (change : ℤ) → IsHighChange model more state object instant token change → IsHighChange model fewer state object instant token change
          high_fewer token change p = record {
            adds = elim p.adds [
              | inl none ↦ inl none
              | inr some ↦ inr (some.0, may_fewer Produce token some.0 some.1, some.2)
            ];
            takes = λ quantity surely. p.takes quantity (surely_more object instant Consume token quantity surely);
          }

          low_fewer : (token : TokenName) (change : ℤ) → IsLowChange model more state object instant token change → IsLowChange model fewer state object instant token change
          low_fewer token change p = record {
            takes = elim p.takes [
              | inl none ↦ inl none
              | inr some ↦ inr (some.0, may_fewer Consume token some.0 some.1, some.2)
            ];
            adds = λ quantity surely. p.adds quantity (surely_more object instant Produce token quantity surely);
          }

          highs : (tokens : List TokenName) (changes : List ℤ) → AllZip (IsHighChange model more state object instant) tokens changes
              → AllZip (IsHighChange model fewer state object instant) tokens changes
          highs [] [] all = all
          highs [] (change ∷ changes) all = all
          highs (token ∷ tokens) [] all = all
          highs (token ∷ tokens) (change ∷ changes) all = (high_fewer token change all.0, highs tokens changes all.1)

          lows : (tokens : List TokenName) (changes : List ℤ) → AllZip (IsLowChange model more state object instant) tokens changes
              → AllZip (IsLowChange model fewer state object instant) tokens changes
          lows [] [] all = all
          lows [] (change ∷ changes) all = all
          lows (token ∷ tokens) [] all = all
          lows (token ∷ tokens) (change ∷ changes) all = (low_fewer token change all.0, lows tokens changes all.1)

        fewer_reservoirs : FitReservoirs model more state → FitReservoirs model fewer state
        fewer_reservoirs fit complete value object initial low high instant is kind within =
            let stays = fit (complete_more complete) value object initial low high instant is kind within in
            record {
              rises = stays.rises;
              are_rises = highs value instant state.tokens stays.rises stays.are_rises;
              high_enough = stays.high_enough;
              falls = stays.falls;
              are_falls = lows value instant state.tokens stays.falls stays.are_falls;
              low_enough = stays.low_enough;
            }

        -- what is closed for the longer list is closed for the shorter one
        pub closed_same : IsClosed model more state → IsClosed model fewer state
        closed_same closed = record {
          consistent = fewer_propagated closed.consistent;
          reusables = fewer_reusables closed.reusables;
          reservoirs = fewer_reservoirs closed.reservoirs;
        }

      -- and where a token is there of which nothing is decided, no level is looked at
      pub closed_undecided : (token : TokenName) → IsSupportedToken model (situation_of fewer state) token → (IsDecided model fewer token → ⊥)
          → IsClosed model more state → IsClosed model fewer state
      closed_undecided token supported undecided closed = record {
        consistent = fewer_propagated closed.consistent;
        reusables = fewer_reusables closed.reusables;
        reservoirs = λ complete. absurd (undecided (complete.tokens token supported));
      }
