-- Tokens that share a timeline.
use Rattle.std.proofs.Common.{◌≡◌, ◌⊎◌, inl, inr, ℕ, zero, suc, ◌+◌, ◌<◌, ◌≤◌, List, [], ◌∷◌, ◌++◌, length, pos, take, slice_get, slice_index_or, Bool, true, false, Option, Some, None, refl, sym, ap, ◌∙◌, subst, arith}
use Rattle.std.specs.Prelude.{Contains, ℤ, ◌<ℤ◌, ◌↔◌, ◌≢◌, IsTrue, MatchBool, MatchOption, IfSome, IfNone, Result, OnOk}
use Rattle.std.specs.declared.alloc.AllocError.{AllocError}
use Rattle.std.proofs.lemmas.List.{append-nil, take_all}
use Rattle.std.proofs.lemmas.List.Elements.{All-nil, Contains-append_left, Contains-append_right, Contains-append_cases}
use Rattle.std.proofs.lemmas.Option.{slice_get-get_or}
use Rattle.domain_core.specs.Domain.{Domain, IsSingle, least, greatest}
use Rattle.eu_name.specs.declared.name.Part.TheVariants.{Start, End, Object}
use Rattle.eu_name.specs.declared.name.TokenName.{TokenName}
use Rattle.eu_name.specs.declared.name.VarName.TheVariants.{Token}
use Rattle.model_core.specs.declared.decision.Decision.{Decision}
use Rattle.model_core.specs.declared.model.Model.{Model}
use Rattle.model_core.specs.declared.view.TokenState.{TokenState}
use Rattle.model_core.specs.Decided.{IsActive}
use Rattle.model_core.specs.State.{State, Gives}
use Rattle.token_store.specs.Orders.{name_at}
use Rattle.token_store.specs.Tokens.{tokens_now, token_states}
use Rattle.eu_name.proofs.Ordered.{contains_head, contains_cases}
use Rattle.plan_defs.specs.Claims.{Claim}
use Rattle.plan_defs.specs.Timelines.{IsOn, EndsTooLate}
use Rattle.db_refine.specs.Claims.{IsPostedIn}
use Rattle.model_core.specs.Content.{Content, shown}
use Rattle.db_refine.specs.Growth.{ends_before}
use Rattle.plan_defs.specs.Unordered.{IsActiveOn, TakesPlace}
use Rattle.timeline_core.proofs.Telling.{is_active, not_active}
use Rattle.db_store.specs.Stores.{Stored, snapshot_of, IsSnapshot, blocks_watching}
use Rattle.db_store.specs.StoreMarks.{with_mark}
use Rattle.db_store.specs.declared.watchers.Watch.{Watch}
use Rattle.db_store.proofs.Watched.{watchers_are_listed}
use Rattle.db_store.proofs.Naming.{same_place, length_names}
use Rattle.db_posting.specs.Origins.{content_now}
use Rattle.db_posting.specs.Posted.{OnlyPosts, PostsClaims}
use Rattle.db_posting.specs.Terms.{HasTimesAt}
use Rattle.db_fixpoint.specs.Seating.{SeatsAll}
use Rattle.db_fixpoint.specs.Turns.{OnlyMarks, PostsOrMarks, HaveDecided, FindsTimeline, SeesToClaims, SaysTurn, IsTurnOf, TakeTheirTurns, TakesTurnsAmong, TakesTurns}
use Rattle.db_fixpoint.proofs.Claimed.{SaysOne, sees_none, sees_posted, sees_same, sees_both, ok_then}
use Rattle.db_fixpoint.proofs.Domains.{gives_same, object_place}

module _ (stored : Stored) (is : IsSnapshot (snapshot_of stored)) where
  pub object_told : (token : TokenName) (domain : Domain) (found : Option ℤ) → Gives (shown (content_now stored)) (Token token Object) domain
      → IfSome found (λ value. IsSingle domain value) → IfNone found ((value : ℤ) → IsSingle domain value → ⊥)
      → MatchOption found ((object : ℤ) → IsOn (shown (content_now stored)) token object → ⊥) (IsOn (shown (content_now stored)) token)
  object_told token domain (Some value) gives some none = (domain, gives, some)
  object_told token domain None gives some none = λ object on.
      none object (subst (λ d. IsSingle d object) (gives_same stored is (Token token Object) on.0 domain on.1 gives) on.2)

  pub one_object : (token : TokenName) (object other : ℤ) → IsOn (shown (content_now stored)) token object → IsOn (shown (content_now stored)) token other → other ≡ object
  one_object token object other on on' =
      on.2.only other (subst (λ d. IsSingle d other) (gives_same stored is (Token token Object) on'.0 on.0 on'.1 on.1) on'.2).has

  pub late_told : (one other : TokenName) (end start : Domain) (told : Bool) → Gives (shown (content_now stored)) (Token one End) end
      → Gives (shown (content_now stored)) (Token other Start) start → IsTrue told ↔ (greatest start <ℤ least end)
      → MatchBool told (EndsTooLate (shown (content_now stored)) one other) (EndsTooLate (shown (content_now stored)) one other → ⊥)
  late_told one other end start true ends starts is' =
      record { end = end; start = start; gives_end = ends; gives_start = starts; late = is'.0 refl }
  late_told one other end start false ends starts is' = λ late.
      let same_end = gives_same stored is (Token one End) late.end end late.gives_end ends in
      let same_start = gives_same stored is (Token other Start) late.start start late.gives_start starts in
      let below : greatest start <ℤ least end = subst (λ d. greatest d <ℤ least end) same_start (subst (λ d. greatest late.start <ℤ least d) same_end late.late) in
      let p : false ≡ true = is'.1 below in
      cc

-- what has become of a token tells whether it is active
pub active_said : (stored : Stored) (place : ℕ) (found : TokenState) (told : Bool) → place < length (tokens_now stored.past)
    → slice_get (token_states (tokens_now stored.past)) place ≡ Some found → IsTrue told ↔ TakesPlace found
    → (model : Model) (decisions : List Decision) → HaveDecided model decisions stored → IsTrue told ↔ IsActive model decisions (name_at (content_now stored).tokens place)
active_said stored place found true below at takes model decisions decided =
    let names = (content_now stored).tokens in
    let token = name_at names place in
    let has = decided.states.states place token found (slice_get-get_or names place _ (omega (arith, below, length_names (tokens_now stored.past)))) at in
    ((λ yes. is_active model decisions (shown (content_now stored)) found token (takes.0 yes) has), (λ active. refl))
active_said stored place found false below at takes model decisions decided =
    let names = (content_now stored).tokens in
    let token = name_at names place in
    let has = decided.states.states place token found (slice_get-get_or names place _ (omega (arith, below, length_names (tokens_now stored.past)))) at in
    let not : TakesPlace found → ⊥ = λ t. (let p : false ≡ true = takes.1 t in cc) in (
      (λ yes. let p : false ≡ true = yes in cc),
      (λ active. absurd (not_active model decisions (shown (content_now stored)) decided.once found token not has active)),
    )

-- both tokens of a turn are active on one timeline
pub turn_on : (model : Model) (decisions : List Decision) (state : State) (one other : TokenName) (claim : Claim) → IsTurnOf model decisions state one other claim
    → (timeline : ℤ) × IsActiveOn model decisions state one timeline × IsActiveOn model decisions state other timeline
turn_on model decisions state one other claim (inl turn) =
    let share = turn.0.share in (
      share.timeline,
      record { active = share.one_active; is_timeline = share.is_timeline; on = share.one_on },
      record { active = share.other_active; is_timeline = share.is_timeline; on = share.other_on },
    )
turn_on model decisions state one other claim (inr turn) =
    let share = turn.0.share in (
      share.timeline,
      record { active = share.other_active; is_timeline = share.is_timeline; on = share.other_on },
      record { active = share.one_active; is_timeline = share.is_timeline; on = share.one_on },
    )

turn_apart : (model : Model) (decisions : List Decision) (state : State) (one other : TokenName) (claim : Claim) → IsTurnOf model decisions state one other claim → one ≡ other → ⊥
turn_apart model decisions state one other claim (inl turn) same = turn.0.share.apart same
turn_apart model decisions state one other claim (inr turn) same = turn.0.share.apart (sym same)

-- ---- a store in which something was posted, or that was marked

pub posts_alone : (old new : Stored) → OnlyPosts old new → PostsOrMarks old new
posts_alone old new only = only ∙ (λ i. record old { net = record old.net { constraints = new.net.constraints; marked = sym (ap (λ (stored : Stored). stored.net.marked) only) i } })

pub marks_alone : (old new : Stored) → OnlyMarks old new → PostsOrMarks old new
marks_alone old new only = only ∙ (λ i. record old { net = record old.net { constraints = sym (ap (λ (stored : Stored). stored.net.constraints) only) i; marked = new.net.marked } })

pub only_marked : (old new : Stored) → new ≡ with_mark old → OnlyMarks old new
only_marked old new is = is ∙ (λ i. record old { net = record old.net { marked = sym (ap (λ (stored : Stored). stored.net.marked) is) i } })

pub posts_then : (old mid new : Stored) → OnlyMarks old mid → OnlyPosts mid new → PostsOrMarks old new
posts_then old mid new marks posts =
    posts_alone mid new posts
    ∙ ap (λ (stored : Stored). record stored { net = record stored.net { constraints = new.net.constraints; marked = new.net.marked } }) marks

-- what is posted is no part of what the states are made by
pub decided_back : (model : Model) (decisions : List Decision) (old new : Stored) → PostsOrMarks old new → HaveDecided model decisions new → HaveDecided model decisions old
decided_back model decisions old new only decided =
    let d = subst (HaveDecided model decisions) only decided in
    record { states = record { states = d.states.states; rejected = d.states.rejected }; once = d.once }

pub decided_on : (model : Model) (decisions : List Decision) (old new : Stored) → PostsOrMarks old new → HaveDecided model decisions old → HaveDecided model decisions new
decided_on model decisions old new only decided =
    subst (HaveDecided model decisions) (sym only)
    (record { states = record { states = decided.states.states; rejected = decided.states.rejected }; once = decided.once })

pub same_content : (old new : Stored) → PostsOrMarks old new → content_now new ≡ content_now old
same_content old new only = ap content_now only

pub finds_on : (model : Model) (old new : Stored) (place : ℕ) (found : Option ℤ) → PostsOrMarks old new → FindsTimeline model old place found → FindsTimeline model new place found
finds_on model old new place found only finds = λ decisions decided.
    subst (λ (content : Content). MatchOption found
    ((timeline : ℤ) → IsActiveOn model decisions (shown content) (name_at content.tokens place) timeline → ⊥)
    (IsActiveOn model decisions (shown content) (name_at content.tokens place)))
    (sym (same_content old new only)) (finds decisions (decided_back model decisions old new only decided))

-- a turn was posted before
pub turn_known : (content : Content) (one other : TokenName) (stored : Stored) → IsPostedIn content.names stored.net.constraints (ends_before other one)
    → SeesToClaims content.names (SaysTurn (shown content) one other) stored.net.constraints stored.net.constraints
turn_known content one other stored posted = record {
  later = [];
  behind = sym (append-nil stored.net.constraints);
  each = All-nil (SaysOne content.names (SaysTurn (shown content) one other));
  all = λ claim says. subst (IsPostedIn content.names stored.net.constraints) (sym says.1) posted;
}

-- a turn was posted
pub turn_posted : (content : Content) (one other : TokenName) (old new : Stored) (result : Result (Unit {0}) AllocError) → EndsTooLate (shown content) one other
    → OnOk result (PostsClaims content.names (λ claim. claim ≡ ends_before other one) old.net.constraints new.net.constraints)
    → OnOk result (SeesToClaims content.names (SaysTurn (shown content) one other) old.net.constraints new.net.constraints)
turn_posted content one other old new result late posted = ok_then result (λ posts.
    sees_same content.names (λ claim. claim ≡ ends_before other one) (SaysTurn (shown content) one other) old.net.constraints new.net.constraints
    (λ claim same. (late, same)) (λ claim says. says.1)
    (sees_posted content.names (λ claim. claim ≡ ends_before other one) old.net.constraints new.net.constraints posts)) posted

module _ (model : Model) (old : Stored) (is : IsSnapshot (snapshot_of old)) (one other : ℕ) where
  abbrev first : TokenName
  first = name_at (content_now old).tokens one

  abbrev second : TokenName
  second = name_at (content_now old).tokens other

  -- a token takes no turns with itself
  pub same_turns : one ≡ other → TakeTheirTurns model one other old old
  same_turns same decisions decided =
      sees_none (content_now old).names (IsTurnOf model decisions (shown (content_now old)) first second) old.net.constraints
      (λ claim turn. turn_apart model decisions (shown (content_now old)) first second claim turn (ap (name_at (content_now old).tokens) same))

  -- nor with one that is on no timeline
  pub loose_turns : FindsTimeline model old other None → TakeTheirTurns model one other old old
  loose_turns finds decisions decided =
      sees_none (content_now old).names (IsTurnOf model decisions (shown (content_now old)) first second) old.net.constraints
      (λ claim turn. let on = turn_on model decisions (shown (content_now old)) first second claim turn in finds decisions decided on.0 on.2)

  module _ (timeline : ℤ) (finds : FindsTimeline model old one (Some timeline)) where
    -- nor with one that is on another timeline
    pub other_turns : (found : ℤ) → FindsTimeline model old other (Some found) → (found ≡ timeline → ⊥) → TakeTheirTurns model one other old old
    other_turns found there differ decisions decided =
        sees_none (content_now old).names (IsTurnOf model decisions (shown (content_now old)) first second) old.net.constraints
        (λ claim turn.
        let on = turn_on model decisions (shown (content_now old)) first second claim turn in
        let here : on.0 ≡ timeline = one_object old is first timeline on.0 (finds decisions decided).on on.1.on in
        let over : on.0 ≡ found = one_object old is second found on.0 (there decisions decided).on on.2.on in
        differ (sym over ∙ here))

    -- on one timeline two tokens take turns exactly where one ends too late
    module _ (there : FindsTimeline model old other (Some timeline)) (apart : first ≢ second) (decisions : List Decision) (decided : HaveDecided model decisions old) where
      turns_said : (claim : Claim) → (SaysTurn (shown (content_now old)) first second claim ⊎ SaysTurn (shown (content_now old)) second first claim)
          → IsTurnOf model decisions (shown (content_now old)) first second claim
      turns_said claim (inl says) =
          let here = finds decisions decided in
          let over = there decisions decided in
          inl (
            record {
              share = record {
                apart = apart;
                one_active = here.active;
                other_active = over.active;
                timeline = timeline;
                is_timeline = here.is_timeline;
                one_on = here.on;
                other_on = over.on;
              };
              late = says.0;
            },
            says.1,
          )
      turns_said claim (inr says) =
          let here = finds decisions decided in
          let over = there decisions decided in
          inr (
            record {
              share = record {
                apart = λ same. apart (sym same);
                one_active = over.active;
                other_active = here.active;
                timeline = timeline;
                is_timeline = here.is_timeline;
                one_on = over.on;
                other_on = here.on;
              };
              late = says.0;
            },
            says.1,
          )

      said_turns : (claim : Claim) → IsTurnOf model decisions (shown (content_now old)) first second claim
          → (SaysTurn (shown (content_now old)) first second claim ⊎ SaysTurn (shown (content_now old)) second first claim)
      said_turns claim (inl turn) = inl (turn.0.late, turn.1)
      said_turns claim (inr turn) = inr (turn.0.late, turn.1)

    pub turns_taken : FindsTimeline model old other (Some timeline) → one < length (tokens_now old.past) → other < length (tokens_now old.past) → (one ≡ other → ⊥)
        → (middle new : Stored) → OnlyPosts old middle
        → SeesToClaims (content_now old).names (SaysTurn (shown (content_now old)) first second) old.net.constraints middle.net.constraints
        → (result : Result (Unit {0}) AllocError)
        → OnOk result (SeesToClaims (content_now middle).names
        (SaysTurn (shown (content_now middle)) (name_at (content_now middle).tokens other) (name_at (content_now middle).tokens one)) middle.net.constraints new.net.constraints)
        → OnOk result (TakeTheirTurns model one other old new)
    turns_taken there below within differ middle new only posted result back = ok_then result (λ more decisions decided.
        let content = content_now old in
        let long = length_names (tokens_now old.past) in
        let apart : first ≢ second = λ same. differ (same_place content.tokens is.tokens_once one other (omega (arith, below, long)) (omega (arith, within, long)) same) in
        let second_posted = subst (λ (c : Content). SeesToClaims c.names (SaysTurn (shown c) (name_at c.tokens other) (name_at c.tokens one)) middle.net.constraints new.net.constraints)
        (same_content old middle (posts_alone old middle only)) more in
        sees_same content.names (λ claim. SaysTurn (shown content) first second claim ⊎ SaysTurn (shown content) second first claim)
        (IsTurnOf model decisions (shown content) first second) old.net.constraints new.net.constraints
        (turns_said there apart decisions decided) (said_turns there apart decisions decided)
        (sees_both content.names (SaysTurn (shown content) first second) (SaysTurn (shown content) second first) old.net.constraints middle.net.constraints new.net.constraints posted second_posted)) back

pub times_on : (old new : Stored) → PostsOrMarks old new → ((place : ℕ) → place < length (tokens_now old.past) → HasTimesAt old place)
    → (place : ℕ) → place < length (tokens_now new.past) → HasTimesAt new place
times_on old new only times = subst (λ (stored : Stored). (place : ℕ) → place < length (tokens_now stored.past) → HasTimesAt stored place) (sym only) times

pub place_on : (old new : Stored) → PostsOrMarks old new → (place : ℕ) → place < length (tokens_now old.past) → place < length (tokens_now new.past)
place_on old new only place below = subst (λ (stored : Stored). place < length (tokens_now stored.past)) (sym only) below

-- ---- with one token after another

take_none : (xs : List ℕ) → take 0 xs ≡ []
take_none [] = refl
take_none (x ∷ xs) = refl

take_next : (xs : List ℕ) (k : ℕ) → k < length xs → take (suc k) xs ≡ take k xs ++ slice_index_or xs k 0 ∷ []
take_next [] k below = absurd (omega (arith, below))
take_next (x ∷ xs) zero below = ap (λ list. x ∷ list) (take_none xs)
take_next (x ∷ xs) (suc k) below = ap (λ list. x ∷ list) (take_next xs k (omega (arith, below)))

module _ (model : Model) (old : Stored) (one : ℕ) where
  abbrev with_place : List Decision → ℕ → Claim → Type 0
  with_place decisions other claim = IsTurnOf model decisions (shown (content_now old)) (name_at (content_now old).tokens one) (name_at (content_now old).tokens other) claim

  abbrev pub WithOneOf : List Decision → List ℕ → Claim → Type 0
  WithOneOf decisions others claim = (other : ℕ) × Contains others other × (other < length (tokens_now old.past)) × with_place decisions other claim

  pub turns_first : TakesTurnsAmong model one [] old old
  turns_first decisions decided =
      sees_none (content_now old).names (WithOneOf decisions []) old.net.constraints (λ claim turn. absurd (omega (arith, turn.1.1)))

  only_one : (one other : ℕ) → Contains (one ∷ []) other → one ≡ other
  only_one one other there = elim (contains_cases one other [] there) [ inl same ↦ same | inr later ↦ absurd (omega (arith, later.1)) ]

  -- no token stands past the last
  pub turns_past : (other : ℕ) → length (tokens_now old.past) ≤ other → TakesTurnsAmong model one (other ∷ []) old old
  turns_past other past decisions decided =
      sees_none (content_now old).names (WithOneOf decisions (other ∷ [])) old.net.constraints
      (λ claim turn. let same = only_one other turn.0 turn.1 in absurd (omega (arith, past, same, turn.2)))

  pub turns_one : (other : ℕ) (new : Stored) → other < length (tokens_now old.past) → TakeTheirTurns model one other old new → TakesTurnsAmong model one (other ∷ []) old new
  turns_one other new below takes decisions decided =
      sees_same (content_now old).names (with_place decisions other) (WithOneOf decisions (other ∷ [])) old.net.constraints new.net.constraints
      (λ claim turn. (other, contains_head other [], below, turn))
      (λ claim turn. subst (λ place. with_place decisions place claim) (sym (only_one other turn.0 turn.1)) turn.3)
      (takes decisions decided)

  pub turns_more : (seen : List ℕ) (other : ℕ) (middle new : Stored) → OnlyPosts old middle → TakesTurnsAmong model one seen old middle
      → TakesTurnsAmong model one (other ∷ []) middle new → TakesTurnsAmong model one (seen ++ other ∷ []) old new
  turns_more seen other middle new only before next decisions decided =
      let content = content_now old in
      let step = subst (λ (stored : Stored). SeesToClaims (content_now stored).names (λ claim. (place : ℕ) × Contains (other ∷ []) place × (place < length (tokens_now stored.past))
      × IsTurnOf model decisions (shown (content_now stored)) (name_at (content_now stored).tokens one) (name_at (content_now stored).tokens place) claim) stored.net.constraints new.net.constraints)
      only (next decisions (decided_on model decisions old middle (posts_alone old middle only) decided)) in
      sees_same content.names (λ claim. WithOneOf decisions seen claim ⊎ WithOneOf decisions (other ∷ []) claim)
      (WithOneOf decisions (seen ++ other ∷ [])) old.net.constraints new.net.constraints
      (λ claim either. elim either [
        | inl turn ↦ (turn.0, Contains-append_left seen (other ∷ []) turn.0 turn.1, turn.2, turn.3)
        | inr turn ↦ (turn.0, Contains-append_right seen (other ∷ []) turn.0 turn.1, turn.2, turn.3)
      ])
      (λ claim turn. elim (Contains-append_cases seen (other ∷ []) turn.0 turn.1) [
        | inl there ↦ inl (turn.0, there, turn.2, turn.3)
        | inr there ↦ inr (turn.0, there, turn.2, turn.3)
      ])
      (sees_both content.names (WithOneOf decisions seen) (WithOneOf decisions (other ∷ []))
      old.net.constraints middle.net.constraints new.net.constraints (before decisions decided) step)

  pub turns_begin : (others : List ℕ) → TakesTurnsAmong model one (take 0 others) old old
  turns_begin others = subst (λ list. TakesTurnsAmong model one list old old) (sym (take_none others)) turns_first

  pub turns_next : (others : List ℕ) (count : ℕ) → count < length others → (middle new : Stored) → OnlyPosts old middle → TakesTurnsAmong model one (take count others) old middle
      → TakesTurnsAmong model one (slice_index_or others count 0 ∷ []) middle new → TakesTurnsAmong model one (take (count + 1) others) old new
  turns_next others count below middle new only before next =
      let longer : take (count + 1) others ≡ take count others ++ slice_index_or others count 0 ∷ [] =
      ap (λ n. take n others) (let p : count + 1 ≡ suc count = omega arith in p) ∙ take_next others count below in
      subst (λ list. TakesTurnsAmong model one list old new) (sym longer)
      (turns_more (take count others) (slice_index_or others count 0) middle new only before next)

  pub turns_end : (others : List ℕ) (count : ℕ) → length others ≤ count → (new : Stored) → TakesTurnsAmong model one (take count others) old new
      → TakesTurnsAmong model one others old new
  turns_end others count all new among = subst (λ list. TakesTurnsAmong model one list old new) (take_all count others all) among

  -- a token on no timeline takes no turns
  pub no_turns : FindsTimeline model old one None → TakesTurns model one old old
  no_turns finds decisions decided =
      let content = content_now old in
      sees_none content.names (λ claim. (other : TokenName) × IsTurnOf model decisions (shown content) (name_at content.tokens one) other claim) old.net.constraints
      (λ claim turn. let on = turn_on model decisions (shown content) (name_at content.tokens one) turn.0 claim turn.1 in finds decisions decided on.0 on.1)

  -- whoever takes a turn is noted on the timeline
  pub turns_all : IsSnapshot (snapshot_of old) → (timeline : ℤ) → FindsTimeline model old one (Some timeline) → (seats : List Watch) → SeatsAll old.keys old.net.domains seats
      → (others : List ℕ) → ((object : ℕ) → timeline ≡ pos object → others ≡ blocks_watching seats object)
      → (new : Stored) (result : Result (Unit {0}) AllocError) → OnOk result (TakesTurnsAmong model one others old new) → OnOk result (TakesTurns model one old new)
  turns_all is timeline finds seats seated others listed new result among = ok_then result (λ turns decisions decided.
      let content = content_now old in
      let token = name_at content.tokens one in
      sees_same content.names (WithOneOf decisions others)
      (λ claim. (other : TokenName) × IsTurnOf model decisions (shown content) token other claim) old.net.constraints new.net.constraints
      (λ claim turn. (name_at content.tokens turn.0, turn.3))
      (λ claim turn.
      let on = turn_on model decisions (shown content) token turn.0 claim turn.1 in
      let here = finds decisions decided in
      let same : on.0 ≡ timeline = one_object old is token timeline on.0 here.on on.1.on in
      let object = here.is_timeline.1 in
      let over = subst (IsOn (shown content) turn.0) same on.2.on in
      let place = object_place old is turn.0 over.0 over.1 in
      let seat = seated place.1 place.0 object.0 over.0 place.2 place.3 (subst (IsSingle over.0) object.1 over.2) in (
        place.0,
        subst (λ list. Contains list place.0) (sym (listed object.0 object.1)) ((watchers_are_listed seats object.0 place.0).1 seat),
        place.4,
        subst (λ other. IsTurnOf model decisions (shown content) token other claim) (sym place.5) turn.1,
      ))
      (turns decisions decided)) among

-- marks make no difference to the turns that are taken
pub turns_marked : (model : Model) (one : ℕ) (old mid new : Stored) (result : Result (Unit {0}) AllocError) → OnlyMarks old mid
    → OnOk result (TakesTurns model one mid new) → OnOk result (TakesTurns model one old new)
turns_marked model one old mid new result only turns = ok_then result (λ (takes : TakesTurns model one mid new) decisions decided.
    subst (λ (stored : Stored). SeesToClaims (content_now stored).names
    (λ claim. (other : TokenName) × IsTurnOf model decisions (shown (content_now stored)) (name_at (content_now stored).tokens one) other claim) stored.net.constraints new.net.constraints)
    only (takes decisions (decided_on model decisions old mid (marks_alone old mid only) decided))) turns
