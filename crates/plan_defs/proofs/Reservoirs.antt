-- Where no further token can come in a propagated state, none comes in a propagated state below it.
use Rattle.std.proofs.Common.{◌≡◌, ℕ, ℤ, List, [], ◌∷◌, ◌++◌, ◌⊎◌, inl, inr, refl, sym, ◌∙◌, subst, append_assoc, append-nil, arith}
use Rattle.std.proofs.lemmas.Int.{ints}
use Rattle.std.specs.Prelude.{Contains}
use Rattle.domain_core.specs.Domain.{Domain, Has, least}
use Rattle.domain_core.proofs.Words.{has_least}
use Rattle.eu_name.specs.declared.name.Step.{Step}
use Rattle.eu_name.specs.declared.name.TokenName.{TokenName}
use Rattle.model_core.specs.declared.decision.Decision.{Decision}
use Rattle.model_core.specs.declared.item.Term.{Term}
use Rattle.model_core.specs.declared.item.Term.TheVariants as term
use Rattle.model_core.specs.declared.model.Model.{Model}
use Rattle.model_core.specs.declared.rule.Guard.{Guard}
use Rattle.model_core.specs.declared.rule.Guard.TheVariants.{Equal, Differ}
use Rattle.model_core.specs.declared.rule.Side.{Side}
use Rattle.model_core.specs.declared.rule.Side.TheVariants.{Then, Otherwise}
use Rattle.model_core.specs.declared.rule.Turn.{Turn}
use Rattle.model_core.specs.Blocks.{TokenBlock, HasBlock, Follows, direct, chosen, OfBranch, block_at}
use Rattle.model_core.specs.Decided.{IsActivated, IsTaken}
use Rattle.model_core.specs.Entries.{Entries}
use Rattle.model_core.specs.Numbers.{turned}
use Rattle.model_core.specs.State.{State, IsState, IsBelow}
use Rattle.model_core.specs.Tokens.{root_token}
use Rattle.plan_defs.specs.Closure.{IsPropagatedState, AreInPlace}
use Rattle.plan_defs.specs.Resources.{OpensIn, IsOfRejected, IsCertain, IsTokenComplete, FitReservoirs}
use Rattle.plan_defs.specs.Situations.{situation_of}
use Rattle.plan_defs.specs.Support.{Selects, MayBe, Opens, IsOpen, AsksFor, IsSupportedToken, IsSupportedBlock, front_token, one_side, other_side}
use Rattle.plan_defs.specs.Terms.{Context, InRule, Argument, Value, Variable, HasDomain, ArgumentCounts}
use Rattle.plan_defs.proofs.Lower.{opens_further, further_below}
use Rattle.eu_name.proofs.Members.{contains_from_get}
use Rattle.plan_defs.proofs.States.{gives_domain, gives_same}
use Rattle.plan_defs.proofs.Meanings.{means_once}
use Rattle.model_core.proofs.Blocks.{Follows-push}
use Rattle.plan_defs.proofs.Resources.{level_above}

-- ---- the last of a list

no_split : {X : Type 0} (before : List X) (one : X) (after : List X) → [] ≡ before ++ one ∷ after → ⊥
no_split [] one after e = absurd (cc)
no_split (first ∷ before) one after e = absurd (cc)

-- a list that goes on by one item, split before some item: before the last one, or within the list
last_split : {X : Type 0} (xs before : List X) (x one : X) (after : List X) → (xs ++ x ∷ []) ≡ (before ++ one ∷ after)
    → ((xs ≡ before) × (x ≡ one)) ⊎ ((inner : List X) × (xs ≡ before ++ one ∷ inner))
last_split [] [] x one after e = inl (refl, cc)
last_split [] (first ∷ before) x one after e = absurd (no_split before one after (let f : [] ≡ before ++ one ∷ after = cc in f))
last_split (first ∷ xs) [] x one after e = inr (xs, (let f : first ≡ one = cc in λ i. f i ∷ xs))
last_split (first ∷ xs) (other ∷ before) x one after e =
    let heads : first ≡ other = cc in
    let tails : (xs ++ x ∷ []) ≡ (before ++ one ∷ after) = cc in
    elim (last_split xs before x one after tails) [
      | inl last ↦ inl ((λ i. heads i ∷ last.0 i), last.1)
      | inr inner ↦ inr (inner.0, (λ i. heads i ∷ inner.1 i))
    ]

-- no guard selects both blocks with the same values
one_selected : (guard : Guard) (v w : ℤ) → Selects guard Then v w → Selects guard Otherwise v w → ⊥
one_selected (Equal one other) v w p q = q p
one_selected (Differ one other) v w p q = p q

module _ (model : Model) (decisions : List Decision) (high low : State) (high_fit : IsPropagatedState model decisions high) (low_fit : IsPropagatedState model decisions low)
    (below : IsBelow high low) (place : AreInPlace model decisions high) (complete : IsTokenComplete model decisions high) where
  low_ok : IsState model low
  low_ok = low_fit.is_state

  -- a term has one domain
  has_once : (argument : Argument) (one other : Domain) → HasDomain (situation_of decisions low).gives argument one → HasDomain (situation_of decisions low).gives argument other → one ≡ other
  has_once (Value value) one other p q = p ∙ sym q
  has_once (Variable name) one other p q = gives_same low low_ok.order name one other p q

  may_be_once : (context : Context) (term : Term) (one other : Domain) → MayBe model (situation_of decisions low) context term one → MayBe model (situation_of decisions low) context term other → one ≡ other
  may_be_once context term one other p q =
      let same = means_once context term p.argument q.argument p.means q.means in
      has_once p.argument one other p.has (subst (λ (a : Argument). HasDomain (situation_of decisions low).gives a other) (sym same) q.has)

  some_value : (argument : Argument) (domain : Domain) → HasDomain (situation_of decisions low).gives argument domain → (value : ℤ) × Has domain value
  some_value (Value value) domain is = (value, subst (λ (d : Domain). Has d value) (sym is) (omega (arith, ints), omega (arith, ints)))
  some_value (Variable name) domain is = (least domain, has_least domain (gives_domain model low low_ok name domain is))

  -- a guard doesn't open both blocks
  one_open : (context : Context) (guard : Guard) → Opens model (situation_of decisions low) context guard Then → Opens model (situation_of decisions low) context guard Otherwise → ⊥
  one_open context guard p q =
      let one = may_be_once context (one_side guard) p.one q.one p.is_one q.is_one in
      let other = may_be_once context (other_side guard) p.other q.other p.is_other q.is_other in
      let v = some_value p.is_one.argument p.one p.is_one.has in
      let w = some_value p.is_other.argument p.other p.is_other.has in
      one_selected guard v.0 w.0 (p.always v.0 w.0 v.1 w.1)
      (q.always v.0 w.0 (subst (λ (d : Domain). Has d v.0) one v.1) (subst (λ (d : Domain). Has d w.0) other w.1))

  -- what names a rejected root isn't taken, and so counts for nothing
  not_rejected : (context : Context) (term : Term) (domain : Domain) → MayBe model (situation_of decisions low) context term domain → IsOfRejected model decisions term → ⊥
  not_rejected context (term.Root number part) domain may is =
      place.apart (root_token number) is.1 (subst (ArgumentCounts model (IsTaken decisions)) may.means may.counts (root_token number) refl is.0)
  not_rejected context (term.Lit value) domain may is = is
  not_rejected context (term.Here part) domain may is = is
  not_rejected context (term.Slot number part) domain may is = is
  not_rejected context (term.Local number) domain may is = is
  not_rejected context (term.Global number) domain may is = is

  further : (context : Context) (guard : Guard) (side : Side) → Opens model (situation_of decisions high) context guard side → Opens model (situation_of decisions low) context guard side
  further context guard side = opens_further model (situation_of decisions high) (situation_of decisions low) (further_below model decisions high low below) context guard side

  certain_above : (block : TokenBlock) (guard : Guard) (side : Side) → OpensIn model decisions low block guard side
      → IsCertain model decisions high block guard → OpensIn model decisions high block guard side
  certain_above block guard Then opens (inl (inl then)) = then
  certain_above block guard Then opens (inl (inr otherwise)) = absurd (one_open (InRule block.token block.rule) guard opens (further (InRule block.token block.rule) guard Otherwise otherwise))
  certain_above block guard Otherwise opens (inl (inl then)) = absurd (one_open (InRule block.token block.rule) guard (further (InRule block.token block.rule) guard Then then) opens)
  certain_above block guard Otherwise opens (inl (inr otherwise)) = otherwise
  certain_above block guard side opens (inr (inl rejected)) = absurd (not_rejected (InRule block.token block.rule) (one_side guard) opens.one opens.is_one rejected)
  certain_above block guard side opens (inr (inr rejected)) = absurd (not_rejected (InRule block.token block.rule) (other_side guard) opens.other opens.is_other rejected)

  -- where a guard opens further down, it opens here
  opens_above : (block : TokenBlock) (entries : Entries) (guard : Guard) (then otherwise : Entries) (side : Side)
      → IsSupportedBlock model (situation_of decisions high) block entries → Contains (direct entries) (OfBranch guard then otherwise)
      → OpensIn model decisions low block guard side → OpensIn model decisions high block guard side
  opens_above block entries guard then otherwise side supported stands opens =
      certain_above block guard side opens (complete.guards block entries guard then otherwise supported stands)

  -- ---- from the first block of a rule on

  module _ (token : TokenName) (rule : ℕ) (supported : IsSupportedToken model (situation_of decisions high) token) (activated : IsActivated decisions token) where
    abbrev OpensHere : Guard → Side → Type 0
    OpensHere = Opens model (situation_of decisions high) (InRule token rule)

    abbrev OpensBelow : Guard → Side → Type 0
    OpensBelow = Opens model (situation_of decisions low) (InRule token rule)

    opened_above : (done path : List Turn) (entries block : Entries) → HasBlock model OpensHere (block_at token rule done) entries
        → Follows OpensBelow entries path block → HasBlock model OpensHere (block_at token rule (done ++ path)) block
    opened_above done [] entries block has way =
        subst (λ p. HasBlock model OpensHere (block_at token rule p) block) (sym (append-nil done))
        (subst (HasBlock model OpensHere (block_at token rule done)) (sym way) has)
    opened_above done (turn ∷ path) entries block has way =
        let side = turn.side in
        let here = block_at token rule done in
        let is_open : IsOpen model (situation_of decisions high) here entries = record { activated = activated; has_block = has } in
        let allows = opens_above here entries way.0 way.1.0 way.1.1 side (record { supported = supported; is_open = is_open })
        (contains_from_get (direct entries) turn.entry (OfBranch way.0 way.1.0 way.1.1) way.1.2.0) way.1.2.1.0 in
        let next : HasBlock model OpensHere (block_at token rule (turned done turn.entry side)) (chosen side way.1.0 way.1.1) = record {
          slot = has.slot;
          has_token = has.has_token;
          rule = has.rule;
          has_rule = has.has_rule;
          way = Follows-push OpensHere has.rule.top done turn.entry side entries way.0 way.1.0 way.1.1 has.way way.1.2.0 allows;
        } in
        subst (λ p. HasBlock model OpensHere (block_at token rule p) block) (append_assoc done (turn ∷ []) path)
        (opened_above (turned done turn.entry side) path (chosen side way.1.0 way.1.1) block next way.1.2.1.1)

  open_above : (block : TokenBlock) (entries : Entries) → IsSupportedToken model (situation_of decisions high) block.token
      → IsOpen model (situation_of decisions low) block entries → IsOpen model (situation_of decisions high) block entries
  open_above block entries supported is = record {
    activated = is.activated;
    has_block = opened_above block.token block.rule supported is.activated [] block.path is.has_block.rule.top entries
        (record { slot = is.has_block.slot; has_token = is.has_block.has_token; rule = is.has_block.rule; has_rule = is.has_block.has_rule; way = refl })
        is.has_block.way;
  }

  -- ---- from the root of a name on

  asks_above : (token : TokenName) (step : Step) → IsSupportedToken model (situation_of decisions high) token
      → AsksFor model (situation_of decisions low) token step → AsksFor model (situation_of decisions high) token step
  asks_above token step supported asks = record {
    path = asks.path;
    entries = asks.entries;
    is_open = open_above (record { token = token; rule = step.rule; path = asks.path }) asks.entries supported asks.is_open;
    stands = asks.stands;
  }

  -- a supported token that asks for one more
  supported_push : (token : TokenName) (front : List Step) (step : Step) → IsSupportedToken model (situation_of decisions high) (front_token token front)
      → AsksFor model (situation_of decisions high) (front_token token front) step
      → IsSupportedToken model (situation_of decisions high) (front_token token (front ++ step ∷ []))
  supported_push token front step p asks = record {
    root = p.root;
    is_root = p.is_root;
    asked = λ before one after e. elim (last_split front before step one after e) [
      | inl last ↦ subst (λ (f : List Step). AsksFor model (situation_of decisions high) (front_token token f) one) last.0
          (subst (AsksFor model (situation_of decisions high) (front_token token front)) last.1 asks)
      | inr inner ↦ p.asked before one inner.0 inner.1
    ];
  }

  climbed : (token : TokenName) → IsSupportedToken model (situation_of decisions low) token → (front back : List Step) → token.steps ≡ front ++ back
      → IsSupportedToken model (situation_of decisions high) (front_token token front) → IsSupportedToken model (situation_of decisions high) token
  climbed token p front [] e supported =
      subst (λ (steps : List Step). IsSupportedToken model (situation_of decisions high) (front_token token steps)) (sym (append-nil front) ∙ sym e) supported
  climbed token p front (step ∷ back) e supported =
      climbed token p (front ++ step ∷ []) back (e ∙ sym (append_assoc front (step ∷ []) back))
      (supported_push token front step supported (asks_above (front_token token front) step supported (p.asked front step back e)))

  supported_above : (token : TokenName) → IsSupportedToken model (situation_of decisions low) token → IsSupportedToken model (situation_of decisions high) token
  supported_above token p = climbed token p [] token.steps refl (record {
    root = p.root;
    is_root = p.is_root;
    asked = λ front step back e. absurd (no_split front step back e);
  })

  block_above : (block : TokenBlock) (entries : Entries) → IsSupportedBlock model (situation_of decisions low) block entries → IsSupportedBlock model (situation_of decisions high) block entries
  block_above block entries p =
      let supported = supported_above block.token p.supported in
      record { supported = supported; is_open = open_above block entries supported p.is_open }

  certain_below : (block : TokenBlock) (guard : Guard) → IsCertain model decisions high block guard → IsCertain model decisions low block guard
  certain_below block guard (inl (inl then)) = inl (inl (further (InRule block.token block.rule) guard Then then))
  certain_below block guard (inl (inr otherwise)) = inl (inr (further (InRule block.token block.rule) guard Otherwise otherwise))
  certain_below block guard (inr rejected) = inr rejected

  pub complete_below : IsTokenComplete model decisions low
  complete_below = record {
    tokens = λ token p. complete.tokens token (supported_above token p);
    guards = λ block entries guard then otherwise p stands.
        certain_below block guard (complete.guards block entries guard then otherwise (block_above block entries p) stands);
  }

pub reservoirs_above : (model : Model) (decisions : List Decision) (high low : State)
    → IsPropagatedState model decisions high → IsPropagatedState model decisions low → IsBelow high low
    → AreInPlace model decisions high → FitReservoirs model decisions low → FitReservoirs model decisions high
reservoirs_above model decisions high low high_fit low_fit below place fit complete value object initial bottom top instant is kind within =
    level_above model decisions high low high_fit.is_state low_fit.is_state below value instant place.active initial bottom top
    (fit (complete_below model decisions high low high_fit low_fit below place complete) value object initial bottom top instant is kind within)
