-- What is there stays justified: for longer lists, where what is claimed is posted, and where domains get smaller.
use Rattle.std.proofs.Common.{◌≡◌, ℕ, ℤ, List, [], ◌∷◌, ◌++◌, Some, Ok, Err, ◌⊎◌, inl, inr, sym, subst, arith}
use Rattle.std.specs.Prelude.{Contains, Result, slice_get, slice_set}
use Rattle.std.proofs.lemmas.Int.{ints}
use Rattle.std.proofs.lemmas.List.Elements.{All-nil, All-weaker, All-push, All-set, Contains-append_left}
use Rattle.std.proofs.lemmas.Option.{get_or_from_slice_get}
use Rattle.domain_core.specs.Domain.{Domain, Range, Has, IsDomain, IsWithin, IsSingle}
use Rattle.domain_core.specs.Narrowing.{Keeps}
use Rattle.domain_core.specs.declared.Change.{Change}
use Rattle.domain_core.specs.declared.Change.TheVariants.{Same, Smaller, Empty}
use Rattle.domain_core.proofs.Words.{IsWithin-refl, IsSameKind-sym, IsSameKind-trans}
use Rattle.eu_name.specs.declared.name.TokenName.{TokenName}
use Rattle.eu_name.specs.declared.name.VarName.{VarName}
use Rattle.model_core.specs.declared.decision.Decision.{Decision}
use Rattle.model_core.specs.declared.decision.Decision.TheVariants.{Specify}
use Rattle.model_core.specs.declared.model.Model.{Model}
use Rattle.model_core.specs.declared.variable.Base.TheVariants.{Given}
use Rattle.model_core.specs.Decided.{IsActivated, IsTaken}
use Rattle.model_core.specs.State.{State, Gives}
use Rattle.model_core.specs.Variables.{HasBase}
use Rattle.narrow_core.specs.declared.field.Field.{Field}
use Rattle.constraint_net.specs.Arguments.{domain_of}
use Rattle.constraint_net.specs.Limits.{LimitsAt}
use Rattle.constraint_net.specs.Networks.{AllConsistent}
use Rattle.constraint_net.specs.Steps.{PropagatesTo}
use Rattle.constraint_net.specs.declared.NetFault.{NetFault}
use Rattle.constraint_net.specs.declared.NetFault.TheVariants.{Collapsed, Memory}
use Rattle.constraint_net.specs.declared.constraint.Constraint.{Constraint}
use Rattle.constraint_net.specs.declared.constraint.NetArg.TheVariants.{Var}
use Rattle.plan_defs.specs.Claims.{Claim, IsClaim}
use Rattle.plan_defs.specs.Closure.{IsPropagatedState}
use Rattle.plan_defs.specs.Laws.{HaveToTurn}
use Rattle.plan_defs.specs.Situations.{situation_of}
use Rattle.plan_defs.proofs.Lower.{Further, supported_further, block_further}
use Rattle.eu_name.proofs.Members.{get_below, get_within, get_same}
use Rattle.eu_name.proofs.Ordered.{contains_none}
use Rattle.db_refine.specs.Claims.{SaysClaim, IsOwed, AreFieldsOf}
use Rattle.model_core.specs.Content.{Content, shown, IsContent}
use Rattle.db_refine.specs.Growth.{ends_before}
use Rattle.db_refine.specs.GrowthLaws.{with_domains}
use Rattle.db_refine.proofs.Owing.{nothing_above, grown_above, longer_below, longer_owes, asked_is_owed}
use Rattle.db_refine.proofs.Propagation.{propagation_above}
use Rattle.db_refine.proofs.Showing.{stands_from, gives_from}
use Rattle.db_refine.specs.ProgressLaws.{LimitJustifies, PropagationJustifies}
use Rattle.db_refine.specs.Progress.{IsJustified}
use Rattle.db_refine.proofs.Falling.{fallen_justified}
use Rattle.eu_name.proofs.Places.{zip_set, set_cases}

-- the constraint says a claim that is owed
abbrev SaysOwed : Model → List Decision → List VarName → Constraint → Type 0
SaysOwed model decisions names constraint = (claim : Claim) × SaysClaim names constraint claim × IsOwed model decisions claim

-- ---- lists of decisions

module _ (model : Model) (tables : List Field) (content : Content) where
  pub globals_justified : IsContent model content → AreFieldsOf model tables → content.tokens ≡ [] → content.blocks ≡ []
      → ((name : VarName) (domain : Domain) → Gives (shown content) name domain → HasBase model name (Given domain))
      → IsJustified model [] tables [] content
  globals_justified is fields no_tokens no_blocks bases = record {
    is_content = is;
    above = grown_above model [] (record { tokens = []; blocks = []; names = []; domains = [] }) content is (record {
      tokens = λ token c. absurd (contains_none token (subst (λ list. Contains list token) no_tokens c));
      blocks = λ block c. absurd (contains_none block (subst (λ list. Contains list block) no_blocks c));
      variables = λ name domain gives. inr (bases name domain gives);
    }) (nothing_above model []);
    tokens = λ token c. absurd (contains_none token (subst (λ list. Contains list token) no_tokens c));
    blocks = λ block c. absurd (contains_none block (subst (λ list. Contains list block) no_blocks c));
    in_base = λ name domain gives. (Given domain, bases name domain gives, IsWithin-refl domain);
    fields = fields;
    owed = All-nil _;
  }

module _ (model : Model) (front back : List Decision) where
  activated_longer : (token : TokenName) → IsActivated front token → IsActivated (front ++ back) token
  activated_longer token p = Contains-append_left front back _ p

  pub taken_longer : (token : TokenName) → IsTaken front token → IsTaken (front ++ back) token
  taken_longer token (inl p) = inl (activated_longer token p)
  taken_longer token (inr p) = inr (p.0, Contains-append_left front back _ p.1)

  further_longer : (state : State) → Further (situation_of front state) (situation_of (front ++ back) state)
  further_longer state = record { taken = taken_longer; activated = activated_longer; gives = λ name domain gives. (domain, gives, IsWithin-refl domain) }

  pub longer_justified : (tables : List Field) (posted : List Constraint) (content : Content)
      → IsJustified model front tables posted content → IsJustified model (front ++ back) tables posted content
  longer_justified tables posted content is =
      let further = further_longer (shown content) in
      record {
        is_content = is.is_content;
        above = longer_below model front back content is.above;
        tokens = λ token c. supported_further model _ _ further token (is.tokens token c);
        blocks = λ block c. (let opened = is.blocks block c in (opened.0, block_further model _ _ further block opened.0 opened.1));
        in_base = is.in_base;
        fields = is.fields;
        owed = All-weaker (SaysOwed model front content.names) (SaysOwed model (front ++ back) content.names)
            (λ constraint owed. (owed.0, owed.1, longer_owes model front back owed.0 owed.2)) posted is.owed;
      }

module _ (model : Model) (decisions : List Decision) (tables : List Field) (posted : List Constraint) (content : Content)
    (is : IsJustified model decisions tables posted content) where
  -- ---- posting

  claim_owed : (claim : Claim) → IsClaim model decisions (shown content) claim
      ⊎ ((one other : TokenName) × HaveToTurn model decisions (shown content) one other × (claim ≡ ends_before other one))
      → IsOwed model decisions claim
  claim_owed claim (inl asked) = (asked_is_owed model decisions content is.is_content is.above).claims claim asked
  claim_owed claim (inr turn) =
      subst (IsOwed model decisions) (sym turn.3) ((asked_is_owed model decisions content is.is_content is.above).turns turn.0 turn.1 turn.2)

  pub posting_justified : (constraint : Constraint) (claim : Claim) → SaysClaim content.names constraint claim
      → IsClaim model decisions (shown content) claim
      ⊎ ((one other : TokenName) × HaveToTurn model decisions (shown content) one other × (claim ≡ ends_before other one))
      → IsJustified model decisions tables (posted ++ constraint ∷ []) content
  posting_justified constraint claim says asked = record {
    is_content = is.is_content;
    above = is.above;
    tokens = is.tokens;
    blocks = is.blocks;
    in_base = is.in_base;
    fields = is.fields;
    owed = All-push (SaysOwed model decisions content.names) posted constraint is.owed (claim, says, claim_owed claim asked);
  }

  -- ---- propagation

  pub propagation_justified : (result : Result (Unit {0}) NetFault) (domains : List Domain)
      → PropagatesTo (AllConsistent tables posted) content.domains result domains
      → PropagationJustifies model decisions tables posted result (with_domains content domains)
  propagation_justified (Ok done) domains propagated =
      fallen_justified content domains propagated.0.within model decisions tables posted is propagated.0.are
      (propagation_above model decisions tables posted content is.is_content is.fields is.owed is.above (Ok done) domains propagated)
  propagation_justified (Err Memory) domains propagated =
      fallen_justified content domains propagated.within model decisions tables posted is propagated.are
      (propagation_above model decisions tables posted content is.is_content is.fields is.owed is.above (Err Memory) domains propagated)
  propagation_justified (Err Collapsed) domains propagated =
      propagation_above model decisions tables posted content is.is_content is.fields is.owed is.above (Err Collapsed) domains propagated

  -- ---- a value that is specified

  module _ (name : VarName) (value : ℤ) (number : ℕ) (there : Contains decisions (Specify name value)) (named : slice_get content.names number ≡ Some name) where
    found : (domain : Domain) × (slice_get content.domains number ≡ Some domain)
    found = get_within content.domains number (let long = is.is_content.count in let below = get_below content.names number name named in omega (arith, long, below))

    -- each propagated state gives the variable that value alone
    has_value : (state : State) → IsPropagatedState model decisions state
        → (smaller : Domain) × Gives state name smaller × IsWithin smaller found.0 × IsSingle smaller value
    has_value state fit =
        let lower = (is.above state fit).variables name found.0 (gives_from content.names content.domains number name found.0 named found.1) in
        (lower.0, lower.1, lower.2, fit.respected (Specify name value) there lower.0 lower.1)

    single_within : (smaller left : Domain) → IsWithin smaller found.0 → IsSingle smaller value → IsWithin left found.0 → Has left value → IsWithin smaller left
    single_within smaller left within single left_within has = record {
      kind = IsSameKind-trans smaller found.0 left within.kind (IsSameKind-sym left found.0 left_within.kind);
      values = λ other is_other. subst (Has left) (sym (single.only other is_other)) has;
    }

    module _ (left : Domain) (is_left : IsDomain left) (within : IsWithin left found.0) (keeps : Has found.0 value → Has left value) where
      limited : Content
      limited = with_domains content (slice_set content.domains number left)

      limited_above : (state : State) → IsPropagatedState model decisions state → (other : VarName) (domain : Domain)
          → Gives (shown (with_domains content (slice_set content.domains number left))) other domain
          → (smaller : Domain) × Gives state other smaller × IsWithin smaller domain
      limited_above state fit other domain gives =
          let at = stands_from content.names (slice_set content.domains number left) other domain gives in
          elim (set_cases content.domains number left at.number domain at.given) [
            | inl here ↦ (
                let lower = has_value state fit in
                let same : name ≡ other = get_same content.names number name other named (subst (λ (n : ℕ). slice_get content.names n ≡ Some other) here.0 at.named) in
                let has = keeps (lower.2.values value lower.3.has) in (
                  lower.0,
                  subst (λ (n : VarName). Gives state n lower.0) same lower.1,
                  subst (IsWithin lower.0) (sym here.1) (single_within lower.0 left lower.2 lower.3 within has),
                ))
            | inr stood ↦ (is.above state fit).variables other domain (gives_from content.names content.domains at.number other domain at.named stood)
          ]

      limited_justified : IsJustified model decisions tables posted (with_domains content (slice_set content.domains number left))
      limited_justified =
          fallen_justified content (slice_set content.domains number left)
          (zip_set IsWithin IsWithin-refl content.domains number found.0 left found.1 within)
          model decisions tables posted is (All-set IsDomain content.domains number left is_left is.is_content.domains)
          (λ state fit. record {
            tokens = (is.above state fit).tokens;
            blocks = (is.above state fit).blocks;
            variables = limited_above state fit;
          })

    is_found : domain_of content.domains (Var number) ≡ found.0
    is_found = get_or_from_slice_get content.domains number found.0 _ found.1

    specified : (change : Change) (left : Domain) → IsDomain left → Keeps (Has (Range value value)) found.0 change left
        → LimitJustifies model decisions tables posted (with_domains content (slice_set content.domains number left)) change
    specified Same left is_left kept =
        limited_justified left is_left (subst (λ d. IsWithin d found.0) (sym kept.0) (IsWithin-refl found.0)) (λ has. subst (λ d. Has d value) (sym kept.0) has)
    specified Smaller left is_left kept = limited_justified left is_left kept.0.within (λ has. kept.0.kept value has (omega (arith, ints), omega (arith, ints)))
    specified Empty left is_left kept = λ state fit.
        let lower = has_value state fit in
        kept.1 value (lower.2.values value lower.3.has) (omega (arith, ints), omega (arith, ints))

    pub specifying_justified : (change : Change) (domains : List Domain) → LimitsAt content.domains number (Range value value) change domains
        → LimitJustifies model decisions tables posted (with_domains content domains) change
    specifying_justified change domains limits =
        subst (λ list. LimitJustifies model decisions tables posted (with_domains content list) change) (sym limits.others)
        (specified change limits.left limits.is (subst (λ d. Keeps (Has (Range value value)) d change limits.left) is_found limits.kept))
