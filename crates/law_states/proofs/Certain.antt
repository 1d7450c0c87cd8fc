-- In a state without a flaw no further token can come: what becomes of each is decided, and which way each guard goes is certain.
use Rattle.std.proofs.Common.{◌≡◌, ℕ, ◌<◌, ℤ, List, [], ◌∷◌, ◌++◌, length, Some, ◌⊎◌, inl, inr, refl, sym, ap, ◌∙◌, subst, arith}
use Rattle.std.specs.Prelude.{Contains, slice_get, ⊤}
use Rattle.std.proofs.lemmas.Int.{ints}
use Rattle.std.proofs.lemmas.List.{length-append}
use Rattle.std.proofs.lemmas.List.Elements.{All-contains}
use Rattle.domain_core.specs.Domain.{Domain, Range, Has}
use Rattle.eu_name.specs.declared.name.Part.{Part}
use Rattle.eu_name.specs.declared.name.Part.TheVariants as parts
use Rattle.eu_name.specs.declared.name.Step.{Step}
use Rattle.eu_name.specs.declared.name.TokenName.{TokenName}
use Rattle.eu_name.specs.declared.name.VarName.TheVariants as variables
use Rattle.eu_name.proofs.Members.{get_below, get_same, get_from_contains}
use Rattle.model_core.specs.declared.decision.Decision.{Decision}
use Rattle.model_core.specs.declared.item.Term.{Term}
use Rattle.model_core.specs.declared.item.Term.TheVariants as terms
use Rattle.model_core.specs.declared.model.Model.{Model}
use Rattle.model_core.specs.declared.model.Root.{Root}
use Rattle.model_core.specs.declared.model.RootKind.TheVariants as root_kinds
use Rattle.model_core.specs.declared.rule.Guard.{Guard}
use Rattle.model_core.specs.declared.rule.Guard.TheVariants.{Equal, Differ}
use Rattle.model_core.specs.declared.rule.Slot as slots
use Rattle.model_core.specs.declared.variable.Base.{Base}
use Rattle.model_core.specs.declared.variable.Base.TheVariants.{Given}
use Rattle.model_core.specs.declared.variable.ValueKind.{ValueKind}
use Rattle.model_core.specs.Blocks.{TokenBlock, OfSlot, OfLocal, OfBranch, direct}
use Rattle.model_core.specs.Decided.{IsTaken, IsRejected, IsDecided}
use Rattle.model_core.specs.Entries.{Entries}
use Rattle.model_core.specs.Kinds.{OfRule, IsOfKind, IsPartOfKind}
use Rattle.model_core.specs.Lawful.{IsLawfulGuard}
use Rattle.model_core.specs.Standing.{IsSeen, IsTermSeen}
use Rattle.model_core.specs.State.{State, StandsOpen}
use Rattle.model_core.specs.Tokens.{HasToken, IsRoot, IsRejectable, IsFact, Reaches, LeadsToSlot, slot_of, slot_token, root_token}
use Rattle.model_core.specs.Variables.{HasPartBase}
use Rattle.plan_defs.specs.declared.plan.Plan.{Plan}
use Rattle.plan_defs.specs.Resources.{IsCertain, IsOfRejected, IsTokenComplete}
use Rattle.plan_defs.specs.Situations.{situation_of}
use Rattle.plan_defs.specs.Support.{MayBe, AsksFor, IsSupportedBlock}
use Rattle.plan_defs.specs.Terms.{InRule, Argument, Value, Variable, Means}
use Rattle.plan_defs.proofs.Lower.{HasBlock-map, Follows-map}
use Rattle.eu_name.proofs.Ordered.{contains_head, contains_later}
use Rattle.model_core.proofs.Few.{few_rule}
use Rattle.plan_defs.proofs.Determining.{same_number}
use Rattle.law_states.specs.Soundness.{IsFlawlessPlan}
use Rattle.law_states.proofs.Agreeing.{surely_rejectable, taken_not_rejected}
use Rattle.law_states.proofs.Asking.{activated_kept, slot_not_rejected}
use Rattle.law_states.proofs.Seeing.{outer_open, supported_slot}
use Rattle.law_states.proofs.Deciding.{Becoming, IsAFact, IsActivatedOne, IsMergedOne, IsRejectedOne, kind_or_not}
use Rattle.law_states.proofs.Having.{is_state, becomes_of, value_of}
use Rattle.law_states.proofs.Keeping.{part_kept, root_there}

-- ---- parts that there are

part_base : (model : Model) (slot : slots.Slot) (kind : ValueKind) (part : Part) → IsPartOfKind model slot.pred kind part → (base : Base) × HasPartBase model slot part base
part_base model slot kind parts.Start is = (Given _, refl)
part_base model slot kind parts.End is = (Given _, refl)
part_base model slot kind parts.Duration is = (Given _, refl)
part_base model slot kind parts.Object is = (slot.object, refl)
part_base model slot kind (parts.Param number) is = (is.0.base, (is.0, is.1, refl))

reaches_join : (model : Model) (slot : slots.Slot) (steps : List Step) (last : Step) (middle reached : slots.Slot) → Reaches model slot steps middle → LeadsToSlot model middle.pred last reached
    → Reaches model slot (steps ++ last ∷ []) reached
reaches_join model slot [] last middle reached same leads = (reached, subst (λ (s : slots.Slot). LeadsToSlot model s.pred last reached) same leads, refl)
reaches_join model slot (step ∷ steps) last middle reached (next, first, rest) leads = (next, first, reaches_join model next steps last middle reached rest leads)

module _ (model : Model) (decisions : List Decision) (state : State) (plan : Plan) (is : IsFlawlessPlan model decisions state plan) where
  -- ---- terms of an open block

  -- the term counts and has one value
  record HasTermValue (token : TokenName) (rule : ℕ) (term : Term) : Type 0 where
    domain : Domain
    value : ℤ
    may : MayBe model (situation_of decisions state) (InRule token rule) term domain
    only : (other : ℤ) → Has domain other → other ≡ value

  -- a part of a token that is there and counts
  part_value : (owner token : TokenName) (rule : ℕ) (term : Term) (slot : slots.Slot) (kind : ValueKind) (part : Part)
      → ((argument : Argument) → argument ≡ Variable (variables.Token owner part) → Means (InRule token rule) term argument)
      → Contains state.tokens owner → HasToken model owner slot → IsPartOfKind model slot.pred kind part → (IsRejected decisions owner → ⊥) → (IsRejectable model owner → IsTaken decisions owner)
      → HasTermValue token rule term
  part_value owner token rule term slot kind part means there has of_kind kept taken =
      let base = part_base model slot kind part of_kind in
      let given = ((is_state model decisions state plan is).variables (variables.Token owner part)).0 (there, (base.0, (slot, has, base.1))) in
      let value = value_of model decisions state plan is (variables.Token owner part) given.0 given.1 (part_kept model decisions state plan is owner part kept) in
      record {
        domain = given.0;
        value = value.0;
        may = record {
          argument = Variable (variables.Token owner part);
          means = means (Variable (variables.Token owner part)) refl;
          counts = λ t belongs rejectable. subst (λ x. IsTaken decisions x) belongs (taken (subst (λ x. IsRejectable model x) (sym belongs) rejectable));
          has = given.1;
        };
        only = value.1.only;
      }

  module _ (block : TokenBlock) (entries : Entries) (supported : IsSupportedBlock model (situation_of decisions state) block entries) where
    slot_value : (number : ℕ) (part : Part) (kind : ValueKind) (slot : slots.Slot) → slice_get supported.is_open.has_block.rule.slots number ≡ Some slot → IsPartOfKind model slot.pred kind part
        → IsSeen supported.is_open.has_block.rule.top block.path (OfSlot number) → HasTermValue block.token block.rule (terms.Slot number part)
    slot_value number part kind slot at of_kind seen =
        let out = outer_open model (situation_of decisions state) block entries supported.is_open (OfSlot number) seen in
        let has = supported.is_open.has_block in
        let owner = slot_token block.token block.rule number in
        let asks : AsksFor model (situation_of decisions state) block.token (record { rule = block.rule; slot = number }) = record { path = seen.outer; entries = out.inside; is_open = out.is_open; stands = out.stands } in
        let owner_there = is.settled.consistent.tokens owner (supported_slot model (situation_of decisions state) block.token (record { rule = block.rule; slot = number }) supported.supported asks) in
        let owner_has : HasToken model owner slot = record {
          root = has.has_token.root;
          is_root = has.has_token.is_root;
          reached = reaches_join model (slot_of has.has_token.root) block.token.steps (record { rule = block.rule; slot = number }) has.slot slot has.has_token.reached
              (record { rule = has.rule; has_rule = has.has_rule; is_slot = at });
        } in
        let not_rejected = slot_not_rejected model decisions state plan is block.token block.rule number in
        part_value owner block.token block.rule (terms.Slot number part) slot kind part (λ argument e. e) owner_there owner_has of_kind not_rejected
        (λ rejectable. absurd (no_root_slot rejectable.0))
      where
        no_root_slot : (slot_token block.token block.rule number).steps ≡ [] → ⊥
        no_root_slot none = omega (arith, ap length none, length-append block.token.steps (record { rule = block.rule; slot = number } ∷ []))

    local_value : (number : ℕ) → IsSeen supported.is_open.has_block.rule.top block.path (OfLocal number) → HasTermValue block.token block.rule (terms.Local number)
    local_value number seen =
        let out = outer_open model (situation_of decisions state) block entries supported.is_open (OfLocal number) seen in
        let outer : TokenBlock = record { token = block.token; rule = block.rule; path = seen.outer } in
        let stands : StandsOpen model state block.token block.rule number = record {
          block = outer;
          is_open = is.settled.consistent.blocks outer out.inside (record { supported = supported.supported; is_open = out.is_open });
          of_token = refl;
          of_rule = refl;
          entries = out.inside;
          is_block = HasBlock-map model _ (λ guard side. ⊤) (λ guard side opens. tt) outer out.inside out.is_open.has_block;
          stands = out.stands;
        } in
        let name = variables.Local block.token block.rule number in
        let given = ((is_state model decisions state plan is).variables name).0 stands in
        let kept = activated_kept model decisions state plan is block.token supported.is_open.activated in
        let value = value_of model decisions state plan is name given.0 given.1 (λ rejected. kept (subst (λ t. IsRejected decisions t) (sym rejected.1) rejected.2)) in
        record {
          domain = given.0;
          value = value.0;
          may = record {
            argument = Variable name;
            means = refl;
            counts = λ t belongs rejectable. subst (λ x. IsTaken decisions x) belongs (inl supported.is_open.activated);
            has = given.1;
          };
          only = value.1.only;
        }

    global_value : (number : ℕ) → number < length model.problem.globals → HasTermValue block.token block.rule (terms.Global number)
    global_value number below =
        let given = ((is_state model decisions state plan is).variables (variables.Global number)).0 below in
        let value = value_of model decisions state plan is (variables.Global number) given.0 given.1 (λ rejected. rejected.1) in
        record {
          domain = given.0;
          value = value.0;
          may = record { argument = Variable (variables.Global number); means = refl; counts = λ t belongs rejectable. absurd belongs; has = given.1 };
          only = value.1.only;
        }

    root_value : (number : ℕ) (part : Part) (kind : ValueKind) (root : Root) → IsRoot model number root → IsPartOfKind model root.pred kind part
        → HasTermValue block.token block.rule (terms.Root number part) ⊎ IsOfRejected model decisions (terms.Root number part)
    root_value number part kind root is_root of_kind =
        let owner = root_token number in
        let owner_there = root_there model decisions state plan is number root is_root in
        let owner_has : HasToken model owner (slot_of root) = record { root = root; is_root = is_root; reached = refl } in
        by owner_there owner_has (kind_or_not model root_kinds.Rejectable owner (slot_of root) owner_has) (becomes_of model decisions state plan is owner owner_there)
      where
        value : Contains state.tokens (root_token number) → HasToken model (root_token number) (slot_of root) → (IsRejected decisions (root_token number) → ⊥)
            → (IsRejectable model (root_token number) → IsTaken decisions (root_token number))
            → HasTermValue block.token block.rule (terms.Root number part) ⊎ IsOfRejected model decisions (terms.Root number part)
        value owner_there owner_has kept taken =
            inl (part_value (root_token number) block.token block.rule (terms.Root number part) (slot_of root) kind part (λ argument e. e) owner_there owner_has of_kind kept taken)

        by : Contains state.tokens (root_token number) → HasToken model (root_token number) (slot_of root)
            → IsRejectable model (root_token number) ⊎ (IsRejectable model (root_token number) → ⊥) → Becoming model decisions (root_token number)
            → HasTermValue block.token block.rule (terms.Root number part) ⊎ IsOfRejected model decisions (terms.Root number part)
        by owner_there owner_has (inl rejectable) (IsRejectedOne rejected) = inr (rejectable, rejected)
        by owner_there owner_has (inr not) (IsRejectedOne rejected) = absurd (surely_rejectable model decisions state plan is (root_token number) rejected not)
        by owner_there owner_has kind' (IsActivatedOne activated') =
            value owner_there owner_has (taken_not_rejected model decisions state plan is (root_token number) (inl activated')) (λ rejectable. inl activated')
        by owner_there owner_has kind' (IsMergedOne target merged) =
            value owner_there owner_has (taken_not_rejected model decisions state plan is (root_token number) (inr (target, merged))) (λ rejectable. inr (target, merged))
        by owner_there owner_has kind' (IsAFact fact) =
            value owner_there owner_has (λ rejected. surely_rejectable model decisions state plan is (root_token number) rejected (λ rejectable. fact_or_rejectable fact rejectable))
            (λ rejectable. absurd (fact_or_rejectable fact rejectable))
          where
            fact_or_rejectable : IsFact model (root_token number) → IsRejectable model (root_token number) → ⊥
            fact_or_rejectable f r =
                let same : f.1.0 ≡ r.1.0 = get_same model.problem.roots number f.1.0 r.1.0 f.1.1 r.1.1 in
                let e : root_kinds.Fact ≡ root_kinds.Rejectable = sym f.1.2 ∙ (ap (λ (x : Root). x.kind) same ∙ r.1.2) in
                cc

    term_value : (kind : ValueKind) (term : Term) → IsOfKind model (OfRule supported.is_open.has_block.slot.pred supported.is_open.has_block.rule) kind term
        → IsTermSeen supported.is_open.has_block.rule.top block.path term → HasTermValue block.token block.rule term ⊎ IsOfRejected model decisions term
    term_value kind (terms.Lit value) of_kind seen = inl (record {
      domain = Range value value;
      value = value;
      may = record { argument = Value value; means = refl; counts = tt; has = refl };
      only = λ other has. omega (arith, ints, has.0, has.1);
    })
    term_value kind (terms.Here part) of_kind seen =
        let has = supported.is_open.has_block in
        inl (part_value block.token block.token block.rule (terms.Here part) has.slot kind part (λ argument e. e)
        (is.settled.consistent.tokens block.token supported.supported) has.has_token of_kind
        (activated_kept model decisions state plan is block.token supported.is_open.activated) (λ rejectable. inl supported.is_open.activated))
    term_value kind (terms.Slot number part) of_kind seen = inl (slot_value number part kind of_kind.0 of_kind.1 of_kind.2 seen)
    term_value kind (terms.Local number) of_kind seen = inl (local_value number seen)
    term_value kind (terms.Global number) of_kind seen = inl (global_value number (get_below model.problem.globals number of_kind.0 of_kind.1))
    term_value kind (terms.Root number part) of_kind seen = root_value number part kind of_kind.0 of_kind.1 of_kind.2

    -- ---- guards

    certain : (guard : Guard) → IsLawfulGuard model supported.is_open.has_block.slot.pred supported.is_open.has_block.rule block.path guard → IsCertain model decisions state block guard
    certain (Equal left right) lawful =
        by (term_value lawful.0.0 left (All-contains (IsOfKind model (OfRule supported.is_open.has_block.slot.pred supported.is_open.has_block.rule) lawful.0.0) (left ∷ right ∷ []) left lawful.0.1 (contains_head left (right ∷ []))) (All-contains (IsTermSeen supported.is_open.has_block.rule.top block.path) (left ∷ right ∷ []) left lawful.1 (contains_head left (right ∷ []))))
        (term_value lawful.0.0 right (All-contains (IsOfKind model (OfRule supported.is_open.has_block.slot.pred supported.is_open.has_block.rule) lawful.0.0) (left ∷ right ∷ []) right lawful.0.1 (contains_later left right (right ∷ []) (contains_head right [])))
        (All-contains (IsTermSeen supported.is_open.has_block.rule.top block.path) (left ∷ right ∷ []) right lawful.1 (contains_later left right (right ∷ []) (contains_head right []))))
      where
        by : HasTermValue block.token block.rule left ⊎ IsOfRejected model decisions left → HasTermValue block.token block.rule right ⊎ IsOfRejected model decisions right
            → IsCertain model decisions state block (Equal left right)
        by (inr rejected) other = inr (inl rejected)
        by (inl one) (inr rejected) = inr (inr rejected)
        by (inl one) (inl other) = elim (same_number one.value other.value) [
          | inl same ↦ inl (inl (record {
            one = one.domain;
            other = other.domain;
            is_one = one.may;
            is_other = other.may;
            always = λ v w has has'. one.only v has ∙ (same ∙ sym (other.only w has'));
          }))
          | inr apart ↦ inl (inr (record {
            one = one.domain;
            other = other.domain;
            is_one = one.may;
            is_other = other.may;
            always = λ v w has has' e. apart (sym (one.only v has) ∙ (e ∙ other.only w has'));
          }))
        ]
    certain (Differ left right) lawful =
        by (term_value lawful.0.0 left (All-contains (IsOfKind model (OfRule supported.is_open.has_block.slot.pred supported.is_open.has_block.rule) lawful.0.0) (left ∷ right ∷ []) left lawful.0.1 (contains_head left (right ∷ []))) (All-contains (IsTermSeen supported.is_open.has_block.rule.top block.path) (left ∷ right ∷ []) left lawful.1 (contains_head left (right ∷ []))))
        (term_value lawful.0.0 right (All-contains (IsOfKind model (OfRule supported.is_open.has_block.slot.pred supported.is_open.has_block.rule) lawful.0.0) (left ∷ right ∷ []) right lawful.0.1 (contains_later left right (right ∷ []) (contains_head right [])))
        (All-contains (IsTermSeen supported.is_open.has_block.rule.top block.path) (left ∷ right ∷ []) right lawful.1 (contains_later left right (right ∷ []) (contains_head right []))))
      where
        by : HasTermValue block.token block.rule left ⊎ IsOfRejected model decisions left → HasTermValue block.token block.rule right ⊎ IsOfRejected model decisions right
            → IsCertain model decisions state block (Differ left right)
        by (inr rejected) other = inr (inl rejected)
        by (inl one) (inr rejected) = inr (inr rejected)
        by (inl one) (inl other) = elim (same_number one.value other.value) [
          | inr apart ↦ inl (inl (record {
            one = one.domain;
            other = other.domain;
            is_one = one.may;
            is_other = other.may;
            always = λ v w has has' e. apart (sym (one.only v has) ∙ (e ∙ other.only w has'));
          }))
          | inl same ↦ inl (inr (record {
            one = one.domain;
            other = other.domain;
            is_one = one.may;
            is_other = other.may;
            always = λ v w has has'. one.only v has ∙ (same ∙ sym (other.only w has'));
          }))
        ]

    branch_certain : (guard : Guard) (then otherwise : Entries) → Contains (direct entries) (OfBranch guard then otherwise) → IsCertain model decisions state block guard
    branch_certain guard then otherwise stands =
        let has = supported.is_open.has_block in
        let at = get_from_contains (direct entries) (OfBranch guard then otherwise) stands in
        let fine = (few_rule model has.slot.pred block.rule has.rule is.settled.lawful has.has_rule).lawful in
        let way = Follows-map _ (λ g s. ⊤) (λ g s opens. tt) has.rule.top block.path entries has.way in
        certain guard (fine.entries block.path at.0 (OfBranch guard then otherwise) (record { block = entries; way = way; stands = at.1 })).1

  decided : (token : TokenName) → Becoming model decisions token → IsDecided model decisions token
  decided token (IsAFact fact) = inl fact
  decided token (IsActivatedOne activated) = inr (inl (inl activated))
  decided token (IsMergedOne target merged) = inr (inl (inr (target, merged)))
  decided token (IsRejectedOne rejected) = inr (inr rejected)

  pub token_complete : IsTokenComplete model decisions state
  token_complete = record {
    tokens = λ token supported. decided token (becomes_of model decisions state plan is token (is.settled.consistent.tokens token supported));
    guards = λ block entries guard then otherwise supported stands. branch_certain block entries supported guard then otherwise stands;
  }
