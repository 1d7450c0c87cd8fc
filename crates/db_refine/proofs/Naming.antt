-- What is named in a block is there, and so are active tokens.
use Rattle.std.proofs.Common.{◌≡◌, ℕ, suc, zero, ◌≤◌, List, [], ◌∷◌, ◌++◌, length, Some, inl, inr, refl, sym, ap, ◌∙◌, subst, append_assoc, append-nil, arith}
use Rattle.std.specs.Prelude.{All, Contains, slice_get}
use Rattle.std.proofs.lemmas.Bool.{cases_lt}
use Rattle.std.proofs.lemmas.List.Elements.{All-nil, All-cons, All-head, All-tail, All-weaker}
use Rattle.domain_core.specs.Domain.{Range}
use Rattle.eu_name.specs.declared.name.Part.{Part}
use Rattle.eu_name.specs.declared.name.Part.TheVariants.{Start, End, Duration, Object, Param}
use Rattle.eu_name.specs.declared.name.TokenName.{TokenName}
use Rattle.eu_name.specs.declared.name.VarName.TheVariants as variables
use Rattle.model_core.specs.declared.decision.Decision.{Decision}
use Rattle.model_core.specs.declared.decision.Decision.TheVariants.{Activate}
use Rattle.model_core.specs.declared.item.Item.TheVariants.{Constraint, Relation}
use Rattle.domain_core.specs.declared.kind.Kind.{Kind}
use Rattle.domain_core.specs.declared.kind.Kind.TheVariants as kind
use Rattle.model_core.specs.declared.item.Term.{Term}
use Rattle.model_core.specs.declared.item.Term.TheVariants.{Lit, Here, Slot, Local, Global, Root}
use Rattle.model_core.specs.declared.model.Model.{Model}
use Rattle.model_core.specs.declared.rule.Guard.TheVariants.{Equal, Differ}
use Rattle.model_core.specs.declared.rule.Slot as slots
use Rattle.model_core.specs.declared.rule.Turn.{Turn}
use Rattle.model_core.specs.declared.variable.Base.{Base}
use Rattle.model_core.specs.declared.variable.Base.TheVariants.{Given}
use Rattle.model_core.specs.declared.variable.ValueKind.{ValueKind}
use Rattle.model_core.specs.declared.variable.ValueKind.TheVariants as kinds
use Rattle.model_core.specs.Blocks.{TokenBlock, IsBlock, Direct, direct, OfSlot, OfLocal, OfItem, OfBranch, block_at}
use Rattle.model_core.specs.Decided.{IsActive}
use Rattle.model_core.specs.Entries.{Entries}
use Rattle.model_core.specs.Kinds.{Scope, OfRule, IsPartOfKind, IsOfKind, AreNumbers, AreArguments}
use Rattle.model_core.specs.Lawful.{IsLawful, IsLawfulEntry}
use Rattle.model_core.specs.Standing.{StandsAt, IsSeen, IsTermSeen}
use Rattle.model_core.specs.State.{IsBlockOf, StandsOpen}
use Rattle.model_core.specs.Tokens.{HasToken, root_token, slot_token, slot_of}
use Rattle.model_core.specs.Variables.{HasPartBase}
use Rattle.constraint_net.specs.declared.constraint.Constraint as posts
use Rattle.plan_defs.specs.Terms.{InRule}
use Rattle.eu_name.proofs.Members.{get_below, get_all, get_same, contains_from_get}
use Rattle.model_core.specs.Content.{Content, shown, IsContent}
use Rattle.db_refine.specs.Coming.{IsTermThere, IsWhatIsNamedThere}
use Rattle.db_refine.specs.Progress.{MissesNothing}
use Rattle.model_core.proofs.Blocks.{at_block}
use Rattle.model_core.proofs.Lawful.{rule_lawful, has_slot_token}
use Rattle.eu_name.proofs.Places.{split_last}

-- ---- what arguments are of

part_has_base : (model : Model) (slot : slots.Slot) (kind : ValueKind) (part : Part) → IsPartOfKind model slot.pred kind part → (base : Base) × HasPartBase model slot part base
part_has_base model slot kind Start is = (Given (Range model.problem.start model.problem.end), refl)
part_has_base model slot kind End is = (Given (Range model.problem.start model.problem.end), refl)
part_has_base model slot kind Duration is = (_, refl)
part_has_base model slot kind Object is = (slot.object, refl)
part_has_base model slot kind (Param number) is = (is.0.base, (is.0, is.1, refl))

abbrev HasKind : Model → Scope → Term → Type 0
HasKind model scope term = (kind : ValueKind) × IsOfKind model scope kind term

module _ (model : Model) (scope : Scope) where
  all_kind : (kind : ValueKind) (compared : List Term) → All (IsOfKind model scope kind) compared → All (HasKind model scope) compared
  all_kind kind compared are = All-weaker (IsOfKind model scope kind) (HasKind model scope) (λ term is. (kind, is)) compared are

  numbers_kind : (compared : List Term) → AreNumbers model scope compared → All (HasKind model scope) compared
  numbers_kind compared (kind, numeric, are) = all_kind kind compared are

  arguments_kind : (kind : Kind) (arguments : List Term) → AreArguments model scope kind arguments → All (HasKind model scope) arguments
  arguments_kind kind.Eq arguments are = all_kind are.0 arguments are.1
  arguments_kind kind.Neq arguments are = all_kind are.0 arguments are.1
  arguments_kind kind.Lt arguments are = numbers_kind arguments are
  arguments_kind kind.Leq arguments are = numbers_kind arguments are
  arguments_kind kind.AddEq arguments are = numbers_kind arguments are
  arguments_kind kind.MulEq (first ∷ Lit factor ∷ product ∷ []) (are, is_value, some) =
      let kinded = numbers_kind (first ∷ product ∷ []) are in
      All-cons (HasKind model scope) first (Lit factor ∷ product ∷ []) (All-head (HasKind model scope) first (product ∷ []) kinded)
      (All-cons (HasKind model scope) (Lit factor) (product ∷ []) (kinds.Int, is_value) (All-tail (HasKind model scope) first (product ∷ []) kinded))
  arguments_kind kind.TestEq (truth ∷ compared) are =
      All-cons (HasKind model scope) truth compared (kinds.Bool, are.0) (all_kind are.1.0 compared are.1.1)
  arguments_kind kind.TestLeq (truth ∷ compared) are =
      All-cons (HasKind model scope) truth compared (kinds.Bool, are.0) (numbers_kind compared are.1)
  arguments_kind (kind.Field number) (object ∷ value ∷ []) are =
      All-cons (HasKind model scope) object (value ∷ []) (kinds.Object, are.of_kind)
      (All-cons (HasKind model scope) value [] (are.variable.kind, are.value_kind) (All-nil (HasKind model scope)))
  arguments_kind kind arguments are = absurd are

-- an active token is there
pub active_there : (model : Model) (decisions : List Decision) (posted : List posts.Constraint) (content : Content) (unfolded : ℕ) (due : List ℕ)
    → MissesNothing model decisions posted content unfolded due → (token : TokenName) → IsActive model decisions token → Contains content.tokens token
active_there model decisions posted content unfolded due misses token (inl (no_steps, (root, is_root, is_fact))) =
    let same : root_token token.root ≡ token = λ i. record { root = token.root; steps = sym no_steps i } in
    subst (Contains content.tokens) same (misses.roots token.root root is_root)
active_there model decisions posted content unfolded due misses token (inr activated) = misses.known (Activate token) activated

module _ (model : Model) (decisions : List Decision) (posted : List posts.Constraint) (content : Content) (unfolded : ℕ) (due : List ℕ)
    (lawful : IsLawful model) (is : IsContent model content) (misses : MissesNothing model decisions posted content unfolded due) where
  -- ---- the blocks round a block are there

  above : (count number : ℕ) (block : TokenBlock) (outer inner : List Turn) → slice_get content.blocks number ≡ Some block → block.path ≡ outer ++ inner → length inner ≡ count
      → (place : ℕ) × (place ≤ number) × (slice_get content.blocks place ≡ Some (block_at block.token block.rule outer))
  above zero number block outer [] at within long =
      let same : block ≡ block_at block.token block.rule outer = λ i. record { token = block.token; rule = block.rule; path = (within ∙ append-nil outer) i } in
      (number, omega arith, at ∙ ap (λ b. Some b) same)
  above zero number block outer (turn ∷ inner) at within long = absurd (omega (arith, long))
  above (suc count) number block outer inner at within long =
      let last = split_last inner count long in
      let path : block.path ≡ (outer ++ last.0) ++ last.1.0 ∷ [] = within ∙ ap (λ list. outer ++ list) last.1.1 ∙ sym (append_assoc outer last.0 (last.1.0 ∷ [])) in
      let next = misses.before number block (outer ++ last.0) last.1.0 at path in
      let rest = above count next.0 (block_at block.token block.rule (outer ++ last.0)) outer last.0 next.1 refl last.1.2 in
      (rest.0, (let below = next.2 in let further = rest.1 in omega (arith, below, further)), rest.2)

  part_there : (token : TokenName) (slot : slots.Slot) (kind : ValueKind) (part : Part) → Contains content.tokens token → HasToken model token slot → IsPartOfKind model slot.pred kind part
      → Contains content.names (variables.Token token part)
  part_there token slot kind part there has of_kind =
      let base = part_has_base model slot kind part of_kind in
      (is.variables (variables.Token token part)).0 (there, (base.0, (slot, has, base.1)))

  module _ (number : ℕ) (block : TokenBlock) (entries : Entries) (at : slice_get content.blocks number ≡ Some block) (below : number ≤ unfolded) (is_block : IsBlock model block entries)
      (slots_there : (slot : ℕ) → Contains (direct entries) (OfSlot slot) → Contains content.tokens (slot_token block.token block.rule slot)) where
    abbrev scope : Scope
    scope = OfRule is_block.slot.pred is_block.rule

    seen_at : (what : Direct) (seen : IsSeen is_block.rule.top block.path what)
        → (place : ℕ) × (place ≤ number) × (slice_get content.blocks place ≡ Some (block_at block.token block.rule seen.outer))
    seen_at what seen = above (length seen.inner) number block seen.outer seen.inner at seen.within refl

    is_outer : (what : Direct) (seen : IsSeen is_block.rule.top block.path what) → IsBlock model (block_at block.token block.rule seen.outer) seen.stands.block
    is_outer what seen = record { slot = is_block.slot; has_token = is_block.has_token; rule = is_block.rule; has_rule = is_block.has_rule; way = seen.stands.way }

    slot_there : (slot : ℕ) → IsSeen is_block.rule.top block.path (OfSlot slot) → Contains content.tokens (slot_token block.token block.rule slot)
    slot_there slot seen =
        let found = seen_at (OfSlot slot) seen in
        let outer = block_at block.token block.rule seen.outer in
        let stands = contains_from_get (direct seen.stands.block) seen.place (OfSlot slot) seen.stands.stands in
        elim (cases_lt found.0 unfolded) [
          | inl earlier ↦ misses.slots outer seen.stands.block slot (found.0, found.2, earlier) (is_outer (OfSlot slot) seen) stands
          | inr past ↦ (
              let same_place : found.0 ≡ number = (let up = found.1 in omega (arith, up, past, below)) in
              let same = get_same content.blocks number block outer at (subst (λ (n : ℕ). slice_get content.blocks n ≡ Some outer) same_place found.2) in
              at_block model (λ b e. (slot : ℕ) → Contains (direct e) (OfSlot slot) → Contains content.tokens (slot_token b.token b.rule slot))
              block outer entries seen.stands.block same is_block (is_outer (OfSlot slot) seen) slots_there slot stands)
        ]

    local_there : (local : ℕ) → IsSeen is_block.rule.top block.path (OfLocal local) → Contains content.names (variables.Local block.token block.rule local)
    local_there local seen =
        let found = seen_at (OfLocal local) seen in
        let stands : StandsOpen model (shown content) block.token block.rule local = record {
          block = block_at block.token block.rule seen.outer;
          is_open = contains_from_get content.blocks found.0 (block_at block.token block.rule seen.outer) found.2;
          of_token = refl;
          of_rule = refl;
          entries = seen.stands.block;
          is_block = is_outer (OfLocal local) seen;
          stands = contains_from_get (direct seen.stands.block) seen.place (OfLocal local) seen.stands.stands;
        } in
        (is.variables (variables.Local block.token block.rule local)).0 stands

    token_there : Contains content.tokens block.token
    token_there = (get_all (IsBlockOf model (shown content)) content.blocks number block is.blocks at).0

    -- ---- terms

    term_there : (kind : ValueKind) (term : Term) → IsOfKind model scope kind term → IsTermSeen is_block.rule.top block.path term
        → IsTermThere content (InRule block.token block.rule) term
    term_there kind (Lit value) of_kind seen name means = absurd (cc)
    term_there kind (Here part) of_kind seen name means =
        let same : variables.Token block.token part ≡ name = cc in
        subst (Contains content.names) same (part_there block.token is_block.slot kind part token_there is_block.has_token of_kind)
    term_there kind (Slot slot part) (next, listed, of_kind) seen name means =
        let same : variables.Token (slot_token block.token block.rule slot) part ≡ name = cc in
        let has = has_slot_token model block.token is_block.slot next block.rule is_block.rule slot is_block.has_token is_block.has_rule listed in
        subst (Contains content.names) same (part_there (slot_token block.token block.rule slot) next kind part (slot_there slot seen) has of_kind)
    term_there kind (Local local) of_kind seen name means =
        let same : variables.Local block.token block.rule local ≡ name = cc in
        subst (Contains content.names) same (local_there local seen)
    term_there kind (Global global) (variable, is_global, of_kind) seen name means =
        let same : variables.Global global ≡ name = cc in
        subst (Contains content.names) same ((is.variables (variables.Global global)).0 (get_below model.problem.globals global variable is_global))
    term_there kind (Root root part) (found, is_root, of_kind) seen name means =
        let same : variables.Token (root_token root) part ≡ name = cc in
        subst (Contains content.names) same
        (part_there (root_token root) (slot_of found) kind part (misses.roots root found is_root) (record { root = found; is_root = is_root; reached = refl }) of_kind)

    terms_there : (terms : List Term) → All (HasKind model scope) terms → All (IsTermSeen is_block.rule.top block.path) terms
        → All (IsTermThere content (InRule block.token block.rule)) terms
    terms_there [] kinds seen = All-nil (IsTermThere content (InRule block.token block.rule))
    terms_there (term ∷ terms) kinds seen =
        let first = All-head (HasKind model scope) term terms kinds in
        All-cons (IsTermThere content (InRule block.token block.rule)) term terms
        (term_there first.0 term first.1 (All-head (IsTermSeen is_block.rule.top block.path) term terms seen))
        (terms_there terms (All-tail (HasKind model scope) term terms kinds) (All-tail (IsTermSeen is_block.rule.top block.path) term terms seen))

    -- ---- what stands in the block

    stands_at : (place : ℕ) (what : Direct) → slice_get (direct entries) place ≡ Some what → StandsAt is_block.rule.top block.path place what
    stands_at place what stands = record { block = entries; way = is_block.way; stands = stands }

    guard_there : (left right : Term) → All (HasKind model scope) (left ∷ right ∷ []) → All (IsTermSeen is_block.rule.top block.path) (left ∷ right ∷ [])
        → IsTermThere content (InRule block.token block.rule) left × IsTermThere content (InRule block.token block.rule) right
    guard_there left right kinds seen =
        let there = terms_there (left ∷ right ∷ []) kinds seen in
        let rest = All-tail (IsTermThere content (InRule block.token block.rule)) left (right ∷ []) there in
        (All-head (IsTermThere content (InRule block.token block.rule)) left (right ∷ []) there, All-head (IsTermThere content (InRule block.token block.rule)) right [] rest)

    what_there : (place : ℕ) (what : Direct) → slice_get (direct entries) place ≡ Some what → IsLawfulEntry model is_block.slot.pred is_block.rule block.path what
        → IsWhatIsNamedThere content block.token block.rule what
    what_there place (OfItem (Constraint kind terms)) stands entry = terms_there terms (arguments_kind model scope kind terms entry.0.1) entry.1
    what_there place (OfItem (Relation relation slot)) stands entry = slot_there slot entry.1
    what_there place (OfBranch (Equal left right) then otherwise) stands entry = guard_there left right (all_kind model scope entry.0.0 (left ∷ right ∷ []) entry.0.1) entry.1
    what_there place (OfBranch (Differ left right) then otherwise) stands entry = guard_there left right (all_kind model scope entry.0.0 (left ∷ right ∷ []) entry.0.1) entry.1
    what_there place (OfSlot slot) stands entry = slots_there slot (contains_from_get (direct entries) place (OfSlot slot) stands)
    what_there place (OfLocal local) stands entry =
        local_there local (record { outer = block.path; inner = []; within = sym (append-nil block.path); place = place; stands = stands_at place (OfLocal local) stands })

    pub named_there : (place : ℕ) (what : Direct) → slice_get (direct entries) place ≡ Some what → IsWhatIsNamedThere content block.token block.rule what
    named_there place what stands =
        what_there place what stands ((rule_lawful model lawful is_block.slot.pred block.rule is_block.rule is_block.has_rule).entries block.path place what (stands_at place what stands)).1
