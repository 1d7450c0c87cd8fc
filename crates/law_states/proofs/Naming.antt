-- The variables that a state with the tokens and the open blocks of a plan is about.
use Rattle.std.proofs.Common.{◌≡◌, ℕ, ◌<◌, ◌⊎◌, inl, inr, ⊎_elim, pos, ◌-ℤ◌, List, [], ◌∷◌, length, Option, Some, None, refl, sym, ◌∙◌, subst}
use Rattle.std.specs.Prelude.{Contains, slice_get}
use Rattle.domain_core.specs.Domain.{Range}
use Rattle.eu_name.specs.declared.name.Part.{Part}
use Rattle.eu_name.specs.declared.name.Part.TheVariants.{Start, End, Duration, Object, Param}
use Rattle.eu_name.specs.declared.name.TokenName.{TokenName}
use Rattle.eu_name.specs.declared.name.VarName.{VarName}
use Rattle.eu_name.specs.declared.name.VarName.TheVariants.{Token, Local, Global}
use Rattle.eu_name.proofs.Members.{get_below, get_within, get_same}
use Rattle.model_core.specs.declared.class.Pred.{Pred}
use Rattle.model_core.specs.declared.model.Model.{Model}
use Rattle.model_core.specs.declared.rule.Slot.{Slot}
use Rattle.model_core.specs.declared.variable.Base.{Base}
use Rattle.model_core.specs.declared.variable.Base.TheVariants.{Given}
use Rattle.model_core.specs.Blocks.{TokenBlock, Direct, OfSlot, OfLocal, OfItem, OfBranch, IsBlock, direct}
use Rattle.model_core.specs.Entries.{Entries}
use Rattle.model_core.specs.State.{State, IsAbout}
use Rattle.model_core.specs.Tokens.{HasToken}
use Rattle.model_core.specs.Variables.{HasBase, HasPartBase}
use Rattle.model_core.proofs.Leading.{token_once}
use Rattle.eu_name.proofs.Ordered.{contains_head, contains_later, contains_cases, contains_none}
use Rattle.model_core.proofs.Blocks.{block_once}
use Rattle.law_states.proofs.Lists.{Lists, no_list, one_list, either_list, each_list, same_list, below_list}

-- ---- parts

module _ (model : Model) (slot : Slot) where
  abbrev HasIt : Part → Type 0
  HasIt part = (base : Base) × HasPartBase model slot part base

  four : Lists (λ part. (Start ≡ part) ⊎ ((End ≡ part) ⊎ ((Duration ≡ part) ⊎ (Object ≡ part))))
  four = either_list _ _ (one_list Start) (either_list _ _ (one_list End) (either_list _ _ (one_list Duration) (one_list Object)))

  four_have : (part : Part) → (Start ≡ part) ⊎ ((End ≡ part) ⊎ ((Duration ≡ part) ⊎ (Object ≡ part))) → HasIt part
  four_have Start is = (Given (Range model.problem.start model.problem.end), refl)
  four_have End is = (Given (Range model.problem.start model.problem.end), refl)
  four_have Duration is = (Given (Range (pos 1) (model.problem.end -ℤ model.problem.start)), refl)
  four_have Object is = (slot.object, refl)
  four_have (Param number) (inl same) = absurd (cc)
  four_have (Param number) (inr (inl same)) = absurd (cc)
  four_have (Param number) (inr (inr (inl same))) = absurd (cc)
  four_have (Param number) (inr (inr (inr same))) = absurd (cc)

  -- with these parameters
  parts_with : (pred : Pred) → slice_get model.preds slot.pred ≡ Some pred → Lists HasIt
  parts_with pred is =
      same_list _ _ (λ part. (λ which. back part which, λ has. forth part has))
      (either_list _ _ four (each_list (λ (number : ℕ) (part : Part). Param number ≡ part) (below_list (length pred.params)).list (λ number there. one_list (Param number))))
    where
      Either : Part → Type 0
      Either part = ((Start ≡ part) ⊎ ((End ≡ part) ⊎ ((Duration ≡ part) ⊎ (Object ≡ part)))) ⊎ ((number : ℕ) × (Contains (below_list (length pred.params)).list number × (Param number ≡ part)))

      back : (part : Part) → ((Start ≡ part) ⊎ ((End ≡ part) ⊎ ((Duration ≡ part) ⊎ (Object ≡ part)))) ⊎ ((number : ℕ) × (Contains (below_list (length pred.params)).list number × (Param number ≡ part))) → HasIt part
      back part (inl which) = four_have part which
      back part (inr (number, (there, same))) =
          let found = get_within pred.params number (((below_list (length pred.params)).are number).0 there) in
          subst HasIt same (found.0.base, (found.0, record { predicate = pred; is_predicate = is; declared = found.1 }, refl))

      forth : (part : Part) → HasIt part → ((Start ≡ part) ⊎ ((End ≡ part) ⊎ ((Duration ≡ part) ⊎ (Object ≡ part)))) ⊎ ((number : ℕ) × (Contains (below_list (length pred.params)).list number × (Param number ≡ part)))
      forth Start has = inl (inl refl)
      forth End has = inl (inr (inl refl))
      forth Duration has = inl (inr (inr (inl refl)))
      forth Object has = inl (inr (inr (inr refl)))
      forth (Param number) (base, (variable, has, same)) =
          let preds = get_same model.preds slot.pred has.predicate pred has.is_predicate is in
          let below = get_below has.predicate.params number variable has.declared in
          inr (number, (((below_list (length pred.params)).are number).1 (subst (λ (p : Pred). number < length p.params) preds below), refl))

  -- without any
  parts_alone : slice_get model.preds slot.pred ≡ None → Lists HasIt
  parts_alone none = same_list _ _ (λ part. (λ which. four_have part which, λ has. forth part has)) four
    where
      no_pred : (pred : Pred) → None ≡ Some pred → ⊥
      no_pred pred same = cc

      forth : (part : Part) → HasIt part → (Start ≡ part) ⊎ ((End ≡ part) ⊎ ((Duration ≡ part) ⊎ (Object ≡ part)))
      forth Start has = inl refl
      forth End has = inr (inl refl)
      forth Duration has = inr (inr (inl refl))
      forth Object has = inr (inr (inr refl))
      forth (Param number) (base, (variable, has, same)) = absurd (no_pred has.predicate (sym none ∙ has.is_predicate))

  pub parts_listed : Lists (λ part. (base : Base) × HasPartBase model slot part base)
  parts_listed = by_pred (slice_get model.preds slot.pred) refl
    where
      by_pred : (found : Option Pred) → slice_get model.preds slot.pred ≡ found → Lists (λ part. (base : Base) × HasPartBase model slot part base)
      by_pred (Some pred) is = parts_with pred is
      by_pred None none = parts_alone none

-- ---- locals

-- the locals among what stands in a block
locals_in : (items : List Direct) → Lists (λ number. Contains items (OfLocal number))
locals_in [] = no_list _ (λ number there. contains_none (OfLocal number) there)
locals_in (first ∷ items) = by_first first (locals_in items)
  where
    skipped : (first : Direct) → ((number : ℕ) → first ≡ OfLocal number → ⊥) → Lists (λ number. Contains items (OfLocal number)) → Lists (λ number. Contains (first ∷ items) (OfLocal number))
    skipped first other rest = same_list _ _ (λ number. (
      λ there. contains_later first (OfLocal number) items there,
      λ there. ⊎_elim (λ same. absurd (other number same)) (λ later. later) (contains_cases first (OfLocal number) items there),
    )) rest

    by_first : (first : Direct) → Lists (λ number. Contains items (OfLocal number)) → Lists (λ number. Contains (first ∷ items) (OfLocal number))
    by_first (OfSlot slot) rest = skipped (OfSlot slot) (λ number same. cc) rest
    by_first (OfItem item) rest = skipped (OfItem item) (λ number same. cc) rest
    by_first (OfBranch guard then otherwise) rest = skipped (OfBranch guard then otherwise) (λ number same. cc) rest
    by_first (OfLocal local) rest = same_list _ _ (λ number. (λ which. forth number which, λ there. back number there)) (either_list _ _ (one_list local) rest)
      where
        forth : (number : ℕ) → (local ≡ number) ⊎ Contains items (OfLocal number) → Contains (OfLocal local ∷ items) (OfLocal number)
        forth number (inl same) = subst (λ (n : ℕ). Contains (OfLocal local ∷ items) (OfLocal n)) same (contains_head (OfLocal local) items)
        forth number (inr later) = contains_later (OfLocal local) (OfLocal number) items later

        local_is : (a b : ℕ) → OfLocal a ≡ OfLocal b → a ≡ b
        local_is a b same = cc

        back : (number : ℕ) → Contains (OfLocal local ∷ items) (OfLocal number) → (local ≡ number) ⊎ Contains items (OfLocal number)
        back number there = ⊎_elim (λ same. inl (local_is local number same)) (λ later. inr later) (contains_cases (OfLocal local) (OfLocal number) items there)

-- ---- names

-- the model has what is open, and what has a line
module _ (model : Model) (state : State) (are_tokens : (token : TokenName) → Contains state.tokens token → (slot : Slot) × HasToken model token slot)
    (are_blocks : (block : TokenBlock) → Contains state.blocks block → (entries : Entries) × IsBlock model block entries) where
  globals_listed : Lists (λ (name : VarName). (number : ℕ) × (Contains (below_list (length model.problem.globals)).list number × (Global number ≡ name)))
  globals_listed = each_list (λ number name. Global number ≡ name) (below_list (length model.problem.globals)).list (λ number there. one_list (Global number))

  abbrev IsPartName : TokenName → VarName → Type 0
  IsPartName token name = (part : Part) × (((base : Base) × HasBase model (Token token part) base) × (Token token part ≡ name))

  token_listed : (token : TokenName) → Contains state.tokens token → Lists (IsPartName token)
  token_listed token there =
      let of = are_tokens token there in
      let parts = parts_listed model of.0 in
      same_list _ _ (λ name. (
        λ found. (found.0, (let base = (parts.are found.0).0 found.1.0 in (base.0, (of.0, of.1, base.1)), found.1.1)),
        λ found. (
          found.0,
          (
            (parts.are found.0).1
                (let base = found.1.0 in
                let slots = token_once model token base.1.0 of.0 base.1.1 of.1 in
                (base.0, subst (λ (s : Slot). HasPartBase model s found.0 base.0) slots base.1.2)),
            found.1.1,
          ),
        ),
      )) (each_list (λ part name. Token token part ≡ name) parts.list (λ part there. one_list (Token token part)))

  abbrev IsLocalName : TokenBlock → VarName → Type 0
  IsLocalName block name = (number : ℕ) × (((entries : Entries) × (IsBlock model block entries × Contains (direct entries) (OfLocal number))) × (Local block.token block.rule number ≡ name))

  block_listed : (block : TokenBlock) → Contains state.blocks block → Lists (IsLocalName block)
  block_listed block there =
      let of = are_blocks block there in
      let locals = locals_in (direct of.0) in
      same_list _ _ (λ name. (
        λ found. (found.0, ((of.0, (of.1, (locals.are found.0).0 found.1.0)), found.1.1)),
        λ found. (
          found.0,
          (
            (locals.are found.0).1
                (let has = found.1.0 in
                let same = block_once model _ _ block has.0 of.0 has.1.0 of.1 in
                subst (λ (e : Entries). Contains (direct e) (OfLocal found.0)) same has.1.1),
            found.1.1,
          ),
        ),
      )) (each_list (λ number name. Local block.token block.rule number ≡ name) locals.list (λ number there. one_list (Local block.token block.rule number)))

  -- one after another
  abbrev IsOneOf : VarName → Type 0
  IsOneOf name =
      ((number : ℕ) × (Contains (below_list (length model.problem.globals)).list number × (Global number ≡ name)))
      ⊎ (((token : TokenName) × (Contains state.tokens token × IsPartName token name))
      ⊎ ((block : TokenBlock) × (Contains state.blocks block × IsLocalName block name)))

  about : (name : VarName) → IsOneOf name → IsAbout model state name
  about name (inl (number, (there, same))) = subst (IsAbout model state) same (((below_list (length model.problem.globals)).are number).0 there)
  about name (inr (inl (token, (there, (part, (base, same)))))) = subst (IsAbout model state) same (there, base)
  about name (inr (inr (block, (there, (number, ((entries, (is, stands)), same)))))) = subst (IsAbout model state) same (record {
    block = block;
    is_open = there;
    of_token = refl;
    of_rule = refl;
    entries = entries;
    is_block = is;
    stands = stands;
  })

  one_of : (name : VarName) → IsAbout model state name → IsOneOf name
  one_of (Global number) is = inl (number, (((below_list (length model.problem.globals)).are number).1 is, refl))
  one_of (Token token part) is = inr (inl (token, (is.0, (part, (is.1, refl)))))
  one_of (Local token rule number) stands = inr (inr (
    stands.block,
    (
      stands.is_open,
      (number, ((stands.entries, (stands.is_block, stands.stands)), (λ i. Local (stands.of_token i) (stands.of_rule i) number))),
    ),
  ))

  -- the variables that the state is about
  pub names_listed : Lists (IsAbout model state)
  names_listed = same_list _ _ (λ name. (λ is. about name is, λ is. one_of name is))
      (either_list _ _ globals_listed (either_list _ _ (each_list IsPartName state.tokens token_listed) (each_list IsLocalName state.blocks block_listed)))
