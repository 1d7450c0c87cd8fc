-- Whether a guard opens a block, and whether a block is open, can be told where it can be told who is taken and who is
-- activated, and what each variable may be.
use Rattle.std.proofs.Common.{◌≡◌, ℕ, ◌+◌, ◌-◌, inl, inr, ⊎_elim, ℤ, pos, negsuc, ◌+ℤ◌, List, [], ◌∷◌, Option, Some, None, refl, sym, ap, ◌∙◌, subst, arith}
use Rattle.std.specs.Prelude.{Contains, slice_get}
use Rattle.std.proofs.lemmas.Bool.{cases_eq}
use Rattle.std.proofs.lemmas.Int.{ints}
use borrow.Author.Differences.{up, down}
use Rattle.domain_core.specs.Domain.{Domain, Range, Set, Has}
use Rattle.eu_name.specs.declared.name.TokenName.{TokenName}
use Rattle.eu_name.specs.declared.name.VarName.{VarName}
use Rattle.eu_name.specs.declared.name.VarName.TheVariants as names
use Rattle.model_core.specs.declared.class.Pred.{Pred}
use Rattle.model_core.specs.declared.item.Term.{Term}
use Rattle.model_core.specs.declared.item.Term.TheVariants.{Lit, Here, Slot, Local, Global, Root}
use Rattle.model_core.specs.declared.model.Model.{Model}
use Rattle.model_core.specs.declared.rule.Guard.{Guard}
use Rattle.model_core.specs.declared.rule.Guard.TheVariants.{Equal, Differ}
use Rattle.model_core.specs.declared.rule.Rule.{Rule}
use Rattle.model_core.specs.declared.rule.Side.{Side}
use Rattle.model_core.specs.declared.rule.Side.TheVariants.{Then, Otherwise}
use Rattle.model_core.specs.declared.rule.Slot as the_slot
use Rattle.model_core.specs.declared.rule.Turn.{Turn}
use Rattle.model_core.specs.Blocks.{TokenBlock, Direct, OfSlot, OfLocal, OfItem, OfBranch, Follows, chosen, direct}
use Rattle.model_core.specs.Entries.{Entries}
use Rattle.model_core.specs.Lawful.{IsToken}
use Rattle.model_core.specs.Tokens.{HasRule, IsRejectable, root_token, slot_token}
use Rattle.model_core.proofs.Leading.{token_once}
use Rattle.model_core.proofs.Rules.{has_rule_once}
use Rattle.plan_defs.specs.Situations.{Situation}
use Rattle.plan_defs.specs.Support.{MayBe, Opens, IsOpen, Selects, one_side, other_side}
use Rattle.plan_defs.specs.Terms.{InRule, Argument, Value, Variable, Means, HasDomain, BelongsTo, Counts, ArgumentCounts}
use Rattle.eu_name.proofs.Ordered.{contains_head, contains_later, contains_cases, contains_none}
use Rattle.plan_defs.proofs.Counting.{rejectable_or_not}
use Rattle.plan_defs.proofs.Meanings.{means_once}
use Rattle.plan_defs.proofs.Knowing.{IsOrNot}
use Rattle.law_states.proofs.Lists.{Lists, one_list, each_list, same_list, below_list}

-- ---- guards

same_number : (v w : ℤ) → IsOrNot (v ≡ w)
same_number (pos m) (pos n) = elim (cases_eq m n) [
  | inl same ↦ inl (ap pos same)
  | inr differ ↦ inr (λ same. differ (by_pos m n same))
]
  where
    by_pos : (m n : ℕ) → pos m ≡ pos n → m ≡ n
    by_pos m n same = cc
same_number (pos m) (negsuc n) = inr (λ same. cc)
same_number (negsuc m) (pos n) = inr (λ same. cc)
same_number (negsuc m) (negsuc n) = elim (cases_eq m n) [
  | inl same ↦ inl (ap negsuc same)
  | inr differ ↦ inr (λ same. differ (by_negsuc m n same))
]
  where
    by_negsuc : (m n : ℕ) → negsuc m ≡ negsuc n → m ≡ n
    by_negsuc m n same = cc

selects_or_not : (guard : Guard) (side : Side) (v w : ℤ) → IsOrNot (Selects guard side v w)
selects_or_not (Equal one other) Then v w = same_number v w
selects_or_not (Equal one other) Otherwise v w = ⊎_elim (λ same. inr (λ differ. differ same)) (λ differ. inl differ) (same_number v w)
selects_or_not (Differ one other) Then v w = ⊎_elim (λ same. inr (λ differ. differ same)) (λ differ. inl differ) (same_number v w)
selects_or_not (Differ one other) Otherwise v w = same_number v w

-- ---- values

-- the values of a domain
range_list : (lo hi : ℤ) → Lists (Has (Range lo hi))
range_list lo hi = same_list _ _ (λ value. (λ found. back value found, λ has. forth value has))
    (each_list (λ (step : ℕ) (value : ℤ). (lo +ℤ pos step) ≡ value) (below_list ((up hi + down lo + 1) - (up lo + down hi))).list (λ step there. one_list (lo +ℤ pos step)))
  where
    back : (value : ℤ) → (step : ℕ) × (Contains (below_list ((up hi + down lo + 1) - (up lo + down hi))).list step × ((lo +ℤ pos step) ≡ value)) → Has (Range lo hi) value
    back value (step, (there, same)) =
        let less = ((below_list ((up hi + down lo + 1) - (up lo + down hi))).are step).0 there in
        (omega (arith, ints, same), omega (arith, ints, same, less))

    forth : (value : ℤ) → Has (Range lo hi) value → (step : ℕ) × (Contains (below_list ((up hi + down lo + 1) - (up lo + down hi))).list step × ((lo +ℤ pos step) ≡ value))
    forth value has = (
      (up value + down lo) - (up lo + down value),
      (((below_list ((up hi + down lo + 1) - (up lo + down hi))).are _).1 (omega (arith, ints, has.0, has.1)), omega (arith, ints, has.0)),
    )

domain_list : (domain : Domain) → Lists (Has domain)
domain_list (Range lo hi) = range_list lo hi
domain_list (Set members) = record { list = members; are = λ value. (λ there. there, λ there. there) }

-- whether it is so of all
all_or_not : {X : Type 0} (P : X → Type 0) → ((x : X) → IsOrNot (P x)) → (xs : List X) → IsOrNot ((x : X) → Contains xs x → P x)
all_or_not P decide [] = inl (λ x there. absurd (contains_none x there))
all_or_not P decide (first ∷ xs) = elim (decide first) [
  | inr not ↦ inr (λ all. not (all first (contains_head first xs)))
  | inl is ↦ elim (all_or_not P decide xs) [
    | inl rest ↦ inl (λ x there. ⊎_elim (λ same. subst P same is) (λ later. rest x later) (contains_cases first x xs there))
    | inr not ↦ inr (λ all. not (λ x there. all x (contains_later first x xs there)))
  ]
]

-- whether a guard selects a side whatever is chosen
always_or_not : (guard : Guard) (side : Side) (one other : Domain) → IsOrNot ((v w : ℤ) → Has one v → Has other w → Selects guard side v w)
always_or_not guard side one other =
    let ones = domain_list one in
    let others = domain_list other in
    elim (all_or_not (λ v. (w : ℤ) → Contains others.list w → Selects guard side v w) (λ v. all_or_not (λ w. Selects guard side v w) (λ w. selects_or_not guard side v w) others.list) ones.list) [
      | inl all ↦ inl (λ v w has_v has_w. all v ((ones.are v).1 has_v) w ((others.are w).1 has_w))
      | inr not ↦ inr (λ all. not (λ v in_ones w in_others. all v w ((ones.are v).0 in_ones) ((others.are w).0 in_others)))
    ]

-- ---- what can be told of a situation

-- of each token whether it is taken, and activated, and of each variable what it may be
pub record CanTell (situation : Situation) : Type 0 where
  pub taken : (token : TokenName) → IsOrNot (situation.taken token)
  pub activated : (token : TokenName) → IsOrNot (situation.activated token)
  pub gives : (name : VarName) → IsOrNot ((domain : Domain) × situation.gives name domain)
  pub once : (name : VarName) (one other : Domain) → situation.gives name one → situation.gives name other → one ≡ other

chosen_same : (side : Side) (a b x y : Entries) → a ≡ x → b ≡ y → chosen side a b ≡ chosen side x y
chosen_same side a b x y p q = λ i. chosen side (p i) (q i)

branch_same : (g h : Guard) (a b x y : Entries) → Some (OfBranch g a b) ≡ Some (OfBranch h x y) → (g ≡ h) × ((a ≡ x) × (b ≡ y))
branch_same g h a b x y e = (one g h a b x y e, (two g h a b x y e, three g h a b x y e))
  where
    one : (g h : Guard) (a b x y : Entries) → Some (OfBranch g a b) ≡ Some (OfBranch h x y) → g ≡ h
    one g h a b x y e = cc

    two : (g h : Guard) (a b x y : Entries) → Some (OfBranch g a b) ≡ Some (OfBranch h x y) → a ≡ x
    two g h a b x y e = cc

    three : (g h : Guard) (a b x y : Entries) → Some (OfBranch g a b) ≡ Some (OfBranch h x y) → b ≡ y
    three g h a b x y e = cc

branch_of : (entries : Entries) (place : ℕ) → IsOrNot ((guard : Guard) × ((then otherwise : Entries) × (slice_get (direct entries) place ≡ Some (OfBranch guard then otherwise))))
branch_of entries place = by_found (slice_get (direct entries) place) refl
  where
    differs : (what : Direct) (guard : Guard) (then otherwise : Entries) → slice_get (direct entries) place ≡ Some what → slice_get (direct entries) place ≡ Some (OfBranch guard then otherwise)
        → what ≡ OfBranch guard then otherwise
    differs what guard then otherwise e f = one_direct what (OfBranch guard then otherwise) (sym e ∙ f)
      where
        one_direct : (a b : Direct) → Some a ≡ Some b → a ≡ b
        one_direct a b same = cc

    by_found : (found : Option Direct) → slice_get (direct entries) place ≡ found
        → IsOrNot ((guard : Guard) × ((then otherwise : Entries) × (slice_get (direct entries) place ≡ Some (OfBranch guard then otherwise))))
    by_found None e = inr (λ is. no_direct _ (sym e ∙ is.1.2))
      where
        no_direct : (what : Direct) → None ≡ Some what → ⊥
        no_direct what same = cc
    by_found (Some (OfBranch guard then otherwise)) e = inl (guard, (then, otherwise, e))
    by_found (Some (OfSlot slot)) e = inr (λ is. let same = differs (OfSlot slot) is.0 is.1.0 is.1.1 e is.1.2 in absurd (cc))
    by_found (Some (OfLocal number)) e = inr (λ is. let same = differs (OfLocal number) is.0 is.1.0 is.1.1 e is.1.2 in absurd (cc))
    by_found (Some (OfItem item)) e = inr (λ is. let same = differs (OfItem item) is.0 is.1.0 is.1.1 e is.1.2 in absurd (cc))

rule_or_not : (model : Model) (pred number : ℕ) → IsOrNot ((rule : Rule) × HasRule model pred number rule)
rule_or_not model pred number = by_pred (slice_get model.preds pred) refl
  where
    no_pred : (found : Pred) → None ≡ Some found → ⊥
    no_pred found same = cc

    no_place : (place : ℕ) → None ≡ Some place → ⊥
    no_place place same = cc

    no_rule : (rule : Rule) → None ≡ Some rule → ⊥
    no_rule rule same = cc

    same_pred : (a b : Pred) → Some a ≡ Some b → a ≡ b
    same_pred a b same = cc

    same_place : (a b : ℕ) → Some a ≡ Some b → a ≡ b
    same_place a b same = cc

    by_rule : (predicate : Pred) (place : ℕ) → slice_get model.preds pred ≡ Some predicate → slice_get predicate.rules number ≡ Some place
        → (found : Option Rule) → slice_get model.rules place ≡ found → IsOrNot ((rule : Rule) × HasRule model pred number rule)
    by_rule predicate place is listed (Some rule) e = inl (rule, record { predicate = predicate; place = place; is_predicate = is; listed = listed; is_rule = e })
    by_rule predicate place is listed None e = inr (λ some.
        let preds = same_pred some.1.predicate predicate (sym some.1.is_predicate ∙ is) in
        let places = same_place some.1.place place (sym some.1.listed ∙ ap (λ (p : Pred). slice_get p.rules number) preds ∙ listed) in
        no_rule some.0 (sym e ∙ ap (λ n. slice_get model.rules n) (sym places) ∙ some.1.is_rule))

    by_place : (predicate : Pred) → slice_get model.preds pred ≡ Some predicate → (found : Option ℕ) → slice_get predicate.rules number ≡ found
        → IsOrNot ((rule : Rule) × HasRule model pred number rule)
    by_place predicate is (Some place) e = by_rule predicate place is e (slice_get model.rules place) refl
    by_place predicate is None e = inr (λ some.
        let preds = same_pred some.1.predicate predicate (sym some.1.is_predicate ∙ is) in
        no_place some.1.place (sym e ∙ ap (λ (p : Pred). slice_get p.rules number) (sym preds) ∙ some.1.listed))

    by_pred : (found : Option Pred) → slice_get model.preds pred ≡ found → IsOrNot ((rule : Rule) × HasRule model pred number rule)
    by_pred (Some predicate) e = by_place predicate e (slice_get predicate.rules number) refl
    by_pred None e = inr (λ some. no_pred some.1.predicate (sym e ∙ some.1.is_predicate))

module _ (model : Model) (situation : Situation) (tell : CanTell situation) where
  -- ---- terms

  owner_counts : (name : VarName) (token : TokenName) → ((other : TokenName) → BelongsTo name other → token ≡ other) → BelongsTo name token → IsOrNot (Counts model situation.taken name)
  owner_counts name token only belongs = elim (rejectable_or_not model token) [
    | inr not ↦ inl (λ other its rejectable. absurd (not (subst (IsRejectable model) (sym (only other its)) rejectable)))
    | inl rejectable ↦ elim (tell.taken token) [
      | inl taken ↦ inl (λ other its rejectable'. subst situation.taken (only other its) taken)
      | inr not ↦ inr (λ counts. not (counts token belongs rejectable))
    ]
  ]

  counts_or_not : (name : VarName) → IsOrNot (Counts model situation.taken name)
  counts_or_not (names.Global number) = inl (λ token belongs rejectable. absurd belongs)
  counts_or_not (names.Token token part) = owner_counts (names.Token token part) token (λ other belongs. belongs) refl
  counts_or_not (names.Local token rule number) = owner_counts (names.Local token rule number) token (λ other belongs. belongs) refl

  -- what a term in a rule may be, if it counts and is given a domain
  abbrev Known : TokenName → ℕ → Term → Type 0
  Known token rule term = (domain : Domain) × MayBe model situation (InRule token rule) term domain

  variable_or_not : (token : TokenName) (rule : ℕ) (term : Term) (name : VarName) → Means (InRule token rule) term (Variable name)
      → ((a : Argument) → Means (InRule token rule) term a → a ≡ Variable name) → IsOrNot (Known token rule term)
  variable_or_not token rule term name means only = elim (counts_or_not name) [
    | inr not ↦ inr (λ known. let may = known.1 in not (subst (ArgumentCounts model situation.taken) (only may.argument may.means) may.counts))
    | inl counts ↦ elim (tell.gives name) [
      | inl given ↦ inl (given.0, record { argument = Variable name; means = means; counts = counts; has = given.1 })
      | inr none ↦ inr (λ known. let may = known.1 in none (known.0, subst (λ (a : Argument). HasDomain situation.gives a known.0) (only may.argument may.means) may.has))
    ]
  ]

  term_or_not : (token : TokenName) (rule : ℕ) (term : Term) → IsOrNot (Known token rule term)
  term_or_not token rule (Lit value) = inl (Range value value, record { argument = Value value; means = refl; counts = tt; has = refl })
  term_or_not token rule (Here part) = variable_or_not token rule (Here part) (names.Token token part) refl (λ a means. means)
  term_or_not token rule (Slot number part) = variable_or_not token rule (Slot number part) (names.Token (slot_token token rule number) part) refl (λ a means. means)
  term_or_not token rule (Local number) = variable_or_not token rule (Local number) (names.Local token rule number) refl (λ a means. means)
  term_or_not token rule (Global number) = variable_or_not token rule (Global number) (names.Global number) refl (λ a means. means)
  term_or_not token rule (Root number part) = variable_or_not token rule (Root number part) (names.Token (root_token number) part) refl (λ a means. means)

  domain_once : (argument : Argument) (one other : Domain) → HasDomain situation.gives argument one → HasDomain situation.gives argument other → one ≡ other
  domain_once (Value value) one other p q = p ∙ sym q
  domain_once (Variable name) one other p q = tell.once name one other p q

  may_be_once : (token : TokenName) (rule : ℕ) (term : Term) (one other : Domain) → MayBe model situation (InRule token rule) term one
      → MayBe model situation (InRule token rule) term other → one ≡ other
  may_be_once token rule term one other p q =
      let same = means_once (InRule token rule) term p.argument q.argument p.means q.means in
      domain_once p.argument one other p.has (subst (λ (a : Argument). HasDomain situation.gives a other) (sym same) q.has)

  opens_or_not : (token : TokenName) (rule : ℕ) (guard : Guard) (side : Side) → IsOrNot (Opens model situation (InRule token rule) guard side)
  opens_or_not token rule guard side = elim (term_or_not token rule (one_side guard)) [
    | inr none ↦ inr (λ opens. none (opens.one, opens.is_one))
    | inl one ↦ elim (term_or_not token rule (other_side guard)) [
      | inr none ↦ inr (λ opens. none (opens.other, opens.is_other))
      | inl other ↦ elim (always_or_not guard side one.0 other.0) [
        | inl always ↦ inl (record { one = one.0; other = other.0; is_one = one.1; is_other = other.1; always = always })
        | inr not ↦ inr (λ opens.
            let first = may_be_once token rule (one_side guard) opens.one one.0 opens.is_one one.1 in
            let second = may_be_once token rule (other_side guard) opens.other other.0 opens.is_other other.1 in
            not (λ v w has_v has_w. opens.always v w (subst (λ (d : Domain). Has d v) (sym first) has_v) (subst (λ (d : Domain). Has d w) (sym second) has_w)))
      ]
    ]
  ]

  -- ---- blocks

  way_or_not : (token : TokenName) (rule : ℕ) (top : Entries) (path : List Turn) → IsOrNot ((block : Entries) × Follows (Opens model (situation) (InRule token rule)) top path block)
  way_or_not token rule top [] = inl (top, refl)
  way_or_not token rule top (turn ∷ path) = by_branch (branch_of top turn.entry) (λ sub. way_or_not token rule sub path)
    where
      Opening : Guard → Side → Type 0
      Opening = Opens model (situation) (InRule token rule)

      by_branch : IsOrNot ((guard : Guard) × ((then otherwise : Entries) × (slice_get (direct top) turn.entry ≡ Some (OfBranch guard then otherwise))))
          → ((sub : Entries) → IsOrNot ((block : Entries) × Follows (Opens model (situation) (InRule token rule)) sub path block))
          → IsOrNot ((block : Entries) × Follows (Opens model (situation) (InRule token rule)) top (turn ∷ path) block)
      by_branch (inr none) inner = inr (λ found. none (found.1.0, (found.1.1.0, found.1.1.1, found.1.1.2.0)))
      by_branch (inl branch) inner = elim (opens_or_not token rule branch.0 turn.side) [
        | inr not ↦ inr (λ found.
            let same = branch_same branch.0 found.1.0 branch.1.0 branch.1.1 found.1.1.0 found.1.1.1 (sym branch.1.2 ∙ found.1.1.2.0) in
            not (subst (λ (g : Guard). Opens model (situation) (InRule token rule) g turn.side) (sym same.0) found.1.1.2.1.0))
        | inl opens ↦ elim (inner (chosen turn.side branch.1.0 branch.1.1)) [
          | inl rest ↦ inl (rest.0, (branch.0, (branch.1.0, branch.1.1, (branch.1.2, (opens, rest.1)))))
          | inr none ↦ inr (λ found.
              let same = branch_same branch.0 found.1.0 branch.1.0 branch.1.1 found.1.1.0 found.1.1.1 (sym branch.1.2 ∙ found.1.1.2.0) in
              none (
                found.0,
                subst (λ (t : Entries). Follows (Opens model (situation) (InRule token rule)) t path found.0)
                    (sym (chosen_same turn.side branch.1.0 branch.1.1 found.1.1.0 found.1.1.1 same.1.0 same.1.1)) found.1.1.2.1.1,
              ))
        ]
      ]

  -- the entries of the block, if it is open
  pub open_or_not : (block : TokenBlock) → (situation.activated block.token → IsToken model block.token) → IsOrNot ((entries : Entries) × IsOpen model situation block entries)
  open_or_not block of_model = elim (tell.activated block.token) [
    | inr not ↦ inr (λ opened. not opened.1.activated)
    | inl activated ↦ by_token activated (of_model activated)
  ]
    where
      by_token : situation.activated block.token → IsToken model block.token → IsOrNot ((entries : Entries) × IsOpen model situation block entries)
      by_token activated of = elim (rule_or_not model of.0.pred block.rule) [
        | inr none ↦ inr (λ opened.
            let has = opened.1.has_block in
            let slots = token_once model block.token has.slot of.0 has.has_token of.1 in
            none (has.rule, subst (λ (s : the_slot.Slot). HasRule model s.pred block.rule has.rule) slots has.has_rule))
        | inl rule ↦ elim (way_or_not block.token block.rule rule.0.top block.path) [
          | inl way ↦ inl (
            way.0,
            record {
              activated = activated;
              has_block = record { slot = of.0; has_token = of.1; rule = rule.0; has_rule = rule.1; way = way.1 };
            },
          )
          | inr none ↦ inr (λ opened.
              let has = opened.1.has_block in
              let slots = token_once model block.token has.slot of.0 has.has_token of.1 in
              let rules = has_rule_once model of.0.pred block.rule has.rule rule.0 (subst (λ (s : the_slot.Slot). HasRule model s.pred block.rule has.rule) slots has.has_rule) rule.1 in
              none (opened.0, subst (λ (r : Rule). Follows (Opens model situation (InRule block.token block.rule)) r.top block.path opened.0) rules has.way))
        ]
      ]
