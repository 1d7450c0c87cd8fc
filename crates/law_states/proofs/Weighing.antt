-- A state that lies above another is that one, or it weighs less: it has fewer things, or larger domains.
use Rattle.std.proofs.Common.{◌≡◌, ℕ, ◌+◌, ◌-◌, ◌<◌, ◌≤◌, ◌⊎◌, inl, inr, ⊎_elim, List, [], ◌∷◌, refl, sym, ap, ◌∙◌, subst, arith}
use Rattle.std.specs.Prelude.{AllPairs, Contains}
use Rattle.std.proofs.lemmas.Bool.{cases_lt}
use Rattle.std.proofs.lemmas.Int.{ints}
use Rattle.domain_core.specs.Domain.{Domain, Range, Set, IsDomain, IsWithin, slack}
use Rattle.domain_core.proofs.Words.{IsWithin-refl, slack_within, same_slack}
use Rattle.eu_name.specs.declared.name.TokenName.{TokenName}
use Rattle.eu_name.specs.declared.name.VarName.{VarName}
use Rattle.eu_name.specs.NameOrder.{IsTokenBefore, IsVarBefore}
use Rattle.eu_name.proofs.Ordered.{contains_head, contains_later, contains_cases, contains_none, ordered_head, ordered_tail}
use Rattle.eu_name.proofs.Orders.{token_order, var_order}
use Rattle.model_core.specs.declared.model.Model.{Model}
use Rattle.model_core.specs.Blocks.{TokenBlock, IsBlockBefore}
use Rattle.model_core.specs.State.{State, VarDomain, Gives, IsState, IsBelow}
use Rattle.plan_defs.proofs.BlockOrder.{block_irreflexive, block_transitive}
use Rattle.plan_defs.proofs.States.{gives_domain}

-- ---- numbers

positive : (a b : ℕ) → 0 < a → 0 < a + b
positive a b some = omega (arith, some)

no_more_both : (a b c d : ℕ) → a ≤ c → b ≤ d → a + b ≤ c + d
no_more_both a b c d first second = omega (arith, first, second)

less_first : (a b c d : ℕ) → a < c → b ≤ d → a + b < c + d
less_first a b c d first second = omega (arith, first, second)

less_second : (a b c d : ℕ) → a ≤ c → b < d → a + b < c + d
less_second a b c d first second = omega (arith, first, second)

less_more : (a b c : ℕ) → 0 < a → b ≤ c → b < a + c
less_more a b c some few = omega (arith, some, few)

less_is_no_more : (a b : ℕ) → a < b → a ≤ b
less_is_no_more a b less = omega (arith, less)

-- ---- lists

-- what the items weigh together
abbrev pub total : {X : Type 0} → (X → ℕ) → List X → ℕ
total weight [] = 0
total weight (x ∷ xs) = weight x + total weight xs

-- Two lists in the order of their keys, where each item of the first stands for one of the second with the same key: the first weighs
-- less, or each item of the second is stood for.
module _ {X K : Type 0} (key : X → K) (before : K → K → Type 0) (irreflexive : (k : K) → before k k → ⊥)
    (transitive : (a b c : K) → before a b → before b c → before a c) (weight : X → ℕ) (some : (x : X) → 0 < weight x)
    (Stands Back : X → X → Type 0) (same_key : (x y : X) → Stands x y → key x ≡ key y)
    (turned : (x y : X) → Stands x y → (Back x y × (weight x ≤ weight y)) ⊎ (weight x < weight y)) where
  abbrev by_key : X → X → Type 0
  by_key one later = before (key one) (key later)

  record IsWhole (xs ys : List X) : Type 0 where
    back : (y : X) → Contains ys y → (x : X) × (Contains xs x × Back x y)
    no_more : total weight xs ≤ total weight ys

  abbrev AllStand : List X → List X → Type 0
  AllStand xs ys = (x : X) → Contains xs x → (y : X) × (Contains ys y × Stands x y)

  -- behind two items of one key the others stand for others
  behind : (x y : X) (xs ys : List X) → AllPairs by_key (x ∷ xs) → key x ≡ key y → AllStand (x ∷ xs) (y ∷ ys) → AllStand xs ys
  behind x y xs ys order same all item there = by_place (all item (contains_later x item xs there))
    where
      by_place : (found : (z : X) × (Contains (y ∷ ys) z × Stands item z)) → (z : X) × (Contains ys z × Stands item z)
      by_place found = elim (contains_cases y found.0 ys found.1.0) [
        | inl first ↦
            let path : key x ≡ key item = same ∙ ap key first ∙ sym (same_key item found.0 found.1.1) in
            absurd (irreflexive (key x) (subst (before (key x)) (sym path) (ordered_head by_key x xs order item there)))
        | inr later ↦ (found.0, (later, found.1.1))
      ]

  -- where the first item stands for a later one, all do
  deeper : (x y : X) (xs ys : List X) → AllPairs by_key (x ∷ xs) → AllPairs by_key (y ∷ ys) → (other : X) → Contains ys other → Stands x other
      → AllStand (x ∷ xs) (y ∷ ys) → AllStand (x ∷ xs) ys
  deeper x y xs ys order lower other there stands all item at = by_place (all item at)
    where
      above : before (key y) (key x)
      above = subst (before (key y)) (sym (same_key x other stands)) (ordered_head by_key y ys lower other there)

      not_first : key item ≡ key y → ⊥
      not_first same = ⊎_elim
          (λ first. irreflexive (key x) (subst (λ k. before k (key x)) (sym same ∙ sym (ap key first)) above))
          (λ later. irreflexive (key x) (transitive (key x) (key y) (key x) (subst (before (key x)) same (ordered_head by_key x xs order item later)) above))
          (contains_cases x item xs at)

      by_place : (found : (z : X) × (Contains (y ∷ ys) z × Stands item z)) → (z : X) × (Contains ys z × Stands item z)
      by_place found = elim (contains_cases y found.0 ys found.1.0) [
        | inl first ↦ absurd (not_first (same_key item found.0 found.1.1 ∙ sym (ap key first)))
        | inr later ↦ (found.0, (later, found.1.1))
      ]

  both : (x y : X) (xs ys : List X) → (Back x y × (weight x ≤ weight y)) ⊎ (weight x < weight y) → IsWhole xs ys ⊎ (total weight xs < total weight ys)
      → IsWhole (x ∷ xs) (y ∷ ys) ⊎ (total weight (x ∷ xs) < total weight (y ∷ ys))
  both x y xs ys (inl is) (inl rest) = inl (record {
    back = λ other there. elim (contains_cases y other ys there) [
      | inl same ↦ (x, (contains_head x xs, subst (Back x) same is.0))
      | inr later ↦ let found = rest.back other later in (found.0, (contains_later x found.0 xs found.1.0, found.1.1))
    ];
    no_more = no_more_both (weight x) (total weight xs) (weight y) (total weight ys) is.1 rest.no_more;
  })
  both x y xs ys (inl is) (inr less) = inr (less_second (weight x) (total weight xs) (weight y) (total weight ys) is.1 less)
  both x y xs ys (inr less) (inl rest) = inr (less_first (weight x) (total weight xs) (weight y) (total weight ys) less rest.no_more)
  both x y xs ys (inr less) (inr more) =
      inr (less_first (weight x) (total weight xs) (weight y) (total weight ys) less (less_is_no_more (total weight xs) (total weight ys) more))

  further : (y : X) (xs ys : List X) → IsWhole xs ys ⊎ (total weight xs < total weight ys)
      → IsWhole xs (y ∷ ys) ⊎ (total weight xs < total weight (y ∷ ys))
  further y xs ys (inl rest) = inr (less_more (weight y) (total weight xs) (total weight ys) (some y) rest.no_more)
  further y xs ys (inr less) =
      inr (less_more (weight y) (total weight xs) (total weight ys) (some y) (less_is_no_more (total weight xs) (total weight ys) less))

  whole_or_less : (xs ys : List X) → AllPairs by_key xs → AllPairs by_key ys → AllStand xs ys → IsWhole xs ys ⊎ (total weight xs < total weight ys)
  whole_or_less [] [] p q all = inl (record { back = λ y there. absurd (contains_none y there); no_more = omega arith })
  whole_or_less [] (y ∷ ys) p q all = inr (positive (weight y) (total weight ys) (some y))
  whole_or_less (x ∷ xs) [] p q all = let found = all x (contains_head x xs) in absurd (contains_none found.0 found.1.0)
  whole_or_less (x ∷ xs) (y ∷ ys) p q all =
      let found = all x (contains_head x xs) in
      ⊎_elim
      (λ first.
      let stands : Stands x y = subst (Stands x) (sym first) found.1.1 in
      both x y xs ys (turned x y stands)
      (whole_or_less xs ys (ordered_tail by_key x xs p) (ordered_tail by_key y ys q) (behind x y xs ys p (same_key x y stands) all)))
      (λ later. further y (x ∷ xs) ys
      (whole_or_less (x ∷ xs) ys p (ordered_tail by_key y ys q) (deeper x y xs ys p q found.0 later found.1.1 all)))
      (contains_cases y found.0 ys found.1.0)

  -- the first weighs no more
  record IsWeighed (xs ys : List X) : Type 0 where
    no_more : total weight xs ≤ total weight ys
    which : ((y : X) → Contains ys y → (x : X) × (Contains xs x × Back x y)) ⊎ (total weight xs < total weight ys)

  weighed_as : (xs ys : List X) → IsWhole xs ys ⊎ (total weight xs < total weight ys) → IsWeighed xs ys
  weighed_as xs ys (inl is) = record { no_more = is.no_more; which = inl is.back }
  weighed_as xs ys (inr less) = record { no_more = less_is_no_more (total weight xs) (total weight ys) less; which = inr less }

  weighed : (xs ys : List X) → AllPairs by_key xs → AllPairs by_key ys → AllStand xs ys → IsWeighed xs ys
  weighed xs ys p q all = weighed_as xs ys (whole_or_less xs ys p q all)

-- ---- things that weigh one each

abbrev one_each : {X : Type 0} → X → ℕ
one_each x = 1

module _ {X : Type 0} (before : X → X → Type 0) (irreflexive : (x : X) → before x x → ⊥)
    (transitive : (a b c : X) → before a b → before b c → before a c) where
  record AllOrFewer (xs ys : List X) : Type 0 where
    no_more : total one_each xs ≤ total one_each ys
    which : ((y : X) → Contains ys y → Contains xs y) ⊎ (total one_each xs < total one_each ys)

  turn_one : (x y : X) → x ≡ y → ((x ≡ y) × (one_each x ≤ one_each y)) ⊎ (one_each x < one_each y)
  turn_one x y same = inl (same, omega arith)

  all_or_fewer : (xs ys : List X) → AllPairs before xs → AllPairs before ys → ((x : X) → Contains xs x → Contains ys x) → AllOrFewer xs ys
  all_or_fewer xs ys p q within =
      let is = weighed (λ (x : X). x) before irreflexive transitive one_each (λ x. omega arith) (λ (x y : X). x ≡ y) (λ (x y : X). x ≡ y) (λ x y same. same) turn_one xs ys p q
      (λ x there. (x, (within x there, refl))) in
      record {
        no_more = is.no_more;
        which = elim is.which [
          | inl whole ↦ inl (λ y there. let found = whole y there in subst (λ (z : X). Contains xs z) found.1.1 found.1.0)
          | inr less ↦ inr less
        ];
      }

-- ---- variables

-- what a domain lacks of the slack that one may have
abbrev pub lack : VarDomain → ℕ
lack entry = (2000000 - slack entry.domain) + 1

few_slack : (domain : Domain) → IsDomain domain → slack domain ≤ 2000000
few_slack (Range low high) ok =
    let from = ok.0.0 in
    let to = ok.1.1 in
    omega (arith, ints, from, to)
few_slack (Set members) ok = let few = ok.few in omega (arith, few)

-- the entry of the higher state has the variable of the lower one, with a domain that has that of the lower one
record Wider (high low : VarDomain) : Type 0 where
  same : high.name ≡ low.name
  high_ok : IsDomain high.domain
  low_ok : IsDomain low.domain
  within : IsWithin low.domain high.domain

record Narrower (high low : VarDomain) : Type 0 where
  same : high.name ≡ low.name
  within : IsWithin high.domain low.domain

lacks_less : (a b : ℕ) → a < b → b ≤ 2000000 → (2000000 - b) + 1 < (2000000 - a) + 1
lacks_less a b less few = omega (arith, less, few)

lacks_no_more : (a b : ℕ) → a ≤ b → (2000000 - b) + 1 ≤ (2000000 - a) + 1
lacks_no_more a b less = omega (arith, less)

turn_domain : (high low : VarDomain) → Wider high low → (Narrower high low × (lack high ≤ lack low)) ⊎ (lack high < lack low)
turn_domain high low is = elim (cases_lt (slack low.domain) (slack high.domain)) [
  | inl less ↦ inr (lacks_less (slack low.domain) (slack high.domain) less (few_slack high.domain is.high_ok))
  | inr not ↦
      let few : slack high.domain ≤ slack low.domain = omega (arith, not) in
      let domains : low.domain ≡ high.domain = same_slack low.domain high.domain is.low_ok is.high_ok is.within few in
      inl (
        record { same = is.same; within = subst (λ (d : Domain). IsWithin d low.domain) domains (IsWithin-refl low.domain) },
        lacks_no_more (slack low.domain) (slack high.domain) (slack_within low.domain high.domain is.low_ok is.high_ok is.within),
      )
]

-- ---- states

-- what a state weighs
abbrev pub weight_of : State → ℕ
weight_of state = total one_each state.tokens + (total one_each state.blocks + total lack state.entries)

sum_less : (a b c d e f : ℕ) → a ≤ d → b ≤ e → c ≤ f → (a < d) ⊎ ((b < e) ⊎ (c < f)) → a + (b + c) < d + (e + f)
sum_less a b c d e f p q r (inl less) = omega (arith, less, q, r)
sum_less a b c d e f p q r (inr (inl less)) = omega (arith, p, less, r)
sum_less a b c d e f p q r (inr (inr less)) = omega (arith, p, q, less)

module _ (model : Model) (high low : State) (high_ok : IsState model high) (low_ok : IsState model low) (below : IsBelow high low) where
  wider : (entry : VarDomain) → Contains high.entries entry → (other : VarDomain) × (Contains low.entries other × Wider entry other)
  wider entry there =
      let found = below.variables entry.name entry.domain there in (
        record { name = entry.name; domain = found.0 },
        (
          found.1,
          record {
            same = refl;
            high_ok = gives_domain model high high_ok entry.name entry.domain there;
            low_ok = gives_domain model low low_ok entry.name found.0 found.1;
            within = found.2;
          },
        ),
      )

  record AllOrWider : Type 0 where
    no_more : total lack high.entries ≤ total lack low.entries
    which : ((entry : VarDomain) → Contains low.entries entry → (other : VarDomain) × (Contains high.entries other × Narrower other entry))
        ⊎ (total lack high.entries < total lack low.entries)

  entries : AllOrWider
  entries =
      let is = weighed (λ (e : VarDomain). e.name) IsVarBefore var_order.irreflexive var_order.transitive lack (λ e. omega arith) Wider Narrower (λ x y is. is.same) turn_domain
      high.entries low.entries high_ok.order.entries low_ok.order.entries wider in
      record { no_more = is.no_more; which = is.which }

  -- it is the lower one, or it weighs less
  pub same_or_lighter : IsBelow low high ⊎ (weight_of high < weight_of low)
  same_or_lighter = by_cases tokens.which blocks.which entries.which
    where
      tokens : AllOrFewer IsTokenBefore token_order.irreflexive token_order.transitive high.tokens low.tokens
      tokens = all_or_fewer IsTokenBefore token_order.irreflexive token_order.transitive high.tokens low.tokens high_ok.order.tokens low_ok.order.tokens below.tokens

      blocks : AllOrFewer IsBlockBefore block_irreflexive block_transitive high.blocks low.blocks
      blocks = all_or_fewer IsBlockBefore block_irreflexive block_transitive high.blocks low.blocks high_ok.order.blocks low_ok.order.blocks below.blocks

      less : (total one_each high.tokens < total one_each low.tokens) ⊎ ((total one_each high.blocks < total one_each low.blocks) ⊎ (total lack high.entries < total lack low.entries))
          → weight_of high < weight_of low
      less = sum_less (total one_each high.tokens) (total one_each high.blocks) (total lack high.entries)
          (total one_each low.tokens) (total one_each low.blocks) (total lack low.entries) tokens.no_more blocks.no_more entries.no_more

      variables : ((entry : VarDomain) → Contains low.entries entry → (other : VarDomain) × (Contains high.entries other × Narrower other entry))
          → (name : VarName) (domain : Domain) → Gives low name domain → (smaller : Domain) × Gives high name smaller × IsWithin smaller domain
      variables all name domain gives =
          let found = all (record { name = name; domain = domain }) gives in
          (found.0.domain, subst (λ (n : VarName). Gives high n found.0.domain) found.1.1.same found.1.0, found.1.1.within)

      by_cases : ((token : TokenName) → Contains low.tokens token → Contains high.tokens token) ⊎ (total one_each high.tokens < total one_each low.tokens)
          → ((block : TokenBlock) → Contains low.blocks block → Contains high.blocks block) ⊎ (total one_each high.blocks < total one_each low.blocks)
          → ((entry : VarDomain) → Contains low.entries entry → (other : VarDomain) × (Contains high.entries other × Narrower other entry))
          ⊎ (total lack high.entries < total lack low.entries)
          → IsBelow low high ⊎ (weight_of high < weight_of low)
      by_cases (inr fewer) b e = inr (less (inl fewer))
      by_cases (inl t) (inr fewer) e = inr (less (inr (inl fewer)))
      by_cases (inl t) (inl b) (inr larger) = inr (less (inr (inr larger)))
      by_cases (inl t) (inl b) (inl e) = inl (record { tokens = t; blocks = b; variables = variables e })
