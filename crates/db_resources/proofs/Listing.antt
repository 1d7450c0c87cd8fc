-- What is picked from tokens in order lists the amounts that the tokens have at an instant.
use Rattle.std.proofs.Common.{◌≡◌, ℤ, pos, ◌+ℤ◌, List, [], ◌∷◌, get_or, ◌⊎◌, inl, inr, sym, ◌∙◌, ap, subst, arith}
use Rattle.std.specs.Prelude.{Contains, AllPairs}
use Rattle.std.proofs.lemmas.Int.{ints}
use Rattle.std.proofs.lemmas.List.Elements.{Contains-get_or}
use Rattle.eu_name.specs.declared.name.TokenName.{TokenName}
use Rattle.eu_name.specs.NameOrder.{IsTokenBefore}
use Rattle.eu_name.proofs.Orders.{token_order}
use Rattle.plan_defs.specs.Sums.{Amount, ListsAll, sum_of_amounts}
use Rattle.eu_name.proofs.Ordered.{contains_head, contains_later, contains_cases, contains_none, ordered_none, ordered_cons, ordered_head, ordered_tail}
use Rattle.plan_defs.proofs.Summing.{Apart, IsListed}
use Rattle.db_resources.specs.Picks.{Picks}

-- how what tokens have counts: it is something where it counts, and nothing else
pub record Counted {X : Type 0} (Has : TokenName → X → Type 0) (HasAmount : TokenName → ℤ → Type 0) (counts : X → Type 0) (whole : X → ℤ) (amount : X → ℤ) : Type 0 where
  pub once : (token : TokenName) (one other : X) → Has token one → Has token other → one ≡ other
  pub either : (thing : X) → (counts thing × (amount thing ≡ whole thing)) ⊎ ((counts thing → ⊥) × (amount thing ≡ pos 0))
  pub into : (token : TokenName) (thing : X) → Has token thing → counts thing → HasAmount token (whole thing)
  pub back : (token : TokenName) (number : ℤ) → HasAmount token number → (thing : X) × (Has token thing × counts thing × (number ≡ whole thing))

-- what is listed of these tokens, and its sum
pub record Lists (HasAmount : TokenName → ℤ → Type 0) (tokens : List TokenName) (sum : ℤ) : Type 0 where
  pub listed : List Amount
  pub once : AllPairs Apart listed
  pub have : (each : Amount) → Contains listed each → HasAmount each.token each.amount × Contains tokens each.token
  pub all : (token : TokenName) (number : ℤ) → Contains tokens token → HasAmount token number → IsListed listed token number
  pub is_sum : sum ≡ sum_of_amounts listed

module _ (HasAmount : TokenName → ℤ → Type 0) (token : TokenName) (tokens : List TokenName) (ordered : AllPairs IsTokenBefore (token ∷ tokens)) (sum : ℤ) (rest : Lists HasAmount tokens sum) where
  -- a token that has nothing
  listed_none : ((number : ℤ) → HasAmount token number → ⊥) → Lists HasAmount (token ∷ tokens) sum
  listed_none none = record {
    listed = rest.listed;
    once = rest.once;
    have = λ each c. let h = rest.have each c in (h.0, contains_later token each.token tokens h.1);
    all = λ other number c has. elim (contains_cases token other tokens c) [
      | inl same ↦ absurd (none number (subst (λ t. HasAmount t number) (sym same) has))
      | inr later ↦ rest.all other number later has
    ];
    is_sum = rest.is_sum;
  }

  -- a token that has an amount
  listed_one : (amount : ℤ) → HasAmount token amount → ((number : ℤ) → HasAmount token number → number ≡ amount) → Lists HasAmount (token ∷ tokens) (amount +ℤ sum)
  listed_one amount has only =
      let each : Amount = record { token = token; amount = amount } in
      let is_sum = rest.is_sum in
      record {
        listed = each ∷ rest.listed;
        once = ordered_cons Apart each rest.listed
            (λ other c same. token_order.irreflexive token (subst (IsTokenBefore token) (sym same) (ordered_head IsTokenBefore token tokens ordered other.token (rest.have other c).1))) rest.once;
        have = λ other c. elim (contains_cases each other rest.listed c) [
          | inl same ↦ subst (λ (a : Amount). HasAmount a.token a.amount × Contains (token ∷ tokens) a.token) same (has, contains_head token tokens)
          | inr later ↦ (let h = rest.have other later in (h.0, contains_later token other.token tokens h.1))
        ];
        all = λ other number c has'. elim (contains_cases token other tokens c) [
          | inl same ↦
              let here : HasAmount token number = subst (λ t. HasAmount t number) (sym same) has' in
              let is : each ≡ record { token = other; amount = number } = (λ i. record { token = same i; amount = sym (only number here) i }) in
              subst (Contains (each ∷ rest.listed)) is (contains_head each rest.listed)
          | inr later ↦ contains_later each _ rest.listed (rest.all other number later has')
        ];
        is_sum = ap (λ n. amount +ℤ n) is_sum;
      }

module _ {X : Type 0} (Has : TokenName → X → Type 0) (HasAmount : TokenName → ℤ → Type 0) (counts : X → Type 0) (whole : X → ℤ) (amount : X → ℤ)
    (counted : Counted Has HasAmount counts whole amount)
    (total : List X → ℤ) (none : total [] ≡ pos 0) (more : (thing : X) (things : List X) → total (thing ∷ things) ≡ amount thing +ℤ total things) where
  -- what a token has that counts
  counting : (token : TokenName) (thing : X) → Has token thing → (number : ℤ) → HasAmount token number → counts thing × (number ≡ whole thing)
  counting token thing has number amounts =
      let found = counted.back token number amounts in
      let same = counted.once token found.0 thing found.1.0 has in
      (subst counts same found.1.1, found.1.2 ∙ ap whole same)

  listed_thing : (token : TokenName) (tokens : List TokenName) → AllPairs IsTokenBefore (token ∷ tokens) → (sum : ℤ) → Lists HasAmount tokens sum
      → (thing : X) → Has token thing → Lists HasAmount (token ∷ tokens) (amount thing +ℤ sum)
  listed_thing token tokens ordered sum rest thing has = elim (counted.either thing) [
    | inl does ↦
        subst (λ n. Lists HasAmount (token ∷ tokens) (n +ℤ sum)) (sym does.1)
        (listed_one HasAmount token tokens ordered sum rest (whole thing) (counted.into token thing has does.0) (λ number amounts. (counting token thing has number amounts).1))
    | inr not ↦
        let same : sum ≡ amount thing +ℤ sum = (let is = not.1 in omega (arith, ints)) in
        subst (Lists HasAmount (token ∷ tokens)) same
        (listed_none HasAmount token tokens ordered sum rest (λ number amounts. not.0 (counting token thing has number amounts).0))
  ]

  pub lists : (tokens : List TokenName) → AllPairs IsTokenBefore tokens → (things : List X) → Picks Has tokens things → Lists HasAmount tokens (total things)
  lists [] ordered things is = subst (λ list. Lists HasAmount [] (total list)) (sym is) (record {
    listed = [];
    once = ordered_none Apart;
    have = λ each c. absurd (contains_none each c);
    all = λ token number c has. absurd (contains_none token c);
    is_sum = none;
  })
  lists (token ∷ tokens) ordered things (inl (thing, (rest, (has, is, picks)))) =
      subst (Lists HasAmount (token ∷ tokens)) (sym (ap total is ∙ more thing rest))
      (listed_thing token tokens ordered (total rest) (lists tokens (ordered_tail IsTokenBefore token tokens ordered) rest picks) thing has)
  lists (token ∷ tokens) ordered things (inr (not, picks)) =
      listed_none HasAmount token tokens ordered (total things) (lists tokens (ordered_tail IsTokenBefore token tokens ordered) things picks)
      (λ number amounts. let found = counted.back token number amounts in not found.0 found.1.0)

-- all that is listed, where only these tokens have something
pub lists_all : (HasAmount : TokenName → ℤ → Type 0) (tokens : List TokenName) (sum : ℤ) (is : Lists HasAmount tokens sum)
    → ((token : TokenName) (number : ℤ) → HasAmount token number → Contains tokens token) → ListsAll HasAmount is.listed
lists_all HasAmount tokens sum is there = record {
  once = is.once;
  have = λ k d within. (is.have (get_or is.listed k d) (Contains-get_or is.listed k d within)).0;
  all = λ token number has. is.all token number (there token number has) has;
}
