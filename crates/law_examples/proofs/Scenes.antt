-- The states of scenes: what is in them, and when they are closed.
use Rattle.std.proofs.Common.{◌≡◌, ℕ, suc, zero, ◌+◌, ◌<◌, List, [], ◌∷◌, Some, inl, inr, refl, sym, ap, ◌∙◌, subst, arith}
use Rattle.std.specs.Prelude.{Contains, AllPairs, slice_get}
use Rattle.domain_core.specs.Domain.{Domain}
use Rattle.eu_name.specs.declared.name.Part.{Part}
use Rattle.eu_name.specs.declared.name.Part.TheVariants.{Start, End, Duration, Object, Param}
use Rattle.eu_name.specs.declared.name.TokenName.{TokenName}
use Rattle.eu_name.specs.declared.name.VarName.{VarName}
use Rattle.eu_name.specs.declared.name.VarName.TheVariants.{Token}
use Rattle.eu_name.specs.NameOrder.{IsTokenBefore, IsVarBefore, place_of}
use Rattle.eu_name.proofs.Orders.{token_order, var_order}
use Rattle.model_core.specs.State.{VarDomain}
use Rattle.model_core.specs.Tokens.{root_token}
use Rattle.eu_name.proofs.Ordered.{contains_head, contains_later, contains_cases, contains_none, ordered_none, ordered_one, ordered_link}
use Rattle.law_examples.specs.Scenes.{Moment, exactly, tokens_of, scene_entries}
use Rattle.law_examples.proofs.Lists.{same_some}

-- ---- in order

root_before : (number : ℕ) → IsTokenBefore (root_token number) (root_token (number + 1))
root_before number = inr (refl, inl (omega arith))

entry_transitive : (a b c : VarDomain) → IsVarBefore a.name b.name → IsVarBefore b.name c.name → IsVarBefore a.name c.name
entry_transitive a b c = var_order.transitive a.name b.name c.name

pub tokens_in_order : (number : ℕ) (moments : List Moment) → AllPairs IsTokenBefore (tokens_of number moments)
tokens_in_order number [] = ordered_none IsTokenBefore
tokens_in_order number (moment ∷ []) = ordered_one IsTokenBefore (root_token number)
tokens_in_order number (moment ∷ next ∷ moments) =
    ordered_link IsTokenBefore token_order.transitive (root_token number) (root_token (number + 1)) (tokens_of (number + 1 + 1) moments) (root_before number) (tokens_in_order (number + 1) (next ∷ moments))

abbrev pub entry : ℕ → Part → Domain → VarDomain
entry number part domain = record { name = Token (root_token number) part; domain = domain }

abbrev pub by_name : VarDomain → VarDomain → Type 0
by_name one later = IsVarBefore one.name later.name

pub link : (x y : VarDomain) (ys : List VarDomain) → IsVarBefore x.name y.name → AllPairs by_name (y ∷ ys) → AllPairs by_name (x ∷ y ∷ ys)
link x y ys first rest = ordered_link by_name entry_transitive x y ys first rest

-- parts of one token in the order of their places
of_one : (number : ℕ) (part later : Part) → place_of part < place_of later → IsVarBefore (Token (root_token number) part) (Token (root_token number) later)
of_one number part later less = inr (refl, less)

of_next : (number : ℕ) (part later : Part) → IsVarBefore (Token (root_token number) part) (Token (root_token (number + 1)) later)
of_next number part later = inl (root_before number)

-- the variables of one token, and others behind them
module _ (number : ℕ) (moment : Moment) (rest : List VarDomain) where
  abbrev pub from_param : List VarDomain
  from_param = entry number (Param 0) moment.quantity ∷ rest

  abbrev pub from_duration : List VarDomain
  from_duration = entry number Duration (exactly moment.duration) ∷ from_param

  abbrev pub from_end : List VarDomain
  from_end = entry number End (exactly (moment.start + moment.duration)) ∷ from_duration

  abbrev pub from_start : List VarDomain
  from_start = entry number Start (exactly moment.start) ∷ from_end

  abbrev pub from_object : List VarDomain
  from_object = entry number Object moment.object ∷ from_start

  pub five : AllPairs by_name from_param → AllPairs by_name from_object
  five last =
      link (entry number Object moment.object) (entry number Start (exactly moment.start)) from_end (of_one number Object Start (omega arith))
      (link (entry number Start (exactly moment.start)) (entry number End (exactly (moment.start + moment.duration))) from_duration (of_one number Start End (omega arith))
      (link (entry number End (exactly (moment.start + moment.duration))) (entry number Duration (exactly moment.duration)) from_param (of_one number End Duration (omega arith))
      (link (entry number Duration (exactly moment.duration)) (entry number (Param 0) moment.quantity) rest (of_one number Duration (Param 0) (omega arith)) last)))

  past_five : (x : VarDomain) → Contains rest x → Contains from_object x
  past_five x c =
      contains_later (entry number Object moment.object) x from_start
      (contains_later (entry number Start (exactly moment.start)) x from_end
      (contains_later (entry number End (exactly (moment.start + moment.duration))) x from_duration
      (contains_later (entry number Duration (exactly moment.duration)) x from_param
      (contains_later (entry number (Param 0) moment.quantity) x rest c))))

pub entries_in_order : (number : ℕ) (moments : List Moment) → AllPairs (λ (one later : VarDomain). IsVarBefore one.name later.name) (scene_entries number moments)
entries_in_order number [] = ordered_none by_name
entries_in_order number (moment ∷ []) = five number moment [] (ordered_one by_name (entry number (Param 0) moment.quantity))
entries_in_order number (moment ∷ next ∷ moments) =
    five number moment (scene_entries (number + 1) (next ∷ moments))
    (link (entry number (Param 0) moment.quantity) (entry (number + 1) Object next.object) (from_start (number + 1) next (scene_entries (number + 1 + 1) moments)) (of_next number (Param 0) Object)
    (entries_in_order (number + 1) (next ∷ moments)))

-- ---- what is in a state

abbrev pub HasPartDomain : Moment → Part → Domain → Type 0
HasPartDomain moment Object domain = domain ≡ moment.object
HasPartDomain moment Start domain = domain ≡ exactly moment.start
HasPartDomain moment End domain = domain ≡ exactly (moment.start + moment.duration)
HasPartDomain moment Duration domain = domain ≡ exactly moment.duration
HasPartDomain moment (Param zero) domain = domain ≡ moment.quantity
HasPartDomain moment (Param (suc number)) domain = ⊥

-- an entry is a part of one of the tokens
pub record IsEntryOf (number : ℕ) (moments : List Moment) (name : VarName) (domain : Domain) : Type 0 where
  pub place : ℕ
  pub moment : Moment
  pub part : Part
  pub at : slice_get moments place ≡ Some moment
  pub named : name ≡ Token (root_token (number + place)) part
  pub is : HasPartDomain moment part domain

shifted : (number : ℕ) (moment : Moment) (moments : List Moment) (name : VarName) (domain : Domain) → IsEntryOf (number + 1) moments name domain → IsEntryOf number (moment ∷ moments) name domain
shifted number moment moments name domain p = record {
  place = suc p.place;
  moment = p.moment;
  part = p.part;
  at = p.at;
  named = p.named ∙ ap (λ n. Token (root_token n) p.part) (let e : number + 1 + p.place ≡ number + suc p.place = omega arith in e);
  is = p.is;
}

here : (number : ℕ) (moment : Moment) (moments : List Moment) (part : Part) (is_domain : Domain) (name : VarName) (domain : Domain)
    → HasPartDomain moment part is_domain → entry number part is_domain ≡ record { name = name; domain = domain } → IsEntryOf number (moment ∷ moments) name domain
here number moment moments part is_domain name domain is e = record {
  place = 0;
  moment = moment;
  part = part;
  at = refl;
  named = sym (ap (λ (x : VarDomain). x.name) e) ∙ ap (λ n. Token (root_token n) part) (let e : number ≡ number + 0 = omega arith in e);
  is = subst (HasPartDomain moment part) (ap (λ (x : VarDomain). x.domain) e) is;
}

pub entry_of : (number : ℕ) (moments : List Moment) (name : VarName) (domain : Domain) → Contains (scene_entries number moments) (record { name = name; domain = domain }) → IsEntryOf number moments name domain
entry_of number [] name domain c = absurd (contains_none (record { name = name; domain = domain }) c)
entry_of number (moment ∷ moments) name domain c =
    let x : VarDomain = record { name = name; domain = domain } in
    let rest = scene_entries (number + 1) moments in
    elim (contains_cases (entry number Object moment.object) x (from_start number moment rest) c) [
      | inl same ↦ here number moment moments Object moment.object name domain refl same
      | inr c ↦ elim (contains_cases (entry number Start (exactly moment.start)) x (from_end number moment rest) c) [
        | inl same ↦ here number moment moments Start (exactly moment.start) name domain refl same
        | inr c ↦ elim (contains_cases (entry number End (exactly (moment.start + moment.duration))) x (from_duration number moment rest) c) [
          | inl same ↦ here number moment moments End (exactly (moment.start + moment.duration)) name domain refl same
          | inr c ↦ elim (contains_cases (entry number Duration (exactly moment.duration)) x (from_param number moment rest) c) [
            | inl same ↦ here number moment moments Duration (exactly moment.duration) name domain refl same
            | inr c ↦ elim (contains_cases (entry number (Param 0) moment.quantity) x rest c) [
              | inl same ↦ here number moment moments (Param 0) moment.quantity name domain refl same
              | inr c ↦ shifted number moment moments name domain (entry_of (number + 1) moments name domain c)
            ]
          ]
        ]
      ]
    ]

at_part : (number : ℕ) (moment : Moment) (moments : List Moment) (part : Part) (domain : Domain) → HasPartDomain moment part domain → Contains (scene_entries number (moment ∷ moments)) (entry number part domain)
at_part number moment moments Object domain is = (0, omega arith, ap (entry number Object) (sym is))
at_part number moment moments Start domain is = (1, omega arith, ap (entry number Start) (sym is))
at_part number moment moments End domain is = (2, omega arith, ap (entry number End) (sym is))
at_part number moment moments Duration domain is = (3, omega arith, ap (entry number Duration) (sym is))
at_part number moment moments (Param zero) domain is = (4, omega arith, ap (entry number (Param 0)) (sym is))
at_part number moment moments (Param (suc n)) domain is = absurd is

pub entry_there : (number : ℕ) (moments : List Moment) (place : ℕ) (moment : Moment) (part : Part) (domain : Domain) → slice_get moments place ≡ Some moment → HasPartDomain moment part domain
    → Contains (scene_entries number moments) (entry (number + place) part domain)
entry_there number [] place moment part domain at is = absurd (cc)
entry_there number (first ∷ moments) zero moment part domain at is =
    subst (λ n. Contains (scene_entries number (first ∷ moments)) (entry n part domain)) (let e : number ≡ number + 0 = omega arith in e)
    (at_part number first moments part domain (subst (λ m. HasPartDomain m part domain) (sym (same_some first moment at)) is))
entry_there number (first ∷ moments) (suc place) moment part domain at is =
    past_five number first (scene_entries (number + 1) moments) (entry (number + suc place) part domain)
    (subst (λ n. Contains (scene_entries (number + 1) moments) (entry n part domain)) (let e : number + 1 + place ≡ number + suc place = omega arith in e)
    (entry_there (number + 1) moments place moment part domain at is))

-- a token is one of the roots
pub record IsTokenOf (number : ℕ) (moments : List Moment) (token : TokenName) : Type 0 where
  pub place : ℕ
  pub moment : Moment
  pub at : slice_get moments place ≡ Some moment
  pub named : token ≡ root_token (number + place)

pub token_of : (number : ℕ) (moments : List Moment) (token : TokenName) → Contains (tokens_of number moments) token → IsTokenOf number moments token
token_of number [] token c = absurd (contains_none token c)
token_of number (moment ∷ moments) token c = elim (contains_cases (root_token number) token (tokens_of (number + 1) moments) c) [
  | inl same ↦ record { place = 0; moment = moment; at = refl; named = sym same ∙ ap root_token (let e : number ≡ number + 0 = omega arith in e) }
  | inr later ↦ (let found = token_of (number + 1) moments token later in
      record { place = suc found.place; moment = found.moment; at = found.at; named = found.named ∙ ap root_token (let e : number + 1 + found.place ≡ number + suc found.place = omega arith in e) })
]

pub token_there : (number : ℕ) (moments : List Moment) (place : ℕ) (moment : Moment) → slice_get moments place ≡ Some moment → Contains (tokens_of number moments) (root_token (number + place))
token_there number [] place moment at = absurd (cc)
token_there number (first ∷ moments) zero moment at =
    subst (λ n. Contains (tokens_of number (first ∷ moments)) (root_token n)) (let e : number ≡ number + 0 = omega arith in e) (contains_head (root_token number) (tokens_of (number + 1) moments))
token_there number (first ∷ moments) (suc place) moment at =
    contains_later (root_token number) (root_token (number + suc place)) (tokens_of (number + 1) moments) (subst (λ n. Contains (tokens_of (number + 1) moments) (root_token n)) (let e : number + 1 + place ≡ number + suc place = omega arith in e) (token_there (number + 1) moments place moment at))
