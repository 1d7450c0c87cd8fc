-- Stamps follow the domains, as a store goes on and as it goes back.
use Rattle.std.proofs.Common.{◌≡◌, ℕ, zero, suc, ◌-◌, ◌^◌, ◌<◌, ◌≤◌, List, [], ◌∷◌, ◌++◌, ◌⊎◌, inl, inr, length, get_or, set, slice_get, Option, Some, None, pos, Result, Ok, Err, refl, sym, ap, ◌∙◌, subst, arith, append_assoc, length-append}
use Rattle.std.specs.Prelude.{All, Contains, IfSome, MatchOption}
use Rattle.std.specs.List.{AllZip}
use Rattle.std.specs.Option.{option_map}
use Rattle.std.specs.declared.alloc.AllocError.{AllocError}
use Rattle.std.proofs.lemmas.Bool.{cases_lt}
use Rattle.std.proofs.lemmas.List.{append-nil, length-set, get_or_append_left, get_or-set_same, get_or-set_other}
use Rattle.std.proofs.lemmas.List.Elements.{All-contains, All-get_or, AllZip-get_or}
use Rattle.std.proofs.lemmas.Option.{get_or_from_slice_get, slice_get-get_or, slice_get_within, slice_get-map}
use Rattle.domain_core.specs.Domain.{Domain, Range, IsDomain, IsWithin, Has, slack}
use Rattle.domain_core.specs.Laws.{SlackFalls}
use Rattle.domain_core.specs.Narrowing.{Keeps}
use Rattle.domain_core.specs.declared.Change.{Change}
use Rattle.domain_core.specs.declared.Change.TheVariants.{Same, Smaller, Empty}
use Rattle.eu_name.specs.declared.name.TokenName.{TokenName}
use Rattle.eu_name.specs.declared.name.VarName.{VarName}
use Rattle.cell_store.specs.Cells.{domain_at, FollowsDomain}
use Rattle.domain_core.specs.declared.kind.Kind.{Kind}
use Rattle.token_store.specs.Tokens.{TokenPast, tokens_now, token_names, LeavesPast, NamesStay}
use Rattle.constraint_net.specs.Calls.{AddsVar, Limits, Posts, GoesDown, TakesChanged}
use Rattle.constraint_net.specs.Marks.{KeepMarks, Returns}
use Rattle.constraint_net.specs.Networks.{Network}
use Rattle.constraint_net.specs.declared.constraint.NetArg.{NetArg}
use Rattle.constraint_net.specs.declared.network.Mark.{Mark as NetMark}
use Rattle.db_store.specs.Keys.{named_variable, IsKeyBelow}
use Rattle.db_store.specs.Stamps.{HasStamp, FollowStamps, FollowsLess, StampsGoOn}
use Rattle.db_store.specs.Stores.{Stored, Snapshot, snapshot_of, IsSnapshot, named_content, variable_names}
use Rattle.db_store.specs.declared.key.VarKey.{VarKey}
use Rattle.db_store.proofs.Lists.{contains_at, unmapped}
use Rattle.db_store.proofs.Naming.{names_are_once, names_have_one_number, length_names, variable_on}

-- ---- one variable

less_both : (old mid new : Domain) (stamp middle next : ℕ) → FollowsLess old stamp mid middle → FollowsLess mid middle new next → FollowsLess old stamp new next
less_both old mid new stamp middle next (inl p) (inl q) = inl (q.0 ∙ p.0, q.1 ∙ p.1)
less_both old mid new stamp middle next (inl p) (inr q) =
    inr (omega (arith, q.0, ap slack p.0), elim q.1 [ inl more ↦ inl (omega (arith, more, p.1)) | inr most ↦ inr most ])
less_both old mid new stamp middle next (inr p) (inl q) =
    inr (omega (arith, p.0, ap slack q.0), elim p.1 [ inl more ↦ inl (omega (arith, more, q.1)) | inr most ↦ inr (omega (arith, most, q.1)) ])
less_both old mid new stamp middle next (inr p) (inr q) = inr (omega (arith, p.0, q.0), risen p.1 q.1)
  where
    risen : (stamp < middle) ⊎ (2 ^ 64 - 1 ≤ middle) → (middle < next) ⊎ (2 ^ 64 - 1 ≤ next) → (stamp < next) ⊎ (2 ^ 64 - 1 ≤ next)
    risen one (inr most) = inr most
    risen (inl one) (inl more) = inl (omega (arith, one, more))
    risen (inr most) (inl more) = inr (omega (arith, most, more))

-- what is known of a domain and a stamp by their place is known of them
module _ (old new was now : Domain) (since until stamp next : ℕ) (a : old ≡ was) (b : since ≡ stamp) (c : new ≡ now) (d : until ≡ next) where
  pub less_told : next < 2 ^ 64 → FollowsLess old since new until → FollowsDomain was stamp now next
  less_told small (inl p) = inl (sym c ∙ p.0 ∙ a, sym d ∙ p.1 ∙ b)
  less_told small (inr p) = inr (
    λ same. let e : new ≡ old = c ∙ same ∙ sym a in absurd (omega (arith, p.0, ap slack e)),
    elim p.1 [ inl more ↦ inl (omega (arith, more, b, d)) | inr most ↦ inr (omega (arith, most, d, small)) ],
  )

  pub follows_told : FollowsDomain old since new until → FollowsDomain was stamp now next
  follows_told (inl p) = inl (sym c ∙ p.0 ∙ a, sym d ∙ p.1 ∙ b)
  follows_told (inr p) = inr (
    λ same. p.0 (c ∙ same ∙ sym a),
    elim p.1 [ inl more ↦ inl (omega (arith, more, b, d)) | inr most ↦ inr (omega (arith, most, d)) ],
  )

-- ---- going on

pub goes_on_same : (stored : Stored) → StampsGoOn stored stored
goes_on_same stored = record {
  names = ([], sym (append-nil (token_names (tokens_now stored.past))));
  keys = ([], sym (append-nil stored.keys));
  count = omega arith;
  each = λ number below. inl (refl, refl);
}

behind_both : {X : Type 0} (old mid new : List X) → (more : List X) × (mid ≡ old ++ more) → (more : List X) × (new ≡ mid ++ more) → (more : List X) × (new ≡ old ++ more)
behind_both old mid new one other = (one.0 ++ other.0, other.1 ∙ ap (λ list. list ++ other.0) one.1 ∙ append_assoc old one.0 other.0)

pub goes_on_both : (old mid new : Stored) → StampsGoOn old mid → StampsGoOn mid new → StampsGoOn old new
goes_on_both old mid new one other = record {
  names = behind_both (token_names (tokens_now old.past)) (token_names (tokens_now mid.past)) (token_names (tokens_now new.past)) one.names other.names;
  keys = behind_both old.keys mid.keys new.keys one.keys other.keys;
  count = omega (arith, one.count, other.count);
  each = λ number below.
      less_both (domain_at old.net.domains number) (domain_at mid.net.domains number) (domain_at new.net.domains number)
      (get_or old.net.stamps number 0) (get_or mid.net.stamps number 0) (get_or new.net.stamps number 0)
      (one.each number below) (other.each number (omega (arith, below, one.count)));
}

-- ---- steps of the network

-- of its variables the stamps follow the domains
pub record NetGoesOn (old new : Network) : Type 0 where
  pub count : length old.domains ≤ length new.domains
  pub each : (number : ℕ) → number < length old.domains
      → FollowsLess (domain_at old.domains number) (get_or old.stamps number 0) (domain_at new.domains number) (get_or new.stamps number 0)

pub net_same : (net : Network) → NetGoesOn net net
net_same net = record { count = omega arith; each = λ number below. inl (refl, refl) }

zero_behind : (stamps : List ℕ) (number : ℕ) → get_or (stamps ++ 0 ∷ []) number 0 ≡ get_or stamps number 0
zero_behind [] zero = refl
zero_behind [] (suc number) = refl
zero_behind (stamp ∷ stamps) zero = refl
zero_behind (stamp ∷ stamps) (suc number) = zero_behind stamps number

pub net_added : (domain : Domain) (number : ℕ) (old new : Network) → AddsVar domain old (Ok number) new → NetGoesOn old new
net_added domain number old new adds = subst (NetGoesOn old) (sym adds.1) (record {
  count = omega (arith, length-append old.domains (domain ∷ []));
  each = λ k below. inl (get_or_append_left old.domains (domain ∷ []) _ k below, zero_behind old.stamps k);
})

pub net_posted : (kind : Kind) (args : List NetArg) (result : Result (Unit {0}) AllocError) (old new : Network) → Posts old kind args result new → NetGoesOn old new
net_posted kind args (Ok done) old new posts = subst (NetGoesOn old) (sym posts) (record { count = omega arith; each = λ number below. inl (refl, refl) })
net_posted kind args (Err none) old new posts = subst (NetGoesOn old) (sym posts) (net_same old)

-- a domain that follows another one without having less is that one
follows_less : (old new : Domain) (stamp next : ℕ) → (new ≡ old) ⊎ (slack new < slack old) → FollowsDomain old stamp new next → FollowsLess old stamp new next
follows_less old new stamp next less (inl p) = inl p
follows_less old new stamp next (inl same) (inr p) = absurd (p.0 same)
follows_less old new stamp next (inr less) (inr p) = inr (less, elim p.1 [ inl more ↦ inl more | inr most ↦ inr (omega (arith, most)) ])

kept_less : (to old new : Domain) (change : Change) → Keeps (Has to) old change new → (new ≡ old) ⊎ (slack new < slack old)
kept_less to old new Same kept = inl kept.0
kept_less to old new Smaller kept = inr kept.1
kept_less to old new Empty kept = inl kept.0

written_less : (domains : List Domain) (variable : ℕ) (left : Domain) (number : ℕ) → number < length domains
    → (left ≡ domain_at domains variable) ⊎ (slack left < slack (domain_at domains variable))
    → (domain_at (set domains variable left) number ≡ domain_at domains number) ⊎ (slack (domain_at (set domains variable left) number) < slack (domain_at domains number))
written_less domains variable left number below less = elim (cases_lt number variable) [
  | inl under ↦ inl (get_or-set_other domains variable number left _ (λ same. omega (arith, under, same)))
  | inr over ↦ elim (cases_lt variable number) [
    | inl past ↦ inl (get_or-set_other domains variable number left _ (λ same. omega (arith, past, same)))
    | inr le ↦
        let at : number ≡ variable = omega (arith, over, le) in
        let here : domain_at (set domains variable left) variable ≡ left = get_or-set_same domains variable left _ (omega (arith, below, at)) in
        subst (λ k. (domain_at (set domains variable left) k ≡ domain_at domains k) ⊎ (slack (domain_at (set domains variable left) k) < slack (domain_at domains k))) (sym at)
        (elim less [ inl same ↦ inl (here ∙ same) | inr fewer ↦ inr (omega (arith, fewer, ap slack here)) ])
  ]
]

pub net_limited : (variable : ℕ) (to : Domain) (result : Result Change AllocError) (old new : Network) → Limits old variable to result new → NetGoesOn old new
net_limited variable to (Ok change) old new limits =
    let at = limits.0 in
    let kept = kept_less to (domain_at old.domains variable) at.left change at.kept in
    record {
      count = omega (arith, ap length at.others, length-set old.domains variable at.left);
      each = λ number below.
          follows_less (domain_at old.domains number) (domain_at new.domains number) (get_or old.stamps number 0) (get_or new.stamps number 0)
          (subst (λ (list : List Domain). (domain_at list number ≡ domain_at old.domains number) ⊎ (slack (domain_at list number) < slack (domain_at old.domains number))) (sym at.others)
          (written_less old.domains variable at.left number below kept))
          (limits.1.follow number below);
    }
net_limited variable to (Err none) old new limits = subst (NetGoesOn old) (sym limits) (net_same old)

-- a domain within another is that one or has less
within_less : ((inner outer : Domain) → IsDomain inner → IsDomain outer → SlackFalls inner outer) → (inner outer : Domain) → IsDomain inner → IsDomain outer → IsWithin inner outer
    → (inner ≡ outer) ⊎ (slack inner < slack outer)
within_less measured inner outer one other within =
    let falls = measured inner outer one other within in
    elim (cases_lt (slack inner) (slack outer)) [ inl less ↦ inr less | inr le ↦ inl (falls.1 le) ]

pub net_propagated : ((inner outer : Domain) → IsDomain inner → IsDomain outer → SlackFalls inner outer) → (old new : Network)
    → All IsDomain old.domains → All IsDomain new.domains → AllZip IsWithin new.domains old.domains → length new.domains ≡ length old.domains → GoesDown old new → NetGoesOn old new
net_propagated measured old new were are within long down = record {
  count = omega (arith, long);
  each = λ number below.
      let one = All-get_or IsDomain new.domains number (Range (pos 0) (pos 0)) (omega (arith, below, long)) are in
      let other = All-get_or IsDomain old.domains number (Range (pos 0) (pos 0)) below were in
      follows_less (domain_at old.domains number) (domain_at new.domains number) (get_or old.stamps number 0) (get_or new.stamps number 0)
      (within_less measured (domain_at new.domains number) (domain_at old.domains number) one other
      (AllZip-get_or IsWithin new.domains old.domains number _ _ within (omega (arith, below, long))))
      (down.follow number below);
}

pub net_taken : (result : Option ℕ) (old new : Network) → TakesChanged old result new → NetGoesOn old new
net_taken (Some variable) old new takes = subst (NetGoesOn old) (sym takes.1.1) (record { count = omega arith; each = λ number below. inl (refl, refl) })
net_taken None old new takes = subst (NetGoesOn old) (sym takes.1) (net_same old)

pub net_marked : (marked : ℕ) (old new : Network) → new ≡ record old { marked = marked } → NetGoesOn old new
net_marked marked old new is = subst (NetGoesOn old) (sym is) (record { count = omega arith; each = λ number below. inl (refl, refl) })

pub posted_tables : (kind : Kind) (args : List NetArg) (result : Result (Unit {0}) AllocError) (old new : Network) → Posts old kind args result new → new.tables ≡ old.tables
posted_tables kind args (Ok done) old new posts = ap (λ (net : Network). net.tables) posts
posted_tables kind args (Err none) old new posts = ap (λ (net : Network). net.tables) posts

pub taken_tables : (result : Option ℕ) (old new : Network) → TakesChanged old result new → new.tables ≡ old.tables
taken_tables (Some variable) old new takes = ap (λ (net : Network). net.tables) takes.1.1
taken_tables None old new takes = ap (λ (net : Network). net.tables) takes.1

pub taken_marks : (result : Option ℕ) (old new : Network) → TakesChanged old result new → KeepMarks old new
taken_marks (Some variable) old new takes = subst (KeepMarks old) (sym takes.1.1) (λ mark domains constraints is.
    record { place = is.place; marked = is.marked; first = is.first; count = is.count; are = is.are; posted = is.posted; idle = is.idle })
taken_marks None old new takes = subst (KeepMarks old) (sym takes.1) (λ mark domains constraints is. is)

-- ---- by name

-- variables that stand in front have the numbers and the names that they had
module _ (few many : Snapshot) (is : IsSnapshot few)
    (names : (more : List TokenName) × (token_names many.tokens ≡ token_names few.tokens ++ more)) (keys : (more : List VarKey) × (many.keys ≡ few.keys ++ more)) where
  get_on : {X : Type 0} (xs ys : List X) (k : ℕ) (x : X) → slice_get xs k ≡ Some x → slice_get (xs ++ ys) k ≡ Some x
  get_on [] ys k x at = absurd (cc)
  get_on (y ∷ xs) ys zero x at = at
  get_on (y ∷ xs) ys (suc k) x at = get_on xs ys k x at

  named_still : (number : ℕ) (name : VarName) → slice_get (variable_names few) number ≡ Some name → slice_get (variable_names many) number ≡ Some name
  named_still number name at =
      let named = named_variable (token_names many.tokens) in
      let found = unmapped (named_variable (token_names few.tokens)) few.keys number name at in
      let key = found.0 in
      let below = All-contains (IsKeyBelow (length few.tokens)) few.keys key is.placed (contains_at few.keys number key found.1) in
      let stays : named_variable (token_names many.tokens) key ≡ name =
      ap (λ list. named_variable list key) names.1
      ∙ variable_on (token_names few.tokens) names.0 key (subst (λ n. IsKeyBelow n key) (sym (length_names few.tokens)) below) ∙ found.2 in
      slice_get-map (named_variable (token_names many.tokens)) many.keys number
      ∙ ap (option_map (named_variable (token_names many.tokens))) (ap (λ list. slice_get list number) keys.1 ∙ get_on few.keys keys.0 number key found.1)
      ∙ ap Some stays

one_number : (snapshot : Snapshot) (name : VarName) (one other : ℕ) → IsSnapshot snapshot → slice_get (variable_names snapshot) one ≡ Some name → slice_get (variable_names snapshot) other ≡ Some name → one ≡ other
one_number snapshot name one other is here there = names_have_one_number (named_content snapshot) name one other (names_are_once snapshot is) here there

module _ (old new : Stored) (was_sound : IsSnapshot (snapshot_of old)) (is_sound : IsSnapshot (snapshot_of new)) where
  pub stamps_follow : StampsGoOn old new → FollowStamps old new
  stamps_follow on name was now stamp next before after =
      let number = before.number in
      let still = named_still (snapshot_of old) (snapshot_of new) was_sound on.names on.keys number name before.named in
      let same = one_number (snapshot_of new) name after.number number is_sound after.named still in
      let given = subst (λ k. slice_get new.net.domains k ≡ Some now) same after.given in
      let written = subst (λ k. slice_get new.net.stamps k ≡ Some next) same after.written in
      less_told (domain_at old.net.domains number) (domain_at new.net.domains number) was now (get_or old.net.stamps number 0) (get_or new.net.stamps number 0) stamp next
      (get_or_from_slice_get old.net.domains number was _ before.given) (get_or_from_slice_get old.net.stamps number stamp 0 before.written)
      (get_or_from_slice_get new.net.domains number now _ given) (get_or_from_slice_get new.net.stamps number next 0 written)
      after.small (on.each number (slice_get_within old.net.domains number was before.given))

  pub stamps_return : (mark : NetMark) → (more : List TokenName) × (token_names (tokens_now old.past) ≡ token_names (tokens_now new.past) ++ more)
      → (more : List VarKey) × (old.keys ≡ new.keys ++ more) → Returns mark old.net new.net → FollowStamps old new
  stamps_return mark names keys returns name was now stamp next before after =
      let number = after.number in
      let still = named_still (snapshot_of new) (snapshot_of old) is_sound names keys number name after.named in
      let same = one_number (snapshot_of old) name before.number number was_sound before.named still in
      let given = subst (λ k. slice_get old.net.domains k ≡ Some was) same before.given in
      let written = subst (λ k. slice_get old.net.stamps k ≡ Some stamp) same before.written in
      follows_told (domain_at old.net.domains number) (domain_at new.net.domains number) was now (get_or old.net.stamps number 0) (get_or new.net.stamps number 0) stamp next
      (get_or_from_slice_get old.net.domains number was _ given) (get_or_from_slice_get old.net.stamps number stamp 0 written)
      (get_or_from_slice_get new.net.domains number now _ after.given) (get_or_from_slice_get new.net.stamps number next 0 after.written)
      (returns.cells.follow number (slice_get_within new.net.domains number now after.given))

-- ---- what is told of a variable's stamp

pub stamp_told : (stored : Stored) (name : VarName) (number : ℕ) (found : Option ℕ) → IsSnapshot (snapshot_of stored) → slice_get (variable_names (snapshot_of stored)) number ≡ Some name
    → IfSome found (λ stamp. stamp < 2 ^ 64) → MatchOption found (length stored.net.domains ≤ number) (λ stamp. slice_get stored.net.stamps number ≡ Some stamp)
    → MatchOption found (Contains (variable_names (snapshot_of stored)) name → ⊥) (λ stamp. (domain : Domain) × HasStamp stored name domain stamp)
stamp_told stored name number None is named small told =
    let below = slice_get_within (variable_names (snapshot_of stored)) number name named in
    absurd (omega (arith, below, told, (names_are_once (snapshot_of stored) is).count))
stamp_told stored name number (Some stamp) is named small told =
    let below = slice_get_within (variable_names (snapshot_of stored)) number name named in
    let domains = stored.net.domains in (
      get_or domains number (Range (pos 0) (pos 0)),
      record {
        number = number;
        named = named;
        given = slice_get-get_or domains number (Range (pos 0) (pos 0)) (omega (arith, below, (names_are_once (snapshot_of stored) is).count));
        written = told;
        small = small;
      },
    )

-- ---- names at a mark

pub names_back : (place : ℕ) (old new : TokenPast) → LeavesPast place old new → NamesStay old → (more : List TokenName) × (token_names (tokens_now old) ≡ token_names (tokens_now new) ++ more)
names_back place old [] leaves stay = let count = leaves.count in absurd (omega arith)
names_back place old (tokens ∷ past) leaves stay = stay leaves.newer past tokens leaves.past
