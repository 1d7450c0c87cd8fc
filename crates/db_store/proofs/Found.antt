-- That keys are found as they come and go.
use Rattle.std.proofs.Common.{◌≡◌, ℕ, zero, suc, ◌-◌, ◌<◌, ◌≤◌, ◌⊎◌, inl, inr, List, [], ◌∷◌, ◌++◌, length, take, slice_get, Option, Some, None, Bool, true, false, cond, get_or, refl, sym, ap, ◌∙◌, subst, arith}
use Rattle.std.specs.Prelude.{Contains, IsTrue, MatchOption, Result, Ok, Err, OnErr}
use Rattle.std.specs.Map.{lookup}
use Rattle.std.proofs.lemmas.Bool.{cases_lt}
use Rattle.std.proofs.lemmas.List.Elements.{Contains-append_left, Contains-push, Contains-push_cases, Contains-get_or}
use Rattle.std.proofs.lemmas.List.Quantifiers.{all_pairs_push}
use Rattle.std.proofs.lemmas.Option.{none-some, same_Some, slice_get_within, slice_get-get_or, get_or_from_slice_get}
use Rattle.eu_name.specs.Laws.{DecidesEquality}
use Rattle.eu_name.specs.declared.name.Part.TheVariants.{Start}
use Rattle.indexmap.specs.IndexMap.{IndexMap, insert_entry}
use Rattle.indexmap.proofs.CallerLemmas.{insert_entry-new}
use Rattle.db_store.specs.declared.key.VarKey.{VarKey}
use Rattle.db_store.specs.declared.key.VarKey.TheVariants.{Part}
use Rattle.db_store.specs.Findable.{IsExpectedAt, AreInOrder, AreFindable, FindsExpected, FindsListed, IsCutAt}
use Rattle.db_store.specs.Puts.{FindsItem}
use Rattle.db_store.proofs.Lists.{contains_at, at_contains}

-- ---- places in lists

get_front : {X : Type 0} (xs : List X) (y x : X) (k : ℕ) → slice_get xs k ≡ Some x → slice_get (xs ++ y ∷ []) k ≡ Some x
get_front [] y x k is = absurd (none-some x is)
get_front (first ∷ xs) y x zero is = is
get_front (first ∷ xs) y x (suc k) is = get_front xs y x k is

get_push : {X : Type 0} (xs : List X) (y x : X) (k : ℕ) → slice_get (xs ++ y ∷ []) k ≡ Some x
    → (slice_get xs k ≡ Some x) ⊎ ((k ≡ length xs) × (y ≡ x))
get_push [] y x zero is = inr (refl, same_Some y x is)
get_push [] y x (suc k) is = absurd (none-some x is)
get_push (first ∷ xs) y x zero is = inl is
get_push (first ∷ xs) y x (suc k) is = elim (get_push xs y x k is) [
  | inl before ↦ inl before
  | inr last ↦ inr (ap suc last.0, last.1)
]

get_last : {X : Type 0} (xs : List X) (y : X) → slice_get (xs ++ y ∷ []) (length xs) ≡ Some y
get_last [] y = refl
get_last (first ∷ xs) y = get_last xs y

take_within : {X : Type 0} (n : ℕ) (xs : List X) (x : X) (k : ℕ) → slice_get (take n xs) k ≡ Some x → (k < n) × (slice_get xs k ≡ Some x)
take_within zero xs x k is = absurd (none-some x is)
take_within (suc n) [] x k is = absurd (none-some x is)
take_within (suc n) (first ∷ xs) x zero is = (omega arith, is)
take_within (suc n) (first ∷ xs) x (suc k) is = let rest = take_within n xs x k is in (omega (arith, rest.0), rest.1)

take_keeps : {X : Type 0} (n : ℕ) (xs : List X) (x : X) (k : ℕ) → k < n → slice_get xs k ≡ Some x → slice_get (take n xs) k ≡ Some x
take_keeps zero xs x k below is = absurd (omega (arith, below))
take_keeps (suc n) [] x k below is = absurd (none-some x is)
take_keeps (suc n) (first ∷ xs) x zero below is = is
take_keeps (suc n) (first ∷ xs) x (suc k) below is = take_keeps n xs x k (omega (arith, below)) is

-- ---- what is looked up among the others

module _ (test : VarKey → VarKey → Bool) (tells : DecidesEquality test) (key : VarKey) where
  lookup_at : (entries : List (VarKey × ℕ)) (number : ℕ) → lookup (test key) entries ≡ Some number → (place : ℕ) × (slice_get entries place ≡ Some (key, number))
  lookup_at [] number is = absurd (none-some number is)
  lookup_at (entry ∷ entries) number is = by (test key entry.0) ((tells key entry.0).0) is (lookup_at entries number)
    where
      by : (b : Bool) → (IsTrue b → key ≡ entry.0) → cond b (Some entry.1) (lookup (test key) entries) ≡ Some number
          → (lookup (test key) entries ≡ Some number → (place : ℕ) × (slice_get entries place ≡ Some (key, number)))
          → (place : ℕ) × (slice_get (entry ∷ entries) place ≡ Some (key, number))
      by true same some rest = (0, λ i. Some (sym (same refl) i, same_Some entry.1 number some i))
      by false same some rest = let at = rest some in (suc at.0, at.1)

  lookup_none : (entries : List (VarKey × ℕ)) (number place : ℕ) → lookup (test key) entries ≡ None → slice_get entries place ≡ Some (key, number) → ⊥
  lookup_none [] number place none is = none-some (key, number) is
  lookup_none (entry ∷ entries) number zero none is =
      let same : entry ≡ (key, number) = same_Some entry (key, number) is in
      let passes : test key entry.0 ≡ true = (tells key entry.0).1 (sym (ap (λ (one : VarKey × ℕ). one.0) same)) in
      none-some entry.1 (sym none ∙ ap (λ b. cond b (Some entry.1) (lookup (test key) entries)) passes)
  lookup_none (entry ∷ entries) number (suc place) none is = by (test key entry.0) none (λ later. lookup_none entries number place later is)
    where
      by : (b : Bool) → cond b (Some entry.1) (lookup (test key) entries) ≡ None → (lookup (test key) entries ≡ None → ⊥) → ⊥
      by true some rest = none-some entry.1 (sym some)
      by false later rest = rest later

  pub found_listed : (entries : List (VarKey × ℕ)) (number : ℕ) → Some number ≡ lookup (test key) entries → Contains entries (key, number)
  found_listed entries number is = let at = lookup_at entries number (sym is) in contains_at entries at.0 (key, number) at.1

  pub none_listed : (entries : List (VarKey × ℕ)) → None ≡ lookup (test key) entries → (number : ℕ) → Contains entries (key, number) → ⊥
  none_listed entries none number there = let at = at_contains entries (key, number) there in lookup_none entries number at.0 (sym none) at.1

  -- a key that isn't listed comes last
  pub listed_last : {S : Type 0} (others : IndexMap VarKey ℕ S) (inserted : List (VarKey × ℕ)) (number : ℕ) → ((other : ℕ) → Contains others.entries (key, other) → ⊥)
      → inserted ≡ insert_entry test others.entries key number → inserted ≡ others.entries ++ (key, number) ∷ []
  listed_last others inserted number fresh is = by (lookup (test key) others.entries) refl
    where
      by : (found : Option ℕ) → lookup (test key) others.entries ≡ found → inserted ≡ others.entries ++ (key, number) ∷ []
      by None none = is ∙ insert_entry-new test others key number none
      by (Some other) some = absurd (fresh other (found_listed others.entries other (sym some)))

-- ---- a key is found

-- where it stands where it is expected, and where not
pub found_expected : (starts : List ℕ) (all : List VarKey) (key : VarKey) (number : ℕ) (found : Option ℕ)
    → ((other : ℕ) → IsExpectedAt starts all key other → Some number ≡ Some other)
    → MatchOption found (slice_get all number ≡ Some key → ⊥) (λ there. (there ≡ number) × (slice_get all number ≡ Some key))
    → FindsExpected starts all key found
found_expected starts all key number None only finds = λ other expected there.
    finds (subst (λ n. slice_get all n ≡ Some key) (sym (same_Some number other (only other expected))) there)
found_expected starts all key number (Some found) only finds = subst (λ n. slice_get all n ≡ Some key) (sym finds.0) finds.1

pub found_whole : (starts : List ℕ) (all : List VarKey) (others : List (VarKey × ℕ)) (key : VarKey) (found : Option ℕ) → AreFindable starts all others
    → FindsExpected starts all key None → FindsListed others key found → FindsItem all key found
found_whole starts all others key None is none unlisted = λ there.
    let at = at_contains all key there in
    elim (is.each at.0 key at.1) [
      | inl expected ↦ none at.0 expected at.1
      | inr listed ↦ unlisted at.0 listed
    ]
found_whole starts all others key (Some number) is none listed = is.listed number key listed

-- ---- keys come

-- what is noted of others stays, so each key is still found
pub noted_else : (old new : List ℕ) (all : List VarKey) (others : List (VarKey × ℕ)) (key : VarKey) → (Contains all key → ⊥)
    → ((place start : ℕ) → (key ≡ Part place Start → ⊥) → slice_get old place ≡ Some start → slice_get new place ≡ Some start)
    → AreFindable old all others → AreFindable new all others
noted_else old new all others key fresh kept is = record {
  each = λ number one there. elim (is.each number one there) [
    | inl expected ↦ inl (still number one expected)
    | inr listed ↦ inr listed
  ];
  listed = is.listed;
  order = is.order;
}
  where
    still : (number : ℕ) (one : VarKey) → IsExpectedAt old all one number → IsExpectedAt new all one number
    still number one e = record {
      place = e.place;
      part = e.part;
      start = e.start;
      is = e.is;
      noted = kept e.place e.start (λ same. fresh (contains_at all e.start key (e.there ∙ ap Some (sym same)))) e.noted;
      there = e.there;
      behind = e.behind;
    }

module _ (starts : List ℕ) (all : List VarKey) (others : List (VarKey × ℕ)) (key : VarKey) (is : AreFindable starts all others) where
  still : (number : ℕ) (one : VarKey) → IsExpectedAt starts all one number → IsExpectedAt starts (all ++ key ∷ []) one number
  still number one e = record {
    place = e.place;
    part = e.part;
    start = e.start;
    is = e.is;
    noted = e.noted;
    there = get_front all key (Part e.place Start) e.start e.there;
    behind = e.behind;
  }

  -- a key that is expected where it comes
  pub expected_more : IsExpectedAt starts (all ++ key ∷ []) key (length all) → AreFindable starts (all ++ key ∷ []) others
  expected_more here = record {
    each = λ number one there. elim (get_push all key one number there) [
      | inl before ↦ elim (is.each number one before) [
        | inl expected ↦ inl (still number one expected)
        | inr listed ↦ inr listed
      ]
      | inr last ↦ inl (subst (λ k. IsExpectedAt starts (all ++ key ∷ []) k number) last.1 (subst (IsExpectedAt starts (all ++ key ∷ []) key) (sym last.0) here))
    ];
    listed = λ number one listed. get_front all key one number (is.listed number one listed);
    order = is.order;
  }

  below_all : (k : ℕ) (d : VarKey × ℕ) → k < length others → (get_or others k d).1 < length all
  below_all k d below =
      let entry = get_or others k d in
      slice_get_within all entry.1 entry.0 (is.listed entry.1 entry.0 (Contains-get_or others k d below))

  -- a key that is listed
  pub listed_more : (new : List (VarKey × ℕ)) (number : ℕ) → number ≡ length all → new ≡ others ++ (key, number) ∷ [] → AreFindable starts (all ++ key ∷ []) new
  listed_more new number same are = subst (AreFindable starts (all ++ key ∷ [])) (sym (are ∙ ap (λ n. others ++ (key, n) ∷ []) same)) (record {
    each = λ place one there. elim (get_push all key one place there) [
      | inl before ↦ elim (is.each place one before) [
        | inl expected ↦ inl (still place one expected)
        | inr listed ↦ inr (Contains-append_left others ((key, length all) ∷ []) (one, place) listed)
      ]
      | inr last ↦ inr (subst (Contains (others ++ (key, length all) ∷ [])) (let e : (key, length all) ≡ (one, place) = λ i. (last.1 i, sym last.0 i) in e) (Contains-push others (key, length all)))
    ];
    listed = λ place one listed. elim (Contains-push_cases others (key, length all) (one, place) listed) [
      | inl before ↦ get_front all key one place (is.listed place one before)
      | inr last ↦
          subst (λ (e : VarKey × ℕ). slice_get (all ++ key ∷ []) e.1 ≡ Some e.0) last (get_last all key)
    ];
    order = all_pairs_push (λ (one later : VarKey × ℕ). one.1 < later.1) others (key, length all) is.order below_all;
  })

-- without memory
pub on_err : {A E : Type 0} (result : Result A E) (P : Type 0) → P → OnErr result P
on_err (Ok value) P holds = tt
on_err (Err fault) P holds = holds

-- ---- keys go

cut_back : (starts : List ℕ) (all : List VarKey) (others : List (VarKey × ℕ)) (count kept : ℕ) → AreFindable starts all others
    → IsCutAt others count kept → AreFindable starts (take count all) (take kept others)
cut_back starts all others count kept is cut = record {
  each = λ number one there. let within = take_within count all one number there in
      elim (is.each number one within.1) [
        | inl expected ↦ inl (still number one within.0 expected)
        | inr listed ↦ inr (
            let at = at_contains others (one, number) listed in
            contains_at (take kept others) at.0 (one, number) (take_keeps kept others (one, number) at.0 ((cut at.0 number one at.1).1 within.0) at.1))
      ];
  listed = λ number one listed.
      let at = at_contains (take kept others) (one, number) listed in
      let within = take_within kept others (one, number) at.0 at.1 in
      take_keeps count all one number ((cut at.0 number one within.1).0 within.0) (is.listed number one (contains_at others at.0 (one, number) within.1));
  order = λ i j d less below.
      ordered i j d less below;
}
  where
    still : (number : ℕ) (one : VarKey) → number < count → IsExpectedAt starts all one number → IsExpectedAt starts (take count all) one number
    still number one below e = record {
      place = e.place;
      part = e.part;
      start = e.start;
      is = e.is;
      noted = e.noted;
      there = take_keeps count all (Part e.place Start) e.start (omega (arith, below, e.behind)) e.there;
      behind = e.behind;
    }

    ordered : AreInOrder (take kept others)
    ordered = λ i j d less below.
        let one = take_within kept others (get_or (take kept others) i d) i (slice_get-get_or (take kept others) i d (omega (arith, less, below))) in
        let other = take_within kept others (get_or (take kept others) j d) j (slice_get-get_or (take kept others) j d below) in
        let first : get_or others i d ≡ get_or (take kept others) i d = get_or_from_slice_get others i (get_or (take kept others) i d) d one.1 in
        let second : get_or others j d ≡ get_or (take kept others) j d = get_or_from_slice_get others j (get_or (take kept others) j d) d other.1 in
        let at = is.order i j d less (slice_get_within others j (get_or (take kept others) j d) other.1) in
        subst (λ (e : VarKey × ℕ). (get_or (take kept others) i d).1 < e.1) second
        (subst (λ (e : VarKey × ℕ). e.1 < (get_or others j d).1) first at)

pub cut_to : (starts : List ℕ) (all few : List VarKey) (others fewer : List (VarKey × ℕ)) (count kept : ℕ) → AreFindable starts all others
    → IsCutAt others count kept → few ≡ take count all → fewer ≡ take kept others → AreFindable starts few fewer
cut_to starts all few others fewer count kept is cut one other =
    subst (λ list. AreFindable starts list fewer) (sym one) (subst (AreFindable starts (take count all)) (sym other) (cut_back starts all others count kept is cut))

-- ---- how many stay

-- from the place on all are of numbers from the count on
abbrev pub AreFrom : List (VarKey × ℕ) → ℕ → ℕ → Type 0
AreFrom others count kept = (place number : ℕ) (key : VarKey) → slice_get others place ≡ Some (key, number) → kept ≤ place → count ≤ number

-- one place before it too
pub from_one_less : (others : List (VarKey × ℕ)) (count kept : ℕ) → AreFrom others count kept
    → ((number : ℕ) (key : VarKey) → slice_get others (kept - 1) ≡ Some (key, number) → count ≤ number) → AreFrom others count (kept - 1)
from_one_less others count kept all last place number key is over = elim (cases_lt place kept) [
  | inl less ↦ last number key (subst (λ p. slice_get others p ≡ Some (key, number)) (let same : place ≡ kept - 1 = omega (arith, less, over) in same) is)
  | inr later ↦ all place number key is later
]

-- where the last one before it is of a number below the count, all before it are
pub cut_here : (others : List (VarKey × ℕ)) (count kept : ℕ) → AreInOrder others → kept ≤ length others → AreFrom others count kept
    → ((number : ℕ) (key : VarKey) → slice_get others (kept - 1) ≡ Some (key, number) → 0 < kept → count ≤ number → ⊥) → IsCutAt others count kept
cut_here others count kept order within all last place number key is = (
  below,
  λ less. elim (cases_lt place kept) [
    | inl before ↦ before
    | inr later ↦ absurd (omega (arith, all place number key is later, less))
  ],
)
  where
    below : place < kept → number < count
    below before =
        let d : VarKey × ℕ = (key, number) in
        let end = get_or others (kept - 1) d in
        let there : slice_get others (kept - 1) ≡ Some end = slice_get-get_or others (kept - 1) d (omega (arith, before, within)) in
        let own : get_or others place d ≡ (key, number) = get_or_from_slice_get others place (key, number) d is in
        let small : end.1 < count = elim (cases_lt end.1 count) [
          | inl less ↦ less
          | inr over ↦ absurd (last end.1 end.0 there (omega (arith, before)) over)
        ] in
        elim (cases_lt place (kept - 1)) [
          | inl earlier ↦
              let less = order place (kept - 1) d earlier (omega (arith, before, within)) in
              let mine : number < end.1 = subst (λ (e : VarKey × ℕ). e.1 < end.1) own less in
              omega (arith, mine, small)
          | inr at ↦
              let same : kept - 1 ≡ place = omega (arith, at, before) in
              let mine : end ≡ (key, number) = ap (λ p. get_or others p d) same ∙ own in
              subst (λ (e : VarKey × ℕ). e.1 < count) mine small
        ]
