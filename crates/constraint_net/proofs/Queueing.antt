-- Queues of numbers.
use Rattle.std.proofs.Common.{◌≡◌, ◌≢◌, ℕ, zero, suc, ◌+◌, ◌^◌, ◌<◌, ◌≤◌, Bool, true, false, if◌then◌else◌, List, [], ◌∷◌, ◌++◌, length, get_or, set, inl, inr, ⊎_elim, append_assoc, refl, sym, ap, ◌∙◌, subst, arith}
use Rattle.std.specs.Prelude.{◌↔◌, Contains, IsTrue, count_by}
use Rattle.std.proofs.lemmas.Bool.{cases_eq}
use Rattle.std.proofs.lemmas.List.{append-nil, length_push, length-set, get_or-set_same, get_or-set_other, get_or_default}
use Rattle.std.proofs.lemmas.List.Elements.{Contains-append_left, Contains-push, Contains-push_cases}
use Rattle.std.proofs.lemmas.List.Quantifiers.{all_pairs_push}
use Rattle.std.proofs.lemmas.List.Sums.{sum_by-append, sum_by-set, count_by-le-length}
use Rattle.constraint_net.specs.Queues.{AreFrom, Queued, Lengthens, Takes, TakesAll, IsForemost, IsQueue}

-- ---- marks

-- a place whose mark is set is there
pub marked_below : (standing : List Bool) (number : ℕ) → get_or standing number false ≡ true → number < length standing
marked_below [] number is = absurd (cc)
marked_below (x ∷ standing) zero is = omega arith
marked_below (x ∷ standing) (suc number) is = omega (arith, marked_below standing number is)

-- a mark more that isn't set changes none
push_unset : (standing : List Bool) (number : ℕ) → get_or (standing ++ false ∷ []) number false ≡ get_or standing number false
push_unset [] zero = refl
push_unset [] (suc number) = refl
push_unset (x ∷ standing) zero = refl
push_unset (x ∷ standing) (suc number) = push_unset standing number

differ : (x : Bool) → x ≡ true → x ≡ false → ⊥
differ x yes_it no_it = absurd (let e : true ≡ false = sym yes_it ∙ no_it in cc e)

count_set : (standing : List Bool) (number : ℕ) → number < length standing → get_or standing number false ≡ false
    → count_by (λ stands. stands) (set standing number true) ≡ count_by (λ stands. stands) standing + 1
count_set standing number below is =
    let value : Bool → ℕ = λ stands. if stands then 1 else 0 in
    let sum = sum_by-set value standing number true false below in
    omega (arith, sum, ap value is)

count_unset : (standing : List Bool) (number : ℕ) → number < length standing → get_or standing number false ≡ true
    → count_by (λ stands. stands) (set standing number false) + 1 ≡ count_by (λ stands. stands) standing
count_unset standing number below is =
    let value : Bool → ℕ = λ stands. if stands then 1 else 0 in
    let sum = sum_by-set value standing number false false below in
    omega (arith, sum, ap value is)

-- ---- what a queue keeps

pub wider : (items : List ℕ) (standing : List Bool) (capacity more : ℕ) → capacity ≤ more → IsQueue items standing capacity → IsQueue items standing more
wider items standing capacity more le is = record { once = is.once; marked = is.marked; stands = is.stands; count = is.count; memory = omega (arith, is.memory); short = is.short }

pub no_queue : (capacity : ℕ) → IsQueue [] [] capacity
no_queue capacity = record {
  once = λ i j d before within. absurd (omega arith);
  marked = λ number member. absurd (omega (arith, member.1));
  stands = λ number is. absurd (cc);
  count = refl;
  memory = omega arith;
  short = omega arith;
}

pub grown : (items : List ℕ) (standing : List Bool) (capacity more : ℕ) → length standing + 1 ≤ more → length standing + 1 ≤ 2 ^ 32 → IsQueue items standing capacity → IsQueue items (standing ++ false ∷ []) more
grown items standing capacity more room fits is = record {
  once = is.once;
  marked = λ number member. push_unset standing number ∙ is.marked number member;
  stands = λ number set. is.stands number (sym (push_unset standing number) ∙ set);
  count = let value : Bool → ℕ = λ stands. if stands then 1 else 0 in let sum = sum_by-append value standing (false ∷ []) in omega (arith, sum, is.count);
  memory = omega (arith, room, length_push standing false);
  short = omega (arith, fits, length_push standing false);
}

-- the first of some numbers
pub foremost : (queue : Queued) (items : List ℕ) (room number : ℕ) → record { items = items; room = room } ≡ queue → 0 < length items → number ≡ get_or items 0 number → IsForemost number queue
foremost queue [] room number view some read = absurd (omega (arith, some))
foremost queue (first ∷ items) room number view some read = (items, sym (ap (λ (shown : Queued). shown.items) view) ∙ ap (λ n. n ∷ items) (sym read))

-- how many numbers there are
pub few : (items : List ℕ) (standing : List Bool) (capacity : ℕ) → IsQueue items standing capacity → length items ≤ length standing
few items standing capacity is = omega (arith, is.count, count_by-le-length (λ stands. stands) standing)

-- there is memory for one that doesn't stand there
pub memory_left : (items : List ℕ) (standing : List Bool) (capacity number : ℕ) → IsQueue items standing capacity → number < length standing → get_or standing number false ≡ false → length items < capacity
memory_left items standing capacity number is below unset =
    omega (arith, is.count, is.memory, count_set standing number below unset, count_by-le-length (λ stands. stands) (set standing number true), length-set standing number true)

pub added : (items : List ℕ) (standing : List Bool) (capacity number : ℕ) → number < length standing → get_or standing number false ≡ false → IsQueue items standing capacity
    → IsQueue (items ++ number ∷ []) (set standing number true) capacity
added items standing capacity number below unset is = record {
  once = all_pairs_push (λ one later. one ≢ later) items number is.once
      (λ k d within same. differ (get_or standing (get_or items k d) false) (is.marked (get_or items k d) (k, within, at k d within)) (ap (λ n. get_or standing n false) same ∙ unset));
  marked = λ other member. ⊎_elim
      (λ before. elim (cases_eq other number) [
        | inl same ↦ ap (λ n. get_or (set standing number true) n false) same ∙ get_or-set_same standing number true false below
        | inr apart ↦ get_or-set_other standing number other true false apart ∙ is.marked other before
      ])
      (λ same. ap (λ n. get_or (set standing number true) n false) (sym same) ∙ get_or-set_same standing number true false below)
      (Contains-push_cases items number other member);
  stands = λ other mark. elim (cases_eq other number) [
    | inl same ↦ subst (Contains (items ++ number ∷ [])) (sym same) (Contains-push items number)
    | inr apart ↦ Contains-append_left items (number ∷ []) other (is.stands other (sym (get_or-set_other standing number other true false apart) ∙ mark))
  ];
  count = omega (arith, count_set standing number below unset, is.count, length_push items number);
  memory = omega (arith, is.memory, length-set standing number true);
  short = omega (arith, is.short, length-set standing number true);
}
  where
    at : (k d : ℕ) → k < length items → get_or items k (get_or items k d) ≡ get_or items k d
    at k d within = get_or_default items k (get_or items k d) d within

pub taken : (number : ℕ) (rest : List ℕ) (standing : List Bool) (capacity : ℕ) → IsQueue (number ∷ rest) standing capacity → IsQueue rest (set standing number false) capacity
taken number rest standing capacity is = record {
  once = λ i j d before within. is.once (suc i) (suc j) d (omega arith) (omega arith);
  marked = λ other member. get_or-set_other standing number other false false (apart other member) ∙ is.marked other (suc member.0, omega (arith, member.1), member.2);
  stands = λ other mark. elim (cases_eq other number) [
    | inl same ↦ absurd (differ (get_or (set standing number false) other false) mark (ap (λ n. get_or (set standing number false) n false) same ∙ get_or-set_same standing number false false below))
    | inr differs ↦ later other differs (is.stands other (sym (get_or-set_other standing number other false false differs) ∙ mark))
  ];
  count = omega (arith, count_unset standing number below set_there, is.count);
  memory = omega (arith, is.memory, length-set standing number false);
  short = omega (arith, is.short, length-set standing number false);
}
  where
    set_there : get_or standing number false ≡ true
    set_there = is.marked number (0, omega arith, refl)

    below : number < length standing
    below = marked_below standing number set_there

    apart : (other : ℕ) → Contains rest other → other ≢ number
    apart other member same = is.once 0 (suc member.0) other (omega arith) (omega (arith, member.1)) (sym same ∙ sym member.2)

    later : (other : ℕ) → other ≢ number → Contains (number ∷ rest) other → Contains rest other
    later other differs (zero, within, at) = absurd (differs (sym at))
    later other differs (suc k, within, at) = (k, omega (arith, within), at)

-- ---- what came

pub lengthens_refl : (queue : Queued) → Lengthens queue queue
lengthens_refl queue = record { room = refl; behind = ([], sym (append-nil queue.items)); few = λ low. low }

pub lengthens_trans : (old middle new : Queued) → Lengthens old middle → Lengthens middle new → Lengthens old new
lengthens_trans old middle new p q = record {
  room = q.room ∙ p.room;
  behind = (p.behind.0 ++ q.behind.0, q.behind.1 ∙ ap (λ list. list ++ q.behind.0) p.behind.1 ∙ append_assoc old.items p.behind.0 q.behind.0);
  few = λ low. q.few (p.few low);
}

-- what stood there stands there
pub still : (old new : Queued) (number : ℕ) → Lengthens old new → Contains old.items number → Contains new.items number
still old new number p member = subst (λ list. Contains list number) (sym p.behind.1) (Contains-append_left old.items p.behind.0 number member)

pub takes_none : (number : ℕ) (queue : Queued) → (number < queue.room → Contains queue.items number) → Takes number queue queue
takes_none number queue there = record { lengthens = lengthens_refl queue; added = there; only = λ other stands. inl stands }

-- one more of some numbers
pub takes_more : (numbers : List ℕ) (i e : ℕ) (old middle new : Queued) → i < length numbers → Lengthens old middle → ((k d : ℕ) → k < i → get_or numbers k d < old.room → Contains middle.items (get_or numbers k d))
    → Takes (get_or numbers i e) middle new → (k d : ℕ) → k < i + 1 → get_or numbers k d < old.room → Contains new.items (get_or numbers k d)
takes_more numbers i e old middle new within p before q k d below room = elim (cases_eq k i) [
  | inl same ↦
      let here : get_or numbers k d ≡ get_or numbers i e = ap (λ n. get_or numbers n d) same ∙ get_or_default numbers i d e within in
      subst (Contains new.items) (sym here) (q.added (omega (arith, room, here, p.room)))
  | inr apart ↦ still middle new (get_or numbers k d) q.lengthens (before k d (omega (arith, below, apart)) room)
]

pub takes_all : (numbers : List ℕ) (i : ℕ) (old new : Queued) → length numbers ≤ i → Lengthens old new → ((k d : ℕ) → k < i → get_or numbers k d < old.room → Contains new.items (get_or numbers k d)) → TakesAll numbers old new
takes_all numbers i old new all p each = record {
  lengthens = p;
  added = λ number member room.
      let here : get_or numbers member.0 number ≡ number = member.2 in
      subst (Contains new.items) here (each member.0 number (omega (arith, member.1, all)) (omega (arith, room, here)));
}

-- ---- from a count on

pub told_yes : {P : Type 0} → P → IsTrue true ↔ P
told_yes p = ((λ yes_it. p), (λ there. refl))

pub told_no : {P : Type 0} → (P → ⊥) → IsTrue false ↔ P
told_no none = ((λ yes_it. absurd (differ false yes_it refl)), (λ there. absurd (none there)))

-- one number more of those that were looked at
pub from_more : (count : ℕ) (numbers : List ℕ) (place read : ℕ) → place < length numbers → read ≡ get_or numbers place read → count ≤ read
    → ((k d : ℕ) → k < place → count ≤ get_or numbers k d) → (k d : ℕ) → k < place + 1 → count ≤ get_or numbers k d
from_more count numbers place read within is high before k d below = elim (cases_eq k place) [
  | inl same ↦
      let here : get_or numbers k d ≡ read = ap (λ n. get_or numbers n d) same ∙ get_or_default numbers place d read within ∙ sym is in
      omega (arith, here, high)
  | inr apart ↦ before k d (omega (arith, below, apart))
]

pub from_all : (count : ℕ) (numbers : List ℕ) (place : ℕ) → length numbers ≤ place → ((k d : ℕ) → k < place → count ≤ get_or numbers k d) → AreFrom count numbers
from_all count numbers place all each = λ number there.
    let here : get_or numbers there.0 number ≡ number = there.2 in
    let low = each there.0 number (omega (arith, there.1, all)) in
    omega (arith, here, low)

pub not_from : (count : ℕ) (numbers : List ℕ) (place read : ℕ) → place < length numbers → read ≡ get_or numbers place read → read < count → AreFrom count numbers → ⊥
not_from count numbers place read within is less from = let low = from read (place, within, sym is) in absurd (omega (arith, low, less))

-- ---- as the calls say it

pub read_false : (standing : List Bool) (number : ℕ) (x : Bool) → x ≡ get_or standing number x → x ≡ false → get_or standing number false ≡ false
read_false standing number x read is = ap (get_or standing number) (sym is) ∙ sym read ∙ is

pub added_as : (items more : List ℕ) (standing : List Bool) (capacity as_much number : ℕ) → number < length standing → get_or standing number false ≡ false → more ≡ items ++ number ∷ [] → as_much ≡ capacity → IsQueue items standing capacity
    → IsQueue more (set standing number true) as_much
added_as items more standing capacity as_much number below unset is same kept =
    wider more (set standing number true) capacity as_much (omega (arith, same)) (subst (λ list. IsQueue list (set standing number true) capacity) (sym is) (added items standing capacity number below unset kept))

pub takes_new : (old : Queued) (items more : List ℕ) (standing : List Bool) (capacity number : ℕ) → record { items = items; room = length standing } ≡ old → number < length standing → get_or standing number false ≡ false → more ≡ items ++ number ∷ []
    → IsQueue items standing capacity → Takes number old (record { items = more; room = length (set standing number true) })
takes_new old items more standing capacity number view below unset is kept =
    let after = added_as items more standing capacity capacity number below unset is refl kept in
    subst (λ queue. Takes number queue (record { items = more; room = length (set standing number true) })) view (record {
      lengthens = record { room = length-set standing number true; behind = (number ∷ [], is); few = λ low. few more (set standing number true) capacity after };
      added = λ below_too. subst (λ list. Contains list number) (sym is) (Contains-push items number);
      only = λ other there. ⊎_elim (λ before. inl before) (λ same. inr (sym same)) (Contains-push_cases items number other (subst (λ list. Contains list other) is there));
    })

pub grown_as : (items as_before : List ℕ) (standing more : List Bool) (capacity new : ℕ) → as_before ≡ items → more ≡ standing ++ false ∷ [] → length standing + 1 ≤ new → length standing + 1 ≤ 2 ^ 32 → IsQueue items standing capacity → IsQueue as_before more new
grown_as items as_before standing more capacity new same is room fits kept =
    subst (λ list. IsQueue list more new) (sym same) (subst (λ marks. IsQueue items marks new) (sym is) (grown items standing capacity new room fits kept))

pub taken_as : (items rest : List ℕ) (standing : List Bool) (capacity new number : ℕ) → items ≡ number ∷ rest → new ≡ capacity → IsQueue items standing capacity → (number < length standing) × IsQueue rest (set standing number false) new
taken_as items rest standing capacity new number is same kept =
    let was = subst (λ list. IsQueue list standing capacity) is kept in (
      marked_below standing number (was.marked number (0, omega arith, refl)),
      wider rest (set standing number false) capacity new (omega (arith, same)) (taken number rest standing capacity was),
    )
