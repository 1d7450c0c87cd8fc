-- Languages of chosen parts, and with what symbols they begin.
use Rattle.std.proofs.Common.{◌≡◌, ℕ, Bool, true, false, cond, Option, Some, ◌⊎◌, inl, inr, List, [], ◌∷◌, ◌++◌, refl, sym, ap, subst, ◌∙◌}
use Rattle.nddl_grammar.specs.declared.sort.Sort.{Sort}
use Rattle.nddl_grammar.specs.Symbols.{PlainSymbol}
use Rattle.nddl_grammar.specs.Readers.{Outcome, got, stuck, deep, begins, is, and_then, mapped, choice, may_mark, listed, after, following, separated}
use Rattle.nddl_grammar.specs.Exact.{◌·◌, IsMark, AreFollowing, AreSeparated, AreListed, MayMark, earliest, IfAt, FindsExactly, HasSample, BeginsWith, IsExact}
use Rattle.nddl_grammar.proofs.Sequence.{Paired, Chained, deeper, Follows, sequence_exact, chained_at, fused}
use Rattle.nddl_grammar.proofs.Combine.{not_both, same_begins, word_begins, mapped_at, relabelled_at, mapped_exact, relabelled_exact, no_more, no_blocks, mark_exact, mark_begins, widened_exact, choice_exact, EmptyFor, nothing_exact}
use Rattle.nddl_grammar.proofs.Many.{wider, many_exact, many_follow, begins_first, or_second}
use Rattle.nddl_grammar.proofs.OneSort.{is_same, same_is}

-- what a function makes of the values
abbrev pub Image : {X Y : Type 0} (f : X → Y) (P : X → List PlainSymbol → Type 0) → Y → List PlainSymbol → Type 0
Image {X = X} f P y word = (x : X) × (y ≡ f x) × P x word

pub image_exact : {X Y : Type 0} {P : X → List PlainSymbol → Type 0} {dx : X → Option ℕ} {more : Sort → Bool} {one : List PlainSymbol → Outcome X}
    (dy : Y → Option ℕ) (f : X → Y) → IsExact P dx more one → ((x : X) → dy (f x) ≡ dx x) → IsExact (Image f P) dy more (mapped f one)
image_exact {P = P} dy f a places = mapped_exact (Image f P) dy f a (λ x word is. (x, refl, is)) (λ y word is. is) places

-- a part, and behind it one whose language is by the value of the first
abbrev pub Bound : {X Y : Type 0} (P : X → List PlainSymbol → Type 0) (Q : X → Y → List PlainSymbol → Type 0) → Y → List PlainSymbol → Type 0
Bound {X = X} P Q y word = (x : X) × (P x · Q x y) word

pub bound_exact : {X Y : Type 0} {P : X → List PlainSymbol → Type 0} {more_x : Sort → Bool} {one : List PlainSymbol → Outcome X} (Q : X → Y → List PlainSymbol → Type 0) (dy : Y → Option ℕ) (more_y : Sort → Bool)
    (other : X → List PlainSymbol → Outcome Y) → IsExact P no_blocks more_x one → ((x : X) → IsExact (Q x) dy more_y (other x)) → ((x : X) → Follows (Q x) more_x more_y)
    → IsExact (Bound P Q) dy more_y (λ symbols. and_then (one symbols) other)
bound_exact {X = X} {Y = Y} {P = P} {more_x = more_x} {one = one} Q dy more_y other a b follow = record {
  answers = λ symbols.
      subst (λ (found : Outcome Y). FindsExactly (Bound P Q) dy more_y symbols found) (fused (one symbols) other)
      (mapped_at (Chained P Q) (Bound P Q) (deeper no_blocks dy) dy more_y symbols (λ both. both.1)
      (λ both word h. (both.0, h)) (λ both. refl) (λ y word after used rest split h out same. ((h.0, y), refl, h.1))
      (and_then {Y = X × Y} (one symbols) (λ x rest. and_then {Y = X × Y} (other x rest) (λ y left. got (x, y) left)))
      (chained_at P Q no_blocks dy more_x more_y symbols one other b a follow));
  sample = λ place.
      let front = a.sample place in
      let back = (b front.1).sample place in
      (front.0 ++ back.0, back.1, (front.1, (front.0, back.0, refl, front.2, back.2)), back.3);
}

pub bound_begins : {X Y : Type 0} {P : X → List PlainSymbol → Type 0} (Q : X → Y → List PlainSymbol → Type 0) (test : Sort → Bool) → BeginsWith P test → BeginsWith (Bound P Q) test
bound_begins Q test begin y word is =
    let head = begin is.0 is.1.0 is.1.3 in
    (head.0, head.1 ++ is.1.1, is.1.2 ∙ ap (λ (list : List PlainSymbol). list ++ is.1.1) head.2, head.3)

pub image_begins : {X Y : Type 0} {P : X → List PlainSymbol → Type 0} (f : X → Y) (test : Sort → Bool) → BeginsWith P test → BeginsWith (Image f P) test
image_begins f test begin y word is = begin is.0 word is.2

pub either_begins : {X : Type 0} {P Q : X → List PlainSymbol → Type 0} (test : Sort → Bool) → BeginsWith P test → BeginsWith Q test → BeginsWith (λ x word. P x word ⊎ Q x word) test
either_begins test one other x word (inl is) = one x word is
either_begins test one other x word (inr is) = other x word is

-- ---- what may follow

pub none_goes_on : (symbols : List PlainSymbol) → begins no_more symbols ≡ false
none_goes_on [] = refl
none_goes_on (c ∷ symbols) = refl

-- nothing goes on the first part
pub follows_none : {Y : Type 0} (Q : Y → List PlainSymbol → Type 0) (more : Sort → Bool) → Follows Q no_more more
follows_none Q more y word after is out = none_goes_on (word ++ after)

-- the second part begins with a symbol that doesn't go on the first
pub follows_apart : {Y : Type 0} (Q : Y → List PlainSymbol → Type 0) (more_x more test : Sort → Bool) → BeginsWith Q test → ((sort : Sort) → test sort ≡ true → more_x sort ≡ false) → Follows Q more_x more
follows_apart Q more_x more test begin apart y word after is out =
    let head = begin y word is in
    subst (λ (list : List PlainSymbol). begins more_x (list ++ after) ≡ false) (sym head.2) (apart head.0.sort head.3)

-- ---- choices whose second language may begin as the first does

abbrev pub Beside : {X : Type 0} (test : Sort → Bool) (Q : X → List PlainSymbol → Type 0) → X → List PlainSymbol → Type 0
Beside test Q x word = Q x word × (begins test word ≡ false)

aside_front : (test : Sort → Bool) (symbols used rest : List PlainSymbol) → symbols ≡ used ++ rest → begins test symbols ≡ false → begins test used ≡ false
aside_front test symbols [] rest split is = refl
aside_front test symbols (c ∷ used) rest split is = subst (λ (list : List PlainSymbol). begins test list ≡ false) split is

-- what completes the used symbols in the second language, or a word of the first where none are used
begun_aside : {X : Type 0} (P Q : X → List PlainSymbol → Type 0) (dx : X → Option ℕ) (test : Sort → Bool) (symbols used rest : List PlainSymbol) (place : ℕ) → HasSample P dx → symbols ≡ used ++ rest → begins test symbols ≡ false
    → (after : List PlainSymbol) × (y : X) × Q y (used ++ after) × IfAt (dx y) place
    → (after : List PlainSymbol) × (y : X) × (P y (used ++ after) ⊎ Beside test Q y (used ++ after)) × IfAt (dx y) place
begun_aside P Q dx test symbols [] rest place sample split aside go = let end = sample place in (end.0, end.1, inl end.2, end.3)
begun_aside P Q dx test symbols (c ∷ used) rest place sample split aside go =
    (go.0, go.1, inr (go.2, subst (λ (list : List PlainSymbol). begins test list ≡ false) split aside), go.3)

deep_aside : (test : Sort → Bool) (symbols used rest left after : List PlainSymbol) (c : PlainSymbol) → symbols ≡ used ++ rest → rest ≡ c ∷ left → begins test symbols ≡ false → begins test (used ++ c ∷ after) ≡ false
deep_aside test symbols [] rest left after c split next aside = subst (λ (list : List PlainSymbol). begins test list ≡ false) (split ∙ next) aside
deep_aside test symbols (d ∷ used) rest left after c split next aside = subst (λ (list : List PlainSymbol). begins test list ≡ false) split aside

aside_at : {X : Type 0} (P Q : X → List PlainSymbol → Type 0) (dx : X → Option ℕ) (more test : Sort → Bool) (symbols : List PlainSymbol) → HasSample P dx → BeginsWith P test → begins test symbols ≡ false
    → (o : Outcome X) → FindsExactly Q dx more symbols o → FindsExactly (λ x word. P x word ⊎ Beside test Q x word) dx more symbols o
aside_at P Q dx more test symbols sample begin aside (got x rest) a = record {
  used = a.used;
  split = a.split;
  derived = inr (a.derived, aside_front test symbols a.used rest a.split aside);
  shallow = a.shallow;
  only = λ y word after found out same.
      elim found as (λ f. (y ≡ x) × (word ≡ a.used)) [
        | inl h ↦ absurd (not_both (word_begins P test begin y word after h) (same_begins test symbols (word ++ after) a.used rest a.split same ∙ aside))
        | inr h ↦ a.only y word after h.0 out same
      ];
}
aside_at P Q dx more test symbols sample begin aside (stuck rest) a = record {
  used = a.used;
  split = a.split;
  begun = λ place. begun_aside P Q dx test symbols a.used rest place sample a.split aside (a.begun place);
  none = λ y word after found out same.
      elim found as (λ f. ⊥) [
        | inl h ↦ not_both (word_begins P test begin y word after h) (same_begins test symbols (word ++ after) a.used rest a.split same ∙ aside)
        | inr h ↦ a.none y word after h.0 out same
      ];
}
aside_at P Q dx more test symbols sample begin aside (deep rest) a = record {
  used = a.used;
  symbol = a.symbol;
  left = a.left;
  next = a.next;
  split = a.split;
  begun = let go = a.begun in (go.0, go.1, inr (go.2, deep_aside test symbols a.used rest a.left go.0 a.symbol a.split a.next aside), go.3);
  all = λ y word after found out same.
      elim found as (λ f. dx y ≡ Some a.symbol.at) [
        | inl h ↦ absurd (not_both (word_begins P test begin y word after h) (same_begins test symbols (word ++ after) a.used rest a.split same ∙ aside))
        | inr h ↦ a.all y word after h.0 out same
      ];
}

pub beside_exact : {X : Type 0} {P Q : X → List PlainSymbol → Type 0} {dx : X → Option ℕ} {more : Sort → Bool} {one other : List PlainSymbol → Outcome X}
    (test : Sort → Bool) → IsExact P dx more one → IsExact Q dx more other → BeginsWith P test
    → ((x : X) (word after : List PlainSymbol) → Q x word → begins test word ≡ false → begins more after ≡ false → begins test (word ++ after) ≡ false)
    → IsExact (λ x word. P x word ⊎ Beside test Q x word) dx more (choice test one other)
beside_exact {X = X} {P = P} {Q = Q} {dx = dx} {more = more} {one = one} {other = other} test a b firsts still = record {
  answers = λ symbols. chosen symbols (begins test symbols) refl;
  sample = λ place. let end = a.sample place in (end.0, end.1, inl end.2, end.3);
} where
  chosen : (symbols : List PlainSymbol) (flag : Bool) → begins test symbols ≡ flag
      → FindsExactly (λ x word. P x word ⊎ Beside test Q x word) dx more symbols (cond flag (one symbols) (other symbols))
  chosen symbols true holds = relabelled_at P (λ x word. P x word ⊎ Beside test Q x word) dx dx more symbols (λ x word h. inl h) (λ x. refl)
      (λ y word after used rest split found out same.
      elim found as (λ f. (x : X) × (y ≡ x) × P x word) [
        | inl h ↦ (y, refl, h)
        | inr h ↦ absurd (not_both (same_begins test symbols (word ++ after) used rest split same ∙ holds) (still y word after h.0 h.1 out))
      ])
      (one symbols) (a.answers symbols)
  chosen symbols false fails = aside_at P Q dx more test symbols a.sample firsts fails (other symbols) (b.answers symbols)

-- words that begin somehow begin as they do whatever follows
pub some_still : {X : Type 0} (Q : X → List PlainSymbol → Type 0) (test any : Sort → Bool) → BeginsWith Q any → (x : X) (word after : List PlainSymbol) → Q x word → begins test word ≡ false → begins test (word ++ after) ≡ false
some_still Q test any begin x word after is fails =
    let head = begin x word is in
    subst (λ (list : List PlainSymbol). begins test (list ++ after) ≡ false) (sym head.2) (subst (λ (list : List PlainSymbol). begins test list ≡ false) head.2 fails)

-- ---- marks that can be left out, and lists

pub same_sort : (sort other : Sort) → is sort other ≡ true → other ≡ sort
same_sort sort other test = same_is other sort test

abbrev pub May : Sort → Unit {0} → List PlainSymbol → Type 0
May sort nil = MayMark sort

pub may_mark_exact : (sort : Sort) → IsExact (May sort) no_blocks (is sort) (may_mark sort)
may_mark_exact sort = relabelled_exact (May sort) no_blocks
    (choice_exact (is sort) (widened_exact (is sort) (mark_exact sort) (λ other out. refl)) (nothing_exact tt no_blocks (is sort) refl) (mark_begins sort (is sort) (is_same sort))
    (λ x word after h out. subst (λ (list : List PlainSymbol). begins (is sort) (list ++ after) ≡ false) (sym h.1) out))
    (λ x word h. elim h as (λ f. MayMark sort word) [ inl m ↦ inl m | inr e ↦ inr e.1 ])
    (λ x word h. elim h as (λ f. IsMark sort word ⊎ EmptyFor tt x word) [ inl m ↦ inl m | inr e ↦ inr (refl, e) ])
    (λ x. refl)

pub after_exact : {X : Type 0} {P : X → List PlainSymbol → Type 0} {dx : X → Option ℕ} {more : Sort → Bool} {one : List PlainSymbol → Outcome X} (sort : Sort) → IsExact P dx more one
    → IsExact (λ x. IsMark sort · P x) dx more (after sort one)
after_exact {X = X} {P = P} {dx = dx} {more = more} sort a = mapped_exact (λ x. IsMark sort · P x) dx (λ both. both.1) (sequence_exact (mark_exact sort) a (follows_none P more))
    (λ both word h. h) (λ x word h. ((tt, x), refl, h)) (λ both. refl)

pub after_begins : {X : Type 0} (P : X → List PlainSymbol → Type 0) (sort : Sort) (test : Sort → Bool) → test sort ≡ true → BeginsWith (λ x. IsMark sort · P x) test
after_begins P sort test holds x word h =
    let head = mark_begins sort test holds tt h.0 h.3 in
    (head.0, head.1 ++ h.1, h.2 ∙ ap (λ (list : List PlainSymbol). list ++ h.1) head.2, head.3)

pub following_exact : {X : Type 0} {P : X → List PlainSymbol → Type 0} {dx : X → Option ℕ} {more : Sort → Bool} {one : List PlainSymbol → Outcome X} (sort : Sort) → IsExact P dx more one
    → ((other : Sort) → is sort other ≡ true → more other ≡ false) → IsExact (AreFollowing sort P) (earliest dx) (wider (is sort) more) (following sort one)
following_exact {P = P} sort a apart = many_exact (is sort) (after_exact sort a) (after_begins P sort (is sort) (is_same sort)) apart

-- behind an item come a separator or nothing
pub following_follow : {X : Type 0} (P : X → List PlainSymbol → Type 0) (more : Sort → Bool) (sort : Sort) → ((other : Sort) → is sort other ≡ true → more other ≡ false) → Follows (AreFollowing sort P) more (wider (is sort) more)
following_follow P more sort apart = many_follow (λ x. IsMark sort · P x) (is sort) more (after_begins P sort (is sort) (is_same sort)) apart

pub separated_exact : {X : Type 0} {P : X → List PlainSymbol → Type 0} {dx : X → Option ℕ} {more : Sort → Bool} {one : List PlainSymbol → Outcome X} (sort : Sort) → IsExact P dx more one
    → ((other : Sort) → is sort other ≡ true → more other ≡ false) → IsExact (AreSeparated sort P) (earliest dx) (wider (is sort) more) (separated sort one)
separated_exact {X = X} {P = P} {dx = dx} {more = more} sort a apart =
    mapped_exact (AreSeparated sort P) (earliest dx) (λ both. both.0 ∷ both.1)
    (sequence_exact a (following_exact sort a apart) (following_follow P more sort apart))
    (λ both word h. h)
    (λ list word h. elim list as (λ items. AreSeparated sort P items word → (both : X × List X) × (items ≡ both.0 ∷ both.1) × Paired P (AreFollowing sort P) both word) [ [] ↦ λ none. absurd none | x ∷ xs ↦ λ g. ((x, xs), refl, g) ] h)
    (λ both. refl)

pub separated_begins : {X : Type 0} (P : X → List PlainSymbol → Type 0) (sort : Sort) (test : Sort → Bool) → BeginsWith P test → BeginsWith (AreSeparated sort P) test
separated_begins P sort test begin [] word h = absurd h
separated_begins P sort test begin (x ∷ xs) word h =
    let head = begin x h.0 h.3 in
    (head.0, head.1 ++ h.1, h.2 ∙ ap (λ (list : List PlainSymbol). list ++ h.1) head.2, head.3)

pub listed_exact : {X : Type 0} {P : X → List PlainSymbol → Type 0} {dx : X → Option ℕ} {more : Sort → Bool} {one : List PlainSymbol → Outcome X} (test : Sort → Bool) (sort : Sort) → IsExact P dx more one → BeginsWith P test
    → ((other : Sort) → is sort other ≡ true → more other ≡ false) → IsExact (AreListed sort P) (earliest dx) (wider test (wider (is sort) more)) (listed test sort one)
listed_exact {X = X} {P = P} {dx = dx} {more = more} test sort a begin apart =
    relabelled_exact (AreListed sort P) (earliest dx)
    (choice_exact test
    (widened_exact (wider test (wider (is sort) more)) (separated_exact sort a apart) (λ other out. or_second (test other) (wider (is sort) more other) out))
    (nothing_exact [] (earliest dx) (wider test (wider (is sort) more)) refl)
    (separated_begins P sort test begin)
    (λ x word after h out. subst (λ (list : List PlainSymbol). begins test (list ++ after) ≡ false) (sym h.1) (begins_first test (wider (is sort) more) after out)))
    (λ list word h. to list word h)
    (λ list word h. from list word h)
    (λ x. refl)
  where
    to : (list : List X) (word : List PlainSymbol) → AreSeparated sort P list word ⊎ EmptyFor [] list word → AreListed sort P list word
    to [] word (inl h) = absurd h
    to [] word (inr h) = h.1
    to (x ∷ xs) word (inl h) = h
    to (x ∷ xs) word (inr h) = let none : x ∷ xs ≡ [] = h.0 in absurd cc

    from : (list : List X) (word : List PlainSymbol) → AreListed sort P list word → AreSeparated sort P list word ⊎ EmptyFor [] list word
    from [] word h = inr (refl, h)
    from (x ∷ xs) word h = inl h
