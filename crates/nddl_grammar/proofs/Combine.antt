-- Exact readers under another name, chosen, and one after another.
use Rattle.std.proofs.Common.{◌≡◌, ℕ, Bool, true, false, cond, pos, Option, None, ◌⊎◌, inl, inr, List, [], ◌∷◌, ◌++◌, refl, sym, ap, subst, ◌∙◌}
use Rattle.nddl_grammar.specs.declared.sort.Sort.{Sort}
use Rattle.nddl_grammar.specs.Sorts.{same}
use Rattle.nddl_grammar.specs.Symbols.{PlainSymbol}
use Rattle.nddl_grammar.specs.Readers.{Outcome, got, stuck, deep, begins, and_then, mapped, choice, nothing, mark_place, mark, symbol_of}
use Rattle.nddl_grammar.specs.Exact.{IsSymbol, IsPlaced, IsMark, Agrees, IfAt, FindsExactly, BeginsWith, IsExact}
use Rattle.nddl_grammar.proofs.OneSort.{same_is, is_same}
use Rattle.nddl_grammar.proofs.Lists.{agrees_head, agrees_none}
use Rattle.nddl_grammar.proofs.Sequence.{Paired}

pub not_both : {b : Bool} → b ≡ true → b ≡ false → ⊥
not_both p q = cc

-- what goes on alike begins alike
pub same_begins : (test : Sort → Bool) (symbols other used rest : List PlainSymbol) → symbols ≡ used ++ rest → Agrees other used rest → begins test other ≡ begins test symbols
same_begins test [] other used rest split same = subst (λ (list : List PlainSymbol). begins test list ≡ false) (sym (agrees_none other used rest split same)) refl
same_begins test (c ∷ symbols) other used rest split same =
    let head = agrees_head other used rest c symbols split same in
    subst (λ (list : List PlainSymbol). begins test list ≡ test c.sort) (sym head.1) refl

pub word_begins : {X : Type 0} (P : X → List PlainSymbol → Type 0) (test : Sort → Bool) → BeginsWith P test → (x : X) (word after : List PlainSymbol) → P x word → begins test (word ++ after) ≡ true
word_begins P test firsts x word after is =
    let head = firsts x word is in
    subst (λ (list : List PlainSymbol). begins test (list ++ after) ≡ true) (sym head.2) head.3

-- a value of the second language that goes on as the list does is one of the first
abbrev pub Comes : {X Y : Type 0} (P : X → List PlainSymbol → Type 0) (Q : Y → List PlainSymbol → Type 0) (more : Sort → Bool) (symbols : List PlainSymbol) (f : X → Y) → Type 0
Comes {X = X} {Y = Y} P Q more symbols f = (y : Y) (word after used rest : List PlainSymbol) → symbols ≡ used ++ rest → Q y word → begins more after ≡ false → Agrees (word ++ after) used rest → (x : X) × (y ≡ f x) × P x word

pub mapped_at : {X Y : Type 0} (P : X → List PlainSymbol → Type 0) (Q : Y → List PlainSymbol → Type 0) (dx : X → Option ℕ) (dy : Y → Option ℕ) (more : Sort → Bool) (symbols : List PlainSymbol) (f : X → Y)
    → ((x : X) (word : List PlainSymbol) → P x word → Q (f x) word) → ((x : X) → dy (f x) ≡ dx x) → Comes P Q more symbols f
    → (o : Outcome X) → FindsExactly P dx more symbols o → FindsExactly Q dy more symbols (and_then o (λ x rest. got (f x) rest))
mapped_at P Q dx dy more symbols f to places from (got x rest) a = record {
  used = a.used;
  split = a.split;
  derived = to x a.used a.derived;
  shallow = places x ∙ a.shallow;
  only = λ y word after is out same.
      let come = from y word after a.used rest a.split is out same in
      let one = a.only come.0 word after come.2 out same in
      (come.1 ∙ ap f one.0, one.1);
}
mapped_at P Q dx dy more symbols f to places from (stuck rest) a = record {
  used = a.used;
  split = a.split;
  begun = λ place. let go = a.begun place in (go.0, f go.1, to go.1 (a.used ++ go.0) go.2, subst (λ (o : Option ℕ). IfAt o place) (sym (places go.1)) go.3);
  none = λ y word after is out same.
      let come = from y word after a.used rest a.split is out same in
      a.none come.0 word after come.2 out same;
}
mapped_at P Q dx dy more symbols f to places from (deep rest) a = record {
  used = a.used;
  symbol = a.symbol;
  left = a.left;
  next = a.next;
  split = a.split;
  begun = let go = a.begun in (go.0, f go.1, to go.1 (a.used ++ a.symbol ∷ go.0) go.2, places go.1 ∙ go.3);
  all = λ y word after is out same.
      let come = from y word after a.used rest a.split is out same in
      ap dy come.1 ∙ (places come.0 ∙ a.all come.0 word after come.2 out same);
}

unchanged : {X : Type 0} (o : Outcome X) → and_then o (λ x rest. got x rest) ≡ o
unchanged (got x rest) = refl
unchanged (stuck rest) = refl
unchanged (deep rest) = refl

pub relabelled_at : {X : Type 0} (P Q : X → List PlainSymbol → Type 0) (dx dy : X → Option ℕ) (more : Sort → Bool) (symbols : List PlainSymbol)
    → ((x : X) (word : List PlainSymbol) → P x word → Q x word) → ((x : X) → dy x ≡ dx x) → Comes P Q more symbols (λ x. x)
    → (o : Outcome X) → FindsExactly P dx more symbols o → FindsExactly Q dy more symbols o
relabelled_at {X = X} P Q dx dy more symbols to places from o a =
    subst (λ (found : Outcome X). FindsExactly Q dy more symbols found) (unchanged o) (mapped_at P Q dx dy more symbols (λ x. x) to places from o a)

pub mapped_exact : {X Y : Type 0} {P : X → List PlainSymbol → Type 0} {dx : X → Option ℕ} {more : Sort → Bool} {one : List PlainSymbol → Outcome X}
    (Q : Y → List PlainSymbol → Type 0) (dy : Y → Option ℕ) (f : X → Y) → IsExact P dx more one
    → ((x : X) (word : List PlainSymbol) → P x word → Q (f x) word) → ((y : Y) (word : List PlainSymbol) → Q y word → (x : X) × (y ≡ f x) × P x word) → ((x : X) → dy (f x) ≡ dx x)
    → IsExact Q dy more (mapped f one)
mapped_exact {P = P} {dx = dx} {more = more} {one = one} Q dy f a to from places = record {
  answers = λ symbols. mapped_at P Q dx dy more symbols f to places (λ y word after used rest split is out same. from y word is) (one symbols) (a.answers symbols);
  sample = λ place. let end = a.sample place in (end.0, f end.1, to end.1 end.0 end.2, subst (λ (o : Option ℕ). IfAt o place) (sym (places end.1)) end.3);
}

pub relabelled_exact : {X : Type 0} {P : X → List PlainSymbol → Type 0} {dx : X → Option ℕ} {more : Sort → Bool} {one : List PlainSymbol → Outcome X}
    (Q : X → List PlainSymbol → Type 0) (dy : X → Option ℕ) → IsExact P dx more one
    → ((x : X) (word : List PlainSymbol) → P x word → Q x word) → ((x : X) (word : List PlainSymbol) → Q x word → P x word) → ((x : X) → dy x ≡ dx x)
    → IsExact Q dy more one
relabelled_exact {P = P} {dx = dx} {more = more} {one = one} Q dy a to from places = record {
  answers = λ symbols. relabelled_at P Q dx dy more symbols to places (λ y word after used rest split is out same. (y, refl, from y word is)) (one symbols) (a.answers symbols);
  sample = λ place. let end = a.sample place in (end.0, end.1, to end.1 end.0 end.2, subst (λ (o : Option ℕ). IfAt o place) (sym (places end.1)) end.3);
}

-- more may be asked of what follows
widened_at : {X : Type 0} (P : X → List PlainSymbol → Type 0) (dx : X → Option ℕ) (more wide : Sort → Bool) (symbols : List PlainSymbol) → ((after : List PlainSymbol) → begins wide after ≡ false → begins more after ≡ false)
    → (o : Outcome X) → FindsExactly P dx more symbols o → FindsExactly P dx wide symbols o
widened_at P dx more wide symbols less (got x rest) a = record { used = a.used; split = a.split; derived = a.derived; shallow = a.shallow; only = λ y word after is out same. a.only y word after is (less after out) same }
widened_at P dx more wide symbols less (stuck rest) a = record { used = a.used; split = a.split; begun = a.begun; none = λ y word after is out same. a.none y word after is (less after out) same }
widened_at P dx more wide symbols less (deep rest) a =
    record { used = a.used; symbol = a.symbol; left = a.left; next = a.next; split = a.split; begun = a.begun; all = λ y word after is out same. a.all y word after is (less after out) same }

pub widened_exact : {X : Type 0} {P : X → List PlainSymbol → Type 0} {dx : X → Option ℕ} {more : Sort → Bool} {one : List PlainSymbol → Outcome X}
    (wide : Sort → Bool) → IsExact P dx more one → ((sort : Sort) → wide sort ≡ false → more sort ≡ false) → IsExact P dx wide one
widened_exact {P = P} {dx = dx} {more = more} {one = one} wide a less = record {
  answers = λ symbols. widened_at P dx more wide symbols (λ after. elim after as (λ (list : List PlainSymbol). begins wide list ≡ false → begins more list ≡ false) [ [] ↦ λ out. refl | c ∷ rest ↦ λ out. less c.sort out ]) (one symbols) (a.answers symbols);
  sample = a.sample;
}

-- ---- one symbol

abbrev pub no_more : Sort → Bool
no_more sort = false

abbrev pub no_blocks : {X : Type 0} → X → Option ℕ
no_blocks x = None

sample_of : Sort → PlainSymbol
sample_of sort = record { sort = sort; bytes = []; value = pos 0; at = 0 }

found_at : (sort : Sort) (c : PlainSymbol) (rest : List PlainSymbol) (flag : Bool) → same c.sort sort ≡ flag
    → FindsExactly (IsSymbol sort) no_blocks no_more (c ∷ rest) (cond flag (got c rest) (stuck (c ∷ rest)))
unfolding sample_of
found_at sort c rest true is = record {
  used = c ∷ [];
  split = refl;
  derived = (refl, same_is c.sort sort is);
  shallow = refl;
  only = λ x word after (one, sorted) out goes.
      let alike = subst (λ (list : List PlainSymbol). Agrees (list ++ after) (c ∷ []) rest) one goes in
      let head = agrees_head (x ∷ after) (c ∷ []) rest c rest refl alike in
      let both : x ∷ after ≡ c ∷ head.0 = head.1 in
      let first : x ≡ c = cc in
      (first, one ∙ ap (λ (symbol : PlainSymbol). symbol ∷ []) first);
}
found_at sort c rest false is = record {
  used = [];
  split = refl;
  begun = λ place. (sample_of sort ∷ [], sample_of sort, (refl, refl), tt);
  none = λ x word after (one, sorted) out goes.
      let alike = subst (λ (list : List PlainSymbol). Agrees (list ++ after) [] (c ∷ rest)) one goes in
      let head = agrees_head (x ∷ after) [] (c ∷ rest) c rest refl alike in
      let both : x ∷ after ≡ c ∷ head.0 = head.1 in
      let first : x ≡ c = cc in
      let sorts : c.sort ≡ sort = ap (λ (symbol : PlainSymbol). symbol.sort) (sym first) ∙ sorted in
      not_both (subst (λ (other : Sort). same c.sort other ≡ true) sorts (is_same c.sort)) is;
}

symbol_at : (sort : Sort) (symbols : List PlainSymbol) → FindsExactly (IsSymbol sort) no_blocks no_more symbols (symbol_of sort symbols)
unfolding symbol_of sample_of
symbol_at sort [] = record {
  used = [];
  split = refl;
  begun = λ place. (sample_of sort ∷ [], sample_of sort, (refl, refl), tt);
  none = λ x word after (one, sorted) out same.
      let empty : x ∷ after ≡ [] = subst (λ (list : List PlainSymbol). list ++ after ≡ []) one same in
      absurd cc;
}
symbol_at sort (c ∷ rest) = found_at sort c rest (same c.sort sort) refl

pub symbol_exact : (sort : Sort) → IsExact (IsSymbol sort) no_blocks no_more (symbol_of sort)
unfolding sample_of
symbol_exact sort = record {
  answers = symbol_at sort;
  sample = λ place. (sample_of sort ∷ [], sample_of sort, (refl, refl), tt);
}

abbrev pub MarkOf : Sort → Unit {0} → List PlainSymbol → Type 0
MarkOf sort nil = IsMark sort

pub mark_exact : (sort : Sort) → IsExact (MarkOf sort) no_blocks no_more (mark sort)
mark_exact sort = mapped_exact (MarkOf sort) no_blocks (λ symbol. tt) (symbol_exact sort)
    (λ symbol word is. record { symbol = symbol; only = is.0; sorted = is.1 })
    (λ nil word is. (is.symbol, refl, (is.only, is.sorted)))
    (λ symbol. refl)

pub place_exact : (sort : Sort) → IsExact (IsPlaced sort) no_blocks no_more (mark_place sort)
place_exact sort = mapped_exact (IsPlaced sort) no_blocks (λ symbol. symbol.at) (symbol_exact sort)
    (λ symbol word is. record { symbol = symbol; only = is.0; sorted = is.1; placed = refl })
    (λ at word is. (is.symbol, sym is.placed, (is.only, is.sorted)))
    (λ symbol. refl)

pub symbol_begins : (sort : Sort) (test : Sort → Bool) → test sort ≡ true → BeginsWith (IsSymbol sort) test
symbol_begins sort test holds symbol word is = (symbol, [], is.0, subst (λ (other : Sort). test other ≡ true) (sym is.1) holds)

pub mark_begins : (sort : Sort) (test : Sort → Bool) → test sort ≡ true → BeginsWith (MarkOf sort) test
mark_begins sort test holds nil word is = (is.symbol, [], is.only, subst (λ (other : Sort). test other ≡ true) (sym is.sorted) holds)

pub place_begins : (sort : Sort) (test : Sort → Bool) → test sort ≡ true → BeginsWith (IsPlaced sort) test
place_begins sort test holds at word is = (is.symbol, [], is.only, subst (λ (other : Sort). test other ≡ true) (sym is.sorted) holds)

-- a pair begins as its first part does
pub pair_begins : {X Y : Type 0} {P : X → List PlainSymbol → Type 0} (Q : Y → List PlainSymbol → Type 0) (test : Sort → Bool) → BeginsWith P test → BeginsWith (Paired P Q) test
pair_begins Q test begin both word is =
    let head = begin both.0 is.0 is.3 in
    (head.0, head.1 ++ is.1, is.2 ∙ ap (λ (list : List PlainSymbol). list ++ is.1) head.2, head.3)

-- ---- choices

pub choice_exact : {X : Type 0} {P Q : X → List PlainSymbol → Type 0} {dx : X → Option ℕ} {more : Sort → Bool} {one other : List PlainSymbol → Outcome X}
    (test : Sort → Bool) → IsExact P dx more one → IsExact Q dx more other → BeginsWith P test
    → ((x : X) (word after : List PlainSymbol) → Q x word → begins more after ≡ false → begins test (word ++ after) ≡ false)
    → IsExact (λ x word. P x word ⊎ Q x word) dx more (choice test one other)
choice_exact {X = X} {P = P} {Q = Q} {dx = dx} {more = more} {one = one} {other = other} test a b firsts aside = record {
  answers = λ symbols. chosen symbols (begins test symbols) refl;
  sample = λ place. let end = b.sample place in (end.0, end.1, inr end.2, end.3);
} where
  chosen : (symbols : List PlainSymbol) (flag : Bool) → begins test symbols ≡ flag
      → FindsExactly (λ x word. P x word ⊎ Q x word) dx more symbols (cond flag (one symbols) (other symbols))
  chosen symbols true is = relabelled_at P (λ x word. P x word ⊎ Q x word) dx dx more symbols (λ x word h. inl h) (λ x. refl)
      (λ y word after used rest split found out same.
      elim found as (λ f. (x : X) × (y ≡ x) × P x word) [
        | inl h ↦ (y, refl, h)
        | inr h ↦ absurd (not_both (same_begins test symbols (word ++ after) used rest split same ∙ is) (aside y word after h out))
      ])
      (one symbols) (a.answers symbols)
  chosen symbols false is = relabelled_at Q (λ x word. P x word ⊎ Q x word) dx dx more symbols (λ x word h. inr h) (λ x. refl)
      (λ y word after used rest split found out same.
      elim found as (λ f. (x : X) × (y ≡ x) × Q x word) [
        | inl h ↦ absurd (not_both (word_begins P test firsts y word after h) (same_begins test symbols (word ++ after) used rest split same ∙ is))
        | inr h ↦ (y, refl, h)
      ])
      (other symbols) (b.answers symbols)

-- nothing at all, standing for one value
abbrev pub EmptyFor : {X : Type 0} → X → X → List PlainSymbol → Type 0
EmptyFor x y word = (y ≡ x) × (word ≡ [])

pub nothing_exact : {X : Type 0} (x : X) (dx : X → Option ℕ) (more : Sort → Bool) → dx x ≡ None → IsExact (EmptyFor x) dx more (nothing x)
nothing_exact x dx more shallow = record {
  answers = λ symbols. record { used = []; split = refl; derived = (refl, refl); shallow = shallow; only = λ y word after is out same. is };
  sample = λ place. ([], x, (refl, refl), subst (λ (o : Option ℕ). IfAt o place) (sym shallow) tt);
}
