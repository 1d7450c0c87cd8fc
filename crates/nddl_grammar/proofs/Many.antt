-- Items one after another, read exactly.
use Rattle.std.proofs.Common.{◌≡◌, ℕ, zero, suc, ◌≤◌, Bool, true, false, ◌||◌, cond, Option, List, [], ◌∷◌, ◌++◌, length, refl, sym, ap, subst, ◌∙◌, arith, length-append}
use Rattle.nddl_grammar.specs.declared.sort.Sort.{Sort}
use Rattle.nddl_grammar.specs.Symbols.{PlainSymbol}
use Rattle.nddl_grammar.specs.Readers.{Outcome, got, begins, mapped, sequence, repeated, many}
use Rattle.nddl_grammar.specs.Exact.{AreMany, earliest, Agrees, IsRead, FindsExactly, BeginsWith, IsExact}
use Rattle.nddl_grammar.proofs.Sequence.{Paired, deeper, sequence_at}
use Rattle.nddl_grammar.proofs.Combine.{not_both, same_begins, mapped_at}

-- what begins an item, or goes on the last one
abbrev pub wider : (test more : Sort → Bool) → Sort → Bool
wider test more sort = test sort || more sort

pub or_one : (one other : Bool) → one || other ≡ false → one ≡ false
or_one true other p = p
or_one false other p = refl

pub or_second : (one other : Bool) → one || other ≡ false → other ≡ false
or_second true other p = absurd cc
or_second false other p = p

pub begins_first : (test more : Sort → Bool) (symbols : List PlainSymbol) → begins (wider test more) symbols ≡ false → begins test symbols ≡ false
begins_first test more [] p = refl
begins_first test more (c ∷ rest) p = or_one (test c.sort) (more c.sort) p

pub begins_second : (test more : Sort → Bool) (symbols : List PlainSymbol) → begins (wider test more) symbols ≡ false → begins more symbols ≡ false
begins_second test more [] p = refl
begins_second test more (c ∷ rest) p = or_second (test c.sort) (more c.sort) p

-- a list of items is empty or begins as an item does
pub many_follow : {X : Type 0} (P : X → List PlainSymbol → Type 0) (test more : Sort → Bool) → BeginsWith P test → ((sort : Sort) → test sort ≡ true → more sort ≡ false)
    → (xs : List X) (word after : List PlainSymbol) → AreMany P xs word → begins (wider test more) after ≡ false → begins more (word ++ after) ≡ false
many_follow P test more firsts apart [] word after is out = subst (λ (list : List PlainSymbol). begins more (list ++ after) ≡ false) (sym is) (begins_second test more after out)
many_follow P test more firsts apart (x ∷ xs) word after is out =
    let head = firsts x is.0 is.3 in
    let front : word ≡ (head.0 ∷ head.1) ++ is.1 = is.2 ∙ ap (λ (list : List PlainSymbol). list ++ is.1) head.2 in
    subst (λ (list : List PlainSymbol). begins more (list ++ after) ≡ false) (sym front) (apart head.0.sort head.3)

-- no item is left where the next symbol begins none
none_left : {X : Type 0} (P : X → List PlainSymbol → Type 0) (test more : Sort → Bool) → BeginsWith P test → (symbols : List PlainSymbol) → begins test symbols ≡ false
    → (xs : List X) (word after : List PlainSymbol) → AreMany P xs word → Agrees (word ++ after) [] symbols → (xs ≡ []) × (word ≡ [])
none_left P test more firsts symbols end [] word after is same = (refl, is)
none_left P test more firsts symbols end (x ∷ xs) word after is same =
    let head = firsts x is.0 is.3 in
    let front : word ≡ (head.0 ∷ head.1) ++ is.1 = is.2 ∙ ap (λ (list : List PlainSymbol). list ++ is.1) head.2 in
    let begin : begins test (word ++ after) ≡ true = subst (λ (list : List PlainSymbol). begins test (list ++ after) ≡ true) (sym front) head.3 in
    absurd (not_both begin (same_begins test symbols (word ++ after) [] symbols refl same ∙ end))

empty_read : {X : Type 0} (P : X → List PlainSymbol → Type 0) (dx : X → Option ℕ) (test more : Sort → Bool) → BeginsWith P test → (symbols : List PlainSymbol) → begins test symbols ≡ false
    → IsRead (AreMany P) (earliest dx) (wider test more) symbols [] symbols
empty_read P dx test more firsts symbols end = record {
  used = [];
  split = refl;
  derived = refl;
  shallow = refl;
  only = λ xs word after is out same. none_left P test more firsts symbols end xs word after is same;
}

no_symbols : (test : Sort → Bool) (symbols : List PlainSymbol) → length symbols ≤ 0 → begins test symbols ≡ false
no_symbols test [] small = refl
no_symbols test (c ∷ rest) small = absurd (omega arith)

-- what an item leaves is less
left_less : {X : Type 0} (P : X → List PlainSymbol → Type 0) (test : Sort → Bool) → BeginsWith P test → (symbols used rest : List PlainSymbol) (x : X) (n : ℕ) → symbols ≡ used ++ rest → P x used → length symbols ≤ suc n → length rest ≤ n
left_less P test firsts symbols used rest x n split is small =
    let head = firsts x used is in
    let sizes : length symbols ≡ length (used ++ rest) = ap length split in
    let some : length used ≡ length (head.0 ∷ head.1) = ap length head.2 in
    omega (arith, sizes, some, length-append used rest)

repeated_step : {X : Type 0} (P : X → List PlainSymbol → Type 0) (dx : X → Option ℕ) (test more : Sort → Bool) (item : List PlainSymbol → Outcome X)
    → BeginsWith P test → ((sort : Sort) → test sort ≡ true → more sort ≡ false) → ((symbols : List PlainSymbol) → FindsExactly P dx more symbols (item symbols))
    → (n : ℕ) → ((symbols : List PlainSymbol) → length symbols ≤ n → FindsExactly (AreMany P) (earliest dx) (wider test more) symbols (repeated n test item symbols))
    → (symbols : List PlainSymbol) → length symbols ≤ suc n → (flag : Bool) → begins test symbols ≡ flag
    → FindsExactly (AreMany P) (earliest dx) (wider test more) symbols (cond flag (mapped (λ both. both.0 ∷ both.1) (sequence item (repeated n test item)) symbols) (got [] symbols))
repeated_step P dx test more item firsts apart exact n later symbols small false is = empty_read P dx test more firsts symbols is
repeated_step {X = X} P dx test more item firsts apart exact n later symbols small true is =
    mapped_at (Paired P (AreMany P)) (AreMany P) (deeper dx (earliest dx)) (earliest dx) (wider test more) symbols (λ both. both.0 ∷ both.1)
    (λ both word h. h) (λ both. refl)
    (λ ys word after used rest split h out same.
    elim ys as (λ list. AreMany P list word → (both : X × List X) × (list ≡ both.0 ∷ both.1) × Paired P (AreMany P) both word) [
      | [] ↦ λ g.
          let begin : begins test (word ++ after) ≡ false = subst (λ (list : List PlainSymbol). begins test (list ++ after) ≡ false) (sym g) (begins_first test more after out) in
          absurd (not_both (same_begins test symbols (word ++ after) used rest split same ∙ is) begin)
      | x ∷ xs ↦ λ g. ((x, xs), refl, g)
    ] h)
    (sequence item (repeated n test item) symbols)
    (sequence_at P (λ x. AreMany P) dx (earliest dx) more (wider test more) symbols (λ x. repeated n test item)
    (λ x. many_follow P test more firsts apart) (λ x place. ([], [], refl, tt))
    (item symbols) (exact symbols)
    (λ x rest found.
    let read = subst (λ (o : Outcome X). FindsExactly P dx more symbols o) found (exact symbols) in
    later rest (left_less P test firsts symbols read.used rest x n read.split read.derived small)))

repeated_at : {X : Type 0} (P : X → List PlainSymbol → Type 0) (dx : X → Option ℕ) (test more : Sort → Bool) (item : List PlainSymbol → Outcome X)
    → BeginsWith P test → ((sort : Sort) → test sort ≡ true → more sort ≡ false) → ((symbols : List PlainSymbol) → FindsExactly P dx more symbols (item symbols))
    → (n : ℕ) (symbols : List PlainSymbol) → length symbols ≤ n → FindsExactly (AreMany P) (earliest dx) (wider test more) symbols (repeated n test item symbols)
repeated_at P dx test more item firsts apart exact zero symbols small = empty_read P dx test more firsts symbols (no_symbols test symbols small)
repeated_at P dx test more item firsts apart exact (suc n) symbols small =
    repeated_step P dx test more item firsts apart exact n (repeated_at P dx test more item firsts apart exact n) symbols small (begins test symbols) refl

pub many_exact : {X : Type 0} {P : X → List PlainSymbol → Type 0} {dx : X → Option ℕ} {more : Sort → Bool} {item : List PlainSymbol → Outcome X} (test : Sort → Bool)
    → IsExact P dx more item → BeginsWith P test → ((sort : Sort) → test sort ≡ true → more sort ≡ false)
    → IsExact (AreMany P) (earliest dx) (wider test more) (many test item)
unfolding many
many_exact {P = P} {dx = dx} {more = more} {item = item} test a firsts apart = record {
  answers = λ symbols. repeated_at P dx test more item firsts apart a.answers (length symbols) symbols (omega arith);
  sample = λ place. ([], [], refl, tt);
}
