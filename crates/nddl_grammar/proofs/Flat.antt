-- Short forms of the laws, for parts without blocks.
use Rattle.std.proofs.Common.{◌≡◌, ℕ, Bool, true, false, not, Option, None, List, [], ◌∷◌, ◌++◌, refl, sym, ap, ◌∙◌}
use Rattle.nddl_grammar.specs.declared.sort.Sort.{Sort}
use Rattle.nddl_grammar.specs.Symbols.{PlainSymbol}
use Rattle.nddl_grammar.specs.Readers.{Outcome, sequence}
use Rattle.nddl_grammar.specs.Exact.{◌·◌, earliest, BeginsWith, IsExact}
use Rattle.nddl_grammar.proofs.Sequence.{Paired, deeper, Follows, sequence_exact}
use Rattle.nddl_grammar.proofs.Combine.{no_more, no_blocks, relabelled_exact}
use Rattle.nddl_grammar.proofs.Choices.{follows_none, follows_apart}

none_in : {X : Type 0} (xs : List X) → earliest {X = X} no_blocks xs ≡ None
none_in [] = refl
none_in (x ∷ xs) = none_in xs

-- a list of parts without blocks has none
pub flat : {X : Type 0} {P : List X → List PlainSymbol → Type 0} {more : Sort → Bool} {one : List PlainSymbol → Outcome (List X)} → IsExact P (earliest {X = X} no_blocks) more one → IsExact P no_blocks more one
flat {P = P} a = relabelled_exact P no_blocks a (λ x word h. h) (λ x word h. h) (λ xs. sym (none_in xs))

not_true : {b : Bool} → not b ≡ true → b ≡ false
not_true {b = true} p = absurd cc
not_true {b = false} p = refl

unfoldable pub refuses : (Sort → Bool) → Sort → Bool
refuses test sort = not (test sort)

-- the second part begins with what doesn't go on the first
pub apart : {Y : Type 0} (Q : Y → List PlainSymbol → Type 0) (test more : Sort → Bool) → BeginsWith Q (refuses test) → Follows Q test more
unfolding refuses
apart Q test more begin = follows_apart Q test more (refuses test) begin (λ sort holds. not_true holds)

-- one after the other, where nothing goes on the first
infixr 5 ◌>>◌
pub ◌>>◌ : {X Y : Type 0} {P : X → List PlainSymbol → Type 0} {Q : Y → List PlainSymbol → Type 0} {dx : X → Option ℕ} {dy : Y → Option ℕ} {more : Sort → Bool}
    {one : List PlainSymbol → Outcome X} {other : List PlainSymbol → Outcome Y} → IsExact P dx no_more one → IsExact Q dy more other → IsExact (Paired P Q) (deeper dx dy) more (sequence one other)
◌>>◌ {Q = Q} {more = more} a b = sequence_exact a b (follows_none Q more)

-- one after the other, where the second begins with what doesn't go on the first
pub closed : {X Y : Type 0} {P : X → List PlainSymbol → Type 0} {Q : Y → List PlainSymbol → Type 0} {dx : X → Option ℕ} {dy : Y → Option ℕ} {more_x more : Sort → Bool}
    {one : List PlainSymbol → Outcome X} {other : List PlainSymbol → Outcome Y} → IsExact P dx more_x one → IsExact Q dy more other → BeginsWith Q (refuses more_x) → IsExact (Paired P Q) (deeper dx dy) more (sequence one other)
closed {Q = Q} {more_x = more_x} {more = more} a b begin = sequence_exact a b (apart Q more_x more begin)

-- the word begins with a symbol that passes the test
abbrev pub Starts : (Sort → Bool) → List PlainSymbol → Type 0
Starts test word = (symbol : PlainSymbol) × (after : List PlainSymbol) × (word ≡ symbol ∷ after) × (test symbol.sort ≡ true)

pub front_starts : (test : Sort → Bool) (P Q : List PlainSymbol → Type 0) → ((word : List PlainSymbol) → P word → Starts test word) → (word : List PlainSymbol) → (P · Q) word → Starts test word
front_starts test P Q begin word h =
    let head = begin h.0 h.3 in
    (head.0, head.1 ++ h.1, h.2 ∙ ap (λ (list : List PlainSymbol). list ++ h.1) head.2, head.3)
