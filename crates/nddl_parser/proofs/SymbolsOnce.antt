-- The lexemes of a text are one list of symbols.
use Rattle.std.proofs.Common.{◌≡◌, ℕ, ℤ, inl, inr, List, [], ◌∷◌, ◌++◌, codes, refl, sym, ap, subst, ◌∙◌}
use Rattle.std.proofs.lemmas.List.{append_cancel_right}
use Rattle.nddl_lexer.specs.Bytes.{AreDigits, unsigned}
use Rattle.nddl_lexer.specs.Spelling.{SpellsNumber, SpellsDecimal, thousandths_of, with_sign}
use Rattle.nddl_lexer.proofs.Sizes.{parts_once}
use Rattle.nddl_lexer.specs.declared.kinds.LexKind.{LexKind}
use Rattle.nddl_lexer.specs.declared.kinds.LexKind.TheVariants as kinds
use Rattle.nddl_lexer.specs.declared.kinds.Lexeme.{Lexeme}
use Rattle.nddl_lexer.specs.Reading.{bytes_of}
use Rattle.nddl_grammar.specs.declared.sort.Sort.{Sort}
use Rattle.nddl_grammar.specs.Symbols.{PlainSymbol}
use Rattle.nddl_parser.specs.Symbols.{KeepsBytes, HasValue, IsSymbolOf, AreSymbols}

no_digits : (bytes : List ℕ) → AreDigits bytes → bytes ≡ codes "inf" → ⊥
no_digits bytes digits is = let first = (subst AreDigits is digits).1.0 in absurd cc

pub number_once : (bytes : List ℕ) (one other : ℤ) → SpellsNumber bytes one → SpellsNumber bytes other → one ≡ other
number_once bytes one other (inl p) (inl q) = p.1 ∙ sym q.1
number_once bytes one other (inl p) (inr q) = absurd (no_digits (unsigned bytes) p.0 q.0)
number_once bytes one other (inr p) (inl q) = absurd (no_digits (unsigned bytes) q.0 p.0)
number_once bytes one other (inr p) (inr q) = p.1 ∙ sym q.1

pub decimal_once : (bytes : List ℕ) (one other : ℤ) → SpellsDecimal bytes one → SpellsDecimal bytes other → one ≡ other
decimal_once bytes one other p q =
    let same = parts_once (unsigned bytes) p.whole p.fraction q.whole q.fraction p.parts q.parts in
    let wholes = same.0 in
    let fractions = same.1 in
    let sizes : thousandths_of p.whole p.fraction ≡ thousandths_of q.whole q.fraction = ap (λ (xs : List ℕ). thousandths_of xs p.fraction) wholes ∙ ap (thousandths_of q.whole) fractions in
    p.value ∙ (ap (with_sign bytes) sizes ∙ sym q.value)

value_once : (kind : LexKind) (bytes : List ℕ) (one other : ℤ) → HasValue kind bytes one → HasValue kind bytes other → one ≡ other
value_once kinds.Number bytes one other p q = number_once bytes one other p q
value_once kinds.Decimal bytes one other p q = decimal_once bytes one other p q
value_once kind bytes one other p q = p ∙ sym q

inside_once : (one other : List ℕ) → 34 ∷ (one ++ 34 ∷ []) ≡ 34 ∷ (other ++ 34 ∷ []) → one ≡ other
inside_once one other same = let tails : one ++ 34 ∷ [] ≡ other ++ 34 ∷ [] = cc in append_cancel_right one other (34 ∷ []) tails

kept_once : (kind : LexKind) (bytes one other : List ℕ) → KeepsBytes kind bytes one → KeepsBytes kind bytes other → one ≡ other
kept_once kinds.Str bytes one other p q = inside_once one other (sym p ∙ q)
kept_once kind bytes one other p q = p ∙ sym q

abbrev symbol_with : Sort → List ℕ → ℤ → ℕ → PlainSymbol
symbol_with sort bytes value at = record { sort = sort; bytes = bytes; value = value; at = at }

symbol_same : (one other : Sort) (bytes kept : List ℕ) (value number : ℤ) (at place : ℕ) → one ≡ other → bytes ≡ kept → value ≡ number → at ≡ place
    → symbol_with one bytes value at ≡ symbol_with other kept number place
symbol_same one other bytes kept value number at place sorts keeps values places = cc

symbol_once : (text : List ℕ) (lexeme : Lexeme) (one other : PlainSymbol) → IsSymbolOf text lexeme one → IsSymbolOf text lexeme other → one ≡ other
symbol_once text lexeme one other p q = symbol_same one.sort other.sort one.bytes other.bytes one.value other.value one.at other.at
    (p.sort ∙ sym q.sort)
    (kept_once lexeme.kind (bytes_of text lexeme) one.bytes other.bytes p.bytes q.bytes)
    (value_once lexeme.kind (bytes_of text lexeme) one.value other.value p.value q.value)
    (p.at ∙ sym q.at)

pub symbols_once : (text : List ℕ) (lexemes : List Lexeme) (one other : List PlainSymbol) → AreSymbols text lexemes one → AreSymbols text lexemes other → one ≡ other
symbols_once text [] [] [] p q = refl
symbols_once text [] [] (c ∷ other) p q = absurd q
symbols_once text [] (c ∷ one) other p q = absurd p
symbols_once text (l ∷ lexemes) [] other p q = absurd p
symbols_once text (l ∷ lexemes) (c ∷ one) [] p q = absurd q
symbols_once text (l ∷ lexemes) (c ∷ one) (d ∷ other) p q =
    let heads = symbol_once text l c d p.0 q.0 in
    let tails = symbols_once text lexemes one other p.1 q.1 in
    cc
