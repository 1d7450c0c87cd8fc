-- What is kept of a name.
use Rattle.std.proofs.Common.{◌≡◌, ℕ, List, sym, ap, ◌∙◌}
use Rattle.nddl_grammar.specs.declared.sort.Sort.TheVariants as sorts
use Rattle.nddl_grammar.specs.Symbols.{PlainSymbol}
use Rattle.nddl_grammar.specs.Readers.{Outcome, got, and_then, symbol_of}
use Rattle.nddl_grammar.specs.Productions.{name, name_of}

pub named : (symbols rest : List PlainSymbol) (symbol : PlainSymbol) (text : List ℕ) (at : ℕ) → symbol_of sorts.Name symbols ≡ got symbol rest → text ≡ symbol.bytes → at ≡ symbol.at
    → name symbols ≡ got (record { text = text; at = at }) rest
unfolding name
named symbols rest symbol text at is spelled placed =
    ap (λ (o : Outcome PlainSymbol). and_then o (λ c left. got (name_of c) left)) is ∙ (λ i. got (record { text = sym spelled i; at = sym placed i }) rest)
