-- What is found of one symbol.
use Rattle.std.proofs.Common.{◌≡◌, ℕ, zero, suc, Bool, true, false, cond, List, [], ◌∷◌, drop, refl, sym, ap, subst, ◌∙◌}
use Rattle.nddl_grammar.specs.declared.sort.Sort.{Sort}
use Rattle.nddl_grammar.proofs.OneSort.{same_is}
use Rattle.nddl_grammar.specs.Sorts.{same}
use Rattle.nddl_grammar.specs.Symbols.{PlainSymbol}
use Rattle.nddl_grammar.specs.Readers.{got, stuck, symbol_of}

pub taken : (sort : Sort) (symbol : PlainSymbol) (symbols rest left : List PlainSymbol) → symbols ≡ symbol ∷ rest → same symbol.sort sort ≡ true → left ≡ rest → symbol_of sort symbols ≡ got symbol left
unfolding symbol_of
taken sort symbol symbols rest left is holds alike =
    subst (λ (list : List PlainSymbol). symbol_of sort list ≡ got symbol left) (sym is)
    (subst (λ (flag : Bool). cond flag (got symbol rest) (stuck (symbol ∷ rest)) ≡ got symbol left) (sym holds) (ap (λ (list : List PlainSymbol). got symbol list) (sym alike)))

pub refused : (sort : Sort) (symbol : PlainSymbol) (symbols rest : List PlainSymbol) → symbols ≡ symbol ∷ rest → same symbol.sort sort ≡ false → symbol_of sort symbols ≡ stuck symbols
unfolding symbol_of
refused sort symbol symbols rest is fails =
    subst (λ (list : List PlainSymbol). symbol_of sort list ≡ stuck list) (sym is)
    (subst (λ (flag : Bool). cond flag (got symbol rest) (stuck (symbol ∷ rest)) ≡ stuck (symbol ∷ rest)) (sym fails) refl)

pub none_taken : (sort : Sort) (symbols : List PlainSymbol) → symbols ≡ [] → symbol_of sort symbols ≡ stuck symbols
unfolding symbol_of
none_taken sort symbols is = subst (λ (list : List PlainSymbol). symbol_of sort list ≡ stuck list) (sym is) refl

pub after_first : (n : ℕ) (symbols rest : List PlainSymbol) (symbol : PlainSymbol) → drop n symbols ≡ symbol ∷ rest → drop (suc n) symbols ≡ rest
after_first zero [] rest symbol is = absurd cc
after_first zero (c ∷ symbols) rest symbol is = cc
after_first (suc n) [] rest symbol is = absurd cc
after_first (suc n) (c ∷ symbols) rest symbol is = after_first n symbols rest symbol is

-- what is taken is of the sort
pub taken_sort : (sort : Sort) (symbols rest : List PlainSymbol) (symbol : PlainSymbol) → symbol_of sort symbols ≡ got symbol rest → symbol.sort ≡ sort
unfolding symbol_of
taken_sort sort [] rest symbol is = absurd cc
taken_sort sort (c ∷ symbols) rest symbol is = chosen (same c.sort sort) refl is where
  chosen : (flag : Bool) → same c.sort sort ≡ flag → cond flag (got c symbols) (stuck (c ∷ symbols)) ≡ got symbol rest → symbol.sort ≡ sort
  chosen true holds found = let one : c ≡ symbol = cc in ap (λ (x : PlainSymbol). x.sort) (sym one) ∙ same_is c.sort sort holds
  chosen false fails found = absurd cc
