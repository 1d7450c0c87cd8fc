-- Lists that go on alike.
use Rattle.std.proofs.Common.{◌≡◌, ℕ, Option, Some, None, List, [], ◌∷◌, ◌++◌, length, refl, sym, ap, subst, ◌∙◌, append_assoc, length-append, arith}
use Rattle.nddl_grammar.specs.Symbols.{PlainSymbol}
use Rattle.nddl_grammar.specs.Exact.{Agrees, earlier, IfAt}

pub append_none : (one : List PlainSymbol) → one ++ [] ≡ one
append_none [] = refl
append_none (c ∷ one) = ap (λ (more : List PlainSymbol). c ∷ more) (append_none one)

pub same_rest : (one : List PlainSymbol) (rest left : List PlainSymbol) → one ++ rest ≡ one ++ left → rest ≡ left
same_rest [] rest left same = same
same_rest (c ∷ one) rest left same = let inner : one ++ rest ≡ one ++ left = cc in same_rest one rest left inner

pub not_shorter : (one : List PlainSymbol) (c : PlainSymbol) (rest : List PlainSymbol) → one ≡ one ++ c ∷ rest → ⊥
not_shorter one c rest same = let longer : length one ≡ length (one ++ c ∷ rest) = ap length same in omega (arith, longer, length-append one (c ∷ rest))

-- what agrees with two parts agrees with the first
pub agrees_front : (other one two rest : List PlainSymbol) → Agrees other (one ++ two) rest → Agrees other one (two ++ rest)
agrees_front other one [] [] same = same ∙ append_none one
agrees_front other one (c ∷ two) [] same = (two ++ [], same ∙ ap (λ (more : List PlainSymbol). one ++ c ∷ more) (sym (append_none two)))
agrees_front other one [] (d ∷ rest) (after, same) = (after, same ∙ ap (λ (front : List PlainSymbol). front ++ d ∷ after) (append_none one))
agrees_front other one (c ∷ two) (d ∷ rest) (after, same) = (two ++ d ∷ after, same ∙ append_assoc one (c ∷ two) (d ∷ after))

-- and behind it with the second
pub agrees_back : (other one two rest : List PlainSymbol) → Agrees (one ++ other) (one ++ two) rest → Agrees other two rest
agrees_back other one two [] same = same_rest one other two same
agrees_back other one two (d ∷ rest) (after, same) = (after, same_rest one other (two ++ d ∷ after) (same ∙ append_assoc one two (d ∷ after)))

-- what agrees with symbols that aren't all begins as they do
pub agrees_head : (other used rest : List PlainSymbol) (c : PlainSymbol) (more : List PlainSymbol) → c ∷ more ≡ used ++ rest → Agrees other used rest → (after : List PlainSymbol) × (other ≡ c ∷ after)
agrees_head other [] [] c more split same = absurd cc
agrees_head other [] (d ∷ rest) c more split (after, same) = (after, let head : c ≡ d = cc in subst (λ (first : PlainSymbol). other ≡ first ∷ after) (sym head) same)
agrees_head other (d ∷ used) [] c more split same = (used, let head : c ≡ d = cc in subst (λ (first : PlainSymbol). other ≡ first ∷ used) (sym head) same)
agrees_head other (d ∷ used) (e ∷ rest) c more split (after, same) =
    (used ++ e ∷ after, let head : c ≡ d = cc in subst (λ (first : PlainSymbol). other ≡ first ∷ (used ++ e ∷ after)) (sym head) same)

-- what agrees with all of no symbols is none
pub agrees_none : (other used rest : List PlainSymbol) → [] ≡ used ++ rest → Agrees other used rest → other ≡ []
agrees_none other [] [] split same = same
agrees_none other [] (d ∷ rest) split same = absurd cc
agrees_none other (d ∷ used) rest split same = absurd cc

-- a word in front, seen as the front of the whole
pub regroup : (one two rest : List PlainSymbol) → (one ++ two) ++ rest ≡ one ++ (two ++ rest)
regroup one two rest = append_assoc one two rest

pub if_at_both : (one other : Option ℕ) (place : ℕ) → IfAt one place → IfAt other place → IfAt (earlier one other) place
if_at_both None other place p q = q
if_at_both (Some at) other place p q = p

pub earlier_none : (one other : Option ℕ) → one ≡ None → other ≡ None → earlier one other ≡ None
earlier_none one other p q = subst (λ (first : Option ℕ). earlier first other ≡ None) (sym p) q

pub earlier_some : (one other : Option ℕ) (at : ℕ) → one ≡ Some at → earlier one other ≡ Some at
earlier_some one other at p = subst (λ (first : Option ℕ). earlier first other ≡ Some at) (sym p) refl

pub earlier_second : (one other : Option ℕ) → one ≡ None → earlier one other ≡ other
earlier_second one other p = subst (λ (first : Option ℕ). earlier first other ≡ other) (sym p) refl
