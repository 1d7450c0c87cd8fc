-- Items that are read one after another: what is still to be read, behind what was.
use Rattle.std.proofs.Common.{◌≡◌, ℕ, suc, Bool, true, cond, List, [], ◌∷◌, ◌++◌, length, refl, sym, ap, ◌∙◌, append_assoc}
use Rattle.nddl_grammar.specs.declared.sort.Sort.{Sort}
use Rattle.nddl_grammar.specs.Symbols.{PlainSymbol}
use Rattle.nddl_grammar.specs.Readers.{Outcome, got, stuck, deep, begins, and_then, mapped, sequence, repeated, many}

-- the items, and at most so many more of the rest, are what is wanted
pub record Onward {X : Type 0} (items : List X) (test : Sort → Bool) (item : List PlainSymbol → Outcome X) (n : ℕ) (rest : List PlainSymbol) (wanted : Outcome (List X)) : Type 0 where
  pub same : wanted ≡ and_then (repeated n test item rest) (λ more left. got (items ++ more) left)

alike : {X : Type 0} (o : Outcome (List X)) → o ≡ and_then o (λ more left. got ([] ++ more) left)
alike (got x rest) = refl
alike (stuck rest) = refl
alike (deep rest) = refl

pub onward_start : {X : Type 0} (test : Sort → Bool) (item : List PlainSymbol → Outcome X) (n : ℕ) (symbols : List PlainSymbol) → n ≡ length symbols → Onward [] test item n symbols (many test item symbols)
unfolding many
onward_start {X = X} test item n symbols is = record {
  same = alike (many test item symbols) ∙ ap (λ (k : ℕ). and_then (repeated k test item symbols) (λ more left. got ([] ++ more) left)) (sym is);
}

pub onward_from : {X : Type 0} (items : List X) (test : Sort → Bool) (item : List PlainSymbol → Outcome X) (n : ℕ) (symbols : List PlainSymbol) → n ≡ length symbols
    → Onward items test item n symbols (mapped (λ more. items ++ more) (many test item) symbols)
unfolding many
onward_from items test item n symbols is = record {
  same = ap (λ (k : ℕ). and_then (repeated k test item symbols) (λ more left. got (items ++ more) left)) (sym is);
}

gone : {X : Type 0} (n m : ℕ) (test : Sort → Bool) (item : List PlainSymbol → Outcome X) (rest : List PlainSymbol) → n ≡ suc m → begins test rest ≡ true
    → repeated n test item rest ≡ mapped (λ both. both.0 ∷ both.1) (sequence item (repeated m test item)) rest
gone n m test item rest is starts =
    ap (λ (k : ℕ). repeated k test item rest) is ∙ ap (λ (flag : Bool). cond flag (mapped (λ both. both.0 ∷ both.1) (sequence item (repeated m test item)) rest) (got [] rest)) starts

behind : {X : Type 0} (items : List X) (x : X) (o : Outcome (List X))
    → and_then (and_then (and_then {Y = X × List X} o (λ more left. got (x, more) left)) (λ both left. got (both.0 ∷ both.1) left)) (λ more left. got (items ++ more) left)
    ≡ and_then o (λ more left. got ((items ++ x ∷ []) ++ more) left)
behind items x (got more left) = ap (λ list. got list left) (sym (append_assoc items (x ∷ []) more))
behind items x (stuck left) = refl
behind items x (deep left) = refl

pub onward_step : {X : Type 0} (items all : List X) (test : Sort → Bool) (item : List PlainSymbol → Outcome X) (n m : ℕ) (rest left : List PlainSymbol) (x : X) (wanted : Outcome (List X))
    → Onward items test item n rest wanted → n ≡ suc m → begins test rest ≡ true → item rest ≡ got x left → all ≡ items ++ x ∷ [] → Onward all test item m left wanted
onward_step {X = X} items all test item n m rest left x wanted so is starts found grown = record {
  same =
      so.same
      ∙ (ap (λ (o : Outcome (List X)). and_then o (λ more end. got (items ++ more) end)) (gone n m test item rest is starts)
      ∙ (ap (λ (o : Outcome X). and_then (and_then (and_then o (λ y end. and_then {Y = X × List X} (repeated m test item end) (λ more far. got (y, more) far))) (λ both end. got (both.0 ∷ both.1) end)) (λ more end. got (items ++ more) end)) found
      ∙ (behind items x (repeated m test item left)
      ∙ ap (λ (list : List X). and_then (repeated m test item left) (λ more end. got (list ++ more) end)) (sym grown))));
}
