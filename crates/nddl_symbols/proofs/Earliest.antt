-- The earliest of faults.
use Rattle.std.proofs.Common.{◌≡◌, ℕ, zero, suc, ◌<◌, Bool, true, false, List, [], ◌∷◌, ◌++◌, ◌||◌, ◌&&◌, ◌==◌, nat_lt, refl, sym, subst, inl, inr, arith, rules}
use Rattle.std.specs.Prelude.{◌⊎◌, Option, Some, None, Contains}
use Rattle.std.proofs.lemmas.Grind.{common_steps}
use Rattle.std.proofs.lemmas.Option.{same_Some}
use Rattle.nddl_ast.specs.Kinds.{kind_rank}
use Rattle.nddl_symbols.specs.declared.fault.Fault.{Fault}
use Rattle.nddl_symbols.specs.Finding.{IsFaultBefore, is_fault_before, earlier_fault, earliest_fault, HasNoLater, Finds, FindsEarliest}

pub earliest_append : (first : Option Fault) (one other : List Fault)
    → earliest_fault first (one ++ other) ≡ earliest_fault (earliest_fault first one) other
earliest_append first [] other = refl
earliest_append first (fault ∷ one) other = earliest_append (earlier_fault first fault) one other

-- the three numbers by which faults are put in order
abbrev Comes : ℕ → ℕ → ℕ → ℕ → ℕ → ℕ → Type 0
Comes a b c d e f = (a < d) ⊎ ((a ≡ d) × ((b < e) ⊎ ((b ≡ e) × (c < f))))

comes_true : (a b c d e f : ℕ) → (nat_lt a d || (a == d && (nat_lt b e || (b == e && nat_lt c f)))) ≡ true → Comes a b c d e f
comes_true a b c d e f is = first_of (search rules, grind (arith, common_steps))

comes_false : (a b c d e f : ℕ) → (nat_lt a d || (a == d && (nat_lt b e || (b == e && nat_lt c f)))) ≡ false → Comes a b c d e f → ⊥
comes_false a b c d e f is before = first_of (search rules, grind (arith, common_steps))

comes_between : (a b c d e f g h i : ℕ) → (Comes a b c d e f → ⊥) → (Comes d e f g h i → ⊥) → Comes a b c g h i → ⊥
comes_between a b c d e f g h i first second before = first_of (grind arith, search rules)

before_true : (one other : Fault) → is_fault_before one other ≡ true → IsFaultBefore one other
before_true one other is =
    comes_true one.place.decl one.place.at (kind_rank one.kind) other.place.decl other.place.at (kind_rank other.kind) is

before_false : (one other : Fault) → is_fault_before one other ≡ false → IsFaultBefore one other → ⊥
before_false one other is before =
    comes_false one.place.decl one.place.at (kind_rank one.kind) other.place.decl other.place.at (kind_rank other.kind) is before

not_before_itself : (fault : Fault) → IsFaultBefore fault fault → ⊥
not_before_itself fault (inl less) = omega arith
not_before_itself fault (inr (same, inl less)) = omega arith
not_before_itself fault (inr (same, inr (at, less))) = omega arith

-- what comes before the third comes before the second, or that before the third
between : (one two three : Fault) → (IsFaultBefore one two → ⊥) → (IsFaultBefore two three → ⊥) → IsFaultBefore one three → ⊥
between one two three first second before =
    comes_between one.place.decl one.place.at (kind_rank one.kind) two.place.decl two.place.at (kind_rank two.kind)
    three.place.decl three.place.at (kind_rank three.kind) first second before

comes_both : (a b c d e f : ℕ) → Comes a b c d e f → Comes d e f a b c → ⊥
comes_both a b c d e f one other = first_of (grind arith, search rules)

not_both : (one other : Fault) → IsFaultBefore one other → IsFaultBefore other one → ⊥
not_both one other =
    comes_both one.place.decl one.place.at (kind_rank one.kind) other.place.decl other.place.at (kind_rank other.kind)

-- what has none later than it still has none after a step that leaves each a no later one
no_later : (old new : Option Fault) (fault : Fault) → ((other : Fault) → old ≡ Some other → HasNoLater new other)
    → HasNoLater old fault → HasNoLater new fault
no_later old new fault step (found, is, least) =
    let next : HasNoLater new found = step found is in
    (next.0, next.1, λ before. between fault found next.0 least next.2 before)

-- one fault more
one_more : (old : Option Fault) (fault : Fault) → Finds (λ other. other ≡ fault) old (earlier_fault old fault)
one_more None fault = record {
  found = λ other is. inr (sym (same_Some fault other is));
  first = λ other is. noted other is;
}
  where
    noted : (other : Fault) → (None ≡ Some other) ⊎ (other ≡ fault) → HasNoLater (Some fault) other
    noted other (inl never) = absurd (let e : None ≡ Some other = never in cc)
    noted other (inr same) = (fault, refl, λ before. not_before_itself fault (let P : Fault → Type 0 = λ f. IsFaultBefore f fault in subst P same before))
one_more (Some found) fault = by (is_fault_before fault found) refl
  where
    of_old : (other : Fault) → Some found ≡ Some other → other ≡ found
    of_old other is = sym (same_Some found other is)

    by : (b : Bool) → is_fault_before fault found ≡ b → Finds (λ other. other ≡ fault) (Some found) (earlier_fault (Some found) fault)
    by true is = rw is (record {
      found = λ other same. inr (sym (same_Some fault other same));
      first = λ other among. chosen other among;
    })
      where
        chosen : (other : Fault) → (Some found ≡ Some other) ⊎ (other ≡ fault) → HasNoLater (Some fault) other
        chosen other (inl same) = (
          fault,
          refl,
          λ before. not_both fault found (before_true fault found is)
              (let P : Fault → Type 0 = λ f. IsFaultBefore f fault in subst P (of_old other same) before),
        )
        chosen other (inr same) = (fault, refl, λ before. not_before_itself fault (let P : Fault → Type 0 = λ f. IsFaultBefore f fault in subst P same before))
    by false is = rw is (record {
      found = λ other same. inl same;
      first = λ other among. kept other among;
    })
      where
        kept : (other : Fault) → (Some found ≡ Some other) ⊎ (other ≡ fault) → HasNoLater (Some found) other
        kept other (inl same) = (found, refl, λ before. not_before_itself found (let P : Fault → Type 0 = λ f. IsFaultBefore f found in subst P (of_old other same) before))
        kept other (inr same) = (found, refl, λ before. before_false fault found is (let P : Fault → Type 0 = λ f. IsFaultBefore f found in subst P same before))

-- one fault more before others
more_first : (old : Option Fault) (one : Fault) (more : List Fault) (mid new : Option Fault)
    → Finds (λ other. other ≡ one) old mid → Finds (Contains more) mid new → Finds (Contains (one ∷ more)) old new
more_first old one more mid new step rest = record {
  found = λ fault is. of_step fault (rest.found fault is);
  first = of_all;
}
  where
    of_old : (fault : Fault) → (old ≡ Some fault) ⊎ (fault ≡ one) → (old ≡ Some fault) ⊎ Contains (one ∷ more) fault
    of_old fault (inl is) = inl is
    of_old fault (inr same) = inr (0, omega arith, sym same)

    of_step : (fault : Fault) → (mid ≡ Some fault) ⊎ Contains more fault → (old ≡ Some fault) ⊎ Contains (one ∷ more) fault
    of_step fault (inl is) = of_old fault (step.found fault is)
    of_step fault (inr (k, within, is)) = inr (suc k, omega arith, is)

    first_step : (fault : Fault) → (old ≡ Some fault) ⊎ (fault ≡ one) → HasNoLater new fault
    first_step fault among = no_later mid new fault (λ other is. rest.first other (inl is)) (step.first fault among)

    of_all : (fault : Fault) → (old ≡ Some fault) ⊎ Contains (one ∷ more) fault → HasNoLater new fault
    of_all fault (inl is) = first_step fault (inl is)
    of_all fault (inr (zero, within, is)) = first_step fault (inr (sym is))
    of_all fault (inr (suc k, within, is)) = rest.first fault (inr (k, omega arith, is))

none_left : (old : Option Fault) (fault : Fault) → (old ≡ Some fault) ⊎ Contains [] fault → HasNoLater old fault
none_left old fault (inl is) = (fault, is, not_before_itself fault)
none_left old fault (inr (k, within, is)) = absurd (omega arith)

pub finds_earliest : FindsEarliest
finds_earliest old [] = record { found = λ fault is. inl is; first = none_left old }
finds_earliest old (one ∷ more) =
    let mid = earlier_fault old one in
    more_first old one more mid (earliest_fault mid more) (one_more old one) (finds_earliest mid more)
