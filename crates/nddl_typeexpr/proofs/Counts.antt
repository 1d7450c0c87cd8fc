-- How many members a set may have.
use Rattle.std.proofs.Common.{◌≡◌, ℕ, ◌+◌, ◌≤◌, Bool, true, false, List, [], ◌∷◌, ◌++◌, length, refl, sym, ◌∙◌, ap, arith, length-append}
use Rattle.std.specs.Prelude.{nat_lt, ℤ, Option, Some, None, if◌then◌else◌}
use Rattle.std.specs.List.{filter_map}
use Rattle.nddl_symbols.specs.declared.declared.Declared.{Declared}
use Rattle.nddl_symbols.specs.declared.fault.Fault.{Fault}
use Rattle.nddl_symbols.specs.Finding.{earliest_fault, is_fault_before}
use Rattle.nddl_ast.specs.declared.expression.Value.{Value}
use Rattle.nddl_typeexpr.specs.declared.kind.Extent.{Extent}
use Rattle.nddl_typeexpr.specs.declared.kind.TypeKind.{TypeKind}
use Rattle.nddl_typeexpr.specs.Bounds.{has_too_many, own_numbers}
use Rattle.nddl_typeexpr.specs.Values.{own_number}
use Rattle.nddl_typeexpr.specs.Members.{distinct_from, has_number, with_number}
use Rattle.nddl_typeexpr.specs.Types.{is_fine}

one_more : (numbers : List ℤ) (number : ℤ) (b : Bool)
    → length (if b then numbers else numbers ++ number ∷ []) ≤ length numbers + 1
one_more numbers number true = omega arith
one_more numbers number false = omega (arith, length-append numbers (number ∷ []))

few_distinct : (so_far numbers : List ℤ) → length (distinct_from so_far numbers) ≤ length so_far + length numbers
few_distinct so_far [] = omega arith
few_distinct so_far (number ∷ numbers) =
    let rest : length (distinct_from (with_number so_far number) numbers) ≤ length (with_number so_far number) + length numbers =
    few_distinct (with_number so_far number) numbers in
    let step : length (with_number so_far number) ≤ length so_far + 1 = one_more so_far number (has_number so_far number) in
    omega arith

few_own : {X : Type 0} (look : X → Option ℤ) (values : List X) → length (filter_map look values) ≤ length values
few_own look [] = omega arith
few_own look (value ∷ values) = by (look value) refl (few_own look values)
  where
    by : (o : Option ℤ) → look value ≡ o → length (filter_map look values) ≤ length values → length (filter_map look (value ∷ values)) ≤ length (value ∷ values)
    by None is rest = rw is (omega arith)
    by (Some number) is rest = rw is (omega arith)

-- few values have few members
pub few_values : (names : List Declared) (kind : TypeKind) (extent : Extent) (values : List Value) → length values ≤ 4096
    → has_too_many names kind extent values ≡ false
few_values names kind extent values few =
    let numbers = own_numbers names kind extent values in
    let own : length numbers ≤ length values = few_own (own_number names kind extent) values in
    let distinct : length (distinct_from [] numbers) ≤ 0 + length numbers = few_distinct [] numbers in
    let most : length (distinct_from [] numbers) ≤ 4096 = omega arith in
    not_less 4096 (length (distinct_from [] numbers)) most
  where
    not_less : (a b : ℕ) → b ≤ a → nat_lt a b ≡ false
    not_less a b below = grind arith

-- where faults have no earliest there are none
earlier_some : (fault other : Fault) (b : Bool) → (next : Fault) × ((if b then Some other else Some fault) ≡ Some next)
earlier_some fault other true = (other, refl)
earlier_some fault other false = (fault, refl)

earliest_some : (fault : Fault) (faults : List Fault) → earliest_fault (Some fault) faults ≡ None → ⊥
earliest_some fault [] is = let e : Some fault ≡ None = is in cc
earliest_some fault (other ∷ faults) is =
    let next = earlier_some fault other (is_fault_before other fault) in
    earliest_some next.0 faults (sym (ap (λ o. earliest_fault o faults) next.1) ∙ is)

pub none_wrong : (faults : List Fault) → None ≡ earliest_fault None faults → is_fine faults ≡ true
none_wrong [] is = refl
none_wrong (fault ∷ faults) is = absurd (earliest_some fault faults (sym is))

pub some_wrong : (faults : List Fault) (fault : Fault) → Some fault ≡ earliest_fault None faults → is_fine faults ≡ false
some_wrong [] fault is = absurd (let e : Some fault ≡ None = is in cc)
some_wrong (other ∷ faults) fault is = refl
