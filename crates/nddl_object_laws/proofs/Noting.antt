-- Where the making has got to, by the `new`s that have been carried out.
use Rattle.std.proofs.Common.{◌≡◌, Bool, true, false, List, [], ◌∷◌, ◌++◌, refl, sym, ◌∙◌, ap}
use Rattle.std.specs.Prelude.{Option, ◌||◌, if◌then◌else◌}
use Rattle.std.specs.List.{list_any}
use Rattle.nddl_ast.specs.declared.kind.TextKind.{TextKind}
use Rattle.nddl_ast.specs.declared.kind.TextKind.TheVariants as faults
use Rattle.nddl_symbols.specs.declared.fault.Fault.{Fault}
use Rattle.nddl_symbols.specs.declared.place.Place.{Place}
use Rattle.nddl_symbols.specs.Finding.{earliest_fault}
use Rattle.nddl_hierarchy.specs.Facts.{Facts}
use Rattle.nddl_construction.specs.declared.made.MadeObject.{MadeObject}
use Rattle.nddl_objects.specs.Construction.{Construction, first_of_kind, noted, too_deep, too_many}
use Rattle.nddl_object_laws.specs.Carried.{Carried, new_place}
use Rattle.nddl_object_laws.specs.Wrong.{first_passing, is_too_deep, is_too_many, met_limit_faults}
use Rattle.nddl_object_laws.proofs.Least.{earliest_swap, two_and_two}

-- these objects are made, this is the earliest of what was wrong beside limits, and these `new`s have been carried out
abbrev pub state : Facts → List MadeObject → Option Fault → List Carried → Construction
state facts objects met done = record {
  objects = objects;
  first = earliest_fault met (met_limit_faults facts done);
  is_full = list_any (is_too_many facts) done;
  is_deep = list_any (is_too_deep facts) done;
}

-- faults are noted beside limits
pub noted_state : (facts : Facts) (objects : List MadeObject) (met : Option Fault) (done : List Carried) (some : List Fault)
    → noted (state facts objects met done) some ≡ state facts objects (earliest_fault met some) done
noted_state facts objects met done some =
    let with_first : Option Fault → Construction = λ first. record {
      objects = objects;
      first = first;
      is_full = list_any (is_too_many facts) done;
      is_deep = list_any (is_too_deep facts) done;
    } in
    ap with_first (earliest_swap met (met_limit_faults facts done) some)

-- ---- one `new` more

any_more : (test : Carried → Bool) (done : List Carried) (one : Carried)
    → list_any test (done ++ one ∷ []) ≡ (list_any test done || test one)
any_more test [] one = by (test one)
  where
    by : (b : Bool) → (b || false) ≡ (false || b)
    by true = refl
    by false = refl
any_more test (first ∷ done) one = by (test first) (any_more test done one)
  where
    by : (b : Bool) → list_any test (done ++ one ∷ []) ≡ (list_any test done || test one)
        → (b || list_any test (done ++ one ∷ [])) ≡ ((b || list_any test done) || test one)
    by true rest = refl
    by false rest = rest

-- the fault of a limit stands at one more, if that is the first that passes it
passing_more : (test : Carried → Bool) (kind : TextKind) (done : List Carried) (one : Carried)
    → first_passing test kind (done ++ one ∷ [])
    ≡ first_passing test kind done ++ (if test one then first_of_kind (list_any test done) (new_place one.new) kind else [])
passing_more test kind [] one = refl
passing_more test kind (first ∷ done) one = by (test first) (test one) (passing_more test kind done one)
  where
    by : (b t : Bool)
        → first_passing test kind (done ++ one ∷ [])
        ≡ first_passing test kind done ++ (if t then first_of_kind (list_any test done) (new_place one.new) kind else [])
        → (if b then record { place = new_place first.new; kind = kind } ∷ [] else first_passing test kind (done ++ one ∷ []))
        ≡ (if b then record { place = new_place first.new; kind = kind } ∷ [] else first_passing test kind done)
        ++ (if t then first_of_kind (b || list_any test done) (new_place one.new) kind else [])
    by true true rest = refl
    by true false rest = refl
    by false t rest = rest

or_true : (b : Bool) → true ≡ (b || true)
or_true true = refl
or_true false = refl

or_false : (b : Bool) → b ≡ (b || false)
or_false true = refl
or_false false = refl

-- ---- limits

-- of the two limits these are passed at this place
abbrev pub limits_noted : Bool → Bool → Place → Construction → Construction
limits_noted many deep place so_far =
    let counted : Construction = if many then too_many so_far place else so_far in if deep then too_deep counted place else counted

module _ (facts : Facts) (objects : List MadeObject) (met : Option Fault) (done : List Carried) (one : Carried) where
  abbrev many : List Fault
  many = first_passing (is_too_many facts) faults.LimitObjects done

  abbrev deep : List Fault
  deep = first_passing (is_too_deep facts) faults.LimitNew done

  abbrev full : Bool
  full = list_any (is_too_many facts) done

  abbrev nested : Bool
  nested = list_any (is_too_deep facts) done

  abbrev one_many : Bool → List Fault
  one_many m = if m then first_of_kind full (new_place one.new) faults.LimitObjects else []

  abbrev one_deep : Bool → List Fault
  one_deep d = if d then first_of_kind nested (new_place one.new) faults.LimitNew else []

  abbrev with_these : Option Fault → Bool → Bool → Construction
  with_these first is_full is_deep = record { objects = objects; first = first; is_full = is_full; is_deep = is_deep }

  noted_by : (m d : Bool)
      → limits_noted m d (new_place one.new) (state facts objects met done)
      ≡ with_these (earliest_fault met ((many ++ one_many m) ++ (deep ++ one_deep d))) (full || m) (nested || d)
  noted_by true true = λ i.
      with_these (two_and_two met many deep (one_many true) (one_deep true) i) (or_true full i) (or_true nested i)
  noted_by true false = λ i. with_these (two_and_two met many deep (one_many true) [] i) (or_true full i) (or_false nested i)
  noted_by false true = λ i. with_these (two_and_two met many deep [] (one_deep true) i) (or_false full i) (or_true nested i)
  noted_by false false = λ i. with_these (two_and_two met many deep [] [] i) (or_false full i) (or_false nested i)

  -- the limits that a `new` passes are noted, and then it has been carried out
  pub limits_state : limits_noted (is_too_many facts one) (is_too_deep facts one) (new_place one.new) (state facts objects met done)
      ≡ state facts objects met (done ++ one ∷ [])
  limits_state =
      noted_by (is_too_many facts one) (is_too_deep facts one)
      ∙ sym (λ i. with_these
      (earliest_fault met (passing_more (is_too_many facts) faults.LimitObjects done one i
      ++ passing_more (is_too_deep facts) faults.LimitNew done one i))
      (any_more (is_too_many facts) done one i) (any_more (is_too_deep facts) done one i))
