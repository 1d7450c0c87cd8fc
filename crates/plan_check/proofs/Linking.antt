-- Lines that are linked by the objects that their tokens are on.
use Rattle.std.proofs.Common.{◌≡◌, ℕ, ◌+◌, ◌-◌, ◌<◌, ◌≤◌, List, length, get_or, set, replicate, Option, Some, None, inl, inr, sym, ap, ◌∙◌, subst, arith}
use Rattle.std.specs.Prelude.{slice_get}
use Rattle.std.proofs.lemmas.Bool.{cases_eq}
use Rattle.std.proofs.lemmas.List.{length-set, length-replicate, get_or-set_same, get_or-set_other, get_or-replicate}
use Rattle.eu_name.proofs.Members.{get_same, get_below}
use Rattle.plan_defs.specs.declared.plan.Line.{Line}
use Rattle.plan_defs.specs.declared.plan.Line.TheVariants as lines
use Rattle.plan_check.specs.declared.by_object.LinesByObject.{LinesByObject}
use Rattle.plan_check.specs.ByObject.{IsOnObject, IsLineOn, FindsOn, AreLinked}

-- ---- a line is on one object

on_one : (line : Line) (one other : ℕ) → IsOnObject line one → IsOnObject line other → one ≡ other
on_one (lines.Token token fact values) one other p q = let e = sym p ∙ q in cc
on_one (lines.Merged token target) one other p q = absurd p
on_one (lines.Rejected token) one other p q = absurd p
on_one (lines.Local name value) one other p q = absurd p

line_on_one : (listed : List Line) (one other place : ℕ) → IsLineOn listed one place → IsLineOn listed other place → one ≡ other
line_on_one listed one other place (line, at, on) (line', at', on') =
    on_one line one other on (subst (λ (l : Line). IsOnObject l other) (get_same listed place line' line at' at) on')

-- a line of which nothing is on an object is on none
pub on_none : (listed : List Line) (place : ℕ) (line : Line) → slice_get listed place ≡ Some line → ((object : ℕ) → IsOnObject line object → ⊥)
    → (object : ℕ) → IsLineOn listed object place → ⊥
on_none listed place line at none object (other, at', on) = none object (subst (λ (l : Line). IsOnObject l object) (get_same listed place other line at' at) on)

-- ---- one place earlier

-- what isn't on the object is passed over
found_past : (listed : List Line) (object place : ℕ) (found : Option ℕ) → (IsLineOn listed object place → ⊥) → FindsOn listed object (place + 1) found → FindsOn listed object place found
found_past listed object place None none all = λ other from on. elim (cases_eq other place) [
  | inl same ↦ none (subst (IsLineOn listed object) same on)
  | inr apart ↦ all other (omega arith) on
]
found_past listed object place (Some at) none first = record {
  within = omega (arith, first.within);
  on = first.on;
  before = λ earlier from less on. elim (cases_eq earlier place) [
    | inl same ↦ none (subst (IsLineOn listed object) same on)
    | inr apart ↦ first.before earlier (omega arith) less on
  ];
}

found_here : (listed : List Line) (object place : ℕ) → IsLineOn listed object place → FindsOn listed object place (Some place)
found_here listed object place on = record { within = omega arith; on = on; before = λ earlier from less there. absurd (omega arith) }

module _ (listed : List Line) (count place : ℕ) (old : LinesByObject) where
  pub linked_past : ((object : ℕ) → object < count → IsLineOn listed object place → ⊥) → AreLinked listed count (place + 1) old → AreLinked listed count place old
  linked_past none linked = record {
    objects = linked.objects;
    places = linked.places;
    first = λ object within. found_past listed object place (get_or old.first.items object None) (none object within) (linked.first object within);
    next = λ object other within from on. elim (cases_eq other place) [
      | inl same ↦ absurd (none object within (subst (IsLineOn listed object) same on))
      | inr apart ↦ linked.next object other within (omega arith) on
    ];
  }

  -- a line on an object that isn't counted is passed over too
  pub linked_outside : (object : ℕ) → length old.first.items ≤ object → IsLineOn listed object place → AreLinked listed count (place + 1) old → AreLinked listed count place old
  linked_outside object outside on linked = linked_past (λ other within there.
      let same = line_on_one listed other object place there on in
      let counted = linked.objects in
      absurd (omega arith)) linked

  module _ (new : LinesByObject) (object : ℕ) (within : object < length old.first.items) (there : place < length old.next.items) (on : IsLineOn listed object place)
      (first_is : new.first.items ≡ set old.first.items object (Some place)) (next_is : new.next.items ≡ set old.next.items place (get_or old.first.items object None))
      (linked : AreLinked listed count (place + 1) old) where
    first_put : (other : ℕ) → other < count → FindsOn listed other place (get_or new.first.items other None)
    first_put other counted = elim (cases_eq other object) [
      | inl same ↦ (
          let read : get_or new.first.items other None ≡ Some place =
          ap (λ (xs : List (Option ℕ)). get_or xs other None) first_is ∙ (ap (λ (k : ℕ). get_or (set old.first.items object (Some place)) k None) same ∙ get_or-set_same old.first.items object (Some place) None within) in
          subst (FindsOn listed other place) (sym read) (found_here listed other place (subst (λ (k : ℕ). IsLineOn listed k place) (sym same) on)))
      | inr apart ↦ (
          let read : get_or new.first.items other None ≡ get_or old.first.items other None =
          ap (λ (xs : List (Option ℕ)). get_or xs other None) first_is ∙ get_or-set_other old.first.items object other (Some place) None apart in
          subst (FindsOn listed other place) (sym read)
          (found_past listed other place (get_or old.first.items other None) (λ also. apart (line_on_one listed other object place also on)) (linked.first other counted)))
    ]

    next_put : (other at : ℕ) → other < count → place ≤ at → IsLineOn listed other at → FindsOn listed other (at + 1) (get_or new.next.items at None)
    next_put other at counted from also = elim (cases_eq at place) [
      | inl same ↦ (
          let objects : other ≡ object = line_on_one listed other object place (subst (IsLineOn listed other) same also) on in
          let read : get_or new.next.items at None ≡ get_or old.first.items other None =
          ap (λ (xs : List (Option ℕ)). get_or xs at None) next_is
          ∙ (ap (λ (k : ℕ). get_or (set old.next.items place (get_or old.first.items object None)) k None) same
          ∙ (get_or-set_same old.next.items place (get_or old.first.items object None) None there ∙ ap (λ (k : ℕ). get_or old.first.items k None) (sym objects))) in
          subst (FindsOn listed other (at + 1)) (sym read) (subst (λ (k : ℕ). FindsOn listed other (k + 1) (get_or old.first.items other None)) (sym same) (linked.first other counted)))
      | inr apart ↦ (
          let read : get_or new.next.items at None ≡ get_or old.next.items at None =
          ap (λ (xs : List (Option ℕ)). get_or xs at None) next_is ∙ get_or-set_other old.next.items place at (get_or old.first.items object None) None apart in
          subst (FindsOn listed other (at + 1)) (sym read) (linked.next other at counted (omega arith) also))
    ]

    pub linked_put : AreLinked listed count place new
    linked_put = record {
      objects = ap length first_is ∙ (length-set old.first.items object (Some place) ∙ linked.objects);
      places = ap length next_is ∙ (length-set old.next.items place (get_or old.first.items object None) ∙ linked.places);
      first = first_put;
      next = next_put;
    }

-- ---- none yet

pub linked_none : (listed : List Line) (objects count : ℕ) (new : LinesByObject) → new.first.items ≡ replicate objects None → new.next.items ≡ replicate count None → length listed ≡ count
    → AreLinked listed objects count new
linked_none listed objects count new first_is next_is counted = record {
  objects = ap length first_is ∙ length-replicate objects None;
  places = ap length next_is ∙ (length-replicate count None ∙ sym counted);
  first = λ object within.
      let read : get_or new.first.items object None ≡ None = ap (λ (xs : List (Option ℕ)). get_or xs object None) first_is ∙ get_or-replicate objects object None None within in
      subst (FindsOn listed object count) (sym read) (λ place past (line, at, on). let below = get_below listed place line at in absurd (omega arith));
  next = λ object place within past (line, at, on). let below = get_below listed place line at in absurd (omega arith);
}

-- ---- what is found next

-- how many lines are dealt with where this one is next
abbrev pub dealt : ℕ → Option ℕ → ℕ
dealt count None = count
dealt count (Some place) = place

-- the one that is next is on the object
abbrev pub IsOnTheWay : List Line → ℕ → Option ℕ → Type 0
IsOnTheWay listed object None = Unit {0}
IsOnTheWay listed object (Some place) = IsLineOn listed object place

pub on_the_way : (listed : List Line) (object from : ℕ) (found : Option ℕ) → FindsOn listed object from found → IsOnTheWay listed object found
on_the_way listed object from None finds = tt
on_the_way listed object from (Some place) finds = finds.on

pub dealt_more : (listed : List Line) (object from : ℕ) (found : Option ℕ) → from ≤ length listed → FindsOn listed object from found → from ≤ dealt (length listed) found
dealt_more listed object from None within finds = within
dealt_more listed object from (Some place) within finds = finds.within

pub dealt_within : (listed : List Line) (object : ℕ) (found : Option ℕ) → IsOnTheWay listed object found → dealt (length listed) found ≤ length listed
dealt_within listed object None on = omega arith
dealt_within listed object (Some place) (line, at, on) = let below = get_below listed place line at in omega arith

pub passed_over : (listed : List Line) (object from : ℕ) (found : Option ℕ) → FindsOn listed object from found → (place : ℕ) → from ≤ place → place < dealt (length listed) found → IsLineOn listed object place → ⊥
passed_over listed object from None finds place past less on = finds place past on
passed_over listed object from (Some next) finds place past less on = finds.before place past less on

-- ---- one step on the way

pub way_there : (listed : List Line) (object here : ℕ) (next : Option ℕ) → next ≡ Some here → IsOnTheWay listed object next → IsLineOn listed object here
way_there listed object here next same on = subst (IsOnTheWay listed object) same on

pub way_below : (listed read : List Line) (object here : ℕ) → read ≡ listed → IsLineOn listed object here → here < length read
way_below listed read object here same (line, at, on) = let below = get_below listed here line at in omega (arith, ap length same)

pub way_shorter : (listed : List Line) (object here : ℕ) (next found : Option ℕ) → next ≡ Some here → IsLineOn listed object here → FindsOn listed object (here + 1) found
    → length listed - dealt (length listed) found < length listed - dealt (length listed) next
way_shorter listed object here next found same (line, at, on) finds =
    let below = get_below listed here line at in
    let more = dealt_more listed object (here + 1) found (omega arith) finds in
    let now : dealt (length listed) next ≡ here = ap (dealt (length listed)) same in
    omega arith
