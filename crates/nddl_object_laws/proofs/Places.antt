-- The number of a `new` is how many of those before it make an object.
use Rattle.std.proofs.Common.{◌≡◌, ℕ, zero, suc, ◌+◌, Bool, true, false, cond, List, [], ◌∷◌, ◌++◌, length, refl, sym, ◌∙◌, ap, subst, arith}
use Rattle.std.specs.Prelude.{Option, Some, None, ⊤, ◌&&◌, is_some, slice_get, if◌then◌else◌}
use Rattle.std.specs.List.{cons_option}
use Rattle.std.specs.Option.{option_map_or}
use Rattle.std.proofs.lemmas.List.{length-append}
use Rattle.nddl_ast.specs.declared.declaration.Decl.{Decl}
use Rattle.nddl_ast.specs.declared.expression.Init.TheVariants as inits
use Rattle.nddl_symbols.specs.declared.scope.Meaning.{Meaning}
use Rattle.nddl_hierarchy.specs.Facts.{Facts}
use Rattle.nddl_construction.specs.declared.made.MadeObject.{MadeObject}
use Rattle.nddl_objects.specs.Objects.{most_levels}
use Rattle.nddl_object_laws.specs.Carried.{Assignment, Passes, Sets, Carried, Carries, New, There, all_assignments, assignment_carried, carried_by, has_place, made_count, new_class, new_passed, numbered, numbered_carried, object_steps}
use Rattle.nddl_object_laws.specs.Made.{Doing, MakesObject, HasSettings, DoesNeither, all_carried, carried_from, carried_objects, declared_new, doing_carried, doing_of, made_objects, there_after, there_behind}
use Rattle.nddl_object_laws.specs.Told.{NumbersArePlaces, NumbersCount}
use Rattle.nddl_object_laws.proofs.Counting.{carried_more, carried_none, count_append, counted, get_at, objects_append}
use Rattle.nddl_object_laws.proofs.Program.{StandFrom, after_one, all_carried_is, first_stands, first_there, objects_behind, rest_stands, stand}

-- the numbers of these count the objects from this one on
abbrev CountFrom : Facts → ℕ → List Carried → Type 0
CountFrom facts number [] = ⊤
CountFrom facts number (one ∷ more) = (one.number ≡ number) × CountFrom facts (number + made_count facts (one ∷ [])) more

module _ (facts : Facts) where
  counts_append : (number : ℕ) (one other : List Carried) → CountFrom facts number one → CountFrom facts (number + made_count facts one) other
      → CountFrom facts number (one ++ other)
  counts_append number [] other first second =
      let e : number + 0 ≡ number = omega arith in
      let C : ℕ → Type 0 = λ n. CountFrom facts n other in subst C e second
  counts_append number (carried ∷ one) other first second =
      let both = count_append facts (carried ∷ []) one in
      let e : number + made_count facts (carried ∷ one) ≡ number + made_count facts (carried ∷ []) + made_count facts one = omega (arith, both) in
      let C : ℕ → Type 0 = λ n. CountFrom facts n other in
      (first.0, counts_append (number + made_count facts (carried ∷ [])) one other first.1 (subst C e second))

  counts_at : (number : ℕ) (front : List Carried) (one : Carried) (more : List Carried) → CountFrom facts number (front ++ one ∷ more)
      → one.number ≡ number + made_count facts front
  counts_at number [] one more counts = let e : number ≡ number + 0 = omega arith in counts.0 ∙ e
  counts_at number (first ∷ front) one more counts =
      let both = count_append facts (first ∷ []) front in
      let e : number + made_count facts (first ∷ []) + made_count facts front ≡ number + made_count facts (first ∷ front) = omega (arith, both) in
      counts_at (number + made_count facts (first ∷ [])) front one more counts.1 ∙ e

  module _ (there : There) where
    module _ (levels : ℕ) (inner : (number : ℕ) (new : New) → CountFrom facts number (carried_by levels facts there number new)) where
      abbrev carries : Carries
      carries = carried_by levels facts there

      assignment_counts : (name : List ℕ) (number : ℕ) (assignment : Assignment) → CountFrom facts number (assignment_carried carries name number assignment)
      assignment_counts name number (Passes field datum) = tt
      assignment_counts name number (Sets entry scene field (inits.Expr expr)) = tt
      assignment_counts name number (Sets entry scene field (inits.New creation)) = inner number _

      steps_count : (name : List ℕ) (some : List Assignment) (number : ℕ)
          → CountFrom facts number (numbered_carried carries name (numbered facts carries name number some))
      steps_count name [] number = tt
      steps_count name (assignment ∷ more) number =
          let here : List Carried = assignment_carried carries name number assignment in
          let next : ℕ = number + made_count facts here in
          counts_append number here (numbered_carried carries name (numbered facts carries name next more))
          (assignment_counts name number assignment) (steps_count name more next)

      module _ (number : ℕ) (new : New) where
        abbrev one : Carried
        one = record { there = there; levels = suc levels; number = number; new = new }

        abbrev nested : Option Meaning → Bool → List Carried
        nested found room =
            numbered_carried carries new.name (option_map_or (λ class. if room then object_steps facts there carries number new class else []) found [])

        nested_counts : (found : Option Meaning) (room : Bool)
            → CountFrom facts (number + length (cond (is_some found && room) (one ∷ []) [])) (nested found room)
        nested_counts None room = tt
        nested_counts (Some class) true = steps_count new.name (all_assignments facts (new_passed facts there new class)) (number + 1)
        nested_counts (Some class) false = tt

        deeper_counts : CountFrom facts number (carried_by (suc levels) facts there number new)
        deeper_counts =
            let C : List Carried → Type 0 = λ some. CountFrom facts number some in
            subst C (sym (carried_more levels facts there number new)) (refl, nested_counts (new_class facts new) (has_place number))

    new_counts : (levels number : ℕ) (new : New) → CountFrom facts number (carried_by levels facts there number new)
    new_counts zero number new =
        let C : List Carried → Type 0 = λ some. CountFrom facts number some in
        subst C (sym (carried_none facts there number new)) (refl, tt)
    new_counts (suc levels) number new = deeper_counts levels (λ other one. new_counts levels other one) number new

    doing_counts : (number : ℕ) (doing : Doing) → CountFrom facts (length there.objects) (doing_carried facts there number doing)
    doing_counts number (MakesObject variable creation) = new_counts most_levels (length there.objects) (declared_new facts number variable creation)
    doing_counts number (HasSettings creation) = tt
    doing_counts number DoesNeither = tt

  all_count : (some : List Decl) (number : ℕ) → StandFrom facts number some
      → CountFrom facts (length (there_after facts number).objects) (carried_from facts number some)
  all_count [] number stands = tt
  all_count (decl ∷ more) number stands =
      let there : There = there_after facts number in
      let here : List Carried = doing_carried facts there number (doing_of decl) in
      let next = after_one facts number decl (first_stands facts number decl more stands) in
      let behind : length (there_behind facts there number (doing_of decl)).objects ≡ length there.objects + made_count facts here =
      sym (ap length (objects_behind facts there number (doing_of decl)))
      ∙ (length-append there.objects (carried_objects facts here) ∙ ap (λ n. length there.objects + n) (counted facts here)) in
      let so_many : length (there_after facts (number + 1)).objects ≡ length there.objects + made_count facts here =
      ap (λ (t : There). length t.objects) next ∙ behind in
      let C : ℕ → Type 0 = λ n. CountFrom facts n (carried_from facts (number + 1) more) in
      counts_append (length there.objects) here (carried_from facts (number + 1) more) (doing_counts there number (doing_of decl))
      (subst C so_many (all_count more (number + 1) (rest_stands facts number decl more stands)))

  program_counts : CountFrom facts 0 (all_carried facts)
  program_counts =
      let C : List Carried → Type 0 = λ some. CountFrom facts 0 some in
      let N : ℕ → Type 0 = λ n. CountFrom facts n (carried_from facts 0 facts.program) in
      subst C (sym (all_carried_is facts)) (subst N (ap (λ (t : There). length t.objects) (first_there facts)) (all_count facts.program 0 (stand facts)))

pub numbers_count : NumbersCount
numbers_count facts front one more are =
    let C : List Carried → Type 0 = λ some. CountFrom facts 0 some in
    let e : 0 + made_count facts front ≡ made_count facts front = omega arith in
    counts_at facts 0 front one more (subst C are (program_counts facts)) ∙ e

pub numbers_are_places : NumbersArePlaces
numbers_are_places facts front one more object are is =
    let long : length (carried_objects facts front) ≡ one.number = counted facts front ∙ sym (numbers_count facts front one more are) in
    let split : made_objects facts ≡ carried_objects facts front ++ object ∷ carried_objects facts more =
    ap (carried_objects facts) are
    ∙ (objects_append facts front (one ∷ more)
    ∙ ap (λ (found : Option MadeObject). carried_objects facts front ++ cons_option found (carried_objects facts more)) is) in
    ap (λ n. slice_get (made_objects facts) n) (sym long)
    ∙ (ap (λ objects. slice_get objects (length (carried_objects facts front))) split
    ∙ get_at (carried_objects facts front) object (carried_objects facts more))
