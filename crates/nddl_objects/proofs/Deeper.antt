-- Objects that are made, step by step.
use Rattle.std.proofs.Common.{◌≡◌, ℕ, zero, suc, ◌-◌, ◌<◌, true, List, length, refl, sym, ap, ◌∙◌, arith}
use Rattle.std.specs.Prelude.{Option, Result, Ok, Err, OnOk, if◌then◌else◌}
use Rattle.nddl_ast.specs.declared.declaration.Member.{Member}
use Rattle.nddl_ast.specs.declared.declaration.Set.{Set}
use Rattle.nddl_symbols.specs.declared.fault.Fault.{Fault}
use Rattle.nddl_symbols.specs.declared.scope.Meaning.{Meaning}
use Rattle.nddl_symbols.specs.Finding.{earliest_fault}
use Rattle.nddl_hierarchy.specs.Facts.{Facts}
use Rattle.nddl_hierarchy.specs.Shorter.{KeepTheSame}
use Rattle.nddl_construction.specs.declared.made.Datum.{Datum}
use Rattle.nddl_construction.specs.declared.made.FieldValue.{FieldValue}
use Rattle.nddl_construction.specs.Scene.{Grounds, Scenery}
use Rattle.nddl_construction.specs.declared.passing.Passed.{Passed}
use Rattle.nddl_construction.specs.Classes.{constructor_sets, is_adding, line_up}
use Rattle.nddl_construction.specs.Passing.{constructor_scene, passed_down, passing_faults}
use Rattle.nddl_objects.specs.Construction.{Asked, Construction, Subject, has_room, noted, object_begun, too_many, too_nested}
use Rattle.nddl_objects.specs.Finished.{finished_faults}
use Rattle.nddl_objects.specs.Made.{Makes, body_run, classes_run, fields_of, finished, made_by, object_made, object_run, parts_run}
use Rattle.nddl_objects.proofs.Setting.{same_finished}

-- where there may be some levels, one is used up
pub made_deeper : (levels : ℕ) (grounds : Grounds) (asked : Asked) (so_far : Construction) → 0 < levels
    → made_by levels grounds asked so_far
    ≡ (if has_room so_far then object_made (made_by (levels - 1) grounds) (levels - 1) grounds asked so_far
    else too_many so_far asked.place)
unfolding made_by
made_deeper zero grounds asked so_far some = absurd (omega (arith, some))
made_deeper (suc levels) grounds asked so_far some =
    let e : suc levels - 1 ≡ levels = omega arith in rw e refl

-- where there may be none, the object is too deep
pub made_nothing : (levels : ℕ) (grounds : Grounds) (asked : Asked) (so_far : Construction) → levels ≡ 0
    → made_by levels grounds asked so_far ≡ too_nested so_far asked.place
unfolding made_by
made_nothing zero grounds asked so_far none = refl
made_nothing (suc levels) grounds asked so_far none = absurd (omega (arith, none))

-- the object is begun, and then its constructors have run
pub made_one : {X E : Type 0} (levels number : ℕ) (grounds : Grounds) (asked : Asked) (old mid new : Construction) (result : Result X E)
    → 0 < levels → has_room old ≡ true → number ≡ length old.objects → mid ≡ object_begun old asked
    → OnOk result (new ≡ object_run (made_by (levels - 1) grounds) (levels - 1) grounds
    (record { name = asked.name; place = asked.place; number = number }) asked mid)
    → OnOk result (new ≡ made_by levels grounds asked old)
made_one levels number grounds asked old mid new (Err e) some room is_number begun run = tt
made_one levels number grounds asked old mid new (Ok done) some room is_number begun run =
    let inner = made_by (levels - 1) grounds in
    let subject : ℕ → Subject = λ n. record { name = asked.name; place = asked.place; number = n } in
    run
    ∙ (ap (λ n. object_run inner (levels - 1) grounds (subject n) asked mid) is_number
    ∙ (ap (λ m. object_run inner (levels - 1) grounds (subject (length old.objects)) asked m) begun
    ∙ sym (made_deeper levels grounds asked old some
    ∙ ap (λ b. if b then object_made inner (levels - 1) grounds asked old else too_many old asked.place) room)))

-- the constructors have run, and then the fields are looked at
pub run_one : {X E : Type 0} (makes : Makes) (levels : ℕ) (grounds : Grounds) (subject : Subject) (asked : Asked)
    (old mid new : Construction) (classes : List Passed) (result : Result X E)
    → classes ≡ passed_down grounds old.objects asked.class asked.values
    → mid ≡ classes_run makes levels grounds subject classes old
    → OnOk result (new ≡ finished grounds.facts subject asked.class mid)
    → OnOk result (new ≡ object_run makes levels grounds subject asked old)
run_one makes levels grounds subject asked old mid new classes (Err e) are run looked = tt
run_one makes levels grounds subject asked old mid new classes (Ok done) are run looked =
    looked
    ∙ (ap (finished grounds.facts subject asked.class) run
    ∙ ap (λ some. finished grounds.facts subject asked.class (classes_run makes levels grounds subject some old)) are)

-- what is wrong with the fields is noted
pub finished_one : {X E : Type 0} (facts : Facts) (subject : Subject) (class : Meaning) (old : Construction) (new : Option Fault)
    (line : List Meaning) (fields : List FieldValue) (result : Result X E)
    → KeepTheSame (is_adding facts) line (line_up facts class) → fields ≡ fields_of old.objects subject.number
    → OnOk result (new ≡ earliest_fault old.first (finished_faults facts subject.place line fields))
    → OnOk result ((record { objects = old.objects; first = new; is_full = old.is_full; is_deep = old.is_deep })
    ≡ finished facts subject class old)
finished_one facts subject class old new line fields (Err e) same are_fields noted = tt
finished_one facts subject class old new line fields (Ok done) same are_fields noted =
    let with_first : Option Fault → Construction =
    λ first. record { objects = old.objects; first = first; is_full = old.is_full; is_deep = old.is_deep } in
    ap with_first noted
    ∙ (ap (λ faults. with_first (earliest_fault old.first faults)) (same_finished facts fields subject.place line (line_up facts class) same)
    ∙ ap (λ f. with_first (earliest_fault old.first (finished_faults facts subject.place (line_up facts class) f))) are_fields)

-- what is wrong with what a constructor is passed is noted, and then the parts of its body have run in its scene
pub body_one : {X E : Type 0} (makes : Makes) (levels : ℕ) (grounds : Grounds) (subject : Subject) (entry : ℕ)
    (values : List (Option Datum)) (constructor : Member) (scene : Scenery) (parts : List Set)
    (old mid new : Construction) (result : Result X E)
    → scene ≡ constructor_scene grounds.facts entry constructor values → parts ≡ constructor_sets constructor
    → mid ≡ noted old (passing_faults grounds old.objects subject.place entry values constructor)
    → OnOk result (new ≡ parts_run makes levels grounds scene subject entry parts mid)
    → OnOk result (new ≡ body_run makes levels grounds subject entry values constructor old)
body_one makes levels grounds subject entry values constructor scene parts old mid new (Err e) there are begun run = tt
body_one makes levels grounds subject entry values constructor scene parts old mid new (Ok done) there are begun run =
    let inside = constructor_scene grounds.facts entry constructor values in
    run
    ∙ (ap (λ around. parts_run makes levels grounds around subject entry parts mid) there
    ∙ (ap (λ some. parts_run makes levels grounds inside subject entry some mid) are
    ∙ ap (parts_run makes levels grounds inside subject entry (constructor_sets constructor)) begun))
