-- The names in the scope of the file.
use Rattle.std.proofs.Common.{◌≡◌, ℕ, suc, zero, ◌<◌, List, [], ◌∷◌, ◌++◌, length, get_or, map, All, ◌↔◌, IsTrue, Result, Ok, Err, Bool, true, false, refl, sym, ap, ◌∙◌, subst, arith, append_assoc, length-append}
use Rattle.std.specs.Prelude.{◌≢◌, AllPairs, IfOk}
use Rattle.std.specs.List.{flat_map}
use Rattle.std.proofs.lemmas.List.Elements.{All-append}
use Rattle.model_core.specs.declared.class.Class.{Class}
use Rattle.model_core.specs.declared.class.Enum.{Enum}
use Rattle.model_core.specs.declared.class.Object.{Object}
use Rattle.model_core.specs.declared.model.Model.{Model}
use Rattle.model_core.specs.declared.model.Root.{Root}
use Rattle.model_core.specs.declared.variable.VarDecl.{VarDecl}
use Rattle.model_core.specs.Naming.{declared_names, file_names, global_names, labels}
use Rattle.model_core.proofs.Distinct.{pairs_front}
use Rattle.model_rules.specs.Distinct.{AddsAll}
use Rattle.model_rules.proofs.Adding.{told_apart}
use Rattle.model_lawful.specs.Naming.{AddsNext, HaveOwnNames, IsOwnName}

all_front : {X : Type 0} (P : X → Type 0) (xs ys : List X) → All P (xs ++ ys) → All P xs
all_front {X = X} P xs ys all = λ k d below. subst P (left xs k d below) (all k d (omega (arith, below, length-append xs ys)))
  where
    left : (zs : List X) (k : ℕ) (d : X) → k < length zs → get_or (zs ++ ys) k d ≡ get_or zs k d
    left [] k d below = absurd (omega (arith, below))
    left (z ∷ zs) zero d below = refl
    left (z ∷ zs) (suc k) d below = left zs k d (omega (arith, below))

all_back : {X : Type 0} (P : X → Type 0) (xs ys : List X) → All P (xs ++ ys) → All P ys
all_back P [] ys all = all
all_back P (x ∷ xs) ys all = all_back P xs ys (λ k d below. all (suc k) d (omega (arith, below)))

module _ (model : Model) where
  abbrev objects : List (List ℕ)
  objects = map (λ object. object.name) model.objects

  abbrev enums : List (List ℕ)
  enums = map (λ found. found.name) model.enums

  abbrev members : List (List ℕ)
  members = flat_map (λ found. found.members) model.enums

  pub own_names : HaveOwnNames model → All IsOwnName (declared_names model)
  own_names own =
      All-append IsOwnName (global_names model) (labels model ++ (objects ++ (enums ++ members))) own.globals
      (All-append IsOwnName (labels model) (objects ++ (enums ++ members)) own.roots
      (All-append IsOwnName objects (enums ++ members) own.objects (All-append IsOwnName enums members own.enums own.members)))

  pub names_own : All IsOwnName (declared_names model) → HaveOwnNames model
  names_own all =
      let behind_globals = all_back IsOwnName (global_names model) (labels model ++ (objects ++ (enums ++ members))) all in
      let behind_roots = all_back IsOwnName (labels model) (objects ++ (enums ++ members)) behind_globals in
      let behind_objects = all_back IsOwnName objects (enums ++ members) behind_roots in
      record {
        globals = all_front IsOwnName (global_names model) (labels model ++ (objects ++ (enums ++ members))) all;
        roots = all_front IsOwnName (labels model) (objects ++ (enums ++ members)) behind_globals;
        objects = all_front IsOwnName objects (enums ++ members) behind_roots;
        enums = all_front IsOwnName enums members behind_objects;
        members = all_back IsOwnName enums members behind_objects;
      }

-- ---- lists put one behind another

-- what comes behind what differs is put behind both
pub adds_behind : {K : Type 0} (first second now new : List K) (answer : Bool) → now ≡ first → AddsAll now second answer new → AddsAll [] (first ++ second) answer new
adds_behind first second now new true same (is, apart) = (is ∙ ap (λ l. l ++ second) same, apart)
adds_behind first second now new false same not = λ apart. not (subst (λ l. AllPairs ◌≢◌ (l ++ second)) (sym same) apart)

-- where the first don't differ, all don't
pub adds_none : {K : Type 0} (first second new other : List K) → AddsAll [] first false new → AddsAll [] (first ++ second) false other
adds_none first second new other not = λ apart. not (pairs_front ◌≢◌ first second apart)

pub next_none : (first second old new : List (List ℕ)) (so_far : Bool) → so_far ≡ false → AddsAll [] first so_far old → AddsAll [] (first ++ second) false new
next_none first second old new so_far is adds = adds_none first second old new (subst (λ (b : Bool). AddsAll [] first b old) is adds)

pub next_told : {E : Type 0} (second old new : List (List ℕ)) (so_far : Bool) (result : Result Bool E) → so_far ≡ true → IfOk result (λ answer. AddsAll old second answer new)
    → IfOk result (λ answer. AddsNext so_far old second answer new)
next_told second old new so_far (Ok answer) is adds = λ first before.
    adds_behind first second old new answer (subst (λ (b : Bool). AddsAll [] first b old) is before).0 adds
next_told second old new so_far (Err error) is adds = adds

pub apart_if : (first new : List (List ℕ)) (answer : Bool) → AddsAll [] first answer new → IsTrue answer → AllPairs ◌≢◌ new
apart_if first new answer adds is = (subst (λ (b : Bool). AddsAll [] first b new) is adds).1

pub none_added : (old : List (List ℕ)) → old ≡ [] → AddsAll [] [] true old
none_added old is = (is, subst (AllPairs ◌≢◌) (sym is) (λ i j d less below same. omega (arith, below)))

-- the names of the file, put one list behind another
pub file_is : (model : Model) → ((((([] ++ global_names model) ++ labels model) ++ objects model) ++ enums model) ++ members model) ++ map (λ class. class.name) model.classes ≡ file_names model
file_is model =
    ap (λ l. l ++ map (λ class. class.name) model.classes)
    (append_assoc ((global_names model ++ labels model) ++ objects model) (enums model) (members model)
    ∙ (append_assoc (global_names model ++ labels model) (objects model) (enums model ++ members model)
    ∙ append_assoc (global_names model) (labels model) (objects model ++ (enums model ++ members model))))

pub file_told : {E : Type 0} (model : Model) (gs : List VarDecl) (rs : List Root) (os : List Object) (es fs : List Enum) (cs : List Class)
    → gs ≡ model.problem.globals → rs ≡ model.problem.roots → os ≡ model.objects → es ≡ model.enums → fs ≡ model.enums → cs ≡ model.classes
    → (old new : List (List ℕ)) (so_far : Bool) (result : Result Bool E)
    → AddsAll [] ((((([] ++ map (λ v. v.name) gs) ++ map (λ r. r.label) rs) ++ map (λ o. o.name) os) ++ map (λ e. e.name) es) ++ flat_map (λ e. e.members) fs) so_far old
    → IfOk result (λ answer. AddsNext so_far old (map (λ class. class.name) cs) answer new) → IfOk result (λ answer. AddsAll [] (file_names model) answer new)
file_told model gs rs os es fs cs g r o e f k old new so_far (Err error) before adds = adds
file_told model gs rs os es fs cs g r o e f k old new so_far (Ok answer) before adds =
    subst (λ l. AddsAll [] l answer new) (file_is model)
    (subst (λ l. AddsAll [] l answer new)
    (λ i. ((((([] ++ map (λ (v : VarDecl). v.name) (g i)) ++ map (λ (x : Root). x.label) (r i)) ++ map (λ (x : Object). x.name) (o i)) ++ map (λ (x : Enum). x.name) (e i)) ++ flat_map (λ (x : Enum). x.members) (f i)) ++ map (λ (x : Class). x.name) (k i))
    (adds ((((([] ++ map (λ (v : VarDecl). v.name) gs) ++ map (λ (x : Root). x.label) rs) ++ map (λ (x : Object). x.name) os) ++ map (λ (x : Enum). x.name) es) ++ flat_map (λ (x : Enum). x.members) fs) before))

pub apart_told : {E : Type 0} (more new : List (List ℕ)) (result : Result Bool E) → IfOk result (λ answer. AddsAll [] more answer new) → IfOk result (λ answer. IsTrue answer ↔ AllPairs ◌≢◌ more)
apart_told more new (Ok answer) adds = told_apart more new answer adds
apart_told more new (Err error) adds = adds
