-- Words one after another.
use Rattle.std.proofs.Common.{◌≡◌, ℕ, ◌+◌, ◌<◌, ◌≤◌, suc, ℤ, List, [], ◌∷◌, ◌++◌, length, drop, get_or, slice_get, Option, Some, None, is_some, Bool, true≢false, IsTrue, Contains, ◌↔◌, Result, Ok, Err, refl, sym, ◌∙◌, ap, subst, inl, inr, append_assoc, add-one}
use Rattle.std.specs.Prelude.{MatchOption, MatchResult}
use Rattle.std.proofs.lemmas.List.{append-nil, drop_all}
use Rattle.std.proofs.Math.Seq.{drop-cons}
use Rattle.model_core.specs.declared.class.Pred.{Pred}
use Rattle.model_core.specs.declared.model.Model.{Model}
use Rattle.model_core.specs.declared.variable.VarDecl.{VarDecl}
use Rattle.plan_text.specs.declared.fault.Wrong.{Wrong}
use Rattle.plan_text.specs.declared.fault.Wrong.TheVariants.{Memory}
use Rattle.plan_text.specs.Found.{Found, Got, Stopped, Done, Then, FindsWords}
use Rattle.plan_text.specs.Lines.{FirstParts, OneParameter, Parameters, NoneLeft, LastParts, TokenValues}
use Rattle.plan_text.proofs.Gatherings.{contains_map, map_contains}
use Rattle.eu_name.proofs.Members.{get_from_contains, contains_from_get}
use Rattle.model_core.specs.Naming.{names_of}
use Rattle.plan_core.specs.Reading.{AppendsWords}

-- what is found behind what was found first
pub then_finds : {X Y : Type 0} (One : List ℕ → Found X → Type 0) (Other : X → List ℕ → Found Y → Type 0) (x : X) (text mid rest : List ℕ) (r : Result Y Wrong)
    → One text (Got x mid) → FindsWords (Other x mid) r rest → FindsWords (Then One Other text) r rest
then_finds One Other x text mid rest (Ok y) one other = (x, (mid, (one, other)))
then_finds One Other x text mid rest (Err wrong) one other = inr (x, (mid, (one, other)))

-- a last thing is found, and nothing more
pub done_finds : {X Y : Type 0} (One : List ℕ → Found X → Type 0) (said : X → Y) (text rest : List ℕ) (x : X) → One text (Got x rest) → Then One (λ got. Done (said got)) text (Got (said x) rest)
done_finds One said text rest x one = (x, (rest, (one, (refl, refl))))

-- ---- parameters

pub parameter_is : (params : List VarDecl) (word : List ℕ) (place : Option ℕ) (r : Bool)
    → MatchOption place ((place : ℕ) (variable : VarDecl) → slice_get params place ≡ Some variable → variable.name ≡ word → ⊥) (λ place. (variable : VarDecl) × (slice_get params place ≡ Some variable) × (variable.name ≡ word))
    → r ≡ is_some place → IsTrue r ↔ Contains (names_of params) word
parameter_is params word None r none is = (
  λ holds. absurd (true≢false (sym holds ∙ is)),
  λ has.
      let found = map_contains (λ (v : VarDecl). v.name) params word has in
      let at = get_from_contains params found.0 found.1.0 in
      absurd (none at.0 found.0 at.1 found.1.1),
)
parameter_is params word (Some place) r (variable, at, named) is = (
  λ holds. subst (Contains (names_of params)) named (contains_map (λ (v : VarDecl). v.name) params variable (contains_from_get params place variable at)),
  λ has. is,
)

-- the values come before those that are found
abbrev pub behind : List ℤ → Found (List ℤ) → Found (List ℤ)
behind values (Got more rest) = Got (values ++ more) rest
behind values (Stopped wrong at) = Stopped wrong at

-- the first parameters were read, so whatever comes of the others comes of all
pub record ParametersRead (model : Model) (names : List (List ℕ)) (params : List VarDecl) (count : ℕ) (text rest : List ℕ) (old new : List ℤ) : Type 0 where
  pub values : List ℤ
  pub is : new ≡ old ++ values
  pub leads : (found : Found (List ℤ)) → Parameters model names (drop count params) rest found → Parameters model names params text (behind values found)

pub no_parameter : (model : Model) (names : List (List ℕ)) (params : List VarDecl) (text : List ℕ) (old : List ℤ) → ParametersRead model names params 0 text text old old
no_parameter model names params text old = record { values = []; is = sym (append-nil old); leads = same }
  where
    same : (found : Found (List ℤ)) → Parameters model names (drop 0 params) text found → Parameters model names params text (behind [] found)
    same (Got more rest) has = has
    same (Stopped wrong at) has = has

first_parameter : (model : Model) (names : List (List ℕ)) (variable : VarDecl) (others : List VarDecl) (text mid : List ℕ) (value : ℤ) (found : Found (List ℤ)) → OneParameter model names variable text (Got value mid)
    → Parameters model names others mid found → Parameters model names (variable ∷ others) text (behind (value ∷ []) found)
first_parameter model names variable others text mid value (Got more rest) one has = (value, (mid, (one, (more, (rest, (has, (refl, refl)))))))
first_parameter model names variable others text mid value (Stopped wrong at) one has = inr (value, (mid, (one, inl has)))

behind_twice : (values : List ℤ) (value : ℤ) (found : Found (List ℤ)) → behind values (behind (value ∷ []) found) ≡ behind (values ++ value ∷ []) found
behind_twice values value (Got more rest) = ap (λ l. Got l rest) (sym (append_assoc values (value ∷ []) more))
behind_twice values value (Stopped wrong at) = refl

drop_there : (params : List VarDecl) (count : ℕ) (variable : VarDecl) → count < length params → variable ≡ get_or params count variable → drop count params ≡ variable ∷ drop (count + 1) params
drop_there params count variable within is =
    rw add-one (drop-cons params count variable within ∙ ap (λ v. v ∷ drop (suc count) params) (sym is))

pub one_parameter_more : (model : Model) (names : List (List ℕ)) (params : List VarDecl) (count : ℕ) (variable : VarDecl) (value written : ℤ) (text rest mid : List ℕ) (old new newer : List ℤ) → written ≡ value
    → count < length params → variable ≡ get_or params count variable → OneParameter model names variable rest (Got value mid) → newer ≡ new ++ written ∷ []
    → ParametersRead model names params count text rest old new → ParametersRead model names params (count + 1) text mid old newer
one_parameter_more model names params count variable value written text rest mid old new newer kept within is one pushed read = record {
  values = read.values ++ value ∷ [];
  is = pushed ∙ ap (λ v. new ++ v ∷ []) kept ∙ (ap (λ l. l ++ value ∷ []) read.is ∙ append_assoc old read.values (value ∷ []));
  leads = λ found has. subst (Parameters model names params text) (behind_twice read.values value found)
      (read.leads (behind (value ∷ []) found)
      (subst (λ ps. Parameters model names ps rest (behind (value ∷ []) found)) (sym (drop_there params count variable within is))
      (first_parameter model names variable (drop (count + 1) params) rest mid value found one has)));
}

pub parameter_stops : (model : Model) (names : List (List ℕ)) (params : List VarDecl) (count : ℕ) (variable : VarDecl) (wrong : Wrong) (text rest at : List ℕ) (old new : List ℤ)
    → count < length params → variable ≡ get_or params count variable → OneParameter model names variable rest (Stopped wrong at)
    → ParametersRead model names params count text rest old new → Parameters model names params text (Stopped wrong at)
parameter_stops model names params count variable wrong text rest at old new within is one read =
    read.leads (Stopped wrong at) (subst (λ ps. Parameters model names ps rest (Stopped wrong at)) (sym (drop_there params count variable within is)) (inl one))

-- memory may run out at any word
pub parameter_memory : (model : Model) (names : List (List ℕ)) (params : List VarDecl) (count : ℕ) (variable : VarDecl) (wrong : Wrong) (text rest at : List ℕ) (old new : List ℤ)
    → count < length params → variable ≡ get_or params count variable → wrong ≡ Memory
    → ParametersRead model names params count text rest old new → Parameters model names params text (Stopped wrong at)
parameter_memory model names params count variable wrong text rest at old new within is none read =
    parameter_stops model names params count variable wrong text rest at old new within is (inl (inl none)) read

drop_end : (params : List VarDecl) (count : ℕ) → length params ≤ count → drop count params ≡ []
drop_end params count past = drop_all count params past

pub parameters_done : (model : Model) (names : List (List ℕ)) (params : List VarDecl) (count : ℕ) (text rest : List ℕ) (old new : List ℤ) → length params ≤ count
    → ParametersRead model names params count text rest old new → AppendsWords (Parameters model names params text) old new (Ok tt) rest
parameters_done model names params count text rest old new past read = (
  read.values,
  (
    read.is,
    subst (λ l. Parameters model names params text (Got l rest)) (append-nil read.values)
        (read.leads (Got [] rest) (subst (λ ps. Parameters model names ps rest (Got [] rest)) (sym (drop_end params count past)) (refl, refl))),
  ),
)

pub last_found : (model : Model) (names : List (List ℕ)) (params : List VarDecl) (text mid : List ℕ) (old new : List ℤ) (r : Result (Unit {0}) Wrong)
    → AppendsWords (Parameters model names params text) old new (Ok tt) mid → FindsWords (NoneLeft names mid) r mid
    → AppendsWords (Then (Parameters model names params) (λ values. Then (NoneLeft names) (λ said. Done values)) text) old new r mid
last_found model names params text mid old new (Ok said) (values, (is, got)) none = (values, (is, (values, (mid, (got, (said, (mid, (none, (refl, refl)))))))))
last_found model names params text mid old new (Err wrong) (values, (is, got)) none = inr (values, (mid, (got, inl none)))

-- ---- the values of a token

pub values_found : (model : Model) (number : ℕ) (pred : Pred) (params : List VarDecl) (text mid rest : List ℕ) (first given new : List ℤ) (read : Result (Unit {0}) Wrong) (r : Result (List ℤ) Wrong)
    → slice_get model.preds number ≡ Some pred → params ≡ pred.params → FirstParts model text (Got first mid) → given ≡ first → AppendsWords (LastParts model params mid) given new read rest
    → MatchResult read (λ said. r ≡ Ok new) (λ wrong. r ≡ Err wrong) → FindsWords (TokenValues model number text) r rest
values_found model number pred params text mid rest first given new (Ok said) r is same one from (last, (pushed, got)) gives =
    subst (λ r. FindsWords (TokenValues model number text) r rest) (sym (gives ∙ ap Ok (pushed ∙ ap (λ l. l ++ last) from)))
    (pred, (is, (first, (mid, (one, (last, (rest, (subst (λ ps. LastParts model ps mid (Got last rest)) same got, (refl, refl)))))))))
values_found model number pred params text mid rest first given new (Err wrong) r is same one from stops gives =
    subst (λ r. FindsWords (TokenValues model number text) r rest) (sym gives) (pred, (is, inr (first, (mid, (one, inl (subst (λ ps. LastParts model ps mid (Stopped wrong rest)) same stops))))))

pub values_stop : (model : Model) (number : ℕ) (pred : Pred) (text at : List ℕ) (wrong : Wrong) → slice_get model.preds number ≡ Some pred → FirstParts model text (Stopped wrong at) → TokenValues model number text (Stopped wrong at)
values_stop model number pred text at wrong is stops = (pred, (is, inl stops))

pub values_memory : (model : Model) (number : ℕ) (pred : Pred) (text at : List ℕ) (wrong : Wrong) → slice_get model.preds number ≡ Some pred → wrong ≡ Memory → TokenValues model number text (Stopped wrong at)
values_memory model number pred text at wrong is none = (pred, (is, inl (inl (inl (inl none)))))
