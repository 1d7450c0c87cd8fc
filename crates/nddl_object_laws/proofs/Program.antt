-- The declarations of a program, one after another.
use Rattle.std.proofs.Common.{◌≡◌, ℕ, suc, ◌+◌, ◌≤◌, Bool, true, false, List, [], ◌∷◌, ◌++◌, length, refl, sym, ◌∙◌, ap, subst, append_assoc, append-nil, arith}
use Rattle.std.specs.Prelude.{Option, Some, None, slice_get, if◌then◌else◌}
use Rattle.std.specs.List.{flat_map, list_any}
use Rattle.std.specs.Option.{option_map_or}
use Rattle.std.proofs.lemmas.List.Concat.{flat_map-append}
use Rattle.nddl_ast.specs.declared.declaration.Decl.{Decl}
use Rattle.nddl_ast.specs.declared.declaration.Decl.TheVariants as decls
use Rattle.nddl_ast.specs.declared.expression.Init.{Init}
use Rattle.nddl_ast.specs.declared.expression.Init.TheVariants as inits
use Rattle.nddl_ast.specs.declared.statement.Variable.{Variable}
use Rattle.nddl_symbols.specs.declared.fault.Fault.{Fault}
use Rattle.nddl_symbols.specs.Finding.{earliest_fault}
use Rattle.nddl_symbols.specs.Names.{is_config_sort, sort_of_variable}
use Rattle.nddl_symbols.specs.Scope.{named_number}
use Rattle.nddl_symbols.proofs.Earliest.{earliest_append}
use Rattle.nddl_hierarchy.specs.Facts.{Facts}
use Rattle.nddl_constructors.specs.Objects.{written_faults}
use Rattle.nddl_construction.specs.declared.made.MadeObject.{MadeObject}
use Rattle.nddl_objects.specs.Objects.{Progress, all_declared, init_declared, last_progress, most_levels, object_declared, one_declared, progress_fault, settings_declared, with_named}
use Rattle.nddl_object_laws.specs.Carried.{Carried, There}
use Rattle.nddl_object_laws.specs.Made.{Doing, MakesObject, HasSettings, DoesNeither, all_carried, carried_from, carried_objects, declared_new, doing_carried, doing_of, init_doing, made_objects, nothing_there, there_after, there_behind}
use Rattle.nddl_object_laws.specs.Told.{AreThereInTurn, RunAsStated, TellTheEarliest, stated_progress}
use Rattle.nddl_object_laws.specs.Wrong.{carried_faults, doing_faults, is_too_deep, is_too_many, met_limit_faults, met_faults, doing_faults_from, text_faults}
use Rattle.nddl_object_laws.proofs.Closing.{closed_behind, closed_first}
use Rattle.nddl_object_laws.proofs.Counting.{Agree, agree_front, objects_append}
use Rattle.nddl_object_laws.proofs.Least.{earlier_of_both}
use Rattle.nddl_object_laws.proofs.Making.{comes}
use Rattle.nddl_object_laws.proofs.Noting.{state}
use Rattle.nddl_object_laws.proofs.Reading.{IsClosed}
use Rattle.nddl_object_laws.proofs.Steps.{datum_is}

-- ---- one declaration

-- where the making has got to, if this is there
abbrev progress_at : Facts → There → Option Fault → List Carried → Option Fault → Progress
progress_at facts there met done first = record {
  so_far = state facts there.objects met done;
  first = first;
  named_objects = there.named_objects;
  settings = there.settings;
}

-- what comes of a declaration that does this
abbrev doing_declared : Facts → ℕ → Doing → Progress → Progress
doing_declared facts number (MakesObject variable creation) progress = object_declared facts number variable creation progress
doing_declared facts number (HasSettings creation) progress = settings_declared facts number creation progress
doing_declared facts number DoesNeither progress = progress

init_done : (facts : Facts) (number : ℕ) (variable : Variable) (init : Option Init) (progress : Progress)
    → init_declared facts number variable init progress ≡ doing_declared facts number (init_doing variable init) progress
init_done facts number variable None progress = refl
init_done facts number variable (Some (inits.Expr expr)) progress = refl
init_done facts number variable (Some (inits.New creation)) progress = by (is_config_sort (sort_of_variable variable))
  where
    by : (config : Bool)
        → (if config then settings_declared facts number creation progress else object_declared facts number variable creation progress)
        ≡ doing_declared facts number (if config then HasSettings creation else MakesObject variable creation) progress
    by true = refl
    by false = refl

pub decl_done : (facts : Facts) (number : ℕ) (decl : Decl) (progress : Progress)
    → one_declared facts number decl progress ≡ doing_declared facts number (doing_of decl) progress
decl_done facts number (decls.Variable variable) progress = init_done facts number variable variable.init progress
decl_done facts number other progress = refl

module _ (facts : Facts) where
  -- the objects behind a declaration are those before it, and those that it makes
  pub objects_behind : (there : There) (number : ℕ) (doing : Doing)
      → there.objects ++ carried_objects facts (doing_carried facts there number doing) ≡ (there_behind facts there number doing).objects
  objects_behind there number (MakesObject variable creation) = refl
  objects_behind there number (HasSettings creation) = append-nil there.objects
  objects_behind there number DoesNeither = append-nil there.objects

  -- ---- all declarations

  pub after_one : (number : ℕ) (decl : Decl) → slice_get facts.program number ≡ Some decl
      → there_after facts (number + 1) ≡ there_behind facts (there_after facts number) number (doing_of decl)
  unfolding there_after
  after_one number decl is =
      let next : number + 1 ≡ suc number = omega arith in
      ap (there_after facts) next
      ∙ ap (λ (found : Option Decl). option_map_or (λ (one : Decl). there_behind facts (there_after facts number) number (doing_of one)) found (there_after facts number)) is

  -- these are the declarations from the one of this number on
  abbrev pub StandFrom : ℕ → List Decl → Type 0
  StandFrom number some = (place : ℕ) → slice_get some place ≡ slice_get facts.program (number + place)

  pub first_stands : (number : ℕ) (decl : Decl) (more : List Decl) → StandFrom number (decl ∷ more) → slice_get facts.program number ≡ Some decl
  first_stands number decl more stand =
      let e : number ≡ number + 0 = omega arith in ap (slice_get facts.program) e ∙ sym (stand 0)

  pub rest_stands : (number : ℕ) (decl : Decl) (more : List Decl) → StandFrom number (decl ∷ more) → StandFrom (number + 1) more
  rest_stands number decl more stand = λ place.
      let e : number + suc place ≡ number + 1 + place = omega arith in stand (suc place) ∙ ap (slice_get facts.program) e

  -- what is made by then, and what the declarations from there on make
  objects_after : (number : ℕ) (decl : Decl) (more : List Decl) → StandFrom number (decl ∷ more)
      → (there_after facts number).objects ++ carried_objects facts (carried_from facts number (decl ∷ more))
      ≡ (there_after facts (number + 1)).objects ++ carried_objects facts (carried_from facts (number + 1) more)
  objects_after number decl more stand =
      let there : There = there_after facts number in
      let here : List Carried = doing_carried facts there number (doing_of decl) in
      let rest : List Carried = carried_from facts (number + 1) more in
      ap (λ objects. there.objects ++ objects) (objects_append facts here rest)
      ∙ (sym (append_assoc there.objects (carried_objects facts here) (carried_objects facts rest))
      ∙ ap (λ objects. objects ++ carried_objects facts rest)
      (objects_behind there number (doing_of decl)
      ∙ sym (ap (λ (t : There). t.objects) (after_one number decl (first_stands number decl more stand)))))

  pub all_after : (some : List Decl) (number : ℕ) → StandFrom number some
      → (there_after facts number).objects ++ carried_objects facts (carried_from facts number some) ≡ (there_after facts (number + length some)).objects
  all_after [] number stand =
      let e : number ≡ number + 0 = omega arith in
      append-nil (there_after facts number).objects ∙ ap (λ n. (there_after facts n).objects) e
  all_after (decl ∷ more) number stand =
      let e : number + 1 + length more ≡ number + suc (length more) = omega arith in
      objects_after number decl more stand
      ∙ (all_after more (number + 1) (rest_stands number decl more stand) ∙ ap (λ n. (there_after facts n).objects) e)

module _ (facts : Facts) (all : List MadeObject) where
  abbrev wrong : Carried → List Fault
  wrong carried = carried_faults facts all carried

  pub doing_is : (there : There) → IsClosed there → (number : ℕ) (doing : Doing) (met : Option Fault) (done : List Carried) (first : Option Fault)
      → Agree (there.objects ++ carried_objects facts (doing_carried facts there number doing)) all
      → doing_declared facts number doing (progress_at facts there met done first)
      ≡ progress_at facts (there_behind facts there number doing) (earliest_fault met (flat_map wrong (doing_carried facts there number doing)))
      (done ++ doing_carried facts there number doing) (earliest_fault first (doing_faults facts there number doing))
  doing_is there closed number (MakesObject variable creation) met done first agree =
      let same : length there.objects ≤ length there.objects = omega arith in
      let made = comes facts there closed all most_levels there.objects met done (declared_new facts number variable creation) same
      (λ place less. refl) (λ place. tt) agree in
      let datum = datum_is facts most_levels creation (state facts there.objects met done) in
      λ i. record {
        so_far = made i;
        first = first;
        named_objects = with_named there.named_objects (named_number false facts.names variable.name.text) (datum i);
        settings = there.settings;
      }
  doing_is there closed number (HasSettings creation) met done first agree =
      λ i. progress_at facts (there_behind facts there number (HasSettings creation)) met (sym (append-nil done) i)
      (earliest_fault first (doing_faults facts there number (HasSettings creation)))
  doing_is there closed number DoesNeither met done first agree = λ i. progress_at facts there met (sym (append-nil done) i) first

  pub all_are : (some : List Decl) (number : ℕ) (met : Option Fault) (done : List Carried) (first : Option Fault)
      → StandFrom facts number some → IsClosed (there_after facts number)
      → Agree ((there_after facts number).objects ++ carried_objects facts (carried_from facts number some)) all
      → all_declared facts number some (progress_at facts (there_after facts number) met done first)
      ≡ progress_at facts (there_after facts (number + length some)) (earliest_fault met (flat_map wrong (carried_from facts number some)))
      (done ++ carried_from facts number some) (earliest_fault first (doing_faults_from facts number some))
  all_are [] number met done first stand closed agree =
      let e : number ≡ number + 0 = omega arith in
      λ i. progress_at facts (there_after facts (e i)) met (sym (append-nil done) i) first
  all_are (decl ∷ more) number met done first stand closed agree =
      let there : There = there_after facts number in
      let doing : Doing = doing_of decl in
      let here : List Carried = doing_carried facts there number doing in
      let rest : List Carried = carried_from facts (number + 1) more in
      let own : List Fault = doing_faults facts there number doing in
      let others : List Fault = doing_faults_from facts (number + 1) more in
      let met_here : Option Fault = earliest_fault met (flat_map wrong here) in
      let first_here : Option Fault = earliest_fault first own in
      let next = after_one facts number decl (first_stands facts number decl more stand) in
      let A : List MadeObject → Type 0 = λ objects. Agree objects all in
      let agree_here : Agree (there.objects ++ carried_objects facts here) all =
      agree_front (there.objects ++ carried_objects facts here) (carried_objects facts rest) all
      (subst A (ap (λ objects. there.objects ++ objects) (objects_append facts here rest)
      ∙ sym (append_assoc there.objects (carried_objects facts here) (carried_objects facts rest))) agree) in
      let agree_rest : Agree ((there_after facts (number + 1)).objects ++ carried_objects facts rest) all =
      subst A (objects_after facts number decl more stand) agree in
      let C : There → Type 0 = λ t. IsClosed t in
      let closed_next : IsClosed (there_after facts (number + 1)) = subst C (sym next) (closed_behind facts there closed number doing) in
      let e : number + 1 + length more ≡ number + suc (length more) = omega arith in
      ap (all_declared facts (number + 1) more)
      (decl_done facts number decl (progress_at facts there met done first)
      ∙ (doing_is there closed number doing met done first agree_here
      ∙ ap (λ (t : There). progress_at facts t met_here (done ++ here) first_here) (sym next)))
      ∙ (all_are more (number + 1) met_here (done ++ here) first_here (rest_stands facts number decl more stand) closed_next agree_rest
      ∙ (λ i. progress_at facts (there_after facts (e i))
      (sym (ap (earliest_fault met) (flat_map-append wrong here rest) ∙ earliest_append met (flat_map wrong here) (flat_map wrong rest)) i)
      (append_assoc done here rest i) (sym (earliest_append first own others) i)))

-- ---- the program

starts : (facts : Facts)
    → last_progress facts
    ≡ all_declared facts 0 facts.program (progress_at facts (there_after facts 0) None [] (earliest_fault None (written_faults facts)))
unfolding last_progress there_after
starts facts = refl

pub first_there : (facts : Facts) → there_after facts 0 ≡ nothing_there facts
unfolding there_after
first_there facts = refl

pub all_carried_is : (facts : Facts) → all_carried facts ≡ carried_from facts 0 facts.program
unfolding all_carried
all_carried_is facts = refl

module _ (facts : Facts) where
  abbrev all : List MadeObject
  all = made_objects facts

  pub stand : (place : ℕ) → slice_get facts.program place ≡ slice_get facts.program (0 + place)
  stand place = let e : place ≡ 0 + place = omega arith in ap (slice_get facts.program) e

  closed : IsClosed (there_after facts 0)
  closed = let C : There → Type 0 = λ t. IsClosed t in subst C (sym (first_there facts)) (closed_first facts)

  objects_are : (there_after facts 0).objects ++ carried_objects facts (carried_from facts 0 facts.program) ≡ made_objects facts
  objects_are =
      (λ i. (first_there facts i).objects ++ carried_objects facts (carried_from facts 0 facts.program))
      ∙ ap (carried_objects facts) (sym (all_carried_is facts))

  agree : Agree ((there_after facts 0).objects ++ carried_objects facts (carried_from facts 0 facts.program)) all
  agree = let A : List MadeObject → Type 0 = λ objects. Agree objects all in subst A (sym objects_are) (λ number less. refl)

  abbrev end : There
  end = there_after facts (length facts.program)

  abbrev met_end : Option Fault
  met_end = earliest_fault None (flat_map (carried_faults facts all) (all_carried facts))

  abbrev first_end : Option Fault
  first_end = earliest_fault (earliest_fault None (written_faults facts)) (doing_faults_from facts 0 facts.program)

  ends : last_progress facts ≡ progress_at facts end met_end (all_carried facts) first_end
  ends =
      let e : 0 + length facts.program ≡ length facts.program = omega arith in
      starts facts
      ∙ (all_are facts all facts.program 0 None [] (earliest_fault None (written_faults facts)) stand closed agree
      ∙ (λ i. progress_at facts (there_after facts (e i))
      (earliest_fault None (flat_map (carried_faults facts all) (sym (all_carried_is facts) i))) (sym (all_carried_is facts) i) first_end))

  objects_end : end.objects ≡ made_objects facts
  objects_end =
      let e : 0 + length facts.program ≡ length facts.program = omega arith in
      sym (sym objects_are ∙ (all_after facts facts.program 0 stand ∙ ap (λ n. (there_after facts n).objects) e))

  met_end_is : earliest_fault met_end (met_limit_faults facts (all_carried facts)) ≡ earliest_fault None (met_faults facts)
  met_end_is = sym (earliest_append None (flat_map (carried_faults facts all) (all_carried facts)) (met_limit_faults facts (all_carried facts)))

  first_end_is : first_end ≡ earliest_fault None (text_faults facts)
  first_end_is = sym (earliest_append None (written_faults facts) (doing_faults_from facts 0 facts.program))

  runs_as_stated : last_progress facts ≡ stated_progress facts
  runs_as_stated = ends ∙ (λ i. record {
    so_far = record {
      objects = objects_end i;
      first = met_end_is i;
      is_full = list_any (is_too_many facts) (all_carried facts);
      is_deep = list_any (is_too_deep facts) (all_carried facts);
    };
    first = first_end_is i;
    named_objects = end.named_objects;
    settings = end.settings;
  })

  tells_the_earliest : progress_fault (last_progress facts) ≡ earliest_fault None (text_faults facts ++ met_faults facts)
  tells_the_earliest = ap progress_fault runs_as_stated ∙ earlier_of_both (text_faults facts) (met_faults facts)

pub run_as_stated : RunAsStated
run_as_stated facts = runs_as_stated facts

pub tell_the_earliest : TellTheEarliest
tell_the_earliest facts = tells_the_earliest facts

pub are_there_in_turn : AreThereInTurn
are_there_in_turn facts = objects_end facts
