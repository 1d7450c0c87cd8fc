-- What is wrong with a problem stands in a declaration whose file is there.
use Rattle.std.proofs.Common.{◌≡◌, ℕ, ◌+◌, ◌<◌, Bool, true, false, List, [], ◌∷◌, ◌++◌, length, Option, Some, None, map, slice_get, refl, sym, ◌∙◌, codes, arith}
use Rattle.std.specs.Prelude.{All, bytes_eq, if◌then◌else◌}
use Rattle.std.specs.List.{flat_map}
use Rattle.std.specs.Option.{option_map_or}
use Rattle.std.proofs.lemmas.List.Elements.{All-nil, All-cons, All-append, All-head, All-tail}
use Rattle.eu_index.specs.Index.{Noted}
use Rattle.model_core.specs.declared.class.Pred.{Pred}
use Rattle.model_core.proofs.Items.{item_all}
use Rattle.nddl_ast.specs.declared.declaration.Decl.{Decl}
use Rattle.nddl_ast.specs.declared.declaration.Decl.TheVariants as decls
use Rattle.nddl_ast.specs.declared.declaration.FileDecls.{FileDecls}
use Rattle.nddl_ast.specs.declared.expression.Expr.{Expr}
use Rattle.nddl_ast.specs.declared.expression.Expr.TheVariants as exprs
use Rattle.nddl_ast.specs.declared.expression.Init.{Init}
use Rattle.nddl_ast.specs.declared.expression.Init.TheVariants as inits
use Rattle.nddl_ast.specs.declared.kind.TextKind.{TextKind}
use Rattle.nddl_ast.specs.declared.kind.TextKind.TheVariants as faults
use Rattle.nddl_ast.specs.declared.name.Path.{Path}
use Rattle.nddl_ast.specs.declared.statement.Call.{Call}
use Rattle.nddl_ast.specs.declared.statement.Variable.{Variable}
use Rattle.nddl_ast.specs.Path.{last_name, path_before}
use Rattle.nddl_ast.specs.Places.{expr_place}
use Rattle.nddl_symbols.specs.declared.fault.Fault.{Fault}
use Rattle.nddl_symbols.specs.declared.place.Place.{Place}
use Rattle.nddl_symbols.specs.Joined.{joined_sites}
use Rattle.nddl_symbols.specs.Names.{is_global_sort, is_posting_word, scope_names, sort_of_variable}
use Rattle.nddl_symbols.specs.Place.{file_of_place}
use Rattle.nddl_symbols.specs.Scope.{fault_if}
use Rattle.nddl_hierarchy.specs.Facts.{Facts}
use Rattle.nddl_types.specs.declared.table.TypeTable.{TypeTable}
use Rattle.nddl_rules.specs.Collected.{RuleTexts, text_head, text_statements, tree_at, tree_with, trees_from}
use Rattle.nddl_rules.specs.declared.places.TextPlace.{TextPlace}
use Rattle.nddl_rules.specs.Told.{file_texts, file_trees}
use Rattle.nddl_rules.specs.Written.{noted_preds, places_of, preds_above, texts_written}
use Rattle.nddl_terms.specs.PlainTree.{PlainTree}
use Rattle.nddl_terms.specs.declared.lexicon.Lexicon.{Lexicon}
use Rattle.nddl_construction.specs.declared.made.MadeObject.{MadeObject}
use Rattle.nddl_construction.specs.Scene.{Grounds}
use Rattle.nddl_objects.specs.Objects.{Progress, last_progress, progress_fault}
use Rattle.nddl_problem_check.specs.declared.acts.Act.{Act}
use Rattle.nddl_problem_check.specs.declared.acts.Act.TheVariants as acts
use Rattle.nddl_problem_check.specs.Acts.{act_named}
use Rattle.nddl_problem_check.specs.Fitness.{Outset, foreign_begun_faults, unfit_decl_faults, unfit_faults_from}
use Rattle.nddl_problem_check.specs.Limits.{all_global_places, count_faults, outset_of, past_faults, problem_limit_faults}
use Rattle.nddl_problem_check.specs.Made.{act_places, call_places, expr_places, making_place, making_places, path_places, reading_names}
use Rattle.nddl_problem_check.specs.Posts.{fact_place, fact_places, global_place, global_places, place_here, posting_place, posting_places}
use Rattle.nddl_problem_check.specs.Sound.{are_sound}
use Rattle.nddl_unroll.specs.declared.limits.Tally.{Tally}
use Rattle.nddl_unroll.specs.Limits.{limit_faults, limits_passed, no_rules, passes, rule_limits, tally_of, with_rule}
use Rattle.nddl_unroll.specs.Weighing.{weighed_tree, weighed_trees}
use Rattle.nddl_problem.specs.Compiled.{problem_fault, problem_faults}
use Rattle.nddl_problem.specs.Known.{Known, known_by, lexicon_known, progress_known, scope_known}
use Rattle.nddl_verdicts.proofs.Making.{earliest_in, progress_in}
use Rattle.nddl_verdicts.proofs.Placing.{AllIn, here, joined, nil}
use Rattle.nddl_verdicts.proofs.Texts.{texts_in}

-- the places are in declarations of such numbers
record PlacesIn (Good : ℕ → Type 0) (some : List Place) : Type 0 where
  all : All (λ (place : Place). Good place.decl) some

-- and so are the trees
record TreesIn (Good : ℕ → Type 0) (some : List PlainTree) : Type 0 where
  all : All (λ (tree : PlainTree). Good tree.place.decl) some

module _ (Good : ℕ → Type 0) where
  abbrev IsIn : Place → Type 0
  IsIn place = Good place.decl

  no_places : PlacesIn Good []
  no_places = record { all = All-nil IsIn }

  one_place : (place : Place) → Good place.decl → PlacesIn Good (place ∷ [])
  one_place place good = record { all = All-cons IsIn place [] good (All-nil IsIn) }

  places_joined : (one other : List Place) → PlacesIn Good one → PlacesIn Good other → PlacesIn Good (one ++ other)
  places_joined one other first second = record { all = All-append IsIn one other first.all second.all }

  places_each : {X : Type 0} (f : X → List Place) (xs : List X) → ((x : X) → PlacesIn Good (f x)) → PlacesIn Good (flat_map f xs)
  places_each f [] all = no_places
  places_each f (x ∷ xs) all = places_joined (f x) (flat_map f xs) (all x) (places_each f xs all)

  places_mapped : {X : Type 0} (place : Place) → Good place.decl → (xs : List X) → PlacesIn Good (map (λ (x : X). place) xs)
  places_mapped place good [] = no_places
  places_mapped {X = X} place good (x ∷ xs) = places_joined (place ∷ []) (map (λ (y : X). place) xs) (one_place place good) (places_mapped place good xs)

  place_if : (place : Place) → Good place.decl → (b : Bool) → PlacesIn Good (if b then place ∷ [] else [])
  place_if place good true = one_place place good
  place_if place good false = no_places

  -- ---- where things are posted, declared and made

  module _ (decl : ℕ) (good : Good decl) where
    posting : (one : Decl) → PlacesIn Good (posting_place decl one)
    posting (decls.Ask asks) = place_if (place_here decl asks.word.at) good (is_posting_word asks.word.text)
    posting (decls.Include at file file_at) = no_places
    posting (decls.Enum at name members_at some) = no_places
    posting (decls.Typedef at declared name) = no_places
    posting (decls.Forward at name) = no_places
    posting (decls.Class at name parent some) = no_places
    posting (decls.Rule class predicate some) = no_places
    posting (decls.Variable variable) = no_places
    posting (decls.Call call) = no_places

    fact : (one : Decl) → PlacesIn Good (fact_place decl one)
    fact (decls.Ask asks) = place_if (place_here decl asks.word.at) good (bytes_eq asks.word.text (codes "fact"))
    fact (decls.Include at file file_at) = no_places
    fact (decls.Enum at name members_at some) = no_places
    fact (decls.Typedef at declared name) = no_places
    fact (decls.Forward at name) = no_places
    fact (decls.Class at name parent some) = no_places
    fact (decls.Rule class predicate some) = no_places
    fact (decls.Variable variable) = no_places
    fact (decls.Call call) = no_places

    global : (one : Decl) → PlacesIn Good (global_place decl one)
    global (decls.Variable variable) = place_if (place_here decl variable.name.at) good (is_global_sort (sort_of_variable variable))
    global (decls.Include at file file_at) = no_places
    global (decls.Enum at name members_at some) = no_places
    global (decls.Typedef at declared name) = no_places
    global (decls.Forward at name) = no_places
    global (decls.Class at name parent some) = no_places
    global (decls.Rule class predicate some) = no_places
    global (decls.Call call) = no_places
    global (decls.Ask asks) = no_places

    module _ (facts : Facts) where
      of_path : (path : Path) → PlacesIn Good (path_places facts decl path)
      of_path path = places_mapped (place_here decl path.first.at) good (reading_names facts path)

      of_expr : (expr : Expr) → PlacesIn Good (expr_places facts decl expr)
      of_expr (exprs.Path path) = of_path path
      of_expr (exprs.Literal literal) = no_places

      of_act : (front : Path) (act : Option Act) → PlacesIn Good (act_places facts decl front act)
      of_act front None = no_places
      of_act front (Some acts.Specify) = of_path front
      of_act front (Some acts.Activate) = no_places
      of_act front (Some acts.Reject) = no_places
      of_act front (Some acts.Merge) = no_places
      of_act front (Some acts.Close) = no_places

      of_call : (call : Call) → PlacesIn Good (call_places facts decl call)
      of_call call = by (path_before call.path)
        where
          by : (o : Option Path)
              → PlacesIn Good (option_map_or (λ front. act_places facts decl front (act_named (last_name call.path).text)) o (flat_map (expr_places facts decl) call.arguments))
          by None = places_each (expr_places facts decl) call.arguments of_expr
          by (Some front) = of_act front (act_named (last_name call.path).text)

      making : (one : Decl) → PlacesIn Good (making_place facts decl one)
      making (decls.Call call) = of_call call
      making (decls.Include at file file_at) = no_places
      making (decls.Enum at name members_at some) = no_places
      making (decls.Typedef at declared name) = no_places
      making (decls.Forward at name) = no_places
      making (decls.Class at name parent some) = no_places
      making (decls.Rule class predicate some) = no_places
      making (decls.Variable variable) = no_places
      making (decls.Ask asks) = no_places

      -- ---- what only objects tell

      begun : (grounds : Grounds) (objects : List MadeObject) (variable : Variable) (init : Option Init) → AllIn Good (foreign_begun_faults grounds objects decl variable init)
      begun grounds objects variable None = nil Good
      begun grounds objects variable (Some (inits.Expr expr)) = here Good decl good (expr_place expr) _
      begun grounds objects variable (Some (inits.New creation)) = nil Good

      unfit : (outset : Outset) (are_fine : Bool) (one : Decl) → AllIn Good (unfit_decl_faults outset are_fine decl one)
      unfit outset are_fine (decls.Variable variable) = begun outset.grounds outset.objects variable variable.init
      unfit outset are_fine (decls.Ask asks) = here Good decl good asks.word.at _
      unfit outset are_fine (decls.Include at file file_at) = nil Good
      unfit outset are_fine (decls.Enum at name members_at some) = nil Good
      unfit outset are_fine (decls.Typedef at declared name) = nil Good
      unfit outset are_fine (decls.Forward at name) = nil Good
      unfit outset are_fine (decls.Class at name parent some) = nil Good
      unfit outset are_fine (decls.Rule class predicate some) = nil Good
      unfit outset are_fine (decls.Call call) = nil Good

  module _ (count : ℕ) (good : (number : ℕ) → number < count → Good number) where
    postings : (number : ℕ) (some : List Decl) → number + length some ≡ count → PlacesIn Good (posting_places number some)
    postings number [] is = no_places
    postings number (decl ∷ more) is =
        places_joined _ _ (posting number (good number (omega (arith, is))) decl) (postings (number + 1) more (omega (arith, is)))

    facts_from : (number : ℕ) (some : List Decl) → number + length some ≡ count → PlacesIn Good (fact_places number some)
    facts_from number [] is = no_places
    facts_from number (decl ∷ more) is =
        places_joined _ _ (fact number (good number (omega (arith, is))) decl) (facts_from (number + 1) more (omega (arith, is)))

    globals_from : (number : ℕ) (some : List Decl) → number + length some ≡ count → PlacesIn Good (global_places number some)
    globals_from number [] is = no_places
    globals_from number (decl ∷ more) is =
        places_joined _ _ (global number (good number (omega (arith, is))) decl) (globals_from (number + 1) more (omega (arith, is)))

    makings : (facts : Facts) (number : ℕ) (some : List Decl) → number + length some ≡ count → PlacesIn Good (making_places facts number some)
    makings facts number [] is = no_places
    makings facts number (decl ∷ more) is =
        places_joined _ _ (making number (good number (omega (arith, is))) facts decl) (makings facts (number + 1) more (omega (arith, is)))

    unfits : (facts : Facts) (outset : Outset) (are_fine : Bool) (number : ℕ) (some : List Decl) → number + length some ≡ count
        → AllIn Good (unfit_faults_from outset are_fine number some)
    unfits facts outset are_fine number [] is = nil Good
    unfits facts outset are_fine number (decl ∷ more) is =
        joined Good _ _ (unfit number (good number (omega (arith, is))) facts outset are_fine decl) (unfits facts outset are_fine (number + 1) more (omega (arith, is)))

  past : (kind : TextKind) (most : ℕ) (some : List Place) → PlacesIn Good some → AllIn Good (past_faults kind most some)
  past kind most some places = by (slice_get some most) refl
    where
      by : (o : Option Place) → slice_get some most ≡ o → AllIn Good (option_map_or (λ (place : Place). record { place = place; kind = kind } ∷ []) o [])
      by None is = nil Good
      by (Some place) is = record {
        all = All-cons (λ (one : Fault). Good one.place.decl) (record { place = place; kind = kind }) [] (item_all IsIn some most place places.all is)
            (All-nil (λ (one : Fault). Good one.place.decl));
      }

  module _ (facts : Facts) (good : (number : ℕ) → number < length facts.program → Good number) where
    counts_in : AllIn Good (count_faults facts)
    counts_in =
        joined Good _ _ (past faults.LimitRoots 4096 (posting_places 0 facts.program) (postings (length facts.program) good 0 facts.program (omega arith)))
        (joined Good _ _ (past faults.LimitFacts 512 (fact_places 0 facts.program) (facts_from (length facts.program) good 0 facts.program (omega arith)))
        (past faults.LimitGlobals 4096 (all_global_places facts)
        (places_joined _ _ (globals_from (length facts.program) good 0 facts.program (omega arith))
        (makings (length facts.program) good facts 0 facts.program (omega arith)))))

    limits_in : (progress : Progress) (lexicon : Lexicon) (scope : Noted) → AllIn Good (problem_limit_faults facts progress lexicon scope)
    limits_in progress lexicon scope =
        let outset : Outset = outset_of facts progress lexicon scope in
        joined Good _ _ (unfits (length facts.program) good facts outset (are_sound outset) 0 facts.program (omega arith)) counts_in

  -- ---- trees

  limit_in : (place : Place) → Good place.decl → (kind : TextKind) (limit before after : ℕ) → AllIn Good (limit_faults place kind limit before after)
  limit_in place good kind limit before after = here Good place.decl good place.at (fault_if (passes limit before after) kind)

  rule_in : (place : Place) → Good place.decl → (before after : Tally) → AllIn Good (rule_limits place before after)
  rule_in place good before after =
      joined Good _ _ (limit_in place good faults.LimitRules 1024 before.rules after.rules)
      (joined Good _ _ (limit_in place good faults.LimitGuards 1024 before.amounts.guards after.amounts.guards)
      (joined Good _ _ (limit_in place good faults.LimitSlots 128 before.amounts.slots after.amounts.slots)
      (joined Good _ _ (limit_in place good faults.LimitLocals 128 before.amounts.locals after.amounts.locals)
      (joined Good _ _ (limit_in place good faults.LimitItems 1024 before.amounts.items after.amounts.items)
      (limit_in place good faults.LimitTurns 65536 before.amounts.turns after.amounts.turns)))))

  passed_in : (lexicon : Lexicon) (pred : ℕ) (tally : Tally) (some : List PlainTree) → TreesIn Good some → AllIn Good (limits_passed pred tally (weighed_trees lexicon some))
  passed_in lexicon pred tally [] trees = nil Good
  passed_in lexicon pred tally (tree ∷ more) trees =
      let before : Tally = tally_of tree.pred pred tally in
      let after : Tally = with_rule before (weighed_tree lexicon tree).amounts in
      joined Good _ _ (rule_in tree.place (All-head (λ (one : PlainTree). Good one.place.decl) tree more trees.all) before after)
      (passed_in lexicon tree.pred after more (record { all = All-tail (λ (one : PlainTree). Good one.place.decl) tree more trees.all }))

-- ---- files

-- the declaration of this number is in one of the files
abbrev pub IsInFile : List FileDecls → ℕ → Type 0
IsInFile files decl = (file : FileDecls) × (file_of_place files (joined_sites files) (record { decl = decl; at = 0 }) ≡ Some file)

module _ (files : List FileDecls) where
  abbrev IsTreeIn : PlainTree → Type 0
  IsTreeIn tree = IsInFile files tree.place.decl

  no_trees : TreesIn (IsInFile files) []
  no_trees = record { all = All-nil IsTreeIn }

  trees_joined : (one other : List PlainTree) → TreesIn (IsInFile files) one → TreesIn (IsInFile files) other → TreesIn (IsInFile files) (one ++ other)
  trees_joined one other first second = record { all = All-append IsTreeIn one other first.all second.all }

  module _ (texts : RuleTexts) (same_files : texts.files ≡ files) (same_sites : texts.sites ≡ joined_sites files) where
    one_tree : (number : ℕ) (pred : Pred) (place : TextPlace) → TreesIn (IsInFile files) (tree_at texts number pred place)
    one_tree number pred place = by (file_of_place texts.files texts.sites (text_head texts.program place)) refl
      where
        by : (o : Option FileDecls) → file_of_place texts.files texts.sites (text_head texts.program place) ≡ o
            → TreesIn (IsInFile files) (option_map_or (λ file. tree_with texts.scope number pred file.name (text_head texts.program place) (text_statements texts.program place) ∷ []) o [])
        by None there = no_trees
        by (Some file) there = record {
          all = All-cons IsTreeIn _ [] (file, (λ i. file_of_place (sym same_files i) (sym same_sites i) (record { decl = place.decl; at = 0 })) ∙ there) (All-nil IsTreeIn);
        }

    of_places : (number : ℕ) (pred : Pred) (some : List TextPlace) → TreesIn (IsInFile files) (flat_map (tree_at texts number pred) some)
    of_places number pred [] = no_trees
    of_places number pred (place ∷ more) = trees_joined _ _ (one_tree number pred place) (of_places number pred more)

    from_preds : (above : List (Option ℕ)) (written : List (List TextPlace)) (number : ℕ) (some : List Pred) → TreesIn (IsInFile files) (trees_from texts above written number some)
    from_preds above written number [] = no_trees
    from_preds above written number (pred ∷ more) =
        trees_joined _ _ (of_places number pred (places_of above written number)) (from_preds above written (number + 1) more)

  trees_in : (table : TypeTable) → TreesIn (IsInFile files) (file_trees table files)
  trees_in table =
      let texts : RuleTexts = file_texts table files in
      let noted : Noted = noted_preds table.classes [] 0 table.preds in
      from_preds texts refl refl (preds_above table.classes noted table.preds) (texts_written noted table.preds texts.program) 0 table.preds

  -- ---- the problem

  pub problem_in : (table : TypeTable) (facts : Facts) → facts.names ≡ scope_names facts.program → ((number : ℕ) → number < length facts.program → IsInFile files number)
      → (fault : Fault) → problem_fault (known_by files facts table (file_trees table files)) ≡ Some fault → IsInFile files fault.place.decl
  problem_in table facts names good fault is =
      let known : Known = known_by files facts table (file_trees table files) in
      earliest_in (IsInFile files) (progress_fault (last_progress facts)) (problem_faults known) (progress_in (IsInFile files) facts names good)
      (joined (IsInFile files) _ _ (texts_in (IsInFile files) facts good)
      (joined (IsInFile files) _ _ (limits_in (IsInFile files) facts good (progress_known known) (lexicon_known known) (scope_known known))
      (passed_in (IsInFile files) (lexicon_known known) 0 no_rules (file_trees table files) (trees_in table))))
      fault is
