-- A compiled model keeps the limits.
use Rattle.std.proofs.Common.{◌≡◌, ℕ, zero, suc, ◌+◌, ◌<◌, ◌≤◌, ◌^◌, Bool, true, false, cond, List, [], ◌∷◌, ◌++◌, length, map, refl, sym, ◌∙◌, ap, arith}
use Rattle.std.specs.Prelude.{Option, Some, None, slice_get, codes, count_by, if◌then◌else◌}
use Rattle.std.specs.List.{cons_option}
use Rattle.std.specs.Option.{option_and_then, option_map_or}
use Rattle.std.specs.Str.{bytes_eq}
use Rattle.std.proofs.lemmas.List.{length-map}
use Rattle.std.proofs.lemmas.List.Sums.{sum_by-cons}
use Rattle.std.proofs.lemmas.Option.{same_Some, none-some}
use Rattle.model_core.specs.declared.model.Root.{Root}
use Rattle.model_core.specs.declared.model.RootKind.TheVariants.{Goal, Rejectable, Fact}
use Rattle.model_core.specs.declared.variable.Base.{Base}
use Rattle.model_core.specs.declared.variable.Base.TheVariants.{Given, Void}
use Rattle.model_core.specs.Lawful.{is_fact}
use Rattle.nddl_ast.specs.declared.declaration.Decl.{Decl}
use Rattle.nddl_ast.specs.declared.declaration.Decl.TheVariants as decls
use Rattle.nddl_ast.specs.declared.kind.TextKind.{TextKind}
use Rattle.nddl_ast.specs.declared.kind.TextKind.TheVariants as faults
use Rattle.nddl_ast.specs.declared.statement.Ask.{Ask}
use Rattle.nddl_symbols.specs.declared.fault.Fault.{Fault}
use Rattle.nddl_symbols.specs.declared.place.Place.{Place}
use Rattle.nddl_symbols.specs.Joined.{decl_in, joined_decls, joined_sites}
use Rattle.nddl_symbols.specs.Names.{is_posting_word}
use Rattle.nddl_types.specs.Classes.{enum_of, enums_of}
use Rattle.nddl_lower.specs.declared.slots.Wanted.{Wanted}
use Rattle.nddl_objects.specs.Modelled.{modelled_object}
use Rattle.nddl_unroll.specs.Weighing.{tree_limits}
use Rattle.nddl_problem_check.specs.Limits.{all_global_places, count_faults, outset_of, past_faults, problem_limit_faults, unfit_faults}
use Rattle.nddl_problem_check.specs.Posts.{fact_places, place_here, posting_places}
use Rattle.nddl_problem_check.specs.Texts.{problem_text_faults}
use Rattle.nddl_instance.specs.Modelled.{modelled_classes, modelled_preds}
use Rattle.nddl_instance.specs.Outside.{Outsides}
use Rattle.nddl_instance.specs.Posed.{outside_rules}
use Rattle.nddl_instance.specs.Roots.{posted_roots, root_base, root_kind, root_of_wanted, root_wanted, root_with_base}
use Rattle.nddl_laws.proofs.Few.{joins_few}
use Rattle.nddl_laws.proofs.Nothing.{none_first, none_second}
use Rattle.nddl_problem.specs.Compiled.{compiled_model, posing_known}
use Rattle.nddl_problem.specs.Known.{Known, lexicon_known, progress_known, scope_known}
use Rattle.nddl_model_laws.specs.Counted.{HasFew}
use Rattle.nddl_model_laws.specs.Faultless.{IsFaultless}
use Rattle.nddl_model_laws.proofs.Grounds.{known_are, known_decls, problem_fine}
use Rattle.nddl_model_laws.proofs.Listed.{classes_long, preds_long}
use Rattle.nddl_model_laws.proofs.Making.{made_right}
use Rattle.nddl_model_laws.proofs.Numbered.{kept_few}

-- ---- limits

none_past : {X : Type 0} (xs : List X) (most : ℕ) → slice_get xs most ≡ None → length xs ≤ most
none_past [] most none = omega arith
none_past (x ∷ xs) zero none = absurd (none-some x (sym none))
none_past (x ∷ xs) (suc most) none = let rest : length xs ≤ most = none_past xs most none in omega arith

-- where no fault tells of more places, there are no more
pub not_past : (kind : TextKind) (most : ℕ) (places : List Place) → past_faults kind most places ≡ [] → length places ≤ most
not_past kind most places none = by (slice_get places most) refl none
  where
    by : (o : Option Place) → slice_get places most ≡ o
        → option_map_or (λ (place : Place). (let fault : Fault = record { place = place; kind = kind } in fault) ∷ []) o [] ≡ []
        → length places ≤ most
    by None at none = none_past places most at
    by (Some place) at none = absurd (cc)

-- ---- roots

module _ (outside : Outsides) where
  roots_few : (number : ℕ) (some : List Decl) → length (posted_roots outside some) ≤ length (posting_places number some)
  roots_few number [] = omega arith
  roots_few number (decls.Ask ask ∷ more) =
      by (is_posting_word ask.word.text) (root_of_wanted outside.reading.lexicon ask (root_wanted outside ask.path)) (roots_few (number + 1) more)
    where
      by : (b : Bool) (o : Option Root) → length (posted_roots outside more) ≤ length (posting_places (number + 1) more)
          → length (cons_option (if b then o else None) (posted_roots outside more))
          ≤ length ((if b then place_here number ask.word.at ∷ [] else []) ++ posting_places (number + 1) more)
      by true None rest = omega arith
      by true (Some root) rest = omega arith
      by false o rest = rest
  roots_few number (decls.Include at file file_at ∷ more) = roots_few (number + 1) more
  roots_few number (decls.Enum at name members_at members ∷ more) = roots_few (number + 1) more
  roots_few number (decls.Typedef at declared name ∷ more) = roots_few (number + 1) more
  roots_few number (decls.Forward at name ∷ more) = roots_few (number + 1) more
  roots_few number (decls.Class at name parent members ∷ more) = roots_few (number + 1) more
  roots_few number (decls.Rule class predicate body ∷ more) = roots_few (number + 1) more
  roots_few number (decls.Variable variable ∷ more) = roots_few (number + 1) more
  roots_few number (decls.Call call ∷ more) = roots_few (number + 1) more

  -- a root has the kind of its word
  kind_is : (ask : Ask) (wanted : Wanted) (root : Root) → root_of_wanted outside.reading.lexicon ask wanted ≡ Some root
      → root.kind ≡ root_kind ask.word.text
  kind_is ask wanted root is = by wanted.pred is
    where
      inner : (pred : ℕ) (base : Base) → root_with_base ask pred base ≡ Some root → root.kind ≡ root_kind ask.word.text
      inner pred Void is = absurd (none-some root is)
      inner pred (Given domain) is =
          ap (λ (r : Root). r.kind)
          (sym (same_Some (record { label = ask.label.text; kind = root_kind ask.word.text; pred = pred; object = domain }) root is))

      by : (o : Option ℕ)
          → option_and_then (λ (pred : ℕ). root_with_base ask pred (root_base outside.reading.lexicon pred wanted.object)) o ≡ Some root
          → root.kind ≡ root_kind ask.word.text
      by None is = absurd (none-some root is)
      by (Some pred) is = inner pred (root_base outside.reading.lexicon pred wanted.object) is

  abbrev facts_among : List Root → ℕ
  facts_among some = count_by (λ (root : Root). is_fact root.kind) some

  -- how much a root counts that is a fact or isn't
  abbrev weight : Bool → ℕ
  weight b = cond b 1 0

  more_facts : (root : Root) (some : List Root) → facts_among (root ∷ some) ≡ weight (is_fact root.kind) + facts_among some
  more_facts root some = sum_by-cons (λ (one : Root). cond (is_fact one.kind) 1 0) root some

  one_most : (b : Bool) → weight b ≤ 1
  one_most true = let most : 1 ≤ 1 = omega arith in most
  one_most false = let most : 0 ≤ 1 = omega arith in most

  no_fact : (word : List ℕ) → bytes_eq word (codes "fact") ≡ false → is_fact (root_kind word) ≡ false
  no_fact word none = ap (λ (b : Bool). is_fact (if b then Fact else (if bytes_eq word (codes "rejectable") then Rejectable else Goal))) none
      ∙ by (bytes_eq word (codes "rejectable"))
    where
      by : (b : Bool) → is_fact (if b then Rejectable else Goal) ≡ false
      by true = refl
      by false = refl

  facts_few : (number : ℕ) (some : List Decl) → facts_among (posted_roots outside some) ≤ length (fact_places number some)
  facts_few number [] = omega arith
  facts_few number (decls.Ask ask ∷ more) =
      by (is_posting_word ask.word.text) (root_of_wanted outside.reading.lexicon ask (root_wanted outside ask.path)) refl
      (bytes_eq ask.word.text (codes "fact")) refl (facts_few (number + 1) more)
    where
      by : (b : Bool) (o : Option Root) → root_of_wanted outside.reading.lexicon ask (root_wanted outside ask.path) ≡ o
          → (f : Bool) → bytes_eq ask.word.text (codes "fact") ≡ f
          → facts_among (posted_roots outside more) ≤ length (fact_places (number + 1) more)
          → facts_among (cons_option (if b then o else None) (posted_roots outside more))
          ≤ length ((if f then place_here number ask.word.at ∷ [] else []) ++ fact_places (number + 1) more)
      by false o at true is rest = omega (arith, rest)
      by false o at false is rest = rest
      by true None at true is rest = omega (arith, rest)
      by true None at false is rest = rest
      by true (Some root) at true is rest = omega (arith, rest, more_facts root (posted_roots outside more), one_most (is_fact root.kind))
      by true (Some root) at false is rest =
          let none : is_fact root.kind ≡ false = ap is_fact (kind_is ask (root_wanted outside ask.path) root at) ∙ no_fact ask.word.text is in
          let zero_is : weight (is_fact root.kind) ≡ 0 = ap weight none in
          omega (arith, rest, more_facts root (posted_roots outside more), zero_is)
  facts_few number (decls.Include at file file_at ∷ more) = facts_few (number + 1) more
  facts_few number (decls.Enum at name members_at members ∷ more) = facts_few (number + 1) more
  facts_few number (decls.Typedef at declared name ∷ more) = facts_few (number + 1) more
  facts_few number (decls.Forward at name ∷ more) = facts_few (number + 1) more
  facts_few number (decls.Class at name parent members ∷ more) = facts_few (number + 1) more
  facts_few number (decls.Rule class predicate body ∷ more) = facts_few (number + 1) more
  facts_few number (decls.Variable variable ∷ more) = facts_few (number + 1) more
  facts_few number (decls.Call call ∷ more) = facts_few (number + 1) more

-- ---- the model

module _ (known : Known) (is : IsFaultless known) where
  limits_fine : problem_limit_faults known.facts (progress_known known) (lexicon_known known) (scope_known known) ≡ []
  limits_fine =
      let limits = problem_limit_faults known.facts (progress_known known) (lexicon_known known) (scope_known known) in
      let rules = tree_limits (lexicon_known known) known.trees in
      none_first limits rules (none_second (problem_text_faults known.facts) (limits ++ rules) (problem_fine known is))

  counts_fine : count_faults known.facts ≡ []
  counts_fine =
      none_second (unfit_faults (outset_of known.facts (progress_known known) (lexicon_known known) (scope_known known))) (count_faults known.facts) limits_fine

  abbrev roots_past : List Fault
  roots_past = past_faults faults.LimitRoots 4096 (posting_places 0 known.facts.program)

  abbrev facts_past : List Fault
  facts_past = past_faults faults.LimitFacts 512 (fact_places 0 known.facts.program)

  abbrev globals_past : List Fault
  globals_past = past_faults faults.LimitGlobals 4096 (all_global_places known.facts)

  pub places_few : length (all_global_places known.facts) ≤ 4096
  places_few =
      not_past faults.LimitGlobals 4096 (all_global_places known.facts)
      (none_second facts_past globals_past (none_second roots_past (facts_past ++ globals_past) counts_fine))

  few_enums : length (enums_of known.facts.program) < 2 ^ 32
  few_enums =
      let joined : length (joined_sites known.files) ≤ 67108864 = joins_few known.files is.given in
      let decls : length (joined_decls known.files) ≤ length (joined_sites known.files) = kept_few (decl_in known.files) (joined_sites known.files) in
      let enums : length (enums_of known.facts.program) ≤ length known.facts.program = kept_few enum_of known.facts.program in
      let program = ap length is.are.is_program in
      omega arith

  few_roots : length (posted_roots (outside_rules (posing_known known)) known.facts.program) ≤ 4096
  few_roots =
      let all = roots_few (outside_rules (posing_known known)) 0 known.facts.program in
      let most = not_past faults.LimitRoots 4096 (posting_places 0 known.facts.program) (none_first roots_past (facts_past ++ globals_past) counts_fine) in
      omega arith

  few_facts : count_by (λ (root : Root). is_fact root.kind) (posted_roots (outside_rules (posing_known known)) known.facts.program) ≤ 512
  few_facts =
      let all = facts_few (outside_rules (posing_known known)) 0 known.facts.program in
      let most = not_past faults.LimitFacts 512 (fact_places 0 known.facts.program)
      (none_first facts_past globals_past (none_second roots_past (facts_past ++ globals_past) counts_fine)) in
      omega arith

  pub has_few : HasFew (compiled_model known)
  has_few = record {
    enums = few_enums;
    classes =
        (let long = classes_long (lexicon_known known) 0 known.table.classes in
        let few : length known.table.classes < 2 ^ 32 = is.is_table.entries.others.few_classes in
        let so : length (modelled_classes (lexicon_known known) 0 known.table.classes) < 2 ^ 32 = omega arith in
        so);
    preds =
        (let long = preds_long (lexicon_known known) known.trees 0 known.table.preds in
        let few : length known.table.preds < 2 ^ 32 = is.is_table.entries.others.few_preds in
        let so : length (modelled_preds (lexicon_known known) known.trees 0 known.table.preds) < 2 ^ 32 = omega arith in
        so);
    objects =
        (let objects = (progress_known known).so_far.objects in
        let long = length-map objects (modelled_object known.facts known.table.classes) in
        let few : length objects ≤ 4096 = (made_right known.facts (known_decls known is) (known_are known is).is_names).few in
        let so : length (map (modelled_object known.facts known.table.classes) objects) ≤ 4096 = omega arith in
        so);
    roots = few_roots;
    facts = few_facts;
  }
