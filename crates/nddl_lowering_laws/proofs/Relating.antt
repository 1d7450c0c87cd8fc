-- Where nothing is wrong with the text of a rule, its relations have one argument, and what gets a label is a relation.
use Rattle.std.proofs.Common.{◌≡◌, ℕ, Bool, true, false, List, [], ◌∷◌, ◌++◌, length, refl, sym, ◌∙◌, ap, subst}
use Rattle.std.specs.Prelude.{Option, Some, None, Ok, Err, cond, is_some, bytes_eq, if◌then◌else◌}
use Rattle.std.specs.List.{flat_map}
use Rattle.std.specs.Map.{lookup}
use Rattle.std.specs.Option.{option_map_or}
use Rattle.std.proofs.lemmas.Option.{none-some}
use Rattle.std.proofs.lemmas.Slice.Eq.{bytes_eq-Decides}
use Rattle.domain_core.specs.declared.kind.Kind.{Kind}
use Rattle.eu_index.specs.Index.{with_noted}
use Rattle.model_core.specs.declared.item.Rel.{Rel}
use Rattle.nddl_ast.specs.declared.declaration.PredicatePart.TheVariants as parts
use Rattle.nddl_ast.specs.declared.expression.Expr.{Expr}
use Rattle.nddl_ast.specs.declared.kind.TextKind.{TextKind}
use Rattle.nddl_ast.specs.declared.kind.TextKind.TheVariants as faults
use Rattle.nddl_ast.specs.declared.name.Name.{Name}
use Rattle.nddl_ast.specs.declared.name.Path.{Path}
use Rattle.nddl_ast.specs.declared.statement.Ask.{Ask}
use Rattle.nddl_ast.specs.declared.statement.Call.{Call}
use Rattle.nddl_ast.specs.Path.{last_name, path_before}
use Rattle.nddl_ast.specs.Tree.{Nothing, Declares, Calls, Asks, Tests, Chooses, Repeats}
use Rattle.nddl_symbols.specs.declared.fault.Fault.{Fault}
use Rattle.nddl_symbols.specs.Finding.{faults_here}
use Rattle.nddl_symbols.specs.Repeats.{repeated_fault}
use Rattle.nddl_hierarchy.specs.Facts.{Facts}
use Rattle.nddl_resolve.specs.Following.{Understood, understood_faults}
use Rattle.nddl_resolve.specs.Paths.{Surroundings, path_denoted}
use Rattle.nddl_rule_check.specs.declared.asked.Asked.{Asked}
use Rattle.nddl_rule_check.specs.Arguments.{are_decimals, arguments_faults, condition_faults, constraint_faults}
use Rattle.nddl_rule_check.specs.Blocks.{block_faults, local_faults, local_value, slot_faults, slot_value, turn_faults, turn_value}
use Rattle.nddl_rule_check.specs.Calls.{body_call_faults, constraint_call_faults, named_call_faults, no_act_faults, rule_call_faults}
use Rattle.nddl_rule_check.specs.Constraints.{asked_among, constraint_named, constraint_words, relation_named, takes}
use Rattle.nddl_rule_check.specs.Rules.{part_rule_faults}
use Rattle.nddl_rule_check.specs.Seeing.{seeing_label, seeing_local, seeing_turn}
use Rattle.nddl_rule_check.specs.Slots.{ask_faults, labelled_slot, relation_faults}
use Rattle.nddl_laws.proofs.Nothing.{none_first, none_second}
use Rattle.nddl_laws.proofs.Values.{no_fault}
use Rattle.nddl_lowering_laws.specs.Fine.{BlocksHaveFineCalls, BodiesHaveFineCalls}
use Rattle.nddl_lowering_laws.specs.Scoped.{IsFineCall}

one_fault : (decl at : ℕ) (kind : TextKind) → faults_here decl at (Some kind) ≡ [] → ⊥
one_fault decl at kind none = none-some kind (sym (no_fault decl at (Some kind) none))

module _ (facts : Facts) (decl : ℕ) (around : Surroundings) where
  -- nothing stands before the name of a call
  act_fault : (act : Name) (found : Understood) → no_act_faults decl act found ≡ [] → ⊥
  act_fault act (Ok meant) none = one_fault decl act.at faults.Unknown none
  act_fault act (Err fault) none = one_fault decl fault.at fault.kind none

  no_act : (call : Call) (plain : List Fault) (found : Option Path)
      → option_map_or (λ (front : Path). no_act_faults decl (last_name call.path) (path_denoted facts around front)) found plain ≡ [] → plain ≡ []
  no_act call plain None none = none
  no_act call plain (Some front) none = absurd (act_fault (last_name call.path) (path_denoted facts around front) none)

  one_argument : (at : ℕ) (some : List Expr) → relation_faults facts around decl at some ≡ [] → (expr : Expr) × (some ≡ expr ∷ [])
  one_argument at [] none = absurd (one_fault decl at faults.WrongCount none)
  one_argument at (expr ∷ []) none = (expr, refl)
  one_argument at (expr ∷ (other ∷ more)) none = absurd (one_fault decl at faults.WrongCount none)

  named_fine : (at : ℕ) (some : List Expr) (other : List Fault) (so : Bool) → (if so then relation_faults facts around decl at some else other) ≡ []
      → so ≡ true → (expr : Expr) × (some ≡ expr ∷ [])
  named_fine at some other true none is = one_argument at some none
  named_fine at some other false none is = absurd (let never : false ≡ true = is in cc)

  -- as many arguments as the constraint may have
  takes_them : (kind : Kind) (at : ℕ) (some : List Expr) → constraint_faults facts around decl kind at some ≡ [] → takes kind (length some) ≡ true
  takes_them kind at some none = by (asked_among (are_decimals facts around kind 0 some) kind) (takes kind (length some)) none
    where
      by : (asks : ℕ → Asked) (so : Bool)
          → (if so then arguments_faults facts around decl asks 0 None some else faults_here decl at (Some faults.WrongCount)) ≡ [] → so ≡ true
      by asks true none = refl
      by asks false none = absurd (one_fault decl at faults.WrongCount none)

  constraint_takes : (name : Name) (some : List Expr) (kind : Kind) → constraint_named name.text ≡ Some kind
      → constraint_call_faults facts around decl name some ≡ [] → takes kind (length some) ≡ true
  constraint_takes name some kind is none =
      let faults_of : Option Kind → List Fault = λ found.
      option_map_or (λ (kind : Kind). constraint_faults facts around decl kind name.at some) found (faults_here decl name.at (Some faults.Unknown)) in
      takes_them kind name.at some (sym (ap faults_of is) ∙ none)

  -- where the word is no relation
  named_takes : (other some : List Fault) (found : Option Rel) → (if is_some found then other else some) ≡ [] → found ≡ None → some ≡ []
  named_takes other some None none is = none
  named_takes other some (Some relation) none is = absurd (none-some relation (sym is))

  call_fine : (call : Call) → rule_call_faults facts around decl call ≡ [] → IsFineCall call
  call_fine call none =
      let name = call.path.first in
      let named = named_call_faults facts around decl name call.arguments in
      let constraint = constraint_call_faults facts around decl name call.arguments in
      let right : named ≡ [] = no_act call named (path_before call.path) none in
      record {
        relation = named_fine name.at call.arguments constraint (is_some (relation_named name.text)) right;
        constraint = λ kind other is.
            constraint_takes name call.arguments kind is
            (named_takes (relation_faults facts around decl name.at call.arguments) constraint (relation_named name.text) right other);
      }

  ask_case : (ask : Ask) (right : List Fault) (so : Bool) → (if so then right else faults_here decl ask.word.at (Some faults.Unknown)) ≡ [] → so ≡ true
  ask_case ask right true none = refl
  ask_case ask right false none = absurd (one_fault decl ask.word.at faults.Unknown none)

  ask_fine : (ask : Ask) → ask_faults facts around decl ask ≡ [] → is_some (relation_named ask.word.text) ≡ true
  ask_fine ask none =
      ask_case ask (understood_faults decl (labelled_slot facts around ask.path)) (is_some (relation_named ask.word.text)) none

pub blocks_fine : BlocksHaveFineCalls
blocks_fine facts decl around own Nothing none = tt
blocks_fine facts decl around own (Declares variable more) none =
    let rest = block_faults facts decl (seeing_local around variable.name (local_value facts variable)) (with_noted own variable.name.text 0) more in
    blocks_fine facts decl (seeing_local around variable.name (local_value facts variable)) (with_noted own variable.name.text 0) more
    (none_second (local_faults facts around decl own variable) rest none)
blocks_fine facts decl around own (Calls call more) none =
    let first = rule_call_faults facts around decl call in
    let rest = block_faults facts decl around own more in
    (call_fine facts decl around call (none_first first rest none), blocks_fine facts decl around own more (none_second first rest none))
blocks_fine facts decl around own (Asks ask more) none =
    let first = slot_faults facts around decl own ask in
    let inside = seeing_label around ask.label (slot_value facts around ask) in
    let rest = block_faults facts decl inside (with_noted own ask.label.text 0) more in
    let asked = none_first (ask_faults facts around decl ask) (repeated_fault decl own ask.label) (none_first first rest none) in
    (ask_fine facts decl around ask asked, blocks_fine facts decl inside (with_noted own ask.label.text 0) more (none_second first rest none))
blocks_fine facts decl around own (Tests at condition then_at inside more) none =
    let first = condition_faults facts around decl condition in
    let block = block_faults facts decl around [] inside in
    let rest = block_faults facts decl around own more in
    let behind = none_second first (block ++ rest) none in
    (blocks_fine facts decl around [] inside (none_first block rest behind), blocks_fine facts decl around own more (none_second block rest behind))
blocks_fine facts decl around own (Chooses at condition then_at inside else_at other more) none =
    let first = condition_faults facts around decl condition in
    let block = block_faults facts decl around [] inside in
    let second = block_faults facts decl around [] other in
    let rest = block_faults facts decl around own more in
    let behind = none_second first (block ++ (second ++ rest)) none in
    let last = none_second block (second ++ rest) behind in (
      blocks_fine facts decl around [] inside (none_first block (second ++ rest) behind),
      (blocks_fine facts decl around [] other (none_first second rest last), blocks_fine facts decl around own more (none_second second rest last)),
    )
blocks_fine facts decl around own (Repeats at name class body_at body more) none =
    let first = turn_faults facts decl class in
    let inside = seeing_turn around name (turn_value facts class) in
    let block = block_faults facts decl inside [] body in
    let rest = block_faults facts decl around own more in
    let behind = none_second first (block ++ rest) none in
    (blocks_fine facts decl inside [] body (none_first block rest behind), blocks_fine facts decl around own more (none_second block rest behind))

-- ---- bodies of predicates, which have no relations

-- it is so of each word of a table
abbrev EachWord : {T : Type 0} → (List ℕ → Type 0) → List (List ℕ × T) → Type 0
EachWord P [] = Unit {0}
EachWord P (row ∷ more) = P row.0 × EachWord P more

on_case : {T : Type 0} (P : List ℕ → Type 0) (name : List ℕ) (row : List ℕ × T) (more : List (List ℕ × T)) → P row.0
    → (is_some (lookup (λ word. bytes_eq name word) more) ≡ true → P name) → (so : Bool) → bytes_eq name row.0 ≡ so
    → is_some (cond so (Some row.1) (lookup (λ word. bytes_eq name word) more)) ≡ true → P name
on_case P name row more here rest true same some = subst P (sym ((bytes_eq-Decides name row.0).0 same)) here
on_case P name row more here rest false same some = rest some

on_word : {T : Type 0} (P : List ℕ → Type 0) (name : List ℕ) (table : List (List ℕ × T)) → EachWord P table
    → is_some (lookup (λ word. bytes_eq name word) table) ≡ true → P name
on_word P name [] each some = absurd (let never : false ≡ true = some in cc)
on_word P name (row ∷ more) each some =
    on_case P name row more each.0 (λ rest. on_word P name more each.1 rest) (bytes_eq name row.0) refl some

-- no word is both a constraint and a relation
words_apart : (name : List ℕ) → is_some (constraint_named name) ≡ true → is_some (relation_named name) ≡ true → ⊥
unfolding constraint_named relation_named
words_apart name constraint relation =
    let none : relation_named name ≡ None = on_word (λ word. relation_named word ≡ None) name constraint_words
    (refl, (refl, (refl, (refl, (refl, (refl, (refl, (refl, (refl, tt))))))))) constraint in
    let never : true ≡ false = sym relation ∙ ap is_some none in
    cc

module _ (facts : Facts) (decl : ℕ) (around : Surroundings) where
  some_constraint : (name : Name) (some : List Expr) (found : Option Kind)
      → option_map_or (λ (kind : Kind). constraint_faults facts around decl kind name.at some) found (faults_here decl name.at (Some faults.Unknown)) ≡ []
      → is_some found ≡ true
  some_constraint name some None none = absurd (one_fault decl name.at faults.Unknown none)
  some_constraint name some (Some kind) none = refl

  body_fine : (call : Call) → body_call_faults facts around decl call ≡ [] → IsFineCall call
  body_fine call none =
      let name = call.path.first in
      let named = constraint_call_faults facts around decl name call.arguments in
      let right : named ≡ [] = no_act facts decl around call named (path_before call.path) none in
      let constraint = some_constraint name call.arguments (constraint_named name.text) right in
      record {
        relation = λ relation. absurd (words_apart name.text constraint relation);
        constraint = λ kind other is. constraint_takes facts decl around name call.arguments kind is right;
      }

pub bodies_fine : BodiesHaveFineCalls
bodies_fine facts decl around [] none = tt
bodies_fine facts decl around (parts.Parameter typed ∷ more) none = bodies_fine facts decl around more none
bodies_fine facts decl around (parts.Constraint call ∷ more) none =
    let first = body_call_faults facts around decl call in
    let rest = flat_map (part_rule_faults facts decl around) more in
    (body_fine facts decl around call (none_first first rest none), bodies_fine facts decl around more (none_second first rest none))
