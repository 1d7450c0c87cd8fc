-- The tree of a rule has the names that are looked up in it, where the same is seen by those who look for faults.
use Rattle.std.proofs.Common.{◌≡◌, ℕ, zero, suc, ◌+◌, Bool, true, false, List, [], ◌∷◌, ◌++◌, length, refl, sym, ◌∙◌, ap, arith}
use Rattle.std.specs.Prelude.{Option, Some, None, slice_get}
use Rattle.std.specs.List.{AllByRecursion, AllZip, flat_map}
use Rattle.std.proofs.lemmas.List.{append-nil}
use Rattle.std.proofs.lemmas.List.Concat.{flat_map-append}
use Rattle.std.proofs.lemmas.Option.{none-some}
use Rattle.nddl_ast.specs.declared.declaration.FileDecls.{FileDecls}
use Rattle.nddl_ast.specs.declared.expression.BaseType.{BaseType}
use Rattle.nddl_ast.specs.declared.expression.BaseType.TheVariants as bases
use Rattle.nddl_ast.specs.declared.expression.Bounds.{Bounds}
use Rattle.nddl_ast.specs.declared.expression.Bounds.TheVariants as bounds
use Rattle.nddl_ast.specs.declared.expression.Expr.{Expr}
use Rattle.nddl_ast.specs.declared.expression.Expr.TheVariants as exprs
use Rattle.nddl_ast.specs.declared.expression.Init.{Init}
use Rattle.nddl_ast.specs.declared.expression.Init.TheVariants as inits
use Rattle.nddl_ast.specs.declared.expression.Type as types
use Rattle.nddl_ast.specs.declared.expression.Value.{Value}
use Rattle.nddl_ast.specs.declared.expression.Value.TheVariants as values
use Rattle.nddl_ast.specs.declared.name.Name.{Name}
use Rattle.nddl_ast.specs.declared.statement.Condition.{Condition}
use Rattle.nddl_ast.specs.declared.statement.Condition.TheVariants as conditions
use Rattle.nddl_ast.specs.declared.statement.Variable.{Variable}
use Rattle.nddl_ast.specs.Tree.{Statements, Nothing, Declares, Calls, Asks, Tests, Chooses, Repeats}
use Rattle.nddl_hierarchy.specs.Facts.{Facts}
use Rattle.nddl_resolve.specs.declared.denoted.Denoted.{Denoted}
use Rattle.nddl_resolve.specs.declared.denoted.Denoted.TheVariants as denoted
use Rattle.nddl_resolve.specs.declared.denoted.Seen.{Seen}
use Rattle.nddl_resolve.specs.declared.denoted.TokenSort.{TokenSort}
use Rattle.nddl_resolve.specs.Paths.{Surroundings}
use Rattle.nddl_resolve.specs.Seen.{seen_as}
use Rattle.nddl_rule_check.specs.Blocks.{local_value, slot_value, turn_value}
use Rattle.nddl_rule_check.specs.Seeing.{seeing_label, seeing_local, seeing_turn}
use Rattle.nddl_terms.specs.declared.tree.ReadName.{ReadName}
use Rattle.nddl_rules.specs.Blocks.{asks_slot, block_names, call_tally, slot_if, tallied}
use Rattle.nddl_rules.specs.Reads.{NameSources, asked_read, base_read, bounds_read, condition_read, expr_read, exprs_read, front_read, init_read, local_read, scope_read, type_read, value_read}
use Rattle.nddl_rules.specs.Sight.{with_label, with_rule_local}
use Rattle.nddl_rules.specs.Tally.{local_more, slot_more, turn_more}
use Rattle.nddl_laws.specs.Lookups.{IsReadAlike, IsRuleReadAlike, Lookup, Outlook, asked_lookups, base_lookups, block_lookups, block_numbered, bounds_lookups, condition_lookups, expr_lookups, exprs_lookups, in_files, init_lookups, local_lookups, lookup_read, own_outlook, rule_lookups, rule_numbered, sees_label, sees_local, sees_turn, type_lookups, unlabelled_if, value_lookups, values_lookups}
use Rattle.nddl_laws.specs.Scoping.{IsGround, IsSeenAs, Numbered, RuleGround, SeeAlike, local_numbered, none_numbered, slot_numbered, sources_in, tally_of, turn_numbered}
use Rattle.nddl_laws.proofs.Apart.{all_append, all_weaker}
use Rattle.nddl_laws.proofs.Scoping.{name_alike}

-- ---- how many there are

longer : {X : Type 0} (some : List X) (x : X) → length (some ++ x ∷ []) ≡ length some + 1
longer [] x = refl
longer (y ∷ some) x = let rest = longer some x in omega arith

pub turn_tally : (numbered : Numbered) (meant : Denoted) → tally_of (turn_numbered numbered meant) ≡ turn_more (tally_of numbered)
turn_tally numbered meant = λ i.
    record { turns = longer numbered.turns meant i; locals = length numbered.locals; slots = length numbered.slots }

pub local_tally : (numbered : Numbered) (meant : Denoted) → tally_of (local_numbered numbered meant) ≡ local_more (tally_of numbered)
local_tally numbered meant = λ i.
    record { turns = length numbered.turns; locals = longer numbered.locals meant i; slots = length numbered.slots }

pub slot_tally : (numbered : Numbered) (meant : Denoted) → tally_of (slot_numbered numbered meant) ≡ slot_more (tally_of numbered)
slot_tally numbered meant = λ i.
    record { turns = length numbered.turns; locals = length numbered.locals; slots = longer numbered.slots meant i }

pub unlabelled_tally : (b : Bool) (numbered : Numbered) → tally_of (unlabelled_if b numbered) ≡ slot_if b (tally_of numbered)
unlabelled_tally true numbered = slot_tally numbered denoted.Faulty
unlabelled_tally false numbered = refl

-- both walks give the same numbers
pub block_tally : (facts : Facts) (around : Surroundings) (numbered : Numbered) (statements : Statements)
    → tally_of (block_numbered facts around numbered statements) ≡ tallied (tally_of numbered) statements
block_tally facts around numbered Nothing = refl
block_tally facts around numbered (Declares variable more) =
    let meant = local_value facts variable in
    block_tally facts (seeing_local around variable.name meant) (local_numbered numbered meant) more
    ∙ ap (λ tally. tallied tally more) (local_tally numbered meant)
block_tally facts around numbered (Calls call more) =
    block_tally facts around (unlabelled_if (asks_slot call) numbered) more
    ∙ ap (λ tally. tallied tally more) (unlabelled_tally (asks_slot call) numbered)
block_tally facts around numbered (Asks ask more) =
    let meant = slot_value facts around ask in
    block_tally facts (seeing_label around ask.label meant) (slot_numbered numbered meant) more
    ∙ ap (λ tally. tallied tally more) (slot_tally numbered meant)
block_tally facts around numbered (Tests at condition then_at then more) =
    block_tally facts around (block_numbered facts around numbered then) more
    ∙ ap (λ tally. tallied tally more) (block_tally facts around numbered then)
block_tally facts around numbered (Chooses at condition then_at then else_at else more) =
    let behind = block_numbered facts around numbered then in
    block_tally facts around (block_numbered facts around behind else) more
    ∙ ap (λ tally. tallied tally more)
    (block_tally facts around behind else ∙ ap (λ tally. tallied tally else) (block_tally facts around numbered then))
block_tally facts around numbered (Repeats at name class body_at body more) =
    let meant = turn_value facts class in
    block_tally facts around (block_numbered facts (seeing_turn around name meant) (turn_numbered numbered meant) body) more
    ∙ ap (λ tally. tallied tally more)
    (block_tally facts (seeing_turn around name meant) (turn_numbered numbered meant) body
    ∙ ap (λ tally. tallied tally body) (turn_tally numbered meant))

-- ---- which names there are

module _ (sources : NameSources) where
  abbrev all_read : List Lookup → List ReadName
  all_read some = flat_map (lookup_read sources) some

  joined : (a b : List ReadName) (one other : List Lookup) → a ≡ all_read one → b ≡ all_read other → a ++ b ≡ all_read (one ++ other)
  joined a b one other first second = (λ i. first i ++ second i) ∙ sym (flat_map-append (lookup_read sources) one other)

  expr_names : (outlook : Outlook) (expr : Expr) → expr_read sources outlook.sight expr ≡ all_read (expr_lookups outlook expr)
  expr_names outlook (exprs.Path path) = sym (append-nil (front_read sources outlook.sight path.first))
  expr_names outlook (exprs.Literal literal) = refl

  exprs_names : (outlook : Outlook) (some : List Expr) → exprs_read sources outlook.sight some ≡ all_read (exprs_lookups outlook some)
  exprs_names outlook [] = refl
  exprs_names outlook (expr ∷ more) =
      joined (expr_read sources outlook.sight expr) (exprs_read sources outlook.sight more) (expr_lookups outlook expr) (exprs_lookups outlook more)
      (expr_names outlook expr) (exprs_names outlook more)

  base_names : (outlook : Outlook) (base : BaseType) → base_read sources.scope base ≡ all_read (base_lookups outlook base)
  base_names outlook (bases.Named name) = sym (append-nil (scope_read sources.scope name))
  base_names outlook bases.Int = refl
  base_names outlook bases.Float = refl
  base_names outlook bases.Bool = refl
  base_names outlook bases.Str = refl

  value_names : (outlook : Outlook) (value : Value) → value_read sources outlook.sight value ≡ all_read (value_lookups outlook value)
  value_names outlook (values.Name name) = sym (append-nil (front_read sources outlook.sight name))
  value_names outlook (values.Literal literal) = refl

  values_names : (outlook : Outlook) (some : List Value)
      → flat_map (value_read sources outlook.sight) some ≡ all_read (values_lookups outlook some)
  values_names outlook [] = refl
  values_names outlook (value ∷ more) =
      joined (value_read sources outlook.sight value) (flat_map (value_read sources outlook.sight) more) (value_lookups outlook value)
      (values_lookups outlook more) (value_names outlook value) (values_names outlook more)

  bounds_names : (outlook : Outlook) (bounds : Bounds) → bounds_read sources outlook.sight bounds ≡ all_read (bounds_lookups outlook bounds)
  bounds_names outlook bounds.All = refl
  bounds_names outlook (bounds.Range at least greatest) =
      joined (value_read sources outlook.sight least) (value_read sources outlook.sight greatest) (value_lookups outlook least)
      (value_lookups outlook greatest) (value_names outlook least) (value_names outlook greatest)
  bounds_names outlook (bounds.Set at some) = values_names outlook some

  type_names : (outlook : Outlook) (of : types.Type) → type_read sources outlook.sight of ≡ all_read (type_lookups outlook of)
  type_names outlook of =
      joined (base_read sources.scope of.base) (bounds_read sources outlook.sight of.bounds) (base_lookups outlook of.base)
      (bounds_lookups outlook of.bounds) (base_names outlook of.base) (bounds_names outlook of.bounds)

  init_names : (outlook : Outlook) (init : Option Init) → init_read sources outlook.sight init ≡ all_read (init_lookups outlook init)
  init_names outlook None = refl
  init_names outlook (Some (inits.Expr expr)) = expr_names outlook expr
  init_names outlook (Some (inits.New creation)) = refl

  local_names : (outlook : Outlook) (variable : Variable) → local_read sources outlook.sight variable ≡ all_read (local_lookups outlook variable)
  local_names outlook variable =
      joined (type_read sources outlook.sight variable.declared) (init_read sources outlook.sight variable.init)
      (type_lookups outlook variable.declared) (init_lookups outlook variable.init) (type_names outlook variable.declared)
      (init_names outlook variable.init)

  asked_names : (outlook : Outlook) (first : Name) (rest : List Name)
      → asked_read sources outlook.sight first rest ≡ all_read (asked_lookups outlook first rest)
  asked_names outlook first [] = refl
  asked_names outlook first (name ∷ more) = sym (append-nil (front_read sources outlook.sight first))

  condition_names : (outlook : Outlook) (condition : Condition)
      → condition_read sources outlook.sight condition ≡ all_read (condition_lookups outlook condition)
  condition_names outlook (conditions.Truth expr) = expr_names outlook expr
  condition_names outlook (conditions.Equal one other) =
      joined (expr_read sources outlook.sight one) (expr_read sources outlook.sight other) (expr_lookups outlook one) (expr_lookups outlook other)
      (expr_names outlook one) (expr_names outlook other)
  condition_names outlook (conditions.NotEqual one other) =
      joined (expr_read sources outlook.sight one) (expr_read sources outlook.sight other) (expr_lookups outlook one) (expr_lookups outlook other)
      (expr_names outlook one) (expr_names outlook other)

  statements_names : (facts : Facts) (outlook : Outlook) (numbered : Numbered) (statements : Statements)
      → block_names sources outlook.sight (tally_of numbered) statements ≡ all_read (block_lookups facts outlook numbered statements)
  statements_names facts outlook numbered Nothing = refl
  statements_names facts outlook numbered (Declares variable more) =
      let meant = local_value facts variable in
      let next = with_rule_local outlook.sight variable.name.text (length numbered.locals) in
      joined (local_read sources outlook.sight variable) (block_names sources next (local_more (tally_of numbered)) more)
      (local_lookups outlook variable) (block_lookups facts (sees_local outlook numbered variable.name meant) (local_numbered numbered meant) more)
      (local_names outlook variable)
      (ap (λ tally. block_names sources next tally more) (sym (local_tally numbered meant))
      ∙ statements_names facts (sees_local outlook numbered variable.name meant) (local_numbered numbered meant) more)
  statements_names facts outlook numbered (Calls call more) =
      let next = unlabelled_if (asks_slot call) numbered in
      joined (exprs_read sources outlook.sight call.arguments) (block_names sources outlook.sight (call_tally (tally_of numbered) call) more)
      (exprs_lookups outlook call.arguments) (block_lookups facts outlook next more) (exprs_names outlook call.arguments)
      (ap (λ tally. block_names sources outlook.sight tally more) (sym (unlabelled_tally (asks_slot call) numbered))
      ∙ statements_names facts outlook next more)
  statements_names facts outlook numbered (Asks ask more) =
      let meant = slot_value facts outlook.around ask in
      let next = with_label outlook.sight ask.label.text (length numbered.slots) in
      joined (asked_read sources outlook.sight ask.path.first ask.path.rest) (block_names sources next (slot_more (tally_of numbered)) more)
      (asked_lookups outlook ask.path.first ask.path.rest)
      (block_lookups facts (sees_label outlook numbered ask.label meant) (slot_numbered numbered meant) more)
      (asked_names outlook ask.path.first ask.path.rest)
      (ap (λ tally. block_names sources next tally more) (sym (slot_tally numbered meant))
      ∙ statements_names facts (sees_label outlook numbered ask.label meant) (slot_numbered numbered meant) more)
  statements_names facts outlook numbered (Tests at condition then_at then more) =
      let behind = block_numbered facts outlook.around numbered then in
      let inside = block_names sources outlook.sight (tally_of numbered) then in
      let rest = block_names sources outlook.sight (tallied (tally_of numbered) then) more in
      joined (condition_read sources outlook.sight condition) (inside ++ rest) (condition_lookups outlook condition)
      (block_lookups facts outlook numbered then ++ block_lookups facts outlook behind more) (condition_names outlook condition)
      (joined inside rest (block_lookups facts outlook numbered then) (block_lookups facts outlook behind more)
      (statements_names facts outlook numbered then)
      (ap (λ tally. block_names sources outlook.sight tally more) (sym (block_tally facts outlook.around numbered then))
      ∙ statements_names facts outlook behind more))
  statements_names facts outlook numbered (Chooses at condition then_at then else_at else more) =
      let behind = block_numbered facts outlook.around numbered then in
      let last = block_numbered facts outlook.around behind else in
      let tally = tallied (tally_of numbered) then in
      let inside = block_names sources outlook.sight (tally_of numbered) then in
      let other = block_names sources outlook.sight tally else in
      let rest = block_names sources outlook.sight (tallied tally else) more in
      let counted : tally ≡ tally_of behind = sym (block_tally facts outlook.around numbered then) in
      let counted_on : tallied tally else ≡ tally_of last =
      ap (λ t. tallied t else) counted ∙ sym (block_tally facts outlook.around behind else) in
      joined (condition_read sources outlook.sight condition) (inside ++ (other ++ rest)) (condition_lookups outlook condition)
      (block_lookups facts outlook numbered then ++ (block_lookups facts outlook behind else ++ block_lookups facts outlook last more))
      (condition_names outlook condition)
      (joined inside (other ++ rest) (block_lookups facts outlook numbered then)
      (block_lookups facts outlook behind else ++ block_lookups facts outlook last more) (statements_names facts outlook numbered then)
      (joined other rest (block_lookups facts outlook behind else) (block_lookups facts outlook last more)
      (ap (λ t. block_names sources outlook.sight t else) counted ∙ statements_names facts outlook behind else)
      (ap (λ t. block_names sources outlook.sight t more) counted_on ∙ statements_names facts outlook last more)))
  statements_names facts outlook numbered (Repeats at name class body_at body more) =
      let meant = turn_value facts class in
      let inside = turn_numbered numbered meant in
      let next = sees_turn outlook numbered name meant in
      let behind = block_numbered facts (seeing_turn outlook.around name meant) inside body in
      let tally = turn_more (tally_of numbered) in
      let within = block_names sources next.sight tally body in
      let rest = block_names sources outlook.sight (tallied tally body) more in
      let counted : tally ≡ tally_of inside = sym (turn_tally numbered meant) in
      let counted_on : tallied tally body ≡ tally_of behind =
      ap (λ t. tallied t body) counted ∙ sym (block_tally facts (seeing_turn outlook.around name meant) inside body) in
      joined (scope_read sources.scope class) (within ++ rest) (in_files outlook class ∷ [])
      (block_lookups facts next inside body ++ block_lookups facts outlook behind more) (sym (append-nil (scope_read sources.scope class)))
      (joined within rest (block_lookups facts next inside body) (block_lookups facts outlook behind more)
      (ap (λ t. block_names sources next.sight t body) counted ∙ statements_names facts next inside body)
      (ap (λ t. block_names sources outlook.sight t more) counted_on ∙ statements_names facts outlook behind more))

-- ---- what is seen

got_before : {X : Type 0} (some more : List X) (number : ℕ) (x : X) → slice_get some number ≡ Some x → slice_get (some ++ more) number ≡ Some x
got_before [] more number x is = absurd (none-some x is)
got_before (y ∷ some) more zero x is = is
got_before (y ∷ some) more (suc number) x is = got_before some more number x is

got_last : {X : Type 0} (some : List X) (x : X) → slice_get (some ++ x ∷ []) (length some) ≡ Some x
got_last [] x = refl
got_last (y ∷ some) x = got_last some x

zip_weaker : {X Y : Type 0} (R Q : X → Y → Type 0) (xs : List X) (ys : List Y) → ((x : X) (y : Y) → R x y → Q x y) → AllZip R xs ys → AllZip Q xs ys
zip_weaker R Q [] [] each all = tt
zip_weaker R Q [] (y ∷ ys) each all = absurd all
zip_weaker R Q (x ∷ xs) [] each all = absurd all
zip_weaker R Q (x ∷ xs) (y ∷ ys) each all = (each x y all.0, zip_weaker R Q xs ys each all.1)

zip_push : {X Y : Type 0} (R : X → Y → Type 0) (xs : List X) (ys : List Y) (x : X) (y : Y) → AllZip R xs ys → R x y
    → AllZip R (xs ++ x ∷ []) (ys ++ y ∷ [])
zip_push R [] [] x y all here = (here, tt)
zip_push R [] (other ∷ ys) x y all here = absurd all
zip_push R (one ∷ xs) [] x y all here = absurd all
zip_push R (one ∷ xs) (other ∷ ys) x y all here = (all.0, zip_push R xs ys x y all.1 here)

-- what stands at a number still does
abbrev KeepsList : List Denoted → List Denoted → Type 0
KeepsList old new = (number : ℕ) (meant : Denoted) → slice_get old number ≡ Some meant → slice_get new number ≡ Some meant

record Keeps (old new : Numbered) : Type 0 where
  turns : KeepsList old.turns new.turns
  locals : KeepsList old.locals new.locals
  slots : KeepsList old.slots new.slots

list_same : (some : List Denoted) → KeepsList some some
list_same some = λ number meant is. is

list_more : (some more : List Denoted) → KeepsList some (some ++ more)
list_more some more = λ number meant is. got_before some more number meant is

list_on : (one two three : List Denoted) → KeepsList one two → KeepsList two three → KeepsList one three
list_on one two three first second = λ number meant is. second number meant (first number meant is)

keeps_same : (numbered : Numbered) → Keeps numbered numbered
keeps_same numbered =
    record { turns = list_same numbered.turns; locals = list_same numbered.locals; slots = list_same numbered.slots }

keeps_on : (one two three : Numbered) → Keeps one two → Keeps two three → Keeps one three
keeps_on one two three first second = record {
  turns = list_on one.turns two.turns three.turns first.turns second.turns;
  locals = list_on one.locals two.locals three.locals first.locals second.locals;
  slots = list_on one.slots two.slots three.slots first.slots second.slots;
}

keeps_turn : (numbered : Numbered) (meant : Denoted) → Keeps numbered (turn_numbered numbered meant)
keeps_turn numbered meant =
    record { turns = list_more numbered.turns (meant ∷ []); locals = list_same numbered.locals; slots = list_same numbered.slots }

keeps_local : (numbered : Numbered) (meant : Denoted) → Keeps numbered (local_numbered numbered meant)
keeps_local numbered meant =
    record { turns = list_same numbered.turns; locals = list_more numbered.locals (meant ∷ []); slots = list_same numbered.slots }

keeps_slot : (numbered : Numbered) (meant : Denoted) → Keeps numbered (slot_numbered numbered meant)
keeps_slot numbered meant =
    record { turns = list_same numbered.turns; locals = list_same numbered.locals; slots = list_more numbered.slots (meant ∷ []) }

keeps_unlabelled : (b : Bool) (numbered : Numbered) → Keeps numbered (unlabelled_if b numbered)
keeps_unlabelled true numbered = keeps_slot numbered denoted.Faulty
keeps_unlabelled false numbered = keeps_same numbered

block_keeps : (facts : Facts) (around : Surroundings) (numbered : Numbered) (statements : Statements)
    → Keeps numbered (block_numbered facts around numbered statements)
block_keeps facts around numbered Nothing = keeps_same numbered
block_keeps facts around numbered (Declares variable more) =
    let meant = local_value facts variable in
    let next = local_numbered numbered meant in
    let inside = seeing_local around variable.name meant in
    keeps_on numbered next (block_numbered facts inside next more) (keeps_local numbered meant) (block_keeps facts inside next more)
block_keeps facts around numbered (Calls call more) =
    let next = unlabelled_if (asks_slot call) numbered in
    keeps_on numbered next (block_numbered facts around next more) (keeps_unlabelled (asks_slot call) numbered) (block_keeps facts around next more)
block_keeps facts around numbered (Asks ask more) =
    let meant = slot_value facts around ask in
    let next = slot_numbered numbered meant in
    let inside = seeing_label around ask.label meant in
    keeps_on numbered next (block_numbered facts inside next more) (keeps_slot numbered meant) (block_keeps facts inside next more)
block_keeps facts around numbered (Tests at condition then_at then more) =
    let next = block_numbered facts around numbered then in
    keeps_on numbered next (block_numbered facts around next more) (block_keeps facts around numbered then) (block_keeps facts around next more)
block_keeps facts around numbered (Chooses at condition then_at then else_at else more) =
    let next = block_numbered facts around numbered then in
    let last = block_numbered facts around next else in
    keeps_on numbered next (block_numbered facts around last more) (block_keeps facts around numbered then)
    (keeps_on next last (block_numbered facts around last more) (block_keeps facts around next else) (block_keeps facts around last more))
block_keeps facts around numbered (Repeats at name class body_at body more) =
    let meant = turn_value facts class in
    let inside = turn_numbered numbered meant in
    let next = block_numbered facts (seeing_turn around name meant) inside body in
    keeps_on numbered inside (block_numbered facts around next more) (keeps_turn numbered meant)
    (keeps_on inside next (block_numbered facts around next more) (block_keeps facts (seeing_turn around name meant) inside body)
    (block_keeps facts around next more))

abbrev IsSeen : TokenSort → Outlook → Numbered → Type 0
IsSeen token outlook numbered = SeeAlike token outlook.around outlook.sight numbered

zip_on : (old new : List Denoted) (seen : List Seen) (read : List (List ℕ × ℕ)) → KeepsList old new → AllZip (IsSeenAs old) seen read
    → AllZip (IsSeenAs new) seen read
zip_on old new seen read keeps all =
    zip_weaker (IsSeenAs old) (IsSeenAs new) seen read (λ one here is. (is.0, keeps here.1 one.denoted is.1)) all

seen_on : (token : TokenSort) (outlook : Outlook) (old new : Numbered) → Keeps old new → IsSeen token outlook old → IsSeen token outlook new
seen_on token outlook old new keeps see = record {
  formals = see.formals;
  own = see.own;
  turns = zip_on old.turns new.turns outlook.around.turns outlook.sight.turns keeps.turns see.turns;
  locals = zip_on old.locals new.locals outlook.around.locals outlook.sight.locals keeps.locals see.locals;
  labels = zip_on old.slots new.slots outlook.around.labels outlook.sight.labels keeps.slots see.labels;
}

-- a variable of `foreach` more is seen alike
turn_seen : (token : TokenSort) (outlook : Outlook) (numbered : Numbered) (name : Name) (meant : Denoted) → IsSeen token outlook numbered
    → IsSeen token (sees_turn outlook numbered name meant) (turn_numbered numbered meant)
turn_seen token outlook numbered name meant see = record {
  formals = see.formals;
  own = see.own;
  turns = zip_push (IsSeenAs (numbered.turns ++ meant ∷ [])) outlook.around.turns outlook.sight.turns (seen_as name.text meant)
      (name.text, length numbered.turns)
      (zip_on numbered.turns (numbered.turns ++ meant ∷ []) outlook.around.turns outlook.sight.turns (list_more numbered.turns (meant ∷ [])) see.turns)
      (refl, got_last numbered.turns meant);
  locals = see.locals;
  labels = see.labels;
}

-- a local is
local_seen : (token : TokenSort) (outlook : Outlook) (numbered : Numbered) (name : Name) (meant : Denoted) → IsSeen token outlook numbered
    → IsSeen token (sees_local outlook numbered name meant) (local_numbered numbered meant)
local_seen token outlook numbered name meant see = record {
  formals = see.formals;
  own = see.own;
  turns = see.turns;
  locals = zip_push (IsSeenAs (numbered.locals ++ meant ∷ [])) outlook.around.locals outlook.sight.locals (seen_as name.text meant)
      (name.text, length numbered.locals)
      (zip_on numbered.locals (numbered.locals ++ meant ∷ []) outlook.around.locals outlook.sight.locals (list_more numbered.locals (meant ∷ [])) see.locals)
      (refl, got_last numbered.locals meant);
  labels = see.labels;
}

-- a label is
label_seen : (token : TokenSort) (outlook : Outlook) (numbered : Numbered) (name : Name) (meant : Denoted) → IsSeen token outlook numbered
    → IsSeen token (sees_label outlook numbered name meant) (slot_numbered numbered meant)
label_seen token outlook numbered name meant see = record {
  formals = see.formals;
  own = see.own;
  turns = see.turns;
  locals = see.locals;
  labels = zip_push (IsSeenAs (numbered.slots ++ meant ∷ [])) outlook.around.labels outlook.sight.labels (seen_as name.text meant)
      (name.text, length numbered.slots)
      (zip_on numbered.slots (numbered.slots ++ meant ∷ []) outlook.around.labels outlook.sight.labels (list_more numbered.slots (meant ∷ [])) see.labels)
      (refl, got_last numbered.slots meant);
}

-- ---- where the names of a statement stand

module _ (P : Lookup → Type 0) (outlook : Outlook) (here : (name : Name) (alone : Bool) → P (record { name = name; alone = alone; outlook = outlook })) where
  expr_here : (expr : Expr) → AllByRecursion P (expr_lookups outlook expr)
  expr_here (exprs.Path path) = (here path.first false, tt)
  expr_here (exprs.Literal literal) = tt

  exprs_here : (some : List Expr) → AllByRecursion P (exprs_lookups outlook some)
  exprs_here [] = tt
  exprs_here (expr ∷ more) = all_append P (expr_lookups outlook expr) (exprs_lookups outlook more) (expr_here expr) (exprs_here more)

  base_here : (base : BaseType) → AllByRecursion P (base_lookups outlook base)
  base_here (bases.Named name) = (here name true, tt)
  base_here bases.Int = tt
  base_here bases.Float = tt
  base_here bases.Bool = tt
  base_here bases.Str = tt

  value_here : (value : Value) → AllByRecursion P (value_lookups outlook value)
  value_here (values.Name name) = (here name false, tt)
  value_here (values.Literal literal) = tt

  values_here : (some : List Value) → AllByRecursion P (values_lookups outlook some)
  values_here [] = tt
  values_here (value ∷ more) = all_append P (value_lookups outlook value) (values_lookups outlook more) (value_here value) (values_here more)

  bounds_here : (bounds : Bounds) → AllByRecursion P (bounds_lookups outlook bounds)
  bounds_here bounds.All = tt
  bounds_here (bounds.Range at least greatest) =
      all_append P (value_lookups outlook least) (value_lookups outlook greatest) (value_here least) (value_here greatest)
  bounds_here (bounds.Set at some) = values_here some

  init_here : (init : Option Init) → AllByRecursion P (init_lookups outlook init)
  init_here None = tt
  init_here (Some (inits.Expr expr)) = expr_here expr
  init_here (Some (inits.New creation)) = tt

  local_here : (variable : Variable) → AllByRecursion P (local_lookups outlook variable)
  local_here variable =
      let of = variable.declared in
      all_append P (type_lookups outlook of) (init_lookups outlook variable.init)
      (all_append P (base_lookups outlook of.base) (bounds_lookups outlook of.bounds) (base_here of.base) (bounds_here of.bounds))
      (init_here variable.init)

  asked_here : (first : Name) (rest : List Name) → AllByRecursion P (asked_lookups outlook first rest)
  asked_here first [] = tt
  asked_here first (name ∷ more) = (here first false, tt)

  condition_here : (condition : Condition) → AllByRecursion P (condition_lookups outlook condition)
  condition_here (conditions.Truth expr) = expr_here expr
  condition_here (conditions.Equal one other) =
      all_append P (expr_lookups outlook one) (expr_lookups outlook other) (expr_here one) (expr_here other)
  condition_here (conditions.NotEqual one other) =
      all_append P (expr_lookups outlook one) (expr_lookups outlook other) (expr_here one) (expr_here other)

-- ---- blocks

module _ (facts : Facts) (token : TokenSort) (final : Numbered) where
  abbrev IsSeenAt : Lookup → Type 0
  IsSeenAt lookup = IsSeen token lookup.outlook final

  -- wherever a name is looked up the same is seen
  lookups_seen : (outlook : Outlook) (numbered : Numbered) (statements : Statements) → IsSeen token outlook numbered
      → Keeps (block_numbered facts outlook.around numbered statements) final
      → AllByRecursion IsSeenAt (block_lookups facts outlook numbered statements)
  lookups_seen outlook numbered Nothing see keeps = tt
  lookups_seen outlook numbered (Declares variable more) see keeps =
      let meant = local_value facts variable in
      let next = sees_local outlook numbered variable.name meant in
      let on = local_numbered numbered meant in
      let last = seen_on token outlook numbered final
      (keeps_on numbered (block_numbered facts outlook.around numbered (Declares variable more)) final
      (block_keeps facts outlook.around numbered (Declares variable more)) keeps) see in
      all_append IsSeenAt (local_lookups outlook variable) (block_lookups facts next on more) (local_here IsSeenAt outlook (λ name alone. last) variable)
      (lookups_seen next on more (local_seen token outlook numbered variable.name meant see) keeps)
  lookups_seen outlook numbered (Calls call more) see keeps =
      let on = unlabelled_if (asks_slot call) numbered in
      let last = seen_on token outlook numbered final
      (keeps_on numbered (block_numbered facts outlook.around numbered (Calls call more)) final
      (block_keeps facts outlook.around numbered (Calls call more)) keeps) see in
      all_append IsSeenAt (exprs_lookups outlook call.arguments) (block_lookups facts outlook on more)
      (exprs_here IsSeenAt outlook (λ name alone. last) call.arguments)
      (lookups_seen outlook on more (seen_on token outlook numbered on (keeps_unlabelled (asks_slot call) numbered) see) keeps)
  lookups_seen outlook numbered (Asks ask more) see keeps =
      let meant = slot_value facts outlook.around ask in
      let next = sees_label outlook numbered ask.label meant in
      let on = slot_numbered numbered meant in
      let last = seen_on token outlook numbered final
      (keeps_on numbered (block_numbered facts outlook.around numbered (Asks ask more)) final
      (block_keeps facts outlook.around numbered (Asks ask more)) keeps) see in
      all_append IsSeenAt (asked_lookups outlook ask.path.first ask.path.rest) (block_lookups facts next on more)
      (asked_here IsSeenAt outlook (λ name alone. last) ask.path.first ask.path.rest)
      (lookups_seen next on more (label_seen token outlook numbered ask.label meant see) keeps)
  lookups_seen outlook numbered (Tests at condition then_at then more) see keeps =
      let on = block_numbered facts outlook.around numbered then in
      let end = block_numbered facts outlook.around on more in
      let behind = keeps_on on end final (block_keeps facts outlook.around on more) keeps in
      let last = seen_on token outlook numbered final (keeps_on numbered on final (block_keeps facts outlook.around numbered then) behind) see in
      all_append IsSeenAt (condition_lookups outlook condition) (block_lookups facts outlook numbered then ++ block_lookups facts outlook on more)
      (condition_here IsSeenAt outlook (λ name alone. last) condition)
      (all_append IsSeenAt (block_lookups facts outlook numbered then) (block_lookups facts outlook on more)
      (lookups_seen outlook numbered then see behind)
      (lookups_seen outlook on more (seen_on token outlook numbered on (block_keeps facts outlook.around numbered then) see) keeps))
  lookups_seen outlook numbered (Chooses at condition then_at then else_at else more) see keeps =
      let on = block_numbered facts outlook.around numbered then in
      let other = block_numbered facts outlook.around on else in
      let end = block_numbered facts outlook.around other more in
      let behind = keeps_on other end final (block_keeps facts outlook.around other more) keeps in
      let within = keeps_on on other final (block_keeps facts outlook.around on else) behind in
      let last = seen_on token outlook numbered final (keeps_on numbered on final (block_keeps facts outlook.around numbered then) within) see in
      let see_on = seen_on token outlook numbered on (block_keeps facts outlook.around numbered then) see in
      let see_other = seen_on token outlook on other (block_keeps facts outlook.around on else) see_on in
      all_append IsSeenAt (condition_lookups outlook condition)
      (block_lookups facts outlook numbered then ++ (block_lookups facts outlook on else ++ block_lookups facts outlook other more))
      (condition_here IsSeenAt outlook (λ name alone. last) condition)
      (all_append IsSeenAt (block_lookups facts outlook numbered then) (block_lookups facts outlook on else ++ block_lookups facts outlook other more)
      (lookups_seen outlook numbered then see within)
      (all_append IsSeenAt (block_lookups facts outlook on else) (block_lookups facts outlook other more)
      (lookups_seen outlook on else see_on behind) (lookups_seen outlook other more see_other keeps)))
  lookups_seen outlook numbered (Repeats at name class body_at body more) see keeps =
      let meant = turn_value facts class in
      let inside = turn_numbered numbered meant in
      let next = sees_turn outlook numbered name meant in
      let on = block_numbered facts (seeing_turn outlook.around name meant) inside body in
      let end = block_numbered facts outlook.around on more in
      let behind = keeps_on on end final (block_keeps facts outlook.around on more) keeps in
      let entered = keeps_on numbered inside on (keeps_turn numbered meant) (block_keeps facts (seeing_turn outlook.around name meant) inside body) in
      let last = seen_on token outlook numbered final (keeps_on numbered on final entered behind) see in
      all_append IsSeenAt (in_files outlook class ∷ []) (block_lookups facts next inside body ++ block_lookups facts outlook on more) (last, tt)
      (all_append IsSeenAt (block_lookups facts next inside body) (block_lookups facts outlook on more)
      (lookups_seen next inside body (turn_seen token outlook numbered name meant see) behind)
      (lookups_seen outlook on more (seen_on token outlook numbered on entered see) keeps))

-- ---- rules

none_seen : (token : TokenSort) → IsSeen token (own_outlook token) none_numbered
none_seen token = record { formals = refl; own = refl; turns = tt; locals = tt; labels = tt }

pub rule_alike : (files : List FileDecls) (ground : RuleGround) (statements : Statements) → IsGround files ground → IsRuleReadAlike ground statements
rule_alike files ground statements is =
    let final = rule_numbered ground statements in
    record {
      names = statements_names (sources_in ground) ground.facts (own_outlook ground.token) none_numbered statements;
      alike = all_weaker (IsSeenAt ground.facts ground.token final) (IsReadAlike ground final) (rule_lookups ground statements)
          (λ lookup see. name_alike files ground lookup.outlook.around lookup.outlook.sight final lookup.name.text is see)
          (lookups_seen ground.facts ground.token final (own_outlook ground.token) none_numbered statements (none_seen ground.token) (keeps_same final));
    }
