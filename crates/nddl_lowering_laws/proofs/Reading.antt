-- Where names are read in order, each that is looked up is found at its place as what it means there.
use Rattle.std.proofs.Common.{◌≡◌, ℕ, suc, ◌+◌, ◌<◌, ◌≤◌, Bool, true, false, List, [], ◌∷◌, ◌++◌, length, refl, sym, ◌∙◌, ap, subst, append_assoc, arith, eq-eqb, ne_eqb}
use Rattle.std.specs.Prelude.{Option, Some, None, All, slice_get, if◌then◌else◌}
use Rattle.std.specs.List.{AllByRecursion, flat_map}
use Rattle.std.proofs.lemmas.List.{length-append}
use Rattle.std.proofs.lemmas.Slice.Zip.{AllZip-long}
use Rattle.model_core.proofs.Distinct.{pairs_back}
use Rattle.model_core.proofs.Items.{item_all}
use Rattle.nddl_ast.specs.declared.expression.Expr.{Expr}
use Rattle.nddl_ast.specs.declared.expression.Expr.TheVariants as exprs
use Rattle.nddl_ast.specs.declared.expression.Init.{Init}
use Rattle.nddl_ast.specs.declared.expression.Init.TheVariants as inits
use Rattle.nddl_ast.specs.declared.name.Name.{Name}
use Rattle.nddl_ast.specs.declared.statement.Condition.{Condition}
use Rattle.nddl_ast.specs.declared.statement.Condition.TheVariants as conditions
use Rattle.nddl_ast.specs.Tree.{Statements, Nothing, Declares, Calls, Asks, Tests, Chooses, Repeats}
use Rattle.nddl_hierarchy.specs.Facts.{Facts}
use Rattle.nddl_rule_check.specs.Blocks.{local_value, slot_value, turn_value}
use Rattle.nddl_rule_check.specs.Seeing.{seeing_turn}
use Rattle.nddl_terms.specs.declared.tree.Meaning.{Meaning}
use Rattle.nddl_terms.specs.declared.tree.ReadName.{ReadName}
use Rattle.nddl_terms.specs.Names.{AreReadInOrder, name_read_at}
use Rattle.nddl_rules.specs.declared.sight.Tally.{Tally}
use Rattle.nddl_rules.specs.Blocks.{asks_slot, tallied}
use Rattle.nddl_rules.specs.Reads.{NameSources, front_meaning, read_at, scope_meaning}
use Rattle.nddl_rules.specs.Sight.{Sight}
use Rattle.nddl_rules.specs.Tally.{turn_more}
use Rattle.nddl_laws.specs.Lookups.{IsReadFor, Lookup, Outlook, asked_lookups, block_lookups, block_numbered, condition_lookups, expr_lookups, exprs_lookups, in_files, init_lookups, local_lookups, lookup_read, name_read, own_outlook, rule_lookups, rule_names, rule_numbered, sees_label, sees_local, sees_turn, type_lookups, unlabelled_if}
use Rattle.nddl_laws.specs.Scoping.{Numbered, local_numbered, none_numbered, slot_numbered, sources_in, tally_of, turn_numbered}
use Rattle.nddl_laws.proofs.Looking.{block_tally, local_tally, rule_alike, slot_tally, turn_tally, unlabelled_tally}
use Rattle.nddl_lowering_laws.specs.Fine.{ReadNamesAreFound}
use Rattle.nddl_lowering_laws.specs.Scoped.{AreExprsRead, AreRead, IsAskedRead, IsConditionRead, IsExprRead, IsInitRead}

-- ---- names in order

first_before : (first : ReadName) (more : List ReadName) → AreReadInOrder (first ∷ more) → All (λ (read : ReadName). first.at < read.at) more
first_before first more order k d within = order 0 (suc k) d (omega arith) (omega (arith, within))

read_behind : (front : List ReadName) (read : ReadName) (back : List ReadName) → slice_get (front ++ read ∷ back) (length front) ≡ Some read
read_behind [] read back = refl
read_behind (first ∷ front) read back = read_behind front read back

-- what is read is found at its place
read_found : (front : List ReadName) (read : ReadName) (back : List ReadName) → AreReadInOrder (front ++ read ∷ back)
    → name_read_at read.at (front ++ read ∷ back) ≡ Some read.meaning
read_found [] read back order =
    ap (λ (so : Bool). if so then Some read.meaning else name_read_at read.at back) (eq-eqb read.at read.at refl)
read_found (first ∷ front) read back order =
    let rest = front ++ read ∷ back in
    let before : first.at < read.at =
    item_all (λ (other : ReadName). first.at < other.at) rest (length front) read (first_before first rest order) (read_behind front read back) in
    ap (λ (so : Bool). if so then Some first.meaning else name_read_at read.at rest)
    (ne_eqb first.at read.at (λ same. omega (arith, before, same)))
    ∙ read_found front read back (pairs_back (λ (one other : ReadName). one.at < other.at) (first ∷ []) rest order)

-- ---- what is looked up

-- what the name means, in the files alone or among all that is seen
abbrev meaning_by : NameSources → Sight → Name → Bool → Option Meaning
meaning_by sources sight name true = scope_meaning sources.scope name.text
meaning_by sources sight name false = front_meaning sources sight name.text

abbrev lookup_meaning : NameSources → Lookup → Option Meaning
lookup_meaning sources lookup = meaning_by sources lookup.outlook.sight lookup.name lookup.alone

read_so : (sources : NameSources) (sight : Sight) (name : Name) (alone : Bool)
    → name_read sources sight name alone ≡ read_at name.at (meaning_by sources sight name alone)
read_so sources sight name true = refl
read_so sources sight name false = refl

-- at its place the name is found as what it means
abbrev IsLooked : List ReadName → NameSources → Lookup → Type 0
IsLooked names sources lookup = name_read_at lookup.name.at names ≡ lookup_meaning sources lookup

short_one : (at : ℕ) (found : Option Meaning) → length (read_at at found) ≤ 1
short_one at None = omega arith
short_one at (Some meaning) = omega arith

all_short : (sources : NameSources) (some : List Lookup) → length (flat_map (lookup_read sources) some) ≤ length some
all_short sources [] = omega arith
all_short sources (lookup ∷ more) =
    let first = ap length (read_so sources lookup.outlook.sight lookup.name lookup.alone) in
    let short = short_one lookup.name.at (lookup_meaning sources lookup) in
    let rest = all_short sources more in
    omega (arith, first, short, rest, length-append (lookup_read sources lookup) (flat_map (lookup_read sources) more))

module _ (all : List ReadName) (order : AreReadInOrder all) (sources : NameSources) where
  abbrev those : List Lookup → List ReadName
  those some = flat_map (lookup_read sources) some

  looked_case : (front : List ReadName) (lookup : Lookup) (more : List Lookup) (found : Option Meaning) → lookup_meaning sources lookup ≡ found
      → all ≡ front ++ (read_at lookup.name.at found ++ those more)
      → length (read_at lookup.name.at found ++ those more) ≡ length more + 1
      → ((next : List ReadName) → all ≡ next ++ those more → length (those more) ≡ length more → AllByRecursion (IsLooked all sources) more)
      → IsLooked all sources lookup × AllByRecursion (IsLooked all sources) more
  looked_case front lookup more None means is size rest =
      let short = all_short sources more in
      absurd (omega (arith, size, short))
  looked_case front lookup more (Some meaning) means is size rest =
      let read : ReadName = record { at = lookup.name.at; meaning = meaning } in
      let back = those more in
      let ordered = subst AreReadInOrder is order in
      let found : name_read_at lookup.name.at all ≡ Some meaning =
      ap (λ (some : List ReadName). name_read_at lookup.name.at some) is ∙ read_found front read back ordered in
      let count : length back ≡ length more = omega (arith, size) in
      (found ∙ sym means, rest (front ++ read ∷ []) (is ∙ sym (append_assoc front (read ∷ []) back)) count)

  all_looked : (some : List Lookup) (front : List ReadName) → all ≡ front ++ those some → length (those some) ≡ length some
      → AllByRecursion (IsLooked all sources) some
  all_looked [] front is size = tt
  all_looked (lookup ∷ more) front is size =
      let so = read_so sources lookup.outlook.sight lookup.name lookup.alone in
      let whole : those (lookup ∷ more) ≡ read_at lookup.name.at (lookup_meaning sources lookup) ++ those more =
      ap (λ (first : List ReadName). first ++ those more) so in
      let counted = ap length whole in
      looked_case front lookup more (lookup_meaning sources lookup) refl
      (is ∙ ap (λ (some : List ReadName). front ++ some) whole) (omega (arith, size, counted))
      (λ next at count. all_looked more next at count)

-- ---- parts of lists

left_part : {X : Type 0} (P : X → Type 0) (one other : List X) → AllByRecursion P (one ++ other) → AllByRecursion P one
left_part P [] other all = tt
left_part P (x ∷ one) other all = (all.0, left_part P one other all.1)

right_part : {X : Type 0} (P : X → Type 0) (one other : List X) → AllByRecursion P (one ++ other) → AllByRecursion P other
right_part P [] other all = all
right_part P (x ∷ one) other all = right_part P one other all.1

-- ---- statements

module _ (names : List ReadName) (sources : NameSources) where
  abbrev AreLooked : List Lookup → Type 0
  AreLooked some = AllByRecursion (IsLooked names sources) some

  expr_read_so : (outlook : Outlook) (expr : Expr) → AreLooked (expr_lookups outlook expr) → IsExprRead names sources outlook.sight expr
  expr_read_so outlook (exprs.Path path) looked = looked.0
  expr_read_so outlook (exprs.Literal literal) looked = tt

  exprs_read_so : (outlook : Outlook) (some : List Expr) → AreLooked (exprs_lookups outlook some) → AreExprsRead names sources outlook.sight some
  exprs_read_so outlook [] looked = tt
  exprs_read_so outlook (expr ∷ more) looked = (
    expr_read_so outlook expr (left_part (IsLooked names sources) (expr_lookups outlook expr) (exprs_lookups outlook more) looked),
    exprs_read_so outlook more (right_part (IsLooked names sources) (expr_lookups outlook expr) (exprs_lookups outlook more) looked),
  )

  init_read_so : (outlook : Outlook) (init : Option Init) → AreLooked (init_lookups outlook init) → IsInitRead names sources outlook.sight init
  init_read_so outlook None looked = tt
  init_read_so outlook (Some (inits.Expr expr)) looked = expr_read_so outlook expr looked
  init_read_so outlook (Some (inits.New creation)) looked = tt

  condition_read_so : (outlook : Outlook) (condition : Condition) → AreLooked (condition_lookups outlook condition)
      → IsConditionRead names sources outlook.sight condition
  condition_read_so outlook (conditions.Truth expr) looked = expr_read_so outlook expr looked
  condition_read_so outlook (conditions.Equal one other) looked = (
    expr_read_so outlook one (left_part (IsLooked names sources) (expr_lookups outlook one) (expr_lookups outlook other) looked),
    expr_read_so outlook other (right_part (IsLooked names sources) (expr_lookups outlook one) (expr_lookups outlook other) looked),
  )
  condition_read_so outlook (conditions.NotEqual one other) looked = (
    expr_read_so outlook one (left_part (IsLooked names sources) (expr_lookups outlook one) (expr_lookups outlook other) looked),
    expr_read_so outlook other (right_part (IsLooked names sources) (expr_lookups outlook one) (expr_lookups outlook other) looked),
  )

  asked_read_so : (outlook : Outlook) (first : Name) (rest : List Name) → AreLooked (asked_lookups outlook first rest)
      → IsAskedRead names sources outlook.sight first rest
  asked_read_so outlook first [] looked = tt
  asked_read_so outlook first (name ∷ more) looked = looked.0

  block_read_so : (facts : Facts) (outlook : Outlook) (numbered : Numbered) (stmts : Statements) → AreLooked (block_lookups facts outlook numbered stmts)
      → AreRead names sources outlook.sight (tally_of numbered) stmts
  block_read_so facts outlook numbered Nothing looked = tt
  block_read_so facts outlook numbered (Declares variable more) looked =
      let meant = local_value facts variable in
      let next = sees_local outlook numbered variable.name meant in
      let own = local_lookups outlook variable in
      let rest = block_lookups facts next (local_numbered numbered meant) more in
      let here = left_part (IsLooked names sources) own rest looked in (
        init_read_so outlook variable.init
            (right_part (IsLooked names sources) (type_lookups outlook variable.declared) (init_lookups outlook variable.init) here),
        subst (λ (tally : Tally). AreRead names sources next.sight tally more) (local_tally numbered meant)
            (block_read_so facts next (local_numbered numbered meant) more (right_part (IsLooked names sources) own rest looked)),
      )
  block_read_so facts outlook numbered (Calls call more) looked =
      let next = unlabelled_if (asks_slot call) numbered in
      let own = exprs_lookups outlook call.arguments in
      let rest = block_lookups facts outlook next more in (
        exprs_read_so outlook call.arguments (left_part (IsLooked names sources) own rest looked),
        subst (λ (tally : Tally). AreRead names sources outlook.sight tally more) (unlabelled_tally (asks_slot call) numbered)
            (block_read_so facts outlook next more (right_part (IsLooked names sources) own rest looked)),
      )
  block_read_so facts outlook numbered (Asks ask more) looked =
      let meant = slot_value facts outlook.around ask in
      let next = sees_label outlook numbered ask.label meant in
      let own = asked_lookups outlook ask.path.first ask.path.rest in
      let rest = block_lookups facts next (slot_numbered numbered meant) more in (
        asked_read_so outlook ask.path.first ask.path.rest (left_part (IsLooked names sources) own rest looked),
        subst (λ (tally : Tally). AreRead names sources next.sight tally more) (slot_tally numbered meant)
            (block_read_so facts next (slot_numbered numbered meant) more (right_part (IsLooked names sources) own rest looked)),
      )
  block_read_so facts outlook numbered (Tests at condition then_at inside more) looked =
      let behind = block_numbered facts outlook.around numbered inside in
      let own = condition_lookups outlook condition in
      let block = block_lookups facts outlook numbered inside in
      let rest = block_lookups facts outlook behind more in
      let later = right_part (IsLooked names sources) own (block ++ rest) looked in (
        condition_read_so outlook condition (left_part (IsLooked names sources) own (block ++ rest) looked),
        (
          block_read_so facts outlook numbered inside (left_part (IsLooked names sources) block rest later),
          subst (λ (tally : Tally). AreRead names sources outlook.sight tally more) (block_tally facts outlook.around numbered inside)
              (block_read_so facts outlook behind more (right_part (IsLooked names sources) block rest later)),
        ),
      )
  block_read_so facts outlook numbered (Chooses at condition then_at inside else_at other more) looked =
      let behind = block_numbered facts outlook.around numbered inside in
      let last = block_numbered facts outlook.around behind other in
      let own = condition_lookups outlook condition in
      let block = block_lookups facts outlook numbered inside in
      let second = block_lookups facts outlook behind other in
      let rest = block_lookups facts outlook last more in
      let later = right_part (IsLooked names sources) own (block ++ (second ++ rest)) looked in
      let end = right_part (IsLooked names sources) block (second ++ rest) later in
      let counted = block_tally facts outlook.around numbered inside in
      let counted_on : tally_of last ≡ tallied (tallied (tally_of numbered) inside) other =
      block_tally facts outlook.around behind other ∙ ap (λ (tally : Tally). tallied tally other) counted in (
        condition_read_so outlook condition (left_part (IsLooked names sources) own (block ++ (second ++ rest)) looked),
        (
          block_read_so facts outlook numbered inside (left_part (IsLooked names sources) block (second ++ rest) later),
          (
            subst (λ (tally : Tally). AreRead names sources outlook.sight tally other) counted
                (block_read_so facts outlook behind other (left_part (IsLooked names sources) second rest end)),
            subst (λ (tally : Tally). AreRead names sources outlook.sight tally more) counted_on
                (block_read_so facts outlook last more (right_part (IsLooked names sources) second rest end)),
          ),
        ),
      )
  block_read_so facts outlook numbered (Repeats at name class body_at body more) looked =
      let meant = turn_value facts class in
      let inside = turn_numbered numbered meant in
      let next = sees_turn outlook numbered name meant in
      let behind = block_numbered facts (seeing_turn outlook.around name meant) inside body in
      let own = in_files outlook class ∷ [] in
      let block = block_lookups facts next inside body in
      let rest = block_lookups facts outlook behind more in
      let later = right_part (IsLooked names sources) own (block ++ rest) looked in
      let counted = turn_tally numbered meant in
      let counted_on : tally_of behind ≡ tallied (turn_more (tally_of numbered)) body =
      block_tally facts (seeing_turn outlook.around name meant) inside body ∙ ap (λ (tally : Tally). tallied tally body) counted in (
        subst (λ (tally : Tally). AreRead names sources next.sight tally body) counted
            (block_read_so facts next inside body (left_part (IsLooked names sources) block rest later)),
        subst (λ (tally : Tally). AreRead names sources outlook.sight tally more) counted_on
            (block_read_so facts outlook behind more (right_part (IsLooked names sources) block rest later)),
      )

-- ---- rules

pub names_found : ReadNamesAreFound
names_found files ground stmts is_ground order read =
    let names = rule_names ground stmts in
    let sources = sources_in ground in
    let lookups = rule_lookups ground stmts in
    let alike = rule_alike files ground stmts is_ground in
    let size = AllZip-long (IsReadFor ground (rule_numbered ground stmts)) names lookups read in
    let counted = ap length alike.names in
    let looked = all_looked names order sources lookups [] alike.names (omega (arith, size, counted)) in
    block_read_so names sources ground.facts (own_outlook ground.token) none_numbered stmts looked
