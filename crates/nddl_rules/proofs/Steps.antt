-- Statements that are dealt with one after another.
use Rattle.std.proofs.Common.{◌≡◌, ℕ, ◌+◌, ◌<◌, List, [], ◌∷◌, ◌++◌, length, drop, get_or, refl, sym, ◌∙◌, ap, subst}
use Rattle.std.specs.Prelude.{Option, Some, None, Result, Ok, Err, OnOk}
use Rattle.std.specs.Option.{option_map_or}
use Rattle.std.proofs.lemmas.List.{append-nil, append_assoc, drop_more}
use Rattle.nddl_ast.specs.declared.name.Name.{Name}
use Rattle.nddl_ast.specs.declared.statement.Ask.{Ask}
use Rattle.nddl_ast.specs.declared.statement.Call.{Call}
use Rattle.nddl_ast.specs.declared.statement.Condition.{Condition}
use Rattle.nddl_ast.specs.declared.statement.Stmt.{Stmt}
use Rattle.nddl_ast.specs.declared.statement.Stmt.TheVariants as stmts
use Rattle.nddl_ast.specs.declared.statement.Variable.{Variable}
use Rattle.nddl_ast.specs.Block.{statements_of, with_else, with_statement}
use Rattle.nddl_ast.specs.Tree.{Statements, Nothing, Braces}
use Rattle.nddl_terms.specs.declared.tree.ReadName.{ReadName}
use Rattle.nddl_rules.specs.declared.sight.SightUntil.{SightUntil}
use Rattle.nddl_rules.specs.declared.sight.Tally.{Tally}
use Rattle.nddl_rules.specs.Reads.{NameSources, asked_read, condition_read, exprs_read, local_read, scope_read}
use Rattle.nddl_rules.specs.Sight.{Sight, SeesFurther, cut_sight, sight_until, with_label, with_rule_local, with_turn}
use Rattle.nddl_rules.specs.Tally.{local_more, slot_more, turn_more}
use Rattle.nddl_rules.specs.Blocks.{ReadsTo, block_names, call_tally, tallied}
use Rattle.nddl_rules.proofs.Seeing.{forgotten, further_label, further_local, further_on, further_same, further_turn}

-- the item that is read, and those behind it
dropped : {X : Type 0} (xs : List X) (i : ℕ) (x : X) → i < length xs → x ≡ get_or xs i x → x ∷ drop (i + 1) xs ≡ drop i xs
dropped xs i x within is = ap (λ y. y ∷ drop (i + 1) xs) is ∙ sym (drop_more xs i x within)

-- ---- names behind others

-- some came, and then others are the rest
one_on : (old new some others rest : List ReadName) → new ≡ old ++ some → others ≡ rest → new ++ others ≡ old ++ (some ++ rest)
one_on old new some others rest came others_are =
    ap (λ names. names ++ others) came ∙ (append_assoc old some others ∙ ap (λ more. old ++ (some ++ more)) others_are)

two_on : (old mid new one two others rest : List ReadName) → mid ≡ old ++ one → new ≡ mid ++ two → others ≡ rest
    → new ++ others ≡ old ++ (one ++ (two ++ rest))
two_on old mid new one two others rest first second others_are =
    one_on mid new two others rest second others_are ∙ one_on old mid one (two ++ rest) (two ++ rest) first refl

three_on : (old mid then new one two three others rest : List ReadName) → mid ≡ old ++ one → then ≡ mid ++ two → new ≡ then ++ three
    → others ≡ rest → new ++ others ≡ old ++ (one ++ (two ++ (three ++ rest)))
three_on old mid then new one two three others rest first second third others_are =
    one_on then new three others rest third others_are
    ∙ two_on old mid then one two (three ++ rest) (three ++ rest) first second refl

-- ---- single statements before others

-- a local
pub local_on : {X E : Type 0} (sources : NameSources) (sight next : Sight) (tally on : Tally) (old new : List ReadName)
    (variable : Variable) (result : Result X E)
    → OnOk result (new ≡ old ++ local_read sources sight variable) → OnOk result (on ≡ local_more tally)
    → OnOk result (next ≡ with_rule_local sight variable.name.text tally.locals)
    → OnOk result ((more : Statements) → ReadsTo sources sight next tally on old new (with_statement (stmts.Variable variable) more) more)
local_on sources sight next tally on old new variable (Err e) read counted seen = tt
local_on sources sight next tally on old new variable (Ok done) read counted seen = λ more. record {
  names_are = one_on old new (local_read sources sight variable) (block_names sources next on more)
      (block_names sources (with_rule_local sight variable.name.text tally.locals) (local_more tally) more) read
      (ap (λ s. block_names sources s on more) seen
      ∙ ap (λ t. block_names sources (with_rule_local sight variable.name.text tally.locals) t more) counted);
  tally_is = ap (λ t. tallied t more) counted;
  sees = subst (SeesFurther sight) (sym seen) (further_local sight variable.name.text tally.locals);
}

-- a slot with a label
pub ask_on : {X E : Type 0} (sources : NameSources) (sight next : Sight) (tally on : Tally) (old new : List ReadName)
    (ask : Ask) (result : Result X E)
    → OnOk result (new ≡ old ++ asked_read sources sight ask.path.first ask.path.rest) → OnOk result (on ≡ slot_more tally)
    → OnOk result (next ≡ with_label sight ask.label.text tally.slots)
    → OnOk result ((more : Statements) → ReadsTo sources sight next tally on old new (with_statement (stmts.Ask ask) more) more)
ask_on sources sight next tally on old new ask (Err e) read counted seen = tt
ask_on sources sight next tally on old new ask (Ok done) read counted seen = λ more. record {
  names_are = one_on old new (asked_read sources sight ask.path.first ask.path.rest) (block_names sources next on more)
      (block_names sources (with_label sight ask.label.text tally.slots) (slot_more tally) more) read
      (ap (λ s. block_names sources s on more) seen
      ∙ ap (λ t. block_names sources (with_label sight ask.label.text tally.slots) t more) counted);
  tally_is = ap (λ t. tallied t more) counted;
  sees = subst (SeesFurther sight) (sym seen) (further_label sight ask.label.text tally.slots);
}

-- a call
pub call_on : {X E : Type 0} (sources : NameSources) (sight : Sight) (tally on : Tally) (old new : List ReadName)
    (call : Call) (result : Result X E)
    → OnOk result (new ≡ old ++ exprs_read sources sight call.arguments) → OnOk result (on ≡ call_tally tally call)
    → OnOk result ((more : Statements) → ReadsTo sources sight sight tally on old new (with_statement (stmts.Call call) more) more)
call_on sources sight tally on old new call (Err e) read counted = tt
call_on sources sight tally on old new call (Ok done) read counted = λ more. record {
  names_are = one_on old new (exprs_read sources sight call.arguments) (block_names sources sight on more)
      (block_names sources sight (call_tally tally call) more) read
      (ap (λ t. block_names sources sight t more) counted);
  tally_is = ap (λ t. tallied t more) counted;
  sees = further_same sight;
}

-- a `foreach`
pub turns_on : {X E : Type 0} (sources : NameSources) (sight next : Sight) (tally on : Tally) (old mid new : List ReadName)
    (at : ℕ) (variable class : Name) (body : Braces) (result : Result X E)
    → mid ≡ old ++ scope_read sources.scope class
    → OnOk result (new ≡ mid ++ block_names sources (with_turn sight variable.text tally.turns) (turn_more tally) body.statements)
    → OnOk result (on ≡ tallied (turn_more tally) body.statements) → OnOk result (next ≡ sight)
    → OnOk result ((more : Statements)
    → ReadsTo sources sight next tally on old new (with_statement (stmts.Foreach at variable class body) more) more)
turns_on sources sight next tally on old mid new at variable class body (Err e) class_read read counted seen = tt
turns_on sources sight next tally on old mid new at variable class body (Ok done) class_read read counted seen = λ more.
    let inside = block_names sources (with_turn sight variable.text tally.turns) (turn_more tally) body.statements in
    let behind = block_names sources sight (tallied (turn_more tally) body.statements) more in
    record {
      names_are = two_on old mid new (scope_read sources.scope class) inside (block_names sources next on more) behind class_read read
          (ap (λ s. block_names sources s on more) seen ∙ ap (λ t. block_names sources sight t more) counted);
      tally_is = ap (λ t. tallied t more) counted;
      sees = subst (SeesFurther sight) (sym seen) (further_same sight);
    }

-- an `if`, where what it leaves is known of the block behind `else`
pub otherwise_on : (sources : NameSources) (sight next : Sight) (tally mid on : Tally) (old first second new : List ReadName)
    (at : ℕ) (condition : Condition) (then : Braces) (otherwise : Option Braces) (more : Statements)
    → first ≡ old ++ condition_read sources sight condition
    → second ≡ first ++ block_names sources sight tally then.statements → mid ≡ tallied tally then.statements
    → new ≡ second ++ option_map_or (λ block. block_names sources sight mid block.statements) otherwise []
    → on ≡ option_map_or (λ block. tallied mid block.statements) otherwise mid → next ≡ sight
    → ReadsTo sources sight next tally on old new (with_else at condition then otherwise more) more
otherwise_on sources sight next tally mid on old first second new at condition then None more tested then_read then_counted read counted seen = record {
  names_are = two_on old first new (condition_read sources sight condition) (block_names sources sight tally then.statements)
      (block_names sources next on more) (block_names sources sight (tallied tally then.statements) more) tested
      (read ∙ (append-nil second ∙ then_read))
      (ap (λ s. block_names sources s on more) seen ∙ ap (λ t. block_names sources sight t more) (counted ∙ then_counted));
  tally_is = ap (λ t. tallied t more) (counted ∙ then_counted);
  sees = subst (SeesFurther sight) (sym seen) (further_same sight);
}
otherwise_on sources sight next tally mid on old first second new at condition then (Some block) more tested then_read then_counted read counted seen =
    let behind = tallied tally then.statements in
    let counted_on : on ≡ tallied behind block.statements = counted ∙ ap (λ t. tallied t block.statements) then_counted in
    record {
      names_are = three_on old first second new (condition_read sources sight condition) (block_names sources sight tally then.statements)
          (block_names sources sight behind block.statements) (block_names sources next on more)
          (block_names sources sight (tallied behind block.statements) more) tested then_read
          (read ∙ ap (λ t. second ++ block_names sources sight t block.statements) then_counted)
          (ap (λ s. block_names sources s on more) seen ∙ ap (λ t. block_names sources sight t more) counted_on);
      tally_is = ap (λ t. tallied t more) counted_on;
      sees = subst (SeesFurther sight) (sym seen) (further_same sight);
    }

pub tests_on : {X E : Type 0} (sources : NameSources) (sight next last : Sight) (tally mid on : Tally) (old first second new : List ReadName)
    (at : ℕ) (condition : Condition) (then : Braces) (otherwise : Option Braces) (result : Result X E)
    → first ≡ old ++ condition_read sources sight condition
    → second ≡ first ++ block_names sources sight tally then.statements → mid ≡ tallied tally then.statements → next ≡ sight
    → OnOk result (new ≡ second ++ option_map_or (λ block. block_names sources next mid block.statements) otherwise [])
    → OnOk result (on ≡ option_map_or (λ block. tallied mid block.statements) otherwise mid) → OnOk result (last ≡ next)
    → OnOk result ((more : Statements)
    → ReadsTo sources sight last tally on old new (with_statement (stmts.If at condition then otherwise) more) more)
tests_on sources sight next last tally mid on old first second new at condition then otherwise (Err e) tested then_read then_counted same read counted seen = tt
tests_on sources sight next last tally mid on old first second new at condition then otherwise (Ok done) tested then_read then_counted same read counted seen = λ more.
    otherwise_on sources sight last tally mid on old first second new at condition then otherwise more tested then_read then_counted
    (read ∙ ap (λ (s : Sight). second ++ option_map_or (λ (block : Braces). block_names sources s mid block.statements) otherwise []) same)
    counted (seen ∙ same)

-- what is said of a statement holds of the one that it is
pub reads_at : {X E : Type 0} (sources : NameSources) (sight next : Sight) (tally on : Tally) (old new : List ReadName)
    (same stmt : Stmt) (result : Result X E) → stmt ≡ same
    → OnOk result ((more : Statements) → ReadsTo sources sight next tally on old new (with_statement same more) more)
    → OnOk result ((more : Statements) → ReadsTo sources sight next tally on old new (with_statement stmt more) more)
reads_at sources sight next tally on old new same stmt (Err e) is said = tt
reads_at sources sight next tally on old new same stmt (Ok done) is said = λ more.
    subst (λ (s : Stmt). ReadsTo sources sight next tally on old new (with_statement s more) more) (sym is) (said more)

-- ---- statements of a block

-- none has been dealt with
pub reads_none : (sources : NameSources) (sight : Sight) (tally : Tally) (names : List ReadName) (statements : Statements)
    → ReadsTo sources sight sight tally tally names names statements statements
reads_none sources sight tally names statements = record { names_are = refl; tally_is = refl; sees = further_same sight }

-- one statement more has been dealt with
pub reads_step : (sources : NameSources) (first sight next : Sight) (start tally on : Tally) (begin old new : List ReadName)
    (some : List Stmt) (i : ℕ) (stmt : Stmt) → i < length some → stmt ≡ get_or some i stmt
    → ((more : Statements) → ReadsTo sources sight next tally on old new (with_statement stmt more) more)
    → ReadsTo sources first sight start tally begin old (statements_of some) (statements_of (drop i some))
    → ReadsTo sources first next start on begin new (statements_of some) (statements_of (drop (i + 1) some))
reads_step sources first sight next start tally on begin old new some i stmt within is goes_on so_far =
    let more = statements_of (drop (i + 1) some) in
    let here = goes_on more in
    record {
      names_are = here.names_are
          ∙ (ap (λ left. old ++ block_names sources sight tally (statements_of left)) (dropped some i stmt within is) ∙ so_far.names_are);
      tally_is = here.tally_is ∙ (ap (λ left. tallied tally (statements_of left)) (dropped some i stmt within is) ∙ so_far.tally_is);
      sees = further_on first sight next so_far.sees here.sees;
    }

-- ---- parts of a `foreach`

pub turn_names : (sources : NameSources) (sight inner : Sight) (tally on : Tally) (old new : List ReadName) (variable : Name) (body : Braces)
    → inner ≡ with_turn sight variable.text tally.turns → on ≡ turn_more tally
    → new ≡ old ++ block_names sources inner on body.statements
    → new ≡ old ++ block_names sources (with_turn sight variable.text tally.turns) (turn_more tally) body.statements
turn_names sources sight inner tally on old new variable body inner_is on_is body_read =
    body_read
    ∙ (ap (λ s. old ++ block_names sources s on body.statements) inner_is
    ∙ ap (λ t. old ++ block_names sources (with_turn sight variable.text tally.turns) t body.statements) on_is)

pub turn_tally : (tally on last : Tally) (body : Braces) → on ≡ turn_more tally → last ≡ tallied on body.statements
    → last ≡ tallied (turn_more tally) body.statements
turn_tally tally on last body on_is last_is = last_is ∙ ap (λ t. tallied t body.statements) on_is

pub turn_forgotten : (sight inner after new : Sight) (until : SightUntil) (name : List ℕ) (number : ℕ)
    → until ≡ sight_until sight → inner ≡ with_turn sight name number → after ≡ inner → new ≡ cut_sight after until → new ≡ sight
turn_forgotten sight inner after new until name number until_is inner_is after_is new_is =
    forgotten sight after new until until_is (subst (SeesFurther sight) (sym (after_is ∙ inner_is)) (further_turn sight name number)) new_is
