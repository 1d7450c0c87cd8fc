-- Statements that are dealt with one after another.
use Rattle.std.proofs.Common.{◌≡◌, ℕ, ◌+◌, ◌<◌, List, [], ◌∷◌, ◌++◌, length, drop, get_or, map, Bor, refl, sym, ◌∙◌, ap, subst}
use Rattle.std.specs.Prelude.{Option, Some, None, Result, Ok, Err, OnOk}
use Rattle.std.specs.List.{flat_map}
use Rattle.std.specs.Option.{option_map_or}
use Rattle.std.proofs.lemmas.List.{append_assoc, drop_more}
use Rattle.nddl_ast.specs.declared.declaration.Decl.{Decl}
use Rattle.nddl_ast.specs.declared.declaration.Member.{Member}
use Rattle.nddl_ast.specs.declared.name.Name.{Name}
use Rattle.nddl_ast.specs.declared.statement.Ask.{Ask}
use Rattle.nddl_ast.specs.declared.statement.Call.{Call}
use Rattle.nddl_ast.specs.declared.statement.Condition.{Condition}
use Rattle.nddl_ast.specs.declared.statement.Stmt.{Stmt}
use Rattle.nddl_ast.specs.declared.statement.Variable.{Variable}
use Rattle.nddl_ast.specs.Block.{statements_of, with_else, with_statement}
use Rattle.nddl_ast.specs.Tree.{Statements, Nothing, Declares, Calls, Asks, Repeats, Braces}
use Rattle.nddl_symbols.specs.declared.fault.Fault.{Fault}
use Rattle.nddl_symbols.specs.Finding.{earliest_fault}
use Rattle.eu_index.specs.Index.{Noted, with_noted}
use Rattle.nddl_symbols.proofs.Earliest.{earliest_append}
use Rattle.nddl_hierarchy.specs.Facts.{Facts}
use Rattle.nddl_resolve.specs.Paths.{Surroundings}
use Rattle.nddl_resolve.specs.declared.denoted.Denoted.{Denoted}
use Rattle.nddl_resolve.specs.Following.{Understood, or_faulty}
use Rattle.nddl_rule_check.specs.Arguments.{condition_faults, init_faults}
use Rattle.nddl_rule_check.specs.Calls.{rule_call_faults}
use Rattle.nddl_rule_check.specs.Slots.{ask_faults, labelled_slot}
use Rattle.nddl_symbols.specs.Repeats.{repeated_fault}
use Rattle.nddl_rule_check.specs.declared.visible.SeenUntil.{SeenUntil}
use Rattle.nddl_rule_check.specs.Blocks.{block_faults, local_faults, local_value, slot_faults, slot_value, turn_faults, turn_value}
use Rattle.nddl_rule_check.specs.Rules.{all_rule_faults, decl_rule_faults, member_rule_faults, members_rule_faults}
use Rattle.nddl_rule_check.specs.Seeing.{SeesMore, seen_until, until_of, seeing_label, seeing_local, seeing_turn}
use Rattle.nddl_rule_check.specs.Types.{local_type_faults}
use Rattle.nddl_rule_check.proofs.Seeing.{forgotten, sees_label, sees_local, sees_same, sees_turn}

-- the item that is read, and those behind it
dropped : {X : Type 0} (xs : List X) (i : ℕ) (x : X) → i < length xs → x ≡ get_or xs i x → x ∷ drop (i + 1) xs ≡ drop i xs
dropped xs i x within is = ap (λ y. y ∷ drop (i + 1) xs) is ∙ sym (drop_more xs i x within)

-- some faults have been noted, and then others are the rest
noted_on : (some rest others : List Fault) (old new : Option Fault)
    → new ≡ earliest_fault old some → others ≡ rest → earliest_fault new others ≡ earliest_fault old (some ++ rest)
noted_on some rest others old new noted others_is =
    ap (earliest_fault new) others_is ∙ (ap (λ o. earliest_fault o rest) noted ∙ sym (earliest_append old some rest))

-- some faults have been noted, and then others
pub noted_both : (some others : List Fault) (one two three : Option Fault)
    → two ≡ earliest_fault one some → three ≡ earliest_fault two others → three ≡ earliest_fault one (some ++ others)
noted_both some others one two three some_noted others_noted =
    others_noted ∙ (ap (λ o. earliest_fault o others) some_noted ∙ sym (earliest_append one some others))

-- the same with three lists
three_on : (one two three rest : List Fault) (old new : Option Fault)
    → new ≡ earliest_fault old (one ++ (two ++ three)) → earliest_fault new rest ≡ earliest_fault old (one ++ (two ++ (three ++ rest)))
three_on one two three rest old new noted =
    ap (λ o. earliest_fault o rest) noted
    ∙ (sym (earliest_append old (one ++ (two ++ three)) rest)
    ∙ ap (earliest_fault old) (append_assoc one (two ++ three) rest ∙ ap (λ l. one ++ l) (append_assoc two three rest)))

-- ---- single statements before others

-- a local
pub declared_on : {X E : Type 0} (facts : Facts) (decl : ℕ) (around next : Surroundings) (own further : Noted) (variable : Variable)
    (old new : Option Fault) (result : Result X E)
    → OnOk result (new ≡ earliest_fault old (local_faults facts around decl own variable))
    → OnOk result (next ≡ seeing_local around variable.name (local_value facts variable))
    → OnOk result (further ≡ with_noted own variable.name.text 0)
    → OnOk result ((more : Statements) → earliest_fault new (block_faults facts decl next further more)
    ≡ earliest_fault old (block_faults facts decl around own (Declares variable more)))
declared_on facts decl around next own further variable old new (Err e) noted seen named = tt
declared_on facts decl around next own further variable old new (Ok done) noted seen named = λ more.
    noted_on (local_faults facts around decl own variable)
    (block_faults facts decl (seeing_local around variable.name (local_value facts variable)) (with_noted own variable.name.text 0) more)
    (block_faults facts decl next further more) old new noted
    (ap (λ a. block_faults facts decl a further more) seen
    ∙ ap (λ o. block_faults facts decl (seeing_local around variable.name (local_value facts variable)) o more) named)

-- a slot with a label
pub asked_on : {X E : Type 0} (facts : Facts) (decl : ℕ) (around next : Surroundings) (own further : Noted) (ask : Ask)
    (old new : Option Fault) (result : Result X E)
    → OnOk result (new ≡ earliest_fault old (slot_faults facts around decl own ask))
    → OnOk result (next ≡ seeing_label around ask.label (slot_value facts around ask))
    → OnOk result (further ≡ with_noted own ask.label.text 0)
    → OnOk result ((more : Statements) → earliest_fault new (block_faults facts decl next further more)
    ≡ earliest_fault old (block_faults facts decl around own (Asks ask more)))
asked_on facts decl around next own further ask old new (Err e) noted seen named = tt
asked_on facts decl around next own further ask old new (Ok done) noted seen named = λ more.
    noted_on (slot_faults facts around decl own ask)
    (block_faults facts decl (seeing_label around ask.label (slot_value facts around ask)) (with_noted own ask.label.text 0) more)
    (block_faults facts decl next further more) old new noted
    (ap (λ a. block_faults facts decl a further more) seen
    ∙ ap (λ o. block_faults facts decl (seeing_label around ask.label (slot_value facts around ask)) o more) named)

-- a call
pub called_on : {X E : Type 0} (facts : Facts) (decl : ℕ) (around lent : Surroundings) (own : Noted) (call : Call)
    (old new : Option Fault) (result : Result X E)
    → lent ≡ around
    → OnOk result (new ≡ earliest_fault old (rule_call_faults facts lent decl call))
    → OnOk result ((more : Statements) → earliest_fault new (block_faults facts decl around own more)
    ≡ earliest_fault old (block_faults facts decl around own (Calls call more)))
called_on facts decl around lent own call old new (Err e) lent_is noted = tt
called_on facts decl around lent own call old new (Ok done) lent_is noted = λ more.
    noted_on (rule_call_faults facts around decl call) (block_faults facts decl around own more) (block_faults facts decl around own more)
    old new (noted ∙ ap (λ a. earliest_fault old (rule_call_faults facts a decl call)) lent_is) refl

-- an `if`
pub chosen_on : {X E : Type 0} (facts : Facts) (decl : ℕ) (around next : Surroundings) (own : Noted) (at : ℕ) (condition : Condition)
    (then : Braces) (otherwise : Option Braces) (old new : Option Fault) (result : Result X E)
    → OnOk result (new ≡ earliest_fault old (condition_faults facts around decl condition
    ++ (block_faults facts decl around [] then.statements
    ++ option_map_or (λ block. block_faults facts decl around [] block.statements) otherwise [])))
    → OnOk result (next ≡ around)
    → OnOk result ((more : Statements) → earliest_fault new (block_faults facts decl next own more)
    ≡ earliest_fault old (block_faults facts decl around own (with_else at condition then otherwise more)))
chosen_on facts decl around next own at condition then otherwise old new (Err e) noted seen = tt
chosen_on facts decl around next own at condition then otherwise old new (Ok done) noted seen = λ more.
    ap (λ a. earliest_fault new (block_faults facts decl a own more)) seen ∙ joined otherwise noted more where
      joined : (otherwise : Option Braces)
          → new ≡ earliest_fault old (condition_faults facts around decl condition
          ++ (block_faults facts decl around [] then.statements
          ++ option_map_or (λ block. block_faults facts decl around [] block.statements) otherwise []))
          → (more : Statements) → earliest_fault new (block_faults facts decl around own more)
          ≡ earliest_fault old (block_faults facts decl around own (with_else at condition then otherwise more))
      joined None is more = three_on (condition_faults facts around decl condition) (block_faults facts decl around [] then.statements) [] (block_faults facts decl around own more) old new is
      joined (Some block) is more =
          three_on (condition_faults facts around decl condition) (block_faults facts decl around [] then.statements)
          (block_faults facts decl around [] block.statements) (block_faults facts decl around own more) old new is

-- a `foreach`
pub turned_on : {X E : Type 0} (facts : Facts) (decl : ℕ) (around next : Surroundings) (own : Noted) (at : ℕ) (variable class : Name)
    (body : Braces) (old new : Option Fault) (result : Result X E)
    → OnOk result (new ≡ earliest_fault old (turn_faults facts decl class
    ++ block_faults facts decl (seeing_turn around variable (turn_value facts class)) [] body.statements))
    → OnOk result (next ≡ around)
    → OnOk result ((more : Statements) → earliest_fault new (block_faults facts decl next own more)
    ≡ earliest_fault old (block_faults facts decl around own (Repeats at variable class body.at body.statements more)))
turned_on facts decl around next own at variable class body old new (Err e) noted seen = tt
turned_on facts decl around next own at variable class body old new (Ok done) noted seen = λ more.
    let inside = block_faults facts decl (seeing_turn around variable (turn_value facts class)) [] body.statements in
    let behind = block_faults facts decl around own more in
    ap (λ a. earliest_fault new (block_faults facts decl a own more)) seen
    ∙ (ap (λ o. earliest_fault o behind) noted
    ∙ (sym (earliest_append old (turn_faults facts decl class ++ inside) behind)
    ∙ ap (earliest_fault old) (append_assoc (turn_faults facts decl class) inside behind)))

-- what is said of a statement holds of the one that it is
pub goes_on_at : {X E : Type 0} (facts : Facts) (decl : ℕ) (around next : Surroundings) (own further : Noted) (same stmt : Stmt)
    (old new : Option Fault) (result : Result X E)
    → stmt ≡ same
    → OnOk result ((more : Statements) → earliest_fault new (block_faults facts decl next further more)
    ≡ earliest_fault old (block_faults facts decl around own (with_statement same more)))
    → OnOk result ((more : Statements) → earliest_fault new (block_faults facts decl next further more)
    ≡ earliest_fault old (block_faults facts decl around own (with_statement stmt more)))
goes_on_at facts decl around next own further same stmt old new (Err e) is said = tt
goes_on_at facts decl around next own further same stmt old new (Ok done) is said = λ more.
    said more ∙ ap (λ (s : Stmt). earliest_fault old (block_faults facts decl around own (with_statement s more))) (sym is)

-- ---- what is seen behind single statements

pub sees_if_same : {X E : Type 0} (around next : Surroundings) (result : Result X E) → OnOk result (next ≡ around) → OnOk result (SeesMore around next)
sees_if_same around next (Err e) seen = tt
sees_if_same around next (Ok done) seen = subst (SeesMore around) (sym seen) (sees_same around)

pub sees_declared : {X E : Type 0} (facts : Facts) (around next : Surroundings) (variable : Variable) (result : Result X E)
    → OnOk result (next ≡ seeing_local around variable.name (local_value facts variable)) → OnOk result (SeesMore around next)
sees_declared facts around next variable (Err e) seen = tt
sees_declared facts around next variable (Ok done) seen =
    subst (SeesMore around) (sym seen) (sees_local around variable.name (local_value facts variable))

pub sees_asked : {X E : Type 0} (facts : Facts) (around next : Surroundings) (ask : Ask) (result : Result X E)
    → OnOk result (next ≡ seeing_label around ask.label (slot_value facts around ask)) → OnOk result (SeesMore around next)
sees_asked facts around next ask (Err e) seen = tt
sees_asked facts around next ask (Ok done) seen =
    subst (SeesMore around) (sym seen) (sees_label around ask.label (slot_value facts around ask))

pub sees_anyway : {X E : Type 0} (around : Surroundings) (result : Result X E) → OnOk result (SeesMore around around)
sees_anyway around (Err e) = tt
sees_anyway around (Ok done) = sees_same around

-- ---- statements of a block

-- one statement more has been dealt with
pub block_step : (facts : Facts) (decl : ℕ) (stmts : List Stmt) (i : ℕ) (stmt : Stmt) (around next : Surroundings) (own further : Noted) (old new whole : Option Fault)
    → i < length stmts → stmt ≡ get_or stmts i stmt
    → ((more : Statements) → earliest_fault new (block_faults facts decl next further more)
    ≡ earliest_fault old (block_faults facts decl around own (with_statement stmt more)))
    → earliest_fault old (block_faults facts decl around own (statements_of (drop i stmts))) ≡ whole
    → earliest_fault new (block_faults facts decl next further (statements_of (drop (i + 1) stmts))) ≡ whole
block_step facts decl stmts i stmt around next own further old new whole within is goes_on so_far =
    goes_on (statements_of (drop (i + 1) stmts))
    ∙ (ap (λ left. earliest_fault old (block_faults facts decl around own (statements_of left))) (dropped stmts i stmt within is) ∙ so_far)

-- ---- declarations and members

-- one declaration more has been dealt with
pub rules_step : (facts : Facts) (decls : List (Bor Decl)) (i : ℕ) (decl : Bor Decl) (old new whole : Option Fault)
    → i < length decls → decl ≡ get_or decls i decl → new ≡ earliest_fault old (decl_rule_faults facts i decl.now)
    → earliest_fault old (all_rule_faults facts i (map (λ one. one.now) (drop i decls))) ≡ whole
    → earliest_fault new (all_rule_faults facts (i + 1) (map (λ one. one.now) (drop (i + 1) decls))) ≡ whole
rules_step facts decls i decl old new whole within is noted so_far =
    let rest = all_rule_faults facts (i + 1) (map (λ (one : Bor Decl). one.now) (drop (i + 1) decls)) in
    ap (λ o. earliest_fault o rest) noted
    ∙ (sym (earliest_append old (decl_rule_faults facts i decl.now) rest)
    ∙ (ap (λ left. earliest_fault old (all_rule_faults facts i (map (λ (one : Bor Decl). one.now) left))) (dropped decls i decl within is) ∙ so_far))

-- one member more
pub members_step : (facts : Facts) (decl entry : ℕ) (members : List Member) (i : ℕ) (member : Member) (old new whole : Option Fault)
    → i < length members → member ≡ get_or members i member → new ≡ earliest_fault old (member_rule_faults facts decl entry i member)
    → earliest_fault old (members_rule_faults facts decl entry i (drop i members)) ≡ whole
    → earliest_fault new (members_rule_faults facts decl entry (i + 1) (drop (i + 1) members)) ≡ whole
members_step facts decl entry members i member old new whole within is noted so_far =
    let rest = members_rule_faults facts decl entry (i + 1) (drop (i + 1) members) in
    ap (λ o. earliest_fault o rest) noted
    ∙ (sym (earliest_append old (member_rule_faults facts decl entry i member) rest)
    ∙ (ap (λ left. earliest_fault old (members_rule_faults facts decl entry i left)) (dropped members i member within is) ∙ so_far))

-- ---- parts of single statements

-- what an `if` tests and its blocks have been dealt with
pub chosen_step : {X E : Type 0} (facts : Facts) (decl : ℕ) (around lent next : Surroundings) (condition : Condition) (then : Braces) (otherwise : Option Braces)
    (one two three four : Option Fault) (result : Result X E)
    → lent ≡ around → two ≡ earliest_fault one (condition_faults facts lent decl condition)
    → three ≡ earliest_fault two (block_faults facts decl around [] then.statements) → next ≡ around
    → OnOk result (four ≡ earliest_fault three (option_map_or (λ block. block_faults facts decl next [] block.statements) otherwise []))
    → OnOk result (four ≡ earliest_fault one (condition_faults facts around decl condition
    ++ (block_faults facts decl around [] then.statements
    ++ option_map_or (λ block. block_faults facts decl around [] block.statements) otherwise [])))
chosen_step facts decl around lent next condition then otherwise one two three four (Err e) lent_is tested then_is next_is else_is = tt
chosen_step facts decl around lent next condition then otherwise one two three four (Ok done) lent_is tested then_is next_is else_is =
    let behind = option_map_or (λ (block : Braces). block_faults facts decl around [] block.statements) otherwise [] in
    noted_both (condition_faults facts around decl condition) (block_faults facts decl around [] then.statements ++ behind) one two four
    (tested ∙ ap (λ a. earliest_fault one (condition_faults facts a decl condition)) lent_is)
    (noted_both (block_faults facts decl around [] then.statements) behind two three four then_is
    (else_is ∙ ap (λ a. earliest_fault three (option_map_or (λ (block : Braces). block_faults facts decl a [] block.statements) otherwise [])) next_is))

pub seen_still : {X E : Type 0} (around next last : Surroundings) (result : Result X E)
    → next ≡ around → OnOk result (last ≡ next) → OnOk result (last ≡ around)
seen_still around next last (Err e) next_is last_is = tt
seen_still around next last (Ok done) next_is last_is = last_is ∙ next_is

-- the class and the block of a `foreach` have been dealt with
pub turned_step : (facts : Facts) (decl : ℕ) (around inner : Surroundings) (variable class : Name) (meant : Denoted) (body : Braces)
    (one two three : Option Fault)
    → two ≡ earliest_fault one (turn_faults facts decl class) → meant ≡ turn_value facts class
    → inner ≡ seeing_turn around variable meant → three ≡ earliest_fault two (block_faults facts decl inner [] body.statements)
    → three ≡ earliest_fault one (turn_faults facts decl class
    ++ block_faults facts decl (seeing_turn around variable (turn_value facts class)) [] body.statements)
turned_step facts decl around inner variable class meant body one two three class_is meant_is inner_is body_is =
    noted_both (turn_faults facts decl class) (block_faults facts decl (seeing_turn around variable (turn_value facts class)) [] body.statements)
    one two three class_is
    (body_is ∙ ap (λ a. earliest_fault two (block_faults facts decl a [] body.statements)) (inner_is ∙ ap (seeing_turn around variable) meant_is))

-- the turn is forgotten
pub turn_forgotten : (around inner after new : Surroundings) (until : SeenUntil) (variable : Name) (meant : Denoted)
    → until ≡ until_of around → inner ≡ seeing_turn around variable meant → after ≡ inner → new ≡ seen_until after until → new ≡ around
turn_forgotten around inner after new until variable meant until_is inner_is after_is new_is =
    forgotten around after new until until_is (subst (SeesMore around) (sym (after_is ∙ inner_is)) (sees_turn around variable meant)) new_is

-- a local's type, its name and what it begins as have been dealt with
pub local_step : {X E : Type 0} (facts : Facts) (decl : ℕ) (around typed lent : Surroundings) (own : Noted) (variable : Variable)
    (one two three four : Option Fault) (result : Result X E)
    → typed ≡ around → two ≡ earliest_fault one (local_type_faults facts typed decl variable.declared)
    → three ≡ earliest_fault two (repeated_fault decl own variable.name) → lent ≡ around
    → four ≡ earliest_fault three (init_faults facts lent decl variable.declared variable.init)
    → OnOk result (four ≡ earliest_fault one (local_faults facts around decl own variable))
local_step facts decl around typed lent own variable one two three four (Err e) typed_is type_is name_is lent_is init_is = tt
local_step facts decl around typed lent own variable one two three four (Ok done) typed_is type_is name_is lent_is init_is =
    let init = init_faults facts around decl variable.declared variable.init in
    noted_both (local_type_faults facts around decl variable.declared) (repeated_fault decl own variable.name ++ init) one two four
    (type_is ∙ ap (λ a. earliest_fault one (local_type_faults facts a decl variable.declared)) typed_is)
    (noted_both (repeated_fault decl own variable.name) init two three four name_is
    (init_is ∙ ap (λ a. earliest_fault three (init_faults facts a decl variable.declared variable.init)) lent_is))

-- a slot's relation, its path and its label have been dealt with
pub slot_step : {X E : Type 0} (facts : Facts) (decl : ℕ) (around lent : Surroundings) (own : Noted) (ask : Ask)
    (one two three : Option Fault) (result : Result X E)
    → lent ≡ around → two ≡ earliest_fault one (ask_faults facts lent decl ask)
    → three ≡ earliest_fault two (repeated_fault decl own ask.label)
    → OnOk result (three ≡ earliest_fault one (slot_faults facts around decl own ask))
slot_step facts decl around lent own ask one two three (Err e) lent_is ask_is name_is = tt
slot_step facts decl around lent own ask one two three (Ok done) lent_is ask_is name_is =
    noted_both (ask_faults facts around decl ask) (repeated_fault decl own ask.label) one two three
    (ask_is ∙ ap (λ a. earliest_fault one (ask_faults facts a decl ask)) lent_is) name_is

-- the label is seen
pub slot_seen : {X E : Type 0} (facts : Facts) (around lent next : Surroundings) (ask : Ask) (found : Understood) (meant : Denoted) (result : Result X E)
    → lent ≡ around → found ≡ labelled_slot facts lent ask.path → meant ≡ or_faulty found
    → OnOk result (next ≡ seeing_label around ask.label meant) → OnOk result (next ≡ seeing_label around ask.label (slot_value facts around ask))
slot_seen facts around lent next ask found meant (Err e) lent_is found_is meant_is next_is = tt
slot_seen facts around lent next ask found meant (Ok done) lent_is found_is meant_is next_is =
    next_is ∙ ap (seeing_label around ask.label)
    (meant_is ∙ ap or_faulty (found_is ∙ ap (λ a. labelled_slot facts a ask.path) lent_is))

-- an `if` before other statements
pub tested_on : {X E : Type 0} (facts : Facts) (decl : ℕ) (around lent next last : Surroundings) (own : Noted) (at : ℕ) (condition : Condition)
    (then : Braces) (otherwise : Option Braces) (one two three four : Option Fault) (result : Result X E)
    → lent ≡ around → two ≡ earliest_fault one (condition_faults facts lent decl condition)
    → three ≡ earliest_fault two (block_faults facts decl around [] then.statements) → next ≡ around
    → OnOk result (four ≡ earliest_fault three (option_map_or (λ block. block_faults facts decl next [] block.statements) otherwise []))
    → OnOk result (last ≡ next)
    → OnOk result ((more : Statements) → earliest_fault four (block_faults facts decl last own more)
    ≡ earliest_fault one (block_faults facts decl around own (with_else at condition then otherwise more)))
tested_on facts decl around lent next last own at condition then otherwise one two three four result lent_is tested then_is next_is else_is last_is =
    chosen_on facts decl around last own at condition then otherwise one four result
    (chosen_step facts decl around lent next condition then otherwise one two three four result lent_is tested then_is next_is else_is)
    (seen_still around next last result next_is last_is)

pub sees_tested : {X E : Type 0} (around next last : Surroundings) (result : Result X E)
    → next ≡ around → OnOk result (last ≡ next) → OnOk result (SeesMore around last)
sees_tested around next last result next_is last_is = sees_if_same around last result (seen_still around next last result next_is last_is)
