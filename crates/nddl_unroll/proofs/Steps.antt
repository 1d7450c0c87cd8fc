-- Statements with blocks, and whole rules.
use Rattle.std.proofs.Common.{◌≡◌, ℕ, List, [], sym, ◌∙◌, ap, subst}
use Rattle.std.specs.Prelude.{Option, Some, None, Result, Ok, Err, OnOk, IfOk, IsErr, MatchResult}
use Rattle.std.specs.Option.{option_map_or}
use Rattle.model_core.specs.declared.rule.Entry.TheVariants as entries
use Rattle.model_core.specs.declared.rule.Guard.{Guard}
use Rattle.model_core.specs.declared.rule.Rule.{Rule}
use Rattle.model_core.specs.Block.{plain_entries}
use Rattle.model_core.specs.Entries.{Entries}
use Rattle.nddl_ast.specs.declared.statement.Condition.{Condition}
use Rattle.nddl_ast.specs.declared.statement.Stmt.{Stmt}
use Rattle.nddl_ast.specs.Block.{with_else, with_statement}
use Rattle.nddl_ast.specs.Tree.{Statements, Braces}
use Rattle.nddl_terms.specs.declared.growth.Growth.{Growth}
use Rattle.nddl_terms.specs.declared.stands.Made.{Made}
use Rattle.nddl_terms.specs.Growth.{with_last_entry}
use Rattle.nddl_terms.specs.Readings.{Readings}
use Rattle.nddl_lower.specs.Arguments.{condition_guard}
use Rattle.nddl_unroll.specs.Blocks.{back_in, filled_block, in_block, unrolled}
use Rattle.nddl_unroll.specs.Rules.{grown_rule}

-- what the rule has behind a statement goes on with those behind it
pub goes_on_at : {X E : Type 0} (reading : Readings) (turns : List Made) (same stmt : Stmt) (old new : Growth) (result : Result X E)
    → stmt ≡ same
    → OnOk result ((more : Statements) → unrolled reading turns more new ≡ unrolled reading turns (with_statement same more) old)
    → OnOk result ((more : Statements) → unrolled reading turns more new ≡ unrolled reading turns (with_statement stmt more) old)
goes_on_at reading turns same stmt old new (Err e) is said = tt
goes_on_at reading turns same stmt old new (Ok done) is said = λ more.
    said more ∙ ap (λ (s : Stmt). unrolled reading turns (with_statement s more) old) (sym is)

-- a guard and its blocks
pub branch_on : {X E : Type 0} (reading : Readings) (turns : List Made) (at : ℕ) (condition : Condition) (then : Braces) (otherwise : Option Braces)
    (one two three four five : Growth) (guard : Guard) (then_block else_block : Entries) (result : Result X E)
    → two ≡ (condition_guard reading turns condition one).growth → guard ≡ (condition_guard reading turns condition one).guard
    → three ≡ back_in two.entries (unrolled reading turns then.statements (in_block two))
    → then_block ≡ filled_block (unrolled reading turns then.statements (in_block two))
    → four ≡ option_map_or (λ block. back_in three.entries (unrolled reading turns block.statements (in_block three))) otherwise three
    → else_block ≡ option_map_or (λ block. filled_block (unrolled reading turns block.statements (in_block three))) otherwise (plain_entries [])
    → OnOk result (five ≡ with_last_entry (entries.Branch guard then_block else_block) four)
    → OnOk result ((more : Statements)
    → unrolled reading turns more five ≡ unrolled reading turns (with_else at condition then otherwise more) one)
branch_on reading turns at condition then otherwise one two three four five guard then_block else_block (Err e)
    two_is guard_is three_is then_is four_is else_is five_is = tt
branch_on reading turns at condition then None one two three four five guard then_block else_block (Ok done)
    two_is guard_is three_is then_is four_is else_is five_is = λ more.
    let filled : Growth → Growth = λ growth. unrolled reading turns then.statements (in_block growth) in
    let branched : Growth → Guard → Growth = λ growth test.
    with_last_entry (entries.Branch test (filled_block (filled growth)) (plain_entries [])) (back_in growth.entries (filled growth)) in
    let whole : five ≡ branched two guard =
    five_is ∙ (λ i. with_last_entry (entries.Branch guard (then_is i) (else_is i)) ((four_is ∙ three_is) i)) in
    ap (unrolled reading turns more) (whole ∙ (λ i. branched (two_is i) (guard_is i)))
branch_on reading turns at condition then (Some block) one two three four five guard then_block else_block (Ok done)
    two_is guard_is three_is then_is four_is else_is five_is = λ more.
    let filled : Growth → Growth = λ growth. unrolled reading turns then.statements (in_block growth) in
    let other : Growth → Growth = λ growth. unrolled reading turns block.statements (in_block growth) in
    let branched : Growth → Guard → Growth = λ growth test.
    with_last_entry (entries.Branch test (filled_block (filled growth)) (filled_block (other (filled growth))))
    (back_in growth.entries (other (filled growth))) in
    let outer : five ≡ with_last_entry (entries.Branch guard (filled_block (filled two)) (filled_block (other three))) (back_in three.entries (other three)) =
    five_is ∙ (λ i. with_last_entry (entries.Branch guard (then_is i) (else_is i)) (four_is i)) in
    let inner : with_last_entry (entries.Branch guard (filled_block (filled two)) (filled_block (other three))) (back_in three.entries (other three))
    ≡ branched two guard =
    λ i. with_last_entry (entries.Branch guard (filled_block (filled two)) (filled_block (other (three_is i))))
    (back_in (three_is i).entries (other (three_is i))) in
    ap (unrolled reading turns more) (outer ∙ (inner ∙ (λ i. branched (two_is i) (guard_is i))))

-- ---- rules

-- the rule is known where all went well
pub rule_known : {X E : Type 0} (Fill : Growth → Growth) (start begin growth : Growth) (done : Result X E) (result : Result Rule E)
    → begin ≡ start → MatchResult done (λ _. result ≡ Ok (grown_rule growth)) (λ _. IsErr result) → OnOk done (growth ≡ Fill begin)
    → IfOk result (λ rule. rule ≡ grown_rule (Fill start))
rule_known Fill start begin growth (Ok x) result begin_is is filled =
    subst (λ (found : Result Rule _). IfOk found (λ rule. rule ≡ grown_rule (Fill start))) (sym is)
    (ap grown_rule (filled ∙ ap Fill begin_is))
rule_known Fill start begin growth (Err e) (Ok rule) begin_is is filled = absurd (cc)
rule_known Fill start begin growth (Err e) (Err none) begin_is is filled = tt
