-- How the readers of blocks go down.
use Rattle.std.proofs.Common.{◌≡◌, Bool, true, false, cond, ◌∙◌, List, ℕ, zero, suc, ◌-◌, ◌<◌, refl, ap, sym, arith}
use Rattle.eu_name.specs.declared.word.Reserved.TheVariants as keywords
use Rattle.nddl_grammar.specs.declared.sort.Sort.TheVariants as sorts
use Rattle.nddl_grammar.specs.Readers.{begins, is, mapped}
use Rattle.nddl_grammar.specs.Productions.{blocks, block, else_block, if_stmt, stmt, statements, lone, too_deep, braces, lone_if, if_with, block_with}
use Rattle.nddl_grammar.specs.Symbols.{PlainSymbol}

pub block_none : (left : ℕ) → left ≡ 0 → block left ≡ too_deep sorts.BraceOpen
unfolding block blocks
block_none left is = ap (λ (n : ℕ). (blocks n).0) is

block_suc : (n : ℕ) → block (suc n) ≡ braces n
unfolding block else_block blocks statements stmt braces
block_suc n = refl

pub block_some : (left : ℕ) → 0 < left → block left ≡ braces (left - 1)
block_some zero some = absurd (omega arith)
block_some (suc n) some = let one : suc n - 1 ≡ n = omega arith in block_suc n ∙ ap braces (sym one)

else_suc : (n : ℕ) (symbols : List PlainSymbol) → begins (is (sorts.Word keywords.If)) symbols ≡ true → else_block (suc n) symbols ≡ lone_if n symbols
unfolding block else_block blocks if_stmt lone_if
else_suc n symbols there = ap (λ (flag : Bool). cond flag (mapped lone (if_with (blocks n)) symbols) (block_with (blocks n) symbols)) there

pub else_some : (left : ℕ) (symbols : List PlainSymbol) → 0 < left → begins (is (sorts.Word keywords.If)) symbols ≡ true → else_block left symbols ≡ lone_if (left - 1) symbols
else_some zero symbols some there = absurd (omega arith)
else_some (suc n) symbols some there = let one : suc n - 1 ≡ n = omega arith in else_suc n symbols there ∙ ap (λ (k : ℕ). lone_if k symbols) (sym one)

pub else_deep : (left : ℕ) (symbols : List PlainSymbol) → left ≡ 0 → begins (is (sorts.Word keywords.If)) symbols ≡ true → else_block left symbols ≡ too_deep (sorts.Word keywords.If) symbols
unfolding else_block blocks
else_deep left symbols none there =
    ap (λ (n : ℕ). (blocks n).1 symbols) none ∙ ap (λ (flag : Bool). cond flag (too_deep (sorts.Word keywords.If) symbols) (too_deep sorts.BraceOpen symbols)) there

-- where no `if` comes, a block does
pub else_other : (left : ℕ) (symbols : List PlainSymbol) → begins (is (sorts.Word keywords.If)) symbols ≡ false → else_block left symbols ≡ block left symbols
unfolding block else_block blocks
else_other zero symbols other = ap (λ (flag : Bool). cond flag (too_deep (sorts.Word keywords.If) symbols) (too_deep sorts.BraceOpen symbols)) other
else_other (suc n) symbols other = ap (λ (flag : Bool). cond flag (mapped lone (if_with (blocks n)) symbols) (block_with (blocks n) symbols)) other
