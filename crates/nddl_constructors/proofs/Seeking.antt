-- The first constructor along a line, one class after another.
use Rattle.std.proofs.Common.{◌≡◌, ℕ, zero, suc, ◌+◌, ◌-◌, ◌<◌, ◌≤◌, List, sym, ◌∙◌, ap, arith}
use Rattle.std.specs.Prelude.{Option, Some, None}
use Rattle.std.specs.Option.{option_or}
use Rattle.nddl_ast.specs.declared.declaration.Decl.{Decl}
use Rattle.nddl_ast.specs.declared.declaration.Typed.{Typed}
use Rattle.nddl_symbols.specs.declared.declared.Declared.{Declared}
use Rattle.eu_forest.specs.Ancestors.{line_from, parent_in}
use Rattle.nddl_hierarchy.specs.Decls.{members_of}
use Rattle.nddl_constructors.specs.Wants.{line_formals, own_formals}

module _ (names : List Declared) (program : List Decl) (parents : List (Option ℕ)) where
  -- what is found along what the line goes on with
  abbrev left : ℕ → Option ℕ → Option (List Typed)
  left levels next = line_formals names program (line_from levels parents next)

  abbrev own : ℕ → Option (List Typed)
  own here = own_formals (members_of names program here)

  left_here : (levels here : ℕ) → 0 < levels
      → left levels (Some here) ≡ option_or (own here) (left (levels - 1) (parent_in parents here))
  left_here zero here some = absurd (let never : ⊥ = omega arith in never)
  left_here (suc levels) here some =
      let less : levels ≡ suc levels - 1 = omega arith in
      ap (λ n. option_or (own here) (left n (parent_in parents here))) less

  -- one class more has none
  pub formals_step : (levels counter here : ℕ) (whole : Option (List Typed)) → counter < levels
      → left (levels - counter) (Some here) ≡ whole → own here ≡ None
      → left (levels - (counter + 1)) (parent_in parents here) ≡ whole
  formals_step levels counter here whole below so_far none =
      let rest = parent_in parents here in
      let less : levels - counter - 1 ≡ levels - (counter + 1) = omega arith in
      sym
      (left_here (levels - counter) here (omega arith)
      ∙ (ap (λ found. option_or found (left (levels - counter - 1) rest)) none ∙ ap (λ n. left n rest) less))
      ∙ so_far

  -- no levels are left
  pub formals_end : (levels counter : ℕ) (next : Option ℕ) (whole : Option (List Typed)) → levels ≤ counter
      → left (levels - counter) next ≡ whole → None ≡ whole
  formals_end levels counter next whole past so_far =
      let none : 0 ≡ levels - counter = omega arith in
      ap (λ n. left n next) none ∙ so_far
