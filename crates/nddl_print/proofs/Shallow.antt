-- Trees that are the same have blocks nested equally deep.
use Rattle.std.proofs.Common.{◌≡◌, ℕ, zero, suc, Option, Some, None, List, [], ◌∷◌, refl}
use Rattle.nddl_grammar.specs.Exact.{earlier}
use Rattle.nddl_grammar.proofs.Lists.{earlier_none}
use Rattle.nddl_ast.specs.declared.declaration.Decl.{Decl}
use Rattle.nddl_ast.specs.declared.declaration.Decl.TheVariants as decls
use Rattle.nddl_ast.specs.Tree.{Statements, Nothing, Declares, Calls, Asks, Tests, Chooses, Repeats}
use Rattle.nddl_ast.specs.Same.{AllSame, SameStatements, SameDecl}
use Rattle.nddl_grammar.specs.Grammar.{deep_enclosed, deep_statements}
use Rattle.nddl_parser.specs.Grammar.{deep_decl, deep_text}

earlier_parts : (one other : Option ℕ) → earlier one other ≡ None → (one ≡ None) × (other ≡ None)
earlier_parts None other none = (refl, none)
earlier_parts (Some at) other none = absurd cc

enclosed : (left at place : ℕ) (inside others : ℕ → Option ℕ) → ((n : ℕ) → inside n ≡ None → others n ≡ None) → deep_enclosed left at inside ≡ None → deep_enclosed left place others ≡ None
enclosed zero at place inside others more none = absurd cc
enclosed (suc left) at place inside others more none = more left none

shallow_statements : (one other : Statements) → SameStatements one other → (left : ℕ) → deep_statements one left ≡ None → deep_statements other left ≡ None
shallow_statements Nothing Nothing same left none = refl
shallow_statements (Declares v more) (Declares w others) same left none = shallow_statements more others same.1 left none
shallow_statements (Calls c more) (Calls d others) same left none = shallow_statements more others same.1 left none
shallow_statements (Asks a more) (Asks b others) same left none = shallow_statements more others same.1 left none
shallow_statements (Tests at condition then_at then more) (Tests at' condition' then_at' then' others) same left none =
    let parts = earlier_parts _ _ none in
    earlier_none _ _ (enclosed left then_at then_at' (deep_statements then) (deep_statements then') (shallow_statements then then' same.0.1) parts.0) (shallow_statements more others same.1 left parts.1)
shallow_statements (Chooses at condition then_at then else_at else more) (Chooses at' condition' then_at' then' else_at' else' others) same left none =
    let parts = earlier_parts _ _ none in
    let blocks = earlier_parts _ _ parts.0 in
    earlier_none _ _
    (earlier_none _ _ (enclosed left then_at then_at' (deep_statements then) (deep_statements then') (shallow_statements then then' same.0.1) blocks.0)
    (enclosed left else_at else_at' (deep_statements else) (deep_statements else') (shallow_statements else else' same.0.2) blocks.1))
    (shallow_statements more others same.1 left parts.1)
shallow_statements (Repeats at name class body_at body more) (Repeats at' name' class' body_at' body' others) same left none =
    let parts = earlier_parts _ _ none in
    earlier_none _ _ (enclosed left body_at body_at' (deep_statements body) (deep_statements body') (shallow_statements body body' same.0.2) parts.0) (shallow_statements more others same.1 left parts.1)
shallow_statements one other same left none = absurd same

shallow_decl : (left : ℕ) (one other : Decl) → SameDecl one other → deep_decl left one ≡ None → deep_decl left other ≡ None
shallow_decl left (decls.Rule class predicate body) (decls.Rule class' predicate' body') same none =
    enclosed left body.at body'.at (deep_statements body.statements) (deep_statements body'.statements) (shallow_statements body.statements body'.statements same.2) none
shallow_decl left (decls.Rule class predicate body) other same none = absurd same
shallow_decl left one (decls.Rule class predicate body) same none = absurd same
shallow_decl left one other same none = refl

-- no block is nested too deep in a tree that is the same
pub shallow_text : (left : ℕ) (one other : List Decl) → AllSame SameDecl one other → deep_text left one ≡ None → deep_text left other ≡ None
shallow_text left [] [] same none = refl
shallow_text left [] (y ∷ ys) same none = absurd same
shallow_text left (x ∷ xs) [] same none = absurd same
shallow_text left (x ∷ xs) (y ∷ ys) same none =
    let parts = earlier_parts (deep_decl left x) (deep_text left xs) none in
    earlier_none _ _ (shallow_decl left x y same.0 parts.0) (shallow_text left xs ys same.1 parts.1)
