-- Steps of loops that print: what is printed, and then what follows, is what is wanted.
use Rattle.std.proofs.Common.{◌≡◌, ℕ, suc, ◌+◌, ◌<◌, ◌≤◌, refl, sym, ap, ◌∙◌, List, [], ◌∷◌, ◌++◌, length, drop, get_or, append_assoc, add-one}
use Rattle.std.proofs.Math.Seq.{drop-cons}
use Rattle.std.proofs.Math.ListN.{drop_of_length-le}
use Rattle.std.proofs.lemmas.List.{append-nil}
use Rattle.nddl_ast.specs.declared.statement.Stmt.{Stmt}
use Rattle.nddl_ast.specs.declared.statement.Stmt.TheVariants.{Variable, Call, Ask, If, Foreach}
use Rattle.std.specs.Prelude.{Some, None}
use Rattle.nddl_ast.specs.Tree.{Statements, Nothing}
use Rattle.nddl_ast.specs.Block.{with_statement}
use Rattle.nddl_print.specs.Words.{Word, spaced}
use Rattle.nddl_print.specs.Canonical.{◌⌢◌, statements_words, variable_words, call_words, ask_words, if_words, braced}
use Rattle.nddl_print.proofs.Spaced.{spaced_then, spaced_none}

pub item_printed : {X : Type 0} (text : List X → List ℕ) (items : List X) (i : ℕ) (x : X) (first lines next start : List ℕ) → i < length items → x ≡ get_or items i x
    → text (x ∷ drop (i + 1) items) ≡ first ++ text (drop (i + 1) items) → next ≡ lines ++ first → lines ++ text (drop i items) ≡ start
    → next ++ text (drop (i + 1) items) ≡ start
item_printed text items i x first lines next start inside is more printed so_far =
    let rest = drop (i + 1) items in
    let split : drop i items ≡ x ∷ rest = drop-cons items i x inside ∙ (ap (λ y. y ∷ drop (suc i) items) (sym is) ∙ ap (λ n. x ∷ drop n items) (sym (add-one i))) in
    ap (λ front. front ++ text rest) printed ∙ (append_assoc lines first (text rest)
    ∙ (ap (λ back. lines ++ back) (sym more) ∙ (ap (λ left. lines ++ text left) (sym split) ∙ so_far)))

pub all_printed : {X : Type 0} (text : List X → List ℕ) (items : List X) (i : ℕ) (lines start : List ℕ) → length items ≤ i → text [] ≡ [] → lines ++ text (drop i items) ≡ start → lines ≡ start
all_printed text items i lines start past none so_far =
    sym (append-nil lines) ∙ (ap (λ back. lines ++ back) (sym none) ∙ (ap (λ left. lines ++ text left) (sym (drop_of_length-le items past)) ∙ so_far))

alone : (words : List Word) (more : List Word) → spaced (words ⌢ more) ≡ spaced (words ⌢ []) ++ spaced more
alone words more =
    spaced_then words more ∙ ap (λ front. front ++ spaced more) (sym (append-nil (spaced words)) ∙ (ap (λ back. spaced words ++ back) (sym spaced_none) ∙ sym (spaced_then words [])))

-- the first statement, and then the others
pub first_statement : (stmt : Stmt) (more : Statements) → spaced (statements_words (with_statement stmt more)) ≡ spaced (statements_words (with_statement stmt Nothing)) ++ spaced (statements_words more)
first_statement (Variable v) more = alone (variable_words v) (statements_words more)
first_statement (Call c) more = alone (call_words c) (statements_words more)
first_statement (Ask a) more = alone (ask_words a) (statements_words more)
first_statement (If at condition then None) more = alone (if_words condition ⌢ braced (statements_words then.statements)) (statements_words more)
first_statement (If at condition then (Some else)) more = alone _ (statements_words more)
first_statement (Foreach at name class body) more = alone _ (statements_words more)

-- the text of what is written between quotes
pub quoted_text : (start one two last inside : List ℕ) → one ≡ start ++ 34 ∷ [] → two ≡ one ++ inside → last ≡ two ++ (34 ∷ 32 ∷ [])
    → last ≡ start ++ ((34 ∷ (inside ++ 34 ∷ [])) ++ 32 ∷ [])
quoted_text start one two last inside p q r = r ∙ (ap (λ text. text ++ (34 ∷ 32 ∷ [])) (q ∙ ap (λ text. text ++ inside) p) ∙ simp append_assoc refl)

-- words printed after others
pub both_printed : (start one two : List ℕ) (words more : List Word) → one ≡ start ++ spaced words → two ≡ one ++ spaced more → two ≡ start ++ spaced (words ⌢ more)
both_printed start one two words more p q = q ∙ (ap (λ text. text ++ spaced more) p ∙ (append_assoc start (spaced words) (spaced more) ∙ ap (λ text. start ++ text) (sym (spaced_then words more))))
