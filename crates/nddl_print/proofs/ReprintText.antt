-- Declarations read back from their words.
use Rattle.std.proofs.Common.{◌≡◌, ℕ, Option, Some, None, List, [], ◌∷◌, refl, sym, subst}
use Rattle.eu_name.specs.declared.word.Reserved.TheVariants as keywords
use Rattle.nddl_grammar.specs.declared.sort.Sort.TheVariants as sorts
use Rattle.nddl_grammar.specs.Symbols.{PlainSymbol}
use Rattle.nddl_ast.specs.declared.name.Name.{Name}
use Rattle.nddl_ast.specs.declared.expression.Expr.{Expr}
use Rattle.nddl_ast.specs.declared.expression.Type as types
use Rattle.nddl_ast.specs.declared.expression.Init.{Init}
use Rattle.nddl_ast.specs.declared.declaration.Typed.{Typed}
use Rattle.nddl_ast.specs.declared.declaration.PredicatePart.{PredicatePart}
use Rattle.nddl_ast.specs.declared.declaration.PredicatePart.TheVariants as parts
use Rattle.nddl_ast.specs.declared.declaration.Set.{Set}
use Rattle.nddl_ast.specs.declared.declaration.Set.TheVariants as sets
use Rattle.nddl_ast.specs.declared.declaration.Member.{Member}
use Rattle.nddl_ast.specs.declared.declaration.Member.TheVariants as members
use Rattle.nddl_ast.specs.declared.declaration.Decl.TheVariants as decls
use Rattle.nddl_ast.specs.Tree.{Braces}
use Rattle.nddl_ast.specs.Same.{AllSame, BothSame, SameName, SamePart, SameSet, SameMember, SameDecl}
use Rattle.nddl_parser.specs.Grammar.{IsPredicatePart, IsSet, IsMember, IsFile, IsParent, IsDecl, IsText}
use Rattle.nddl_print.specs.Words.{Quoted}
use Rattle.nddl_print.specs.Canonical.{fixed, braced, listed_words, many_words, expr_words, typed_words, part_words, set_words, member_words, parent_words, decl_words}
use Rattle.nddl_print.proofs.Saying.{AreSound, AreFine, three_first, one_said}
use Rattle.nddl_print.proofs.Reprinting.{Reprints, EachReprints, mapped, reworded, both, mark, marks, mark_may, then_may, after, before, after_placed, many, separated, listed}
use Rattle.nddl_print.proofs.ReprintParts.{name_reprints, expr_reprints, init_reprints, type_reprints, typed_reprints}
use Rattle.nddl_print.proofs.ReprintStatements.{variable_reprints, call_reprints, ask_reprints, block_reprints}

part_reprints : EachReprints IsPredicatePart SamePart part_words
part_reprints (parts.Parameter typed) =
    mapped parts.Parameter typed (λ p symbols is. is) (λ symbols is. is) (λ p same. same) (before (typed_reprints typed) (mark sorts.Semicolon refl))
part_reprints (parts.Constraint call) = mapped parts.Constraint call (λ p symbols is. is) (λ symbols is. is) (λ p same. same) (call_reprints call)

set_reprints : EachReprints IsSet SameSet set_words
set_reprints (sets.Field name value) =
    mapped {X = Name × Init} (λ p. sets.Field p.0 p.1) (name, value) (λ p symbols is. is) (λ symbols is. is) (λ p same. same)
    (both (name_reprints name) (after (mark sorts.Assign refl) (before (init_reprints value) (mark sorts.Semicolon refl))))
set_reprints (sets.Super at arguments) =
    mapped {X = ℕ × List Expr} (λ p. sets.Super p.0 p.1) (at, arguments) (λ p symbols is. is) (λ symbols is. is) (λ p same. same)
    (after_placed (sorts.Word keywords.Super) at refl
    (reworded (three_first (fixed sorts.ParenOpen) (listed_words expr_words arguments) (fixed sorts.ParenClose) (fixed sorts.Semicolon))
    (after (mark sorts.ParenOpen refl) (before (listed expr_reprints arguments) (marks (mark sorts.ParenClose refl) (mark sorts.Semicolon refl))))))

member_reprints : EachReprints IsMember SameMember member_words
member_reprints (members.Field typed) =
    mapped members.Field typed (λ p symbols is. is) (λ symbols is. is) (λ p same. same) (before (typed_reprints typed) (mark sorts.Semicolon refl))
member_reprints (members.Predicate at name body) =
    mapped {X = ℕ × (Name × List PredicatePart)} (λ p. members.Predicate p.0 p.1.0 p.1.1) (at, (name, body)) (λ p symbols is. is) (λ symbols is. is) (λ p same. same)
    (after_placed (sorts.Word keywords.Predicate) at refl (both (name_reprints name)
    (after (mark sorts.BraceOpen refl) (before (many part_reprints body) (mark_may sorts.Semicolon (mark sorts.BraceClose refl))))))
member_reprints (members.Constructor name formals body) =
    mapped {X = Name × (List Typed × List Set)} (λ p. members.Constructor p.0 p.1.0 p.1.1) (name, (formals, body)) (λ p symbols is. is) (λ symbols is. is) (λ p same. (same.0, same.1.0, same.1.1))
    (both (name_reprints name)
    (reworded (three_first (fixed sorts.ParenOpen) (listed_words typed_words formals) (fixed sorts.ParenClose) (braced (many_words set_words body)))
    (after (mark sorts.ParenOpen refl) (both (listed typed_reprints formals)
    (after (mark sorts.ParenClose refl) (after (mark sorts.BraceOpen refl) (before (many set_reprints body) (mark sorts.BraceClose refl))))))))

abbrev IsFileAt : List ℕ × ℕ → List PlainSymbol → Type 0
IsFileAt p = IsFile p.0 p.1

abbrev SameFile : List ℕ × ℕ → List ℕ × ℕ → Type 0
SameFile p q = p.0 ≡ q.0

file_reprints : (file : List ℕ) (at : ℕ) → Reprints IsFileAt SameFile (Quoted file ∷ []) (file, at)
file_reprints file at = record {
  sound = λ symbols fine is. (subst (λ bytes. AreSound (Quoted bytes ∷ [])) (sym is.bytes) ((subst AreFine is.only fine).0.quoted is.sorted, tt));
  again = λ old symbols is say.
      let (symbol, only, says) = one_said (Quoted file) symbols say in
      ((symbol.bytes, symbol.at), record { symbol = symbol; only = only; sorted = says.0; bytes = refl; placed = refl }, sym says.1);
}

parent_reprints : EachReprints IsParent (BothSame SameName) parent_words
parent_reprints None = record { sound = λ symbols fine is. tt; again = λ old symbols is say. (None, say, tt) }
parent_reprints (Some name) = mapped Some name (λ p symbols is. is) (λ symbols is. is) (λ p same. same) (after (mark (sorts.Word keywords.Extends) refl) (name_reprints name))

decl_reprints : EachReprints IsDecl SameDecl decl_words
decl_reprints (decls.Include at file file_at) =
    mapped {X = ℕ × (List ℕ × ℕ)} (λ p. decls.Include p.0 p.1.0 p.1.1) (at, (file, file_at)) (λ p symbols is. is) (λ symbols is. is) (λ p same. same)
    (after_placed sorts.Include at refl (then_may sorts.Semicolon (file_reprints file file_at)))
decl_reprints (decls.Enum at name members_at names) =
    mapped {X = ℕ × (Name × (ℕ × List Name))} (λ p. decls.Enum p.0 p.1.0 p.1.1.0 p.1.1.1) (at, (name, (members_at, names))) (λ p symbols is. is) (λ symbols is. is) (λ p same. same)
    (after_placed (sorts.Word keywords.Enum) at refl (both (name_reprints name)
    (after_placed sorts.BraceOpen members_at refl (before (separated name_reprints names) (mark_may sorts.Semicolon (mark sorts.BraceClose refl))))))
decl_reprints (decls.Typedef at declared name) =
    mapped {X = ℕ × (types.Type × Name)} (λ p. decls.Typedef p.0 p.1.0 p.1.1) (at, (declared, name)) (λ p symbols is. is) (λ symbols is. is) (λ p same. same)
    (after_placed (sorts.Word keywords.Typedef) at refl (both (type_reprints declared) (before (name_reprints name) (mark sorts.Semicolon refl))))
decl_reprints (decls.Forward at name) =
    mapped {X = ℕ × Name} (λ p. decls.Forward p.0 p.1) (at, name) (λ p symbols is. is) (λ symbols is. is) (λ p same. same)
    (after_placed (sorts.Word keywords.Class) at refl (before (name_reprints name) (mark sorts.Semicolon refl)))
decl_reprints (decls.Class at name parent body) =
    mapped {X = ℕ × (Name × (Option Name × List Member))} (λ p. decls.Class p.0 p.1.0 p.1.1.0 p.1.1.1) (at, (name, (parent, body))) (λ p symbols is. is) (λ symbols is. is)
    (λ p same. (same.0, same.1.0, same.1.1))
    (after_placed (sorts.Word keywords.Class) at refl (both (name_reprints name) (both (parent_reprints parent)
    (after (mark sorts.BraceOpen refl) (before (many member_reprints body) (mark_may sorts.Semicolon (mark sorts.BraceClose refl)))))))
decl_reprints (decls.Rule class predicate body) =
    mapped {X = Name × (Name × Braces)} (λ p. decls.Rule p.0 p.1.0 p.1.1) (class, (predicate, body)) (λ p symbols is. is) (λ symbols is. is) (λ p same. (same.0, same.1.0, same.1.1))
    (both (name_reprints class) (after (mark sorts.DoubleColon refl) (both (name_reprints predicate) (block_reprints body))))
decl_reprints (decls.Variable variable) = mapped decls.Variable variable (λ p symbols is. is) (λ symbols is. is) (λ p same. same) (variable_reprints variable)
decl_reprints (decls.Call call) = mapped decls.Call call (λ p symbols is. is) (λ symbols is. is) (λ p same. same) (call_reprints call)
decl_reprints (decls.Ask ask) = mapped decls.Ask ask (λ p symbols is. is) (λ symbols is. is) (λ p same. same) (ask_reprints ask)

pub text_reprints : EachReprints IsText (AllSame SameDecl) (many_words decl_words)
text_reprints = many decl_reprints
