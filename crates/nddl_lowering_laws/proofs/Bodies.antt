-- No block is too deep in the texts of the rules of given files.
use Rattle.std.proofs.Common.{◌≡◌, ℕ, zero, suc, List, [], ◌∷◌, get_or, refl, subst}
use Rattle.std.specs.Prelude.{Option, Some, None, All, slice_get}
use Rattle.std.specs.Option.{option_map_or}
use Rattle.model_core.proofs.Items.{item_all}
use Rattle.nddl_ast.specs.declared.declaration.Decl.{Decl}
use Rattle.nddl_ast.specs.declared.declaration.Decl.TheVariants as decls
use Rattle.nddl_ast.specs.declared.declaration.FileDecls.{FileDecls}
use Rattle.nddl_ast.specs.declared.declaration.Member.{Member}
use Rattle.nddl_ast.specs.declared.declaration.Member.TheVariants as members
use Rattle.nddl_ast.specs.declared.declaration.PredicatePart.{PredicatePart}
use Rattle.nddl_ast.specs.declared.declaration.PredicatePart.TheVariants as parts
use Rattle.nddl_ast.specs.Block.{statements_of}
use Rattle.nddl_ast.specs.Tree.{Nothing}
use Rattle.nddl_grammar.specs.Exact.{earlier, earliest}
use Rattle.nddl_grammar.specs.Grammar.{deep_statements}
use Rattle.nddl_parser.specs.Grammar.{deep_decl, most_nested}
use Rattle.nddl_symbols.specs.declared.site.Site.{Site}
use Rattle.nddl_symbols.specs.Joined.{decl_in, joined_decls, joined_sites}
use Rattle.nddl_laws.specs.Given.{AreGiven}
use Rattle.nddl_laws.specs.Trees.{HasText}
use Rattle.nddl_laws.proofs.Lists.{all_kept}
use Rattle.nddl_laws.proofs.Texts.{given_texts}
use Rattle.nddl_rules.specs.declared.places.TextPlace.{TextPlace}
use Rattle.nddl_rules.specs.Collected.{decl_statements, member_statements, part_statements, text_statements}
use Rattle.nddl_rules.specs.Told.{file_texts}
use Rattle.nddl_unroll.specs.Rules.{tree_rule}
use Rattle.nddl_lowering_laws.specs.Nested.{IsShallow, RulesAreShallow}
use Rattle.nddl_lowering_laws.proofs.EachTree.{placed_tree, trees_so}
use Rattle.nddl_lowering_laws.proofs.Shallow.{tree_shallow}

-- ---- declarations

-- no block of the declaration is nested too deep
abbrev IsShallowDecl : Decl → Type 0
IsShallowDecl decl = deep_decl most_nested decl ≡ None

none_left : (one other : Option ℕ) → earlier one other ≡ None → one ≡ None
none_left None other none = refl
none_left (Some at) other none = absurd (let never : Some at ≡ None = none in cc)

none_right : (one other : Option ℕ) → earlier one other ≡ None → other ≡ None
none_right None other none = none
none_right (Some at) other none = absurd (let never : Some at ≡ None = none in cc)

-- nor is one of those of a text
of_text : (some : List Decl) → earliest (deep_decl most_nested) some ≡ None → (number : ℕ) (decl : Decl) → slice_get some number ≡ Some decl
    → IsShallowDecl decl
of_text [] none number decl at = absurd (let never : None ≡ Some decl = at in cc)
of_text (first ∷ more) none zero decl at =
    let same : first ≡ decl = cc in
    subst IsShallowDecl same (none_left (deep_decl most_nested first) (earliest (deep_decl most_nested) more) none)
of_text (first ∷ more) none (suc number) decl at =
    of_text more (none_right (deep_decl most_nested first) (earliest (deep_decl most_nested) more) none) number decl at

of_file : (files : List FileDecls) → AreGiven files → (place : ℕ) (found : Option FileDecls) → slice_get files place ≡ found
    → (number : ℕ) (decl : Decl) → slice_get (option_map_or (λ file. file.decls) found []) number ≡ Some decl → IsShallowDecl decl
of_file files given place None is number decl at = absurd (let never : None ≡ Some decl = at in cc)
of_file files given place (Some file) is number decl at =
    let has : HasText file.decls = item_all (λ (f : FileDecls). HasText f.decls) files place file (given_texts files given) is in
    of_text file.decls has.read.2.ends.1 number decl at

at_site : (files : List FileDecls) → AreGiven files → (site : Site) (decl : Decl) → decl_in files site ≡ Some decl → IsShallowDecl decl
at_site files given site decl is = of_file files given site.file (slice_get files site.file) refl site.decl decl is

-- each joined declaration of given files is shallow
joined_shallow : (files : List FileDecls) → AreGiven files → All IsShallowDecl (joined_decls files)
joined_shallow files given =
    all_kept IsShallowDecl (decl_in files) (joined_sites files)
    (λ k d below decl is. at_site files given (get_or (joined_sites files) k d) decl is)

-- ---- the texts of rules

-- calls have no blocks
parts_shallow : (some : List PredicatePart) (left : ℕ) → deep_statements (statements_of (part_statements some)) left ≡ None
parts_shallow [] left = refl
parts_shallow (parts.Parameter typed ∷ more) left = parts_shallow more left
parts_shallow (parts.Constraint call ∷ more) left = parts_shallow more left

member_shallow : (member : Member) (left : ℕ) → deep_statements (member_statements member) left ≡ None
member_shallow (members.Predicate at name some) left = parts_shallow some left
member_shallow member left = refl

found_member : (found : Option Member) (left : ℕ) → deep_statements (option_map_or member_statements found Nothing) left ≡ None
found_member None left = refl
found_member (Some member) left = member_shallow member left

-- the block of a rule is one of its 16
decl_shallow : (member : Option ℕ) (decl : Decl) → IsShallowDecl decl → deep_statements (decl_statements member decl) 15 ≡ None
decl_shallow None (decls.Rule class predicate body) shallow = shallow
decl_shallow (Some place) (decls.Class at name parent some) shallow = found_member (slice_get some place) 15
decl_shallow None decl shallow = refl
decl_shallow (Some place) decl shallow = refl

found_decl : (member : Option ℕ) (found : Option Decl) → ((decl : Decl) → found ≡ Some decl → IsShallowDecl decl)
    → deep_statements (option_map_or (decl_statements member) found Nothing) 15 ≡ None
found_decl member None each = refl
found_decl member (Some decl) each = decl_shallow member decl (each decl refl)

text_shallow : (program : List Decl) → All IsShallowDecl program → (place : TextPlace) → deep_statements (text_statements program place) 15 ≡ None
text_shallow program all place =
    found_decl place.member (slice_get program place.decl) (λ decl is. item_all IsShallowDecl program place.decl decl all is)

-- ---- rules

pub rules_shallow : RulesAreShallow
rules_shallow table files trees lexicon objects given are =
    trees_so (λ tree. IsShallow (tree_rule lexicon objects tree).top) table files trees are
    (λ number pred file place.
    tree_shallow lexicon objects (placed_tree (file_texts table files) number pred file place)
    (text_shallow (joined_decls files) (joined_shallow files given) place))
