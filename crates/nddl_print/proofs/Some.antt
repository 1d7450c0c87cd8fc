-- Each declaration has a word.
use Rattle.std.proofs.Common.{◌≢◌, refl, List, [], ◌∷◌}
use Rattle.nddl_ast.specs.declared.expression.BaseType.{BaseType}
use Rattle.nddl_ast.specs.declared.expression.BaseType.TheVariants as bases
use Rattle.nddl_ast.specs.declared.declaration.Decl.{Decl}
use Rattle.nddl_ast.specs.declared.declaration.Decl.TheVariants as decls
use Rattle.nddl_print.specs.Words.{Word}
use Rattle.nddl_print.specs.Canonical.{◌⌢◌, base_words, decl_words}

one : (word : Word) → ◌≢◌ {A = List Word} (word ∷ []) []
one word none = cc

then_some : (words more : List Word) → words ≢ [] → words ⌢ more ≢ []
unfolding ◌⌢◌
then_some [] more some none = absurd (some refl)
then_some (word ∷ words) more some none = cc

base_some : (base : BaseType) → base_words base ≢ []
base_some bases.Int = one _
base_some bases.Float = one _
base_some bases.Bool = one _
base_some bases.Str = one _
base_some (bases.Named name) = one _

pub decl_some : (decl : Decl) → decl_words decl ≢ []
decl_some (decls.Include at file file_at) = then_some _ _ (one _)
decl_some (decls.Enum at name members_at members) = then_some _ _ (one _)
decl_some (decls.Typedef at declared name) = then_some _ _ (one _)
decl_some (decls.Forward at name) = then_some _ _ (one _)
decl_some (decls.Class at name parent members) = then_some _ _ (one _)
decl_some (decls.Rule class predicate body) = then_some _ _ (one _)
decl_some (decls.Variable v) = then_some _ _ (then_some _ _ (base_some v.declared.base))
decl_some (decls.Call c) = then_some _ _ (then_some _ _ (one _))
decl_some (decls.Ask a) = then_some _ _ (one _)
