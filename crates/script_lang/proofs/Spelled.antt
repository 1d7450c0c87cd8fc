-- What is found by the word with which it is written.
use Rattle.std.proofs.Common.{◌≡◌, ℕ, List, [], ◌∷◌, Some, None, Bool, true, false, cond, refl, sym, ap, ◌∙◌, subst}
use Rattle.std.specs.List.{AllByRecursion, find}
use Rattle.std.specs.Prelude.{⊤}
use Rattle.std.specs.Str.{bytes_eq}
use Rattle.std.proofs.lemmas.Slice.Eq.{bytes_eq-Decides}
use Rattle.domain_core.specs.declared.kind.Kind.{Kind}
use Rattle.domain_core.specs.declared.kind.Kind.TheVariants as constraints
use Rattle.model_core.specs.declared.item.Rel.{Rel}
use Rattle.model_core.specs.declared.item.Rel.TheVariants as relations
use Rattle.script_lang.specs.KindWords.{IsPosted, constraint_word, posted_kinds, constraint_named, relation_word, all_relations, relation_named}

module _ {A : Type 0} (spell : A → List ℕ) (P : A → Type 0) (word : List ℕ) where
  -- the first of those that are written so is written so
  pub spelled_so : (those : List A) (item : A) → AllByRecursion P those → find (λ one. bytes_eq (spell one) word) those ≡ Some item → (spell item ≡ word) × P item
  spelled_so [] item all is = absurd cc
  spelled_so (first ∷ those) item all is = chosen (spelled_so those item all.1) (bytes_eq (spell first) word) refl is where
    chosen : (find (λ one. bytes_eq (spell one) word) those ≡ Some item → (spell item ≡ word) × P item) → (flag : Bool) → bytes_eq (spell first) word ≡ flag
        → cond flag (Some first) (find (λ one. bytes_eq (spell one) word) those) ≡ Some item → (spell item ≡ word) × P item
    chosen further true same found =
        let one : first ≡ item = cc in
        subst (λ i. (spell i ≡ word) × P i) one ((bytes_eq-Decides (spell first) word).0 same, all.0)
    chosen further false other found = further found

-- ---- constraints

-- each that may be posted is found by its word
named_constraint : (kind : Kind) → IsPosted kind → constraint_named (constraint_word kind) ≡ Some kind
unfolding constraint_named
named_constraint constraints.Eq posted = refl
named_constraint constraints.Neq posted = refl
named_constraint constraints.Lt posted = refl
named_constraint constraints.Leq posted = refl
named_constraint constraints.AddEq posted = refl
named_constraint constraints.MulEq posted = refl
named_constraint constraints.TestEq posted = refl
named_constraint constraints.TestLeq posted = refl
named_constraint constraints.AllDiff posted = absurd posted
named_constraint (constraints.Field number) posted = absurd posted

pub constraint_found : (word : List ℕ) (kind : Kind) → constraint_named word ≡ Some kind → (constraint_word kind ≡ word) × IsPosted kind
unfolding constraint_named
constraint_found word kind is = spelled_so constraint_word IsPosted word posted_kinds kind (tt, (tt, (tt, (tt, (tt, (tt, (tt, (tt, tt)))))))) is

pub constraint_missed : (word : List ℕ) (kind : Kind) → constraint_named word ≡ None → IsPosted kind → word ≡ constraint_word kind → ⊥
constraint_missed word kind none posted is =
    let both : None ≡ Some kind = sym none ∙ (ap constraint_named is ∙ named_constraint kind posted) in
    cc

pub same_constraint : (one other : Kind) → IsPosted one → IsPosted other → constraint_word one ≡ constraint_word other → one ≡ other
same_constraint one other posted too same =
    let both : Some one ≡ Some other = sym (named_constraint one posted) ∙ (ap constraint_named same ∙ named_constraint other too) in
    cc

-- ---- relations

-- each is found by its word
named_relation : (relation : Rel) → relation_named (relation_word relation) ≡ Some relation
unfolding relation_named
named_relation relations.Any = refl
named_relation relations.Before = refl
named_relation relations.After = refl
named_relation relations.Meets = refl
named_relation relations.MetBy = refl
named_relation relations.Equals = refl
named_relation relations.Contains = refl
named_relation relations.ContainedBy = refl
named_relation relations.Starts = refl
named_relation relations.Ends = refl
named_relation relations.Parallels = refl
named_relation relations.ParalleledBy = refl
named_relation relations.StartsDuring = refl
named_relation relations.ContainsStart = refl
named_relation relations.EndsDuring = refl
named_relation relations.ContainsEnd = refl

pub relation_found : (word : List ℕ) (relation : Rel) → relation_named word ≡ Some relation → relation_word relation ≡ word
unfolding relation_named
relation_found word relation is =
    (spelled_so relation_word (λ r. ⊤) word all_relations relation (tt, (tt, (tt, (tt, (tt, (tt, (tt, (tt, (tt, (tt, (tt, (tt, (tt, (tt, (tt, (tt, tt)))))))))))))))) is).0

pub relation_missed : (word : List ℕ) (relation : Rel) → relation_named word ≡ None → word ≡ relation_word relation → ⊥
relation_missed word relation none is =
    let both : None ≡ Some relation = sym none ∙ (ap relation_named is ∙ named_relation relation) in
    cc

pub same_relation : (one other : Rel) → relation_word one ≡ relation_word other → one ≡ other
same_relation one other same =
    let both : Some one ≡ Some other = sym (named_relation one) ∙ (ap relation_named same ∙ named_relation other) in
    cc
