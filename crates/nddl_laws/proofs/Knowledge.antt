-- What the typedefs of a program mean is one list.
use Rattle.std.proofs.Common.{◌≡◌, ℕ, zero, suc, ◌<◌, ◌≤◌, Bool, true, false, List, length, refl, sym, ◌∙◌, ap, subst, ◌⊎◌, inl, inr, arith}
use Rattle.std.specs.Prelude.{Option, Some, None, slice_get, if◌then◌else◌}
use Rattle.std.specs.Option.{option_and_then}
use Rattle.std.proofs.lemmas.Option.{slice_get_past}
use Rattle.std.proofs.lemmas.Bool.{cases_lt}
use Rattle.eu_forest.specs.declared.lineage.Rootedness.{Rootedness}
use Rattle.eu_forest.specs.declared.lineage.Rootedness.TheVariants as how
use Rattle.eu_forest.specs.Lines.{IsLineageOf, StandsUnder, rootedness_in}
use Rattle.nddl_ast.specs.declared.declaration.Decl.{Decl}
use Rattle.nddl_ast.specs.declared.expression.Type as types
use Rattle.nddl_symbols.specs.declared.declared.Declared.{Declared}
use Rattle.nddl_symbols.specs.declared.scope.Meaning.{Meaning}
use Rattle.nddl_symbols.specs.declared.scope.Meaning.TheVariants as meanings
use Rattle.nddl_typeexpr.specs.declared.kind.TypeMeaning.{TypeMeaning}
use Rattle.nddl_hierarchy.specs.Facts.{Facts}
use Rattle.nddl_hierarchy.specs.Lines.{is_rooted, parents_of}
use Rattle.nddl_declarations.specs.Known.{AreFacts, declared_type, fine_meaning, known_meaning}
use Rattle.nddl_declarations.proofs.Depends.{AgreesAt, fine_same, named_by, with_known}
use Rattle.nddl_laws.proofs.Rootedness.{one_marking, same_places}
use Rattle.nddl_declarations.proofs.Settled.{typedef_under}

pub rooted_is : (rootedness : Option Rootedness) → is_rooted rootedness ≡ true → rootedness ≡ Some how.Rooted
rooted_is None is = cc
rooted_is (Some how.Rooted) is = refl
rooted_is (Some how.OnCircle) is = cc
rooted_is (Some how.Leading) is = cc

module _ (facts : Facts) (order : List ℕ) (known other : List (Option TypeMeaning))
    (are : facts.parents ≡ parents_of facts.names facts.program) (lineage : IsLineageOf facts.parents facts.marked order)
    (long : length known ≡ length facts.names) (longer : length other ≡ length facts.names)
    (one : (entry : ℕ) → entry < length facts.names → slice_get known entry ≡ Some (known_meaning (with_known facts known) entry))
    (two : (entry : ℕ) → entry < length facts.names → slice_get other entry ≡ Some (known_meaning (with_known facts other) entry)) where
  -- what an entry of this rootedness and this type means
  abbrev meaning_by : Bool → Option types.Type → List (Option TypeMeaning) → Option TypeMeaning
  meaning_by rooted type list = if rooted then option_and_then (fine_meaning (with_known facts list)) type else None

  -- the same is known of an entry where it means the same
  same_here : (entry : ℕ) → entry < length facts.names → (rooted : Bool) (type : Option types.Type)
      → is_rooted (rootedness_in facts.marked entry) ≡ rooted → declared_type facts.names facts.program entry ≡ type
      → meaning_by rooted type known ≡ meaning_by rooted type other → slice_get known entry ≡ slice_get other entry
  same_here entry within rooted type is typed same =
      one entry within
      ∙ (ap (λ m. Some m) ((λ i. meaning_by (is i) (typed i) known) ∙ (same ∙ sym (λ i. meaning_by (is i) (typed i) other)))
      ∙ sym (two entry within))

  -- of what a type names the same is known, if it is of all that comes earlier
  agree : (count place entry : ℕ) → slice_get order place ≡ Some entry → place ≤ count
      → ((earlier parent : ℕ) → earlier < count → slice_get order earlier ≡ Some parent → parent < length facts.names
      → slice_get known parent ≡ slice_get other parent)
      → (type : types.Type) → declared_type facts.names facts.program entry ≡ Some type → (named : Option Meaning)
      → named_by facts.names type.base ≡ named → AgreesAt known other named
  agree count place entry at upto before type typed None named = tt
  agree count place entry at upto before type typed (Some (meanings.BuiltIn number)) named = tt
  agree count place entry at upto before type typed (Some (meanings.Entry parent)) named =
      by_place (cases_lt parent (length facts.names))
    where
      by_type : parent < length facts.names → (o : Option types.Type) → declared_type facts.names facts.program parent ≡ o
          → slice_get known parent ≡ slice_get other parent
      by_type within None is = same_here parent within (is_rooted (rootedness_in facts.marked parent)) None refl is refl
      by_type within (Some declared) is =
          let under = typedef_under facts.names facts.program entry parent type declared typed is named in
          let P : List (Option ℕ) → Type 0 = λ p. StandsUnder p entry parent in
          let found = lineage.ordered place entry parent at (subst P (sym are) under) in
          before found.0 parent (let less : found.0 < place = found.1 in omega arith) found.2 within

      by_place : (parent < length facts.names) ⊎ (length facts.names ≤ parent) → slice_get known parent ≡ slice_get other parent
      by_place (inl within) = by_type within (declared_type facts.names facts.program parent) refl
      by_place (inr past) =
          slice_get_past known parent (omega (arith, long)) ∙ sym (slice_get_past other parent (omega (arith, longer)))

  -- the same is known of the first so many of the order
  known_upto : (count place entry : ℕ) → place < count → slice_get order place ≡ Some entry → entry < length facts.names
      → slice_get known entry ≡ slice_get other entry
  known_upto zero place entry below at within = absurd (omega arith)
  known_upto (suc count) place entry below at within =
      let rooted = is_rooted (rootedness_in facts.marked entry) in
      let type = declared_type facts.names facts.program entry in
      same_here entry within rooted type refl refl (same (λ earlier parent less there inside. known_upto count earlier parent less there inside) rooted type refl)
    where
      same : ((earlier parent : ℕ) → earlier < count → slice_get order earlier ≡ Some parent → parent < length facts.names
          → slice_get known parent ≡ slice_get other parent)
          → (rooted : Bool) (type : Option types.Type) → declared_type facts.names facts.program entry ≡ type
          → meaning_by rooted type known ≡ meaning_by rooted type other
      same before false type is = refl
      same before true None is = refl
      same before true (Some type) is =
          fine_same facts known other type (agree count place entry at (omega arith) before type is (named_by facts.names type.base) refl)

  known_same : (entry : ℕ) → entry < length facts.names → slice_get known entry ≡ slice_get other entry
  known_same entry within = by (is_rooted (rootedness_in facts.marked entry)) refl
    where
      by : (rooted : Bool) → is_rooted (rootedness_in facts.marked entry) ≡ rooted → slice_get known entry ≡ slice_get other entry
      by true is =
          let found = lineage.whole entry (rooted_is (rootedness_in facts.marked entry) is) in
          known_upto (suc found.0) found.0 entry (omega arith) found.1 within
      by false is = same_here entry within false (declared_type facts.names facts.program entry) is refl refl

  pub one_knowledge : known ≡ other
  one_knowledge = same_places known other (omega (arith, long, longer)) (λ entry within. known_same entry (omega (arith, long)))

-- facts of the same
pub one_facts : (names : List Declared) (program : List Decl) (one other : Facts) → AreFacts names program one → AreFacts names program other → one ≡ other
one_facts names program one other is are =
    let n : one.names ≡ other.names = is.is_names ∙ sym are.is_names in
    let p : one.program ≡ other.program = is.is_program ∙ sym are.is_program in
    let u : one.parents ≡ other.parents = is.is_parents ∙ sym are.is_parents in
    let L : List (Option ℕ) → Type 0 = λ parents. IsLineageOf parents other.marked are.order in
    let m : one.marked ≡ other.marked = one_marking one.parents one.marked other.marked is.order are.order is.lineage (subst L (sym u) are.lineage) in
    let N : Facts → Type 0 = λ facts.
    (entry : ℕ) → entry < length facts.names → slice_get other.known entry ≡ Some (known_meaning (with_known facts other.known) entry) in
    let means : N other = λ entry within. are.means entry (let e = ap length are.is_names in omega (arith, e)) in
    let moved : other ≡ with_known one other.known =
    λ i. record { names = sym n i; program = sym p i; parents = sym u i; marked = sym m i; known = other.known } in
    let two : N (with_known one other.known) = subst N moved means in
    let k : one.known ≡ other.known =
    one_knowledge one is.order one.known other.known
    (is.is_parents ∙ (λ i. parents_of (sym is.is_names i) (sym is.is_program i))) is.lineage
    (is.whole ∙ ap length (sym is.is_names)) (are.whole ∙ ap length (sym is.is_names))
    (λ entry within. is.means entry (let e = ap length is.is_names in omega (arith, e)))
    (λ entry within. two entry within) in
    λ i. record { names = n i; program = p i; parents = u i; marked = m i; known = k i }
