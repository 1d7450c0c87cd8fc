-- The typedefs among the names so far, with one name more.
use Rattle.std.proofs.Common.{◌≡◌, ℕ, zero, suc, ◌+◌, false, List, [], ◌∷◌, ◌++◌, length, ◌⊎◌, inl, inr, refl, sym, ◌∙◌, ap, arith}
use Rattle.std.specs.Prelude.{Option, Some, None, Result, Ok, Err, IfSome, OnOk, slice_get, if◌then◌else◌}
use Rattle.std.specs.Option.{option_map}
use Rattle.std.proofs.lemmas.List.{append-nil, length-append}
use Rattle.std.proofs.lemmas.Option.{same_Some}
use Rattle.nddl_symbols.specs.declared.declared.Declared.{Declared}
use Rattle.nddl_typeexpr.specs.declared.kind.TypeMeaning.{TypeMeaning}
use Rattle.nddl_typeexpr.specs.Bases.{typedef_meaning}
use Rattle.nddl_types.specs.Classes.{is_first}
use Rattle.nddl_terms.specs.declared.lexicon.Shape.{Shape}
use Rattle.nddl_env.specs.Lexicons.{sort_shape, type_if_first}
use Rattle.nddl_env.specs.Shapes.{World, shape_with}
use Rattle.nddl_env.specs.Sharing.{Adds, AreNumbered, IsAlike, typedef_shape}

-- ---- lists

behind : {X : Type 0} (xs ys : List X) (number : ℕ) (x : X) → slice_get xs number ≡ Some x → slice_get (xs ++ ys) number ≡ Some x
behind [] ys number x at = absurd (cc)
behind (y ∷ xs) ys zero x at = at
behind (y ∷ xs) ys (suc number) x at = behind xs ys number x at

at_end : {X : Type 0} (xs : List X) (x : X) → slice_get (xs ++ x ∷ []) (length xs) ≡ Some x
at_end [] x = refl
at_end (y ∷ xs) x = at_end xs x

at_more : {X : Type 0} (xs : List X) (x y : X) (place : ℕ) → slice_get (xs ++ x ∷ []) place ≡ Some y
    → (slice_get xs place ≡ Some y) ⊎ ((place ≡ length xs) × (x ≡ y))
at_more [] x y zero at = inr (refl, same_Some x y at)
at_more [] x y (suc place) at = absurd (cc)
at_more (z ∷ xs) x y zero at = inl at
at_more (z ∷ xs) x y (suc place) at = elim (at_more xs x y place at) [
  | inl before ↦ inl before
  | inr last ↦ inr (ap suc last.0, last.1)
]

-- ---- one name more

adds : (world : World) (entry : ℕ) (more old new : List (Option Shape)) (numbers all : List (Option ℕ)) (found : Option ℕ)
    → AreNumbered world entry old numbers → new ≡ old ++ more → all ≡ numbers ++ found ∷ []
    → ((number : ℕ) → found ≡ Some number → slice_get new number ≡ Some (typedef_shape world entry)) → Adds world entry more old new all
adds world entry more old new numbers all found so_far is are here = record {
  types = is;
  numbered = record {
    count = (let long : length all ≡ length (numbers ++ found ∷ []) = ap length are in
        let joined : length (numbers ++ found ∷ []) ≡ length numbers + 1 = length-append numbers (found ∷ []) in
        let count = so_far.count in
        omega (arith, long, joined, count));
    each = λ other number at. elim (at_more numbers found (Some number) other (ap (λ some. slice_get some other) (sym are) ∙ at)) [
      | inl before ↦ ap (λ some. slice_get some number) is ∙ behind old more number (typedef_shape world other) (so_far.each other number before)
      | inr last ↦ here number last.1 ∙ ap (λ e. Some (typedef_shape world e)) (sym (last.0 ∙ so_far.count))
    ];
  };
}

-- that is no typedef, or means nothing
pub adds_none : {A E : Type 0} (world : World) (entry : ℕ) (more old new : List (Option Shape)) (numbers all : List (Option ℕ)) (done : Result A E)
    → AreNumbered world entry old numbers → new ≡ old ++ more → OnOk done (all ≡ numbers ++ None ∷ []) → OnOk done (Adds world entry more old new all)
adds_none world entry more old new numbers all (Err e) so_far is are = tt
adds_none world entry more old new numbers all (Ok x) so_far is are =
    adds world entry more old new numbers all None so_far is are (λ number e. absurd (cc))

-- that is declared under a name which has come already
pub adds_nothing : {A E : Type 0} (world : World) (entry : ℕ) (declared : Declared) (old : List (Option Shape)) (numbers all : List (Option ℕ))
    (done : Result A E) → is_first world.facts.names entry declared ≡ false → AreNumbered world entry old numbers
    → OnOk done (all ≡ numbers ++ None ∷ []) → OnOk done (Adds world entry (type_if_first world entry declared) old old all)
adds_nothing world entry declared old numbers all done later so_far are =
    adds_none world entry (type_if_first world entry declared) old old numbers all done so_far
    (sym (append-nil old) ∙ ap (λ first. old ++ (if first then sort_shape world entry declared.sort ∷ [] else [])) (sym later)) are

-- that is a typedef and means this
pub adds_known : {A E : Type 0} (world : World) (entry number : ℕ) (meaning : TypeMeaning) (old new : List (Option Shape)) (numbers all : List (Option ℕ))
    (done : Result A E) → AreNumbered world entry old numbers → typedef_meaning world.facts.known entry ≡ Some meaning
    → new ≡ old ++ Some (shape_with world meaning) ∷ [] → number ≡ length old → OnOk done (all ≡ numbers ++ Some number ∷ [])
    → OnOk done (Adds world entry (typedef_shape world entry ∷ []) old new all)
adds_known world entry number meaning old new numbers all (Err e) so_far means is at are = tt
adds_known world entry number meaning old new numbers all (Ok x) so_far means is at are =
    adds world entry (typedef_shape world entry ∷ []) old new numbers all (Some number) so_far
    (is ∙ ap (λ shape. old ++ shape ∷ []) (sym shaped)) are
    (λ other e.
    ap (slice_get new) (sym (same_Some number other e) ∙ at)
    ∙ (ap (λ some. slice_get some (length old)) is
    ∙ (at_end old (Some (shape_with world meaning)) ∙ ap Some (sym shaped))))
  where
    shaped : typedef_shape world entry ≡ Some (shape_with world meaning)
    shaped = ap (option_map (shape_with world)) means

-- what a variable of a typedef that means this may be
pub alike_is : (world : World) (entry : ℕ) (meaning : TypeMeaning) (types : List (Option Shape)) (numbers : List (Option ℕ)) (same : Option ℕ)
    → AreNumbered world entry types numbers → IfSome same (IsAlike world.facts.known numbers meaning)
    → IfSome same (λ number. slice_get types number ≡ Some (Some (shape_with world meaning)))
alike_is world entry meaning types numbers None so_far alike = tt
alike_is world entry meaning types numbers (Some number) so_far alike =
    so_far.each alike.0 number alike.1 ∙ ap (λ found. Some (option_map (shape_with world) found)) alike.2

-- at the start
pub none_numbered : (world : World) (types : List (Option Shape)) (numbers : List (Option ℕ)) → numbers ≡ [] → AreNumbered world 0 types numbers
none_numbered world types numbers is = record {
  count = ap length is;
  each = λ entry number at. absurd (let none = ap (λ some. slice_get some entry) (sym is) ∙ at in cc);
}
