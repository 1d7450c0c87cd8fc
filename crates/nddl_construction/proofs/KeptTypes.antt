-- More and more is kept of what the types of fields mean.
use Rattle.std.proofs.Common.{◌≡◌, ℕ, Bool, true, false, cond, if◌then◌else◌, List, [], ◌∷◌, ◌++◌, length, Option, Some, None, inl, inr, refl, sym, ap, subst, ◌∙◌}
use Rattle.std.specs.Prelude.{Result, Ok, Err, OnOk, slice_get}
use Rattle.std.specs.Option.{option_or}
use Rattle.std.specs.Str.{bytes_eq}
use Rattle.std.proofs.lemmas.Slice.Eq.{bytes_eq-Decides}
use Rattle.eu_forest.proofs.Lists.{get-append_cases, get-append_last, get-append_left, some_is}
use Rattle.nddl_ast.specs.declared.declaration.Typed.{Typed}
use Rattle.eu_index.specs.Index.{Noted, noted_number}
use Rattle.eu_index.proofs.Indexes.{noted_with}
use Rattle.nddl_typeexpr.specs.declared.kind.TypeMeaning.{TypeMeaning}
use Rattle.nddl_typeexpr.specs.Types.{type_meaning}
use Rattle.nddl_hierarchy.specs.Facts.{Facts}
use Rattle.nddl_hierarchy.specs.Members.{field_declared}
use Rattle.nddl_construction.specs.declared.kept.FieldTypes.{FieldTypes}
use Rattle.nddl_construction.specs.Kept.{AreFieldTypes, AreKept, KeepField, KeepFound, MeansAt, with_field}

-- no field more
pub none_kept : (facts : Facts) (number : ℕ) (noted : Noted) (meanings : List (Option TypeMeaning))
    → KeepField facts number noted meanings noted meanings
none_kept facts number noted meanings = (λ place meaning is. is, λ are. are)

-- some fields, and then some more
pub more_kept : (facts : Facts) (number : ℕ) (first next last : Noted) (old mid new : List (Option TypeMeaning))
    → KeepField facts number first old next mid → KeepField facts number next mid last new
    → KeepField facts number first old last new
more_kept facts number first next last old mid new one other =
    (λ place meaning is. other.0 place meaning (one.0 place meaning is), λ are. other.1 (one.1 are))

-- one field
pub one_kept : (facts : Facts) (number : ℕ) (name : List ℕ) (typed : Typed) (first next : Noted) (old new : List (Option TypeMeaning))
    → Some typed ≡ field_declared facts.program number name → next ≡ with_field first name old
    → new ≡ old ++ type_meaning facts.names facts.known typed.declared ∷ []
    → KeepField facts number first old next new
one_kept facts number name typed first next old new declared noted kept = (front, are)
  where
    meaning : Option TypeMeaning
    meaning = type_meaning facts.names facts.known typed.declared

    front : (place : ℕ) (found : Option TypeMeaning) → slice_get old place ≡ Some found → slice_get new place ≡ Some found
    front place found is = ap (λ all. slice_get all place) kept ∙ get-append_left old (meaning ∷ []) place found is

    here : slice_get new (length old) ≡ Some meaning
    here = ap (λ all. slice_get all (length old)) kept ∙ get-append_last old meaning

    looked : (other : List ℕ) → noted_number next other
        ≡ option_or (noted_number first other) (if bytes_eq other name then Some (length old) else None)
    looked other = ap (λ n. noted_number n other) noted ∙ noted_with first name other (length old)

    by : (other : List ℕ) (place : ℕ) (o : Option ℕ) (b : Bool) → AreKept facts old number first → noted_number first other ≡ o
        → bytes_eq other name ≡ b → option_or o (cond b (Some (length old)) None) ≡ Some place → MeansAt facts new number other place
    by other place (Some found) b were was same is =
        λ type there. front place (type_meaning facts.names facts.known type.declared) (were other place (was ∙ is) type there)
    by other place None true were was same is =
        λ type there.
        let e : other ≡ name = (bytes_eq-Decides other name).0 same in
        let t : typed ≡ type = some_is typed type (declared ∙ (ap (field_declared facts.program number) (sym e) ∙ there)) in
        ap (slice_get new) (sym (some_is (length old) place is))
        ∙ (here ∙ ap (λ t. Some (type_meaning facts.names facts.known t.declared)) t)
    by other place None false were was same is = absurd (let e : None ≡ Some place = is in cc)

    are : AreKept facts old number first → AreKept facts new number next
    are were = λ other place found.
        by other place (noted_number first other) (bytes_eq other name) were refl refl (sym (looked other) ∙ found)

-- if there was memory for it
pub kept_after : {X E : Type 0} (facts : Facts) (number : ℕ) (name : List ℕ) (typed : Typed) (first next : Noted)
    (old new : List (Option TypeMeaning)) (result : Result X E)
    → Some typed ≡ field_declared facts.program number name → OnOk result (next ≡ with_field first name old)
    → OnOk result (new ≡ old ++ type_meaning facts.names facts.known typed.declared ∷ [])
    → OnOk result (KeepField facts number first old next new)
kept_after facts number name typed first next old new (Err fault) declared noted kept = tt
kept_after facts number name typed first next old new (Ok done) declared noted kept =
    one_kept facts number name typed first next old new declared noted kept

-- the places of a declaration come behind those of the others
pub declaration_kept : (facts : Facts) (number : ℕ) (found : Option Noted) (old new : FieldTypes)
    → length old.places.items ≡ number → new.places.items ≡ old.places.items ++ found ∷ []
    → KeepFound facts number found old.meanings.items new.meanings.items → AreFieldTypes facts old → AreFieldTypes facts new
declaration_kept facts number found old new long more kept were = λ other noted is.
    elim (get-append_cases old.places.items found other (Some noted) (sym (ap (λ all. slice_get all other) more) ∙ is)) [
      | inl h ↦ λ name place at type there. kept.0 place (type_meaning facts.names facts.known type.declared) (were other noted h name place at type there)
      | inr h ↦
          let P : ℕ → Type 0 = λ n. AreKept facts new.meanings.items n noted in
          subst P (sym (h.0 ∙ long)) (kept.1 noted (sym h.1))
    ]
