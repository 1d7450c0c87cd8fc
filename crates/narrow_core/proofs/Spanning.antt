-- The first and the last value that a table pairs.
use Rattle.std.proofs.Common.{◌≡◌, ℕ, ◌+◌, ◌<◌, take, ℤ, List, [], ◌∷◌, ◌++◌, length, get_or, Option, Some, None, ◌⊎◌, ⊎_elim, inl, inr, refl, sym, subst, arith}
use Rattle.std.specs.Prelude.{◌↔◌}
use Rattle.std.proofs.lemmas.Int.{ints}
use Rattle.std.proofs.lemmas.List.{take_more}
use Rattle.std.proofs.lemmas.List.Elements.{Contains-append_left, Contains-push, Contains-push_cases}
use Rattle.domain_core.specs.Domain.{Domain, Has}
use Rattle.narrow_core.specs.declared.field.FieldEntry.{FieldEntry}
use Rattle.narrow_core.specs.declared.field.Side.{Side}
use Rattle.narrow_core.specs.declared.field.Side.TheVariants.{Object, Value}
use Rattle.narrow_core.specs.declared.field.Span.{Span}
use Rattle.narrow_core.specs.Meanings.{IsInTable}
use Rattle.narrow_core.specs.Sides.{Pairs, IsPaired, Spans, IsWidened}

module _ (before : List FieldEntry) (entry : FieldEntry) (side : Side) (own other : Domain) where
  paired_earlier : (value : ℤ) → IsPaired before side other value → IsPaired (before ++ entry ∷ []) side other value
  paired_earlier value some = (some.0, Contains-append_left before (entry ∷ []) some.0 some.1, some.2)

  paired_last : (value : ℤ) → Pairs entry side other value → IsPaired (before ++ entry ∷ []) side other value
  paired_last value pairs = (entry, Contains-push before entry, pairs)

  paired_cases : (value : ℤ) → IsPaired (before ++ entry ∷ []) side other value → IsPaired before side other value ⊎ Pairs entry side other value
  paired_cases value some =
      ⊎_elim
      (λ earlier. inl (some.0, earlier, some.2))
      (λ last. inr (subst (λ e. Pairs e side other value) (sym last) some.2))
      (Contains-push_cases before entry some.0 some.1)

  pub spans_skip : (span : Option Span) → ((value : ℤ) → Has own value → Pairs entry side other value → ⊥) → Spans before side own other span → Spans (before ++ entry ∷ []) side own other span
  spans_skip None fails spans = λ value has some. ⊎_elim (λ earlier. spans value has earlier) (λ last. fails value has last) (paired_cases value some)
  spans_skip (Some span) fails spans = (
    (spans.0.0, paired_earlier span.first spans.0.1),
    (spans.1.0, paired_earlier span.last spans.1.1),
    λ value has some. ⊎_elim (λ earlier. spans.2 value has earlier) (λ last. absurd (fails value has last)) (paired_cases value some),
  )

  pub spans_more : (span : Option Span) (added : ℤ) (new : Span) → Has own added → Pairs entry side other added → IsWidened span added new
      → Spans before side own other span → Spans (before ++ entry ∷ []) side own other (Some new)
  spans_more None added new has pairs widened spans = (
    is_in new.first widened.0,
    is_in new.last widened.1,
    λ value has_value some.
        ⊎_elim
        (λ earlier. absurd (spans value has_value earlier))
        (λ last. (omega (arith, ints, widened.0, pairs.0, last.0), omega (arith, ints, widened.1, pairs.0, last.0)))
        (paired_cases value some),
  )
    where
      is_in : (value : ℤ) → value ≡ added → Has own value × IsPaired (before ++ entry ∷ []) side other value
      is_in value same = (subst (Has own) (sym same) has, paired_last value (subst (Pairs entry side other) (sym same) pairs))
  spans_more (Some span) added new has pairs widened spans = (
    is_in new.first span.first widened.0 spans.0,
    is_in new.last span.last widened.3 spans.1,
    λ value has_value some.
        ⊎_elim
        (λ earlier. let within = spans.2 value has_value earlier in (omega (arith, ints, within.0, widened.1), omega (arith, ints, within.1, widened.4)))
        (λ last. (omega (arith, ints, widened.2, pairs.0, last.0), omega (arith, ints, widened.5, pairs.0, last.0)))
        (paired_cases value some),
  )
    where
      is_in : (value old : ℤ) → (value ≡ old) ⊎ (value ≡ added) → Has own old × IsPaired before side other old → Has own value × IsPaired (before ++ entry ∷ []) side other value
      is_in value old (inl same) was = (subst (Has own) (sym same) was.0, paired_earlier value (subst (IsPaired before side other) (sym same) was.1))
      is_in value old (inr same) was = (subst (Has own) (sym same) has, paired_last value (subst (Pairs entry side other) (sym same) pairs))

-- ---- what the constraint holds of

pub objects_paired : (entries : List FieldEntry) (values : Domain) (object : ℤ) → IsPaired entries Object values object ↔ ((w : ℤ) × Has values w × IsInTable entries object w)
objects_paired entries values object = (
  λ some. (some.0.value, some.2.1, (some.0, some.1, some.2.0, refl)),
  λ some. (some.2.0, some.2.1, (some.2.2, subst (Has values) (sym some.2.3) some.1)),
)

pub values_paired : (entries : List FieldEntry) (objects : Domain) (value : ℤ) → IsPaired entries Value objects value ↔ ((w : ℤ) × Has objects w × IsInTable entries w value)
values_paired entries objects value = (
  λ some. (some.0.object, some.2.1, (some.0, some.1, refl, some.2.0)),
  λ some. (some.2.0, some.2.1, (some.2.3, subst (Has objects) (sym some.2.2) some.1)),
)

-- ---- the entries gone through

pub taken_more : (items entries : List FieldEntry) (index : ℕ) (d : FieldEntry) → items ≡ entries → index < length items → take index entries ++ get_or items index d ∷ [] ≡ take (index + 1) entries
taken_more items entries index d same within = subst (λ list. take index list ++ get_or items index d ∷ [] ≡ take (index + 1) list) same (sym (take_more items index d within))
