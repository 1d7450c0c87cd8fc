use Rattle.std.proofs.Common.{rules, ◌≡◌, ◌∙◌, ℤ, subst}
use Rattle.std.specs.List.Sorted.{IsPermutation}
use Rattle.std.proofs.lemmas.Fn.{always_returns_same}
use Rattle.narrow_core.proofs.Ordered.{are_orders}
use Rattle.narrow_core.specs.declared.field.FieldEntry.{FieldEntry}
use Rattle.narrow_core.proofs.field.Field.new.Goals as goal

pub invariant_of-result : goal.invariant_of-result
invariant_of-result c =
    let value : FieldEntry → ℤ = λ entry. entry.value in
    are_orders c.args.by_object.items c.sort_by_key.new.self.items c.requires
    (c.in_ok-sort_by_key.ensures.sorted value (always_returns_same _ (λ a r. r ≡ value a.0.now) _ (λ a r f' called. search rules)))
    (subst (λ items. IsPermutation items c.sort_by_key.new.self.items) (c.in_ok-by_value.ensures.items ∙ c.as_slice.ensures.value) c.in_ok-sort_by_key.ensures.permutation)
