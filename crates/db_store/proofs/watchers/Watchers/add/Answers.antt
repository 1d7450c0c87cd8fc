use Rattle.std.proofs.Common.{ℕ, [], ◌∷◌, ◌++◌, ◌∙◌, ap, sym, refl}
use Rattle.token_store.specs.Listed.{lists_of, with_one_more}
use Rattle.db_store.specs.declared.watchers.Watch.{Watch}
use Rattle.db_store.specs.Stores.{blocks_watching}
use Rattle.db_store.proofs.Listing.{listed_more}
use Rattle.db_store.proofs.watchers.Watchers.add.Goals as goal

pub invariant_of-self-in_err-add : goal.invariant_of-self-in_err-add
invariant_of-self-in_err-add c = λ variable.
    ap (λ lists. lists variable) c.in_err-add.ensures.err
    ∙ (c.self.invariant variable ∙ sym (ap (λ items. blocks_watching items variable) c.in_ok-reserve.ensures.items))

pub invariant_of-self-2 : goal.invariant_of-self-2
invariant_of-self-2 c =
    let watch : Watch = record { variable = c.in_ok-short.field-0; block = c.in_ok-short-2.field-0 } in
    let old = lists_of c.self.inside.lists in
    listed_more old (lists_of c.add.new.self) c.self.inside.watches.items watch watch.block c.push_reserved.new.self.items
    (c.in_ok-add.ensures.ok ∙ ap (λ (under : ℕ). with_one_more old under watch.block) (sym c.in_ok-short.ensures.kept)) refl
    (c.push_reserved.ensures.items ∙ ap (λ items. items ++ watch ∷ []) c.in_ok-reserve.ensures.items) c.self.invariant
