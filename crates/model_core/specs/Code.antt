-- The code of plain blocks, by which proofs tell them apart.
use Rattle.std.specs.Prelude.{◌≡◌, ℕ, refl}
use Rattle.std.proofs.Common.{sym, ap, ◌∙◌, arith}
use base.Stored.{Gv, gnil, gnum, gcons, num, Coded}
use Rattle.model_core.specs.contracts.item.Item as an_item
use Rattle.model_core.specs.contracts.rule.Guard as a_guard
use Rattle.model_core.specs.Entries.{Entries, NoEntry, WithSlot, WithLocal, WithItem, WithBranch}

-- the first of a pair
abbrev first : Gv → Gv
first gnil = gnil
first (gnum n) = gnil
first (gcons a b) = a

-- the second
abbrev rest : Gv → Gv
rest gnil = gnil
rest (gnum n) = gnil
rest (gcons a b) = b

-- a block as a tree of numbers: each entry is the number of its sort with what it has
abbrev code_of : Entries → Gv
code_of NoEntry = gnil
code_of (WithSlot slot more) = gcons (gnum 1) (gcons (code_of more) (gnum slot))
code_of (WithLocal local more) = gcons (gnum 2) (gcons (code_of more) (gnum local))
code_of (WithItem item more) = gcons (gnum 3) (gcons (code_of more) (an_item.the_row.coded.code item))
code_of (WithBranch guard then otherwise more) =
    gcons (gnum 4) (gcons (code_of more) (gcons (code_of then) (gcons (code_of otherwise) (a_guard.the_row.coded.code guard))))

-- the sort of the first entry
abbrev sort_of : Entries → ℕ
sort_of NoEntry = 0
sort_of (WithSlot slot more) = 1
sort_of (WithLocal local more) = 2
sort_of (WithItem item more) = 3
sort_of (WithBranch guard then otherwise more) = 4

coded_sort : (one : Entries) → num (first (code_of one)) ≡ sort_of one
coded_sort NoEntry = refl
coded_sort (WithSlot slot more) = refl
coded_sort (WithLocal local more) = refl
coded_sort (WithItem item more) = refl
coded_sort (WithBranch guard then otherwise more) = refl

same_sort : (one other : Entries) → code_of one ≡ code_of other → sort_of one ≡ sort_of other
same_sort one other p = sym (coded_sort one) ∙ (ap (λ g. num (first g)) p ∙ coded_sort other)

-- blocks with one code are one
pub entries_code_once : (one other : Entries) → code_of one ≡ code_of other → one ≡ other
entries_code_once NoEntry NoEntry p = refl
entries_code_once (WithSlot slot more) (WithSlot slot' others) p = λ i.
    WithSlot (ap (λ g. num (rest (rest g))) p i) (entries_code_once more others (ap (λ g. first (rest g)) p) i)
entries_code_once (WithLocal local more) (WithLocal local' others) p = λ i.
    WithLocal (ap (λ g. num (rest (rest g))) p i) (entries_code_once more others (ap (λ g. first (rest g)) p) i)
entries_code_once (WithItem item more) (WithItem item' others) p = λ i.
    WithItem (an_item.the_row.coded.inj item item' (ap (λ g. rest (rest g)) p) i)
    (entries_code_once more others (ap (λ g. first (rest g)) p) i)
entries_code_once (WithBranch guard then otherwise more) (WithBranch guard' then' otherwise' others) p = λ i.
    WithBranch (a_guard.the_row.coded.inj guard guard' (ap (λ g. rest (rest (rest (rest g)))) p) i)
    (entries_code_once then then' (ap (λ g. first (rest (rest g))) p) i)
    (entries_code_once otherwise otherwise' (ap (λ g. first (rest (rest (rest g)))) p) i)
    (entries_code_once more others (ap (λ g. first (rest g)) p) i)
entries_code_once one other p = absurd (omega (arith, same_sort one other p))

-- the code of blocks, which tells them apart
abbrev pub entries_code : Coded Entries
entries_code = record {
  code = code_of;
  inj = entries_code_once;
}
