-- Where the items of the entries of a block stand among those of a rule.
use Rattle.std.proofs.Common.{◌≡◌, ℕ, ◌+◌, ◌<◌, List, [], ◌∷◌, ◌++◌, length, get_or, drop, map, All, Some, refl, sym, ap, subst, ◌∙◌, append_assoc, length-append, arith}
use Rattle.std.specs.Prelude.{slice_get}
use Rattle.std.proofs.lemmas.List.{map-append}
use Rattle.std.proofs.lemmas.List.Elements.{All-push}
use Rattle.model_core.specs.declared.item.Item as what
use Rattle.model_core.specs.declared.rule.Entry.{Entry}
use Rattle.model_core.specs.declared.rule.Entry.TheVariants.{Slot, Local, Item, Branch}
use Rattle.model_core.specs.declared.rule.Side.TheVariants.{Then, Otherwise}
use Rattle.model_core.specs.declared.rule.Turn.{Turn}
use Rattle.model_core.specs.Block.{plain_entries}
use Rattle.model_core.specs.Entries.{Entries, NoEntry, WithSlot, WithLocal, WithItem, WithBranch}
use Rattle.model_core.specs.Lawful.{item_count}
use Rattle.model_core.specs.Numbers.{PlacedItem, items_from, turned, items_inside}
use Rattle.rule_engine.specs.declared.items.ItemAt.{ItemAt}
use Rattle.rule_engine.specs.Lists.{item_places}
use Rattle.rule_engine.specs.Places.{StandFrom, IsNumberIn}
use Rattle.rule_engine.proofs.Listing.{standing, next, item_first, item_none}

-- as many items are numbered as there are
pub all_numbered : (path : List Turn) (place : ℕ) (entries : Entries) → length (items_from path place entries) ≡ item_count entries
all_numbered path place NoEntry = refl
all_numbered path place (WithSlot slot more) = all_numbered path (place + 1) more
all_numbered path place (WithLocal local more) = all_numbered path (place + 1) more
all_numbered path place (WithItem item more) = omega (arith, all_numbered path (place + 1) more)
all_numbered path place (WithBranch guard then otherwise more) =
    let first = items_from (turned path place Then) 0 then in
    let second = items_from (turned path place Otherwise) 0 otherwise in
    let rest = items_from path (place + 1) more in
    omega (
      arith,
      length-append first (second ++ rest),
      length-append second rest,
      all_numbered (turned path place Then) 0 then,
      all_numbered (turned path place Otherwise) 0 otherwise,
      all_numbered path (place + 1) more,
    )

-- what comes behind a front
pub behind : (items : List PlacedItem) (n m : ℕ) (front rest : List PlacedItem) → length front ≡ m → StandFrom items n (front ++ rest) → StandFrom items (n + m) rest
behind items n m front rest long stands = record {
  before = stands.before ++ front;
  after = stands.after;
  are = stands.are ∙ (ap (λ xs. stands.before ++ xs) (append_assoc front rest stands.after) ∙ sym (append_assoc stands.before front (rest ++ stands.after)));
  count = omega (arith, length-append stands.before front, stands.count, long);
}

-- the front itself
pub ahead : (items : List PlacedItem) (n : ℕ) (front rest : List PlacedItem) → StandFrom items n (front ++ rest) → StandFrom items n front
ahead items n front rest stands = record {
  before = stands.before;
  after = rest ++ stands.after;
  are = stands.are ∙ ap (λ xs. stands.before ++ xs) (append_assoc front rest stands.after);
  count = stands.count;
}

at_seam : {X : Type 0} (before : List X) (x : X) (after : List X) → slice_get (before ++ x ∷ after) (length before) ≡ Some x
at_seam [] x after = refl
at_seam (y ∷ before) x after = at_seam before x after

-- the first item of what stands from a number on has this number
pub first_there : (items : List PlacedItem) (n : ℕ) (placed : PlacedItem) (rest : List PlacedItem) → StandFrom items n (placed ∷ rest) → slice_get items n ≡ Some placed
first_there items n placed rest stands =
    subst (λ k. slice_get items k ≡ Some placed) stands.count
    (subst (λ xs. slice_get xs (length stands.before) ≡ Some placed) (sym stands.are) (at_seam stands.before placed (rest ++ stands.after)))

pub count_first : (entry : Entry) (more : List Entry) → item_count (plain_entries (entry ∷ more)) ≡ items_inside entry + item_count (plain_entries more)
count_first (Slot slot) more = omega arith
count_first (Local local) more = omega arith
count_first (Item item) more = omega arith
count_first (Branch guard then otherwise) more = omega arith

-- behind the first entry
pub stand_next : (items : List PlacedItem) (path : List Turn) (place n : ℕ) (entry : Entry) (more : List Entry) → StandFrom items n (items_from path place (plain_entries (entry ∷ more)))
    → StandFrom items (n + items_inside entry) (items_from path (place + 1) (plain_entries more))
stand_next items path place n (Slot slot) more stands = behind items n 0 [] (items_from path (place + 1) (plain_entries more)) refl stands
stand_next items path place n (Local local) more stands = behind items n 0 [] (items_from path (place + 1) (plain_entries more)) refl stands
stand_next items path place n (Item item) more stands =
    behind items n 1 (record { path = path; place = place; item = item } ∷ []) (items_from path (place + 1) (plain_entries more)) refl stands
stand_next items path place n (Branch guard then otherwise) more stands =
    let first = items_from (turned path place Then) 0 then in
    let second = items_from (turned path place Otherwise) 0 otherwise in
    let rest = items_from path (place + 1) (plain_entries more) in
    let long : length (first ++ second) ≡ item_count then + item_count otherwise =
    omega (arith, length-append first second, all_numbered (turned path place Then) 0 then, all_numbered (turned path place Otherwise) 0 otherwise) in
    behind items n (item_count then + item_count otherwise) (first ++ second) rest long
    (subst (λ xs. StandFrom items n xs) (sym (append_assoc first second rest)) stands)

module _ (entries : List Entry) (i : ℕ) (entry : Entry) (within : i < length entries) (is : entry ≡ get_or entries i entry) where
  pub count_next : item_count (plain_entries (drop i entries)) ≡ items_inside entry + item_count (plain_entries (drop (i + 1) entries))
  count_next = ap (λ xs. item_count (plain_entries xs)) (next entries i entry within is) ∙ count_first entry (drop (i + 1) entries)

  pub stand_on : (items : List PlacedItem) (path : List Turn) (n : ℕ) → StandFrom items n (items_from path i (plain_entries (drop i entries)))
      → StandFrom items (n + items_inside entry) (items_from path (i + 1) (plain_entries (drop (i + 1) entries)))
  stand_on items path n stands =
      stand_next items path i n entry (drop (i + 1) entries)
      (subst (λ xs. StandFrom items n (items_from path i (plain_entries xs))) (next entries i entry within is) stands)

  pub item_there : (items : List PlacedItem) (path : List Turn) (n : ℕ) (item : what.Item) → entry ≡ Item item
      → StandFrom items n (items_from path i (plain_entries (drop i entries))) → slice_get items n ≡ Some (record { path = path; place = i; item = item })
  item_there items path n item sort stands =
      let same : drop i entries ≡ Item item ∷ drop (i + 1) entries = next entries i entry within is ∙ ap (λ e. e ∷ drop (i + 1) entries) sort in
      first_there items n (record { path = path; place = i; item = item }) (items_from path (i + 1) (plain_entries (drop (i + 1) entries)))
      (subst (λ xs. StandFrom items n (items_from path i (plain_entries xs))) same stands)

  -- what the loop over the items keeps
  abbrev pub KeptAt : ℕ → ℕ → ℕ → ℕ → List ItemAt → Type 0
  KeptAt first total place number found =
      (number + item_count (plain_entries (drop place entries)) ≡ first + total)
      × (map (λ (each : ItemAt). each.entry) found ++ item_places place (standing (drop place entries)) ≡ item_places 0 (standing entries))
      × ((items : List PlacedItem) (path : List Turn) → StandFrom items first (items_from path 0 (plain_entries entries))
      → StandFrom items number (items_from path place (plain_entries (drop place entries))) × All (IsNumberIn items path) found)

  pub item_kept : (first total number inside : ℕ) (found news : List ItemAt) (item : what.Item) → entry ≡ Item item → inside ≡ items_inside entry
      → news ≡ found ++ record { number = number; entry = i } ∷ [] → KeptAt first total i number found → KeptAt first total (i + 1) (number + inside) news
  item_kept first total number inside found news item sort inner new kept =
      let here : ItemAt = record { number = number; entry = i } in
      let rest = item_places (i + 1) (standing (drop (i + 1) entries)) in (
        omega (arith, kept.0, count_next, inner),
        ap (λ xs. map (λ (each : ItemAt). each.entry) xs ++ rest) new ∙ (ap (λ xs. xs ++ rest) (map-append (λ (each : ItemAt). each.entry) found (here ∷ []))
            ∙ (append_assoc (map (λ (each : ItemAt). each.entry) found) (i ∷ []) rest
            ∙ (ap (λ xs. map (λ (each : ItemAt). each.entry) found ++ xs) (sym (item_first entries i entry within is item sort)) ∙ kept.1))),
        λ items path stands.
            let old = kept.2 items path stands in (
              subst (λ k. StandFrom items (number + k) (items_from path (i + 1) (plain_entries (drop (i + 1) entries)))) (sym inner) (stand_on items path number old.0),
              subst (λ xs. All (IsNumberIn items path) xs) (sym new) (All-push (IsNumberIn items path) found here old.1 (item, item_there items path number item sort old.0)),
            ),
      )

  pub none_kept : (first total number inside : ℕ) (found news : List ItemAt) → ((item : what.Item) → entry ≡ Item item → ⊥) → inside ≡ items_inside entry
      → news ≡ found → KeptAt first total i number found → KeptAt first total (i + 1) (number + inside) news
  none_kept first total number inside found news other inner new kept = (
    omega (arith, kept.0, count_next, inner),
    ap (λ xs. map (λ (each : ItemAt). each.entry) xs ++ item_places (i + 1) (standing (drop (i + 1) entries))) new
        ∙ (ap (λ xs. map (λ (each : ItemAt). each.entry) found ++ xs) (sym (item_none entries i entry within is other)) ∙ kept.1),
    λ items path stands.
        let old = kept.2 items path stands in (
          subst (λ k. StandFrom items (number + k) (items_from path (i + 1) (plain_entries (drop (i + 1) entries)))) (sym inner) (stand_on items path number old.0),
          subst (λ xs. All (IsNumberIn items path) xs) (sym new) old.1,
        ),
  )
