-- That what stands in nested blocks is lawful, told block by block and of all ways.
use Rattle.std.proofs.Common.{◌≡◌, ℕ, zero, suc, ◌+◌, ◌<◌, ◌^◌, List, [], ◌∷◌, ◌++◌, length, slice_get, Some, inl, inr, refl, sym, subst, arith}
use Rattle.std.proofs.lemmas.Bool.{cases_lt}
use Rattle.eu_name.proofs.Members.{get_within, get_below}
use Rattle.model_core.specs.declared.model.Model.{Model}
use Rattle.model_core.specs.declared.rule.Guard.{Guard}
use Rattle.model_core.specs.declared.rule.Guard.TheVariants.{Equal, Differ}
use Rattle.model_core.specs.declared.rule.Rule.{Rule}
use Rattle.model_core.specs.declared.rule.Side.{Side}
use Rattle.model_core.specs.declared.rule.Side.TheVariants.{Then, Otherwise}
use Rattle.model_core.specs.declared.rule.Turn.{Turn}
use Rattle.model_core.specs.Blocks.{Direct, OfSlot, OfLocal, OfItem, OfBranch, chosen, direct}
use Rattle.model_core.specs.Entries.{Entries, NoEntry, WithSlot, WithLocal, WithItem, WithBranch}
use Rattle.model_core.specs.Lawful.{IsLawfulEntry, IsLawfulGuard}
use Rattle.model_core.specs.Standing.{LeadsToBlock}
use Rattle.model_rules.specs.declared.names.Name.{Name}
use Rattle.model_rules.specs.Nested.{names_of, IsGuardAmong, IsSmall, AreLawfulEntries, IsLawfulBlock}
use Rattle.model_rules.proofs.Ways.{some_same, turn_more, append_assoc_turns, append_nil_turns, length_more}
use Rattle.model_rules.proofs.Seeing.{Sees, top_sees, sees_more, terms_seen, seen_terms, item_seen, seen_item}

module _ (model : Model) (pred : ℕ) (rule : Rule) where
  -- what the law asks of one block
  pub record IsFine (path : List Turn) (block : Entries) : Type 0 where
    pub deep : length path < 16
    pub entries : (place : ℕ) (what : Direct) → slice_get (direct block) place ≡ Some what → (place < 2 ^ 16) × IsLawfulEntry model pred rule path what

  -- and of a block and all that are in it
  abbrev pub AreFine : List Turn → Entries → Type 0
  AreFine base block = (inner : List Turn) (inside : Entries) → LeadsToBlock block inner inside → IsFine (base ++ inner) inside

  -- what stands in the block from a place on is lawful, and so are the blocks in it
  record AreFineFrom (base : List Turn) (rest : Entries) (skipped : ℕ) : Type 0 where
    here : (place : ℕ) (what : Direct) → slice_get (direct rest) place ≡ Some what → IsLawfulEntry model pred rule base what
    inner : (place : ℕ) (side : Side) (guard : Guard) (then otherwise : Entries) → slice_get (direct rest) place ≡ Some (OfBranch guard then otherwise)
        → AreFine (base ++ record { entry = skipped + place; side = side } ∷ []) (chosen side then otherwise)

  -- a small block is fine if all of it is from its first place on
  fine_whole : (base : List Turn) (block : Entries) → IsSmall (length base) block → AreFineFrom base block 0 → AreFine base block
  fine_whole base block small fine [] inside way =
      let P : Entries → Type 0 = λ b. IsFine (base ++ []) b in
      subst P (sym way) (let Q : List Turn → Type 0 = λ p. IsFine p block in subst Q (sym (append_nil_turns base)) (record {
        deep = small.0;
        entries = λ place what at. (let within = get_below (direct block) place what at in omega (arith, small.1, within), fine.here place what at);
      }))
  fine_whole base block small fine (turn ∷ path) inside (guard, (then, otherwise, (at, (allowed, way)))) =
      let zero_on : 0 + turn.entry ≡ turn.entry = omega arith in
      let Q : ℕ → Type 0 = λ n. AreFine (base ++ record { entry = n; side = turn.side } ∷ []) (chosen turn.side then otherwise) in
      let done = subst Q zero_on (fine.inner turn.entry turn.side guard then otherwise at) path inside way in
      let P : List Turn → Type 0 = λ p. IsFine p inside in
      subst P (append_assoc_turns base (turn ∷ []) path) done

  fine_none : (base : List Turn) (skipped : ℕ) → AreFineFrom base NoEntry skipped
  fine_none base skipped = record { here = λ place what at. cc; inner = λ place side guard then otherwise at. cc }

  -- with one entry more that is no branch
  fine_plain : (base : List Turn) (whole more : Entries) (head : Direct) (skipped : ℕ) → direct whole ≡ head ∷ direct more
      → ((guard : Guard) (then otherwise : Entries) → head ≡ OfBranch guard then otherwise → ⊥)
      → IsLawfulEntry model pred rule base head → AreFineFrom base more (skipped + 1) → AreFineFrom base whole skipped
  fine_plain base whole more head skipped is plain lawful rest = record {
    here = λ place what at. here place what (subst (λ (l : List Direct). slice_get l place ≡ Some what) is at);
    inner = λ place side guard then otherwise at. inner place side guard then otherwise (subst (λ (l : List Direct). slice_get l place ≡ Some (OfBranch guard then otherwise)) is at);
  }
    where
      here : (place : ℕ) (what : Direct) → slice_get (head ∷ direct more) place ≡ Some what → IsLawfulEntry model pred rule base what
      here zero what at = subst (IsLawfulEntry model pred rule base) (some_same head what at) lawful
      here (suc place) what at = rest.here place what at

      inner : (place : ℕ) (side : Side) (guard : Guard) (then otherwise : Entries) → slice_get (head ∷ direct more) place ≡ Some (OfBranch guard then otherwise)
          → AreFine (base ++ record { entry = skipped + place; side = side } ∷ []) (chosen side then otherwise)
      inner zero side guard then otherwise at = absurd (plain guard then otherwise (some_same head (OfBranch guard then otherwise) at))
      inner (suc place) side guard then otherwise at =
          let same : skipped + 1 + place ≡ skipped + suc place = omega arith in
          let Q : ℕ → Type 0 = λ n. AreFine (base ++ record { entry = n; side = side } ∷ []) (chosen side then otherwise) in
          subst Q same (rest.inner place side guard then otherwise at)

  -- and with one branch more
  fine_branch : (base : List Turn) (guard : Guard) (then otherwise more : Entries) (skipped : ℕ) → IsLawfulGuard model pred rule base guard
      → AreFine (base ++ record { entry = skipped; side = Then } ∷ []) then → AreFine (base ++ record { entry = skipped; side = Otherwise } ∷ []) otherwise
      → AreFineFrom base more (skipped + 1) → AreFineFrom base (WithBranch guard then otherwise more) skipped
  fine_branch base guard then otherwise more skipped lawful left right rest = record { here = here; inner = inner }
    where
      here : (place : ℕ) (what : Direct) → slice_get (OfBranch guard then otherwise ∷ direct more) place ≡ Some what → IsLawfulEntry model pred rule base what
      here zero what at = subst (IsLawfulEntry model pred rule base) (some_same (OfBranch guard then otherwise) what at) lawful
      here (suc place) what at = rest.here place what at

      sides : (side : Side) → AreFine (base ++ record { entry = skipped; side = side } ∷ []) (chosen side then otherwise)
      sides Then = left
      sides Otherwise = right

      inner : (place : ℕ) (side : Side) (guard' : Guard) (then' otherwise' : Entries) → slice_get (OfBranch guard then otherwise ∷ direct more) place ≡ Some (OfBranch guard' then' otherwise')
          → AreFine (base ++ record { entry = skipped + place; side = side } ∷ []) (chosen side then' otherwise')
      inner zero side guard' then' otherwise' at =
          let same : OfBranch guard then otherwise ≡ OfBranch guard' then' otherwise' = some_same _ _ at in
          let first : then ≡ then' = cc in
          let second : otherwise ≡ otherwise' = cc in
          let on : skipped ≡ skipped + 0 = omega arith in
          let Q : ℕ → Entries → Entries → Type 0 = λ n t o. AreFine (base ++ record { entry = n; side = side } ∷ []) (chosen side t o) in
          subst (λ (n : ℕ). Q n then' otherwise') on
          (subst (λ (t : Entries). Q skipped t otherwise') first
          (subst (λ (o : Entries). Q skipped then o) second (sides side)))
      inner (suc place) side guard' then' otherwise' at =
          let same : skipped + 1 + place ≡ skipped + suc place = omega arith in
          let Q : ℕ → Type 0 = λ n. AreFine (base ++ record { entry = n; side = side } ∷ []) (chosen side then' otherwise') in
          subst Q same (rest.inner place side guard' then' otherwise' at)

  -- ---- guards

  module _ (base : List Turn) (seen : List Name) (sees : Sees rule.top base seen) where
    guard_fine : (guard : Guard) → IsGuardAmong model pred rule seen guard → IsLawfulGuard model pred rule base guard
    guard_fine (Equal left right) are = (are.0, terms_seen rule.top base seen sees (left ∷ right ∷ []) are.1)
    guard_fine (Differ left right) are = (are.0, terms_seen rule.top base seen sees (left ∷ right ∷ []) are.1)

    fine_guard : (guard : Guard) → IsLawfulGuard model pred rule base guard → IsGuardAmong model pred rule seen guard
    fine_guard (Equal left right) are = (are.0, seen_terms rule.top base seen sees (left ∷ right ∷ []) are.1)
    fine_guard (Differ left right) are = (are.0, seen_terms rule.top base seen sees (left ∷ right ∷ []) are.1)

  -- ---- from the blocks to the ways

  -- where the rest of a block stands in it
  abbrev StandsFrom : Entries → Entries → ℕ → Type 0
  StandsFrom block rest skipped = (place : ℕ) (what : Direct) → slice_get (direct rest) place ≡ Some what → slice_get (direct block) (skipped + place) ≡ Some what

  stands_next : (block whole more : Entries) (head : Direct) (skipped : ℕ) → direct whole ≡ head ∷ direct more → StandsFrom block whole skipped → StandsFrom block more (skipped + 1)
  stands_next block whole more head skipped is stands place what at =
      let on : skipped + suc place ≡ skipped + 1 + place = omega arith in
      subst (λ (n : ℕ). slice_get (direct block) n ≡ Some what) on
      (stands (suc place) what (subst (λ (l : List Direct). slice_get l (suc place) ≡ Some what) (sym is) at))

  stands_all : (block : Entries) → StandsFrom block block 0
  stands_all block place what at =
      let on : place ≡ 0 + place = omega arith in
      subst (λ (n : ℕ). slice_get (direct block) n ≡ Some what) on at

  -- the way to a side of the branch that stands first in the rest
  side_way : (base : List Turn) (block : Entries) (guard : Guard) (then otherwise more : Entries) (skipped : ℕ) (side : Side) → LeadsToBlock rule.top base block
      → StandsFrom block (WithBranch guard then otherwise more) skipped → LeadsToBlock rule.top (base ++ record { entry = skipped; side = side } ∷ []) (chosen side then otherwise)
  side_way base block guard then otherwise more skipped side way stands =
      let on : skipped + 0 ≡ skipped = omega arith in
      turn_more rule.top base block (record { entry = skipped; side = side }) guard then otherwise way
      (subst (λ (n : ℕ). slice_get (direct block) n ≡ Some (OfBranch guard then otherwise)) on (stands 0 (OfBranch guard then otherwise) refl))

  blocks_fine : (rest : Entries) (base : List Turn) (block : Entries) (seen : List Name) (skipped : ℕ) → LeadsToBlock rule.top base block → Sees rule.top base seen
      → StandsFrom block rest skipped → AreLawfulEntries model pred rule (length base) seen rest → AreFineFrom base rest skipped
  blocks_fine NoEntry base block seen skipped way sees stands lawful = fine_none base skipped
  blocks_fine (WithSlot slot more) base block seen skipped way sees stands lawful =
      fine_plain base (WithSlot slot more) more (OfSlot slot) skipped refl (λ guard then otherwise is. cc) (get_within rule.slots slot lawful.0)
      (blocks_fine more base block seen (skipped + 1) way sees (stands_next block (WithSlot slot more) more (OfSlot slot) skipped refl stands) lawful.1)
  blocks_fine (WithLocal local more) base block seen skipped way sees stands lawful =
      fine_plain base (WithLocal local more) more (OfLocal local) skipped refl (λ guard then otherwise is. cc) (get_within rule.locals local lawful.0)
      (blocks_fine more base block seen (skipped + 1) way sees (stands_next block (WithLocal local more) more (OfLocal local) skipped refl stands) lawful.1)
  blocks_fine (WithItem item more) base block seen skipped way sees stands lawful =
      fine_plain base (WithItem item more) more (OfItem item) skipped refl (λ guard then otherwise is. cc) (lawful.0.0, item_seen rule.top base seen sees item lawful.0.1)
      (blocks_fine more base block seen (skipped + 1) way sees (stands_next block (WithItem item more) more (OfItem item) skipped refl stands) lawful.1)
  blocks_fine (WithBranch guard then otherwise more) base block seen skipped way sees stands lawful =
      let to : List Turn = base ++ record { entry = skipped; side = Then } ∷ [] in
      let other : List Turn = base ++ record { entry = skipped; side = Otherwise } ∷ [] in
      let left = side_way base block guard then otherwise more skipped Then way stands in
      let right = side_way base block guard then otherwise more skipped Otherwise way stands in
      let D : Entries → ℕ → Type 0 = λ b n. IsSmall n b × AreLawfulEntries model pred rule n (seen ++ names_of b) b in
      let deep = subst (D then) (sym (length_more base (record { entry = skipped; side = Then }))) (lawful.0.1.0, lawful.0.1.1) in
      let deep' = subst (D otherwise) (sym (length_more base (record { entry = skipped; side = Otherwise }))) (lawful.0.2.0, lawful.0.2.1) in
      fine_branch base guard then otherwise more skipped (guard_fine base seen sees guard lawful.0.0)
      (fine_whole to then deep.0
      (blocks_fine then to then (seen ++ names_of then) 0 left (sees_more rule.top base (record { entry = skipped; side = Then }) then seen left sees) (stands_all then) deep.1))
      (fine_whole other otherwise deep'.0
      (blocks_fine otherwise other otherwise (seen ++ names_of otherwise) 0 right (sees_more rule.top base (record { entry = skipped; side = Otherwise }) otherwise seen right sees) (stands_all otherwise) deep'.1))
      (blocks_fine more base block seen (skipped + 1) way sees (stands_next block (WithBranch guard then otherwise more) more (OfBranch guard then otherwise) skipped refl stands) lawful.1)

  -- ---- from the ways to the blocks

  -- a block that is fine is small
  fine_small : (base : List Turn) (block : Entries) → AreFine base block → IsSmall (length base) block
  fine_small base block fine =
      let P : List Turn → Type 0 = λ p. IsFine p block in
      let here = subst P (append_nil_turns base) (fine [] block refl) in (
        here.deep,
        elim (cases_lt (2 ^ 16) (length (direct block))) [
          | inl long ↦ (let at = get_within (direct block) (2 ^ 16) long in let past = (here.entries (2 ^ 16) at.0 at.1).0 in absurd (omega (arith, past)))
          | inr short ↦ short
        ],
      )

  -- without its first entry the rest of a block is fine
  fine_rest : (base : List Turn) (whole more : Entries) (head : Direct) (skipped : ℕ) → direct whole ≡ head ∷ direct more → AreFineFrom base whole skipped → AreFineFrom base more (skipped + 1)
  fine_rest base whole more head skipped is fine = record {
    here = λ place what at. fine.here (suc place) what (subst (λ (l : List Direct). slice_get l (suc place) ≡ Some what) (sym is) at);
    inner = λ place side guard then otherwise at.
        (let same : skipped + suc place ≡ skipped + 1 + place = omega arith in
        let Q : ℕ → Type 0 = λ n. AreFine (base ++ record { entry = n; side = side } ∷ []) (chosen side then otherwise) in
        subst Q same (fine.inner (suc place) side guard then otherwise (subst (λ (l : List Direct). slice_get l (suc place) ≡ Some (OfBranch guard then otherwise)) (sym is) at)));
  }

  -- a block that is fine is so from its first place on
  fine_parts : (base : List Turn) (block : Entries) → AreFine base block → AreFineFrom base block 0
  fine_parts base block fine = record {
    here = λ place what at. (let P : List Turn → Type 0 = λ p. IsFine p block in ((subst P (append_nil_turns base) (fine [] block refl)).entries place what at).1);
    inner = λ place side guard then otherwise at inner inside way.
        (let zero_on : place ≡ 0 + place = omega arith in
        let Q : ℕ → Type 0 = λ n. IsFine ((base ++ record { entry = n; side = side } ∷ []) ++ inner) inside in
        let P : List Turn → Type 0 = λ p. IsFine p inside in
        subst Q zero_on (subst P (sym (append_assoc_turns base (record { entry = place; side = side } ∷ []) inner))
        (fine (record { entry = place; side = side } ∷ inner) inside (guard, (then, otherwise, (at, (tt, way)))))));
  }

  fine_blocks : (rest : Entries) (base : List Turn) (block : Entries) (seen : List Name) (skipped : ℕ) → LeadsToBlock rule.top base block → Sees rule.top base seen
      → StandsFrom block rest skipped → AreFineFrom base rest skipped → AreLawfulEntries model pred rule (length base) seen rest
  fine_blocks NoEntry base block seen skipped way sees stands fine = tt
  fine_blocks (WithSlot slot more) base block seen skipped way sees stands fine =
      let at = fine.here 0 (OfSlot slot) refl in (
        get_below rule.slots slot at.0 at.1,
        fine_blocks more base block seen (skipped + 1) way sees (stands_next block (WithSlot slot more) more (OfSlot slot) skipped refl stands) (fine_rest base (WithSlot slot more) more (OfSlot slot) skipped refl fine),
      )
  fine_blocks (WithLocal local more) base block seen skipped way sees stands fine =
      let at = fine.here 0 (OfLocal local) refl in (
        get_below rule.locals local at.0 at.1,
        fine_blocks more base block seen (skipped + 1) way sees (stands_next block (WithLocal local more) more (OfLocal local) skipped refl stands) (fine_rest base (WithLocal local more) more (OfLocal local) skipped refl fine),
      )
  fine_blocks (WithItem item more) base block seen skipped way sees stands fine =
      let at = fine.here 0 (OfItem item) refl in (
        (at.0, seen_item rule.top base seen sees item at.1),
        fine_blocks more base block seen (skipped + 1) way sees (stands_next block (WithItem item more) more (OfItem item) skipped refl stands) (fine_rest base (WithItem item more) more (OfItem item) skipped refl fine),
      )
  fine_blocks (WithBranch guard then otherwise more) base block seen skipped way sees stands fine =
      let to : List Turn = base ++ record { entry = skipped; side = Then } ∷ [] in
      let other : List Turn = base ++ record { entry = skipped; side = Otherwise } ∷ [] in
      let left = side_way base block guard then otherwise more skipped Then way stands in
      let right = side_way base block guard then otherwise more skipped Otherwise way stands in
      let D : Entries → ℕ → Type 0 = λ b n. IsSmall n b × AreLawfulEntries model pred rule n (seen ++ names_of b) b in
      let on : skipped + 0 ≡ skipped = omega arith in
      let L : ℕ → Type 0 = λ n. AreFine (base ++ record { entry = n; side = Then } ∷ []) then in
      let R : ℕ → Type 0 = λ n. AreFine (base ++ record { entry = n; side = Otherwise } ∷ []) otherwise in
      let first = subst L on (fine.inner 0 Then guard then otherwise refl) in
      let second = subst R on (fine.inner 0 Otherwise guard then otherwise refl) in
      let deep = subst (D then) (length_more base (record { entry = skipped; side = Then })) (
        fine_small to then first,
        fine_blocks then to then (seen ++ names_of then) 0 left (sees_more rule.top base (record { entry = skipped; side = Then }) then seen left sees) (stands_all then) (fine_parts to then first),
      ) in
      let deep' = subst (D otherwise) (length_more base (record { entry = skipped; side = Otherwise })) (
        fine_small other otherwise second,
        fine_blocks otherwise other otherwise (seen ++ names_of otherwise) 0 right (sees_more rule.top base (record { entry = skipped; side = Otherwise }) otherwise seen right sees) (stands_all otherwise) (fine_parts other otherwise second),
      ) in (
        (fine_guard base seen sees guard (fine.here 0 (OfBranch guard then otherwise) refl), deep, deep'),
        fine_blocks more base block seen (skipped + 1) way sees (stands_next block (WithBranch guard then otherwise more) more (OfBranch guard then otherwise) skipped refl stands) (fine_rest base (WithBranch guard then otherwise more) more (OfBranch guard then otherwise) skipped refl fine),
      )

  -- ---- the top block

  pub block_fine : IsLawfulBlock model pred rule 0 [] rule.top → AreFine [] rule.top
  block_fine lawful = fine_whole [] rule.top lawful.0 (blocks_fine rule.top [] rule.top (names_of rule.top) 0 refl (top_sees rule.top) (stands_all rule.top) lawful.1)

  pub fine_block : AreFine [] rule.top → IsLawfulBlock model pred rule 0 [] rule.top
  fine_block fine = (fine_small [] rule.top fine, fine_blocks rule.top [] rule.top (names_of rule.top) 0 refl (top_sees rule.top) (stands_all rule.top) (fine_parts [] rule.top fine))
