-- What passes a test comes to the front of a list, and what the set keeps of it.
use Rattle.std.proofs.Common.{◌≡◌, ℕ, ◌+◌, ◌<◌, ◌≤◌, List, [], ◌∷◌, ◌++◌, length, get_or, set, take, drop, ℤ, ◌<ℤ◌, ⊎_elim, inl, inr, sym, ap, ◌∙◌, subst, arith}
use Rattle.std.specs.Prelude.{Contains}
use Rattle.std.proofs.lemmas.Int.{ints}
use Rattle.std.proofs.lemmas.List.{get_or-drop, set-get_or, take_all, take_more, take_more_set, drop-set-lt, drop-drop, length-set, length-take-le, get_or-take, get_or_default}
use Rattle.std.proofs.lemmas.List.Elements.{Contains-get_or, Contains-append_left, Contains-push, Contains-push_cases}
use Rattle.std.proofs.lemmas.List.Quantifiers.{all_pairs_push}
use Rattle.domain_core.specs.Domain.{Domain, Set, AreAscending, AreMembers}
use Rattle.domain_core.specs.Narrowing.{Keeps, Sieves, IsPart, IsSievedPart}
use Rattle.domain_core.specs.declared.Change.{Change}
use Rattle.domain_core.specs.declared.Change.TheVariants.{Same, Smaller, Empty}
use Rattle.domain_core.specs.Lists.{KeepsFront, LeavesFront}
use Rattle.domain_core.proofs.Parts.{part_members}

-- ---- a part grows with the list

module _ (passed failed : ℤ → Type 0) (old new : List ℤ) (x : ℤ) (part : IsSievedPart passed failed old new) where
  from_earlier : (value : ℤ) → Contains new value → Contains (old ++ x ∷ []) value × passed value
  from_earlier value has = let both = part.from value has in (Contains-append_left old (x ∷ []) value both.0, both.1)

  pub part_taken : passed x → ((value : ℤ) → Contains old value → value <ℤ x) → IsSievedPart passed failed (old ++ x ∷ []) (new ++ x ∷ [])
  part_taken pass above = record {
    ascending = all_pairs_push (λ one later. one <ℤ later) new x part.ascending (λ k d within. above (get_or new k d) (part.from (get_or new k d) (Contains-get_or new k d within)).0);
    from = λ value has.
        ⊎_elim
        (λ earlier. from_earlier value earlier)
        (λ last. (subst (Contains (old ++ x ∷ [])) last (Contains-push old x), subst passed last pass))
        (Contains-push_cases new x value has);
    each = λ value has.
        ⊎_elim
        (λ earlier. ⊎_elim (λ kept. inl (Contains-append_left new (x ∷ []) value kept)) (λ fail. inr fail) (part.each value earlier))
        (λ last. inl (subst (Contains (new ++ x ∷ [])) last (Contains-push new x)))
        (Contains-push_cases old x value has);
  }

  pub part_left_out : failed x → IsSievedPart passed failed (old ++ x ∷ []) new
  part_left_out fail = record {
    ascending = part.ascending;
    from = from_earlier;
    each = λ value has.
        ⊎_elim
        (λ earlier. part.each value earlier)
        (λ last. inr (subst failed last fail))
        (Contains-push_cases old x value has);
  }

-- ---- one pass over a list, with a test

-- how far the pass has come: of the first `read` numbers those that pass stand in front, and the rest is as it was
pub record Sifted (passed failed : ℤ → Type 0) (old new : List ℤ) (kept read : ℕ) : Type 0 where
  pub part : IsSievedPart passed failed (take read old) (take kept new)
  pub rest : drop read new ≡ drop read old
  pub behind : kept ≤ read
  pub within : read ≤ length old
  pub long : length new ≡ length old
  pub none : kept ≡ 0 → new ≡ old
  pub all : kept ≡ read → new ≡ old

module _ (passed failed : ℤ → Type 0) (old new : List ℤ) (kept read : ℕ) (x : ℤ)
    (ascending : AreAscending old) (sifted : Sifted passed failed old new kept read) (inside : read < length new) (read_is : x ≡ get_or new read x) where
  -- what is read is still what stood there
  pub was_there : get_or old read x ≡ x
  was_there =
      let here = get_or-drop read new 0 x in
      let there = get_or-drop read old 0 x in
      let plain : read + 0 ≡ read = omega arith in
      sym (there ∙ ap (λ k. get_or old k x) plain) ∙ ap (λ list. get_or list 0 x) (sym sifted.rest) ∙ (here ∙ ap (λ k. get_or new k x) plain) ∙ sym read_is

  old_inside : read < length old
  old_inside = omega (arith, sifted.long, inside)

  one_more : take (read + 1) old ≡ take read old ++ x ∷ []
  one_more = take_more old read x old_inside ∙ ap (λ y. take read old ++ y ∷ []) was_there

  above_earlier : (value : ℤ) → Contains (take read old) value → value <ℤ x
  above_earlier value has =
      let place : has.0 < read = omega (arith, has.1, length-take-le read old (omega (arith, old_inside))) in
      let at : get_or old has.0 value ≡ value = sym (get_or-take read old has.0 value place) ∙ has.2 in
      let less = ascending has.0 read value place old_inside in
      let here = get_or_default old read value x old_inside ∙ was_there in
      omega (arith, ints, less, at, here)

  rest_later : drop (read + 1) new ≡ drop (read + 1) old
  rest_later = sym (drop-drop 1 read new) ∙ ap (drop 1) sifted.rest ∙ drop-drop 1 read old

  pub sifted_take : passed x → Sifted passed failed old (set new kept x) (kept + 1) (read + 1)
  sifted_take pass = record {
    part = rw (one_more, take_more_set new kept x (omega (arith, sifted.behind, inside))) (part_taken passed failed (take read old) (take kept new) x sifted.part pass above_earlier);
    rest = drop-set-lt (read + 1) new kept x (omega (arith, sifted.behind)) ∙ rest_later;
    behind = omega (arith, sifted.behind);
    within = omega (arith, old_inside);
    long = length-set new kept x ∙ sifted.long;
    none = λ zero_is. absurd (omega arith);
    all = λ caught_up.
        let e : kept ≡ read = omega arith in
        ap (λ k. set new k x) e ∙ ap (set new read) read_is ∙ set-get_or new read x ∙ sifted.all e;
  }

  pub sifted_leave : failed x → Sifted passed failed old new kept (read + 1)
  sifted_leave fails = record {
    part = rw one_more (part_left_out passed failed (take read old) (take kept new) x sifted.part fails);
    rest = rest_later;
    behind = omega (arith, sifted.behind);
    within = omega (arith, old_inside);
    long = sifted.long;
    none = sifted.none;
    all = λ caught_up. absurd (omega (arith, sifted.behind));
  }

-- at the end what passes stands in front
pub sifted_all : (passed failed : ℤ → Type 0) (old new : List ℤ) (kept read : ℕ) → Sifted passed failed old new kept read → length old ≤ read → KeepsFront passed failed old kept new
sifted_all passed failed old new kept read sifted through = record {
  few = omega (arith, sifted.behind, sifted.within);
  long = sifted.long;
  part = subst (λ list. IsSievedPart passed failed list (take kept new)) (take_all read old through) sifted.part;
  none = sifted.none;
  all = λ full. sifted.all (omega (arith, full, sifted.within));
}

-- ---- what the set keeps of it

-- of a part that was found by a test, where the test finds what passes
pub sieves_keeps : (passed failed passes : ℤ → Type 0) (old new : Domain) (change : Change) → ((value : ℤ) → passed value → passes value) → ((value : ℤ) → failed value → passes value → ⊥)
    → Sieves passed failed old change new → Keeps passes old change new
sieves_keeps passed failed passes old new Same right wrong sieved = (sieved.0, λ value tested. right value (sieved.1 value tested))
sieves_keeps passed failed passes old new Smaller right wrong sieved = (
  record {
    within = sieved.0.within;
    kept = λ value has pass. ⊎_elim (λ kept. kept) (λ fail. absurd (wrong value fail pass)) (sieved.0.each value has);
    tested = λ value tested. right value (sieved.0.tested value tested);
  },
  sieved.1,
)
sieves_keeps passed failed passes old new Empty right wrong sieved = (sieved.0, λ value has pass. wrong value (sieved.1 value has) pass)

module _ (passed failed : ℤ → Type 0) (old moved : List ℤ) (kept : ℕ) (front : KeepsFront passed failed old kept moved) where
  length_kept : length (take kept moved) ≡ kept
  length_kept = length-take-le kept moved (omega (arith, front.few, front.long))

  -- it is the part of what stands there
  part : IsPart (Contains (take kept moved)) old (take kept moved)
  part = record { ascending = front.part.ascending; items = λ value. (λ has. ((front.part.from value has).0, has), λ both. both.1) }

  pub front_sieves : (change : Change) (new : List ℤ) → LeavesFront kept moved change new → Sieves passed failed (Set old) change (Set new)
  front_sieves Same new cut =
      let same = front.all (omega (arith, cut.1, front.long)) in
      (ap Set (cut.0 ∙ same), λ value has. (front.part.from value (subst (λ list. Contains list value) (sym (take_all kept moved (omega (arith, cut.1)))) (subst (λ list. Contains list value) (sym same) has))).1)
  front_sieves Smaller new cut =
      subst (λ list. Sieves passed failed (Set old) Smaller (Set list)) (sym cut.0) (
        record {
          within = record { kind = tt; values = λ value has. (front.part.from value has).0 };
          each = front.part.each;
          tested = λ value has. (front.part.from value has).1;
        },
        omega (arith, cut.1, cut.2, length_kept, front.few, front.long),
      )
  front_sieves Empty new cut = (
    ap Set (cut.0 ∙ front.none cut.1),
    λ value has. ⊎_elim (λ c. absurd (omega (arith, c.1, length_kept, cut.1))) (λ fail. fail) (front.part.each value has),
  )

  pub front_members : AreMembers old → (change : Change) (new : List ℤ) → LeavesFront kept moved change new → AreMembers new
  front_members are Same new cut = subst AreMembers (sym (cut.0 ∙ front.all (omega (arith, cut.1, front.long)))) are
  front_members are Smaller new cut = subst AreMembers (sym cut.0) (part_members (Contains (take kept moved)) old (take kept moved) part are (omega (arith, cut.1, length_kept)))
  front_members are Empty new cut = subst AreMembers (sym (cut.0 ∙ front.none cut.1)) are
