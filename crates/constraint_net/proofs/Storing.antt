-- Constraints under the keys of a slab.
use Rattle.std.proofs.Common.{◌≡◌, ◌≢◌, ℕ, suc, ◌<◌, List, [], ◌∷◌, ◌++◌, length, get_or, refl, sym, ap, ◌∙◌, subst, arith}
use Rattle.std.specs.Prelude.{All, Option, Some, None, IsSome, MatchOption}
use Rattle.std.proofs.lemmas.List.{map-append, length_push, get_or_append_left, get_or_at}
use Rattle.std.proofs.lemmas.List.Elements.{All-push}
use Rattle.std.proofs.lemmas.List.Quantifiers.{all_pairs_push}
use Rattle.slab.specs.Slab.{Slab, get, ContainsKey, Updates}
use Rattle.constraint_net.specs.Stored.{or_any, constraints_of, IsStored}
use Rattle.constraint_net.specs.declared.constraint.Constraint.{Constraint}

-- the constraints under keys that stay are the same
same_under : (old new : Slab Constraint) (key : ℕ) (slot : Option Constraint) (keys : List ℕ) → Updates old new key slot → ((k d : ℕ) → k < length keys → get_or keys k d ≢ key) → constraints_of new keys ≡ constraints_of old keys
same_under old new key slot [] updates apart = refl
same_under old new key slot (first ∷ keys) updates apart =
    let head : or_any (get new first) ≡ or_any (get old first) = ap or_any (updates.others first (apart 0 0 (omega arith))) in
    let tail = same_under old new key slot keys updates (λ k d below. apart (suc k) d (omega arith)) in
    (λ i. head i ∷ tail i)

still_each : (old new : Slab Constraint) (key : ℕ) (slot : Option Constraint) (keys : List ℕ) → Updates old new key slot → ((k d : ℕ) → k < length keys → get_or keys k d ≢ key) → All (ContainsKey old) keys → All (ContainsKey new) keys
still_each old new key slot keys updates apart each = λ k d below. subst IsSome (sym (updates.others (get_or keys k d) (apart k d below))) (each k d below)

-- a key that is free isn't among those that are taken
free : (kept : Slab Constraint) (keys : List ℕ) (key : ℕ) → IsStored kept keys → get kept key ≡ None → (k d : ℕ) → k < length keys → get_or keys k d ≢ key
free kept keys key stored vacant k d below same = absurd (let bad = subst IsSome (ap (get kept) same ∙ vacant) (stored.each k d below) in cc bad)

pub stored_more : (old new : Slab Constraint) (keys : List ℕ) (key : ℕ) (constraint : Constraint) → IsStored old keys → get old key ≡ None → Updates old new key (Some constraint)
    → IsStored new (keys ++ key ∷ []) × (constraints_of new (keys ++ key ∷ []) ≡ constraints_of old keys ++ constraint ∷ [])
stored_more old new keys key constraint stored vacant updates =
    let apart = free old keys key stored vacant in (
      record {
        each = All-push (ContainsKey new) keys key (still_each old new key (Some constraint) keys updates apart stored.each) (subst IsSome (sym updates.changed) refl);
        once = all_pairs_push (λ one later. one ≢ later) keys key stored.once apart;
      },
      map-append (λ k. or_any (get new k)) keys (key ∷ [])
          ∙ (λ i. same_under old new key (Some constraint) keys updates apart i ++ or_any (updates.changed i) ∷ []),
    )

-- the last key is taken off
pub stored_less : (old new : Slab Constraint) (keys : List ℕ) (key : ℕ) (constraint : Constraint) → IsStored old (keys ++ key ∷ []) → get old key ≡ Some constraint → Updates old new key None
    → IsStored new keys × (constraints_of old (keys ++ key ∷ []) ≡ constraints_of new keys ++ constraint ∷ [])
stored_less old new keys key constraint stored there updates = (
  record {
    each = still_each old new key None keys updates apart (λ k d below.
        subst (ContainsKey old) (get_or_append_left keys (key ∷ []) d k below) (stored.each k d (omega (arith, below, length_push keys key))));
    once = λ i j d before within.
        (λ same. stored.once i j d before (omega (arith, within, length_push keys key))
        (get_or_append_left keys (key ∷ []) d i (omega arith) ∙ same ∙ sym (get_or_append_left keys (key ∷ []) d j within)));
  },
  map-append (λ k. or_any (get old k)) keys (key ∷ [])
      ∙ (λ i. sym (same_under old new key None keys updates apart) i ++ or_any (there i) ∷ []),
)
  where
    apart : (k d : ℕ) → k < length keys → get_or keys k d ≢ key
    apart k d below same =
        stored.once k (length keys) d below (omega (arith, length_push keys key))
        (get_or_append_left keys (key ∷ []) d k below ∙ same ∙ sym (get_or_at keys key [] d (length keys) refl))

pub has_last : (kept : Slab Constraint) (keys : List ℕ) (key : ℕ) → IsStored kept (keys ++ key ∷ []) → IsSome (get kept key)
has_last kept keys key stored = subst (ContainsKey kept) (get_or_at keys key [] 0 (length keys) refl) (stored.each (length keys) 0 (omega (arith, length_push keys key)))

-- ---- as the calls say it

pub stored_as : (old new : Slab Constraint) (keys more : List ℕ) (key : ℕ) (constraint : Constraint) → IsStored old keys → get old key ≡ None → Updates old new key (Some constraint) → more ≡ keys ++ key ∷ []
    → IsStored new more × (constraints_of new more ≡ constraints_of old keys ++ constraint ∷ [])
stored_as old new keys more key constraint stored vacant updates is =
    subst (λ list. IsStored new list × (constraints_of new list ≡ constraints_of old keys ++ constraint ∷ [])) (sym is) (stored_more old new keys key constraint stored vacant updates)

pub popped_as : (old new : Slab Constraint) (keys rest : List ℕ) (key : ℕ) (result : Option Constraint) (shown : List Constraint) → constraints_of old keys ≡ shown → IsStored old keys → keys ≡ rest ++ key ∷ [] → result ≡ get old key
    → Updates old new key None → IsStored new rest × MatchOption result ((shown ≡ []) × (constraints_of new rest ≡ shown)) (λ constraint. shown ≡ constraints_of new rest ++ constraint ∷ [])
popped_as old new keys rest key (Some constraint) shown view stored is there updates =
    let both = stored_less old new rest key constraint (subst (IsStored old) is stored) (sym there) updates in
    (both.0, sym view ∙ ap (constraints_of old) is ∙ both.1)
popped_as old new keys rest key None shown view stored is there updates =
    absurd (let bad = subst IsSome (sym there) (has_last old rest key (subst (IsStored old) is stored)) in cc bad)
