-- What is listed under a variable, as watches come and go.
use Rattle.std.proofs.Common.{◌≡◌, ℕ, ◌-◌, ◌==◌, Bool, true, false, cond, List, [], ◌∷◌, ◌++◌, length, take, map, filter, sym, ap, ◌∙◌, refl, arith, length-append}
use Rattle.std.proofs.Math.Seq.{take-append_seam}
use Rattle.token_store.specs.Listed.{with_one_more, without_last}
use Rattle.db_store.specs.declared.watchers.Watch.{Watch}
use Rattle.db_store.specs.Stores.{blocks_watching}

module _ (watch : Watch) (variable : ℕ) where
  blocks_more : (watches : List Watch)
      → blocks_watching (watches ++ watch ∷ []) variable
      ≡ cond (watch.variable == variable) (blocks_watching watches variable ++ watch.block ∷ []) (blocks_watching watches variable)
  blocks_more [] = on (watch.variable == variable)
    where
      on : (b : Bool) → map (λ (w : Watch). w.block) (cond b (watch ∷ []) []) ≡ cond b (watch.block ∷ []) []
      on true = refl
      on false = refl
  blocks_more (first ∷ watches) =
      on (first.variable == variable) (watch.variable == variable) (filter (λ (w : Watch). w.variable == variable) watches)
      (filter (λ (w : Watch). w.variable == variable) (watches ++ watch ∷ [])) (blocks_more watches)
    where
      on : (is_first is_it : Bool) (old new : List Watch)
          → map (λ (w : Watch). w.block) new ≡ cond is_it (map (λ (w : Watch). w.block) old ++ watch.block ∷ []) (map (λ (w : Watch). w.block) old)
          → map (λ (w : Watch). w.block) (cond is_first (first ∷ new) new)
          ≡ cond is_it (map (λ (w : Watch). w.block) (cond is_first (first ∷ old) old) ++ watch.block ∷ []) (map (λ (w : Watch). w.block) (cond is_first (first ∷ old) old))
      on true true old new so_far = ap (λ list. first.block ∷ list) so_far
      on true false old new so_far = ap (λ list. first.block ∷ list) so_far
      on false is_it old new so_far = so_far

front : (list : List ℕ) (last : ℕ) → take (length (list ++ last ∷ []) - 1) (list ++ last ∷ []) ≡ list
front list last =
    let long : length (list ++ last ∷ []) - 1 ≡ length list = omega (arith, length-append list (last ∷ [])) in
    ap (λ n. take n (list ++ last ∷ [])) long ∙ take-append_seam list (last ∷ [])

module _ (old new : ℕ → List ℕ) (watches : List Watch) (watch : Watch) where
  -- where a watch comes, and is listed
  pub listed_more : (block : ℕ) (pushed : List Watch) → new ≡ with_one_more old watch.variable block → block ≡ watch.block → pushed ≡ watches ++ watch ∷ []
      → ((variable : ℕ) → old variable ≡ blocks_watching watches variable) → (variable : ℕ) → new variable ≡ blocks_watching pushed variable
  listed_more block pushed listed same are so_far variable =
      ap (λ lists. lists variable) listed
      ∙ (ap (λ list. cond (watch.variable == variable) (list ++ block ∷ []) list) (so_far variable)
      ∙ (ap (λ n. cond (watch.variable == variable) (blocks_watching watches variable ++ n ∷ []) (blocks_watching watches variable)) same
      ∙ (sym (blocks_more watch variable watches) ∙ ap (λ list. blocks_watching list variable) (sym are))))

  -- where the last watch goes, and isn't listed any more
  pub listed_less : (had : List Watch) → new ≡ without_last old watch.variable → had ≡ watches ++ watch ∷ []
      → ((variable : ℕ) → old variable ≡ blocks_watching had variable) → (variable : ℕ) → new variable ≡ blocks_watching watches variable
  listed_less had listed were so_far variable =
      ap (λ lists. lists variable) listed
      ∙ on (watch.variable == variable) (old variable) (blocks_watching watches variable)
      (so_far variable ∙ (ap (λ list. blocks_watching list variable) were ∙ blocks_more watch variable watches))
    where
      on : (is_it : Bool) (list rest : List ℕ) → list ≡ cond is_it (rest ++ watch.block ∷ []) rest → cond is_it (take (length list - 1) list) list ≡ rest
      on true list rest is = ap (λ some. take (length some - 1) some) is ∙ front rest watch.block
      on false list rest is = is
