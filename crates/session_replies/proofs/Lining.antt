-- Lines for the items of a list.
use Rattle.std.proofs.Common.{◌≡◌, ℕ, ◌+◌, ◌<◌, ◌≤◌, List, [], ◌∷◌, ◌++◌, length, take, get_or, Result, Ok, Err, sym, ap, ◌∙◌, subst, append_assoc, codes}
use Rattle.std.specs.Prelude.{OnOk}
use Rattle.std.specs.Fmt.{decimal}
use Rattle.std.specs.List.{AllZip, flat_map}
use Rattle.std.proofs.lemmas.Grind.{flat_map-append}
use Rattle.std.proofs.lemmas.List.{append-nil, take_more, take_all}
use Rattle.plan_values.proofs.Valuing.{zip_length}
use Rattle.session_replies.specs.Lines.{with_line_feed}
use Rattle.session_replies.specs.Written.{Writes, WritesLine, WritesLines, WritesCounted}

pub zip_push : {X : Type 0} (P : X → List ℕ → Type 0) (xs : List X) (ys : List (List ℕ)) (x : X) (y : List ℕ) → AllZip P xs ys → P x y → AllZip P (xs ++ x ∷ []) (ys ++ y ∷ [])
zip_push P [] [] x y zip is = (is, tt)
zip_push P [] (first ∷ ys) x y zip is = absurd zip
zip_push P (first ∷ xs) [] x y zip is = absurd zip
zip_push P (first ∷ xs) (other ∷ ys) x y zip is = (zip.0, zip_push P xs ys x y zip.1 is)

-- a piece with a line feed behind it is a line
pub line_ends : (IsLine : List ℕ → Type 0) (old mid new : List ℕ) → Writes IsLine old mid → new ≡ mid ++ 10 ∷ [] → WritesLine IsLine old new
line_ends IsLine old mid new (line, (is, put)) ends = (line, (is, ends ∙ (ap (λ (bytes : List ℕ). bytes ++ 10 ∷ []) put ∙ append_assoc old line (10 ∷ []))))

module _ {X : Type 0} (P : X → List ℕ → Type 0) where
  -- no line yet
  pub no_line : (items : List X) (start : List ℕ) → WritesLines P (take 0 items) start start
  no_line items start = ([], (tt, sym (append-nil start)))

  lines_push : (lines : List (List ℕ)) (line : List ℕ) → flat_map with_line_feed (lines ++ line ∷ []) ≡ flat_map with_line_feed lines ++ with_line_feed line
  lines_push lines line = flat_map-append with_line_feed lines (line ∷ []) ∙ ap (λ last. flat_map with_line_feed lines ++ last) (append-nil (with_line_feed line))

  -- one more
  pub line_more : (items : List X) (place : ℕ) (item : X) (start old new : List ℕ) → place < length items → item ≡ get_or items place item → WritesLine (P item) old new
      → WritesLines P (take place items) start old → WritesLines P (take (place + 1) items) start new
  line_more items place item start old new within is (line, (is_line, put)) (lines, (zip, before)) =
      let next : take (place + 1) items ≡ take place items ++ item ∷ [] = take_more items place item within ∙ ap (λ x. take place items ++ x ∷ []) (sym is) in (
        lines ++ line ∷ [],
        (
          subst (λ list. AllZip P list (lines ++ line ∷ [])) (sym next) (zip_push P (take place items) lines item line zip is_line),
          put ∙ (ap (λ bytes. bytes ++ with_line_feed line) before ∙ (append_assoc start (flat_map with_line_feed lines) (with_line_feed line)
              ∙ ap (λ more. start ++ more) (sym (lines_push lines line)))),
        ),
      )

  -- all of them
  pub all_lines : (items : List X) (place : ℕ) (start new : List ℕ) → length items ≤ place → WritesLines P (take place items) start new → WritesLines P items start new
  all_lines items place start new long = subst (λ (list : List X). WritesLines P list start new) (take_all place items long)

  -- their number, and then the lines
  pub counted : {A E : Type 0} (items : List X) (word old mid new : List ℕ) (r : Result A E) → mid ≡ old ++ with_line_feed (word ++ (codes " " ++ decimal (length items)))
      → OnOk r (WritesLines P items mid new) → OnOk r (WritesCounted word P items old new)
  counted items word old mid new (Ok x) head (lines, (zip, put)) = (
    lines,
    (
      zip,
      put ∙ (ap (λ bytes. bytes ++ flat_map with_line_feed lines) head
          ∙ (append_assoc old (with_line_feed (word ++ (codes " " ++ decimal (length items)))) (flat_map with_line_feed lines)
          ∙ ap (λ (n : ℕ). old ++ (with_line_feed (word ++ (codes " " ++ decimal n)) ++ flat_map with_line_feed lines)) (zip_length P items lines zip))),
    ),
  )
  counted items word old mid new (Err e) head written = tt
