-- Domains as they are written.
use Rattle.std.proofs.Common.{◌≡◌, ℕ, ℤ, ◌+◌, ◌<◌, ◌≤◌, List, [], ◌∷◌, ◌++◌, length, take, get_or, Result, Ok, Err, refl, sym, ap, ◌∙◌, subst, append_assoc, length-take, codes, arith}
use Rattle.std.specs.Prelude.{OnOk}
use Rattle.std.specs.List.{AllZip, flat_map}
use Rattle.std.proofs.lemmas.Grind.{flat_map-append}
use Rattle.std.proofs.lemmas.List.{append-nil, take_more, take_all}
use Rattle.domain_core.specs.Domain.{Domain, Range, Set, IsRange, IsNth, IsDomain, least, greatest, count_of}
use Rattle.eu_name.specs.declared.name.VarName.{VarName}
use Rattle.eu_name.specs.declared.name_text.NameText.{NameText}
use Rattle.eu_name.specs.Spelling.{name_spelling}
use Rattle.model_core.specs.declared.model.Model.{Model}
use Rattle.model_core.specs.declared.variable.ValueKind.{ValueKind}
use Rattle.model_core.specs.Kinds.{IsVariableOfKind}
use Rattle.model_core.specs.Lawful.{IsLawful}
use Rattle.model_core.specs.Names.{NamesVariable}
use Rattle.model_core.proofs.WellFormed.{variable_text_well_formed}
use Rattle.plan_text.specs.Values.{IsValueText}
use Rattle.plan_values.proofs.Valuing.{zip_length}
use Rattle.session_replies.specs.Lines.{spaced, printed_number, IsVariableWord, IsDomainText, IsDomainLine}
use Rattle.session_replies.specs.Written.{WritesBehind, WritesLine, WritesMembers}
use Rattle.session_replies.proofs.Lining.{zip_push}

-- ---- members

-- one word more, behind a space if it isn't the first
spaced_push : (words : List (List ℕ)) (word gap : List ℕ) → (length words ≡ 0 → gap ≡ []) → (0 < length words → gap ≡ codes " ") → spaced (words ++ word ∷ []) ≡ spaced words ++ (gap ++ word)
spaced_push [] word gap none some = append-nil word ∙ ap (λ (g : List ℕ). g ++ word) (sym (none refl))
spaced_push (first ∷ words) word gap none some =
    ap (λ (rest : List ℕ). first ++ rest) (flat_map-append (λ next. codes " " ++ next) words (word ∷ []))
    ∙ (ap (λ (rest : List ℕ). first ++ (flat_map (λ next. codes " " ++ next) words ++ rest)) (append-nil (codes " " ++ word))
    ∙ (sym (append_assoc first (flat_map (λ next. codes " " ++ next) words) (codes " " ++ word))
    ∙ ap (λ (g : List ℕ). spaced (first ∷ words) ++ (g ++ word)) (sym (some (omega arith)))))

module _ (model : Model) (kind : ValueKind) where
  pub no_member : (domain : Domain) (start : List ℕ) → (members : List ℤ) → domain ≡ Set members → WritesMembers model kind (take 0 members) start start
  no_member domain start members is = ([], (tt, sym (append-nil start)))

  member_put : (members : List ℤ) (place : ℕ) (value : ℤ) (gap start old new : List ℕ) → place < length members → get_or members place value ≡ value → (place ≡ 0 → gap ≡ []) → (0 < place → gap ≡ codes " ")
      → (word : List ℕ) × ((new ≡ old ++ (gap ++ word)) × IsValueText model kind value word) → WritesMembers model kind (take place members) start old → WritesMembers model kind (take (place + 1) members) start new
  member_put members place value gap start old new within is first later (word, (put, says)) (words, (zip, before)) =
      let next : take (place + 1) members ≡ take place members ++ value ∷ [] = take_more members place value within ∙ ap (λ (v : ℤ). take place members ++ v ∷ []) is in
      let count : length words ≡ place = omega (arith, zip_length (IsValueText model kind) (take place members) words zip, length-take place members, within) in (
        words ++ word ∷ [],
        (
          subst (λ (list : List ℤ). AllZip (IsValueText model kind) list (words ++ word ∷ [])) (sym next) (zip_push (IsValueText model kind) (take place members) words value word zip says),
          put ∙ (ap (λ (bytes : List ℕ). bytes ++ (gap ++ word)) before ∙ (append_assoc start (spaced words) (gap ++ word)
              ∙ ap (λ (more : List ℕ). start ++ more) (sym (spaced_push words word gap (λ none. first (omega (arith, count, none))) (λ some. later (omega (arith, count, some))))))),
        ),
      )

  -- one more member
  pub member_more : (domain : Domain) (place : ℕ) (value written : ℤ) (gap start old new : List ℕ) → written ≡ value → IsNth domain place value → (place ≡ 0 → gap ≡ []) → (0 < place → gap ≡ codes " ")
      → (word : List ℕ) × ((new ≡ old ++ (gap ++ word)) × IsValueText model kind written word)
      → ((members : List ℤ) → domain ≡ Set members → WritesMembers model kind (take place members) start old)
      → (members : List ℤ) → domain ≡ Set members → WritesMembers model kind (take (place + 1) members) start new
  member_more domain place value written gap start old new same is first later put before members set =
      let here = subst (λ (d : Domain). IsNth d place value) set is in
      member_put members place value gap start old new here.0 here.1 first later (subst (λ (v : ℤ). (word : List ℕ) × ((new ≡ old ++ (gap ++ word)) × IsValueText model kind v word)) same put) (before members set)

  -- all members
  pub all_members : (domain : Domain) (place : ℕ) (start new : List ℕ) → IsDomain domain → count_of domain ≤ place
      → ((members : List ℤ) → domain ≡ Set members → WritesMembers model kind (take place members) start new)
      → (members : List ℤ) → domain ≡ Set members → WritesMembers model kind members start new
  all_members domain place start new is long written members set =
      let some = (subst IsDomain set is).some in
      let many = subst (λ (d : Domain). count_of d ≤ place) set long in
      subst (λ (list : List ℤ). WritesMembers model kind list start new) (take_all place members (omega (arith, some, many))) (written members set)

  -- ---- domains

  -- the set in braces
  pub set_put : {A E : Type 0} (domain : Domain) (old opened filled new : List ℕ) (r : Result A E) → (IsRange domain → ⊥) → opened ≡ old ++ codes " {"
      → ((members : List ℤ) → domain ≡ Set members → WritesMembers model kind members opened filled) → OnOk r (new ≡ filled ++ codes "}") → OnOk r (WritesBehind (codes " ") (IsDomainText model kind domain) old new)
  set_put (Range lo hi) old opened filled new (Ok x) set begun written close = absurd (set tt)
  set_put (Set members) old opened filled new (Ok x) set begun written close =
      let (words, (zip, put)) = written members refl in (
        codes "{" ++ (spaced words ++ codes "}"),
        (
          (words, (zip, refl)),
          close ∙ (ap (λ (bytes : List ℕ). bytes ++ codes "}") (put ∙ ap (λ (bytes : List ℕ). bytes ++ spaced words) begun)
              ∙ (append_assoc (old ++ codes " {") (spaced words) (codes "}") ∙ append_assoc old (codes " {") (spaced words ++ codes "}"))),
        ),
      )
  set_put domain old opened filled new (Err e) set begun written close = tt

  pub range_is : {A E : Type 0} (domain : Domain) (old new : List ℕ) (r : Result A E) → IsRange domain
      → OnOk r (new ≡ old ++ (codes " [" ++ (printed_number kind (least domain) ++ (codes " " ++ (printed_number kind (greatest domain) ++ codes "]")))))
      → OnOk r (WritesBehind (codes " ") (IsDomainText model kind domain) old new)
  range_is (Range lo hi) old new (Ok x) range put = (codes "[" ++ (printed_number kind lo ++ (codes " " ++ (printed_number kind hi ++ codes "]"))), (refl, put))
  range_is (Set members) old new (Ok x) range put = absurd range
  range_is domain old new (Err e) range put = tt

-- the ends in brackets
pub range_put : {A E : Type 0} (kind : ValueKind) (domain : Domain) (lo hi : ℤ) (old low high new : List ℕ) (r : Result A E) → lo ≡ least domain → hi ≡ greatest domain
    → low ≡ old ++ (codes " [" ++ printed_number kind lo) → high ≡ low ++ (codes " " ++ printed_number kind hi) → OnOk r (new ≡ high ++ codes "]")
    → OnOk r (new ≡ old ++ (codes " [" ++ (printed_number kind (least domain) ++ (codes " " ++ (printed_number kind (greatest domain) ++ codes "]")))))
range_put kind domain lo hi old low high new (Ok x) is_low is_high first second third =
    third ∙ (ap (λ (bytes : List ℕ). bytes ++ codes "]") (second ∙ ap (λ (bytes : List ℕ). bytes ++ (codes " " ++ printed_number kind hi)) first)
    ∙ (append_assoc (old ++ (codes " [" ++ printed_number kind lo)) (codes " " ++ printed_number kind hi) (codes "]")
    ∙ (append_assoc old (codes " [" ++ printed_number kind lo) ((codes " " ++ printed_number kind hi) ++ codes "]")
    ∙ (ap (λ (bytes : List ℕ). old ++ bytes) (append_assoc (codes " [") (printed_number kind lo) ((codes " " ++ printed_number kind hi) ++ codes "]"))
    ∙ (ap (λ (bytes : List ℕ). old ++ (codes " [" ++ (printed_number kind lo ++ bytes))) (append_assoc (codes " ") (printed_number kind hi) (codes "]"))
    ∙ (ap (λ (v : ℤ). old ++ (codes " [" ++ (printed_number kind v ++ (codes " " ++ (printed_number kind hi ++ codes "]"))))) is_low
    ∙ ap (λ (v : ℤ). old ++ (codes " [" ++ (printed_number kind (least domain) ++ (codes " " ++ (printed_number kind v ++ codes "]"))))) is_high))))))
range_put kind domain lo hi old low high new (Err e) is_low is_high first second third = tt

-- a text that names the variable, as a word
pub variable_word : (model : Model) (name : VarName) (text : NameText) → IsLawful model → NamesVariable model text name → IsVariableWord model name (name_spelling text)
variable_word model name text lawful names = (text, ((variable_text_well_formed model text name lawful names, refl), names))

-- the variable with its domain
pub domain_line_put : {A E : Type 0} (model : Model) (name : VarName) (domain : Domain) (kind : ValueKind) (old named shown new : List ℕ) (r : Result A E) → IsLawful model → IsVariableOfKind model kind name
    → (text : NameText) × ((named ≡ old ++ name_spelling text) × NamesVariable model text name) → WritesBehind (codes " ") (IsDomainText model kind domain) named shown → OnOk r (new ≡ shown ++ 10 ∷ [])
    → OnOk r (WritesLine (IsDomainLine model name domain) old new)
domain_line_put model name domain kind old named shown new (Ok x) lawful of (text, (first, names)) (body, (is_body, second)) third = (
  name_spelling text ++ (codes " " ++ body),
  (
    (name_spelling text, (variable_word model name text lawful names, (kind, (of, (body, (is_body, refl)))))),
    third ∙ (ap (λ (bytes : List ℕ). bytes ++ 10 ∷ []) (second ∙ (ap (λ (bytes : List ℕ). bytes ++ (codes " " ++ body)) first ∙ append_assoc old (name_spelling text) (codes " " ++ body)))
        ∙ append_assoc old (name_spelling text ++ (codes " " ++ body)) (10 ∷ [])),
  ),
)
domain_line_put model name domain kind old named shown new (Err e) lawful of first second third = tt
