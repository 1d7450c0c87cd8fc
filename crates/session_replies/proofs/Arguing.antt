-- Constraints and relations as the commands that post them.
use Rattle.std.proofs.Common.{◌≡◌, ℕ, ◌+◌, ◌<◌, ◌≤◌, ℤ, Option, Some, None, List, [], ◌∷◌, ◌++◌, length, take, get_or, Result, Ok, Err, refl, sym, ap, ◌∙◌, subst, append_assoc, length-take, codes, w32, to_z, of_z, arith}
use Rattle.std.specs.Prelude.{OnOk, All}
use Rattle.std.specs.List.{AllZip, flat_map}
use Rattle.std.proofs.lemmas.Grind.{flat_map-append}
use Rattle.std.proofs.lemmas.Int.{ints}
use Rattle.std.proofs.lemmas.List.{append-nil, take_more, take_all}
use Rattle.std.proofs.lemmas.Option.{get_or_from_slice_get}
use Rattle.domain_core.specs.declared.kind.Kind.{Kind}
use Rattle.eu_name.specs.declared.name.TokenName.{TokenName}
use Rattle.eu_name.proofs.Members.{get_within}
use Rattle.model_core.specs.declared.decision.ConArg.{ConArg}
use Rattle.model_core.specs.declared.decision.ConArg.TheVariants.{Var, Value}
use Rattle.model_core.specs.declared.item.Rel.{Rel}
use Rattle.model_core.specs.declared.model.Model.{Model}
use Rattle.model_core.specs.declared.variable.ValueKind.{ValueKind}
use Rattle.model_core.specs.Kinds.{IsValueOf}
use Rattle.model_core.specs.Lawful.{IsLawful, IsLawfulArgument}
use Rattle.plan_defs.proofs.Members.{all_from_get}
use Rattle.script_lang.specs.Compared.{compared, IsFirstKind, kind_at, AllPlaced}
use Rattle.script_lang.specs.KindWords.{constraint_word, relation_word}
use Rattle.script_lang.proofs.Arguing.{SameVariable, first_kind_once}
use Rattle.script_lang.proofs.Placed.{placed_push}
use Rattle.script_lang.proofs.Standing.{value_within}
use Rattle.session_replies.specs.Lines.{IsArgumentText, IsLineOnTokens, IsPostLine, IsRelateLine}
use Rattle.session_replies.specs.Writable.{IsArgumentWritable, IsPostWritable}
use Rattle.session_replies.specs.Written.{Writes, WritesBehind, WritesArguments}

themselves : (arguments : List ConArg) → AllZip SameVariable arguments arguments
themselves [] = tt
themselves (Var name ∷ arguments) = (refl, themselves arguments)
themselves (Value value ∷ arguments) = (tt, themselves arguments)

module _ (model : Model) where
  -- the arguments are such as the model has
  pub writable_lawful : (kind : Kind) (arguments : List ConArg) → IsLawful model → IsPostWritable model kind arguments → All (IsLawfulArgument model) arguments
  writable_lawful kind arguments lawful writable = all_from_get (IsLawfulArgument model) arguments (λ place argument at. one (kind_at kind writable.among place) argument (writable.each place argument at))
    where
      one : (read : Option ValueKind) (argument : ConArg) → IsArgumentWritable model read argument → IsLawfulArgument model argument
      one read (Var name) based = based
      one (Some read) (Value value) of = value_within model lawful read value of
      one None (Value value) of = absurd of

  -- the argument can be written in the kind that was found
  pub writable_at : (kind : Kind) (arguments : List ConArg) (among : Option ValueKind) (place : ℕ) (argument : ConArg) → IsPostWritable model kind arguments → IsFirstKind model (compared kind arguments) among
      → place < length arguments → argument ≡ get_or arguments place argument → IsArgumentWritable model (kind_at kind among place) argument
  writable_at kind arguments among place argument writable is within at =
      let found = get_within arguments place within in
      let same : found.0 ≡ argument = sym (get_or_from_slice_get arguments place found.0 argument found.1) ∙ sym at in
      let kinds : writable.among ≡ among = first_kind_once model (compared kind arguments) (compared kind arguments) writable.among among (themselves (compared kind arguments)) writable.is_among is in
      subst (λ (read : Option ValueKind). IsArgumentWritable model (kind_at kind read place) argument) kinds
      (subst (IsArgumentWritable model (kind_at kind writable.among place)) same (writable.each place found.0 found.1))

  -- a value that can be written, in its kind
  pub value_there : (kind : Option ValueKind) (read : ValueKind) (argument : ConArg) (value : ℤ) → argument ≡ Value value → kind ≡ Some read → IsArgumentWritable model kind argument → IsValueOf model read value
  value_there kind read argument value is of writable =
      let here : IsArgumentWritable model kind (Value value) = subst (IsArgumentWritable model kind) is writable in
      subst (λ (k : Option ValueKind). IsArgumentWritable model k (Value value)) of here

  pub no_kind : (kind : Option ValueKind) (argument : ConArg) (value : ℤ) → argument ≡ Value value → kind ≡ None → IsArgumentWritable model kind argument → ⊥
  no_kind kind argument value is of writable =
      let here : IsArgumentWritable model kind (Value value) = subst (IsArgumentWritable model kind) is writable in
      subst (λ (k : Option ValueKind). IsArgumentWritable model k (Value value)) of here

  -- it is one that the code keeps
  pub value_kept : (read : ValueKind) (value : ℤ) → IsLawful model → IsValueOf model read value → to_z w32 (of_z w32 value) ≡ value
  value_kept read value lawful of = let is = value_within model lawful read value of in omega (arith, ints, is.0, is.1)

  -- an argument that is this one
  pub argument_is : {A E : Type 0} (kind : Option ValueKind) (argument same : ConArg) (old new : List ℕ) (r : Result A E) → argument ≡ same → OnOk r (WritesBehind (codes " ") (IsArgumentText model kind same) old new)
      → OnOk r (WritesBehind (codes " ") (IsArgumentText model kind argument) old new)
  argument_is kind argument same old new r is = subst (λ (a : ConArg). OnOk r (WritesBehind (codes " ") (IsArgumentText model kind a) old new)) (sym is)

  -- a value in the kind in which it is read
  pub value_put : {A E : Type 0} (kind : Option ValueKind) (read : ValueKind) (value written : ℤ) (old new : List ℕ) (r : Result A E) → kind ≡ Some read → written ≡ value
      → OnOk r ((word : List ℕ) × ((new ≡ old ++ (codes " " ++ word)) × IsArgumentText model (Some read) (Value written) word))
      → OnOk r (WritesBehind (codes " ") (IsArgumentText model kind (Value value)) old new)
  value_put kind read value written old new (Ok x) is same (word, (put, says)) =
      (word, (subst (λ (k : Option ValueKind). IsArgumentText model k (Value value) word) (sym is) (subst (λ (v : ℤ). IsArgumentText model (Some read) (Value v) word) same says), put))
  value_put kind read value written old new (Err e) is same put = tt

  module _ (kind : Kind) (among : Option ValueKind) (arguments : List ConArg) where
    pub no_argument : (start : List ℕ) → WritesArguments model kind among (take 0 arguments) start start
    no_argument start = ([], (tt, sym (append-nil start)))

    -- one more
    pub argument_more : (place : ℕ) (argument : ConArg) (start old new : List ℕ) → place < length arguments → argument ≡ get_or arguments place argument
        → WritesBehind (codes " ") (IsArgumentText model (kind_at kind among place) argument) old new
        → WritesArguments model kind among (take place arguments) start old → WritesArguments model kind among (take (place + 1) arguments) start new
    argument_more place argument start old new within is (word, (says, put)) (words, (are, before)) =
        let next : take (place + 1) arguments ≡ take place arguments ++ argument ∷ [] = take_more arguments place argument within ∙ ap (λ (a : ConArg). take place arguments ++ a ∷ []) (sym is) in
        let long : length (take place arguments) ≡ place = omega (arith, length-take place arguments, within) in
        let more : flat_map (λ (w : List ℕ). codes " " ++ w) (words ++ word ∷ []) ≡ flat_map (λ (w : List ℕ). codes " " ++ w) words ++ (codes " " ++ word) =
        flat_map-append (λ (w : List ℕ). codes " " ++ w) words (word ∷ []) ∙ ap (λ (last : List ℕ). flat_map (λ (w : List ℕ). codes " " ++ w) words ++ last) (append-nil (codes " " ++ word)) in (
          words ++ word ∷ [],
          (
            subst (λ (list : List ConArg). AllPlaced (λ n. IsArgumentText model (kind_at kind among n)) 0 list (words ++ word ∷ [])) (sym next)
                (placed_push (λ n. IsArgumentText model (kind_at kind among n)) 0 (take place arguments) words argument word are
                (subst (λ (n : ℕ). IsArgumentText model (kind_at kind among n) argument word) (omega (arith, long)) says)),
            put ∙ (ap (λ (bytes : List ℕ). bytes ++ (codes " " ++ word)) before
                ∙ (append_assoc start (flat_map (λ (w : List ℕ). codes " " ++ w) words) (codes " " ++ word) ∙ ap (λ (bytes : List ℕ). start ++ bytes) (sym more))),
          ),
        )

    -- all of them
    pub all_arguments : (place : ℕ) (start new : List ℕ) → length arguments ≤ place → WritesArguments model kind among (take place arguments) start new → WritesArguments model kind among arguments start new
    all_arguments place start new long = subst (λ (list : List ConArg). WritesArguments model kind among list start new) (take_all place arguments long)

  -- the whole command
  pub post_put : {A E : Type 0} (kind : Kind) (arguments : List ConArg) (word old mid new : List ℕ) (r : Result A E) → word ≡ constraint_word kind → IsPostWritable model kind arguments → mid ≡ old ++ (codes "post " ++ word)
      → OnOk r ((among : Option ValueKind) × (IsFirstKind model (compared kind arguments) among × WritesArguments model kind among arguments mid new))
      → OnOk r (Writes (IsPostLine model kind arguments) old new)
  post_put kind arguments word old mid new (Ok x) same writable first (among, (is_among, (words, (are, put)))) = (
    (codes "post " ++ constraint_word kind) ++ flat_map (λ (w : List ℕ). codes " " ++ w) words,
    (
      record { posted = writable.posted; some = writable.some; among = among; is_among = is_among; words = words; are = are; whole = refl },
      put ∙ (ap (λ (bytes : List ℕ). bytes ++ flat_map (λ (w : List ℕ). codes " " ++ w) words) (first ∙ ap (λ (w : List ℕ). old ++ (codes "post " ++ w)) same)
          ∙ append_assoc old (codes "post " ++ constraint_word kind) (flat_map (λ (w : List ℕ). codes " " ++ w) words)),
    ),
  )
  post_put kind arguments word old mid new (Err e) same writable first second = tt

  pub relate_put : {A E : Type 0} (relation : Rel) (word : List ℕ) (one other : TokenName) (old mid new : List ℕ) (r : Result A E) → word ≡ relation_word relation → mid ≡ old ++ codes "relate "
      → OnOk r (Writes (IsLineOnTokens model word one other) mid new) → OnOk r (Writes (IsRelateLine model relation one other) old new)
  relate_put relation word one other old mid new (Ok x) same first (rest, (is, put)) = (
    codes "relate " ++ rest,
    (
      (rest, (subst (λ (w : List ℕ). IsLineOnTokens model w one other rest) same is, refl)),
      put ∙ (ap (λ (bytes : List ℕ). bytes ++ rest) first ∙ append_assoc old (codes "relate ") rest),
    ),
  )
  relate_put relation word one other old mid new (Err e) same first second = tt
