-- Names that are noted, and what is said of those that aren't told a second time.
use Rattle.std.proofs.Common.{◌≡◌, ◌≢◌, ℕ, Bool, true, false, List, [], ◌∷◌, map, refl, sym, ◌∙◌, ap, subst}
use Rattle.std.specs.Prelude.{Option, Some, None, is_some, if◌then◌else◌}
use Rattle.std.specs.List.{AllByRecursion}
use Rattle.std.specs.Option.{option_or}
use Rattle.std.specs.Str.{bytes_eq}
use Rattle.nddl_ast.specs.declared.kind.TextKind.TheVariants as kinds
use Rattle.nddl_ast.specs.declared.name.Name.{Name}
use Rattle.eu_index.specs.Index.{Noted, noted_number, with_noted}
use Rattle.nddl_symbols.specs.Repeats.{repeated_fault, repeated_faults}
use Rattle.nddl_symbols.specs.Scope.{fault_if}
use Rattle.eu_index.proofs.Indexes.{noted_with}
use Rattle.nddl_hierarchy.proofs.Noting.{IsNoted, newly_noted}
use Rattle.nddl_laws.proofs.Apart.{AreOnce, all_weaker}
use Rattle.nddl_laws.proofs.Values.{no_fault, not_so}
use Rattle.nddl_laws.proofs.Nothing.{none_first, none_second}

-- what isn't noted with one more wasn't before, and is another
not_noted : (noted : Noted) (name other : List ℕ) → is_some (noted_number (with_noted noted name 0) other) ≡ false
    → (is_some (noted_number noted other) ≡ false) × (name ≢ other)
not_noted noted name other is = (
  by (noted_number noted other) (sym (ap is_some (noted_with noted name other 0)) ∙ is),
  λ same.
      let P : List ℕ → Type 0 = λ n. IsNoted (with_noted noted name 0) n in
      let told : IsNoted (with_noted noted name 0) other = subst P same (newly_noted noted name) in
      let e : true ≡ false = sym told ∙ is in cc,
)
  where
    by : (o : Option ℕ) → is_some (option_or o (if bytes_eq other name then Some 0 else None)) ≡ false → is_some o ≡ false
    by None is = refl
    by (Some number) is = absurd (let e : true ≡ false = is in cc)

-- none of them was noted before, and they differ
pub record AreNew (noted : Noted) (some : List Name) : Type 0 where
  pub new : AllByRecursion (λ name. is_some (noted_number noted name.text) ≡ false) some
  pub once : AreOnce (map (λ name. name.text) some)

head_differs : (noted : Noted) (name : Name) (some : List Name)
    → AllByRecursion (λ (other : Name). is_some (noted_number (with_noted noted name.text 0) other.text) ≡ false) some
    → AllByRecursion (λ other. name.text ≢ other) (map (λ (other : Name). other.text) some)
head_differs noted name [] all = tt
head_differs noted name (other ∷ some) all = ((not_noted noted name.text other.text all.0).1, head_differs noted name some all.1)

pub are_new : (decl : ℕ) (noted : Noted) (some : List Name) → repeated_faults decl noted some ≡ [] → AreNew noted some
are_new decl noted [] none = record { new = tt; once = tt }
are_new decl noted (name ∷ more) none =
    let here = none_first (repeated_fault decl noted name) (repeated_faults decl (with_noted noted name.text 0) more) none in
    let rest = are_new decl (with_noted noted name.text 0) more (none_second (repeated_fault decl noted name) (repeated_faults decl (with_noted noted name.text 0) more) none) in
    record {
      new = (
        not_so (is_some (noted_number noted name.text)) kinds.Twice (no_fault decl name.at (fault_if (is_some (noted_number noted name.text)) kinds.Twice) here),
        all_weaker (λ (other : Name). is_some (noted_number (with_noted noted name.text 0) other.text) ≡ false) (λ (other : Name). is_some (noted_number noted other.text) ≡ false) more
            (λ other is. (not_noted noted name.text other.text is).0) rest.new,
      );
      once = (head_differs noted name more rest.new, rest.once);
    }
