-- Names that are seen in a list.
use Rattle.std.proofs.Common.{◌≡◌, ℕ, Bool, true, false, if◌then◌else◌, ◌||◌, List, [], ◌∷◌, refl, ap, ◌∙◌}
use Rattle.std.specs.Prelude.{Option, Some, None, is_some}
use Rattle.std.specs.Option.{option_or}
use Rattle.std.specs.Str.{bytes_eq}
use Rattle.nddl_resolve.specs.declared.denoted.Denoted.{Denoted}
use Rattle.nddl_resolve.specs.declared.denoted.Seen.{Seen}
use Rattle.nddl_resolve.specs.Paths.{last_seen}
use Rattle.nddl_rule_check.specs.Slots.{is_name_seen}

found_or : (found : Option Denoted) (same : Bool) (meant : Denoted)
    → is_some (option_or found (if same then Some meant else None)) ≡ same || is_some found
found_or None true meant = refl
found_or None false meant = refl
found_or (Some other) true meant = refl
found_or (Some other) false meant = refl

-- one of these has the name if the last that has it is found
pub found_is_seen : (name : List ℕ) (some : List Seen) → is_some (last_seen name some) ≡ is_name_seen name some
found_is_seen name [] = refl
found_is_seen name (seen ∷ more) =
    found_or (last_seen name more) (bytes_eq name seen.name) seen.denoted
    ∙ ap (λ rest. bytes_eq name seen.name || rest) (found_is_seen name more)
