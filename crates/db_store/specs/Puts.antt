-- What the calls that put something into a store answer and leave. What is there already is no step.
use Rattle.std.specs.Prelude.{◌≡◌, ℕ, List, [], ◌∷◌, ◌++◌, length, slice_get, Contains}
use Rattle.std.specs.Prelude.{Option, Some, None, Result, Ok, Err}
use Rattle.std.specs.declared.alloc.AllocError.{AllocError}
use Rattle.domain_core.specs.Domain.{Domain}
use Rattle.eu_name.specs.declared.name.TokenName.{TokenName}
use Rattle.token_store.specs.Tokens.{tokens_now, with_token, IsNamedAt, IsNewName}
use Rattle.constraint_net.specs.Networks.{Network}
use Rattle.db_store.specs.declared.key.OpenBlock.{OpenBlock}
use Rattle.db_store.specs.declared.key.VarKey.{VarKey}
use Rattle.db_store.specs.Stores.{Stored}

-- the item stands at this number; none, if it stands nowhere
abbrev pub FindsItem : {X : Type 0} → List X → X → Option ℕ → Type 0
FindsItem items item (Some number) = slice_get items number ≡ Some item
FindsItem items item None = Contains items item → ⊥

-- the item, which wasn't there, stands behind the others; where it is there, and without memory, nothing changes
abbrev pub PutsItem : {X : Type 0} → X → List X → Result (Option ℕ) AllocError → List X → Type 0
PutsItem item old (Ok (Some number)) new = (number ≡ length old) × (Contains old item → ⊥) × (new ≡ old ++ item ∷ [])
PutsItem item old (Ok None) new = Contains old item × (new ≡ old)
PutsItem item old (Err none) new = new ≡ old

-- a token of a new name stands behind the others, and nothing is decided of it
abbrev pub PutsToken : TokenName → ℕ → Stored → Result (Option ℕ) AllocError → Stored → Type 0
PutsToken name pred old (Ok (Some place)) new =
    (place ≡ length (tokens_now old.past)) × IsNewName (tokens_now old.past) name
    × (new ≡ record old { past = with_token (tokens_now old.past) name pred ∷ old.past })
PutsToken name pred old (Ok None) new = ((place : ℕ) × IsNamedAt (tokens_now old.past) place name) × (new ≡ old)
PutsToken name pred old (Err none) new = new ≡ old

-- the network with one variable more, of this domain, which was never written
abbrev pub with_variable : Network → Domain → Network
with_variable net domain =
    record net {
      domains = net.domains ++ domain ∷ [];
      stamps = net.stamps ++ 0 ∷ [];
      older = net.domains ∷ net.older;
    }

-- a variable of a new key stands behind the others, with this domain
abbrev pub PutsVariable : VarKey → Domain → Stored → Result (Option ℕ) AllocError → Stored → Type 0
PutsVariable key domain old (Ok (Some number)) new =
    (number ≡ length old.keys) × (Contains old.keys key → ⊥)
    × (new ≡ record old { keys = old.keys ++ key ∷ []; net = with_variable old.net domain })
PutsVariable key domain old (Ok None) new = Contains old.keys key × (new ≡ old)
PutsVariable key domain old (Err none) new = new ≡ old

-- a block that wasn't open stands behind the others
abbrev pub PutsBlock : OpenBlock → Stored → Result (Option ℕ) AllocError → Stored → Type 0
PutsBlock block old (Ok (Some number)) new =
    (number ≡ length old.blocks) × (Contains old.blocks block → ⊥)
    × (new ≡ record old { blocks = old.blocks ++ block ∷ [] })
PutsBlock block old (Ok None) new = Contains old.blocks block × (new ≡ old)
PutsBlock block old (Err none) new = new ≡ old

-- whatever happens, happens in the network alone
abbrev pub ChangesNet : Stored → Stored → Type 0
ChangesNet old new = new ≡ record old { net = new.net }
