-- That running the constructors comes to what is made, and to the earliest of what is wrong.
use Rattle.std.specs.Prelude.{◌≡◌, List, ◌∷◌, ◌++◌, Some, None, length, slice_get}
use Rattle.std.specs.List.{list_any}
use Rattle.nddl_symbols.specs.Finding.{earliest_fault}
use Rattle.nddl_hierarchy.specs.Facts.{Facts}
use Rattle.nddl_construction.specs.declared.made.MadeObject.{MadeObject}
use Rattle.nddl_objects.specs.Objects.{Progress, last_progress, progress_fault}
use Rattle.nddl_object_laws.specs.Carried.{Carried, made_count}
use Rattle.nddl_object_laws.specs.Made.{all_carried, carried_object, made_objects, there_after}
use Rattle.nddl_object_laws.specs.Wrong.{is_too_deep, is_too_many, met_faults, text_faults}

-- ---- the outcome

-- The outcome as it is stated: what is made, what the names and the settings stand for where all declarations have had their
-- turn, and the earliest of what is wrong with making the objects and of all else that is wrong.
abbrev pub stated_progress : Facts → Progress
stated_progress facts = record {
  so_far = record {
    objects = made_objects facts;
    first = earliest_fault None (met_faults facts);
    is_full = list_any (is_too_many facts) (all_carried facts);
    is_deep = list_any (is_too_deep facts) (all_carried facts);
  };
  first = earliest_fault None (text_faults facts);
  named_objects = (there_after facts (length facts.program)).named_objects;
  settings = (there_after facts (length facts.program)).settings;
}

-- running the constructors of a program has that outcome
abbrev pub RunAsStated : Type 0
RunAsStated = (facts : Facts) → last_progress facts ≡ stated_progress facts

-- The fault that is told is the earliest of all that is wrong with making the objects, with the text and with the settings.
abbrev pub TellTheEarliest : Type 0
TellTheEarliest =
    (facts : Facts) → progress_fault (last_progress facts) ≡ earliest_fault None (text_faults facts ++ met_faults facts)

-- ---- numbers

-- where all declarations have had their turn, what is there is what is made
abbrev pub AreThereInTurn : Type 0
AreThereInTurn = (facts : Facts) → (there_after facts (length facts.program)).objects ≡ made_objects facts

-- The number of a `new` is how many of those that are carried out before it make an object.
abbrev pub NumbersCount : Type 0
NumbersCount =
    (facts : Facts) (front : List Carried) (one : Carried) (more : List Carried) → all_carried facts ≡ front ++ one ∷ more
    → one.number ≡ made_count facts front

-- The object that a `new` makes stands among all at its number.
abbrev pub NumbersArePlaces : Type 0
NumbersArePlaces =
    (facts : Facts) (front : List Carried) (one : Carried) (more : List Carried) (object : MadeObject)
    → all_carried facts ≡ front ++ one ∷ more → carried_object facts one ≡ Some object
    → slice_get (made_objects facts) one.number ≡ Some object
