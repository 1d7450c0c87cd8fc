-- What the code keeps of the objects of a program.
use Rattle.std.specs.Prelude.{◌≡◌}
use Rattle.nddl_hierarchy.specs.Facts.{Facts}
use Rattle.nddl_objects.specs.Objects.{last_progress, progress_of}
use Rattle.nddl_env.specs.Listing.{populations}
use Rattle.nddl_problem.specs.declared.stock.Stock.{Stock}

-- these are the objects of a program of these facts, and those of each class
pub record IsStocked (facts : Facts) (stock : Stock) : Type 0 where
  pub made : progress_of stock.made ≡ last_progress facts
  pub listed : stock.by_class ≡ populations facts stock.made.making.objects.items
