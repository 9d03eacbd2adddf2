-- Room for the first list of each name.
use Rattle.std.specs.Prelude.{◌≡◌, ℕ, ◌≤◌, length}
use Rattle.psdl_members.specs.declared.firsts.Firsts.{Firsts}

pub record HasRoom (f : Firsts) (names : ℕ) : Type 0 where
  pub marks : names ≤ length f.marks
  pub lists : names ≤ length f.lists.items

pub record SameRoom (old new : Firsts) : Type 0 where
  pub marks : length new.marks ≡ length old.marks
  pub lists : length new.lists.items ≡ length old.lists.items
