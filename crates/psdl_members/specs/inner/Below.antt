-- Names with low numbers.
use Rattle.std.specs.Prelude.{◌≡◌, ℕ, List, true, nat_lt}
use Rattle.std.specs.List.{list_all}
use Rattle.psdl_members.specs.declared.entry.Entry.{Entry}

abbrev pub AreBelow : ℕ → List Entry → Type 0
AreBelow limit es = list_all (λ e. nat_lt e.name limit) es ≡ true
