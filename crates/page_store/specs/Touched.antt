-- Which pages a checkpoint packs anew.
use Rattle.std.specs.Prelude.{ℕ, ◌==◌, ◌||◌, Bool, false, List, None, Some}
use Rattle.std.specs.List.{list_any}
use Rattle.std.specs.Ordering.{nat_cmp}
use Rattle.std.specs.FinMap.{FinMap, from_entries, get}
use Rattle.std.specs.declared.option.Option.{Option}
use Rattle.pss_base.specs.declared.put.Put.{Put}

-- the slots of pages under the serials of the objects in them: of two for one serial the first counts
abbrev pub under_serials : List (ℕ × ℕ) → FinMap nat_cmp ℕ
under_serials es = from_entries es

-- this slot is the one that there is
abbrev pub is_in : ℕ → Option ℕ → Bool
is_in slot None = false
is_in slot (Some s) = s == slot

-- a page is touched where it holds an object of which a change is noted
abbrev pub is_touched : FinMap nat_cmp ℕ → List Put → ℕ → Bool
is_touched places noted slot = list_any (λ put. is_in slot (get places put.serial)) noted

-- a page is packed anew where it is touched, or is the one with little in use
abbrev pub is_repacked : FinMap nat_cmp ℕ → List Put → Option ℕ → ℕ → Bool
is_repacked places noted small slot = is_touched places noted slot || is_in slot small
