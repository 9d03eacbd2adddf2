-- Where what stands in a store.
use Rattle.std.specs.Prelude.{ℕ, ◌+◌, ◌*◌}

-- the first octet of a root area
abbrev pub area_start : ℕ → ℕ
area_start area = area * 131072

-- the first octet of a page
abbrev pub slot_start : ℕ → ℕ
slot_start slot = 4456448 + slot * 16384

-- the first octet behind it
abbrev pub slot_end : ℕ → ℕ
slot_end slot = slot_start slot + 16384
