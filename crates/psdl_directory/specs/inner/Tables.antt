-- Tables of the first of each spelling and scope.
use Rattle.std.specs.Prelude.{◌≡◌, ℕ, List, Option, Some, None, Bool, ◌==◌, ◌&&◌, if◌then◌else◌}
use Rattle.std.specs.List.{position_from}
use Rattle.std.specs.Option.{option_eq, option_cmp}
use Rattle.std.specs.Ordering.{nat_cmp, ordering_then}
use Rattle.std.specs.declared.cmp.Ordering.{Ordering}
use Rattle.std.specs.BTreeMap.{BTreeMap, get}
use Rattle.psdl_directory.specs.declared.kind.KindNo.{KindNo}
use Rattle.psdl_directory.specs.declared.scoped.Scoped.{Scoped}

abbrev pub same_kinds : Option KindNo → Option KindNo → Bool
same_kinds a b = option_eq (λ i j. i.0 == j.0) a b

abbrev pub same_scoped : Scoped → Scoped → Bool
same_scoped a b = (a.scope == b.scope) && (same_kinds a.kind b.kind && (a.spelling == b.spelling))

abbrev pub by_scope : Scoped → Scoped → Ordering
by_scope a b = ordering_then (nat_cmp a.scope b.scope) (ordering_then (option_cmp (λ i j. nat_cmp i.0 j.0) a.kind b.kind) (nat_cmp a.spelling b.spelling))

abbrev pub found : BTreeMap Scoped ℕ → Scoped → Option ℕ
found table key = get by_scope table key

-- the number of the first that is the same
abbrev pub Tabulates : BTreeMap Scoped ℕ → List Scoped → Type 0
Tabulates table keys = (q : Scoped) → found table q ≡ position_from (same_scoped q) 0 keys

-- what is there stays
abbrev pub after : Option ℕ → Bool → ℕ → Option ℕ
after (Some i) same number = Some i
after None same number = if same then Some number else None

-- entered unless it was there
abbrev pub IsEntered : BTreeMap Scoped ℕ → BTreeMap Scoped ℕ → Scoped → ℕ → Type 0
IsEntered old new key number = (q : Scoped) → found new q ≡ after (found old q) (same_scoped q key) number
