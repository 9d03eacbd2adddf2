-- What a table ends as, once a `&mut` into it has ended.
use Rattle.std.specs.Prelude.{◌≡◌, List, Option, Some, IsSome}
use Rattle.std.specs.Borrow.{Fml, RattleType, MutBor, LendsSo}
use Rattle.std.specs.HashMap.Lent.{HashMembers}
use Rattle.std.specs.declared.clone.Clone as clone
use Rattle.std.specs.declared.default.Default as default
use Rattle.std.specs.declared.hash.Hasher as hasher
use Rattle.std.specs.Map.{lookup}
use Rattle.recent_table.specs.contracts.table.RecentTable.{the_row}
use Rattle.recent_table.specs.Turned.{IsTurned}

module _ (K V H : RattleType) (key : HashMembers K.Denot) (copy : clone.Ghosts H.Denot) (new : default.Ghosts H.Denot) (hash : hasher.Ghosts H.Denot) where
  -- a key that has a value has the last one written through r, and at `None` the table stays as it is
  abbrev pub lends_value : MutBor (List (K.Denot × V.Denot)) → K.Denot → Option (MutBor V.Denot) → Fml
  lends_value t k r = LendsSo (the_row K V H (record { eq = key.eq }) (record { hash_input = key.hash_input }) copy new hash) V t r (λ n w. IsSome (lookup (key.eq k) t.now) → IsTurned key.eq t.now n k (Some w)) (λ n. n ≡ t.now)
