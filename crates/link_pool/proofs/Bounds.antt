-- A word counts the nodes of a pool.
use Rattle.std.proofs.Common.{ℕ, zero, suc, ◌≡◌, ◌+◌, ◌-◌, ◌≤◌, ◌<◌, ◌^◌, [], length, Bool, true, false, cond, Option, Some, None, ap, arith}
use Rattle.std.specs.declared.cmp.Ordering.{Ordering}
use Rattle.std.specs.Cmp.{IsTotalOrder}
use Rattle.std.specs.Option.{unwrap_or}
use Rattle.std.specs.FinMap as map
use Rattle.std.proofs.lemmas.List.{length-map}
use Rattle.slab.specs.Slab.{Slab}
use Rattle.link_pool.specs.Names.{node_cmp_total, node_named}
use Rattle.link_pool.specs.Rings.{list_in}
use Rattle.link_pool.specs.Meaning.{IsCountable}
use Rattle.link_pool.specs.Cells.{Ring, number, with_entry, tabulate, next_at, seat_at, is_head_at, list_at, ring_if, rings_of, meaning_of}
use Rattle.link_pool.specs.declared.cells.Cell.{Cell}
use Rattle.link_pool.specs.declared.cells.Side.{Side}
use Rattle.link_pool.specs.declared.cells.Side.TheVariants.{Rows, Cols}
use Rattle.link_pool.proofs.Paths.{length-walk}
use Rattle.link_pool.proofs.Sound.{get-rings}

module _ {K X : Type 0} {R : K → K → Ordering} (total : IsTotalOrder R) where
  one_more : (o : Option X) (k : K) (m : map.FinMap R X) → map.len (with_entry o k m) ≤ suc (map.len m)
  one_more None k m = by (map.contains_key m k) (map.len-remove total m k)
    where
      by : (b : Bool) → map.len (map.remove m k) ≡ cond b (map.len m - 1) (map.len m) → map.len (map.remove m k) ≤ suc (map.len m)
      by true e = omega (arith, e)
      by false e = omega (arith, e)
  one_more (Some v) k m = by (map.contains_key m k) (map.len-insert total m k v)
    where
      by : (b : Bool) → map.len (map.insert m k v) ≡ cond b (map.len m) (map.len m + 1) → map.len (map.insert m k v) ≤ suc (map.len m)
      by true e = omega (arith, e)
      by false e = omega (arith, e)

  -- a table of n numbers has at most n keys
  len-tabulate : (name : ℕ → K) (n : ℕ) (f : ℕ → Option X) → map.len (tabulate {R = R} name n f) ≤ n
  len-tabulate name zero f = omega (arith, map.len-empty R X)
  len-tabulate name (suc n) f = omega (arith, one_more (f n) (name n) (tabulate name n f), len-tabulate name n f)

module _ {T : Type 0} (s : Slab (Cell T)) (fits : length s.slots < 2 ^ 64) where
  short : (side : Side) (k : Ring side) → length (list_in (rings_of side s) k) < 2 ^ 64
  short side k = by (is_head_at side s (number side k)) (get-rings side s k)
    where
      by : (b : Bool) → map.get (rings_of side s) k ≡ ring_if b (list_at side s (number side k)) → length (list_in (rings_of side s) k) < 2 ^ 64
      by true e =
          omega (arith, fits, ap (λ o. length (unwrap_or o [])) e, length-map (list_at side s (number side k)) node_named, length-walk (length s.slots) (next_at side s) (number side k) (next_at side s (number side k)))
      by false e = omega (arith, ap (λ o. length (unwrap_or o [])) e)

  pub counted : (promised : ℕ) → IsCountable (meaning_of s promised)
  counted promised = record { rows = short Rows; cols = short Cols; nodes = omega (arith, fits, len-tabulate node_cmp_total node_named (length s.slots) (seat_at s)) }
