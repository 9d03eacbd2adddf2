-- A walk along a column, node by node from its first.
use Rattle.std.proofs.Common.{ℕ, ◌≡◌, ◌+◌, ◌<◌, ◌≤◌, length, Option, Some, None, IsSome, slice_get, sym, ◌∙◌, subst, arith, rules}
use Rattle.std.specs.Prelude.{IsSomeAnd}
use Rattle.std.specs.Option.{option_map}
use Rattle.std.specs.FinMap as map
use Rattle.link_pool.specs.Rings.{following, list_in}
use Rattle.link_pool.specs.Meaning.{Meaning, col_in, AreRings}
use Rattle.link_pool.specs.declared.names.Col.{Col}
use Rattle.link_pool.specs.declared.names.Node.{Node}
use Rattle.link_pool.specs.declared.names.Seat.{Seat}
use Rattle.link_pool.proofs.NodeLists.{contains_at, within_at, following-at}
use Rattle.link_pool.proofs.Sound.{no_value}

module _ {T : Type 0} (p : Meaning T) (col : Col) where
  -- so many nodes were passed, and this one stands behind them
  pub record IsWalked (passed : ℕ) (next : Option Node) : Type 0 where
    pub at : next ≡ slice_get (list_in p.cols col) passed
    pub within : passed ≤ length (list_in p.cols col)

  module _ (rings : AreRings p) (passed : ℕ) (node : Node) (walked : IsWalked passed (Some node)) where
    pub passed_fewer : passed < length (list_in p.cols col)
    passed_fewer = within_at (list_in p.cols col) passed node (sym walked.at)

    at_home : col_in p node ≡ Some col
    at_home = rings.cols.only col node (contains_at (list_in p.cols col) passed node (sym walked.at))

    pub stands : IsSome (map.get p.nodes node)
    stands = by (map.get p.nodes node) at_home
      where
        by : (o : Option (Seat T)) → option_map (λ s. s.col) o ≡ Some col → IsSome o
        by None e = no_value col e
        by (Some s) e = search rules

    pub walked_on : (next : Option Node) → IsSomeAnd (col_in p node) (λ home. next ≡ following node (list_in p.cols home)) → IsWalked (passed + 1) next
    walked_on next behind = record {
      at = told ∙ following-at (list_in p.cols col) passed node (rings.cols.once col) (sym walked.at);
      within = omega (arith, passed_fewer);
    }
      where
        told : next ≡ following node (list_in p.cols col)
        told = subst (λ o. IsSomeAnd o (λ home. next ≡ following node (list_in p.cols home))) at_home behind
