-- Names of rows, columns and nodes: their orders, by which finite maps are keyed, and their codes.
use Rattle.std.specs.Prelude.{ℕ, Bool, nat_eq, refl}
use Rattle.std.specs.declared.cmp.Ordering.{Ordering}
use Rattle.std.specs.Ordering.{nat_cmp}
use Rattle.std.specs.Cmp.{IsTotalOrder, on_total, nat_cmp_total}
use Rattle.std.specs.Coded.{Coded, code_by, coded_ℕ}
use Rattle.link_pool.specs.declared.names.Row.{Row}
use Rattle.link_pool.specs.declared.names.Col.{Col}
use Rattle.link_pool.specs.declared.names.Node.{Node}

-- rows by their numbers
abbrev pub row_cmp : Row → Row → Ordering
row_cmp a b = nat_cmp a.number b.number

-- columns by their numbers
abbrev pub col_cmp : Col → Col → Ordering
col_cmp a b = nat_cmp a.number b.number

-- nodes by their numbers
abbrev pub node_cmp : Node → Node → Ordering
node_cmp a b = nat_cmp a.number b.number

-- both name one node
abbrev pub same_node : Node → Node → Bool
same_node a b = nat_eq a.number b.number

pub row_cmp_total : IsTotalOrder row_cmp
row_cmp_total = on_total (λ a. a.number) nat_cmp_total

pub col_cmp_total : IsTotalOrder col_cmp
col_cmp_total = on_total (λ a. a.number) nat_cmp_total

pub node_cmp_total : IsTotalOrder node_cmp
node_cmp_total = on_total (λ a. a.number) nat_cmp_total

-- the name with this number
abbrev pub row_named : ℕ → Row
row_named n = record { number = n }

-- the name with this number
abbrev pub col_named : ℕ → Col
col_named n = record { number = n }

-- the name with this number
abbrev pub node_named : ℕ → Node
node_named n = record { number = n }

-- a name is stored as its number
abbrev pub row_code : Coded Row
row_code = code_by ℕ coded_ℕ (λ a. a.number) row_named (λ _. refl)

-- a name is stored as its number
abbrev pub col_code : Coded Col
col_code = code_by ℕ coded_ℕ (λ a. a.number) col_named (λ _. refl)

-- a name is stored as its number
abbrev pub node_code : Coded Node
node_code = code_by ℕ coded_ℕ (λ a. a.number) node_named (λ _. refl)
