-- Members one by one.
use Rattle.std.specs.Prelude.{ℕ}
use Rattle.psdl_tree.specs.declared.names.Identifier.{Identifier}
use Rattle.psdl_tree.specs.Trees.{State}
use Rattle.psdl_lineage.specs.Descent.{StateMember}

-- one of the members that a declaration has by a state in its body
abbrev pub member_of : ℕ → State → Identifier → StateMember
member_of n s i = record { home = n; name = i; state_type = s.state_type; readonly = s.is_readonly }
