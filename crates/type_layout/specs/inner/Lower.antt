-- Scopes that stand before others.
use Rattle.std.specs.Prelude.{Option, Some, None, nat_lt, cond}
use Rattle.type_layout.specs.declared.scopes.ScopeNo.{ScopeNo}

-- the scope, where it stands before this one
abbrev pub lower : Option ScopeNo → ScopeNo → Option ScopeNo
lower None n = None
lower (Some outer) n = cond (nat_lt outer.0 n.0) (Some outer) None
