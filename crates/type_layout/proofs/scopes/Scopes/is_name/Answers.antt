use Rattle.std.proofs.Common.{◌++◌, List, ℕ, codes, sym, ap, ◌∙◌}
use Rattle.std.specs.Str.{bytes_eq}
use Rattle.type_layout.specs.Scopes.{name_at}
use Rattle.type_layout.proofs.Ending.{apart, one_end_twice, none_left}
use Rattle.type_layout.proofs.Scoping.{no_name, within}
use Rattle.type_layout.proofs.scopes.Scopes.is_name.Goals as goal

pub returns-in_default-in_front : goal.returns-in_default-in_front
returns-in_default-in_front c =
    let names = c.args.self.now in
    let is = within names c.loop-scope.at c.in-Some.scope.outer c.in-Some-outer.outer c.in-Some.scope.name.now c.in-Some.ensures c.in-Some-outer.is in
    sym (apart c.loop-scope.rest.now (name_at names c.in-Some-outer.outer) (codes "::") c.in-Some.scope.name.now c.in_default-in_front.ensures) ∙ ap (bytes_eq c.loop-scope.rest.now) (sym is) ∙ c.loop-scope.invariant

pub loop-scope-preserved : goal.loop-scope-preserved
loop-scope-preserved c =
    let names = c.args.self.now in
    let outer = name_at names c.in-Some-outer.outer in
    let is = within names c.loop-scope.at c.in-Some.scope.outer c.in-Some-outer.outer c.in-Some.scope.name.now c.in-Some.ensures c.in-Some-outer.is in
    sym (one_end_twice c.in-Some-in_front.front.now outer (codes "::") c.in-Some.scope.name.now) ∙ ap (λ (l : List ℕ). bytes_eq l (outer ++ codes "::" ++ c.in-Some.scope.name.now)) (sym c.in-Some-in_front.ensures)
    ∙ ap (bytes_eq c.loop-scope.rest.now) (sym is) ∙ c.loop-scope.invariant

pub returns : goal.returns
returns c =
    none_left c.loop-scope.rest.now c.is_empty.result c.is_empty.ensures ∙ ap (bytes_eq c.loop-scope.rest.now) (sym (no_name c.args.self.now c.loop-scope.at c.in_default.ensures)) ∙ c.loop-scope.invariant
