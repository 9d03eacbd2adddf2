use Rattle.std.proofs.Common.{◌≡◌, List, ℕ, [], ◌∷◌, ◌++◌, length, refl, ap, ◌∙◌, arith, length-append}
use Rattle.std.specs.List.{slice_get}
use Rattle.std.specs.Option.{option_and_then}
use Rattle.type_layout.specs.declared.scopes.Scope.{Scope}
use Rattle.type_layout.specs.Scopes.{behind}
use Rattle.psdl_check.specs.inner.Modules.{scope_in}
use Rattle.psdl_check.proofs.Catalogued.{next_module}
use Rattle.psdl_check.proofs.modules.modules_of.Goals as goal

pub loop-index-preserved : goal.loop-index-preserved
loop-index-preserved c =
    let names = c.loop-index.scopes in
    let outer = c.module-module.result.outer in
    let name = c.module-module.result.name.now in
    let own = behind (option_and_then (λ o. slice_get names o.0) (scope_in outer)) name in
    let grown : c.push.new.self ≡ names ++ own ∷ [] = c.in_ok-push.ensures.ok ∙ ap (λ (s : Scope). names ++ behind (option_and_then (λ o. slice_get names o.0) s.outer) s.name ∷ []) c.in_ok-scope_of.ensures in
    record {
      within = omega (arith, c.loop-index-test.true, c.module_count-index-end.ensures);
      many = omega (arith, ap (λ (l : List (List ℕ)). length l) grown, length-append names (own ∷ []), c.loop-index.invariant.many);
      named = next_module c.args.directory.now names c.push.new.self c.loop-index.index outer name name c.loop-index.invariant.named c.loop-index.invariant.many (rw c.new.ensures at c.module-module.ensures.before)
          (rw c.new.ensures at c.module-module.ensures.path) refl grown;
    }
