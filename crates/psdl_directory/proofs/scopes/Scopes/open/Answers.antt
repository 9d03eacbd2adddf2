use Rattle.std.proofs.Common.{◌≡◌, ◌<◌, ◌+◌, ℕ, arith, sym, ◌∙◌, ap, refl, ◌++◌, List, length, subst, [], ◌∷◌, cond, Some, length-append}
use Rattle.psdl_directory.specs.declared.scopes.ModuleName.{ModuleName}
use Rattle.psdl_directory.specs.declared.scopes.Row.{Row}
use Rattle.psdl_directory.specs.Declarations.{Path}
use Rattle.psdl_directory.specs.inner.Scopes.{paths_of}
use Rattle.psdl_directory.specs.inner.Scopes.{path_at, Grows, is_same, scope_of}
use Rattle.psdl_directory.proofs.Rows.{length-paths_of, paths_of-append}
use Rattle.psdl_directory.proofs.Opened.{opened, unchanged}
use Rattle.psdl_directory.proofs.Opening.{grows, at_new}
use Rattle.psdl_directory.proofs.scopes.Scopes.open.Goals as goal

pub invariant_of-self-in_err-insert-in-None : goal.invariant_of-self-in_err-insert-in-None
invariant_of-self-in_err-insert-in-None c = rw c.in_ok-reserve-in-None.ensures.items (unchanged c.self.inside.rows.items c.self.inside.inner c.insert.new.self c.self.invariant c.in_err-insert-in-None.ensures.err)

items_are : (c : goal.In_ok-push-in-None) → c.push.new.self.items ≡ c.self.inside.rows.items ++ record { parent = c.args.scope; name = c.args.name } ∷ []
items_are c = c.in_ok-push-in-None.ensures.items ∙ ap (λ (l : List Row). l ++ record { parent = c.args.scope; name = c.args.name } ∷ []) c.in_ok-reserve-in-None.ensures.items

number_is : (c : goal.In_ok-push-in-None) → c.len-number.result + 1 ≡ length (paths_of c.self.inside.rows.items)
number_is c =
    let rows : length c.reserve.new.self.items ≡ length c.self.inside.rows.items = ap (λ (l : List Row). length l) c.in_ok-reserve-in-None.ensures.items in
    omega (arith, c.len-number.ensures, rows, length-paths_of c.self.inside.rows.items)

paths_are : (c : goal.In_ok-push-in-None) → paths_of c.push.new.self.items ≡ paths_of c.self.inside.rows.items ++ (c.args.name.now ∷ path_at (paths_of c.self.inside.rows.items) c.args.scope) ∷ []
paths_are c = ap (λ (l : List Row). paths_of l) (items_are c) ∙ paths_of-append c.self.inside.rows.items (record { parent = c.args.scope; name = c.args.name })

pub invariant_of-self-in-None : goal.invariant_of-self-in-None
invariant_of-self-in-None c =
    let rows = c.self.inside.rows.items in
    let key : ModuleName = record { scope = c.args.scope; name = c.args.name } in
    let row : Row = record { parent = c.args.scope; name = c.args.name } in
    let inside : c.args.scope < length (paths_of rows) = rw (c.self.view_is) c.requires in
    let number : c.len-number.result + 1 ≡ length rows + 1 = number_is c ∙ length-paths_of rows in
    rw (items_are c) (opened rows row c.self.inside.inner c.insert.new.self key c.self.invariant refl refl inside (sym c.in-None.ensures.value)
    (λ q. c.in_ok-insert-in-None.ensures.updates.0 q ∙ ap (λ (n : ℕ). cond (is_same key q) (Some n) (scope_of c.self.inside.inner q)) number))

pub returns-in-Some-clause-known : goal.returns-in-Some-clause-known
returns-in-Some-clause-known c =
    let key : ModuleName = record { scope = c.args.scope; name = c.args.name } in
    rw (← c.self.view_is) (c.self.invariant.opens.some key _ (sym c.in-Some.ensures.value)).1

pub returns-in-Some-clause-path : goal.returns-in-Some-clause-path
returns-in-Some-clause-path c =
    let key : ModuleName = record { scope = c.args.scope; name = c.args.name } in
    rw (← c.self.view_is) (c.self.invariant.opens.some key _ (sym c.in-Some.ensures.value)).2

pub returns-in_ok-push-in-None-clause-known : goal.returns-in_ok-push-in-None-clause-known
returns-in_ok-push-in-None-clause-known c =
    let rows = c.push.new.self.items in
    omega (arith, number_is c, length-paths_of rows, length-paths_of c.self.inside.rows.items, ap (λ (l : List Row). length l) (items_are c), length-append c.self.inside.rows.items (record { parent = c.args.scope; name = c.args.name } ∷ []))

pub returns-in_ok-push-in-None-clause-path : goal.returns-in_ok-push-in-None-clause-path
returns-in_ok-push-in-None-clause-path c =
    let old = paths_of c.self.inside.rows.items in
    ap (λ (ps : List Path). path_at ps (c.len-number.result + 1)) (paths_are c) ∙ ap (λ (n : ℕ). path_at (old ++ (c.args.name.now ∷ path_at old c.args.scope) ∷ []) n) (number_is c) ∙ at_new old _
    ∙ ap (λ (ps : List Path). c.args.name.now ∷ path_at ps c.args.scope) c.self.view_is

pub returns-in_ok-push-in-None-clause-kept : goal.returns-in_ok-push-in-None-clause-kept
returns-in_ok-push-in-None-clause-kept c =
    let old = paths_of c.self.inside.rows.items in
    subst (λ (ps : List Path). Grows ps (paths_of c.push.new.self.items)) c.self.view_is (subst (λ (ps : List Path). Grows old ps) (sym (paths_are c)) (grows old (c.args.name.now ∷ path_at old c.args.scope)))
