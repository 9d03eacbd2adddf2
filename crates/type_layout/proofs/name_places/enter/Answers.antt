use Rattle.std.proofs.Common.{◌≡◌, ℕ, List, None, Some, sym, ap, ◌∙◌, subst, rules}
use Rattle.type_layout.specs.NamePlaces.{place_in, IsEntered}
use Rattle.type_layout.proofs.Named.{entered}
use Rattle.type_layout.proofs.name_places.enter.Goals as goal

pub returns-in_ok-insert-in-None : goal.returns-in_ok-insert-in-None
returns-in_ok-insert-in-None c =
    let same : c.in_ok-owned-in-None.owned.items ≡ c.args.name.now = search rules in
    let absent : place_in c.args.places.now c.in_ok-owned-in-None.owned.items ≡ None = ap (λ (l : List ℕ). place_in c.args.places.now l) same ∙ sym c.in-None.ensures.value in
    subst (λ (l : List ℕ). IsEntered c.args.places.now c.insert.new.self l c.args.place) same
    (entered c.args.places.now c.insert.new.self c.in_ok-owned-in-None.owned.items c.args.place absent (c.in_ok-insert-in-None.ensures.updates.1 ∙ ap (λ (n : ℕ). Some n) (search rules)) c.in_ok-insert-in-None.ensures.updates.3)
