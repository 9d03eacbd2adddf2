use Rattle.std.proofs.Common.{ℕ, Option, ◌∙◌, ap}
use Rattle.std.specs.List.{slice_get}
use Rattle.std.specs.Option.{option_map, option_and_then}
use Rattle.type_layout.specs.declared.schema.Schema.{Schema}
use Rattle.type_layout.specs.Scopes.{Provided}
use Rattle.schema_names.proofs.Leading.{home_at_place}
use Rattle.schema_names.proofs.named.NamedSchema.home_provided.Goals as goal

pub returns-in-Some : goal.returns-in-Some
returns-in-Some c =
    let list = c.args.self.now.provided in
    c.home.ensures ∙ ap (λ (S : Schema). option_map (λ (p : Provided). p.home) (slice_get S.provided c.in-Some.place)) c.self.view_is
    ∙ ap (λ (o : Option ℕ). option_and_then (λ place. option_map (λ (p : Provided). p.home) (slice_get list place)) o) c.in-Some.ensures ∙ home_at_place list c.args.word.now

pub returns-in-None : goal.returns-in-None
returns-in-None c =
    let list = c.args.self.now.provided in
    ap (λ (o : Option ℕ). option_and_then (λ place. option_map (λ (p : Provided). p.home) (slice_get list place)) o) c.in-None.ensures ∙ home_at_place list c.args.word.now
