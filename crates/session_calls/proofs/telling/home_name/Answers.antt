use Rattle.std.proofs.Common.{List, ℕ, [], Option, ◌≡◌, ap, ◌∙◌}
use Rattle.type_layout.specs.Schemas.{given, home_at}
use Rattle.type_layout.specs.declared.schema.Home.{Home}
use Rattle.connector_parts.proofs.Tellings.{if_ok}
use Rattle.session_calls.proofs.telling.home_name.Goals as goal

pub returns-in-Some : goal.returns-in-Some
returns-in-Some c =
    if_ok (λ (name : List ℕ). name ≡ c.in-Some.home.now.name) (λ (name : List ℕ). name ≡ given (home_at c.args.parts.now.schema c.args.home) [] (λ home. home.name)) c.copy.result
    (λ name is. is ∙ ap (λ (o : Option Home). given o [] (λ home. home.name)) (c.in-Some.ensures ∙ ap (λ S. home_at S c.args.home) c.schema.ensures)) c.copy.ensures

pub returns-in-None : goal.returns-in-None
returns-in-None c = c.new.ensures ∙ ap (λ (o : Option Home). given o [] (λ home. home.name)) (c.in-None.ensures ∙ ap (λ S. home_at S c.args.home) c.schema.ensures)
