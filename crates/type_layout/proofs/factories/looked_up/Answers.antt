use Rattle.std.proofs.Common.{◌≡◌, ◌∙◌, Bor, map, Some, None, sym, ap, rules}
use Rattle.std.specs.List.{slice_get}
use Rattle.std.specs.Option.{option_map, option_and_then}
use Rattle.std.specs.Str.{bytes_eq}
use Rattle.type_layout.specs.declared.factories.DeclaredFactory.{DeclaredFactory}
use Rattle.type_layout.specs.NamePlaces.{place_among}
use Rattle.type_layout.proofs.Named.{found_at, looked}
use Rattle.type_layout.proofs.factories.looked_up.Goals as goal

pub returns-in-Some : goal.returns-in-Some
returns-in-Some c =
    let place : Some c.in-Some.place ≡ place_among (map (λ (f : DeclaredFactory). f.name) c.args.factories.now) c.args.word.now = sym c.in-Some.is ∙ c.place_of.ensures ∙ c.requires c.args.word.now in
    let looked : option_map (λ (f : Bor DeclaredFactory). f.now) c.get.result ≡ slice_get c.args.factories.now c.in-Some.place =
    looked (λ (f : Bor DeclaredFactory). f.now) c.args.factories.now c.in-Some.place c.get.result c.get.ensures.lookup.0 c.get.ensures.lookup.1 in
    looked ∙ ap (option_and_then (slice_get c.args.factories.now)) place ∙ found_at (bytes_eq c.args.word.now) (λ (f : DeclaredFactory). f.name) c.args.factories.now ∙ search rules

pub returns-in-None : goal.returns-in-None
returns-in-None c =
    let place : None ≡ place_among (map (λ (f : DeclaredFactory). f.name) c.args.factories.now) c.args.word.now = sym c.in-None.is ∙ c.place_of.ensures ∙ c.requires c.args.word.now in
    ap (option_and_then (slice_get c.args.factories.now)) place ∙ found_at (bytes_eq c.args.word.now) (λ (f : DeclaredFactory). f.name) c.args.factories.now ∙ search rules
