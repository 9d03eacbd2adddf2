use Rattle.std.proofs.Common.{◌≡◌, ◌+◌, ◌∙◌, ℕ, List, [], ◌∷◌, false, take, position, ap, sym, subst, rules}
use Rattle.std.specs.Option.{option_map}
use Rattle.std.specs.Str.{bytes_eq}
use Rattle.type_layout.specs.declared.home.HomeNo.{HomeNo}
use Rattle.type_layout.specs.declared.schema.Schema.{Schema}
use Rattle.pss_machine.specs.Names.{is_name_of}
use Rattle.schema_names.specs.Found.{home_called}
use Rattle.schema_names.specs.inner.Homes.{lesser}
use Rattle.schema_names.proofs.Rooted.{with_front, without_front}
use Rattle.schema_names.proofs.named.NamedSchema.home_called.Goals as goal

pub returns-in-Some : goal.returns-in-Some
returns-in-Some c =
    let word : c.args.word.now ≡ 58 ∷ 58 ∷ c.in-Some.rest.now = search rules in
    let whole : c.read-plain.result ≡ home_called c.args.self.now.homes c.args.word.now = c.read-plain.ensures ∙ c.self.invariant.homes_ c.args.word.now ∙ ap (λ (S : Schema). home_called S.homes c.args.word.now) c.self.view_is
    in
    let part : c.read.result ≡ home_called c.args.self.now.homes c.in-Some.rest.now = c.read.ensures ∙ c.self.invariant.homes_ c.in-Some.rest.now ∙ ap (λ (S : Schema). home_called S.homes c.in-Some.rest.now) c.self.view_is
    in
    c.first_of.ensures ∙ ap (λ o. lesser o c.read.result) (whole ∙ ap (home_called c.args.self.now.homes) word) ∙ ap (lesser (home_called c.args.self.now.homes (58 ∷ 58 ∷ c.in-Some.rest.now))) part
    ∙ sym (ap (λ w. option_map {U = HomeNo} (λ n. record { 0 = n + 1 }) (position (is_name_of w) c.args.self.now.homes)) word ∙ with_front c.args.self.now.homes c.in-Some.rest.now)

pub returns-in-None : goal.returns-in-None
returns-in-None c =
    let whole : c.read-plain.result ≡ home_called c.args.self.now.homes c.args.word.now = c.read-plain.ensures ∙ c.self.invariant.homes_ c.args.word.now ∙ ap (λ (S : Schema). home_called S.homes c.args.word.now) c.self.view_is
    in
    whole ∙ sym (without_front c.args.self.now.homes c.args.word.now (λ rest e. let no : bytes_eq (take 2 (58 ∷ 58 ∷ rest)) (58 ∷ 58 ∷ []) ≡ false = subst (λ (w : List ℕ). bytes_eq (take 2 w) (58 ∷ 58 ∷ []) ≡ false) e c.in-None.ensures.cases in cc))
