use Rattle.std.proofs.Common.{◌≡◌, ◌∙◌, List, length, ap}
use Rattle.psdl_directory.specs.Declarations.{Declaration}
use Rattle.psdl_rules.proofs.Typing.{owners_are}
use Rattle.psdl_standings.specs.States.{flags}
use Rattle.psdl_check.specs.inner.Texts.{text_in}
use Rattle.psdl_check.proofs.layouts.Layouts.new.Goals as goal

pub invariant_of-result : goal.invariant_of-result
invariant_of-result c =
    let all = text_in c.args.text.now in
    let own : c.in_ok-sources.sources.own ≡ flags all (length all) =
    c.in_ok-sources.ensures.own ∙ c.in_ok-flags.ensures ∙ ap (λ (d : List Declaration). flags d c.len.result) c.requires ∙ ap (flags all) (c.len.ensures ∙ ap length c.directory-directory.ensures) in
    record { have = rw c.directory-directory.ensures (record { graphed = c.in_ok-sources.ensures.graph; owned = owners_are all c.in_ok-sources.sources.own own }) }
