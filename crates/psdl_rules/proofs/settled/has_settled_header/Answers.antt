use Rattle.std.proofs.Common.{◌≡◌, ◌∙◌, ◌&&◌, Bool, ap}
use Rattle.std.specs.Option.{option_to_list}
use Rattle.psdl_directory.specs.Headers.{header}
use Rattle.psdl_rules.specs.Texts.{judged}
use Rattle.psdl_rules.specs.inner.Headed.{are_meant}
use Rattle.psdl_rules.proofs.Headers.{settled_is}
use Rattle.psdl_rules.proofs.settled.has_settled_header.Goals as goal

pub returns : goal.returns
returns c =
    let h = header (judged c.args.text.now) c.args.number in
    let a : c.are_meant-bases.result ≡ are_meant h.bases = c.are_meant-bases.ensures ∙ ap are_meant c.bases.ensures in
    let b : c.are_meant-implemented.result ≡ are_meant h.implemented = c.are_meant-implemented.ensures ∙ ap are_meant c.implemented.ensures in
    let d : c.are_meant-managed.result ≡ are_meant (option_to_list h.managed) = c.are_meant-managed.ensures ∙ ap are_meant c.managed.ensures in
    c.all_hold.ensures
    ∙ ap (λ (x : Bool). x && (c.are_meant-implemented.result && c.are_meant-managed.result)) a
    ∙ ap (λ (x : Bool). are_meant h.bases && (x && c.are_meant-managed.result)) b
    ∙ ap (λ (x : Bool). are_meant h.bases && (are_meant h.implemented && x)) d
    ∙ settled_is (judged c.args.text.now) c.args.number
