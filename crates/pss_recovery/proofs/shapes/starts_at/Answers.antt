use Rattle.std.proofs.Common.{◌&&◌, ◌∙◌, true, drop, ap, sym}
use Rattle.pss_recovery.specs.Shapes.{begins_home}
use Rattle.pss_recovery.proofs.HomeLines.{starts_is}
use Rattle.pss_recovery.proofs.shapes.starts_at.Goals as goal

pub returns-then-begins_line : goal.returns-then-begins_line
returns-then-begins_line c =
    c.begins_home.ensures ∙ ap begins_home c.behind.ensures ∙ ap (λ t. t && begins_home (drop c.args.at c.args.octets.now)) (sym (sym c.begins_line.ensures ∙ c.if-begins_line.true)) ∙ sym (starts_is true c.args.octets.now c.args.at c.requires)

pub returns-else-begins_line : goal.returns-else-begins_line
returns-else-begins_line c =
    c.if-begins_line.false ∙ ap (λ t. t && begins_home (drop c.args.at c.args.octets.now)) (sym (sym c.begins_line.ensures ∙ c.if-begins_line.false)) ∙ sym (starts_is true c.args.octets.now c.args.at c.requires)
