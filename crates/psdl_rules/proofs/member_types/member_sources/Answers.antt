use Rattle.std.proofs.Common.{◌∙◌, List, ap, sym, subst}
use Rattle.psdl_directory.specs.Declarations.{Declaration}
use Rattle.psdl_lineage.specs.Graph.{graph_of}
use Rattle.psdl_standings.specs.States.{flags}
use Rattle.psdl_rules.specs.Texts.{judged}
use Rattle.psdl_rules.specs.inner.Typed.{HaveMembers}
use Rattle.psdl_rules.proofs.Typing.{owners_are}
use Rattle.psdl_rules.proofs.member_types.member_sources.Goals as goal

pub returns : goal.returns
returns c =
    let all = judged c.args.text.now in
    subst (λ (ds : List Declaration). HaveMembers ds c.in_ok-sources.sources) (sym c.requires.told) (record {
      graphed = c.in_ok-sources.ensures.graph ∙ ap graph_of c.lineage.ensures;
      owned = owners_are all c.in_ok-sources.sources.own (c.in_ok-sources.ensures.own ∙ c.in_ok-owners.ensures ∙ ap (λ (ds : List Declaration). flags ds c.len.result) c.requires.told ∙ ap (flags all) c.len.ensures);
    })
