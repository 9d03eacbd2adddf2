use Rattle.std.proofs.Common.{◌+◌, ◌∙◌, [], map, Some, None, sym, ap, arith}
use Rattle.std.specs.Str.{bytes_eq}
use Rattle.type_layout.specs.Factories.{FactoryLines}
use Rattle.type_layout.specs.Schemas.{given}
use Rattle.type_layout.proofs.Firsts.{none_in_front}
use Rattle.type_layout.proofs.Searching.{bare, in_front, of_held}
use Rattle.type_layout.proofs.factory_graph.FactoryGraph.named.Goals as goal

pub returns-then-is_empty : goal.returns-then-is_empty
returns-then-is_empty c =
    c.declared.ensures ∙ bare c.args.self.now (λ f. bytes_eq c.args.word.now f.name) c.args.home c.bases.result.now c.bases.ensures (sym c.is_empty.ensures ∙ c.if-is_empty.true)

pub searched-requires : goal.searched-requires
searched-requires c n lt =
    none_in_front c.self.inside.names c.args.self.now (map (λ o. given o [] (λ b. b.value)) c.self.inside.declared.items) c.args.word.now (Some c.in-Some.first) c.self.invariant (ap (λ (l : FactoryLines). l.declared) c.self.view_is)
    (sym c.in-Some.is ∙ c.place_of.ensures) n lt

pub returns-in-None : goal.returns-in-None
returns-in-None c =
    sym
    (in_front c.args.self.now (λ f. bytes_eq c.args.word.now f.name) (c.args.home + 1)
    (λ n lt. none_in_front c.self.inside.names c.args.self.now (map (λ o. given o [] (λ b. b.value)) c.self.inside.declared.items) c.args.word.now None c.self.invariant (ap (λ (l : FactoryLines). l.declared) c.self.view_is)
    (sym c.in-None.is ∙ c.place_of.ensures) n (omega arith))
    c.args.home (omega arith))
    ∙ of_held c.args.self.now (λ f. bytes_eq c.args.word.now f.name) c.args.home
