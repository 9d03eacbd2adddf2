use Rattle.std.proofs.Common.{◌≡◌, ◌++◌, ◌∷◌, [], List, length, ap, ◌∙◌, arith}
use Rattle.type_layout.specs.Types.{PlainType}
use Rattle.psdl_standings.specs.declared.text_length.TextLength.{TextLength}
use Rattle.psdl_standings.specs.declared.types.Node.{Node}
use Rattle.psdl_standings.specs.inner.TypeNodes.{node_type, types_of}
use Rattle.psdl_standings.proofs.Numbered.{length-types_of, types_of-append, one_more}
use Rattle.psdl_standings.proofs.types.Types.add.Goals as goal

nodes_are : (c : goal.In_ok-push-2) → c.push.new.self.items ≡ c.self.inside.nodes.items ++ c.args.node ∷ []
nodes_are c = c.in_ok-push.ensures.items ∙ ap (λ (l : List Node). l ++ c.args.node ∷ []) c.in_ok-reserve.ensures.items

lengths_are : (c : goal.In_ok-push-2) → c.push-2.new.self.items ≡ c.self.inside.lengths.items ++ c.node_length-length.result ∷ []
lengths_are c = c.in_ok-push-2.ensures.items ∙ ap (λ (l : List TextLength). l ++ c.node_length-length.result ∷ []) c.in_ok-reserve-2.ensures.items

pub invariant_of-self-2 : goal.invariant_of-self-2
invariant_of-self-2 c =
    rw (nodes_are c, lengths_are c) (one_more c.self.inside.nodes.items c.self.inside.lengths.items c.args.node c.node_length-length.result c.self.invariant (rw c.self.view_is c.requires) (rw c.self.view_is c.node_length-length.ensures))

pub returns-clause-types : goal.returns-clause-types
returns-clause-types c =
    ap (λ (l : List Node). types_of l) (nodes_are c) ∙ types_of-append c.self.inside.nodes.items c.args.node
    ∙ ap (λ (ts : List PlainType). ts ++ node_type ts c.args.node ∷ []) c.self.view_is

pub returns-clause-number : goal.returns-clause-number
returns-clause-number c =
    let len : length c.args.self.now ≡ length c.self.inside.nodes.items = rw (← c.self.view_is) (length-types_of c.self.inside.nodes.items) in
    omega (arith, len)
