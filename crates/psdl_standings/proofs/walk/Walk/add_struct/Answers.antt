use Rattle.std.proofs.Common.{Option, Vec, Global, refl, sym, ap, ◌∙◌}
use Rattle.std.specs.Prelude.{option_map}
use Rattle.psdl_standings.specs.declared.types.FieldNode.{FieldNode}
use Rattle.psdl_standings.proofs.Fielded.{struct_made, fields_below}
use Rattle.psdl_standings.proofs.Goings.{goes_nowhere}
use Rattle.psdl_standings.proofs.walk.Walk.add_struct.Goals as goal

pub add-requires : goal.add-requires
add-requires c =
    fields_below _ c.args.parts.now c.in-Some.fields.items c.requires (sym (ap (λ (o : Option (Vec FieldNode Global)). option_map (λ v. v.items) o) c.in-Some.is) ∙ c.in_ok-fields.ensures)

pub returns-in-Some : goal.returns-in-Some
returns-in-Some c =
    rw (sym (struct_made c.args.self.now.types c.args.parts.now _ (sym (ap (λ (o : Option (Vec FieldNode Global)). option_map (λ v. v.items) o) c.in-Some.is) ∙ c.in_ok-fields.ensures))) c.add.ensures

pub returns-in-None : goal.returns-in-None
returns-in-None c =
    record {
      goes = goes_nowhere c.args.self.now;
      same = refl;
      there = tt;
      is = struct_made c.args.self.now.types c.args.parts.now _ (sym (ap (λ (o : Option (Vec FieldNode Global)). option_map (λ v. v.items) o) c.in-None.is) ∙ c.in_ok-fields.ensures);
    }
