use Rattle.std.proofs.Common.{◌∙◌, refl}
use Rattle.psdl_tree.specs.Views.{expression_view}
use Rattle.psdl_standings.specs.inner.Sights.{Scene}
use Rattle.psdl_standings.specs.inner.Walked.{text_in, path_in}
use Rattle.psdl_standings.proofs.Linking.{bound_linked, size_linked}
use Rattle.psdl_standings.proofs.walk.Walk.size.Goals as goal

pub returns : goal.returns
returns c =
    let w = c.args.self.now in
    let s : Scene = record { all = text_in w; told = w.told.items; limit = c.args.spot.limit; path = path_in w c.args.spot; own = c.args.spot.own } in
    let e = expression_view c.args.value.now in
    record {
      goes = record { text = refl; told = refl; types = λ n lt. (lt, refl) };
      noted = (rw c.deref.ensures.value at c.in_ok-size.ensures.faults) ∙ bound_linked w.types s c.args.most w.faults e;
      is = (rw c.deref.ensures.value at c.in_ok-size.ensures.value) ∙ size_linked w.types s e;
    }
