use Rattle.psdl_standings.proofs.extent.Extent.+repeated.Given as goal

abbrev pub decreases-repeated : goal.decreases-repeated
decreases-repeated l = l.count
