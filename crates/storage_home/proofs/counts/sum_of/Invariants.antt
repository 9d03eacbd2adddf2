use Rattle.std.proofs.Common.{◌≡◌, take}
use Rattle.storage_home.specs.Counts.{number_of}
use Rattle.storage_home.proofs.counts.sum_of.Given as goal

abbrev pub invariant-loop-home : goal.invariant-loop-home
invariant-loop-home l = l.sum ≡ number_of l.counts (take l.home-index l.homes)
