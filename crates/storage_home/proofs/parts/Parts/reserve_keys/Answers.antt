use Rattle.std.proofs.Common.{refl}
use Rattle.storage_home.proofs.Taking.{kept_same}
use Rattle.storage_home.proofs.parts.Parts.reserve_keys.Goals as goal

pub returns-clause-kept : goal.returns-clause-kept
returns-clause-kept c S M kept =
    kept_same S M c.args.self.now
    (record { alloc = c.args.self.now.alloc; families = c.args.self.now.families; rows = c.args.self.now.rows; total = c.args.self.now.total; objects = c.args.self.now.objects; extents = c.args.self.now.extents; counts = c.args.self.now.counts; keys = c.reserve_all.new.indexes })
    refl (λ s. refl) refl refl (λ h s. refl) refl refl c.reserve_all.ensures.found kept
