use Rattle.std.proofs.Common.{◌∙◌, ap, length, sym}
use Rattle.page_format.specs.Written.{entries_octets}
use Rattle.page_format.proofs.EntryOctets.{length_entries}
use Rattle.page_format.proofs.entries.Entries.used.Goals as goal

pub returns-clause-octets : goal.returns-clause-octets
returns-clause-octets c = c.self.invariant.1 ∙ sym (length_entries _) ∙ ap (λ es. length (entries_octets es)) c.self.view_is
