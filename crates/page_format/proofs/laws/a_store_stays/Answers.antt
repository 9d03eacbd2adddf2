use Rattle.page_format.proofs.Staying.{pages_kept, root_kept, store_kept}
use Rattle.page_format.proofs.laws.a_store_stays.Goals as goal

pub returns : goal.returns
returns c = record { root = root_kept; pages = pages_kept; store = store_kept }
