use Rattle.cdr_codec.proofs.Nuls.{bad_nul_means}
use Rattle.cdr_codec.proofs.laws.bad_nul_has_the_first_wrong_octet.Goals as goal

pub returns : goal.returns
returns c = record { means = bad_nul_means }
