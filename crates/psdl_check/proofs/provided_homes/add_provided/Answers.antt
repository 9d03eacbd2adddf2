use Rattle.psdl_tree.specs.Views.{provision_view}
use Rattle.psdl_check.specs.inner.Texts.{text_in}
use Rattle.psdl_check.proofs.Meant.{given_below}
use Rattle.psdl_check.proofs.provided_homes.add_provided.Goals as goal

pub provider_of-requires : goal.provider_of-requires
provider_of-requires c = given_below (text_in c.args.text.now) c.args.catalog (provision_view c.args.provision.now).home c.args.meant.now.defined c.requires
