use Rattle.std.proofs.Common.{map}
use Rattle.psdl_syntax.specs.Seen.{seen}
use Rattle.psdl_tree.specs.Views.{definition_view}
use Rattle.psdl_syntax.proofs.WholeTexts.{is_found, is_given, is_first, fits_before, is_deep, is_level}
use Rattle.psdl_syntax.proofs.read.read.Goals as goal

pub returns-clause-found : goal.returns-clause-found
returns-clause-found c = is_found 32 (λ t. map definition_view t.definitions.items) (map seen c.args.tokens.now) c.all_of.result c.all_of.ensures

pub returns-clause-only : goal.returns-clause-only
returns-clause-only c = is_given 32 (λ t. map definition_view t.definitions.items) (map seen c.args.tokens.now) c.all_of.result c.all_of.ensures

pub returns-clause-unexpected : goal.returns-clause-unexpected
returns-clause-unexpected c = is_first 32 (λ t. map definition_view t.definitions.items) (map seen c.args.tokens.now) c.all_of.result c.all_of.ensures

pub returns-clause-level : goal.returns-clause-level
returns-clause-level c = fits_before 32 (λ t. map definition_view t.definitions.items) (map seen c.args.tokens.now) c.all_of.result c.all_of.ensures

pub returns-clause-deep : goal.returns-clause-deep
returns-clause-deep c = is_deep 32 (λ t. map definition_view t.definitions.items) (map seen c.args.tokens.now) c.all_of.result c.all_of.ensures

pub returns-clause-room : goal.returns-clause-room
returns-clause-room c = is_level 32 (λ t. map definition_view t.definitions.items) (map seen c.args.tokens.now) c.all_of.result c.all_of.ensures
