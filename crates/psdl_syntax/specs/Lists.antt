-- How a list goes on.
use Rattle.std.specs.Prelude.{Bool}
use Rattle.psdl_syntax.specs.declared.read.lists.Start.{Start}
use Rattle.psdl_syntax.specs.declared.read.lists.Start.TheVariants as starts
use Rattle.psdl_syntax.specs.Seen.{Seen}
use Rattle.psdl_syntax.specs.Productions.{is_mark, is_inside, is_any}

-- the token with which one more part begins
abbrev pub begins : Start → Seen → Bool
begins (starts.At mark) = is_mark mark
begins starts.Inside = is_inside
begins starts.Anywhere = is_any
