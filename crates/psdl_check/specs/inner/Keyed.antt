-- A schema of keys alone.
use Rattle.std.specs.Prelude.{List, []}
use Rattle.type_layout.specs.declared.key.Key.{Key}
use Rattle.type_layout.specs.declared.schema.Schema.{Schema}

abbrev pub keyed : List Key → Schema
keyed keys = record { homes = []; keys = keys; provided = [] }
