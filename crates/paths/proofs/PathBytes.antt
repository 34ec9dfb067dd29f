-- The bytes of a path: no byte beside what it says.
use Rattle.model.specs.Base.{Bytes}
use Rattle.model.specs.Limits.{max_depth}
use Rattle.layout.specs.Layout.{key_row, name_in, encode_name, CanonicalKeys}
use Rattle.layout.proofs.Canonical.{counted-encoded}
use Rattle.paths.specs.Layout.{path_in, encode_path, CanonicalPath}

pub keys-encoded : (s : Bytes) → CanonicalKeys max_depth s → CanonicalPath s
unfolding path_in encode_path
keys-encoded s h = counted-encoded (encode_name key_row) name_in key_row max_depth s h
