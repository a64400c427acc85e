-- The kind of the command that stands whole at an offset, if one does.
use Rattle.std.specs.Prelude.{List, ℕ, ◌+◌, leb, length, get_or, Option, None}
use Rattle.base_lists.specs.Pick.{pick}
use Rattle.strip_format.specs.declared.Kind.{Kind}
use Rattle.strip_format.specs.Format.{length_of}
use Rattle.strip_format.specs.Kinds.{kind_of}

unfoldable pub kind_at : List ℕ → ℕ → Option Kind
kind_at s at = pick (leb (at + length_of (get_or s at 0)) (length s)) (kind_of (get_or s at 0)) None

-- the byte of what stands whole, else 0: of a byte that no command has, which is one byte long, that byte
unfoldable pub whole_byte_at : List ℕ → ℕ → ℕ
whole_byte_at s at = pick (leb (at + length_of (get_or s at 0)) (length s)) (get_or s at 0) 0
