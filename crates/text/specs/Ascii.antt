-- The bytes of a text that is ASCII, for a header or a name that a definition writes out.
use Rattle.std.specs.Prelude.{List, ℕ}
use mathlib.Core.List as L
use Prim.Native.Char.{code}
use Prim.Native.String.{String, [], ◌∷◌}

abbrev pub ascii : String → List ℕ
ascii [] = L.[]
ascii (c ∷ s) = L.◌∷◌ (code c) (ascii s)
