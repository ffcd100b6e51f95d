-- What a call writes over the front of memory that it was lent. Definitions only.
use Rattle.std.specs.Prelude.{List, ◌++◌, length, drop}

-- a list written over the front of what was there
unfoldable pub over : {A : Type 0} → List A → List A → List A
over xs before = xs ++ drop (length xs) before
