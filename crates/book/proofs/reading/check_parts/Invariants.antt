-- What is left of the parts decides.
use Rattle.std.proofs.Common.{◌≡◌, map}
use Rattle.book.specs.Surfaces.{surface_in, check_read, check_all}
use Rattle.book.specs.Book.{surfaces_in}
use Rattle.book.proofs.reading.Rest.{rest}
use Rattle.book.proofs.reading.check_parts.Given as goal

abbrev pub invariant-loop-i : goal.invariant-loop-i
invariant-loop-i l = check_all check_read (map surface_in (rest l.b l.i)) ≡ check_all check_read (surfaces_in l.b)
