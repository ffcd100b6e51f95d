-- `surface::read` meets its contract: the index is one of those that `index` was asked for, which are 64, and the surface that of the words behind it.
use Rattle.std.proofs.Common.{◌≡◌, ℕ, Result, refl, rules}
use Rattle.text.specs.declared.faults.Fault.{Fault}
use Rattle.text.specs.declared.faults.Indices.{Indices}
use Rattle.text.specs.Line.{Left, index}
use Rattle.jobs.specs.Making.{read}
use Rattle.jobs.proofs.surface.read.Goals as goal

abbrev asked_for : (of : Indices) (l : Left) (r : Result ℕ Fault) → r ≡ index of l → Indices
asked_for of l r is = of

pub returns-in_err-i : goal.returns-in_err-i
unfolding read
returns-in_err-i c = (asked_for _ _ _ c.index.ensures.value, (refl, (refl, search rules)))

pub returns-in_err-read : goal.returns-in_err-read
unfolding read
returns-in_err-read c = (asked_for _ _ _ c.index.ensures.value, (refl, (refl, search rules)))

pub returns : goal.returns
unfolding read
returns c = (asked_for _ _ _ c.index.ensures.value, (refl, (refl, rw (← c.in_ok-i.ensures.value, ← c.in_ok-i.ensures.rest, ← c.in_ok-read.ensures, c.made.ensures) refl)))
