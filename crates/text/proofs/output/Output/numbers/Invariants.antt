-- What is left of the numbers, put behind those that are written, makes all.
use Rattle.std.proofs.Common.{◌≡◌, drop}
use Rattle.text.specs.Output.{put, numbers_text}
use Rattle.text.proofs.output.Output.numbers.Given as goal

abbrev pub invariant-loop-x : goal.invariant-loop-x
invariant-loop-x l = put l.self (numbers_text (drop l.x-index l.values)) ≡ put l.initial.self (numbers_text l.values)
