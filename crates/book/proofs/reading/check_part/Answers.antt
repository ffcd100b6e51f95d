-- `book::reading::check_part` meets its contract: the checks of its roughness as it was given and of its spectra are the part's (`part_checks`).
use Rattle.std.proofs.Common.{◌+◌, ◌*◌, drop, replicate}
use Rattle.std.proofs.lemmas.List.{length-replicate}
use Rattle.floats.specs.Float.{f1}
use Rattle.numbers.specs.Refusal.{number}
use Rattle.book.specs.Bytes.{doubles_in}
use Rattle.book.specs.Layout.{step_byte, samples_of}
use Rattle.book.proofs.Doubles.{length-doubles_in}
use Rattle.book.proofs.reading.Given.{entries_front, part_checks}
use Rattle.book.proofs.reading.check_part.Goals as goal

pub returns : goal.returns
unfolding number
returns c =
    let p = c.args.part.now in
    let n = samples_of (step_byte p) in
    let eta = entries_front (doubles_in n (drop 11 p)) n (length-doubles_in n (drop 11 p)) in
    let k = entries_front (doubles_in n (drop (11 + 8 * n) p)) n (length-doubles_in n (drop (11 + 8 * n) p)) in
    let air = entries_front (replicate n f1) n (length-replicate n f1) in
    let spectra =
    rw (c.of_code.ensures, c.new-spectra.ensures, c.spectrum.ensures, c.spectrum-2.ensures, c.ones.ensures, c.samples_of-n.ensures.0, eta, k, air) at c.check_spectra.ensures
    in
    rw (part_checks p, ← c.double_at.ensures, ← c.is_roughness_given.ensures, ← c.in_ok-refuse.ensures) spectra
