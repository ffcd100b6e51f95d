-- `Words::make_in` meets its contract: the spectra are those of the words.
use Rattle.jobs.proofs.surface.Words.make_in.Goals as goal

pub returns : goal.returns
returns c = rw (c.spectrum.ensures, c.spectrum-2.ensures, c.spectrum-3.ensures) at c.make_in.ensures
