-- `optics::color::Color::all` meets its contract: by what the test gave of each sample. By hand, so that a sample that isn't tested shows two sides.
use Rattle.std.proofs.Common.{refl}
use Rattle.optics.proofs.color.Color.all.Goals as goal

pub returns : goal.returns
returns g c = (c.test.result, c.test.ensures, c.test-2.result, c.test-2.ensures, c.test-3.result, c.test-3.ensures, c.test-4.result, c.test-4.ensures, refl)
