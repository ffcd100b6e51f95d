-- `optics::color::Color::zip_with` meets its contract: each call gives what `f` may return. By hand, so that a call at other samples shows two sides.
use Rattle.optics.proofs.color.Color.zip_with.Goals as goal

pub returns : goal.returns
returns g c = (c.f.ensures, c.f-2.ensures, c.f-3.ensures, c.f-4.ensures)
