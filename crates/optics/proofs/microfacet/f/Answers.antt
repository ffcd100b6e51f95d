-- `optics::microfacet::f` meets its contract: what is known of the spectra, handed on, changes nothing (`f_metal_from_lem`, `f_glass_from_lem`).
use Rattle.optics.specs.Known.{reading_on_glass}
use Rattle.optics.proofs.SharedTerms.{f_metal_from_lem, f_glass_from_lem}
use Rattle.optics.proofs.microfacet.f.Goals as goal

pub returns-in-Metal : goal.returns-in-Metal
returns-in-Metal c = rw (c.f_on_metal.ensures, c.step.ensures, c.in-Metal.is, ← c.spectra.view_is) (f_metal_from_lem _ _ _ _ _ _)

pub returns-in-Glass : goal.returns-in-Glass
unfolding reading_on_glass
returns-in-Glass c = rw (c.f_on_glass.ensures, c.on_glass.ensures, c.in-Glass.is) (f_glass_from_lem _ _ _ _ _ _)
