-- `surface::kind` meets its contract: the word `metal` names metal.
use Rattle.std.proofs.Common.{◌≡◌, Some, refl, arith}
use Rattle.std.proofs.lemmas.Grind.{common_steps}
use Rattle.optics.specs.declared.microfacet.{Kind.TheVariants.Metal}
use Rattle.jobs.specs.Surface.{kind, kind_named}
use Rattle.jobs.proofs.surface.kind.Goals as goal

pub returns-in-metal-clause-value : goal.returns-in-metal-clause-value
unfolding kind
returns-in-metal-clause-value c =
    let named : kind_named c.in_ok-word.field-0.now ≡ Some Metal = grind (arith, common_steps) in
    rw (← c.in_ok-word.ensures.value, named) refl
